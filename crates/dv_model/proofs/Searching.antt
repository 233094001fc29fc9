-- What a search key finds, and whether it reads messages: one equation for each kind of key.
use Rattle.std.proofs.Common.{◌≡◌, ℕ, Bool, true, false, not, ◌||◌, List, map, sym, ap, ◌∙◌}
use Rattle.std.specs.Prelude.{nat_eq, nat_lt, bytes_eq, bit_and}
use Rattle.std.specs.List.{list_any, list_all}
use Rattle.dv_model.specs.declared.types.Key.{Key, fold-roll-Key}
use Rattle.dv_model.specs.declared.types.Key.TheOpen.{Key-F}
use Rattle.dv_model.specs.declared.types.Key.TheVariants.{All, Has, Lacks, Keyword, Uid, Larger, Header, Not, Or, And, rolls-All, rolls-Has, rolls-Lacks, rolls-Keyword, rolls-Uid, rolls-Larger, rolls-Header, rolls-Not, rolls-Or, rolls-And}
use Rattle.dv_model.specs.declared.types.Span.{Span}
use Rattle.dv_model.specs.Fields.{field_of, virtual_size}
use Rattle.dv_model.specs.Searches.{Candidate, key_step, reads_step, meets, needs_mail, value_contains}
use Rattle.dv_model.specs.Sets.{is_in_set}

-- ---- what it finds

module _ (c : Candidate) where
  pub meets-All : meets All c ≡ true
  meets-All = ap (λ (k : Key). meets k c) (sym rolls-All) ∙ ap (λ (f : Candidate → Bool). f c) (fold-roll-Key (Candidate → Bool) key_step Key-F.All)

  pub meets-Has : (bits : ℕ) → meets (Has bits) c ≡ nat_eq (bit_and c.flags bits) bits
  meets-Has bits = ap (λ (k : Key). meets k c) (sym (rolls-Has bits)) ∙ ap (λ (f : Candidate → Bool). f c) (fold-roll-Key (Candidate → Bool) key_step (Key-F.Has bits))

  pub meets-Lacks : (bits : ℕ) → meets (Lacks bits) c ≡ nat_eq (bit_and c.flags bits) 0
  meets-Lacks bits = ap (λ (k : Key). meets k c) (sym (rolls-Lacks bits)) ∙ ap (λ (f : Candidate → Bool). f c) (fold-roll-Key (Candidate → Bool) key_step (Key-F.Lacks bits))

  pub meets-Keyword : (name : List ℕ) → meets (Keyword name) c ≡ list_any (bytes_eq name) c.keywords
  meets-Keyword name = ap (λ (k : Key). meets k c) (sym (rolls-Keyword name)) ∙ ap (λ (f : Candidate → Bool). f c) (fold-roll-Key (Candidate → Bool) key_step (Key-F.Keyword name))

  pub meets-Uid : (set : List Span) → meets (Uid set) c ≡ is_in_set c.largest_uid set c.uid
  meets-Uid set = ap (λ (k : Key). meets k c) (sym (rolls-Uid set)) ∙ ap (λ (f : Candidate → Bool). f c) (fold-roll-Key (Candidate → Bool) key_step (Key-F.Uid set))

  pub meets-Larger : (n : ℕ) → meets (Larger n) c ≡ nat_lt n (virtual_size c.message)
  meets-Larger n = ap (λ (k : Key). meets k c) (sym (rolls-Larger n)) ∙ ap (λ (f : Candidate → Bool). f c) (fold-roll-Key (Candidate → Bool) key_step (Key-F.Larger n))

  pub meets-Header : (name text : List ℕ) → meets (Header name text) c ≡ value_contains (field_of c.message name) text
  meets-Header name text = ap (λ (k : Key). meets k c) (sym (rolls-Header name text)) ∙ ap (λ (f : Candidate → Bool). f c) (fold-roll-Key (Candidate → Bool) key_step (Key-F.Header name text))

  pub meets-Not : (key : Key) → meets (Not key) c ≡ not (meets key c)
  meets-Not key = ap (λ (k : Key). meets k c) (sym (rolls-Not key)) ∙ ap (λ (f : Candidate → Bool). f c) (fold-roll-Key (Candidate → Bool) key_step (Key-F.Not key))

  pub meets-Or : (one other : Key) → meets (Or one other) c ≡ (meets one c || meets other c)
  meets-Or one other = ap (λ (k : Key). meets k c) (sym (rolls-Or one other)) ∙ ap (λ (f : Candidate → Bool). f c) (fold-roll-Key (Candidate → Bool) key_step (Key-F.Or one other))

  pub meets-And : (keys : List Key) → meets (And keys) c ≡ list_all (λ meets_key. meets_key c) (map meets keys)
  meets-And keys = ap (λ (k : Key). meets k c) (sym (rolls-And keys)) ∙ ap (λ (f : Candidate → Bool). f c) (fold-roll-Key (Candidate → Bool) key_step (Key-F.And keys))

-- ---- whether it reads messages

pub needs_mail-All : needs_mail All ≡ false
needs_mail-All = ap needs_mail (sym rolls-All) ∙ fold-roll-Key Bool reads_step Key-F.All

pub needs_mail-Has : (bits : ℕ) → needs_mail (Has bits) ≡ false
needs_mail-Has bits = ap needs_mail (sym (rolls-Has bits)) ∙ fold-roll-Key Bool reads_step (Key-F.Has bits)

pub needs_mail-Lacks : (bits : ℕ) → needs_mail (Lacks bits) ≡ false
needs_mail-Lacks bits = ap needs_mail (sym (rolls-Lacks bits)) ∙ fold-roll-Key Bool reads_step (Key-F.Lacks bits)

pub needs_mail-Keyword : (name : List ℕ) → needs_mail (Keyword name) ≡ false
needs_mail-Keyword name = ap needs_mail (sym (rolls-Keyword name)) ∙ fold-roll-Key Bool reads_step (Key-F.Keyword name)

pub needs_mail-Uid : (set : List Span) → needs_mail (Uid set) ≡ false
needs_mail-Uid set = ap needs_mail (sym (rolls-Uid set)) ∙ fold-roll-Key Bool reads_step (Key-F.Uid set)

pub needs_mail-Larger : (n : ℕ) → needs_mail (Larger n) ≡ true
needs_mail-Larger n = ap needs_mail (sym (rolls-Larger n)) ∙ fold-roll-Key Bool reads_step (Key-F.Larger n)

pub needs_mail-Header : (name text : List ℕ) → needs_mail (Header name text) ≡ true
needs_mail-Header name text = ap needs_mail (sym (rolls-Header name text)) ∙ fold-roll-Key Bool reads_step (Key-F.Header name text)

pub needs_mail-Not : (key : Key) → needs_mail (Not key) ≡ needs_mail key
needs_mail-Not key = ap needs_mail (sym (rolls-Not key)) ∙ fold-roll-Key Bool reads_step (Key-F.Not key)

pub needs_mail-Or : (one other : Key) → needs_mail (Or one other) ≡ (needs_mail one || needs_mail other)
needs_mail-Or one other = ap needs_mail (sym (rolls-Or one other)) ∙ fold-roll-Key Bool reads_step (Key-F.Or one other)

pub needs_mail-And : (keys : List Key) → needs_mail (And keys) ≡ list_any (λ reads. reads) (map needs_mail keys)
needs_mail-And keys = ap needs_mail (sym (rolls-And keys)) ∙ fold-roll-Key Bool reads_step (Key-F.And keys)
