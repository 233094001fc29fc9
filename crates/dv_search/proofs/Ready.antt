-- A key whose sets are ready is met by the same messages as the key that it was made of.
use Rattle.std.proofs.Common.{◌≡◌, ℕ, zero, suc, Bool, false, ◌||◌, ◌&&◌, not, List, [], ◌∷◌, ◌++◌, map, Option, Some, None, refl, sym, ap, subst, ◌∙◌, arith}
use Rattle.std.specs.Prelude.{All, flat_map, if◌then◌else◌}
use Rattle.std.specs.List.{AllZip, list_all, list_any}
use Rattle.std.proofs.lemmas.List.Elements.{All-append, All-nil}
use Rattle.std.proofs.lemmas.List.Folds.{list_all-map}
use Rattle.dv_model.specs.declared.types.Key.{Key, fold-roll-Key}
use Rattle.dv_model.specs.declared.types.Key.TheOpen.{Key-F}
use Rattle.dv_model.specs.declared.types.Key.TheVariants as key
use Rattle.dv_model.specs.declared.types.Key.TheVariants.{rolls-All, rolls-Has, rolls-Lacks, rolls-Keyword, rolls-Uid, rolls-Larger, rolls-Header, rolls-Not, rolls-Or, rolls-And}
use Rattle.dv_model.specs.declared.types.Span.{Span}
use Rattle.dv_model.specs.Searches.{Candidate, meets, needs_mail}
use Rattle.dv_model.specs.Sets.{is_in_set}
use Rattle.dv_model.proofs.Searching.{meets-Uid, meets-Not, meets-Or, meets-And, needs_mail-Uid, needs_mail-Not, needs_mail-Or, needs_mail-And}
use Rattle.dv_sets.specs.Joined.{AreApart}
use Rattle.dv_validity.proofs.Texts.{all_left, all_right}
use Rattle.dv_search.specs.declared.facts.MailFacts.{MailFacts}
use Rattle.dv_search.specs.Facts.{AreKnown, asks, is_found}
use Rattle.dv_search.specs.Prepared.{HasApart, IsPrepared, sets_of, sets_step, with_largest}
use Rattle.dv_search.proofs.Asking.{any_of_made, asks-Not, asks-Or, asks-And, asks-Uid, known_less}

-- ---- the sets of a key

pub sets-All : sets_of key.All ≡ []
sets-All = ap sets_of (sym rolls-All) ∙ fold-roll-Key (List (List Span)) sets_step Key-F.All

pub sets-Has : (bits : ℕ) → sets_of (key.Has bits) ≡ []
sets-Has bits = ap sets_of (sym (rolls-Has bits)) ∙ fold-roll-Key (List (List Span)) sets_step (Key-F.Has bits)

pub sets-Lacks : (bits : ℕ) → sets_of (key.Lacks bits) ≡ []
sets-Lacks bits = ap sets_of (sym (rolls-Lacks bits)) ∙ fold-roll-Key (List (List Span)) sets_step (Key-F.Lacks bits)

pub sets-Keyword : (name : List ℕ) → sets_of (key.Keyword name) ≡ []
sets-Keyword name = ap sets_of (sym (rolls-Keyword name)) ∙ fold-roll-Key (List (List Span)) sets_step (Key-F.Keyword name)

pub sets-Uid : (set : List Span) → sets_of (key.Uid set) ≡ set ∷ []
sets-Uid set = ap sets_of (sym (rolls-Uid set)) ∙ fold-roll-Key (List (List Span)) sets_step (Key-F.Uid set)

pub sets-Larger : (n : ℕ) → sets_of (key.Larger n) ≡ []
sets-Larger n = ap sets_of (sym (rolls-Larger n)) ∙ fold-roll-Key (List (List Span)) sets_step (Key-F.Larger n)

pub sets-Header : (name text : List ℕ) → sets_of (key.Header name text) ≡ []
sets-Header name text = ap sets_of (sym (rolls-Header name text)) ∙ fold-roll-Key (List (List Span)) sets_step (Key-F.Header name text)

sets-Not : (inside : Key) → sets_of (key.Not inside) ≡ sets_of inside
sets-Not inside = ap sets_of (sym (rolls-Not inside)) ∙ fold-roll-Key (List (List Span)) sets_step (Key-F.Not inside)

sets-Or : (one other : Key) → sets_of (key.Or one other) ≡ sets_of one ++ sets_of other
sets-Or one other = ap sets_of (sym (rolls-Or one other)) ∙ fold-roll-Key (List (List Span)) sets_step (Key-F.Or one other)

sets-And : (keys : List Key) → sets_of (key.And keys) ≡ flat_map (λ s. s) (map sets_of keys)
sets-And keys = ap sets_of (sym (rolls-And keys)) ∙ fold-roll-Key (List (List Span)) sets_step (Key-F.And keys)

-- ---- sets that are ready, in the keys inside a key

pub apart-Uid : (set : List Span) → HasApart (key.Uid set) → AreApart set
apart-Uid set apart = subst (All AreApart) (sets-Uid set) apart 0 [] (omega arith)

pub apart-Not : (inside : Key) → HasApart (key.Not inside) → HasApart inside
apart-Not inside apart = subst (All AreApart) (sets-Not inside) apart

pub apart-first : (one other : Key) → HasApart (key.Or one other) → HasApart one
apart-first one other apart = all_left AreApart (sets_of one) (sets_of other) (subst (All AreApart) (sets-Or one other) apart)

pub apart-second : (one other : Key) → HasApart (key.Or one other) → HasApart other
apart-second one other apart = all_right AreApart (sets_of one) (sets_of other) (subst (All AreApart) (sets-Or one other) apart)

all_apart : (keys : List Key) → All AreApart (flat_map (λ s. s) (map sets_of keys)) → All HasApart keys
all_apart [] all i d less = absurd (omega (arith, less))
all_apart (k ∷ keys) all zero d less = all_left AreApart (sets_of k) (flat_map (λ s. s) (map sets_of keys)) all
all_apart (k ∷ keys) all (suc i) d less = all_apart keys (all_right AreApart (sets_of k) (flat_map (λ s. s) (map sets_of keys)) all) i d (omega (arith, less))

pub apart-And : (keys : List Key) → HasApart (key.And keys) → All HasApart keys
apart-And keys apart = all_apart keys (subst (All AreApart) (sets-And keys) apart)

-- ---- keys made ready

module _ (star : ℕ) where
  -- a copy of a key in which no set stands
  pub prepared-same : (k : Key) → ((c : Candidate) (n : ℕ) → meets k (with_largest n c) ≡ meets k c) → sets_of k ≡ [] → IsPrepared star k k
  prepared-same k same none = record {
    meets = λ c n e. same c n;
    reads = refl;
    asks = λ name. refl;
    apart = subst (All AreApart) (sym none) (All-nil AreApart);
  }

  pub prepared-Uid : (set made : List Span) → AreApart made → ((other n : ℕ) → is_in_set other made n ≡ is_in_set star set n) → IsPrepared star (key.Uid set) (key.Uid made)
  prepared-Uid set made apart same = record {
    meets = λ c n e. meets-Uid (with_largest n c) made ∙ same n c.uid ∙ ap (λ k. is_in_set k set c.uid) (sym e) ∙ sym (meets-Uid c set);
    reads = needs_mail-Uid made ∙ sym (needs_mail-Uid set);
    asks = λ name. asks-Uid made name ∙ sym (asks-Uid set name);
    apart = subst (All AreApart) (sym (sets-Uid made)) (one apart);
  }
    where
      one : AreApart made → All AreApart (made ∷ [])
      one apart zero d less = apart
      one apart (suc i) d less = absurd (omega (arith, less))

  pub prepared-Not : (inside made : Key) → IsPrepared star inside made → IsPrepared star (key.Not inside) (key.Not made)
  prepared-Not inside made is = record {
    meets = λ c n e. meets-Not (with_largest n c) made ∙ ap not (is.meets c n e) ∙ sym (meets-Not c inside);
    reads = needs_mail-Not made ∙ is.reads ∙ sym (needs_mail-Not inside);
    asks = λ name. asks-Not made name ∙ is.asks name ∙ sym (asks-Not inside name);
    apart = subst (All AreApart) (sym (sets-Not made)) is.apart;
  }

  pub prepared-Or : (one other made more : Key) → IsPrepared star one made → IsPrepared star other more → IsPrepared star (key.Or one other) (key.Or made more)
  prepared-Or one other made more is too = record {
    meets = λ c n e. meets-Or (with_largest n c) made more ∙ both (is.meets c n e) (too.meets c n e) ∙ sym (meets-Or c one other);
    reads = needs_mail-Or made more ∙ both is.reads too.reads ∙ sym (needs_mail-Or one other);
    asks = λ name. asks-Or made more name ∙ both (is.asks name) (too.asks name) ∙ sym (asks-Or one other name);
    apart = subst (All AreApart) (sym (sets-Or made more)) (All-append AreApart (sets_of made) (sets_of more) is.apart too.apart);
  }
    where
      both : {a b c d : Bool} → a ≡ b → c ≡ d → (a || c) ≡ (b || d)
      both {a} {b} {c} {d} e f = ap (λ (x : Bool). x || c) e ∙ ap (λ (x : Bool). b || x) f

  any_same : (f : Key → Bool) (keys made : List Key) → ((k m : Key) → IsPrepared star k m → f m ≡ f k) → AllZip (IsPrepared star) keys made → list_any f made ≡ list_any f keys
  any_same f [] [] same zip = refl
  any_same f [] (m ∷ made) same zip = absurd zip
  any_same f (k ∷ keys) [] same zip = absurd zip
  any_same f (k ∷ keys) (m ∷ made) same zip = ap (λ (b : Bool). b || list_any f made) (same k m zip.0) ∙ ap (λ (b : Bool). f k || b) (any_same f keys made same zip.1)

  all_met : (c : Candidate) (n : ℕ) → c.largest_uid ≡ star → (keys made : List Key) → AllZip (IsPrepared star) keys made
      → list_all (λ k. meets k (with_largest n c)) made ≡ list_all (λ k. meets k c) keys
  all_met c n e [] [] zip = refl
  all_met c n e [] (m ∷ made) zip = absurd zip
  all_met c n e (k ∷ keys) [] zip = absurd zip
  all_met c n e (k ∷ keys) (m ∷ made) zip =
      ap (λ (b : Bool). b && list_all (λ k. meets k (with_largest n c)) made) (zip.0.meets c n e) ∙ ap (λ (b : Bool). meets k c && b) (all_met c n e keys made zip.1)

  sets_apart : (keys made : List Key) → AllZip (IsPrepared star) keys made → All AreApart (flat_map (λ s. s) (map sets_of made))
  sets_apart [] [] zip = All-nil AreApart
  sets_apart [] (m ∷ made) zip = absurd zip
  sets_apart (k ∷ keys) [] zip = absurd zip
  sets_apart (k ∷ keys) (m ∷ made) zip = All-append AreApart (sets_of m) (flat_map (λ s. s) (map sets_of made)) zip.0.apart (sets_apart keys made zip.1)

  pub prepared-And : (keys made : List Key) → AllZip (IsPrepared star) keys made → IsPrepared star (key.And keys) (key.And made)
  prepared-And keys made zip = record {
    meets = λ c n e.
        meets-And (with_largest n c) made ∙ list_all-map (λ met. met (with_largest n c)) meets made ∙ all_met c n e keys made zip ∙ sym (list_all-map (λ met. met c) meets keys) ∙ sym (meets-And c keys);
    reads = needs_mail-And made ∙ any_of_made (λ b. b) needs_mail made ∙ any_same needs_mail keys made (λ k m is. is.reads) zip ∙ sym (any_of_made (λ b. b) needs_mail keys) ∙ sym (needs_mail-And keys);
    asks = λ name.
        asks-And made name ∙ any_of_made (λ (a : List ℕ → Bool). a name) asks made ∙ any_same (λ k. asks k name) keys made (λ k m is. is.asks name) zip ∙ sym (any_of_made (λ (a : List ℕ → Bool). a name) asks keys) ∙ sym (asks-And keys name);
    apart = subst (All AreApart) (sym (sets-And made)) (sets_apart keys made zip);
  }

  -- ---- what is found by it

  pub known_prepared : (k made : Key) → IsPrepared star k made → (message : Option (List ℕ)) (facts : Option MailFacts) → AreKnown k message facts → AreKnown made message facts
  known_prepared k made is message facts = known_less message facts k made (λ e. sym is.reads ∙ e) (λ name e. sym (is.asks name) ∙ e)

  pub found_prepared : (k made : Key) → IsPrepared star k made → (n : ℕ) (candidate : List ℕ → Candidate) → ((text : List ℕ) → (candidate text).largest_uid ≡ star)
      → (message : Option (List ℕ)) → is_found made (λ text. with_largest n (candidate text)) message ≡ is_found k candidate message
  found_prepared k made is n candidate largest None =
      ap (λ (b : Bool). if b then false else meets made (with_largest n (candidate []))) is.reads
      ∙ ap (λ (m : Bool). if needs_mail k then false else m) (is.meets (candidate []) n (largest []))
  found_prepared k made is n candidate largest (Some text) =
      ap (λ (b : Bool). if b then meets made (with_largest n (candidate text)) else meets made (with_largest n (candidate []))) is.reads
      ∙ ap (λ (m : Bool). if needs_mail k then m else meets made (with_largest n (candidate []))) (is.meets (candidate text) n (largest text))
      ∙ ap (λ (m : Bool). if needs_mail k then meets k (candidate text) else m) (is.meets (candidate []) n (largest []))
