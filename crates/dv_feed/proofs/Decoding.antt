-- The records of a text, read one after another.
use Rattle.std.proofs.Common.{◌≡◌, ℕ, zero, suc, ◌+◌, ◌-◌, ◌<◌, ◌≤◌, List, [], ◌∷◌, ◌++◌, length, drop, Result, Ok, Err, refl, sym, ap, subst, ◌∙◌, append_assoc, arith, length-append}
use Rattle.std.specs.Prelude.{flat_map, All}
use Rattle.std.proofs.lemmas.List.{append-nil, drop_all, drop_at, drop-drop, length-drop}
use Rattle.std.proofs.lemmas.List.Concat.{flat_map-cons}
use Rattle.std.proofs.lemmas.List.Elements.{All-head, All-tail}
use Rattle.dv_model.specs.declared.types.Group.{Group}
use Rattle.dv_model.specs.declared.types.Record.{Record}
use Rattle.dv_model.specs.Spelling.{IsRecord, Spells, group_text, written}
use Rattle.dv_records.specs.declared.fault.DecodeEnd.{DecodeEnd}
use Rattle.dv_records.specs.declared.fault.DecodeEnd.TheVariants.{Fault}
use Rattle.dv_records.specs.declared.fault.RecordFault.{RecordFault}
use Rattle.dv_records.specs.Faults.{Answers}
use Rattle.dv_records.proofs.Readings.{spelling_long}
use Rattle.dv_feed.specs.Publishing.{IsGroupText}

-- of a group with this text these records are left, from a place on
pub record LeftOf (g : Group) (text : List ℕ) (made : List Record) (at : ℕ) : Type 0 where
  pub left : List Record
  pub all : All IsRecord left
  pub records : g.records ≡ made ++ left
  pub rest : drop at text ≡ flat_map written left

-- so it is of each group with this text
abbrev pub IsReadTo : List ℕ → List Record → ℕ → Type 0
IsReadTo text made at = (at ≤ length text) × ((g : Group) → All IsRecord g.records → group_text g ≡ text → LeftOf g text made at)

pub starts : (text : List ℕ) → IsReadTo text [] 0
starts text = (omega arith, λ g all is. record { left = g.records; all = all; records = refl; rest = sym is })

some_text : (r : Record) (rs : List Record) → IsRecord r → 8 ≤ length (flat_map written (r ∷ rs))
some_text r rs is = omega (arith, ap length (flat_map-cons written r rs), length-append (written r) (flat_map written rs), spelling_long r (written r) is.spells)

-- what is left where the text goes on
pub record NextOf (g : Group) (text : List ℕ) (made : List Record) (at : ℕ) : Type 0 where
  pub r : Record
  pub rs : List Record
  pub is : IsRecord r
  pub all : All IsRecord rs
  pub records : g.records ≡ made ++ r ∷ rs
  pub rest : drop at text ≡ written r ++ flat_map written rs

next_of : (g : Group) (text : List ℕ) (made : List Record) (at : ℕ) → at < length text → LeftOf g text made at → NextOf g text made at
next_of g text made at lt l = cases l.left l.all l.records l.rest
  where
    cases : (left : List Record) → All IsRecord left → g.records ≡ made ++ left → drop at text ≡ flat_map written left → NextOf g text made at
    cases [] all records rest = absurd (omega (arith, ap length rest, length-drop at text))
    cases (r ∷ rs) all records rest = record { r = r; rs = rs; is = All-head IsRecord r rs all; all = All-tail IsRecord r rs all; records = records; rest = rest ∙ flat_map-cons written r rs }

abbrev pub ReadsOnly : List ℕ → ℕ → Result (Record × ℕ) DecodeEnd → Type 0
ReadsOnly b at result = (r : Record) (text rest : List ℕ) → Spells r text → drop at b ≡ text ++ rest → Answers result (Ok (r, at + length text))

same_ok : (x y : Record × ℕ) → Answers (Ok x) (Ok y) → x ≡ y
same_ok x y e = cc e

-- a record more was read
pub reads_on : (text : List ℕ) (made : List Record) (at : ℕ) (r : Record) (next : ℕ) → at < length text → ReadsOnly text at (Ok (r, next)) → IsGroupText text → IsReadTo text made at
    → (at < next) × IsReadTo text (made ++ r ∷ []) next
reads_on text made at r next lt only some l =
    let step : (g : Group) (all : All IsRecord g.records) (is : group_text g ≡ text) → (at < next) × (next ≤ length text) × LeftOf g text (made ++ r ∷ []) next = (λ g all is.
    let n = next_of g text made at lt (l.1 g all is) in
    let same : (r, next) ≡ (n.r, at + length (written n.r)) = same_ok _ _ (only n.r (written n.r) (flat_map written n.rs) n.is.spells n.rest) in
    let records : r ≡ n.r = ap (λ (x : Record × ℕ). x.0) same in
    let behind : next ≡ at + length (written n.r) = ap (λ (x : Record × ℕ). x.1) same in
    let long = spelling_long n.r (written n.r) n.is.spells in
    let lengths : length text - at ≡ length (written n.r) + length (flat_map written n.rs) = sym (length-drop at text) ∙ ap length n.rest ∙ length-append (written n.r) (flat_map written n.rs) in (
      omega (arith, behind, long),
      omega (arith, behind, lengths),
      record {
        left = n.rs;
        all = n.all;
        records = n.records ∙ sym (append_assoc made (n.r ∷ []) n.rs) ∙ ap (λ (x : Record). (made ++ x ∷ []) ++ n.rs) (sym records);
        rest = ap (λ k. drop k text) (omega (arith, behind)) ∙ sym (drop-drop (length (written n.r)) at text) ∙ ap (λ t. drop (length (written n.r)) t) n.rest ∙ drop_at (written n.r) (flat_map written n.rs) (length (written n.r)) refl;
      },
    )) in
    let first = step some.group some.records some.is in (first.0, (first.1, λ g all is. (step g all is).2))

-- there is no fault in the text of records
pub no_fault : (text : List ℕ) (made : List Record) (at : ℕ) (f : RecordFault) → at < length text → ReadsOnly text at (Err (Fault f)) → IsGroupText text → IsReadTo text made at → ⊥
no_fault text made at f lt only some l =
    let n = next_of some.group text made at lt (l.1 some.group some.records some.is) in
    cc (only n.r (written n.r) (flat_map written n.rs) n.is.spells n.rest)

-- the end: no record is left
pub read_whole : (text : List ℕ) (made : List Record) (at : ℕ) → length text ≤ at → IsReadTo text made at → (g : Group) → All IsRecord g.records → group_text g ≡ text
    → record { records = made } ≡ g
read_whole text made at le l g all is = let left = l.1 g all is in cases left.left left.all left.records left.rest
  where
    cases : (left : List Record) → All IsRecord left → g.records ≡ made ++ left → drop at text ≡ flat_map written left → record { records = made } ≡ g
    cases [] all records rest = (λ i. record { records = (sym (append-nil made) ∙ sym records) i })
    cases (r ∷ rs) all records rest = absurd (omega (arith, ap length rest, length-drop at text, some_text r rs (All-head IsRecord r rs all)))
