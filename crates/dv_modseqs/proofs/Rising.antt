-- Records in turn keep a row or give it a modification sequence above all before.
use Rattle.std.proofs.Common.{◌≡◌, ◌⊎◌, inl, inr, ℕ, ◌+◌, ◌%◌, ◌<◌, ◌≤◌, true, ◌&&◌, List, [], ◌∷◌, get_or, min, nat_eq, Some, refl, ◌∙◌, subst, arith}
use Rattle.std.specs.Prelude.{All, bytes_eq}
use Rattle.std.proofs.lemmas.Bool.{and_from, and_parts, eq-eqb, eqb-true}
use Rattle.std.proofs.lemmas.List.{get_or_default}
use Rattle.std.proofs.lemmas.List.Elements.{All-head, All-tail, All-weaker}
use Rattle.std.proofs.lemmas.Option.{option_and_then_some}
use Rattle.std.proofs.lemmas.Slice.Eq.{bytes_eq-Decides}
use Rattle.dv_model.specs.declared.types.Mailbox.{Mailbox}
use Rattle.dv_model.specs.declared.types.Record.{Record}
use Rattle.dv_model.specs.declared.types.Row.{Row}
use Rattle.dv_model.specs.Effects.{after_record, applied, is_as_before}
use Rattle.dv_model.specs.Mailboxes.{IsValid, last_modseq}
use Rattle.dv_validity.proofs.Comparisons.{as_before_itself}
use Rattle.dv_validity.proofs.Numbers.{record_rises, records_never_fall}
use Rattle.dv_validity.proofs.Records.{all_in_range_valid, by_some, in_range_valid}
use Rattle.dv_validity.specs.Laws.{IsInRange, IsStamped, NeverFalls, RisesTo}
use Rattle.dv_modseqs.specs.Laws.{IsKept, StaysOrRises}

-- ---- a row that is as before

-- its parts are the old one's
pub record IsLike (row old : Row) : Type 0 where
  pub uid : row.uid ≡ old.uid
  pub flags : row.flags % 32 ≡ old.flags % 32
  pub keywords : row.keywords ≡ old.keywords

pub like_of : (row old : Row) → is_as_before row old ≡ true → IsLike row old
like_of row old e =
    let parts = and_parts (nat_eq row.uid old.uid && nat_eq (row.flags % 32) (old.flags % 32)) (bytes_eq row.keywords old.keywords) e in
    let numbers = and_parts (nat_eq row.uid old.uid) (nat_eq (row.flags % 32) (old.flags % 32)) parts.0 in
    record { uid = eqb-true row.uid old.uid numbers.0; flags = eqb-true (row.flags % 32) (old.flags % 32) numbers.1; keywords = (bytes_eq-Decides row.keywords old.keywords).0 parts.1 }

of_like : (row old : Row) → IsLike row old → is_as_before row old ≡ true
of_like row old like =
    and_from (nat_eq row.uid old.uid && nat_eq (row.flags % 32) (old.flags % 32)) (bytes_eq row.keywords old.keywords)
    (and_from (nat_eq row.uid old.uid) (nat_eq (row.flags % 32) (old.flags % 32)) (eq-eqb row.uid old.uid like.uid) (eq-eqb (row.flags % 32) (old.flags % 32) like.flags))
    ((bytes_eq-Decides row.keywords old.keywords).1 like.keywords)

as_before_again : (row mid old : Row) → is_as_before row mid ≡ true → is_as_before mid old ≡ true → is_as_before row old ≡ true
as_before_again row mid old e f =
    let first = like_of row mid e in
    let second = like_of mid old f in
    of_like row old (record { uid = first.uid ∙ second.uid; flags = first.flags ∙ second.flags; keywords = first.keywords ∙ second.keywords })

kept_itself : (rows : List Row) → All (IsKept rows) rows
kept_itself rows k d h = (k, get_or rows k d, h, get_or_default rows k (get_or rows k d) d h, (as_before_itself (get_or rows k d), refl))

-- ---- one record, and then others

module _ (m k n : Mailbox) (one : RisesTo m k) (later : NeverFalls k n) (up : n.highest ≤ last_modseq) where
  stamped_stays : (row mid : Row) → is_as_before row mid ≡ true → row.modseq ≡ mid.modseq → IsStamped m.rows k.highest mid → StaysOrRises m n row
  stamped_stays row mid e same (inl (i, old, h, at, was)) = inl (i, old, h, at, (as_before_again row mid old e was.0, same ∙ was.1))
  stamped_stays row mid e same (inr is) = inr (by_end (cases_end m.highest))
    where
      cases_end : (h : ℕ) → (h + 1 ≤ last_modseq) ⊎ (last_modseq ≤ h)
      cases_end h = search arith

      by_end : (m.highest + 1 ≤ last_modseq) ⊎ (last_modseq ≤ m.highest) → (m.highest < row.modseq) ⊎ (n.highest ≡ last_modseq)
      by_end (inl below) = let next : k.highest ≡ min (m.highest + 1) last_modseq = one.highest in inl (omega arith)
      by_end (inr end) = let next : k.highest ≡ min (m.highest + 1) last_modseq = one.highest in let le : k.highest ≤ n.highest = later.highest in inr (omega arith)

  then_stays : (row : Row) → StaysOrRises k n row → StaysOrRises m n row
  then_stays row (inl (i, mid, h, at, was)) = stamped_stays row mid was.0 was.1 (subst (IsStamped m.rows k.highest) at (one.rows i mid h))
  then_stays row (inr (inl above)) = let next : k.highest ≡ min (m.highest + 1) last_modseq = one.highest in inr (by_end (cases_end m.highest))
    where
      cases_end : (h : ℕ) → (h + 1 ≤ last_modseq) ⊎ (last_modseq ≤ h)
      cases_end h = search arith

      by_end : (m.highest + 1 ≤ last_modseq) ⊎ (last_modseq ≤ m.highest) → (m.highest < row.modseq) ⊎ (n.highest ≡ last_modseq)
      by_end (inl below) = let next : k.highest ≡ min (m.highest + 1) last_modseq = one.highest in inl (omega arith)
      by_end (inr end) = let next : k.highest ≡ min (m.highest + 1) last_modseq = one.highest in let le : k.highest ≤ n.highest = later.highest in inr (omega arith)
  then_stays row (inr (inr end)) = inr (inr end)

pub rows_stay_or_rise : (m n : Mailbox) (rs : List Record) → IsValid m → All (λ r. IsInRange r.body) rs → applied m rs ≡ Some n → All (StaysOrRises m n) n.rows
rows_stay_or_rise m n [] valid range e = by_some (λ (x : Mailbox). All (StaysOrRises m x) x.rows) m n (All-weaker (IsKept m.rows) (StaysOrRises m m) (λ row kept. inl kept) m.rows (kept_itself m.rows)) e
rows_stay_or_rise m n (r ∷ rs) valid range e =
    option_and_then_some (λ k. applied k rs) (after_record m r) n e
    (λ k first rest.
    let one = record_rises m k r valid first in
    let here = All-head (λ (r : Record). IsInRange r.body) r rs range in
    let others = All-tail (λ (r : Record). IsInRange r.body) r rs range in
    let middle = in_range_valid m k r valid here first in
    let last = all_in_range_valid k n rs middle others rest in
    All-weaker (StaysOrRises k n) (StaysOrRises m n) (then_stays m k n one (records_never_fall k n rs middle rest) last.highest.1) n.rows (rows_stay_or_rise k n rs middle others rest))
