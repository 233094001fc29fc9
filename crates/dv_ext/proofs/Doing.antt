-- What each call does to a mailbox.
use Rattle.std.proofs.Common.{◌≡◌, ℕ, ◌≤◌, Bool, true, false, List, Some, IsSomeAnd, length, map, slice_get, nat_eq, nat_lt, refl, ap, ◌∙◌, arith, if◌then◌else◌}
use Rattle.std.proofs.lemmas.Bool.Decides.{nat_tests}
use Rattle.dv_model.specs.declared.types.Extension.{Extension}
use Rattle.dv_model.specs.declared.types.Intro.{Intro}
use Rattle.dv_model.specs.declared.types.Row.{Row}
use Rattle.dv_model.specs.Effects.{fit, grown_extension, grown_to, reintroduced, with_item, with_row_parts}
use Rattle.dv_ext.specs.declared.change.PartsChange.{PartsChange}
use Rattle.dv_ext.specs.declared.change.PartsChange.TheVariants.{Same, Grown}
use Rattle.dv_ext.specs.Changes.{Does}
use Rattle.dv_ext.specs.Tables.{Table}
use Rattle.dv_ext.proofs.Kept.{some_and}
use Rattle.dv_ext.proofs.Parts.{rows_are_same}

both : {X : Type 0} (a b : Bool) (x y z : X) → a ≡ true → b ≡ true → (if a then (if b then x else y) else z) ≡ x
both true true x y z e f = refl
both true false x y z e f = absurd cc
both false b x y z e f = absurd cc

not_smaller : (a b : ℕ) → false ≡ nat_lt a b → b ≤ a
not_smaller a b e = grind (arith, nat_tests)

-- a known extension that grows
pub grown_does : (t : Table) (k : ℕ) (e : Extension) (intro : Intro) (b : Bool) → slice_get t.extensions k ≡ Some e → nat_eq e.reset_id intro.reset_id ≡ true → fit (with_item k (grown_extension intro) t.extensions) ≡ true → b ≡ nat_lt e.record_size intro.record_size → Does (λ m. reintroduced m k e intro) t (record { extensions = with_item k (grown_extension intro) t.extensions; current = Some (record { extension = k; size = intro.record_size }) }) (if b then Grown k intro.record_size else Same)
grown_does t k e intro true there same fits larger m valid = both (nat_eq e.reset_id intro.reset_id) (fit (with_item k (grown_extension intro) t.extensions)) _ _ _ same fits
grown_does t k e intro false there same fits larger m valid =
    let rows : map (with_row_parts (with_item k (grown_to intro.record_size))) m.rows ≡ m.rows =
    rows_are_same k intro.record_size m.rows t.extensions e (λ i d lt. (valid.rows i d lt).parts) there (not_smaller e.record_size intro.record_size larger) in
    both (nat_eq e.reset_id intro.reset_id) (fit (with_item k (grown_extension intro) t.extensions)) _ _ _ same fits
    ∙ ap (λ (rs : List Row). record m { rows = rs; extensions = with_item k (grown_extension intro) t.extensions; current = Some (record { extension = k; size = intro.record_size }) }) rows

pub reintroduced_does : (t old : Table) (k : ℕ) (e : Extension) (intro : Intro) (list : List Extension) (b : Bool) (change : PartsChange) → t ≡ old → slice_get t.extensions k ≡ Some e → nat_eq e.reset_id intro.reset_id ≡ true → fit (with_item k (grown_extension intro) t.extensions) ≡ true → b ≡ nat_lt e.record_size intro.record_size → list ≡ with_item k (grown_extension intro) t.extensions → change ≡ (if b then Grown k intro.record_size else Same) → IsSomeAnd (slice_get old.extensions k) (λ x. Does (λ m. reintroduced m k x intro) old (record { extensions = list; current = Some (record { extension = k; size = intro.record_size }) }) change)
reintroduced_does t old k e intro list b change is there same fits larger made answered =
    rw (← is, made, answered) (some_and (slice_get t.extensions k) (λ x. Does (λ m. reintroduced m k x intro) t (record { extensions = with_item k (grown_extension intro) t.extensions; current = Some (record { extension = k; size = intro.record_size }) }) (if b then Grown k intro.record_size else Same)) e there (grown_does t k e intro b there same fits larger))

-- a reset keeps the name and the sizes
pub reset_keeps : (b : Bool) (reset_id : ℕ) (e : Extension) (header : List ℕ) → length header ≡ length e.header → let y : Extension = (if b then record e { reset_id = reset_id; header = header } else record e { reset_id = reset_id }) in (y.name ≡ e.name) × (y.record_size ≡ e.record_size) × (length y.header ≡ length e.header)
reset_keeps true reset_id e header h = (refl, refl, h)
reset_keeps false reset_id e header h = (refl, refl, refl)
