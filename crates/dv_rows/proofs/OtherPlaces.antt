-- A row behind a change of its keywords, with the modification sequence that it then has.
use Rattle.std.proofs.Common.{◌≡◌, ◌≢◌, ℕ, ◌%◌, Bool, true, false, cond, ◌&&◌, List, refl, sym, ◌∙◌, ap}
use Rattle.std.specs.Prelude.{bytes_eq, nat_eq}
use Rattle.std.proofs.lemmas.Bool.{and_right}
use Rattle.std.proofs.lemmas.Slice.Eq.{bytes_eq-Decides}
use Rattle.dv_model.specs.declared.types.Pair.{Pair}
use Rattle.dv_model.specs.declared.types.Row.{Row}
use Rattle.dv_model.specs.Effects.{is_as_before, is_in_pairs}
use Rattle.dv_validity.proofs.Comparisons.{as_before_itself}
use Rattle.dv_validity.specs.Laws.{restamped}
use Rattle.dv_rows.proofs.FlagChanges.{restamped_uid}
use Rattle.dv_rows.specs.Changed.{changed_keywords}

pub itself : (n : ℕ) (row : Row) → restamped n row row ≡ row
itself n row = ap (λ b. cond b row (record row { modseq = n })) (as_before_itself row)

differs_by : (b : Bool) (ks ls : List ℕ) → ks ≢ ls → bytes_eq ks ls ≡ b → b ≡ false
differs_by false ks ls other e = refl
differs_by true ks ls other e = absurd (other ((bytes_eq-Decides ks ls).0 e))

-- other keywords give the row the number
pub others : (n : ℕ) (row : Row) (places : List ℕ) → places ≢ row.keywords → record row { keywords = places; modseq = n } ≡ restamped n row (record row { keywords = places })
others n row places other =
    sym (ap (λ b. cond b (record row { keywords = places }) (record row { keywords = places; modseq = n }))
    (and_right (nat_eq row.uid row.uid && nat_eq (row.flags % 32) (row.flags % 32)) (bytes_eq places row.keywords) (differs_by (bytes_eq places row.keywords) places row.keywords other refl)))

-- the same ones don't
pub same_places : (n : ℕ) (row : Row) (places : List ℕ) → places ≡ row.keywords → row ≡ restamped n row (record row { keywords = places })
same_places n row places same = sym (itself n row) ∙ sym (ap (λ l. restamped n row (record row { keywords = l })) same)

-- ---- by the ranges

changed_in : (pairs : List Pair) (change : List ℕ → List ℕ) (row : Row) → is_in_pairs pairs row.uid ≡ true → changed_keywords pairs change row ≡ record row { keywords = change row.keywords }
changed_in pairs change row is = ap (λ b. cond b (record row { keywords = change row.keywords }) row) is

changed_out : (pairs : List Pair) (change : List ℕ → List ℕ) (row : Row) → is_in_pairs pairs row.uid ≡ false → changed_keywords pairs change row ≡ row
changed_out pairs change row is = ap (λ b. cond b (record row { keywords = change row.keywords }) row) is

pub stays_out : (pairs : List Pair) (change : List ℕ → List ℕ) (n : ℕ) (row : Row) → is_in_pairs pairs row.uid ≡ false → row ≡ restamped n row (changed_keywords pairs change row)
stays_out pairs change n row is = sym (itself n row) ∙ sym (ap (restamped n row) (changed_out pairs change row is))

pub stays_same : (pairs : List Pair) (change : List ℕ → List ℕ) (n : ℕ) (row : Row) (places : List ℕ) → is_in_pairs pairs row.uid ≡ true → places ≡ change row.keywords → places ≡ row.keywords → row ≡ restamped n row (changed_keywords pairs change row)
stays_same pairs change n row places is made same = same_places n row (change row.keywords) (sym made ∙ same) ∙ sym (ap (restamped n row) (changed_in pairs change row is))

pub gets_others : (pairs : List Pair) (change : List ℕ → List ℕ) (n : ℕ) (row : Row) (places : List ℕ) → is_in_pairs pairs row.uid ≡ true → places ≡ change row.keywords → places ≢ row.keywords → record row { keywords = places; modseq = n } ≡ restamped n row (changed_keywords pairs change row)
gets_others pairs change n row places is made other =
    others n row places other ∙ ap (λ l. restamped n row (record row { keywords = l })) made ∙ sym (ap (restamped n row) (changed_in pairs change row is))

-- ---- the UID and the flags stay

uid_by : (b : Bool) (row : Row) (places : List ℕ) → (cond b (record row { keywords = places }) row).uid ≡ row.uid
uid_by true row places = refl
uid_by false row places = refl

pub same_uid : (pairs : List Pair) (change : List ℕ → List ℕ) (n : ℕ) (row : Row) → (restamped n row (changed_keywords pairs change row)).uid ≡ row.uid
same_uid pairs change n row = restamped_uid n row (changed_keywords pairs change row) ∙ uid_by (is_in_pairs pairs row.uid) row (change row.keywords)

flags_by : (b : Bool) (row : Row) (places : List ℕ) → (cond b (record row { keywords = places }) row).flags ≡ row.flags
flags_by true row places = refl
flags_by false row places = refl

stamped_by : (b : Bool) (n : ℕ) (row : Row) → (cond b row (record row { modseq = n })).flags ≡ row.flags
stamped_by true n row = refl
stamped_by false n row = refl

pub same_flags : (pairs : List Pair) (change : List ℕ → List ℕ) (n : ℕ) (row : Row) → (restamped n row (changed_keywords pairs change row)).flags ≡ row.flags
same_flags pairs change n row =
    stamped_by (is_as_before (changed_keywords pairs change row) row) n (changed_keywords pairs change row) ∙ flags_by (is_in_pairs pairs row.uid) row (change row.keywords)
