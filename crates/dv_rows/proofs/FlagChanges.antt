-- Changes of flags on a row's flags alone, and the modification sequence that they give.
use Rattle.std.proofs.Common.{◌≡◌, ℕ, Bool, true, false, cond, List, [], ◌∷◌, refl, ◌∙◌, ap}
use Rattle.std.specs.Prelude.{fold, ◌&&◌, nat_le}
use Rattle.dv_model.specs.declared.types.Change.{Change}
use Rattle.dv_model.specs.declared.types.Row.{Row}
use Rattle.dv_model.specs.Effects.{is_as_before, with_bits}
use Rattle.dv_validity.specs.Laws.{changed_flags, restamped}

-- the change has the UID
abbrev pub is_in_change : ℕ → Change → Bool
is_in_change uid change = nat_le change.first uid && nat_le uid change.last

-- the flags of a row with this UID behind a change
abbrev pub flags_by : ℕ → ℕ → Change → ℕ
flags_by uid flags change = cond (is_in_change uid change) (with_bits change.add change.remove flags) flags

one_by : (b : Bool) (row : Row) (flags : ℕ) → cond b (record row { flags = flags }) row ≡ record row { flags = cond b flags row.flags }
one_by true row flags = refl
one_by false row flags = refl

one : (row : Row) (change : Change) → changed_flags row change ≡ record row { flags = flags_by row.uid row.flags change }
one row change = one_by (is_in_change row.uid change) row (with_bits change.add change.remove row.flags)

pub all_in_turn : (row : Row) (changes : List Change) → fold changed_flags row changes ≡ record row { flags = fold (flags_by row.uid) row.flags changes }
all_in_turn row [] = refl
all_in_turn row (change ∷ changes) = ap (λ r. fold changed_flags r changes) (one row change) ∙ all_in_turn (record row { flags = flags_by row.uid row.flags change }) changes

-- ---- the modification sequence

uid_by : (b : Bool) (n : ℕ) (row : Row) → (cond b row (record row { modseq = n })).uid ≡ row.uid
uid_by true n row = refl
uid_by false n row = refl

pub restamped_uid : (n : ℕ) (old row : Row) → (restamped n old row).uid ≡ row.uid
restamped_uid n old row = uid_by (is_as_before row old) n row

-- the row behind changes of its flags
pub changed_uid : (n : ℕ) (changes : List Change) (row : Row) → (restamped n row (fold changed_flags row changes)).uid ≡ row.uid
changed_uid n changes row = restamped_uid n row (fold changed_flags row changes) ∙ ap (λ r. r.uid) (all_in_turn row changes)
