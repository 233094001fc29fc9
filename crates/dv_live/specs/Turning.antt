-- UIDs that are found, with verdicts on some of them.
use Rattle.std.specs.Prelude.{◌≡◌, ℕ, ◌+◌, ◌≤◌, Bool, false, true, List, [], ◌∷◌, ◌++◌, fold, nat_eq, nat_lt, Option, None, Some, if◌then◌else◌}
use Rattle.std.specs.List.{list_any}
use Rattle.dv_model.specs.declared.types.Fresh.{Fresh}
use Rattle.dv_model.specs.declared.types.Key.{Key}
use Rattle.dv_model.specs.declared.types.Shown.{Shown}
use Rattle.dv_model.specs.Searches.{meets}
use Rattle.dv_search.specs.declared.sought.Sought.{Sought}
use Rattle.dv_search.specs.Sought.{IsReady}
use Rattle.dv_search.specs.Stars.{row_in}
use Rattle.dv_live.specs.declared.verdicts.Verdict.{Verdict}
use Rattle.dv_live.specs.Steadiness.{steady}

-- numbers that rise, from n on
abbrev pub RiseFrom : ℕ → List ℕ → Type 0
RiseFrom n [] = Unit {0}
RiseFrom n (u ∷ uids) = (n ≤ u) × RiseFrom (u + 1) uids

-- one of them is this one
abbrev pub has_uid : List ℕ → ℕ → Bool
has_uid uids uid = list_any (λ u. nat_eq u uid) uids

-- a row meets the key, where no `*` stands in it
abbrev pub is_met : Key → List (List ℕ) → Shown → Bool
is_met key names s = meets key (row_in names 0 s)

-- so does what is there of a UID; a row that has left doesn't
abbrev pub is_met_now : Key → List (List ℕ) → Option Shown → Bool
is_met_now key names None = false
is_met_now key names (Some s) = is_met key names s

-- the verdict on what is told of a UID
abbrev pub verdict_of : Key → List (List ℕ) → Fresh → Verdict
verdict_of key names f = record { uid = f.uid; met = is_met_now key names f.row }

-- the UID where it is found
abbrev pub where_met : Verdict → List ℕ
where_met v = if v.met then v.uid ∷ [] else []

-- the UID is the first
abbrev pub starts_with : List ℕ → ℕ → Bool
starts_with [] uid = false
starts_with (u ∷ uids) uid = nat_eq u uid

-- the UIDs without this one, where it may be the first
abbrev pub behind : ℕ → List ℕ → List ℕ
behind uid [] = []
behind uid (u ∷ uids) = if nat_eq u uid then uids else u ∷ uids

-- one verdict: its UID stands among rising ones just where it is met
abbrev pub with_verdict : List ℕ → Verdict → List ℕ
with_verdict [] v = where_met v
with_verdict (u ∷ uids) v = if nat_lt u v.uid then u ∷ with_verdict uids v else where_met v ++ behind v.uid (u ∷ uids)

-- the UIDs with all verdicts
abbrev pub turned : List ℕ → List Verdict → List ℕ
turned uids verdicts = fold with_verdict uids verdicts

-- what is kept beside a key: the key made ready, and UIDs that rise
pub record IsKept (key : Key) (sought : Sought) (uids : List ℕ) : Type 0 where
  pub steady : steady key ≡ true
  pub ready : IsReady key sought
  pub rising : RiseFrom 0 uids
