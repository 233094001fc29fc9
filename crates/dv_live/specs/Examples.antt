-- Worked examples of a kept search.
use Rattle.std.specs.Prelude.{◌≡◌, ℕ, List, [], ◌∷◌, ◌++◌, map, None, Some}
use Rattle.dv_model.specs.declared.types.Fresh.{Fresh}
use Rattle.dv_model.specs.declared.types.Key.TheVariants as key
use Rattle.dv_model.specs.declared.types.Shown.{Shown}
use Rattle.dv_model.specs.Fresh.{patched}
use Rattle.dv_live.specs.Keeping.{found_uids}

-- a message with these flags
abbrev pub message : ℕ → ℕ → Shown
message uid flags = record { uid = uid; flags = flags; keywords = []; modseq = uid }

-- it has these flags now
abbrev pub flagged : ℕ → ℕ → Fresh
flagged flags uid = record { uid = uid; row = Some (message uid flags) }

-- it has left
abbrev pub left : ℕ → Fresh
left uid = record { uid = uid; row = None }

-- SEEN: the message isn't found when it comes, and is when it is seen
abbrev pub SeenIsFound : Type 0
SeenIsFound =
    (found_uids (key.Has 8) [] (patched [] (flagged 0 1 ∷ [])) ≡ [])
    × (found_uids (key.Has 8) [] (patched (message 1 0 ∷ []) (flagged 8 1 ∷ [])) ≡ 1 ∷ [])

-- UIDs of nine messages
abbrev pub kept_uids : List ℕ
kept_uids = 1 ∷ 2 ∷ 3 ∷ 4 ∷ []

abbrev pub deleted_uids : List ℕ
deleted_uids = 5 ∷ 6 ∷ 7 ∷ 8 ∷ 9 ∷ []

abbrev pub nine : List Shown
nine = map (λ uid. message uid 0) (kept_uids ++ deleted_uids)

-- with the flag \Deleted on the last five
abbrev pub marked : List Shown
marked = patched nine (map (flagged 4) deleted_uids)

-- NOT DELETED: behind the STORE and behind the EXPUNGE the first four are found
abbrev pub DeletedLeave : Type 0
DeletedLeave =
    (found_uids (key.Not (key.Has 4)) [] nine ≡ kept_uids ++ deleted_uids)
    × (found_uids (key.Not (key.Has 4)) [] marked ≡ kept_uids)
    × (found_uids (key.Not (key.Has 4)) [] (patched marked (map left deleted_uids)) ≡ kept_uids)
