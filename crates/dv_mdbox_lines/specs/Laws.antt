-- What holds of a storage behind any calls.
use Rattle.std.specs.Prelude.{◌≡◌, ℕ, ◌+◌, ◌<◌, ◌≤◌, Bool, true, false, ◌&&◌, List, [], ◌∷◌, ◌++◌, count_by, Option, Some, None, nat_eq, ⊤}
use Rattle.dv_maps.specs.Storages.{Storage}
use Rattle.dv_mdbox_lines.specs.declared.answers.Answer.{Answer}
use Rattle.dv_mdbox_lines.specs.declared.answers.Answer.TheVariants as answer
use Rattle.dv_mdbox_lines.specs.Scripts.{Call, Copy, Drop, Get, Save}
use Rattle.dv_mdbox_lines.specs.Playing.{MayAnswer, MayGo, Tried, behind, done_id, references}

-- a storage that is made in a new folder
abbrev pub new_storage : Storage
new_storage = record { next = 1; items = [] }

-- ---- references

-- a call that is done with this id makes a reference to it
abbrev pub makes : Call → Bool
makes (Save message) = true
makes (Copy id) = true
makes call = false

-- or drops one
abbrev pub drops : Call → Bool
drops (Drop id) = true
drops call = false

-- a call was done with this id
abbrev pub is_done_with : ℕ → Option ℕ → Bool
is_done_with id None = false
is_done_with id (Some n) = nat_eq n id

-- it made a reference to the id
abbrev pub made : ℕ → Tried → Bool
made id tried = makes tried.call && is_done_with id (done_id tried.answer)

-- or dropped one
abbrev pub dropped_one : ℕ → Tried → Bool
dropped_one id tried = drops tried.call && is_done_with id (done_id tried.answer)

-- From a new folder, behind any calls, an id has the references that were made less those that were
-- dropped.
abbrev pub CountsAreTrue : Type 0
CountsAreTrue =
    (tried : List Tried) → MayGo new_storage tried → (id : ℕ)
    → references (behind new_storage tried) id + count_by (dropped_one id) tried
    ≡ count_by (made id) tried

-- ---- messages

-- a message was saved under an id
abbrev pub IsSaved : List ℕ → ℕ → Tried → Type 0
IsSaved message id tried =
    (tried.call ≡ Save message) × (tried.answer ≡ Some (answer.Done id))

-- the message is got, unless the disk fails or memory runs out
abbrev pub IsGot : List ℕ → Option Answer → Type 0
IsGot message (Some (answer.Held bytes)) = bytes ≡ message
IsGot message (Some (answer.Disk faults)) = ⊤
IsGot message None = ⊤
IsGot message other = ⊥

-- While an id has a reference its message is the one that was saved under it, and that is got.
abbrev pub MessagesAreKept : Type 0
MessagesAreKept =
    (front back : List Tried) (save : Tried) (message : List ℕ) (id : ℕ)
    → MayGo new_storage (front ++ save ∷ back)
    → IsSaved message id save
    → 1 ≤ references (behind new_storage (front ++ save ∷ back)) id
    → (gone : List ℕ) (told : Option Answer)
    → MayAnswer (behind new_storage (front ++ save ∷ back)) (Get id) gone told
    → IsGot message told

-- ---- ids

-- No id is given again.
abbrev pub IdsAreNew : Type 0
IdsAreNew =
    (front between back : List Tried) (one other : Tried) (a b : List ℕ) (id next : ℕ)
    → MayGo new_storage (front ++ one ∷ (between ++ other ∷ back))
    → IsSaved a id one
    → IsSaved b next other
    → id < next
