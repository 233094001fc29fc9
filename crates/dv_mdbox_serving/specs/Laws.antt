-- What holds of the calls of several runs, and of what each crash left between them.
use Rattle.std.specs.Prelude.{◌≡◌, ◌⊎◌, ℕ, ◌+◌, ◌≤◌, List, [], ◌∷◌, ◌++◌, count_by, Option, ⊤}
use Rattle.dv_shelf.specs.Crashes.{LeavesOnly}
use Rattle.dv_shelf.specs.Folders.{Folder}
use Rattle.dv_shelf.specs.Sees.{SeesFolder}
use Rattle.dv_maps.specs.Storages.{Storage}
use Rattle.dv_mdbox_lines.specs.declared.answers.Answer.{Answer}
use Rattle.dv_mdbox_lines.specs.Laws.{IsGot, IsSaved, dropped_one, made, new_storage}
use Rattle.dv_mdbox_lines.specs.Playing.{MayAnswer, MayGo, Tried, behind, references}
use Rattle.dv_mdbox_lines.specs.Scripts.{Get}
use Rattle.dv_mdbox_serving.specs.Places.{GivesBehind, GivesStorage, MayGive, StartsFrom}

-- the storage that these calls make of a new one
pub record IsMadeBy (calls : List Tried) (s : Storage) : Type 0 where
  pub may : MayGo new_storage calls
  pub is : behind new_storage calls ≡ s

-- Behind a run's calls, and those before it since the storage was made, an id has the references
-- that were made less those that were dropped.
abbrev pub CountsGoOn : Type 0
CountsGoOn =
    (earlier calls : List Tried) (start : Storage) → IsMadeBy earlier start → MayGo start calls
    → (id : ℕ)
    → references (behind start calls) id + count_by (dropped_one id) (earlier ++ calls)
    ≡ count_by (made id) (earlier ++ calls)

-- While it has one its message is got as it was saved, unless the disk fails or memory runs out.
abbrev pub MessagesGoOn : Type 0
MessagesGoOn =
    (earlier calls : List Tried) (start : Storage) → IsMadeBy earlier start → MayGo start calls
    → (front back : List Tried) (save : Tried) (message : List ℕ) (id : ℕ)
    → earlier ++ calls ≡ front ++ save ∷ back
    → IsSaved message id save
    → 1 ≤ references (behind start calls) id
    → (gone : List ℕ) (told : Option Answer)
    → MayAnswer (behind start calls) (Get id) gone told → IsGot message told

-- ---- a next run

-- none, or one that makes the call of the first of these
abbrev pub MakesNext : List Tried → List Tried → Type 0
MakesNext back [] = ⊤
MakesNext (next ∷ back) (made ∷ []) = made.call ≡ next.call
MakesNext back last = ⊥

-- These are the first of a run's calls, and maybe what the next of them makes.
pub record GoesOn (calls since : List Tried) : Type 0 where
  pub front : List Tried
  pub back : List Tried
  pub last : List Tried
  pub parts : calls ≡ front ++ back
  pub makes : MakesNext back last
  pub is : since ≡ front ++ last

-- From what a run leaves, or a crash at any moment of it, a next one may begin: the folder gives a
-- storage, which the calls before the run and the first of its own make of a new one, with what the
-- next of them makes, where that is found.
abbrev pub NextRunsBegin : Type 0
NextRunsBegin =
    (earlier calls : List Tried) (start : Storage) → IsMadeBy earlier start → MayGo start calls
    → (c : Folder) → GivesBehind start calls c ⊎ MayGive start calls c
    → (s : Storage) × (since : List Tried) × IsMadeBy (earlier ++ since) s × GoesOn calls since
    × GivesStorage s c

-- a run may begin from this folder, behind these calls and maybe others
abbrev pub IsNextStart : List Tried → Folder → Type 0
IsNextStart earlier c =
    (s : Storage) × (since : List Tried) × IsMadeBy (earlier ++ since) s × StartsFrom c s

-- So it is of what a read gives behind a run, and of what a crash leaves then and left at any moment
-- of it. It takes what a shelf shows.
pub record BeginsNext {S : Type 0} (sees : SeesFolder S) (earlier : List Tried) (old new : S)
    : Type 0 where
  pub now : IsNextStart earlier (sees.files new)
  pub after : (c : Folder) → sees.may_leave new c → IsNextStart earlier c
  pub crash : LeavesOnly sees old new (IsNextStart earlier)
