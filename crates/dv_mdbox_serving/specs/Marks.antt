-- The place and the number of groups that a run ends with.
use Rattle.std.specs.Prelude.{◌≡◌, ◌⊎◌, ℕ, true, List, length, map, ⊤}
use Rattle.dv_model.specs.declared.types.Mailbox.{Mailbox}
use Rattle.dv_model.specs.declared.types.Mark.{Mark}
use Rattle.dv_model.specs.declared.types.Record.{Record}
use Rattle.dv_model.specs.Journals.{is_rotation_due}
use Rattle.dv_shelf.specs.Folders.{Folder}
use Rattle.dv_openings.specs.Openings.{Finds, IsFound}
use Rattle.dv_maps.specs.Storages.{Storage}
use Rattle.dv_mdbox.specs.States.{mark_from, next_file}
use Rattle.dv_mdbox.specs.Writes.{entry_of}
use Rattle.dv_mdbox_lines.specs.Playing.{Tried, behind}
use Rattle.dv_mdbox_serving.specs.declared.ending.StorageEnd.{StorageEnd}
use Rattle.dv_mdbox_serving.specs.declared.ending.StorageEnd.TheVariants as end
use Rattle.dv_mdbox_serving.specs.Groups.{WriteGroups}
use Rattle.dv_mdbox_serving.specs.Opening.{StartsAt}
use Rattle.dv_mdbox_serving.specs.Places.{GivesMade, IsLastCut}

-- all calls were answered, with this place and so many groups
abbrev pub IfAnswered : StorageEnd → (Mark → ℕ → Type 0) → Type 0
IfAnswered (end.Answered mark groups) Is = Is mark groups
IfAnswered e Is = ⊤

-- the folder opens to the map at this mark, or, behind a rotation that no group has followed, at
-- the first place of the next file
abbrev pub OpensTo : Mailbox → Mark → Folder → Type 0
OpensTo m mark c =
    IsFound c (Finds m mark)
    ⊎ ((is_rotation_due true mark ≡ true) × IsFound c (Finds m (next_file mark)))

-- The mark is the place behind the groups that the calls wrote, from where the log ended before
-- them, and so many these are. What is left opens there, to the map with them, but where it gives
-- what the last call makes that was cut off.
pub record EndsAt (start : Storage) (calls : List Tried) (mark : Mark) (count : ℕ) (old : Folder)
    (Left : Folder → Type 0) : Type 0 where
  pub before : Mailbox
  pub begin : Mark
  pub starts : StartsAt old before begin
  pub groups : List (List Record)
  pub after : Mailbox
  pub writes : WriteGroups before calls groups after
  pub counted : count ≡ length groups
  pub marked : mark ≡ mark_from begin (map entry_of groups)
  pub opens : (c : Folder) → Left c → OpensTo after mark c
      ⊎ ((cut : Tried) × IsLastCut calls cut × GivesMade (behind start calls) cut c)
