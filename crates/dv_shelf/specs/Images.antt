-- What a crash may leave of a disk.
use Rattle.std.specs.Prelude.{◌≡◌, ◌⊎◌, ℕ, ◌<◌, ◌≤◌, max, IsTrue, Bool, List, [], ◌∷◌, length, take, slice_index, Option, Some, None}
use Rattle.dv_shelf.specs.declared.shelf.Name.{Name}
use Rattle.dv_shelf.specs.Folders.{Folder}
use Rattle.dv_shelf.specs.Disks.{Made, Range, Version, Gone, There, Versions, Disk, disk_after, settles_file}

-- a place in one of the ranges
abbrev pub Covers : List Range → ℕ → Type 0
Covers [] place = ⊥
Covers (range ∷ ranges) place = ((range.from ≤ place) × (place < range.upto)) ⊎ Covers ranges place

-- a place that was written since the last sync, or that lies past the end of that time
abbrev pub IsLoose : ℕ → List Range → ℕ → Type 0
IsLoose base written place = Covers written place ⊎ (base ≤ place)

-- the furthest end of the writes since the last sync
abbrev pub furthest : List Range → ℕ
furthest [] = 0
furthest (range ∷ ranges) = max range.upto (furthest ranges)

-- An image of a file with this base length and these ranges written since: it agrees with the
-- file but for loose places, and is no shorter than the base length and no longer than the
-- larger of it and the furthest end.
pub record IsTornImage (bytes : List ℕ) (base : ℕ) (written : List Range) (image : List ℕ)
    : Type 0 where
  pub firm : (place : ℕ) → (IsLoose base written place → ⊥)
      → slice_index image place ≡ slice_index bytes place
  pub no_shorter : base ≤ length image
  pub no_longer : length image ≤ max base (furthest written)

-- what a crash may leave of a file in this state: it may lack one that a write made since
abbrev pub IsFileImage : Version → Option (List ℕ) → Type 0
IsFileImage Gone None = Unit {0}
IsFileImage Gone (Some image) = ⊥
IsFileImage (There bytes base written new) None = IsTrue new
IsFileImage (There bytes base written new) (Some image) = IsTornImage bytes base written image

-- an image of one of these states
abbrev pub IsImageOfOne : List Version → Option (List ℕ) → Type 0
IsImageOfOne [] file = ⊥
IsImageOfOne (version ∷ versions) file = IsFileImage version file ⊎ IsImageOfOne versions file

-- an image of one of a file's states
abbrev pub IsOneImage : Versions → Option (List ℕ) → Type 0
IsOneImage versions file = IsFileImage versions.first file ⊎ IsImageOfOne versions.others file

-- an image of each file
abbrev pub IsImage : Disk → Folder → Type 0
IsImage disk folder = (n : Name) → IsOneImage (disk n) (folder n)

-- what a crash after these calls may leave
unfoldable pub LeftBy : List Made → Folder → Type 0
LeftBy calls folder = IsImage (disk_after calls) folder

-- What a crash since the first t calls might have left: after one of them or between two, and so
-- also during one, which leaves no image that it hasn't before or after.
abbrev pub LeftSince : List Made → ℕ → Folder → Type 0
LeftSince calls t folder = (k : ℕ) × (t ≤ k) × (k ≤ length calls) × LeftBy (take k calls) folder

-- whether a call leaves the file of a name, as a read gives it, without loose ranges
abbrev pub settles : Name → Made → Bool
settles file made = settles_file file made.name made.deed made.outcome
