-- Sample images of a disk, for tests.
use Rattle.std.specs.Prelude.{◌≡◌, ◌≢◌, ◌⊎◌, ℕ, ◌+◌, ◌<◌, false, List, [], ◌∷◌, ◌++◌, length, take, drop, map, slice_index, slice_index_or, All, Any, Contains, AllPairs, Option, Some, IsSome}
use Rattle.std.specs.List.{list_any}
use Rattle.dv_shelf.specs.declared.shelf.Name.{Name}
use Rattle.dv_shelf.specs.declared.record.Deed.TheVariants.{Write}
use Rattle.dv_shelf.specs.Folders.{Folder, folder_of, with_file, contents, patched}
use Rattle.dv_shelf.specs.Disks.{Made, files_after}
use Rattle.dv_shelf.specs.Images.{LeftBy, settles}

-- folders, each a list of names with their bytes
abbrev pub Images : Type 0
Images = List (List (Name × List ℕ))

-- The i-th call wrote some bytes at this place, and no later call has left the file, as a read
-- gives it, without loose ranges.
pub record IsUnsynced (calls : List Made) (i : ℕ) (made : Made) (at : ℕ) : Type 0 where
  pub there : slice_index_or calls i made ≡ made
  pub write : made.deed ≡ Write at
  pub some : 0 < length made.bytes
  pub later : list_any (settles made.name) (drop (i + 1) calls) ≡ false

-- the first bytes that a torn write is tried with: its own and three others
abbrev pub first_bytes : List ℕ → List ℕ
first_bytes bytes = slice_index bytes 0 ∷ 0x80 ∷ 0x00 ∷ 0x37 ∷ []

-- the file of a name as a read gives it, with this byte and the rest of a write over it
abbrev pub torn_with : List Made → Name → ℕ → List ℕ → ℕ → Option (List ℕ)
torn_with calls name at rest first =
    Some (patched (contents (files_after calls) name) at (first ∷ rest))

-- the same of a write whose first byte is another one
abbrev pub torn_file : List Made → Made → ℕ → ℕ → Option (List ℕ)
torn_file calls made at first = torn_with calls made.name at (drop 1 made.bytes) first

-- what the samples of a write show of its file: its bytes before it, and the torn ones
abbrev pub sample_files : List Made → ℕ → Made → ℕ → List (Option (List ℕ))
sample_files calls i made at =
    files_after (take i calls) made.name ∷ map (torn_file calls made at) (first_bytes made.bytes)

-- one image has this file at that name and the others as a read gives them
abbrev pub HasImage : List Made → Name → Option (List ℕ) → Images → Type 0
HasImage calls name file images =
    Any (λ image. folder_of image ≡ with_file (files_after calls) name file) images

-- of an unsynced write they show the old bytes, the new ones and three torn ones
pub record ShowWrite (calls : List Made) (i : ℕ) (made : Made) (at : ℕ) (images : Images)
    : Type 0 where
  pub old : HasImage calls made.name (files_after (take i calls) made.name) images
  pub torn : (first : ℕ) → Contains (first_bytes made.bytes) first
      → HasImage calls made.name (torn_file calls made at first) images

-- the images are some of those that a crash may leave: the files as a read gives them, and for
-- each unsynced write its old, new and torn bytes
pub record AreSamples (calls : List Made) (images : Images) : Type 0 where
  pub each : All (λ image. LeftBy calls (folder_of image)) images
  pub files : Any (λ image. folder_of image ≡ files_after calls) images
  pub writes : (i : ℕ) (made : Made) (at : ℕ) → i < length calls → IsUnsynced calls i made at
      → ShowWrite calls i made at images

-- the names of a folder's files and one more, once each
pub record AreNamesWith (folder : Folder) (name : Name) (names : List Name) : Type 0 where
  pub all : (n : Name) → IsSome (folder n) → Contains names n
  pub named : Contains names name
  pub once : AllPairs (λ a b. a ≢ b) names

-- one image more
pub record AddsImage (calls : List Made) (name : Name) (file : Option (List ℕ)) (old new : Images)
    : Type 0 where
  pub image : List (Name × List ℕ)
  pub is : new ≡ old ++ image ∷ []
  pub shows : folder_of image ≡ with_file (files_after calls) name file

-- several images more
abbrev pub AddsImages : List Made → Name → List (Option (List ℕ)) → Images → Images → Type 0
AddsImages calls name [] old new = new ≡ old
AddsImages calls name (file ∷ files) old new =
    (mid : Images) × AddsImage calls name file old mid × AddsImages calls name files mid new

-- the images of the i-th call, if it is an unsynced write
abbrev pub AddsSamples : List Made → ℕ → Images → Images → Type 0
AddsSamples calls i old new =
    (((made : Made) (at : ℕ) → IsUnsynced calls i made at → ⊥) × (new ≡ old))
    ⊎ ((made : Made) × ((at : ℕ) × (IsUnsynced calls i made at
    × AddsImages calls made.name (sample_files calls i made at) old new)))
