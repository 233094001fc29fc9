-- What a shelf in memory keeps of the laws of the trait: the files are one outcome of a crash, and
-- what it may leave now is what it might have left at some time and what it might have left last.
use Rattle.std.proofs.Common.{◌≡◌, ℕ, ◌+◌, ◌-◌, ◌/◌, ◌≤◌, max, Bool, true, false, cond, List, [], ◌∷◌, ◌++◌, length, take, drop, replicate, fold, Option, Some, None, refl, sym, subst, arith, inl, length-append, length-drop}
use Rattle.std.proofs.lemmas.List.{take_all, length-take, length-replicate}
use Rattle.dv_shelf.specs.declared.shelf.Name.{Name}
use Rattle.dv_shelf.specs.declared.record.Deed.{Deed}
use Rattle.dv_shelf.specs.declared.record.Deed.TheVariants.{Write, Sync, Replace, Remove}
use Rattle.dv_shelf.specs.declared.record.Outcome.{Outcome}
use Rattle.dv_shelf.specs.declared.record.Outcome.TheVariants.{Done, Hidden, Shown}
use Rattle.dv_shelf.specs.Folders.{Folder, patched, same_name}
use Rattle.dv_shelf.specs.Disks.{Made, Range, Version, Gone, There, Versions, Disk, version_bytes, version_written, versions_then, settled_version, stuck, as_read, disk_then, disk_after, new_disk, files_after}
use Rattle.dv_shelf.specs.Images.{furthest, IsTornImage, IsFileImage, LeftBy, LeftSince}

-- a write makes no file shorter, and none longer than the old one and its own end
pub record PatchedLength (old : List ℕ) (at : ℕ) (bytes : List ℕ) : Type 0 where
  pub no_shorter : length old ≤ length (patched old at bytes)
  pub no_longer : length (patched old at bytes) ≤ max (length old) (at + length bytes)

pub patched_length : (old : List ℕ) (at : ℕ) (bytes : List ℕ) → PatchedLength old at bytes
patched_length old at bytes =
    let zeros = replicate {A = ℕ} (at - length old) 0 in
    let front = take at (old ++ zeros) in
    let filled = length-append old zeros in
    let gap = length-replicate {A = ℕ} (at - length old) 0 in
    let long : length front ≡ at = omega (arith, length-take at (old ++ zeros), filled, gap) in
    let both : length (front ++ bytes) ≡ at + length bytes =
    omega (arith, length-append front bytes) in
    let all = length-append (front ++ bytes) (drop (at + length bytes) old) in
    let less = length-drop (at + length bytes) old in
    record {
      no_shorter = omega (arith, all, less, both);
      no_longer = omega (arith, all, less, both);
    }

pub stuck_short : (outcome : Outcome) (bytes : List ℕ) → length (stuck outcome bytes) ≤ length bytes
stuck_short Done bytes = omega arith
stuck_short Hidden bytes = omega (arith, length-take (length bytes / 2) bytes)
stuck_short Shown bytes = omega (arith, length-take (length bytes / 2) bytes)

pub furthest-push : (written : List Range) (range : Range)
    → furthest (written ++ range ∷ []) ≡ max (furthest written) range.upto
furthest-push [] range = omega arith
furthest-push (r ∷ written) range = let more = furthest-push written range in omega (arith, more)

-- a state's bytes are one of its images
abbrev pub IsReadable : Version → Type 0
IsReadable version = IsFileImage version (version_bytes version)

whole_image : (bytes : List ℕ) → IsTornImage bytes (length bytes) [] bytes
whole_image bytes = record {
  firm = λ k firm. refl;
  no_shorter = omega arith;
  no_longer = omega arith;
}

pub settled_readable : (file : Option (List ℕ)) → IsReadable (settled_version file)
settled_readable None = tt
settled_readable (Some bytes) = whole_image bytes

pub written_readable : (at n : ℕ) (stuck : List ℕ) (version : Version) → length stuck ≤ n
    → IsReadable version → IsReadable (version_written at n stuck version)
written_readable at n stuck Gone le is =
    let long = patched_length [] at stuck in
    record {
      firm = λ k firm. refl;
      no_shorter = omega arith;
      no_longer = omega (arith, long.no_longer);
    }
written_readable at n stuck (There bytes base written new) le is =
    let long = patched_length bytes at stuck in
    let more = furthest-push written (record { from = at; upto = at + n }) in
    record {
      firm = λ k firm. refl;
      no_shorter = omega (arith, long.no_shorter, is.no_shorter);
      no_longer = omega (arith, long.no_longer, is.no_longer, more);
    }

-- the file as a read gives it is one of the images of its first state
abbrev pub Readable : Versions → Type 0
Readable versions = IsFileImage versions.first (as_read versions)

then_readable : (deed : Deed) (outcome : Outcome) (bytes : List ℕ) (versions : Versions)
    → Readable versions → Readable (versions_then deed outcome bytes versions)
then_readable (Write at) outcome bytes versions is =
    written_readable at (length bytes) (stuck outcome bytes) versions.first
    (stuck_short outcome bytes) is
then_readable Sync Done bytes versions is = settled_readable (as_read versions)
then_readable Sync Hidden bytes versions is = is
then_readable Sync Shown bytes versions is = is
then_readable Replace Done bytes versions is = settled_readable (Some bytes)
then_readable Replace Hidden bytes versions is = is
then_readable Replace Shown bytes versions is = settled_readable (Some bytes)
then_readable Remove Done bytes versions is = settled_readable None
then_readable Remove Hidden bytes versions is = is
then_readable Remove Shown bytes versions is = settled_readable None

fold_readable : (calls : List Made) (disk : Disk) → ((n : Name) → Readable (disk n))
    → (n : Name) → Readable (fold disk_then disk calls n)
fold_readable [] disk is n = is n
fold_readable (made ∷ calls) disk is n =
    fold_readable calls (disk_then disk made) (λ m. one (same_name made.name m) m (is m)) n
  where
    one : (b : Bool) (m : Name) → Readable (disk m)
        → Readable (cond b (versions_then made.deed made.outcome made.bytes (disk m)) (disk m))
    one true m is = then_readable made.deed made.outcome made.bytes (disk m) is
    one false m is = is

pub readable : (calls : List Made) (n : Name) → Readable (disk_after calls n)
readable calls n = fold_readable calls new_disk (λ m. tt) n

-- the files as a read gives them are one of the folders that a crash now may leave
pub files_left : (calls : List Made) → LeftBy calls (files_after calls)
unfolding LeftBy
files_left calls n = inl (readable calls n)

-- what a crash may leave now it might have left since any earlier moment
pub left_now : (calls : List Made) (t : ℕ) (c : Folder)
    → t ≤ length calls → LeftBy calls c → LeftSince calls t c
left_now calls t c le is =
    let P : List Made → Type 0 = λ l. LeftBy l c in
    (length calls, le, omega arith, subst P (sym (take_all (length calls) calls (omega arith))) is)

-- since the last moment it might have left what it may leave now
pub left_last : (calls : List Made) (c : Folder) → LeftSince calls (length calls) c → LeftBy calls c
left_last calls c had =
    let P : List Made → Type 0 = λ l. LeftBy l c in
    let Q : ℕ → Type 0 = λ n. LeftBy (take n calls) c in
    let k : had.0 ≡ length calls = omega (arith, had.1, had.2) in
    subst P (take_all (length calls) calls (omega arith)) (subst Q k had.3)
