-- What one call more makes of a disk.
use Rattle.std.proofs.Common.{◌≡◌, ℕ, ◌+◌, ◌<◌, ◌≤◌, Bool, true, false, cond, List, [], ◌∷◌, ◌++◌, length, take, map, get_or, Option, Some, None, unwrap_or, refl, sym, ◌∙◌, ap, subst, arith}
use Rattle.std.proofs.lemmas.List.Sums.{fold-append}
use Rattle.std.proofs.lemmas.List.{map-append, take_more, take_all, take-map}
use Rattle.dv_shelf.specs.declared.shelf.Name.{Name}
use Rattle.dv_shelf.specs.declared.record.Deed.{Deed}
use Rattle.dv_shelf.specs.declared.record.Deed.TheVariants.{Write, Sync, Replace, Remove}
use Rattle.dv_shelf.specs.declared.record.Outcome.{Outcome}
use Rattle.dv_shelf.specs.declared.record.Outcome.TheVariants.{Done, Hidden, Shown}
use Rattle.dv_shelf.specs.declared.record.Call.{Call}
use Rattle.dv_shelf.specs.Folders.{same_name, patched}
use Rattle.dv_shelf.specs.Disks.{Made, Version, Versions, Gone, There, Disk, as_read, version_bytes, version_written, versions_then, settled_version, stuck, file_then, disk_then, new_disk, disk_after, files_after}
use Rattle.dv_shelf.specs.Records.{made_call}

pub disk_more : (calls : List Made) (made : Made)
    → disk_after (calls ++ made ∷ []) ≡ disk_then (disk_after calls) made
disk_more calls made = fold-append disk_then new_disk calls (made ∷ [])

pub settled_reads : (file : Option (List ℕ)) → version_bytes (settled_version file) ≡ file
settled_reads None = refl
settled_reads (Some bytes) = refl

written_reads : (at n : ℕ) (bytes : List ℕ) (version : Version)
    → version_bytes (version_written at n bytes version)
    ≡ Some (patched (unwrap_or (version_bytes version) []) at bytes)
written_reads at n bytes Gone = refl
written_reads at n bytes (There old base ranges new) = refl

-- a read sees what the call does to the file that a read saw
pub as_read-then : (deed : Deed) (outcome : Outcome) (bytes : List ℕ) (versions : Versions)
    → as_read (versions_then deed outcome bytes versions)
    ≡ file_then deed outcome bytes (as_read versions)
as_read-then (Write at) outcome bytes versions =
    written_reads at (length bytes) (stuck outcome bytes) versions.first
as_read-then Sync Done bytes versions = settled_reads (as_read versions)
as_read-then Sync Hidden bytes versions = refl
as_read-then Sync Shown bytes versions = refl
as_read-then Replace Done bytes versions = refl
as_read-then Replace Hidden bytes versions = refl
as_read-then Replace Shown bytes versions = refl
as_read-then Remove Done bytes versions = refl
as_read-then Remove Hidden bytes versions = refl
as_read-then Remove Shown bytes versions = refl

read_if : (b : Bool) (deed : Deed) (outcome : Outcome) (bytes : List ℕ) (versions : Versions)
    → as_read (cond b (versions_then deed outcome bytes versions) versions)
    ≡ cond b (file_then deed outcome bytes (as_read versions)) (as_read versions)
read_if true deed outcome bytes versions = as_read-then deed outcome bytes versions
read_if false deed outcome bytes versions = refl

pub files_more : (calls : List Made) (made : Made) (name : Name)
    → files_after (calls ++ made ∷ []) name
    ≡ cond (same_name made.name name) (file_then made.deed made.outcome made.bytes (files_after calls name)) (files_after calls name)
files_more calls made name =
    ap (λ (d : Disk). as_read (d name)) (disk_more calls made)
    ∙ read_if (same_name made.name name) made.deed made.outcome made.bytes (disk_after calls name)

-- one step of a loop over a record's calls
pub read_more : (bytes : List ℕ) (calls : List Call) (i : ℕ) (d : Call) (name : Name) → i < length calls → let call = get_or calls i d in
    files_after (map (made_call bytes) (take (i + 1) calls)) name
    ≡ cond (same_name call.name name)
    (file_then call.deed call.outcome (made_call bytes call).bytes (files_after (map (made_call bytes) (take i calls)) name))
    (files_after (map (made_call bytes) (take i calls)) name)
read_more bytes calls i d name lt =
    let P : List Made → Option (List ℕ) = λ l. files_after l name in
    ap (λ (l : List Call). P (map (made_call bytes) l)) (take_more calls i d lt)
    ∙ ap P (map-append (made_call bytes) (take i calls) (get_or calls i d ∷ []))
    ∙ files_more (map (made_call bytes) (take i calls)) (made_call bytes (get_or calls i d)) name

-- the same where the file before is known
pub read_on : (bytes : List ℕ) (calls seen : List Call) (i : ℕ) (d : Call) (name : Name)
    (before after : Option (List ℕ)) → seen ≡ calls → i < length seen
    → before ≡ files_after (map (made_call bytes) (take i calls)) name
    → (let call = get_or seen i d in after ≡ cond (same_name call.name name) (file_then call.deed call.outcome (made_call bytes call).bytes before) before)
    → after ≡ files_after (map (made_call bytes) (take (i + 1) calls)) name
read_on bytes calls seen i d name before after is lt was now =
    let P : List Call → Type 0 =
    λ l. after ≡ files_after (map (made_call bytes) (take (i + 1) l)) name in
    let call = get_or seen i d in
    let step : Option (List ℕ) → Option (List ℕ) =
    λ f. cond (same_name call.name name) (file_then call.deed call.outcome (made_call bytes call).bytes f) f in
    let then : before ≡ files_after (map (made_call bytes) (take i seen)) name =
    was ∙ ap (λ (l : List Call). files_after (map (made_call bytes) (take i l)) name) (sym is) in
    subst P is (now ∙ ap step then ∙ sym (read_more bytes seen i d name lt))

-- the end of such a loop over the first calls
pub read_upto : (bytes : List ℕ) (calls seen : List Call) (count i : ℕ) (name : Name)
    (file : Option (List ℕ)) → seen ≡ take count calls → length seen ≤ i
    → file ≡ files_after (map (made_call bytes) (take i (take count calls))) name
    → file ≡ files_after (take count (map (made_call bytes) calls)) name
read_upto bytes calls seen count i name file is le was =
    let P : List Made → Option (List ℕ) = λ l. files_after l name in
    let all : take i (take count calls) ≡ take count calls =
    take_all i (take count calls) (omega (arith, ap length is)) in
    was ∙ ap (λ (l : List Call). P (map (made_call bytes) l)) all
    ∙ ap P (sym (take-map (made_call bytes) count calls))
