-- The cache file as far as it was read, what it holds, and how a look at one message calls the
-- shelf. Definitions take what a shelf shows.
use Rattle.std.specs.Prelude.{◌≡◌, ℕ, ◌≤◌, ◌&&◌, Bool, true, false, not, List, Option, Some, None, nat_eq, bytes_eq, find, ⊤}
use Rattle.std.specs.List.{list_all, list_any}
use Rattle.std.specs.Str.{str_to_ascii_lowercase}
use Rattle.dv_model.specs.declared.types.Mailbox.{Mailbox}
use Rattle.dv_model.specs.declared.types.Row.{Row}
use Rattle.dv_model.specs.Sessions.{has_uid}
use Rattle.dv_shelf.specs.declared.shelf.Name.TheVariants as name
use Rattle.dv_shelf.specs.Folders.{Folder, counted}
use Rattle.dv_cache.specs.declared.row.CacheRow.{CacheRow}
use Rattle.dv_cache.specs.declared.row.Known.{Known}
use Rattle.dv_openings.specs.TrueCaches.{IsCached, kept_names, look_of}
use Rattle.dv_responses.specs.declared.asking.Asked.{Asked}
use Rattle.dv_lookups.specs.declared.cache_file.CacheFile.{CacheFile}
use Rattle.dv_lookups.specs.declared.cache_file.CacheFile.TheVariants as cache
use Rattle.dv_shelf.specs.Sees.{SeesFolder}

-- ---- the file

-- it was read
abbrev pub is_read : CacheFile → Bool
is_read cache.Unread = false
is_read (cache.Read file) = true

-- what was read is the folder's cache file
abbrev pub IsFileOf : Folder → CacheFile → Type 0
IsFileOf folder cache.Unread = ⊤
IsFileOf folder (cache.Read file) = file ≡ folder name.Cache

-- ---- what may stand in it

-- two names are one, whatever the case of ASCII letters (RFC 5322, section 1.2.2)
abbrev pub same_name : List ℕ → List ℕ → Bool
same_name a b = bytes_eq (str_to_ascii_lowercase a) (str_to_ascii_lowercase b)

-- one of the five names of fields that are kept
unfoldable pub is_kept : List ℕ → Bool
is_kept name = list_any (λ kept. same_name kept name) kept_names

-- all that is asked can stand there: sizes, and fields of the five names
abbrev pub can_stand : Asked → Bool
can_stand asked = not asked.body && list_all is_kept asked.fields

-- ---- rows

-- the row of a UID
abbrev pub row_of : Mailbox → ℕ → Option Row
row_of m uid = find (λ row. nat_eq row.uid uid) m.rows

-- nothing stands there for the row
abbrev pub IsLacking : Folder → ℕ → Mailbox → Row → Type 0
IsLacking folder indexid m row = (cached : CacheRow) → IsCached folder indexid m row cached → ⊥

-- what the folder's cache file has for a row of the mailbox
abbrev pub IsLookedUp : Folder → ℕ → Mailbox → Row → Option Known → Type 0
IsLookedUp folder indexid m row None = IsLacking folder indexid m row
IsLookedUp folder indexid m row (Some known) =
    IsCached folder indexid m row (record { uid = row.uid; known = Some known })

-- the folder's cache file has a row for the mailbox's row of this UID
pub record IsSpared (folder : Folder) (indexid : ℕ) (m : Mailbox) (uid : ℕ) : Type 0 where
  pub row : Row
  pub is : row_of m uid ≡ Some row
  pub cached : CacheRow
  pub found : IsCached folder indexid m row cached

-- ---- calls

-- so many message files were read, by a count that stops at the end of its type
abbrev pub CountsReads : ℕ → ℕ → ℕ → Type 0
CountsReads n before now = counted now 0 ≡ counted before n

-- so many at most
abbrev pub CountsUpTo : ℕ → ℕ → ℕ → Type 0
CountsUpTo most before now = (n : ℕ) × (n ≤ most) × CountsReads n before now

-- none is read; with the cache file at hand the shelf isn't called
pub record Spares {S : Type 0} (sees : SeesFolder S) (file : CacheFile) (old new : S) : Type 0 where
  pub none : CountsReads 0 (sees.mail_reads old) (sees.mail_reads new)
  pub still : is_read file ≡ true → new ≡ old

-- At most one is read; the shelf isn't called where the mailbox lacks the UID. The cache file is
-- read for what can stand in it only, where the mailbox's row has a place there.
pub record Economy {S : Type 0} (sees : SeesFolder S) (m : Mailbox) (uid : ℕ) (kept : Bool)
    (before now : CacheFile) (old new : S) : Type 0 where
  pub most : CountsUpTo 1 (sees.mail_reads old) (sees.mail_reads new)
  pub gone : has_uid m uid ≡ false → new ≡ old
  pub again : is_read before ≡ true → now ≡ before
  pub aside : kept ≡ false → now ≡ before
  pub placed : (row : Row) → row_of m uid ≡ Some row → look_of m row ≡ None → now ≡ before
