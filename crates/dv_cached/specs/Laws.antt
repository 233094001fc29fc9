-- A true cache stays true of the mailbox that a command's group makes.
use Rattle.std.specs.Prelude.{◌≡◌, ◌≢◌, ◌^◌, ◌<◌, ◌≤◌, ℕ, List, length, map, Contains, Some}
use Rattle.dv_model.specs.declared.types.Command.{Command}
use Rattle.dv_model.specs.declared.types.Command.TheVariants as command
use Rattle.dv_model.specs.declared.types.Mailbox.{Mailbox}
use Rattle.dv_model.specs.declared.types.Row.{Row}
use Rattle.dv_model.specs.Effects.{applied}
use Rattle.dv_model.specs.Journals.{Mail}
use Rattle.dv_model.specs.Mailboxes.{IsValid}
use Rattle.dv_model.specs.Sessions.{check_records, group_of}
use Rattle.dv_model.specs.Views.{View}
use Rattle.dv_shelf.specs.declared.shelf.Name.TheVariants as name
use Rattle.dv_shelf.specs.Folders.{Folder}
use Rattle.dv_cache.specs.Caches.{cache_text}
use Rattle.dv_cache.specs.declared.row.CacheRow.{CacheRow}
use Rattle.dv_cache.specs.Finding.{IsRowAt}
use Rattle.dv_cache.specs.Written.{AreWritable}
use Rattle.dv_dbox.specs.Mails.{mail_in}
use Rattle.dv_openings.specs.TrueCaches.{HasTrueCache, cached_rows}
use Rattle.dv_cached.specs.Looks.{KeepsLooks}
use Rattle.dv_cached.specs.Parts.{KeepsParts}

-- the group of any command but CHECK makes this mailbox
pub record Makes (c : Command) (m after : Mailbox) : Type 0 where
  pub other : c ≢ command.Check
  pub view : View
  pub guid : ℕ → List ℕ
  pub gives : applied m (group_of c view m guid).records ≡ Some after

-- ---- any command but CHECK

-- it leaves extensions and parts
abbrev pub GroupsKeepParts : Type 0
GroupsKeepParts = (c : Command) (m after : Mailbox) → Makes c m after → KeepsParts c m after

-- so it leaves what is looked up
abbrev pub GroupsKeepLooks : Type 0
GroupsKeepLooks = (c : Command) (m after : Mailbox) → Makes c m after → KeepsLooks m after

-- no cache file has a row at the place 0
abbrev pub NoRowAtStart : Type 0
NoRowAtStart = (file : List ℕ) (indexid seq uid : ℕ) (row : CacheRow)
    → IsRowAt file indexid seq uid 0 row → ⊥

-- so a folder's true cache is true of the mailbox with the group
abbrev pub CacheStaysTrue : Type 0
CacheStaysTrue =
    (folder : Folder) (indexid : ℕ) (c : Command) (m after : Mailbox)
    → Makes c m after → HasTrueCache folder indexid m → HasTrueCache folder indexid after

-- ---- CHECK

-- it leaves each row its UID
abbrev pub ChecksKeepUids : Type 0
ChecksKeepUids = (m after : Mailbox) → applied m (check_records m) ≡ Some after
    → map (λ row. row.uid) after.rows ≡ map (λ row. row.uid) m.rows

-- a valid mailbox of at most 8,388,608 rows has a cache file of any messages
abbrev pub CachedRowsAreWritable : Type 0
CachedRowsAreWritable = (mail : ℕ → Mail) (m : Mailbox) → IsValid m → length m.rows ≤ 8388608
    → AreWritable (cached_rows mail m)

-- so the cache file of the mailbox's messages is true of the mailbox with the group
abbrev pub CheckedCacheIsTrue : Type 0
CheckedCacheIsTrue =
    (folder : Folder) (indexid number seq : ℕ) (mail : ℕ → Mail) (m after : Mailbox)
    → number < 2 ^ 32
    → seq < 2 ^ 32
    → AreWritable (cached_rows mail m)
    → folder name.Cache ≡ Some (cache_text number seq (cached_rows mail m))
    → ((row : Row) → Contains m.rows row → mail row.uid ≡ mail_in (folder (name.Mail row.uid)))
    → applied m (check_records m) ≡ Some after
    → HasTrueCache folder indexid after
