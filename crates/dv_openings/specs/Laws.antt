-- A folder is found in one way, and a cache file that is written is true.
use Rattle.std.specs.Prelude.{◌≡◌, ◌^◌, ◌<◌, ℕ, Contains, Some, None}
use Rattle.dv_model.specs.declared.types.Mailbox.{Mailbox}
use Rattle.dv_model.specs.declared.types.Row.{Row}
use Rattle.dv_model.specs.Journals.{Mail}
use Rattle.dv_shelf.specs.declared.shelf.Name.TheVariants as name
use Rattle.dv_shelf.specs.Folders.{Folder}
use Rattle.dv_cache.specs.Caches.{cache_text}
use Rattle.dv_cache.specs.Written.{AreWritable}
use Rattle.dv_dbox.specs.Mails.{mail_in}
use Rattle.dv_openings.specs.Openings.{Found, IsFound}
use Rattle.dv_openings.specs.TrueCaches.{HasTrueCache, cached_rows}

-- there is one mailbox with its place, or one fault
abbrev pub FoundIsOne : Type 0
FoundIsOne = (folder : Folder) (f g : Found) → IsFound folder f → IsFound folder g → f ≡ g

-- without a cache file nothing is found in it
abbrev pub NoCacheIsTrue : Type 0
NoCacheIsTrue = (folder : Folder) (indexid : ℕ) (m : Mailbox) → folder name.Cache ≡ None
    → HasTrueCache folder indexid m

-- the cache file of a mailbox's messages is true of every mailbox whose messages are the same
abbrev pub WrittenCacheIsTrue : Type 0
WrittenCacheIsTrue =
    (folder : Folder) (indexid number seq : ℕ) (mail : ℕ → Mail) (m now : Mailbox)
    → number < 2 ^ 32
    → seq < 2 ^ 32
    → AreWritable (cached_rows mail m)
    → folder name.Cache ≡ Some (cache_text number seq (cached_rows mail m))
    → ((row : Row) → Contains now.rows row → mail row.uid ≡ mail_in (folder (name.Mail row.uid)))
    → HasTrueCache folder indexid now
