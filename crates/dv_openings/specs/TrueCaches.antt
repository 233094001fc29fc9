-- What is looked up in the cache file, and when what stands there is true.
use Rattle.std.specs.Prelude.{◌≡◌, ℕ, nat_le, List, [], ◌∷◌, length, map, take, Contains, Option, Some, None, bytes_eq, codes, if◌then◌else◌}
use Rattle.std.specs.Int.{w32, from_le_bytes}
use Rattle.dv_model.specs.declared.types.Extension.{Extension}
use Rattle.dv_model.specs.declared.types.Mailbox.{Mailbox}
use Rattle.dv_model.specs.declared.types.Row.{Row}
use Rattle.dv_model.specs.Fields.{field_of, physical_size, virtual_size}
use Rattle.dv_model.specs.Journals.{Mail, Held, Damaged}
use Rattle.dv_shelf.specs.declared.shelf.Name.TheVariants as name
use Rattle.dv_shelf.specs.Folders.{Folder}
use Rattle.dv_cache.specs.declared.row.CacheRow.{CacheRow}
use Rattle.dv_cache.specs.declared.row.Known.{Known}
use Rattle.dv_cache.specs.Finding.{IsRowAt}
use Rattle.dv_dbox.specs.Mails.{mail_in}

-- ---- a look-up

-- the cache file's sequence, and the place of an entry in it
pub record Look : Type 0 where
  pub seq : ℕ
  pub offset : ℕ

-- the place is the first four bytes of a part
abbrev pub look_at : ℕ → List ℕ → Option Look
look_at seq part =
    if nat_le 4 (length part)
    then Some (record { seq = seq; offset = from_le_bytes w32 (take 4 part) })
    else None

-- extensions and a row's parts go side by side; the extension `cache` has the sequence as its
-- reset_id
abbrev pub look_in : List Extension → List (List ℕ) → Option Look
look_in [] parts = None
look_in (extension ∷ extensions) [] = None
look_in (extension ∷ extensions) (part ∷ parts) =
    if bytes_eq extension.name (codes "cache") then look_at extension.reset_id part
    else look_in extensions parts

-- what is looked up for a row of the mailbox
abbrev pub look_of : Mailbox → Row → Option Look
look_of m row = look_in m.extensions row.parts

-- ---- what is true

-- the names of the fields that are kept (RFC 5322, section 3.6)
abbrev pub kept_names : List (List ℕ)
kept_names = codes "date" ∷ codes "from" ∷ codes "to" ∷ codes "subject" ∷ codes "message-id" ∷ []

-- the sizes and fields of a message
abbrev pub known_in : List ℕ → Known
known_in message = record {
  physical = physical_size message;
  virtual_size = virtual_size message;
  fields = map (field_of message) kept_names;
}

-- what is known of a message; of a damaged one nothing is
abbrev pub known_of : Mail → Option Known
known_of Damaged = None
known_of (Held message) = Some (known_in message)

-- the rows of a cache file that is written of a mailbox and its messages
abbrev pub cached_rows : (ℕ → Mail) → Mailbox → List CacheRow
cached_rows mail m = map (λ row. record { uid = row.uid; known = known_of (mail row.uid) }) m.rows

-- the row that the folder's cache file has for a row of the mailbox that the indexid names
pub record IsCached (folder : Folder) (indexid : ℕ) (m : Mailbox) (row : Row)
    (cached : CacheRow) : Type 0 where
  pub file : List ℕ
  pub there : folder name.Cache ≡ Some file
  pub look : Look
  pub asked : look_of m row ≡ Some look
  pub found : IsRowAt file indexid look.seq row.uid look.offset cached

-- each row of the mailbox that is found in the cache file has a message, and has its sizes and
-- fields there
abbrev pub HasTrueCache : Folder → ℕ → Mailbox → Type 0
HasTrueCache folder indexid m = (row : Row) (cached : CacheRow) → Contains m.rows row
    → IsCached folder indexid m row cached
    → cached.known ≡ known_of (mail_in (folder (name.Mail row.uid)))
