-- What is found of a UID: nothing, damage, or what is asked of its message.
use Rattle.std.specs.Prelude.{◌≡◌, ℕ, Bool, true, false, List, Contains, Option, Some, None, if◌then◌else◌, ⊤}
use Rattle.dv_model.specs.declared.types.Mailbox.{Mailbox}
use Rattle.dv_model.specs.declared.types.Row.{Row}
use Rattle.dv_model.specs.Fields.{field_of, physical_size, virtual_size}
use Rattle.dv_model.specs.Journals.{Mail, Held, Damaged}
use Rattle.dv_model.specs.Sessions.{has_uid}
use Rattle.dv_shelf.specs.declared.shelf.Name.TheVariants as name
use Rattle.dv_shelf.specs.Folders.{Folder}
use Rattle.dv_cache.specs.Caches.{HasFive}
use Rattle.dv_files.specs.Reading.{IsTakenAs, mail_at}
use Rattle.dv_files.specs.declared.reading.MailFile.TheVariants as file
use Rattle.dv_openings.specs.TrueCaches.{known_in}
use Rattle.dv_responses.specs.declared.asking.Asked.{Asked}
use Rattle.dv_responses.specs.Supplied.{facts_from}
use Rattle.dv_lookups.specs.declared.found.BodyFound.{BodyFound}
use Rattle.dv_lookups.specs.declared.found.BodyFound.TheVariants as body
use Rattle.dv_lookups.specs.declared.found.FactsFound.{FactsFound}
use Rattle.dv_lookups.specs.declared.found.FactsFound.TheVariants as facts
use Rattle.dv_lookups.specs.declared.found.FieldFound.{FieldFound}
use Rattle.dv_lookups.specs.declared.found.FieldFound.TheVariants as field
use Rattle.dv_lookups.specs.declared.found.SizesFound.{SizesFound}
use Rattle.dv_lookups.specs.declared.found.SizesFound.TheVariants as sizes
use Rattle.dv_lookups.specs.declared.source.Source.{Source}
use Rattle.dv_lookups.specs.declared.source.Source.TheVariants as source

-- these are the messages of the mailbox's rows, by their files in the folder
abbrev pub AreMessages : Folder → Mailbox → (ℕ → Mail) → Type 0
AreMessages folder m mail =
    (row : Row) → Contains m.rows row → mail_at folder row.uid ≡ mail row.uid

-- the message of a UID that the mailbox has, by its file in the folder
abbrev pub mail_of : Folder → Mailbox → ℕ → Option Mail
mail_of folder m uid = if has_uid m uid then Some (mail_at folder uid) else None

-- ---- what is answered

-- the facts of a message, as far as they are asked
abbrev pub facts_found : Asked → ℕ → Option Mail → FactsFound
facts_found asked uid None = facts.Gone
facts_found asked uid (Some Damaged) = facts.Damaged
facts_found asked uid (Some (Held message)) = facts.Known (facts_from asked uid message)

-- the value of its first field of this name, where it has one
abbrev pub field_found : List ℕ → Option Mail → FieldFound
field_found name None = field.Gone
field_found name (Some Damaged) = field.Damaged
field_found name (Some (Held message)) = field.Value (field_of message name)

-- its two sizes
abbrev pub sizes_found : Option Mail → SizesFound
sizes_found None = sizes.Gone
sizes_found (Some Damaged) = sizes.Damaged
sizes_found (Some (Held message)) = sizes.Sizes (physical_size message) (virtual_size message)

-- the message itself, with its metadata
abbrev pub IsBody : Folder → Mailbox → ℕ → BodyFound → Type 0
IsBody folder m uid (body.Held message) =
    (has_uid m uid ≡ true) × IsTakenAs (folder (name.Mail uid)) (file.Held message)
IsBody folder m uid body.Damaged =
    (has_uid m uid ≡ true) × IsTakenAs (folder (name.Mail uid)) file.Damaged
IsBody folder m uid body.Gone = has_uid m uid ≡ false

-- ---- where it is taken from

-- a source that tells of the message
abbrev pub IsSourceOf : Option Mail → Source → Type 0
IsSourceOf None source.Gone = ⊤
IsSourceOf (Some Damaged) source.Damaged = ⊤
IsSourceOf (Some (Held message)) (source.Cached known) = known ≡ known_in message
IsSourceOf (Some (Held message)) (source.Held m) = m.bytes ≡ message
IsSourceOf mail other = ⊥

-- what the cache file has, has its five fields
abbrev pub IsWhole : Source → Type 0
IsWhole (source.Cached known) = HasFive (Some known)
IsWhole other = ⊤

-- the cache file is the source only where it may be
abbrev pub IsFrom : Bool → Source → Type 0
IsFrom kept (source.Cached known) = kept ≡ true
IsFrom kept other = ⊤
