-- What message files are taken as, and how often they are read.
use Rattle.std.specs.Prelude.{◌≡◌, ℕ, zero, suc, ◌≤◌, List, map, Option, Some, None, unwrap_or, Result, Ok, Err}
use Rattle.dv_model.specs.declared.types.GuidRow.{GuidRow}
use Rattle.dv_model.specs.Journals.{Mail, Held, Damaged}
use Rattle.dv_shelf.specs.declared.shelf.Name.TheVariants as name
use Rattle.dv_shelf.specs.Folders.{Folder, counted}
use Rattle.dv_dbox.specs.BoxTexts.{BoxContent}
use Rattle.dv_dbox.specs.Mails.{content_in, guid_in, mail_in, no_guid}
use Rattle.dv_dbox.specs.Reading.{content_of}
use Rattle.dv_files.specs.declared.reading.MailFile.{MailFile}
use Rattle.dv_files.specs.declared.reading.MailFile.TheVariants as file

-- ---- one message file

-- the message of a UID, by its file in a folder
abbrev pub mail_at : Folder → ℕ → Mail
mail_at folder uid = mail_in (folder (name.Mail uid))

-- its GUID, by the same file
abbrev pub guid_at : Folder → ℕ → List ℕ
guid_at folder uid = guid_in (folder (name.Mail uid))

-- what a file was taken as: its content, where it is of the format
abbrev pub content_taken : MailFile → Option BoxContent
content_taken (file.Held m) = Some (content_of m)
content_taken file.Damaged = None

-- the message
abbrev pub mail_taken : MailFile → Mail
mail_taken (file.Held m) = Held m.bytes
mail_taken file.Damaged = Damaged

-- the GUID, sixteen zero bytes where there is none
abbrev pub guid_taken : MailFile → List ℕ
guid_taken (file.Held m) = unwrap_or m.guid no_guid
guid_taken file.Damaged = no_guid

-- content, message and GUID are those of the file, which may be missing
pub record IsTakenAs (bytes : Option (List ℕ)) (taken : MailFile) : Type 0 where
  pub content : content_taken taken ≡ content_in bytes
  pub message : mail_taken taken ≡ mail_in bytes
  pub guid : guid_taken taken ≡ guid_in bytes

-- ---- several

-- each UID with its GUID
abbrev pub guid_rows : Folder → List ℕ → List GuidRow
guid_rows folder uids = map (λ uid. record { uid = uid; guid = guid_at folder uid }) uids

-- the count of read message files behind so many reads, each of which counts one
abbrev pub after_reads : ℕ → ℕ → ℕ
after_reads count zero = count
after_reads count (suc n) = counted (after_reads count n) 1

-- behind Ok so many message files were read, behind an error at most so many
abbrev pub ReadsMails : ℕ → ℕ → ℕ → {T E : Type 0} → Result T E → Type 0
ReadsMails n before now (Ok x) = now ≡ after_reads before n
ReadsMails n before now (Err e) = (k : ℕ) × (k ≤ n) × (now ≡ after_reads before k)
