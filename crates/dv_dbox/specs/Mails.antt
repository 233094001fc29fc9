-- What a message file is taken as, by its bytes: the message and its GUID, or damage.
use Rattle.std.specs.Prelude.{ℕ, List, replicate, Option, Some, None, Ok, Err, unwrap_or}
use Rattle.dv_model.specs.Journals.{Mail, Held, Damaged}
use Rattle.dv_dbox.specs.BoxTexts.{BoxContent, box_content}

-- the content of a file of the form; a file that is missing or broken has none
abbrev pub content_in : Option (List ℕ) → Option BoxContent
content_in None = None
content_in (Some b) = elim (box_content b) [ Ok m ↦ Some m | Err fault ↦ None ]

-- its message
abbrev pub mail_in : Option (List ℕ) → Mail
mail_in file = elim (content_in file) [ None ↦ Damaged | Some m ↦ Held m.bytes ]

-- a message without a GUID has sixteen zero bytes in its place (Dovecot's guid_128, empty)
abbrev pub no_guid : List ℕ
no_guid = replicate 16 0

-- its GUID
abbrev pub guid_in : Option (List ℕ) → List ℕ
guid_in file = elim (content_in file) [ None ↦ no_guid | Some m ↦ unwrap_or m.guid no_guid ]
