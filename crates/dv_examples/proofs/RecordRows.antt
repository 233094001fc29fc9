-- What records do to a mailbox, and how they are written.
use Rattle.std.specs.Prelude.{◌≡◌, refl, ℕ, List, [], ◌∷◌, ◌++◌, map, Some, None, codes, take, true, false, Option}
use Rattle.dv_model.specs.declared.types.Body.TheVariants as body
use Rattle.dv_model.specs.declared.types.Command.TheVariants as command
use Rattle.dv_model.specs.declared.types.Current.{Current}
use Rattle.dv_model.specs.declared.types.End.{End}
use Rattle.dv_model.specs.declared.types.End.TheVariants.{Number, Star}
use Rattle.dv_model.specs.declared.types.Group.{Group}
use Rattle.dv_model.specs.declared.types.How.TheVariants as how
use Rattle.dv_model.specs.declared.types.Mailbox.{Mailbox}
use Rattle.dv_model.specs.declared.types.Record.{Record}
use Rattle.dv_model.specs.declared.types.Reply.{Reply}
use Rattle.dv_model.specs.declared.types.Reply.TheVariants as reply
use Rattle.dv_model.specs.declared.types.Row.{Row}
use Rattle.dv_model.specs.declared.types.Shown.{Shown}
use Rattle.dv_model.specs.declared.types.Span.{Span}
use Rattle.dv_model.specs.declared.types.Step.TheVariants.{Held, Full}
use Rattle.dv_model.specs.declared.types.Value.TheVariants as value
use Rattle.dv_model.specs.Effects.{after_record, applied}
use Rattle.dv_model.specs.Journals.{new_guid}
use Rattle.dv_model.specs.Mailboxes.{empty_mailbox}
use Rattle.dv_model.specs.Sessions.{external_record, group_of, internal_record, ranges_of}
use Rattle.dv_model.specs.Sets.{is_in_set}
use Rattle.dv_model.specs.Spelling.{group_text, size_code, size_value}
use Rattle.dv_model.specs.Views.{View, empty_view, moved, said}

-- ---- sizes

sizes : map size_code (0 ∷ 8 ∷ 508 ∷ 512 ∷ 8388604 ∷ 8388608 ∷ 1073741820 ∷ [])
    ≡ (0x80 ∷ 0x80 ∷ 0x80 ∷ 0x80 ∷ []) ∷ (0x80 ∷ 0x80 ∷ 0x80 ∷ 0x82 ∷ []) ∷ (0x80 ∷ 0x80 ∷ 0x80 ∷ 0xff ∷ []) ∷ (0x80 ∷ 0x80 ∷ 0x81 ∷ 0x80 ∷ [])
    ∷ (0x80 ∷ 0xff ∷ 0xff ∷ 0xff ∷ []) ∷ (0x81 ∷ 0x80 ∷ 0x80 ∷ 0x80 ∷ []) ∷ (0xff ∷ 0xff ∷ 0xff ∷ 0xff ∷ []) ∷ []
sizes = refl

no_size : size_value (0x80 ∷ 0x80 ∷ 0 ∷ 0x84 ∷ []) ≡ None
no_size = refl

-- ---- records

abbrev mail_row : ℕ → ℕ → List ℕ → ℕ → Row
mail_row uid flags keywords modseq = record { uid = uid; flags = flags; keywords = keywords; parts = []; modseq = modseq }

abbrev seven : Mailbox
seven = record (empty_mailbox 1000) { next_uid = 8; rows = mail_row 7 0 (0 ∷ []) 1 ∷ []; keywords = codes "old" ∷ [] }

-- a range that reaches past the last message, and a keyword in place of the others
wide_keyword : after_record seven (external_record (body.KeywordUpdate how.Replace (codes "new") (record { first = 1; last = 4294967295 } ∷ [])))
    ≡ Some (record seven { rows = mail_row 7 0 (1 ∷ []) 2 ∷ []; keywords = codes "old" ∷ codes "new" ∷ []; highest = 2 })
wide_keyword = refl

-- without the external mark an expunge removes nothing
request : after_record seven (record { top = 0; body = body.Expunge (record { first = 7; last = 7 } ∷ []) }) ≡ Some (record seven { highest = 2 })
request = refl

expunge : after_record seven (external_record (body.Expunge (record { first = 1; last = 7 } ∷ []))) ≡ Some (record seven { rows = []; highest = 2 })
expunge = refl

-- a UID that was given out is refused
refused : after_record seven (external_record (body.Append (record { uid = 7; flags = 0 } ∷ []))) ≡ None
refused = refl

-- flags are removed and then added, and a row that stays as it was shown keeps its number
flags_changed : after_record (record seven { rows = mail_row 6 9 [] 1 ∷ mail_row 7 8 [] 1 ∷ [] }) (external_record (body.FlagUpdate (record { first = 6; last = 7; add = 8; remove = 1 } ∷ [])))
    ≡ Some (record seven { rows = mail_row 6 8 [] 2 ∷ mail_row 7 8 [] 1 ∷ []; highest = 2 })
flags_changed = refl

-- ---- CHECK

abbrev one_seen : Mailbox
one_seen = record (empty_mailbox 1000) { next_uid = 2; rows = mail_row 1 8 [] 4 ∷ []; highest = 4 }

abbrev check_group : Group
check_group = group_of command.Check empty_view one_seen (λ uid. [])

check_text : group_text check_group
    ≡ (0x80 ∷ 0x80 ∷ 0x80 ∷ 0x89 ∷ 0x40 ∷ 0 ∷ 0 ∷ 0 ∷ 0xff ∷ 0xff ∷ 0xff ∷ 0xff ∷ 0 ∷ 0 ∷ 0 ∷ 0 ∷ 0 ∷ 0 ∷ 0 ∷ 0 ∷ 4 ∷ 0 ∷ 4 ∷ 0 ∷ 0 ∷ 0 ∷ 5 ∷ 0 ∷ 0x63 ∷ 0x61 ∷ 0x63 ∷ 0x68 ∷ 0x65 ∷ 0 ∷ 0 ∷ 0 ∷ [])
    ++ (0x80 ∷ 0x80 ∷ 0x80 ∷ 0x84 ∷ 0x80 ∷ 0 ∷ 0 ∷ 0 ∷ 1 ∷ 0 ∷ 0 ∷ 0 ∷ 0 ∷ 0 ∷ 0 ∷ 0 ∷ [])
    ++ (0x80 ∷ 0x80 ∷ 0x80 ∷ 0x84 ∷ 0 ∷ 2 ∷ 0 ∷ 0 ∷ 1 ∷ 0 ∷ 0 ∷ 0 ∷ 0x20 ∷ 0 ∷ 0 ∷ 0 ∷ [])
check_text = refl

-- the extension is there with its new number, and the row has its offset
check_effect : applied one_seen check_group.records
    ≡ Some (record one_seen {
      rows = record (mail_row 1 8 [] 4) { parts = (0x20 ∷ 0 ∷ 0 ∷ 0 ∷ []) ∷ [] } ∷ [];
      extensions = record { name = codes "cache"; reset_id = 1; header = []; record_size = 4; record_align = 4; flags = 0 } ∷ [];
      current = Some (record { extension = 0; size = 4 });
      highest = 7;
    })
check_effect = refl

-- ---- both steps of a view

abbrev shown_row : ℕ → ℕ → Shown
shown_row uid flags = record { uid = uid; flags = flags; keywords = []; modseq = 1 }

abbrev two_rows : View
two_rows = record { rows = shown_row 1 0 ∷ shown_row 2 0 ∷ []; next_uid = 3 }

-- the first message left, the second was seen, and a third came
abbrev later : Mailbox
later = record (empty_mailbox 1000) { next_uid = 4; rows = mail_row 2 8 [] 1 ∷ mail_row 3 0 [] 1 ∷ [] }

abbrev fetch : ℕ → ℕ → ℕ → Reply
fetch n uid flags = reply.Fetch n uid (value.Flags flags [] ∷ [])

full_step : said later two_rows (moved Full two_rows later) ≡ reply.Expunge 1 ∷ reply.Exists 2 ∷ fetch 1 2 8 ∷ fetch 2 3 0 ∷ []
full_step = refl

held_step : said later two_rows (moved Held two_rows later) ≡ reply.Exists 3 ∷ fetch 2 2 8 ∷ fetch 3 3 0 ∷ []
held_step = refl

-- ---- expunges with GUIDs

abbrev deleted_row : ℕ → Row
deleted_row uid = mail_row uid 4 [] 2

abbrev five_deleted : Mailbox
five_deleted = record (empty_mailbox 1000) { next_uid = 10; rows = map deleted_row (5 ∷ 6 ∷ 7 ∷ 8 ∷ 9 ∷ []); highest = 2 }

-- the size, the type, and the first UID with its GUID: the mailbox, its UIDVALIDITY, the UID and the time, each from the highest byte down
guid_record : take 28 (group_text (group_of command.Expunge empty_view five_deleted (λ uid. new_guid 1000 1000 uid 1001)))
    ≡ 0x80 ∷ 0x80 ∷ 0x80 ∷ 0x9b ∷ 0x90 ∷ 0xed ∷ 0 ∷ 0x10 ∷ 5 ∷ 0 ∷ 0 ∷ 0 ∷ 0 ∷ 0 ∷ 3 ∷ 0xe8 ∷ 0 ∷ 0 ∷ 3 ∷ 0xe8 ∷ 0 ∷ 0 ∷ 0 ∷ 5 ∷ 0 ∷ 0 ∷ 3 ∷ 0xe9 ∷ []
guid_record = refl

-- ---- sets and ranges

abbrev span : End → End → List Span
span from to = record { from = from; to = to } ∷ []

either_order : map (is_in_set 9 (span (Number 4) (Number 2))) (1 ∷ 2 ∷ 3 ∷ 4 ∷ 5 ∷ []) ≡ false ∷ true ∷ true ∷ true ∷ false ∷ []
either_order = refl

-- the largest number may stand below the other end
star_below : map (is_in_set 3 (span (Number 5) Star)) (2 ∷ 3 ∷ 5 ∷ 6 ∷ []) ≡ false ∷ true ∷ true ∷ false ∷ []
star_below = refl

consecutive : ranges_of (1 ∷ 2 ∷ 3 ∷ 5 ∷ 7 ∷ 8 ∷ []) ≡ record { first = 1; last = 3 } ∷ record { first = 5; last = 5 } ∷ record { first = 7; last = 8 } ∷ []
consecutive = refl

-- ---- extensions

abbrev intro : ℕ → ℕ → Record
intro reset_id size = internal_record (body.ExtIntro (record { ext_id = 4294967295; reset_id = reset_id; hdr_size = 2; record_size = size; record_align = 4; flags = 0; name = codes "x" } ∷ []))

abbrev with_x : ℕ → ℕ → List ℕ → Option Current → ℕ → Mailbox
with_x reset_id size part current highest = record seven {
  rows = record (mail_row 7 0 (0 ∷ []) 1) { parts = part ∷ [] } ∷ [];
  extensions = record { name = codes "x"; reset_id = reset_id; header = 0 ∷ 0 ∷ []; record_size = size; record_align = 4; flags = 0 } ∷ [];
  current = current;
  highest = highest;
}

-- each row gets zero bytes
introduced : after_record seven (intro 1 2) ≡ Some (with_x 1 2 (0 ∷ 0 ∷ []) (Some (record { extension = 0; size = 2 })) 2)
introduced = refl

-- sizes grow and never shrink
grown : after_record (with_x 1 2 (5 ∷ 6 ∷ []) None 2) (intro 1 4) ≡ Some (with_x 1 4 (5 ∷ 6 ∷ 0 ∷ 0 ∷ []) (Some (record { extension = 0; size = 4 })) 3)
grown = refl

never_smaller : after_record (with_x 1 4 (5 ∷ 6 ∷ 7 ∷ 8 ∷ []) None 2) (intro 1 2) ≡ Some (with_x 1 4 (5 ∷ 6 ∷ 7 ∷ 8 ∷ []) (Some (record { extension = 0; size = 2 })) 3)
never_smaller = refl

-- after a reset by another an introduction names none
other_reset : after_record (with_x 1 2 (5 ∷ 6 ∷ []) (Some (record { extension = 0; size = 2 })) 2) (intro 9 2) ≡ Some (with_x 1 2 (5 ∷ 6 ∷ []) None 3)
other_reset = refl

-- the first bytes of a part are written, and those behind them stay
part_update : after_record (with_x 1 4 (5 ∷ 6 ∷ 7 ∷ 8 ∷ []) (Some (record { extension = 0; size = 2 })) 2) (internal_record (body.ExtRecordUpdate (7 ∷ 0 ∷ 0 ∷ 0 ∷ 1 ∷ 2 ∷ 0 ∷ 0 ∷ [])))
    ≡ Some (with_x 1 4 (1 ∷ 2 ∷ 7 ∷ 8 ∷ []) (Some (record { extension = 0; size = 2 })) 3)
part_update = refl

-- too many bytes of a row
past_limits : after_record seven (intro 1 1025) ≡ Some (record seven { highest = 2 })
past_limits = refl
