-- What is found in a folder whose log, rotated log and snapshot are these.
use Rattle.std.specs.Prelude.{◌≡◌, refl, ℕ, List, [], ◌∷◌, ◌++◌, length, take, replicate, None, Some}
use Rattle.dv_model.specs.declared.types.Body.TheVariants as body
use Rattle.dv_model.specs.declared.types.Mailbox.{Mailbox}
use Rattle.dv_model.specs.declared.types.Mark.{Mark}
use Rattle.dv_model.specs.Mailboxes.{empty_mailbox}
use Rattle.dv_model.specs.Sessions.{external_record, internal_record}
use Rattle.dv_logfile.specs.declared.header.LogHeader.{LogHeader}
use Rattle.dv_logfile.specs.Layout.{new_header}
use Rattle.dv_formats.specs.Snapshots.{snapshot_text}
use Rattle.dv_logfile.specs.Scans.{Spot, GoodLog, Missing, Good, BadSpot, BadHeader}
use Rattle.dv_openings.specs.Openings.{Snapshot, Finds, NoLog, BadLogHeader, BadRecord, BadIndex, Gap, found_in, mended}

abbrev mark : ℕ → ℕ → Mark
mark file_seq offset = record { file_seq = file_seq; offset = offset }

-- ---- the files

-- a new folder, an appended message, and its flag \Seen
abbrev spots : List Spot
spots =
    record { place = 40; is = internal_record (body.HeaderUpdate (record { offset = 24; bytes = 0xe8 ∷ 3 ∷ 0 ∷ 0 ∷ [] } ∷ [])) }
    ∷ record { place = 56; is = external_record (body.Append (record { uid = 1; flags = 0 } ∷ [])) }
    ∷ record { place = 72; is = external_record (body.FlagUpdate (record { first = 1; last = 1; add = 8; remove = 0 } ∷ [])) }
    ∷ []

abbrev first_log : GoodLog
first_log = record { header = new_header 1000; spots = spots; end = 92 }

-- a second file without records
abbrev second_header : LogHeader
second_header = record (new_header 1000) { file_seq = 2; prev_file_seq = 1; prev_file_offset = 92; initial_modseq = 4 }

abbrev second_log : GoodLog
second_log = record { header = second_header; spots = []; end = 40 }

-- the message with these flags, after the record of that number
abbrev one : ℕ → ℕ → ℕ → Mailbox
one flags modseq highest = record (empty_mailbox 1000) { next_uid = 2; rows = record { uid = 1; flags = flags; keywords = []; parts = []; modseq = modseq } ∷ []; highest = highest }

-- snapshots without modification sequences
abbrev old_index : ℕ → ℕ → Snapshot
old_index flags offset = record { version = 1; mailbox = one flags 1 1; indexid = 1000; mark = mark 1 offset }

-- ---- what is found

log_alone : found_in (Good first_log) Missing None ≡ Finds (one 8 4 4) (mark 1 92)
log_alone = refl

with_index : found_in (Good first_log) Missing (Some (old_index 0 72)) ≡ Finds (one 8 4 4) (mark 1 92)
with_index = refl

-- a snapshot at the log's end
at_end : found_in (Good first_log) Missing (Some (old_index 8 92)) ≡ Finds (one 8 4 4) (mark 1 92)
at_end = refl

with_rotated : found_in (Good second_log) (Good first_log) (Some (old_index 0 72)) ≡ Finds (one 8 4 4) (mark 2 40)
with_rotated = refl

-- the same log twice: the second doesn't take part
twice : found_in (Good first_log) (Good first_log) (Some (old_index 0 72)) ≡ Finds (one 8 4 4) (mark 1 92)
twice = refl

gap : found_in (Good second_log) Missing (Some (old_index 0 72)) ≡ Gap (mark 1 72) (mark 2 40)
gap = refl

-- the snapshot ends where the second log begins
joined : found_in (Good second_log) Missing (Some (old_index 8 92)) ≡ Finds (one 8 4 4) (mark 2 40)
joined = refl

without_index : found_in (Good second_log) (Good first_log) None ≡ Finds (one 8 4 4) (mark 2 40)
without_index = refl

bad_index : found_in (Good second_log) Missing None ≡ BadIndex
bad_index = refl

-- a snapshot of another mailbox counts as none
other_mailbox : found_in (Good first_log) Missing (Some (record (old_index 0 72) { indexid = 7 })) ≡ Finds (one 8 4 4) (mark 1 92)
other_mailbox = refl

-- an append of a UID that was given out
refused : found_in (Good (record first_log { spots = take 2 spots ++ record { place = 72; is = external_record (body.Append (record { uid = 1; flags = 0 } ∷ [])) } ∷ []; end = 88 })) Missing None ≡ BadRecord 72
refused = refl

no_log : found_in Missing Missing None ≡ NoLog
no_log = refl

bad_header : found_in BadHeader Missing None ≡ BadLogHeader
bad_header = refl

bad_record : found_in (BadSpot 72) Missing None ≡ BadRecord 72
bad_record = refl

-- ---- a snapshot's text

-- one message without keywords
index_text : snapshot_text 2 (one 8 4 4) 1000 (mark 1 92)
    ≡ (0xc9 ∷ 2 ∷ 0x78 ∷ 0 ∷ 120 ∷ 0 ∷ 0 ∷ 0 ∷ 16 ∷ 0 ∷ 0 ∷ 0 ∷ 0 ∷ 0 ∷ 0 ∷ 0 ∷ 0xe8 ∷ 3 ∷ 0 ∷ 0 ∷ 0 ∷ 0 ∷ 0 ∷ 0 ∷ 0xe8 ∷ 3 ∷ 0 ∷ 0 ∷ 2 ∷ 0 ∷ 0 ∷ 0 ∷ 1 ∷ 0 ∷ 0 ∷ 0 ∷ 1 ∷ 0 ∷ 0 ∷ 0 ∷ 92 ∷ 0 ∷ 0 ∷ 0 ∷ [])
    ++ replicate 16 0 ++ (1 ∷ 0 ∷ 0 ∷ 0 ∷ 0 ∷ 0 ∷ 0 ∷ 0 ∷ 4 ∷ 0 ∷ 0 ∷ 0 ∷ 0 ∷ 0 ∷ 0 ∷ 0 ∷ []) ++ replicate 44 0
    ++ (1 ∷ 0 ∷ 0 ∷ 0 ∷ 8 ∷ 0 ∷ 0 ∷ 0 ∷ 4 ∷ 0 ∷ 0 ∷ 0 ∷ 0 ∷ 0 ∷ 0 ∷ 0 ∷ [])
index_text = refl

index_size : length (snapshot_text 2 (one 8 4 4) 1000 (mark 1 92)) ≡ 136
index_size = refl

-- in version 1 it has no modification sequences
old_size : length (snapshot_text 1 (one 8 1 1) 1000 (mark 1 92)) ≡ 128
old_size = refl

-- ---- a log that was cut

-- four zero bytes close it
closed_again : mended (1 ∷ 2 ∷ []) 2 ≡ 1 ∷ 2 ∷ 0 ∷ 0 ∷ 0 ∷ 0 ∷ []
closed_again = refl

open_gate : mended (1 ∷ 2 ∷ 0x80 ∷ 0x80 ∷ []) 2 ≡ 1 ∷ 2 ∷ 0 ∷ 0 ∷ 0 ∷ 0 ∷ []
open_gate = refl

as_it_was : mended (1 ∷ 2 ∷ 0 ∷ 0 ∷ []) 2 ≡ 1 ∷ 2 ∷ 0 ∷ 0 ∷ []
as_it_was = refl
