-- What a command writes is one good note more.
use Rattle.std.proofs.Common.{◌≡◌, ℕ, Bool, true, List, [], Some, None, Option, refl, sym, ap, subst, ◌∙◌, arith, fold, length}
use Rattle.std.specs.Prelude.{IsSome}
use Rattle.dv_model.specs.declared.types.Command.{Command}
use Rattle.dv_model.specs.declared.types.Command.TheVariants as command
use Rattle.dv_model.specs.declared.types.Entry.{Entry}
use Rattle.dv_model.specs.declared.types.Group.{Group}
use Rattle.dv_model.specs.declared.types.Mailbox.{Mailbox}
use Rattle.dv_model.specs.declared.types.Mark.{Mark}
use Rattle.dv_model.specs.Effects.{applied}
use Rattle.dv_model.specs.Journals.{IsU32, Log, mark_behind, mark_of}
use Rattle.dv_model.specs.Sessions.{group_of}
use Rattle.dv_model.specs.Views.{View}
use Rattle.dv_model.proofs.Transcripts.{mark_all}
use Rattle.dv_validity.proofs.Entries.{group_is_entry}
use Rattle.dv_validity.proofs.Groups.{append_raises, group_applies}
use Rattle.dv_validity.proofs.Logs.{resets_at, valid_at}
use Rattle.dv_validity.proofs.Texts.{new_guid_is}
use Rattle.dv_front.specs.declared.notes.Note.{Note}
use Rattle.dv_front.specs.Notes.{IsPlaced, entries_of}
use Rattle.dv_feed.specs.Feeds.{mark_from}
use Rattle.dv_notes.specs.Laws.{WritesAreGood}
use Rattle.dv_notes.specs.Logs.{log_of, note_of, post_of}
use Rattle.dv_notes.proofs.Logs.{fresh_entries, logs_are_sound, mailbox_at_end}
use Rattle.dv_notes.proofs.Notes.{notes_go_on}

-- its message is that of the UID that the mailbox gives out next
pub is_placed : (log : Log) (c : Command) (received : ℕ) (view : View) (m after : Mailbox) (guid : ℕ → List ℕ) → applied m (group_of c view m guid).records ≡ Some after
    → IsPlaced m.next_uid after.next_uid (post_of log c received m)
is_placed log (command.Append flags keywords message) received view m after guid is =
    (omega arith, append_raises flags keywords message view m after guid is, new_guid_is log.indexid m.uid_validity m.next_uid received)
is_placed log c received view m after guid is = tt

pub mark_at_end : (start : Log) (notes : List Note) → start.entries ≡ [] → start.rotates ≡ true → mark_of (log_of start notes) (length (log_of start notes).entries) ≡ mark_from start.start_mark (entries_of notes)
mark_at_end start notes fresh rotates =
    mark_all (log_of start notes)
    ∙ ap (λ (es : List Entry). fold (λ mark e. mark_behind start.rotates mark e.group) start.start_mark es) (fresh_entries start notes fresh)
    ∙ ap (λ (b : Bool). fold (λ mark e. mark_behind b mark e.group) start.start_mark (entries_of notes)) rotates

some_value : (o : Option Mailbox) → IsSome o → (m : Mailbox) × (o ≡ Some m)
some_value None is = absurd cc
some_value (Some m) is = (m, refl)

pub writes_are_good : WritesAreGood
writes_are_good start notes author view c received m are rotates is =
    let log : Log = log_of start notes in
    let sound = logs_are_sound start notes are in
    let g : Group = group_of c view m log.guid in
    let n : Note = note_of log author c received g m in
    let after = some_value (applied m g.records) (group_applies c view m log.guid is.command) in
    let entry = group_is_entry c view m log.guid author is.command (valid_at log sound _ m is.is_there) (resets_at log sound _ m is.is_there) sound.guids is.author_is is.uid is.some in
    let mark = mark_at_end start notes are.fresh rotates in
    let place : IsU32 (mark_behind true (mark_from start.start_mark (entries_of notes)) g).offset =
    subst (λ (b : Bool). IsU32 (mark_behind b (mark_from start.start_mark (entries_of notes)) g).offset) rotates (subst (λ (p : Mark). IsU32 (mark_behind log.rotates p g).offset) mark is.place) in
    record {
      sound = are.sound;
      fresh = are.fresh;
      good = notes_go_on start.start start.start_mark notes n m after.0 are.good (sym (mailbox_at_end start notes are.fresh) ∙ is.is_there) entry place after.1
          (is_placed log c received view m after.0 log.guid after.1);
    }
