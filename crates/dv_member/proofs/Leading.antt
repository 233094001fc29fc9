-- Good notes lead from the mailbox behind the first of them to that behind all.
use Rattle.std.proofs.Common.{◌≡◌, ℕ, true, List, [], ◌∷◌, ◌++◌, Some, length, take, drop, refl, sym, ap, subst, ◌∙◌, arith}
use Rattle.std.specs.Prelude.{All, option_and_then}
use Rattle.std.proofs.lemmas.List.{map-append, take-append-drop}
use Rattle.std.proofs.lemmas.List.Concat.{flat_map-append, flat_map-cons}
use Rattle.std.proofs.lemmas.List.Elements.{All-append, All-head, All-nil, All-tail}
use Rattle.dv_model.specs.declared.types.Entry.{Entry}
use Rattle.dv_model.specs.declared.types.Mailbox.{Mailbox}
use Rattle.dv_model.specs.declared.types.Mark.{Mark}
use Rattle.dv_model.specs.Effects.{applied}
use Rattle.dv_model.specs.Journals.{IsEntry, IsSound, Log, mark_behind}
use Rattle.dv_model.specs.Mailboxes.{IsValid}
use Rattle.dv_model.specs.Spelling.{IsRecord}
use Rattle.dv_model.proofs.Transcripts.{applied_append}
use Rattle.dv_validity.proofs.Logs.{records_of, some_at, valid_at}
use Rattle.dv_front.specs.declared.notes.Note.{Note}
use Rattle.dv_front.specs.Notes.{AreNotes, entries_of}
use Rattle.dv_front.proofs.NoteLemmas.{are_entries}
use Rattle.dv_feed.specs.Feeds.{mark_from}
use Rattle.dv_notes.specs.Logs.{AreNotesOf, log_of, mailbox_behind}
use Rattle.dv_notes.proofs.Logs.{logs_are_sound, mailbox_at_end, mailboxes_by_notes}
use Rattle.dv_notes.proofs.Notes.{behind}
use Rattle.dv_member.specs.Batches.{records_in}

pub records_append : (xs ys : List Note) → records_in (xs ++ ys) ≡ records_in xs ++ records_in ys
records_append xs ys = ap records_of (map-append (λ (n : Note). n.entry) xs ys) ∙ flat_map-append (λ (e : Entry). e.group.records) (entries_of xs) (entries_of ys)

pub mark_append : (mark : Mark) (xs ys : List Note) → mark_from mark (entries_of (xs ++ ys)) ≡ mark_from (mark_from mark (entries_of xs)) (entries_of ys)
mark_append mark [] ys = refl
mark_append mark (x ∷ xs) ys = mark_append (mark_behind true mark x.entry.group) xs ys

mailbox_append : (m : Mailbox) (xs ys : List Note) → mailbox_behind m (xs ++ ys) ≡ option_and_then (λ (x : Mailbox). mailbox_behind x ys) (mailbox_behind m xs)
mailbox_append m xs ys = ap (applied m) (records_append xs ys) ∙ applied_append (records_in xs) (records_in ys) m

-- the entries of notes behind good ones
pub entries_behind : (m : Mailbox) (mark : Mark) (notes part : List Note) → AreNotes m mark (notes ++ part) → All IsEntry (entries_of part)
entries_behind m mark notes part good = let rest = behind m mark notes part good in are_entries rest.last (mark_from mark (entries_of notes)) part rest.good

are_records : (es : List Entry) → All IsEntry es → All IsRecord (records_of es)
are_records [] all = All-nil IsRecord
are_records (e ∷ es) all =
    subst (All IsRecord) (sym (flat_map-cons (λ (x : Entry). x.group.records) e es))
    (All-append IsRecord e.group.records (records_of es) (All-head IsEntry e es all).records (are_records es (All-tail IsEntry e es all)))

pub records_behind : (m : Mailbox) (mark : Mark) (notes part : List Note) → AreNotes m mark (notes ++ part) → All IsRecord (records_in part)
records_behind m mark notes part good = are_records (entries_of part) (entries_behind m mark notes part good)

-- from the mailbox behind the first of them
pub record Between (start : Log) (notes : List Note) (from : ℕ) (m : Mailbox) : Type 0 where
  pub after : Mailbox
  pub is : mailbox_behind start.start notes ≡ Some after
  pub applies : applied m (records_in (drop from notes)) ≡ Some after
  pub valid : IsValid m × IsValid after

pub between : (start : Log) (notes : List Note) (from : ℕ) (m : Mailbox) → AreNotesOf start notes → mailbox_behind start.start (take from notes) ≡ Some m → Between start notes from m
between start notes from m are is =
    let log : Log = log_of start notes in
    let sound : IsSound log = logs_are_sound start notes are in
    let last = some_at log sound (length log.entries) (omega arith) in
    let end : mailbox_behind start.start notes ≡ Some last.0 = sym (mailbox_at_end start notes are.fresh) ∙ last.1 in
    record {
      after = last.0;
      is = end;
      applies = ap (option_and_then (λ (x : Mailbox). mailbox_behind x (drop from notes))) (sym is)
          ∙ sym (mailbox_append start.start (take from notes) (drop from notes))
          ∙ ap (mailbox_behind start.start) (take-append-drop from notes)
          ∙ end;
      valid = (valid_at log sound from m (mailboxes_by_notes start notes from are.fresh ∙ is), valid_at log sound (length log.entries) last.0 last.1);
    }
