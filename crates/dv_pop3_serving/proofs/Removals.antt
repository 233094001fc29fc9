-- One session that has a log for itself writes one entry at most.
use Rattle.std.proofs.Common.{◌≡◌, ◌⊎◌, ◌∙◌, inl, inr, ℕ, ◌<◌, List, [], ◌∷◌, Some, Result, Ok, Err, ap, arith, length, refl, subst, sym}
use Rattle.std.specs.Prelude.{slice_get}
use Rattle.std.proofs.lemmas.Option.{same_Some, slice_get_within}
use mathlib.Core.List.{IsPrefix}
use Rattle.dv_model.specs.declared.types.Entry.{Entry}
use Rattle.dv_model.specs.declared.types.Mailbox.{Mailbox}
use Rattle.dv_model.specs.Journals.{Log, at}
use Rattle.dv_model.specs.Sessions.{group_of}
use Rattle.dv_front.specs.declared.notes.Note.{Note}
use Rattle.dv_front.proofs.Prefixes.{prefix_length, prefix_whole}
use Rattle.dv_notes.specs.Logs.{AreNotesOf, log_of}
use Rattle.dv_serving.specs.Outputs.{Output}
use Rattle.dv_maildrop.specs.declared.types.Listed.{Listed}
use Rattle.dv_maildrop.specs.declared.types.PopLine.{PopLine}
use Rattle.dv_maildrop.specs.Maildrops.{Transaction}
use Rattle.dv_member.specs.Members.{Member, log_seen, notes_of}
use Rattle.dv_keeper.specs.Sessions.{IsNewSession}
use Rattle.dv_pop3.specs.declared.entering.PopFault.{PopFault}
use Rattle.dv_pop3.specs.declared.entering.PopFault.TheVariants as fault
use Rattle.dv_pop3.specs.declared.lines.LinesEnd.{LinesEnd}
use Rattle.dv_pop3.specs.Entries.{IsEntry, WritesOnce}
use Rattle.dv_pop3.specs.Findings.{removal_of}
use Rattle.dv_pop3.specs.Logins.{IsUnlisted}
use Rattle.dv_pop3.specs.Servings.{HasConversed, HasServed}
use Rattle.dv_pop3.proofs.Once.{sessions_write_once}
use Rattle.dv_threads.proofs.Sessions.{log_long}
use Rattle.dv_pop3_serving.specs.Removals.{HasRemoval, WritesOnly}

none_of_none : {X : Type 0} (xs : List X) → length xs ≡ 0 → xs ≡ []
none_of_none [] none = refl
none_of_none (x ∷ xs) none = absurd (omega (arith, none))

one_of_one : {X : Type 0} (xs : List X) (x : X) → length xs ≡ 1 → slice_get xs 0 ≡ Some x → xs ≡ x ∷ []
one_of_one [] x one is = absurd (omega (arith, one))
one_of_one (y ∷ []) x one is = ap (λ (z : _). z ∷ []) (same_Some y x is)
one_of_one (y ∷ z ∷ xs) x one is = absurd (omega (arith, one))

module _ (start : Log) (notes : List Note) (are : AreNotesOf start notes) (last : Member) (seen : IsPrefix (notes_of last) notes) (wrote : last.wrote ≡ length notes) where
  -- nothing was written
  none_written : last.wrote ≡ 0 → (log_of start notes).entries ≡ []
  none_written none = none_of_none (log_of start notes).entries (log_long start notes are.fresh ∙ sym wrote ∙ none)

  -- or one entry
  module _ (m : Transaction) (s : Member) (entry : IsEntry start m s last) (number : s.number ≡ 1) (none : s.wrote ≡ 0) where
    abbrev log : Log
    log = log_seen start last

    abbrev first : Entry
    first = record { author = s.number; group = group_of (removal_of m) s.follower.state.view entry.mailbox log.guid }

    one : length notes ≡ 1
    one = omega (arith, wrote, entry.wrote, none)

    long : length log.entries ≡ length (notes_of last)
    long = log_long start (notes_of last) are.fresh

    within : entry.met < length log.entries
    within = slice_get_within log.entries entry.met first entry.written.entry

    met_first : entry.met ≡ 0
    met_first = omega (arith, one, long, within, prefix_length (notes_of last) notes seen)

    whole : notes_of last ≡ notes
    whole = prefix_whole (notes_of last) notes seen (omega (arith, one, long, within))

    is_start : entry.mailbox ≡ start.start
    is_start = sym (same_Some start.start entry.mailbox (subst (λ (k : ℕ). at log k ≡ Some entry.mailbox) met_first entry.was_there))

    only : log.entries ≡ first ∷ []
    only = one_of_one log.entries first (long ∙ ap length whole ∙ one) (subst (λ (k : ℕ). slice_get log.entries k ≡ Some first) met_first entry.written.entry)

    removal : HasRemoval log m.rows
    removal = record {
      maildrop = m;
      rows_are = refl;
      view = s.follower.state.view;
      entries =
          only
          ∙ ap (λ (n : ℕ). record { author = n; group = group_of (removal_of m) s.follower.state.view entry.mailbox log.guid } ∷ []) number
          ∙ ap (λ (b : Mailbox). record { author = 1; group = group_of (removal_of m) s.follower.state.view b log.guid } ∷ []) is_start;
    }

    has_removal : (rows : List Listed) → m.rows ≡ rows → HasRemoval (log_of start notes) rows
    has_removal rows same =
        subst (HasRemoval (log_of start notes)) same
        (subst (λ (ns : List Note). HasRemoval (log_of start ns) m.rows) whole removal)

  module _ (count : ℕ) (first : Member) (is_new : IsNewSession start 1 first) (lines : List PopLine) (out : Output) where
    new_wrote : first.wrote ≡ 0
    new_wrote = ap (λ (s : Member). s.wrote) is_new.is

    new_number : first.number ≡ 1
    new_number = ap (λ (s : Member). s.number) is_new.is

    unlisted_wrote : (f : PopFault) → IsUnlisted count f first last → last.wrote ≡ first.wrote
    unlisted_wrote (fault.Disk n) is = is.1
    unlisted_wrote fault.NoMemory (failures, few, refused, same, fresh) = same

    conversed : (e : LinesEnd) (has : HasConversed start count first last lines e out) → ((log_of start notes).entries ≡ []) ⊎ HasRemoval (log_of start notes) has.first.maildrop.rows
    conversed e has = by (sessions_write_once start count has.first has.spoken.last lines e has.spoken.answers.answers_lines)
      where
        quiet_wrote : has.first.session.wrote ≡ 0
        quiet_wrote = has.listed.quiet.wrote ∙ new_wrote

        quiet_number : has.first.session.number ≡ 1
        quiet_number = has.listed.quiet.number ∙ new_number

        by : WritesOnce start has.first has.spoken.last → ((log_of start notes).entries ≡ []) ⊎ HasRemoval (log_of start notes) has.first.maildrop.rows
        by (inl same) = inl (none_written (ap (λ (s : Member). s.wrote) (sym has.spoken.session) ∙ same ∙ quiet_wrote))
        by (inr marked) =
            inr (has_removal marked.maildrop marked.session (subst (IsEntry start marked.maildrop marked.session) has.spoken.session marked.entry) (marked.number ∙ quiet_number) (marked.wrote ∙ quiet_wrote) has.first.maildrop.rows marked.rows)

    pub writes_only : (came : Result LinesEnd PopFault) (served : HasServed start count first last lines came out) → WritesOnly start count first last lines out came served (log_of start notes)
    writes_only (Ok e) served = conversed e served
    writes_only (Err f) served = none_written (unlisted_wrote f served.0 ∙ new_wrote)
