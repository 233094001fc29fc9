-- Sessions over what they have seen.
use Rattle.std.proofs.Common.{◌≡◌, ◌∙◌, ◌++◌, ◌≤◌, ℕ, List, ap, append_assoc, arith, drop, length, refl, subst, sym}
use Rattle.std.proofs.lemmas.List.{map-append, take-append-drop}
use mathlib.Core.List.{IsPrefix}
use Rattle.dv_model.specs.declared.types.Entry.{Entry}
use Rattle.dv_model.specs.Journals.{IsSound, Log}
use Rattle.dv_interleavings.specs.Promises.{GoesOn}
use Rattle.dv_front.specs.declared.notes.Note.{Note}
use Rattle.dv_front.specs.Notes.{AreNotes, entries_of}
use Rattle.dv_front.proofs.Prefixes.{prefix_length}
use Rattle.dv_notes.specs.Logs.{AreNotesOf}
use Rattle.dv_notes.proofs.Logs.{logs_are_sound}
use Rattle.dv_notes.proofs.Notes.{fronts_are_good}
use Rattle.dv_member.specs.Members.{IsSession, Member, known_in, log_seen, notes_of}
use Rattle.dv_member.proofs.Turns.{log_long}
use Rattle.dv_keeper.proofs.Turning.{log_goes_on}

module _ (start : Log) (count : ℕ) where
  pub notes_good : (s : Member) → IsSession start count s → AreNotesOf start (notes_of s)
  notes_good s is = record {
    sound = is.good.sound;
    fresh = is.good.fresh;
    good = fronts_are_good start.start start.start_mark (notes_of s) (drop s.seen (known_in s.front))
        (subst (AreNotes start.start start.start_mark) (sym (take-append-drop s.seen (known_in s.front))) is.good.good);
  }

  pub log_sound : (s : Member) → IsSession start count s → IsSound (log_seen start s)
  log_sound s is = logs_are_sound start (notes_of s) (notes_good s is)

  -- the log that it has seen is as long as it has seen
  pub seen_long : (s : Member) → IsSession start count s → length (log_seen start s).entries ≡ s.seen
  seen_long s is = log_long start s is.start_is.fresh is.seen

  -- and goes on to that which it has seen then
  pub log_on : (old new : Member) → IsSession start count new → IsPrefix (notes_of old) (notes_of new) → GoesOn (log_seen start old) (log_seen start new)
  log_on old new is begins =
      let on = log_goes_on start (notes_of old) (notes_of new) begins (notes_good new is) in
      let more : List Note = begins.0 in
      record {
        start = (refl, refl);
        files = (refl, refl);
        more = entries_of more;
        entries =
            ap (λ (ns : List Note). start.entries ++ entries_of ns) (sym begins.1)
            ∙ ap (λ (es : List Entry). start.entries ++ es) (map-append (λ (n : Note). n.entry) (notes_of old) more)
            ∙ sym (append_assoc start.entries (entries_of (notes_of old)) (entries_of more));
        mailboxes = on.same_at;
        messages = on.messages;
      }

  pub seen_up : (old new : Member) → IsSession start count old → IsSession start count new → IsPrefix (notes_of old) (notes_of new) → old.seen ≤ new.seen
  seen_up old new is is_now begins = omega (arith, is.seen, is_now.seen, prefix_length (notes_of old) (notes_of new) begins)
