-- What clients with older states hear, and what they have then: both sides of each theorem compute.
use Rattle.std.specs.Prelude.{◌≡◌, refl, ℕ, List, [], ◌∷◌, ◌++◌, codes, length, Option, Some, option_map}
use Rattle.std.specs.Fmt.{digits}
use Rattle.dv_model.specs.declared.types.Command.TheVariants as command
use Rattle.dv_model.specs.declared.types.Mailbox.{Mailbox}
use Rattle.dv_model.specs.declared.types.Span.{Span}
use Rattle.dv_model.specs.Journals.{Log, at}
use Rattle.dv_qresync.specs.declared.types.Replica.{Replica}
use Rattle.dv_qresync.specs.Answers.{resynced}
use Rattle.dv_qresync.specs.Replicas.{caught_up, old_of, replica_of}
use Rattle.dv_qresync.specs.Texts.{answers_text}
use Rattle.dv_examples.proofs.Played.{NamedLine, after_lines, created, text_lines}
use Rattle.dv_examples.proofs.Rows.{a, nine, numbers, one_seen}

-- the mailbox behind these lines
abbrev behind : List NamedLine → Option Mailbox
behind lines = last (after_lines created lines).log
  where
    last : Log → Option Mailbox
    last log = at log (length log.entries)

-- what a client with this state hears of it
abbrev heard_behind : List NamedLine → ℕ → ℕ → List Span → Option (List ℕ)
heard_behind lines validity modseq uids =
    option_map (λ m. answers_text (resynced m (record { uid_validity = validity; modseq = modseq; uids = uids }))) (behind lines)

abbrev five_gone : List NamedLine
five_gone = nine ++ a command.Expunge ∷ []

-- a changed message, and UIDs that were never given out
changed_flags : heard_behind one_seen 1000 3 (numbers 1 5) ≡ Some (text_lines (codes "* 1 FETCH (UID 1 FLAGS (\\Seen) MODSEQ (4))" ∷ codes "* OK [HIGHESTMODSEQ 4]" ∷ []))
unfolding digits
changed_flags = refl

-- expunged messages
vanished_messages : heard_behind five_gone 1000 12 (numbers 1 9) ≡ Some (text_lines (codes "* VANISHED (EARLIER) 5:9" ∷ codes "* OK [HIGHESTMODSEQ 13]" ∷ []))
unfolding digits
vanished_messages = refl

-- another UIDVALIDITY
begun_anew : heard_behind one_seen 999 4 (numbers 1 1)
    ≡ Some (text_lines (codes "* OK [UIDVALIDITY 1000]" ∷ codes "* 1 FETCH (UID 1 FLAGS (\\Seen) MODSEQ (4))" ∷ codes "* OK [HIGHESTMODSEQ 4]" ∷ []))
unfolding digits
begun_anew = refl

-- nothing has changed
nothing_new : heard_behind one_seen 1000 4 (numbers 1 1) ≡ Some (text_lines (codes "* OK [HIGHESTMODSEQ 4]" ∷ []))
unfolding digits
nothing_new = refl

-- a replica that hears what its state asks
abbrev caught_up_to : Mailbox → Replica → Replica
caught_up_to m r = caught_up r (resynced m (old_of r))

-- from the mailbox of a new folder to those of the lines
becomes_changed : option_map (λ m. caught_up_to m (replica_of created.start)) (behind one_seen) ≡ option_map replica_of (behind one_seen)
becomes_changed = refl

becomes_shorter : option_map (λ m. caught_up_to m (replica_of created.start)) (behind five_gone) ≡ option_map replica_of (behind five_gone)
becomes_shorter = refl

-- and from one of nine messages to that without five of them
loses_five : option_map (λ old. option_map (λ m. caught_up_to m (replica_of old)) (behind five_gone)) (behind nine) ≡ Some (option_map replica_of (behind five_gone))
loses_five = refl
