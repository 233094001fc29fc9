-- A live session's story is a transcript of its log.
use Rattle.std.proofs.Common.{◌≡◌, ◌⊎◌, inl, inr, ℕ, ◌≤◌, Bool, true, false, List, [], ◌∷◌, ◌++◌, length, Option, Some, None, refl, sym, ◌∙◌, ap, subst, arith}
use Rattle.std.specs.Prelude.{All, IfSome, drop, map, take}
use Rattle.std.proofs.lemmas.List.Elements.{All-weaker}
use Rattle.dv_model.specs.declared.types.Command.{Command}
use Rattle.dv_model.specs.declared.types.Reply.{Reply}
use Rattle.dv_model.specs.declared.types.Mailbox.{Mailbox}
use Rattle.dv_model.specs.Journals.{Log, IsSound}
use Rattle.dv_model.specs.Transcripts.{AreWritten, AreWrittenBut, HasWritten, IsNextLeft, IsTurn, LeadsTo, Speaks, Turn, Wrote as HasWrote, WroteEntry}
use Rattle.dv_model.specs.Sessions.{State, group_of, is_write}
use Rattle.dv_model.specs.Views.{View}
use Rattle.dv_interleavings.specs.Promises.{IsSpoken, commands_of, replies_of, sent_of}
use Rattle.dv_interleavings.specs.Worlds.{World, Session, Pending, Wrote}
use Rattle.dv_promises.specs.Standing.{begins_at, IsLive, IsToldTurn, IsWaiting, IsWriting}
use Rattle.dv_promises.proofs.Telling.{reads_nothing}
use Rattle.dv_promises.proofs.Writing.{not_waiting}

abbrev pub pair_of : Turn → Command × List Reply
pair_of t = (t.command, t.replies)

-- ---- lists of answers

pub first_commands : (answers : List (Command × List Reply)) (more : List Command) → take (length (map (λ a. a.1) answers)) (map (λ a. a.0) answers ++ more) ≡ map (λ a. a.0) answers
first_commands [] more = refl
first_commands (a ∷ answers) more = ap (λ (cs : List Command). a.0 ∷ cs) (first_commands answers more)

pub other_commands : (answers : List (Command × List Reply)) (more : List Command) → drop (length (map (λ a. a.1) answers)) (map (λ a. a.0) answers ++ more) ≡ more
other_commands [] more = refl
other_commands (a ∷ answers) more = other_commands answers more

pub commands_are : (turns : List Turn) → map (λ t. t.command) turns ≡ map (λ a. a.0) (map pair_of turns)
commands_are [] = refl
commands_are (t ∷ turns) = ap (λ (cs : List Command). t.command ∷ cs) (commands_are turns)

pub replies_are : (turns : List Turn) → map (λ t. t.replies) turns ≡ map (λ a. a.1) (map pair_of turns)
replies_are [] = refl
replies_are (t ∷ turns) = ap (λ (rs : List (List Reply)). t.replies ∷ rs) (replies_are turns)

-- ---- the transcript

pub turns_answered : (log : Log) (s : ℕ) (turns : List Turn) → All (IsToldTurn log s) turns → All (IsTurn log 0 s) turns
turns_answered log s turns each = All-weaker (IsToldTurn log s) (IsTurn log 0 s) (λ t is. record { met = is.met; answered = inr (inr is.told) }) turns each

abbrev pub speaks_of : (log : Log) (s start : ℕ) (turns : List Turn) (state : State) (answers : List (Command × List Reply)) (more : List Command)
    → start ≤ length log.entries → All (IsTurn log 0 s) turns → LeadsTo (begins_at start) turns state → map pair_of turns ≡ answers
    → Speaks log 0 s (map (λ a. a.0) answers ++ more) (map (λ a. a.1) answers)
speaks_of log s start turns state answers more there each leads is = record {
  start = start;
  there = there;
  turns = turns;
  each = each;
  state = state;
  leads = leads;
  replied = replies_are turns ∙ ap (map (λ (a : Command × List Reply). a.1)) is;
  sent = commands_are turns ∙ ap (map (λ (a : Command × List Reply). a.0)) is ∙ sym (first_commands answers more);
}

-- a command that wrote an entry is a write
pub is_a_write : (log : Log) (s met q : ℕ) (v : View) (c : Command) (m : Mailbox) → HasWritten log s met q v c m → is_write c ≡ true
is_a_write log s met q v c m has = by_test (is_write c) refl
  where
    by_test : (b : Bool) → is_write c ≡ b → is_write c ≡ true
    by_test true is = is
    by_test false is = let none : length (group_of c v m log.guid).records ≡ 0 = ap length (reads_nothing c v m log.guid is) in let some = has.some in absurd (omega arith)

-- each own entry was written by a turn, or is that of the next command
abbrev pub Ledger : Log → ℕ → ℕ → List Turn → State → List Command → Type 0
Ledger log s start turns state rest = AreWritten log s start turns ⊎ ((last : ℕ) × IsNextLeft log s last state rest × AreWrittenBut log s start turns last)

module _ (log : Log) (published : ℕ) (pending : Option Pending) (s : ℕ) (session : Session) (live : IsLive log published pending s session) where
  none_waits : (wrote : Option Wrote) → IfSome wrote (λ (write : Wrote). write.place ≡ write.met) → (k : ℕ) → WroteEntry live.story.turns k ⊎ IsWaiting wrote k → WroteEntry live.story.turns k
  none_waits wrote same k (inl is) = is
  none_waits None same k (inr waits) = absurd waits
  none_waits (Some write) same k (inr waits) = let met = waits.0 in let place = waits.1 in absurd (omega arith)

  -- where no entry waits for its answer, all were written by turns
  pub all_written : IfSome session.wrote (λ (write : Wrote). write.place ≡ write.met) → AreWritten log s live.story.start live.story.turns
  all_written same k own = none_waits session.wrote same k (live.ledger k own)

  ledger_by : (wrote : Option Wrote) → session.wrote ≡ wrote → IfSome wrote (IsWriting log s session.state) → Ledger log s live.story.start live.story.turns session.state (sent_of wrote)
  ledger_by None none writing = inl (λ k own. not_waiting live.story.turns session.wrote k none (live.ledger k own))
  ledger_by (Some write) is writing = by_group writing.wrote
    where
      by_group : HasWrote log s write.met write.place session.state.view write.command writing.before → Ledger log s live.story.start live.story.turns session.state (write.command ∷ [])
      by_group (inr none) = inl (all_written (subst (λ (o : Option Wrote). IfSome o (λ (write : Wrote). write.place ≡ write.met)) (sym is) none.0))
      by_group (inl has) = inr (
        write.met,
        record {
          left = record {
            mailbox = writing.before;
            met = writing.was_there;
            told = writing.told;
            write = is_a_write log s write.met write.place session.state.view write.command writing.before has;
            allowed = writing.allowed;
            written = record { behind = refl; some = has.some; entry = has.entry; message = has.message };
          };
          last = writing.last;
        },
        λ k own. by_place k (subst (λ (o : Option Wrote). WroteEntry live.story.turns k ⊎ IsWaiting o k) is (live.ledger k own)),
      )
        where
          by_place : (k : ℕ) → WroteEntry live.story.turns k ⊎ IsWaiting (Some write) k → WroteEntry live.story.turns k ⊎ (k ≡ write.met)
          by_place k (inl wrote) = inl wrote
          by_place k (inr waits) = inr (sym waits.0)

  pub ledger_of : Ledger log s live.story.start live.story.turns session.state (sent_of session.wrote)
  ledger_of = ledger_by session.wrote refl live.wrote

  abbrev pub speaks_live : Speaks log 0 s (commands_of session) (replies_of session)
  speaks_live = speaks_of log s live.story.start live.story.turns session.state session.answers (sent_of session.wrote) live.story.there (turns_answered log s live.story.turns live.story.each) live.story.leads live.story.answers

  pub entries_live : Ledger log s live.story.start live.story.turns session.state (drop (length (replies_of session)) (commands_of session))
  entries_live = subst (Ledger log s live.story.start live.story.turns session.state) (sym (other_commands session.answers (sent_of session.wrote))) ledger_of

pub is_spoken : (w : World) (s : ℕ) (session : Session) → IsSound w.log → IsLive w.log w.published w.pending s session → IsSpoken w s session
is_spoken w s session sound live = record {
  spoken = record { sound = sound; speaks = speaks_live w.log w.published w.pending s session live; entries = entries_live w.log w.published w.pending s session live };
  state = refl;
}
