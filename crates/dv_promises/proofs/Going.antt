-- What was told and written stays so in a log that goes on.
use Rattle.std.proofs.Common.{inl, inr, ℕ, ◌≤◌, List, length, Option, None, ◌∙◌, arith}
use Rattle.std.specs.Prelude.{All}
use Rattle.std.proofs.lemmas.List.Elements.{All-weaker}
use Rattle.dv_model.specs.declared.types.Command.{Command}
use Rattle.dv_model.specs.declared.types.Reply.{Reply}
use Rattle.dv_model.specs.Journals.{Log}
use Rattle.dv_model.specs.Sessions.{State}
use Rattle.dv_model.specs.Transcripts.{IsOwn, Turn}
use Rattle.dv_interleavings.specs.Worlds.{Session, Pending, Wrote as Write}
use Rattle.dv_promises.specs.Standing.{IsLive, IsStory, IsToldTurn, IsWriting}
use Rattle.dv_validity.proofs.Going.{same_refusal, told_on, wrote_on}
use Rattle.dv_validity.proofs.Logs.{Extends}
use Rattle.dv_promises.proofs.Small.{if_some}

module _ (log more : Log) (on : Extends log more) where
  pub turn_on : (s : ℕ) (t : Turn) → IsToldTurn log s t → IsToldTurn more s t
  turn_on s t is = record {
    met = (is.met.0, omega (arith, is.met.1, on.longer));
    told = told_on log more on s t.met t.behind t.before t.command t.replies t.after is.met.1 is.told;
  }

  pub turns_on : (s : ℕ) (turns : List Turn) → All (IsToldTurn log s) turns → All (IsToldTurn more s) turns
  turns_on s turns each = All-weaker (IsToldTurn log s) (IsToldTurn more s) (turn_on s) turns each

  abbrev pub story_on : (s : ℕ) (state : State) (replied : List (Command × List Reply)) → IsStory log s state replied → IsStory more s state replied
  story_on s state replied story = record {
    start = story.start;
    there = omega (arith, story.there, on.longer);
    turns = story.turns;
    each = turns_on s story.turns story.each;
    leads = story.leads;
    answers = story.answers;
  }

  module _ (s : ℕ) (back : (start k : ℕ) → IsOwn more s start k → IsOwn log s start k) where
    pub writing_on : (x : State) (write : Write) → IsWriting log s x write → IsWriting more s x write
    writing_on x write is =
        let le : write.met ≤ length log.entries = met_there is in
        record {
          before = is.before;
          was_there = on.same_at write.met le ∙ is.was_there;
          allowed = same_refusal log more on write.met is.before x write.command None le is.was_there is.allowed;
          wrote = wrote_on log more on s write.met write.place x.view write.command is.before le is.was_there is.wrote;
          told = is.told;
          there = omega (arith, is.there, on.longer);
          last = λ j own. is.last j (back write.met j own);
        }
      where
        met_there : IsWriting log s x write → write.met ≤ length log.entries
        met_there is = let high = is.there in elim is.wrote [ inl has ↦ let e = has.behind in omega arith | inr none ↦ let e = none.0 in omega arith ]

    -- a session that wrote nothing of what is new
    pub live_on : (published : ℕ) (pending : Option Pending) (session : Session) → IsLive log published pending s session → IsLive more published None s session
    live_on published pending session live = record {
      told = live.told;
      seen = live.seen;
      story = story_on s session.state session.answers live.story;
      ledger = λ k own. live.ledger k (back live.story.start k own);
      wrote = if_some (IsWriting log s session.state) (IsWriting more s session.state) session.wrote (writing_on session.state) live.wrote;
      loaded = live.loaded;
      pending = tt;
    }
