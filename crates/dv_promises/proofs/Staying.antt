-- Through all of a session's turns each message number keeps its UID until an EXPUNGE is heard or a SELECT begins.
use Rattle.std.proofs.Common.{◌≡◌, Bool, true, false, List, [], ◌∷◌, Option, None, refl, sym, subst, ℕ}
use Rattle.std.specs.Prelude.{All, flat_map, fold, map}
use Rattle.std.proofs.lemmas.List.Elements.{All-head, All-tail}
use Rattle.dv_model.specs.declared.types.Command.{Command}
use Rattle.dv_model.specs.declared.types.Command.TheVariants as command
use Rattle.dv_model.specs.declared.types.Mailbox.{Mailbox}
use Rattle.dv_model.specs.declared.types.Reply.{Reply}
use Rattle.dv_model.specs.Journals.{Log, IsSound, mark_of}
use Rattle.dv_model.specs.Sessions.{Answer, State, answer, is_select, step_of}
use Rattle.dv_model.specs.Transcripts.{LeadsTo, Turn, refused_at}
use Rattle.dv_model.specs.Views.{Known, empty_view, moved}
use Rattle.dv_interleavings.specs.Promises.{Heard, Hears, NumbersStay, heard_of, knows}
use Rattle.dv_interleavings.specs.Worlds.{Session, Pending}
use Rattle.dv_promises.specs.Standing.{begins_at, IsLive, IsToldTurn}
use Rattle.dv_promises.proofs.Knowing.{Knows, KnowsSelected, follows_later, is_selected, other_knows, select_knows}
use Rattle.dv_promises.proofs.Numbering.{AreSteady, Steady, answer_steady, known_heard, select_steady, steady_replies, steady_stay, steady_then}
use Rattle.dv_promises.proofs.Transcripts.{pair_of}

-- what comes of a command that isn't SELECT
pub heard_other : (c : Command) (replies : List Reply) → is_select c ≡ false → heard_of (c, replies) ≡ map Hears replies
heard_other command.Select replies other = absurd cc
heard_other c replies other = refl

-- an answer keeps the numbers, and behind it the client has the view
pub record KeepsOn (log : Log) (client : List Known) (c : Command) (a : Answer) : Type 0 where
  pub steady : AreSteady client (heard_of (c, a.replies))
  pub known : Knows log a.next (fold knows client (heard_of (c, a.replies)))

module _ (log : Log) (sound : IsSound log) (s : ℕ) where
  module _ (t : Turn) (client : List Known) (told : IsToldTurn log s t) (known : KnowsSelected log sound t.before client) where
    abbrev before : Mailbox
    before = told.told.before

    abbrev m : Mailbox
    m = told.told.mailbox

    abbrev answer_to : Command → Answer
    answer_to c = answer log.mail t.before c before t.behind m (mark_of log t.behind)

    select_keeps : KeepsOn log client command.Select (answer_to command.Select)
    select_keeps =
        let replies : List Reply = (answer_to command.Select).replies in
        record {
          steady = (λ e. absurd cc, steady_replies [] replies (select_steady log.mail before m (moved (step_of command.Select) empty_view m) (mark_of log t.behind)));
          known =
              subst (Knows log (answer_to command.Select).next) (sym (known_heard [] replies))
              (select_knows log sound log.mail t.before before m t.behind (mark_of log t.behind) told.told.is_there []);
        }

    other_keeps : (c : Command) → is_select c ≡ false → refused_at log t.met t.before c before ≡ None → KeepsOn log client c (answer_to c)
    other_keeps command.Select other allowed = absurd cc
    other_keeps c other allowed =
        let has : Knows log t.before client = known (is_selected log t.met t.before c before other allowed) in
        let replies : List Reply = (answer_to c).replies in
        let steady : Steady client replies =
        subst (λ rows. Steady rows replies) (sym has.client)
        (answer_steady log.mail c (step_of c) has.mailbox before m t.before.view (mark_of log t.behind) has.read
        (follows_later log sound t.before client has t.behind m told.told.seen.0 told.told.is_there)) in
        record {
          steady = steady_replies client replies steady;
          known =
              subst (Knows log (answer_to c).next) (sym (known_heard client replies))
              (other_knows log sound log.mail t.before before m t.behind (mark_of log t.behind) told.told.is_there c client other told.told.seen.0 has);
        }

    pub turn_keeps : KeepsOn log client t.command (record { replies = t.replies; next = t.after })
    turn_keeps = subst (KeepsOn log client t.command) told.told.is (by_command t.command (is_select t.command) refl told.told.allowed)
      where
        by_command : (c : Command) (b : Bool) → is_select c ≡ b → refused_at log t.met t.before c told.told.before ≡ None
            → KeepsOn log client c (answer log.mail t.before c told.told.before t.behind told.told.mailbox (mark_of log t.behind))
        by_command command.Select b is allowed = select_keeps
        by_command c true is allowed = absurd cc
        by_command c false is allowed = other_keeps c is allowed

  turns_steady : (x : State) (turns : List Turn) (y : State) (client : List Known) → All (IsToldTurn log s) turns → LeadsTo x turns y → KnowsSelected log sound x client
      → AreSteady client (flat_map heard_of (map pair_of turns))
  turns_steady x [] y client each leads known = tt
  turns_steady x (t ∷ turns) y client each leads known =
      let first = turn_keeps t client (All-head (IsToldTurn log s) t turns each) (subst (λ z. KnowsSelected log sound z client) (sym leads.0) known) in
      let hs : List Heard = heard_of (pair_of t) in
      steady_then client hs (flat_map heard_of (map pair_of turns)) first.steady
      (turns_steady t.after turns y (fold knows client hs) (All-tail (IsToldTurn log s) t turns each) leads.1 (λ selected. first.known))

pub numbers_stay : (log : Log) (sound : IsSound log) (published : ℕ) (pending : Option Pending) (s : ℕ) (session : Session) → IsLive log published pending s session → NumbersStay session
numbers_stay log sound published pending s session live before between behind is keeps =
    steady_stay (flat_map heard_of session.answers) before between behind
    (subst (λ answers. AreSteady [] (flat_map heard_of answers)) live.story.answers
    (turns_steady log sound s (begins_at live.story.start) live.story.turns session.state [] live.story.each live.story.leads (λ selected. absurd cc)))
    is keeps
