-- What a session is told by a SELECT, and by a reading behind it.
use Rattle.std.proofs.Common.{◌≡◌, ◌∙◌, ◌⊎◌, inl, inr, ℕ, true, List, [], ◌++◌, Result, Ok, Err, ap, length, refl, sym}
use Rattle.std.specs.Prelude.{IfOk}
use Rattle.dv_model.specs.declared.memory.NoMemory.{NoMemory}
use Rattle.dv_model.specs.declared.types.Command.{Command}
use Rattle.dv_model.specs.declared.types.Command.TheVariants.{Select}
use Rattle.dv_model.specs.declared.types.Reply.{Reply}
use Rattle.dv_model.specs.Journals.{Log}
use Rattle.dv_model.specs.Transcripts.{IsTurn}
use Rattle.dv_front.specs.declared.notes.Note.{Note}
use Rattle.dv_generations.specs.Feeds.{Feed, journal}
use Rattle.dv_member.specs.Calls.{HasCaughtUp, IsAsBefore, turn_of, turned}
use Rattle.dv_member.specs.Members.{IsSession, Member, log_seen, notes_of}
use Rattle.dv_plans.specs.declared.fault.StoreFault.{StoreFault}
use Rattle.dv_serving.specs.Taking.{Takes}
use Rattle.dv_keeper.specs.Selecting.{HasSelected, LeavesSelected, SelectsAndReads}
use Rattle.dv_keeper.specs.Sessions.{HasRejoined}
use Rattle.dv_keeper.specs.Turns.{HasAnswered, HasSeen, LeavesReader}

-- ---- the SELECT

pub rejoined : (f : Feed) (old new : Member) → HasCaughtUp f old new → HasRejoined old new
rejoined f old new has = record {
  newest = record { unsealed = has.all.unsealed; newest = has.all.tables.0 ∙ sym has.all.newest; tables = has.all.tables.1 };
  now = has.now;
}

-- it has seen all, and no more
pub caught_seen : (start : Log) (count : ℕ) (f : Feed) (old new : Member) → HasCaughtUp f old new → IsSession start count new → HasSeen (journal f) new
caught_seen start count f old new has session = record { are = has.all.notes; many = sym session.seen ∙ ap (λ (ns : List Note). length ns) has.all.notes }

pub selects : (start : Log) (count : ℕ) (f : Feed) (old caught new : Member) → HasCaughtUp f old caught → IsSession start count caught → IsSession start count new
    → IsTurn (log_seen start caught) count caught.number (turn_of (log_seen start caught) caught Select)
    → new ≡ turned caught (record new.follower { state = (turn_of (log_seen start caught) caught Select).after })
    → HasSelected start count (journal f) (turn_of (log_seen start caught) caught Select).replies old new
selects start count f old caught new has met session turn now =
    let are : notes_of new ≡ journal f = ap notes_of now ∙ has.all.notes in
    record {
      caught = caught;
      joined = rejoined f old caught has;
      met = met;
      turn = turn;
      said = refl;
      now = now;
      seen = record { are = are; many = sym session.seen ∙ ap (λ (ns : List Note). length ns) are };
      session = session;
    }

-- memory ran out before it was answered
pub left_early : {A : Type 0} (start : Log) (count : ℕ) (notes : List Note) (came : Result A StoreFault) (old new : Member) (e : NoMemory) → IsAsBefore old new ⊎ (HasRejoined old new × HasSeen notes new) → LeavesSelected start count notes came old new (Err e)
left_early start count notes came old new e (inl before) = inl before
left_early start count notes came old new e (inr caught) = inr (inl caught)

module _ (start : Log) (count : ℕ) (notes : List Note) (first : List Reply) (old shown : Member) (selected : HasSelected start count notes first old shown) where
  pub shown_selected : shown.follower.state.selected ≡ true
  shown_selected = ap (λ (s : Member). s.follower.state.selected) selected.now

  pub shown_spent : shown.spent ≡ old.spent
  shown_spent = ap (λ (s : Member). s.spent) selected.now ∙ ap (λ (s : Member). s.spent) selected.joined.now

  -- ---- the reading behind it

  module _ (new : Member) (came : Result (List ℕ) StoreFault) where
    pub leaves_selected : (result : Result (Unit {0}) NoMemory) → LeavesReader notes came shown new result → LeavesSelected start count notes came old new result
    leaves_selected (Ok done) reads = record { lines = first; shown = shown; selected = selected; reads = reads }
    leaves_selected (Err e) reads = inr (inr (record { lines = first; shown = shown; selected = selected; reads = reads }))

    -- the replies to both are one list
    pub both_turns : {R : Type 0} (with : R → List Reply → R) (more : (x : R) (a b : List Reply) → with (with x a) b ≡ with x (a ++ b)) (said mid now : R) → mid ≡ with said first → (c : Command)
        → (result : Result (Unit {0}) NoMemory) → LeavesReader notes came shown new result
        → Takes with mid now result (λ told. IfOk told (λ lines. HasAnswered start count c lines shown new))
        → Takes with said now result (λ told. IfOk told (λ lines. SelectsAndReads start count c lines old new))
    both_turns with more said mid now taken c (Ok done) reads turn = record {
      replies = first ++ turn.replies;
      taken = turn.taken ∙ ap (λ x. with x turn.replies) taken ∙ more said first turn.replies;
      holds = record {
        notes = notes;
        first = first;
        second = turn.replies;
        lines_are = refl;
        shown = shown;
        selected = selected;
        came = came;
        reads = reads;
        answered = turn.holds;
      };
    }
    both_turns with more said mid now taken c (Err e) reads turn = record { replies = []; taken = tt; holds = tt }
