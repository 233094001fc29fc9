-- What a session's answered FETCH by UIDs leaves of it, and what its lines are.
use Rattle.std.proofs.Common.{◌≡◌, ◌⊎◌, inl, inr, ℕ, ◌+◌, true, false, List, [], ◌∷◌, Some, None, refl, sym, ap, subst, ◌∙◌, arith}
use Rattle.std.proofs.lemmas.Option.{same_Some}
use mathlib.Core.List.{IsPrefix}
use Rattle.dv_model.specs.declared.types.Command.{Command}
use Rattle.dv_model.specs.declared.types.Command.TheVariants as command
use Rattle.dv_model.specs.declared.types.Item.{Item}
use Rattle.dv_model.specs.declared.types.Mailbox.{Mailbox}
use Rattle.dv_model.specs.declared.types.Reply.{Reply}
use Rattle.dv_model.specs.declared.types.Reply.TheVariants as reply
use Rattle.dv_model.specs.declared.types.Span.{Span}
use Rattle.dv_model.specs.Journals.{Log, mark_of}
use Rattle.dv_model.specs.Sessions.{Answer, State, answer}
use Rattle.dv_model.specs.Transcripts.{Answered, IsRefused, IsTold, IsUnavailable, Wrote, unavailable_count}
use Rattle.dv_keeper.specs.Turns.{HasAnswered}
use Rattle.dv_keeper.proofs.Turning.{read_allowed}
use Rattle.dv_member.specs.Members.{IsSession, Member, log_seen, notes_of}
use Rattle.dv_serving.proofs.Counting.{AreAvailable, answer_available, counts_none}
use Rattle.dv_pop3.specs.Findings.{IsFailure}
use Rattle.dv_pop3.proofs.Later.{lives_new, none_refused}

-- the disk failed, and the session is as before
pub record HasFailed (count : ℕ) (lines : List Reply) (old new : Member) : Type 0 where
  pub faults : ℕ
  pub line : lines ≡ reply.Unavailable faults ∷ []
  pub failure : IsFailure count faults old new
  pub wrote : new.wrote ≡ old.wrote
  pub stays : new.follower.state ≡ old.follower.state

-- or it was answered by the mailbox that the session has seen then
pub record HasRead (start : Log) (c : Command) (lines : List Reply) (old new : Member) : Type 0 where
  pub before : Mailbox
  pub lines_are : (answer (log_seen start new).mail old.follower.state c before new.seen new.live (mark_of (log_seen start new) new.seen)).replies ≡ lines
  pub next_is : (answer (log_seen start new).mail old.follower.state c before new.seen new.live (mark_of (log_seen start new) new.seen)).next ≡ new.follower.state
  pub wrote : new.wrote ≡ old.wrote
  pub refused : new.refused ≡ old.refused

module _ (set : List Span) (items : List Item) (start : Log) (count : ℕ) (old new : Member) (session : IsSession start count old) (session_new : IsSession start count new) (fresh : old.spent ≡ false) (fresh_new : new.spent ≡ false)
    (begins : IsPrefix (notes_of old) (notes_of new)) (selected : old.follower.state.selected ≡ true) (lines : List Reply) (has : HasAnswered start count (command.Fetch true set items) lines old new) where
  abbrev log : Log
  log = log_seen start new

  abbrev x : State
  x = old.follower.state

  abbrev c : Command
  c = command.Fetch true set items

  by_refusal : IsRefused log has.met new.seen x c lines new.follower.state → HasFailed count lines old new ⊎ HasRead start c lines old new
  by_refusal refused =
      let allowed = read_allowed log has.met x c refused.before refl (none_refused x c selected refl) in
      let both : None ≡ Some refused.line = sym allowed ∙ refused.refusal in
      absurd cc

  by_failure : IsUnavailable log count has.met new.seen x c lines new.follower.state → HasFailed count lines old new
  by_failure un = record {
    faults = un.faults;
    line = un.one_line;
    failure = record { above = un.above; counted = has.refused ∙ ap (λ (l : List Reply). old.refused + unavailable_count (l ∷ [])) un.one_line };
    wrote = has.wrote ∙ omega (arith, un.nothing_written);
    stays = un.stays;
  }

  module _ (told : IsTold log old.number has.met new.seen x c lines new.follower.state) where
    abbrev rules : Answer
    rules = answer log.mail x c told.before new.seen new.live (mark_of log new.seen)

    mailbox_is : told.mailbox ≡ new.live
    mailbox_is = same_Some told.mailbox new.live (sym told.is_there ∙ (lives_new start count old new session session_new fresh fresh_new begins selected).live)

    answer_is : rules ≡ record { replies = lines; next = new.follower.state }
    answer_is = subst (λ (n : Mailbox). answer log.mail x c told.before new.seen n (mark_of log new.seen) ≡ record { replies = lines; next = new.follower.state }) mailbox_is told.is

    lines_told : rules.replies ≡ lines
    lines_told = ap (λ (a : Answer). a.replies) answer_is

    none_failed : new.refused ≡ old.refused
    none_failed =
        let available : AreAvailable lines = subst AreAvailable lines_told (answer_available log.mail x c told.before new.seen new.live (mark_of log new.seen)) in
        let none : unavailable_count (lines ∷ []) ≡ 0 = counts_none lines available in
        has.refused ∙ omega (arith, none)

    wrote_by : Wrote log old.number has.met new.seen x.view c told.before → new.wrote ≡ old.wrote
    wrote_by (inl w) = absurd (omega (arith, w.some))
    wrote_by (inr none) = has.wrote ∙ omega (arith, none.0)

    by_rules : HasRead start c lines old new
    by_rules = record { before = told.before; lines_are = lines_told; next_is = ap (λ (a : Answer). a.next) answer_is; wrote = wrote_by told.wrote; refused = none_failed }

  by_answer : Answered log count old.number has.met new.seen x c lines new.follower.state → HasFailed count lines old new ⊎ HasRead start c lines old new
  by_answer (inl refused) = by_refusal refused
  by_answer (inr (inl un)) = inl (by_failure un)
  by_answer (inr (inr told)) = inr (by_rules told)

  pub reads : HasFailed count lines old new ⊎ HasRead start c lines old new
  reads = by_answer has.turn.answered
