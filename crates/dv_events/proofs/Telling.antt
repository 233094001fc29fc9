-- Commands that write nothing are answered.
use Rattle.std.proofs.Common.{◌≡◌, ◌⊎◌, ◌∙◌, inl, inr, ℕ, ◌+◌, ◌-◌, ◌≤◌, Bool, true, false, not, ◌&&◌, List, [], ◌∷◌, ◌++◌, length, Some, None, ap, arith, refl, subst, sym}
use Rattle.std.specs.Prelude.{◌||◌}
use Rattle.std.proofs.lemmas.Option.{none-some, same_Some}
use mathlib.Core.List.{IsPrefix}
use Rattle.dv_model.specs.declared.types.Command.{Command}
use Rattle.dv_model.specs.declared.types.Command.TheVariants as command
use Rattle.dv_model.specs.declared.types.Mailbox.{Mailbox}
use Rattle.dv_model.specs.declared.types.Mark.{Mark}
use Rattle.dv_model.specs.declared.types.Reply.{Reply}
use Rattle.dv_model.specs.declared.types.Step.TheVariants.{Full}
use Rattle.dv_model.specs.Journals.{Log, Mail, at, mark_of}
use Rattle.dv_model.specs.Sessions.{Answer, State, answer, data_of, ending_of, is_select, is_write, step_of, told_of}
use Rattle.dv_model.specs.Transcripts.{Answered, IsTold, refused_at, unavailable_count}
use Rattle.dv_model.specs.Views.{empty_view, moved, said}
use Rattle.dv_validity.proofs.Logs.{Extends}
use Rattle.dv_interleavings.specs.Worlds.{World, Session, is_bad, loaded_number}
use Rattle.dv_schedules.specs.Calls.{Answer as AnswerCall, Refresh, all_called}
use Rattle.dv_schedules.proofs.Prefixes.{allowed_good}
use Rattle.dv_shelf.specs.Folders.{Folder}
use Rattle.dv_shelf.specs.Sees.{SeesFolder, SeesTime}
use Rattle.dv_answer.specs.Refusing.{own_refusal}
use Rattle.dv_front.specs.declared.notes.Note.{Note}
use Rattle.dv_front.proofs.Prefixes.{prefix_self}
use Rattle.dv_notes.specs.Logs.{log_of}
use Rattle.dv_member.specs.Members.{IsSession, Member, log_seen, notes_of}
use Rattle.dv_shared.proofs.Outcomes.{many_entries}
use Rattle.dv_keeper.specs.Turns.{HasAnswered, HasSeen, HasTold}
use Rattle.dv_keeper.proofs.Telling.{mails_read}
use Rattle.dv_keeper.proofs.Turning.{log_goes_on, read_allowed}
use Rattle.dv_events.specs.Worlds.{AreOthers, Conversation, History, IsAtWorld, IsUnanswered, history_of}
use Rattle.dv_events.specs.Answers.{AnswerTells, MailTells, SelectTells, TellTells}
use Rattle.dv_events.proofs.Stepping.{Answers, Steps, lead, mine, none, stands_on, steps_loaded, steps_none, steps_read, with}

-- ---- at what a session has seen

module _ (start : Log) (count : ℕ) (old new : Member) (c : Command) (h : History) (session : IsSession start count old) (fresh : old.spent ≡ false) (reads : is_write c ≡ false) where
  abbrev seen_log : Log
  seen_log = log_seen start old

  -- the answer there
  abbrev here : Answer
  here = answer seen_log.mail old.follower.state c old.live old.seen old.live (mark_of seen_log old.seen)

  module _ (w : World) (answers : Answers) (rest : List Conversation) (others : AreOthers old rest) (is_at : IsAtWorld start h (with old answers ∷ rest) w) where
    abbrev log : Log
    log = log_of start h.notes

    goes_on : Extends seen_log log
    goes_on = log_goes_on start (notes_of old) h.notes (mine start h old answers rest others w is_at).begins is_at.notes_are

    within : old.seen ≤ length seen_log.entries
    within = omega (arith, many_entries start (notes_of old) is_at.notes_are.fresh, session.seen)

    live : at seen_log old.seen ≡ Some old.live
    live = (session.lives fresh).live

    there : at log old.seen ≡ Some old.live
    there = goes_on.same_at old.seen within ∙ live

    same : answer log.mail old.follower.state c old.live old.seen old.live (mark_of log old.seen) ≡ here
    same =
        ap (λ (mark : Mark). answer log.mail old.follower.state c old.live old.seen old.live mark) (goes_on.same_mark old.seen within)
        ∙ sym (goes_on.same_answer old.seen old.live old.follower.state c old.live (mark_of seen_log old.seen) within live)

    pub tells_at : is_bad old.follower.state c ≡ false → (a : Answer) → here ≡ a → new.follower.state ≡ a.next → new.number ≡ old.number → new.seen ≡ old.seen → notes_of new ≡ notes_of old → new.spent ≡ old.spent
        → IsAtWorld start h (with new (answers ++ (c, a.replies) ∷ []) ∷ rest) (all_called w (AnswerCall old.number c ∷ []))
    tells_at good a is state number seen notes spent =
        let one = mine start h old answers rest others w is_at in
        let after : Session = record one.session { state = a.next; wrote = None; answers = one.session.answers ++ (c, a.replies) ∷ [] } in
        let there_one : at log one.session.seen ≡ Some old.live = ap (at log) one.seen ∙ there in
        let is_one : answer log.mail old.follower.state c old.live one.session.seen old.live (mark_of log one.session.seen) ≡ a =
        ap (λ (k : ℕ). answer log.mail old.follower.state c old.live k old.live (mark_of log k)) one.seen ∙ same ∙ is in
        lead start h old answers rest others w is_at h (all_called w (AnswerCall old.number c ∷ [])) (with new (answers ++ (c, a.replies) ∷ [])) after (prefix_self h.notes)
        (steps_read start h w w old.number one.session (steps_none start h old answers rest others w is_at) c old.live old.follower.state a (none start h old answers rest others w is_at fresh) reads good one.state there_one is_one)
        (stands_on w (AnswerCall old.number c) tt is_at.stands) number
        (record {
          begins = subst (λ (ns : List Note). IsPrefix ns h.notes) (sym notes) one.begins;
          state = sym state;
          seen = one.seen ∙ sym seen;
          answers = ap (λ (xs : Answers). xs ++ (c, a.replies) ∷ []) one.answers;
          wrote = subst (λ (b : Bool). IsUnanswered b after.seen None) (sym (spent ∙ fresh)) refl;
        })

own_good : (x : State) (c : Command) (log : Log) (k : ℕ) (m : Mailbox) → is_write c ≡ false → own_refusal x c ≡ None → is_bad x c ≡ false
own_good x c log k m reads own = allowed_good log k x c m (read_allowed log k x c m reads own)

pub answer_tells : AnswerTells
answer_tells start count old new c h session fresh reads own is w answers rest others is_at =
    tells_at start count old new c h session fresh reads w answers rest others is_at (own_good old.follower.state c start 0 old.live reads own) (here start count old new c h session fresh reads) refl
    (ap (λ (x : Member). x.follower.state) is) (ap (λ (x : Member). x.number) is) (ap (λ (x : Member). x.seen) is) (ap notes_of is) (ap (λ (x : Member). x.spent) is)

select_good : (x : State) → is_bad x command.Select ≡ false
select_good x = by_test x.selected
  where
    by_test : (b : Bool) → ((not b && false) || false) ≡ false
    by_test true = refl
    by_test false = refl

pub select_tells : SelectTells
select_tells start count old new last h session fresh last_is is w answers rest others is_at =
    subst (λ (r : Reply). IsAtWorld start h (with new (answers ++ (command.Select, told_of command.Select old.live empty_view (moved Full empty_view old.live) ++ r ∷ []) ∷ []) ∷ rest) (all_called w (AnswerCall old.number command.Select ∷ []))) (sym last_is)
    (tells_at start count old new command.Select h session fresh refl w answers rest others is_at (select_good old.follower.state) (here start count old new command.Select h session fresh refl) refl
    (ap (λ (x : Member). x.follower.state) is) (ap (λ (x : Member). x.number) is) (ap (λ (x : Member). x.seen) is) (ap notes_of is) (ap (λ (x : Member). x.spent) is))

-- another command's lines
other_answer : (mail : ℕ → Mail) (x : State) (c : Command) (k : ℕ) (m : Mailbox) (mark : Mark) → is_select c ≡ false
    → answer mail x c m k m mark ≡ record {
      replies = data_of mail c x.view m ++ said m x.view (moved (step_of c) x.view m) ++ ending_of mail c x.view m m mark ∷ [];
      next = record { selected = true; view = moved (step_of c) x.view m; told = k };
    }
other_answer mail x command.Select k m mark other = absurd cc
other_answer mail x c k m mark other = refl

pub tell_tells : TellTells
tell_tells start count old new c step last h session fresh reads other own step_is last_is is w answers rest others is_at =
    let v = old.follower.state.view in
    let seen : Log = log_seen start old in
    let a : Answer = record {
      replies = data_of seen.mail c v old.live ++ said old.live v (moved step v old.live) ++ last ∷ [];
      next = record { selected = true; view = moved step v old.live; told = old.seen };
    } in
    let a_is : here start count old new c h session fresh reads ≡ a =
    other_answer seen.mail old.follower.state c old.seen old.live (mark_of seen old.seen) other
    ∙ (λ i. record {
      replies = data_of seen.mail c v old.live ++ said old.live v (moved (sym step_is i) v old.live) ++ sym last_is i ∷ [];
      next = record { selected = true; view = moved (sym step_is i) v old.live; told = old.seen };
    }) in
    tells_at start count old new c h session fresh reads w answers rest others is_at (own_good old.follower.state c start 0 old.live reads own) a a_is
    (ap (λ (x : Member). x.follower.state) is) (ap (λ (x : Member). x.number) is) (ap (λ (x : Member). x.seen) is) (ap notes_of is) (ap (λ (x : Member). x.spent) is)

-- ---- a turn with a mark

-- What was answered behind these notes, where no failure was counted and so many entries were, is
-- told with a mark.
module _ (start : Log) (count : ℕ) (c : Command) (old new : Member) (lines : List Reply) (has : HasAnswered start count c lines old new) (notes now : List Note) (sees : HasSeen now new) (fresh : start.entries ≡ [])
    (up : (length now ≡ length notes) ⊎ (length now ≡ length notes + 1)) (wrote : new.wrote ≡ old.wrote + (new.seen - length notes)) (refused : new.refused ≡ old.refused)
    (allowed : length now ≡ length notes → (m : Mailbox) → at (log_of start now) (length notes) ≡ Some m → refused_at (log_of start now) (length notes) old.follower.state c m ≡ None) where
  abbrev end : Log
  end = log_of start now

  many : length (log_seen start new).entries ≡ length now
  many = many_entries start (notes_of new) fresh ∙ ap (λ (ns : List Note). length ns) sees.are

  met_is : has.met ≡ length notes
  met_is = by_number up
    where
      by_number : (length now ≡ length notes) ⊎ (length now ≡ length notes + 1) → has.met ≡ length notes
      by_number (inl same) = omega (arith, same, many, has.turn.met.1, has.wrote, wrote, sees.many)
      by_number (inr one) = omega (arith, one, many, has.turn.met.1, has.wrote, wrote, sees.many)

  answered : Answered end count old.number (length notes) (length now) old.follower.state c lines new.follower.state
  answered =
      subst (λ (ns : List Note). Answered (log_of start ns) count old.number (length notes) (length now) old.follower.state c lines new.follower.state) sees.are
      (subst (λ (q : ℕ). Answered (log_seen start new) count old.number (length notes) q old.follower.state c lines new.follower.state) sees.many
      (subst (λ (k : ℕ). Answered (log_seen start new) count old.number k new.seen old.follower.state c lines new.follower.state) met_is has.turn.answered))

  pub is_told : IsTold end old.number (length notes) (length now) old.follower.state c lines new.follower.state
  is_told = by_answer answered
    where
      by_answer : Answered end count old.number (length notes) (length now) old.follower.state c lines new.follower.state → IsTold end old.number (length notes) (length now) old.follower.state c lines new.follower.state
      by_answer (inl r) = absurd (none-some r.line (sym (allowed r.nothing_written r.before r.was_there) ∙ r.refusal))
      by_answer (inr (inl u)) =
          let one : new.refused ≡ old.refused + 1 = subst (λ (l : List Reply). new.refused ≡ old.refused + unavailable_count (l ∷ [])) u.one_line has.refused in
          absurd (omega (arith, one, refused))
      by_answer (inr (inr told)) = told

-- ---- a reading of messages

-- what was met is what is there
read_same : (log : Log) (x : State) (c : Command) (k q : ℕ) (before m : Mailbox) (a : Answer) → k ≡ q → before ≡ m → answer log.mail x c before q m (mark_of log q) ≡ a → answer log.mail x c m k m (mark_of log k) ≡ a
read_same log x c k q before m a place same is =
    ap (λ (n : ℕ). answer log.mail x c m n m (mark_of log n)) place ∙ ap (λ (b : Mailbox). answer log.mail x c b q m (mark_of log q)) (sym same) ∙ is

pub mail_tells : {S C : Type 0} (sees : SeesFolder S) (times : SeesTime C) (start : Log) (moment : ℕ) (past : ℕ → Folder → Type 0) (honest : Type 0) (count : ℕ) → MailTells sees times start moment past honest count
mail_tells sees times start moment past honest count old new c k damaged lines fresh mails own holds leaves has w answers rest others is_at =
    let h : History = history_of k in
    let log : Log = log_of start h.notes in
    let x : State = old.follower.state in
    let q : ℕ = length h.notes in
    let reads : is_write c ≡ false = mails_read c mails in
    let told_is : HasTold 0 old new = leaves.1 in
    let counts : new.wrote ≡ old.wrote + (new.seen - length h.notes) = omega (arith, ap (λ (s : Member). s.wrote) told_is.now, leaves.0.many) in
    let told = is_told start count c old new lines has h.notes h.notes leaves.0 holds.stands.notes_are.fresh (inl refl) counts (ap (λ (s : Member). s.refused) told_is.now) (λ same m there. read_allowed log q x c m reads own) in
    let before : told.before ≡ told.mailbox = same_Some told.before told.mailbox (sym told.was_there ∙ told.is_there) in
    let one = mine start h old answers rest others w is_at in
    let nothing = none start h old answers rest others w is_at fresh in
    let v : World = all_called w (Refresh old.number ∷ []) in
    let loaded : Session = record one.session { seen = loaded_number w.published one.session.wrote } in
    let seen : loaded.seen ≡ q = ap (loaded_number w.published) nothing ∙ is_at.published in
    let steps : Steps start h w v old.number loaded = steps_loaded start h w w old.number one.session (steps_none start h old answers rest others w is_at) in
    let a : Answer = record { replies = lines; next = new.follower.state } in
    let there : at log loaded.seen ≡ Some told.mailbox = ap (at log) seen ∙ told.is_there in
    let a_is = read_same log x c loaded.seen q told.before told.mailbox a seen before told.is in
    let after : Session = record loaded { state = new.follower.state; wrote = None; answers = one.session.answers ++ (c, lines) ∷ [] } in
    lead start h old answers rest others w is_at h (all_called v (AnswerCall old.number c ∷ [])) (with new (answers ++ (c, lines) ∷ [])) after (prefix_self h.notes)
    (steps_read start h w v old.number loaded steps c told.mailbox x a nothing reads (own_good x c start 0 told.mailbox reads own) one.state there a_is)
    (stands_on v (AnswerCall old.number c) tt (stands_on w (Refresh old.number) tt is_at.stands))
    (ap (λ (s : Member). s.number) told_is.now)
    (record {
      begins = subst (λ (ns : List Note). IsPrefix ns h.notes) (sym leaves.0.are) (prefix_self h.notes);
      state = refl;
      seen = seen ∙ sym leaves.0.many;
      answers = ap (λ (xs : Answers). xs ++ (c, lines) ∷ []) one.answers;
      wrote = subst (λ (b : Bool). IsUnanswered b after.seen None) (sym (ap (λ (s : Member). s.spent) told_is.now ∙ fresh)) refl;
    })
