-- The line of the session at a place, read or written.
use Rattle.std.proofs.Common.{◌≡◌, ℕ, ◌+◌, ◌^◌, ◌<◌, ◌≤◌, true, false, List, [], ◌∷◌, length, Option, Some, None, Result, Err, refl, sym, ◌∙◌, ap, subst, arith}
use Rattle.std.specs.Prelude.{All, OnErr, OnOk}
use Rattle.std.proofs.lemmas.Result.{on_ok_weaker}
use Rattle.dv_model.specs.declared.types.Command.{Command}
use Rattle.dv_model.specs.declared.types.Mailbox.{Mailbox}
use Rattle.dv_model.specs.declared.types.Reply.{Reply}
use Rattle.dv_model.specs.Journals.{Log, Mail}
use Rattle.dv_model.specs.Sessions.{IsCommand, State as SessionState, answer, is_write, reads_mail}
use Rattle.dv_model.specs.Transcripts.{Line}
use Rattle.dv_shelf.specs.declared.shelf.Name.{Name}
use Rattle.dv_shelf.specs.Folders.{Folder}
use Rattle.dv_responses.specs.Met.{met_of}
use Rattle.dv_model.specs.Views.{View}
use Rattle.dv_responses.specs.Supplied.{AreSupplied}
use Rattle.dv_responses.specs.declared.meeting.Met.{Met}
use Rattle.dv_search.specs.declared.facts.MailFacts.{MailFacts}
use Rattle.dv_answer.specs.Answers.{IsAnswered}
use Rattle.dv_answer.specs.Following.{Follower, IsAbreast, new_follower}
use Rattle.dv_answer.specs.Refusing.{own_refusal}
use Rattle.dv_plans.specs.declared.fault.StoreFault.{StoreFault}
use Rattle.dv_plans.specs.declared.fault.StoreFault.TheVariants as fault
use Rattle.dv_plans.specs.Faults.{HasStoreCause}
use Rattle.dv_playing.specs.Laws.{IsLine}
use Rattle.dv_playing.specs.Playing.{Attempt, Play, refused_here, with_group_here}
use Rattle.dv_store.specs.Faults.{IsFailure}
use Rattle.dv_store.specs.Rest.{OnlyReads}
use Rattle.dv_serving.specs.Faults.{faults_between}
use Rattle.dv_serial.specs.Following.{EndsAt, Follows, HasStates, origin_of}
use Rattle.dv_serving.specs.Lines.{IsFaultLine, fault_lines}
use Rattle.dv_serving.specs.Commits.{LeavesOthers, MayChangeHere}
use Rattle.dv_serial.specs.Places.{play_of}
use Rattle.dv_serial.specs.Serves.{OnlyLooksAt, Serves, seat_at, with_seat}
use Rattle.dv_serial.specs.Servings.{Serving}
use Rattle.dv_serving.specs.Taking.{Takes, given}
use Rattle.dv_serial.specs.Writes.{Commits, IsDone}
use Rattle.dv_serial.proofs.Looking.{looked_met, looked_same}
use Rattle.dv_serving.proofs.Looking.{unread_supplied, writes_unread}
use Rattle.dv_serving.proofs.Refusals.{reads_allowed}
use Rattle.dv_serial.proofs.Results.{ended_still, own_result, read_ended, read_failed, read_told, write_ended, write_failed, write_told}
use Rattle.dv_serial.proofs.Seated.{state_at}
use Rattle.dv_serving.proofs.Taken.{always, given_answer, given_err, given_has}
use Rattle.dv_shelf.specs.Sees.{SeesFolder, SeesTime}

module _ {S C : Type 0} (sees : SeesFolder S) (ticks : SeesTime C) (clock : ℕ → ℕ) (start : Log) (base : ℕ) (attempts : List Attempt)
    (before : ℕ) (old : Serving S C) (follows : Follows sees ticks (origin_of clock start base) before attempts old) (at number : ℕ) (number_is : number ≡ at + 1) (c : Command) (less : at < length old.seats) (small : number < 2 ^ 32) (command : IsCommand c) where
  abbrev line : Line
  line = (number, c)

  abbrev here : Play
  here = play_of clock start attempts

  good : IsLine line
  good = (small, command)

  -- the session refuses for the play as it does by itself
  own_here : (o : Option Reply) → own_refusal (seat_at old.seats at).state c ≡ o → own_refusal (here.states number) c ≡ o
  own_here o own =
      ap (λ (n : ℕ). own_refusal (here.states n) c) number_is
      ∙ ap (λ (x : SessionState). own_refusal x c) (sym (state_at old.store.chain.live.mailbox here.states old.seats follows.seats at less))
      ∙ own

  pub seat_refused : {E R : Type 0} (with : R → List Reply → R) (said said_now : R) (r : Reply) (result : Result (Unit {0}) E) → own_refusal (seat_at old.seats at).state c ≡ Some r
      → ((f : Folder) → sees.left_since old.store.shelf (sees.moment old.store.shelf) f → sees.may_leave old.store.shelf f) → OnOk result (said_now ≡ with said (r ∷ []))
      → Takes with said said_now result (λ told. Serves sees ticks (origin_of clock start base) (faults_between before before) attempts line told old old)
  seat_refused with said said_now r result own now is = record {
    replies = r ∷ [];
    taken = is;
    holds = own_result sees ticks clock start base attempts before before line old follows good (omega arith) r (given (r ∷ []) result) (own_here (Some r) own) now
        (given_has (λ lines. lines ≡ r ∷ []) (r ∷ []) result (always result refl));
  }

  -- ---- a read

  module _ (own : own_refusal (seat_at old.seats at).state c ≡ None) (read : is_write c ≡ false) (mid : Serving S C) (looks : OnlyLooksAt old mid) (reads : OnlyReads sees old.store mid.store) where
    allowed : refused_here here line ≡ None
    allowed = reads_allowed here line (own_here None own) read

    pub seat_ended : (faults : ℕ) → before ≤ faults → EndsAt sees (origin_of clock start base) (faults_between before faults) attempts line old mid
    seat_ended faults later = read_ended sees ticks clock start base attempts before faults line old follows good later allowed read mid looks reads

    pub seat_failed : {A E R : Type 0} (with : R → List Reply → R) (said said_now : R) (faults : ℕ) (f : StoreFault) (result : Result (Unit {0}) E) → ((count : ℕ) → f ≡ fault.Disk count → reads_mail c ≡ true) → IsFailure f → HasStoreCause {A = A} before faults (Err f)
        → OnOk result ((said_now ≡ with said (fault_lines f)) × IsFaultLine f (fault_lines f))
        → Takes with said said_now result (λ told. Serves sees ticks (origin_of clock start base) (faults_between before faults) attempts line told old mid)
    seat_failed with said said_now faults f result mails failure cause is = record {
      replies = fault_lines f;
      taken = on_ok_weaker result (λ (x : (said_now ≡ with said (fault_lines f)) × IsFaultLine f (fault_lines f)). x.0) is;
      holds = read_failed sees ticks clock start base attempts before faults line old follows good cause.later allowed read mid looks reads f (given (fault_lines f) result) mails failure cause
          (given_has (IsFaultLine f) (fault_lines f) result (on_ok_weaker result (λ (x : (said_now ≡ with said (fault_lines f)) × IsFaultLine f (fault_lines f)). x.1) is));
    }

    pub seat_told : {E R : Type 0} (with : R → List Reply → R) (said said_now : R) (faults : ℕ) (new : Serving S C) (result : Result (Unit {0}) E) (P : (ℕ → Mail) → View → Mailbox → Type 0) (met : Met) → before ≤ faults → met ≡ met_of c (seat_at mid.seats at).state.view mid.store.chain.live.mailbox
        → P here.log.mail (seat_at old.seats at).state.view old.store.chain.live.mailbox
        → ((mail : ℕ → Mail) (m : Mailbox) → met ≡ met_of c (seat_at mid.seats at).state.view m → P mail (seat_at mid.seats at).state.view mid.store.chain.live.mailbox
        → OnOk result (IsAnswered with said said_now (seat_at new.seats at).state (answer mail (seat_at mid.seats at).state c m mid.groups mid.store.chain.live.mailbox mid.store.mark)))
        → IsAbreast new.store.chain.live.mailbox (seat_at new.seats at) → with_seat at (seat_at new.seats at) mid ≡ new → OnErr result (new ≡ mid)
        → Takes with said said_now result (λ r. Serves sees ticks (origin_of clock start base) (faults_between before faults) attempts line r old new)
    seat_told with said said_now faults new result P met later is supplied answered abreast only stays =
        let a = answer here.log.mail (seat_at mid.seats at).state c old.store.chain.live.mailbox mid.groups mid.store.chain.live.mailbox mid.store.mark in
        let both = answered here.log.mail old.store.chain.live.mailbox (looked_met old mid looks c (seat_at mid.seats at).state met is) (looked_same old mid looks (P here.log.mail) at supplied) in
        record {
          replies = a.replies;
          taken = on_ok_weaker result (λ (x : IsAnswered with said said_now (seat_at new.seats at).state a). x.0) both;
          holds = read_told sees ticks clock start base attempts before faults line old follows good later allowed read mid looks reads at new (given a.replies result) number_is
              (subst (λ (fs : List Follower). at < length fs) (sym looks.seats) less) (subst (λ (s : Serving S C). IsAbreast s.store.chain.live.mailbox (seat_at new.seats at)) (sym only) abreast)
              (given_answer _ a (seat_at new.seats at).state result both) only (given_err _ a.replies result stays);
        }

  -- ---- a write

  pub seat_still : ((f : Folder) → sees.left_since old.store.shelf (sees.moment old.store.shelf) f → sees.may_leave old.store.shelf f) → EndsAt sees (origin_of clock start base) (faults_between before before) attempts line old old
  seat_still now = ended_still sees ticks clock start base attempts before before line old follows good (omega arith) now

  module _ (write : is_write c ≡ true) (mid : Serving S C) where
    pub seat_unwritten : {A E R : Type 0} (with : R → List Reply → R) (said said_now : R) (faults : ℕ) (f : StoreFault) (result : Result (Unit {0}) E) → Commits sees ticks clock start attempts line old (Err f) mid → HasStoreCause {A = A} before faults (Err f) → mid.seats ≡ old.seats
        → LeavesOthers {A = A} here line (Err f) (sees.files old.store.shelf) (sees.files mid.store.shelf) → OnOk result ((said_now ≡ with said (fault_lines f)) × IsFaultLine f (fault_lines f))
        → Takes with said said_now result (λ told. Serves sees ticks (origin_of clock start base) (faults_between before faults) attempts line told old mid)
    seat_unwritten with said said_now faults f result commits cause seats others is = record {
      replies = fault_lines f;
      taken = on_ok_weaker result (λ (x : (said_now ≡ with said (fault_lines f)) × IsFaultLine f (fault_lines f)). x.0) is;
      holds = write_failed sees ticks clock start base attempts before faults line old follows good cause.later write mid f (given (fault_lines f) result) commits cause seats others
          (given_has (IsFaultLine f) (fault_lines f) result (on_ok_weaker result (λ (x : (said_now ≡ with said (fault_lines f)) × IsFaultLine f (fault_lines f)). x.1) is));
    }

    module _ (touched : List ℕ) (done : IsDone sees ticks clock start attempts line touched old mid)
        (others : (n : Name) → (MayChangeHere here line n → ⊥) → sees.files mid.store.shelf n ≡ sees.files old.store.shelf n) (seats : List Follower) where
      pub seat_untold : (faults : ℕ) → before ≤ faults → EndsAt sees (origin_of clock start base) (faults_between before faults) attempts line old (record mid { seats = seats })
      seat_untold faults later = write_ended sees ticks clock start base attempts before faults line old follows good later write mid touched done others seats

      pub seat_wrote : {E R : Type 0} (with : R → List Reply → R) (said said_now : R) (faults : ℕ) (new : Serving S C) (result : Result (Unit {0}) E) (facts : List MailFacts) (met : Met) → before ≤ faults → HasStates old.seats seats → All (IsAbreast mid.store.chain.live.mailbox) seats
          → met ≡ met_of c (seat_at old.seats at).state.view old.store.chain.live.mailbox
          → ((mail : ℕ → Mail) (m : Mailbox) → met ≡ met_of c (seat_at seats at).state.view m → AreSupplied mail c (seat_at seats at).state.view mid.store.chain.live.mailbox facts
          → OnOk result (IsAnswered with said said_now (seat_at new.seats at).state (answer mail (seat_at seats at).state c m mid.groups mid.store.chain.live.mailbox mid.store.mark)))
          → IsAbreast new.store.chain.live.mailbox (seat_at new.seats at) → with_seat at (seat_at new.seats at) (record mid { seats = seats }) ≡ new → OnErr result (new ≡ record mid { seats = seats })
          → Takes with said said_now result (λ r. Serves sees ticks (origin_of clock start base) (faults_between before faults) attempts line r old new)
      seat_wrote with said said_now faults new result facts met later has all is answered abreast only stays =
          let same : (seat_at old.seats at).state ≡ (seat_at seats at).state = sym (has.states at new_follower less) in
          let mail : ℕ → Mail = (with_group_here clock here line).log.mail in
          let a = answer mail (seat_at seats at).state c old.store.chain.live.mailbox mid.groups mid.store.chain.live.mailbox mid.store.mark in
          let both = answered mail old.store.chain.live.mailbox (is ∙ ap (λ (x : SessionState). met_of c x.view old.store.chain.live.mailbox) same)
          (unread_supplied mail c (seat_at seats at).state mid.store.chain.live.mailbox facts (writes_unread c write)) in
          record {
            replies = a.replies;
            taken = on_ok_weaker result (λ (x : IsAnswered with said said_now (seat_at new.seats at).state a). x.0) both;
            holds = write_told sees ticks clock start base attempts before faults line old follows good later write mid touched done others seats at new (given a.replies result) number_is
                (subst (λ (n : ℕ). at < n) (sym has.count) less) has all (subst (λ (s : Serving S C). IsAbreast s.store.chain.live.mailbox (seat_at new.seats at)) (sym only) abreast)
                (given_answer _ a (seat_at new.seats at).state result both)
                only (given_err _ a.replies result stays);
          }
