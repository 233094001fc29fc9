-- What a line's result says of the play.
use Rattle.std.proofs.Common.{◌≡◌, ◌⊎◌, inl, inr, ℕ, ◌+◌, ◌<◌, ◌≤◌, Bool, true, false, ◌||◌, List, [], ◌∷◌, length, Some, None, Result, Ok, Err, refl, sym, ◌∙◌, ap, subst}
use Rattle.std.specs.Prelude.{All, IfOk, OnErr}
use Rattle.dv_model.specs.declared.types.Reply.{Reply}
use Rattle.dv_model.specs.declared.types.Reply.TheVariants as reply
use Rattle.dv_model.specs.Counts.{Rose}
use Rattle.dv_model.specs.Journals.{Log}
use Rattle.dv_model.specs.Sessions.{answer, is_write, reads_mail}
use Rattle.dv_model.specs.Transcripts.{Line, touches_disk}
use Rattle.dv_shelf.specs.declared.shelf.Name.{Name}
use Rattle.dv_shelf.specs.Folders.{Folder}
use Rattle.dv_chain.specs.declared.chain.Chain.{Chain}
use Rattle.dv_answer.specs.Following.{Follower, IsAbreast}
use Rattle.dv_answer.specs.Refusing.{own_refusal}
use Rattle.dv_plans.specs.declared.fault.StoreFault.{StoreFault}
use Rattle.dv_plans.specs.declared.fault.StoreFault.TheVariants as fault
use Rattle.dv_plans.specs.Faults.{HasStoreCause}
use Rattle.dv_playing.specs.Laws.{IsAbove, IsLine, MayWrite}
use Rattle.dv_playing.specs.Playing.{Attempt, DueAgain, Failed, Play, Rotation, Served, Step, behind_failure, group_here, is_empty, refused_here, step, told, with_group_here}
use Rattle.dv_store.specs.Faults.{IsFailure}
use Rattle.dv_store.specs.Rest.{OnlyReads}
use Rattle.dv_serving.specs.Faults.{TellsFailure, faults_between}
use Rattle.dv_serial.specs.Following.{EndsAt, Follows, HasStates, origin_of, with_line}
use Rattle.dv_serving.specs.Lines.{IsFaultLine}
use Rattle.dv_serial.specs.Others.{KeepsOthers}
use Rattle.dv_serving.specs.Commits.{LeavesOthers, MayChangeHere}
use Rattle.dv_serial.specs.Places.{play_of}
use Rattle.dv_serial.specs.Serves.{OnlyLooksAt, Serves, seat_at, with_seat}
use Rattle.dv_serial.specs.Servings.{Serving}
use Rattle.dv_serial.specs.Writes.{Commits, IsDone, StandsAs}
use Rattle.dv_serving.proofs.Counting.{rose_since}
use Rattle.dv_serving.proofs.Crashing.{write_touches}
use Rattle.dv_serial.proofs.Going.{WritesNothing}
use Rattle.dv_serial.proofs.Outcomes.{ends_behind, ends_here, ends_stands, failed_serves, refused_serves, seated_same, stands_on, stands_read, stands_seats, stands_still, told_serves}
use Rattle.dv_serving.proofs.Refusals.{own_refuses}
use Rattle.dv_serial.proofs.Seated.{seated_told}
use Rattle.dv_serial.proofs.Stepping.{attempt, failed_stays, failed_step, play_on, read_stays, served_step}
use Rattle.dv_serial.proofs.Untouched.{same_others, write_others}
use Rattle.dv_shelf.specs.Sees.{SeesFolder, SeesTime}

module _ {S C : Type 0} (sees : SeesFolder S) (ticks : SeesTime C) (clock : ℕ → ℕ) (start : Log) (base : ℕ) (attempts : List Attempt)
    (before faults : ℕ) (line : Line) (old : Serving S C) (follows : Follows sees ticks (origin_of clock start base) before attempts old) (good : IsLine line) (later : before ≤ faults) where
  abbrev here : Play
  here = play_of clock start attempts

  abbrev IsResult : {E : Type 0} → Result (List Reply) E → Serving S C → Type 0
  IsResult {E} result new = Serves sees ticks (origin_of clock start base) (faults_between before faults) attempts line {E = E} result old new

  -- ---- refused by the session

  pub own_result : {E : Type 0} (r : Reply) (result : Result (List Reply) E) → own_refusal (here.states line.0) line.1 ≡ Some r
      → ((c : Folder) → sees.left_since old.store.shelf (sees.moment old.store.shelf) c → sees.may_leave old.store.shelf c) → IfOk result (λ lines. lines ≡ r ∷ []) → IsResult result old
  own_result r (Ok lines) own now is =
      refused_serves sees ticks clock start base attempts before faults line old follows good later r old lines (own_refuses here line r own) refl refl is (λ n none. refl)
      (stands_still sees ticks clock start base attempts before old follows now)
  own_result r (Err e) own now is =
      ends_stands sees ticks clock start base attempts (faults_between before faults) line old old later refl (stands_still sees ticks clock start base attempts before old follows now)

  module _ (allowed : refused_here here line ≡ None) where
    -- ---- a read

    module _ (read : is_write line.1 ≡ false) (mid : Serving S C) (looks : OnlyLooksAt old mid) (reads : OnlyReads sees old.store mid.store) where
      stands : StandsAs sees ticks clock start attempts attempts here old mid
      stands = stands_read sees ticks clock start base attempts before old follows mid looks reads

      same_mailbox : mid.store.chain.live.mailbox ≡ old.store.chain.live.mailbox
      same_mailbox = ap (λ (x : Chain). x.live.mailbox) looks.store.chain

      failed_nothing : (count : ℕ) → touches_disk line.1 ≡ true → WritesNothing here (play_of clock start (with_line attempts line (Failed count DueAgain)))
      failed_nothing count touches =
          let same : play_of clock start (with_line attempts line (Failed count DueAgain)) ≡ here =
          play_on clock start base attempts (attempt line (Failed count DueAgain)) ∙ ap (λ (s : Step). s.play) (failed_step clock here line count DueAgain allowed touches) ∙ failed_stays clock here line read DueAgain in
          record {
            log = ap (λ (p : Play). p.log) same;
            mailbox = ap (λ (p : Play). p.mailbox) same;
            mark = ap (λ (p : Play). p.mark) same;
            begun = ap (λ (p : Play). p.begun) same;
          }

      told_nothing : WritesNothing here (play_of clock start (with_line attempts line Served))
      told_nothing =
          let group : Play = with_group_here clock here line in
          let same : play_of clock start (with_line attempts line Served) ≡ (told here line group).play =
          play_on clock start base attempts (attempt line Served) ∙ ap (λ (s : Step). s.play) (served_step clock here line allowed) in
          let stays : group ≡ here = read_stays clock here line read in
          record {
            log = ap (λ (p : Play). p.log) same ∙ ap (λ (p : Play). p.log) stays;
            mailbox = ap (λ (p : Play). p.mailbox) same ∙ ap (λ (p : Play). p.mailbox) stays;
            mark = ap (λ (p : Play). p.mark) same ∙ ap (λ (p : Play). p.mark) stays;
            begun = ap (λ (p : Play). p.begun) same ∙ ap (λ (p : Play). p.begun) stays;
          }

      -- its facts couldn't be had
      pub read_failed : {A E : Type 0} (f : StoreFault) (result : Result (List Reply) E) → ((count : ℕ) → f ≡ fault.Disk count → reads_mail line.1 ≡ true) → IsFailure f → HasStoreCause {A = A} before faults (Err f) → IfOk result (IsFaultLine f) → IsResult result mid
      read_failed (fault.Disk count) (Ok lines) mails failure cause is =
          let touches : touches_disk line.1 ≡ true = ap (λ (b : Bool). b || reads_mail line.1) read ∙ mails count refl in
          failed_serves sees ticks clock start base attempts before faults line old follows good later allowed count DueAgain mid lines touches cause.rose.0 cause.rose.1 looks.seats same_mailbox is (same_others clock start (sees.files old.store.shelf) (sees.files mid.store.shelf) (with_line attempts line (Failed count DueAgain)) reads.looks.same)
          (stands_on sees ticks clock start base attempts line (Failed count DueAgain) (behind_failure here line DueAgain) old mid (failed_stays clock here line read DueAgain) (failed_nothing count touches) stands)
      read_failed fault.NoMemory (Ok lines) mails failure cause is = absurd is
      read_failed fault.UidsUsedUp result mails failure cause is = absurd failure
      read_failed (fault.TooLong bytes) result mails failure cause is = absurd failure
      read_failed f (Err e) mails failure cause is = ends_stands sees ticks clock start base attempts (faults_between before faults) line old mid later reads.looks.same stands

      -- it is answered
      pub read_told : {E : Type 0} (at : ℕ) (new : Serving S C) (result : Result (List Reply) E) → line.0 ≡ at + 1 → at < length mid.seats → IsAbreast mid.store.chain.live.mailbox (seat_at new.seats at)
          → IfOk result (λ replies. record { replies = replies; next = (seat_at new.seats at).state }
          ≡ answer here.log.mail (seat_at mid.seats at).state line.1 old.store.chain.live.mailbox mid.groups mid.store.chain.live.mailbox mid.store.mark)
          → with_seat at (seat_at new.seats at) mid ≡ new → OnErr result (new ≡ mid) → IsResult result new
      read_told at new (Ok replies) number less abreast answered only stays =
          told_serves sees ticks clock start base attempts before faults line old follows good later allowed at mid new replies number less (same_others clock start (sees.files old.store.shelf) (sees.files mid.store.shelf) (with_line attempts line Served) reads.looks.same)
          (stands_on sees ticks clock start base attempts line Served (with_group_here clock here line) old mid (read_stays clock here line read) told_nothing stands)
          (seated_same sees ticks clock start base attempts before faults line old follows good later mid looks.seats same_mailbox) abreast
          (subst (λ (p : Play). record { replies = replies; next = (seat_at new.seats at).state } ≡ answer p.log.mail (seat_at mid.seats at).state line.1 old.store.chain.live.mailbox mid.groups mid.store.chain.live.mailbox mid.store.mark)
          (sym (read_stays clock here line read)) answered)
          only
      read_told at new (Err e) number less abreast answered only stays =
          subst (λ (n : Serving S C). EndsAt sees (origin_of clock start base) (faults_between before faults) attempts line old n) (sym stays) (ends_stands sees ticks clock start base attempts (faults_between before faults) line old mid later reads.looks.same stands)

      -- memory ended it
      pub read_ended : EndsAt sees (origin_of clock start base) (faults_between before faults) attempts line old mid
      read_ended = ends_stands sees ticks clock start base attempts (faults_between before faults) line old mid later reads.looks.same stands

  -- ---- a write

  -- memory ends it before anything is done
  pub ended_still : ((c : Folder) → sees.left_since old.store.shelf (sees.moment old.store.shelf) c → sees.may_leave old.store.shelf c) → EndsAt sees (origin_of clock start base) (faults_between before faults) attempts line old old
  ended_still now = ends_stands sees ticks clock start base attempts (faults_between before faults) line old old later refl (stands_still sees ticks clock start base attempts before old follows now)

  module _ (write : is_write line.1 ≡ true) (mid : Serving S C) where
    -- nothing is written
    pub write_failed : {A E : Type 0} (f : StoreFault) (result : Result (List Reply) E) → Commits sees ticks clock start attempts line old (Err f) mid → HasStoreCause {A = A} before faults (Err f) → mid.seats ≡ old.seats
        → LeavesOthers {A = A} here line (Err f) (sees.files old.store.shelf) (sees.files mid.store.shelf) → IfOk result (IsFaultLine f) → IsResult result mid
    write_failed (fault.Disk count) (Ok lines) commits cause seats others is =
        failed_serves sees ticks clock start base attempts before faults line old follows good later commits.allowed count commits.rotation mid lines (write_touches line write) cause.rose.0 cause.rose.1 seats commits.mailbox is
        (write_others clock start (sees.files old.store.shelf) (sees.files mid.store.shelf) attempts line (Failed count commits.rotation) others) commits.stands
    write_failed (fault.Disk count) (Err e) commits cause seats others is =
        let steps = failed_step clock here line count commits.rotation commits.allowed (write_touches line write) in
        ends_behind sees ticks clock start base attempts (faults_between before faults) line (Failed count commits.rotation) (behind_failure here line commits.rotation) here.states old mid (ap (λ (s : Step). s.play) steps)
        (record { line = good; count = rose_so count commits.rotation cause.rose })
        (inl (ap (λ (s : Step). s.play.log) steps))
        (write_others clock start (sees.files old.store.shelf) (sees.files mid.store.shelf) attempts line (Failed count commits.rotation) others) (told_so count commits.rotation cause.rose) commits.stands
      where
        told_so : (n : ℕ) (turned : Rotation) → (n ≡ faults) × Rose before faults → TellsFailure (faults_between before faults) (Failed n turned)
        told_so n turned both = (both.1, both.0)

        rose_so : (n : ℕ) (turned : Rotation) → (n ≡ faults) × Rose before faults → IsAbove base (Failed n turned)
        rose_so n turned both = subst (Rose base) (sym both.0) (rose_since _ base before faults follows.may.few both.1)
    write_failed fault.UidsUsedUp (Ok lines) commits cause seats others is =
        refused_serves sees ticks clock start base attempts before faults line old follows good later reply.UidsUsedUp mid lines commits.refused seats commits.mailbox is (same_others clock start (sees.files old.store.shelf) (sees.files mid.store.shelf) (with_line attempts line Served) others) commits.stands
    write_failed (fault.TooLong bytes) (Ok lines) commits cause seats others is =
        refused_serves sees ticks clock start base attempts before faults line old follows good later (reply.TooLong bytes) mid lines commits.refused seats commits.mailbox is (same_others clock start (sees.files old.store.shelf) (sees.files mid.store.shelf) (with_line attempts line Served) others) commits.stands
    write_failed fault.UidsUsedUp (Err e) commits cause seats others is = ends_stands sees ticks clock start base attempts (faults_between before faults) line old mid later others commits.stands
    write_failed (fault.TooLong bytes) (Err e) commits cause seats others is = ends_stands sees ticks clock start base attempts (faults_between before faults) line old mid later others commits.stands
    write_failed fault.NoMemory (Ok lines) commits cause seats others is = absurd is
    write_failed fault.NoMemory (Err e) commits cause seats others is = ends_here sees ticks clock start base attempts (faults_between before faults) line old mid later others commits

    module _ (touched : List ℕ) (done : IsDone sees ticks clock start attempts line touched old mid)
        (others : (n : Name) → (MayChangeHere here line n → ⊥) → sees.files mid.store.shelf n ≡ sees.files old.store.shelf n) (seats : List Follower) where
      -- some sessions were told
      abbrev part : Serving S C
      part = record mid { seats = seats }

      abbrev group : Play
      group = with_group_here clock here line

      part_stands : StandsAs sees ticks clock start attempts (with_line attempts line Served) group old part
      part_stands = stands_seats sees ticks clock start attempts (with_line attempts line Served) group old mid seats done.stands

      steps : step clock here (attempt line Served) ≡ told here line group
      steps = served_step clock here line done.allowed

      kept : KeepsOthers clock start (with_line attempts line Served) (sees.files old.store.shelf) (sees.files mid.store.shelf)
      kept = write_others clock start (sees.files old.store.shelf) (sees.files mid.store.shelf) attempts line Served others

      -- it wrote nothing, or its group is the last
      left_log : ((step clock here (attempt line Served)).play.log ≡ here.log) ⊎ ((Served ≡ Served) × MayWrite here line)
      left_log = by (is_empty (group_here here line)) refl
        where
          by : (b : Bool) → is_empty (group_here here line) ≡ b → ((step clock here (attempt line Served)).play.log ≡ here.log) ⊎ ((Served ≡ Served) × MayWrite here line)
          by true e = inl (ap (λ (s : Step). s.play.log) steps ∙ rw e refl)
          by false e = inr (refl, record { good = good; write = write; allowed = done.allowed; some = e })

      -- memory ended it behind the write
      pub write_ended : EndsAt sees (origin_of clock start base) (faults_between before faults) attempts line old part
      write_ended =
          ends_behind sees ticks clock start base attempts (faults_between before faults) line Served group (told here line group).play.states old part (ap (λ (s : Step). s.play) steps) (record { line = good; count = tt }) left_log kept later part_stands

      -- it is answered
      pub write_told : {E : Type 0} (at : ℕ) (new : Serving S C) (result : Result (List Reply) E) → line.0 ≡ at + 1 → at < length seats → HasStates old.seats seats → All (IsAbreast mid.store.chain.live.mailbox) seats
          → IsAbreast mid.store.chain.live.mailbox (seat_at new.seats at)
          → IfOk result (λ replies. record { replies = replies; next = (seat_at new.seats at).state }
          ≡ answer group.log.mail (seat_at seats at).state line.1 old.store.chain.live.mailbox mid.groups mid.store.chain.live.mailbox mid.store.mark)
          → with_seat at (seat_at new.seats at) part ≡ new → OnErr result (new ≡ part) → IsResult result new
      write_told at new (Ok replies) number less has all abreast answered only stays =
          told_serves sees ticks clock start base attempts before faults line old follows good later done.allowed at part new replies number less kept part_stands
          (seated_told old.store.chain.live.mailbox here.states old.seats follows.seats mid.store.chain.live.mailbox seats has all) abreast answered only
      write_told at new (Err e) number less has all abreast answered only stays =
          subst (λ (n : Serving S C). EndsAt sees (origin_of clock start base) (faults_between before faults) attempts line old n) (sym stays) write_ended
