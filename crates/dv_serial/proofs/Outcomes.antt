-- What became of a line is a step of the play that the serving follows.
use Rattle.std.proofs.Common.{◌≡◌, ◌⊎◌, ℕ, ◌+◌, ◌<◌, ◌≤◌, Bool, true, false, List, [], ◌∷◌, ◌++◌, length, Option, Some, None, refl, sym, ◌∙◌, ap, subst}
use Rattle.std.proofs.lemmas.List.{append-nil}
use Rattle.dv_model.specs.declared.types.Mailbox.{Mailbox}
use Rattle.dv_model.specs.declared.types.Mark.{Mark}
use Rattle.dv_model.specs.declared.types.Reply.{Reply}
use Rattle.dv_model.specs.declared.types.Reply.TheVariants as reply
use Rattle.dv_model.specs.Counts.{Rose, RoseBy}
use Rattle.dv_model.specs.Journals.{Log}
use Rattle.dv_model.specs.Sessions.{Answer, State as SessionState, answer}
use Rattle.dv_model.specs.Transcripts.{Line, touches_disk, unavailable_count, with_state}
use Rattle.dv_shelf.specs.Clocks.{behind}
use Rattle.dv_shelf.specs.Folders.{Folder}
use Rattle.dv_logfile.proofs.Settling.{looked_settled}
use Rattle.dv_chain.specs.declared.chain.Chain.{Chain}
use Rattle.dv_files.specs.declared.texts.Turn.{Turn}
use Rattle.dv_files.specs.Texts.{place_of}
use Rattle.dv_answer.specs.Following.{Follower, IsAbreast}
use Rattle.dv_playing.specs.Laws.{IsAttempt, IsLine, MayPlay, MayWrite, RiseFrom, failures_of}
use Rattle.dv_playing.specs.Playing.{Attempt, Failed, Outcome, Play, Rotation, Served, Step, behind_failure, group_here, is_empty, refused_here, step, told, with_group_here}
use Rattle.dv_store.specs.Rest.{IsAtRest, OnlyReads}
use Rattle.dv_serving.specs.Faults.{Faults, TellsFailure, faults_between}
use Rattle.dv_serving.specs.Readings.{AreReadings}
use Rattle.dv_serial.specs.Following.{AreSeated, EndsAt, Follows, Keeps, Leaves, origin_of, with_line}
use Rattle.dv_serial.specs.Others.{KeepsOthers}
use Rattle.dv_serial.specs.Places.{IsOwedBehind, play_of}
use Rattle.dv_serving.specs.Places.{StandsAt}
use Rattle.dv_serial.specs.Serves.{IsServed, OnlyLooksAt, seat_at, with_seat}
use Rattle.dv_serial.specs.Servings.{Serving}
use Rattle.dv_serial.specs.Writes.{StandsAs}
use Rattle.dv_serving.proofs.Counting.{AreAvailable, answer_available, counts_none, failures_on, one_available, rose_none, rose_since, told_failures}
use Rattle.dv_serial.proofs.Crashing.{first_between, looks_between, stays_between}
use Rattle.dv_serial.proofs.Failing.{owed_longer}
use Rattle.dv_serial.proofs.Going.{WritesNothing, at_on, refused_stays, same_writes_nothing}
use Rattle.dv_serving.proofs.Refusals.{refused_available}
use Rattle.dv_serial.proofs.Seated.{seated_with, state_at}
use Rattle.dv_serial.proofs.Untouched.{same_others}
use Rattle.dv_serial.proofs.Stepping.{attempt, failed_step, may_on, play_on, refused_step, served_step}
use Rattle.dv_shelf.specs.Sees.{SeesFolder, SeesTime}

-- a group changes no session
group_states : (clock : ℕ → ℕ) (play : Play) (line : Line) → (with_group_here clock play line).states ≡ play.states
group_states clock play line = by (is_empty (group_here play line)) refl
  where
    by : (b : Bool) → is_empty (group_here play line) ≡ b → (with_group_here clock play line).states ≡ play.states
    by true e = rw e refl
    by false e = rw e refl

-- an answer over a place that has other names
answered_so : (mail : _) (x y : SessionState) (line : Line) (met m n : Mailbox) (q : ℕ) (other : Mailbox) (p : ℕ) (mark place : Mark) (a : Answer) → x ≡ y → met ≡ n → q ≡ p → m ≡ other → mark ≡ place
    → a ≡ answer mail x line.1 met q m mark → a ≡ answer mail y line.1 n p other place
answered_so mail x y line met m n q other p mark place a ex en ep em ek is =
    is ∙ ap (λ (z : SessionState). answer mail z line.1 met q m mark) ex
    ∙ ap (λ (z : Mailbox). answer mail y line.1 z q m mark) en
    ∙ ap (λ (z : ℕ). answer mail y line.1 n z m mark) ep
    ∙ ap (λ (z : Mailbox). answer mail y line.1 n p z mark) em
    ∙ ap (λ (z : Mark). answer mail y line.1 n p other z) ek

module _ {S C : Type 0} (sees : SeesFolder S) (ticks : SeesTime C) (clock : ℕ → ℕ) (start : Log) where
  -- ---- where the play stands

  -- the sessions may be others
  pub stands_seats : (first lines : List Attempt) (play : Play) (old mid : Serving S C) (seats : List Follower) → StandsAs sees ticks clock start first lines play old mid
      → StandsAs sees ticks clock start first lines play old (record mid { seats = seats })
  stands_seats first lines play old mid seats is = record {
    at = record { rotates = is.at.rotates; groups = is.at.groups; mailbox = is.at.mailbox; mark = is.at.mark; place = is.at.place };
    debt = is.debt;
    owed = is.owed;
    rests = is.rests;
    readings = is.readings;
    since = is.since;
    settled = is.settled;
  }

  -- the log is kept where the play of the lines stands, but for its sessions
  pub stands_keeps : (first lines : List Attempt) (play : Play) (states : ℕ → SessionState) (old new : Serving S C) → play_of clock start lines ≡ record play { states = states }
      → StandsAs sees ticks clock start first lines play old new → Keeps sees clock start lines new
  stands_keeps first lines play states old new same is = record {
    at = at_on play (play_of clock start lines) new (record {
      log = ap (λ (p : Play). p.log) same;
      mailbox = ap (λ (p : Play). p.mailbox) same;
      mark = ap (λ (p : Play). p.mark) same;
      begun = ap (λ (p : Play). p.begun) same;
    }) is.at;
    debt = is.debt;
    owed = is.owed;
    rests = subst (λ (log : Log). IsAtRest sees log is.debt new.store) (sym (ap (λ (p : Play). p.log) same)) is.rests;
  }

  pub stands_leaves : (first lines : List Attempt) (play : Play) (states : ℕ → SessionState) (old new : Serving S C) → play_of clock start lines ≡ record play { states = states }
      → StandsAs sees ticks clock start first lines play old new → Leaves sees clock start first lines old new
  stands_leaves first lines play states old new same is = record { keeps = stands_keeps first lines play states old new same is; since = is.since; settled = is.settled }

  module _ (base : ℕ) (attempts : List Attempt) where
    abbrev here : Play
    here = play_of clock start attempts

    -- ---- nothing is written

    module _ (before : ℕ) (old : Serving S C) (follows : Follows sees ticks (origin_of clock start base) before attempts old) where
      -- nothing is done
      pub stands_still : ((c : Folder) → sees.left_since old.store.shelf (sees.moment old.store.shelf) c → sees.may_leave old.store.shelf c) → StandsAs sees ticks clock start attempts attempts here old old
      stands_still now = record {
        at = follows.keeps.at;
        debt = follows.keeps.debt;
        owed = follows.keeps.owed;
        rests = follows.keeps.rests;
        readings = follows.readings;
        since = stays_between sees clock start attempts old follows.keeps now;
        settled = λ stayed settled. settled;
      }

      -- the folder is only read
      pub stands_read : (mid : Serving S C) → OnlyLooksAt old mid → OnlyReads sees old.store mid.store → StandsAs sees ticks clock start attempts attempts here old mid
      stands_read mid looks reads =
          let keeps = follows.keeps in
          let chain : mid.store.chain ≡ old.store.chain = looks.store.chain in
          record {
            at = record {
              rotates = keeps.at.rotates;
              groups = keeps.at.groups ∙ sym looks.groups;
              mailbox = keeps.at.mailbox ∙ sym (ap (λ (x : Chain). x.live.mailbox) chain);
              mark = keeps.at.mark ∙ sym looks.store.mark;
              place = subst (λ (x : Chain). StandsAt here.begun here.mark (place_of x) mid.store.owed) (sym chain)
                  (subst (λ (x : Option Turn). StandsAt here.begun here.mark (place_of old.store.chain) x) (sym looks.store.owed) keeps.at.place);
            };
            debt = keeps.debt;
            owed = subst (λ (x : Chain). IsOwedBehind clock start attempts (place_of x) keeps.debt) (sym chain) keeps.owed;
            rests = reads.rests here.log keeps.debt keeps.rests;
            readings = λ reads. ap ticks.upcoming looks.store.clock ∙ follows.readings reads;
            since = looks_between sees clock start attempts old keeps mid.store.shelf reads.looks.since;
            settled = looked_settled sees old.store.shelf mid.store.shelf reads.looks.same reads.looks.crash;
          }

    -- a line that writes nothing
    pub stands_on : (line : Line) (outcome : Outcome) (play : Play) (old new : Serving S C) → play ≡ here → WritesNothing here (play_of clock start (with_line attempts line outcome))
        → StandsAs sees ticks clock start attempts attempts here old new → StandsAs sees ticks clock start attempts (with_line attempts line outcome) play old new
    stands_on line outcome play old new same nothing is = record {
      at = at_on here play new (same_writes_nothing here play same) is.at;
      debt = is.debt;
      owed = owed_longer clock start attempts (attempt line outcome) (place_of new.store.chain) nothing.log nothing.mailbox nothing.mark is.debt is.owed;
      rests = subst (λ (p : Play). IsAtRest sees p.log is.debt new.store) (sym same) is.rests;
      readings = λ reads. is.readings reads ∙ ap (λ (p : Play). behind clock p.used) (sym same);
      since = first_between sees old.store.shelf new.store.shelf clock start attempts (with_line attempts line outcome) is.since;
      settled = is.settled;
    }

    -- ---- memory ended it

    pub ends_here : (faults : Faults) (line : Line) (old new : Serving S C) → faults.before ≤ faults.now → sees.files new.store.shelf ≡ sees.files old.store.shelf → Leaves sees clock start attempts attempts old new → EndsAt sees (origin_of clock start base) faults attempts line old new
    ends_here faults line old new later stays leaves = record {
      left = [];
      is = tt;
      failures = later;
      leaves = subst (λ (lines : List Attempt). Leaves sees clock start attempts lines old new) (sym (append-nil attempts)) leaves;
      others = same_others clock start (sees.files old.store.shelf) (sees.files new.store.shelf) (attempts ++ []) stays;
    }

    pub ends_stands : (faults : Faults) (line : Line) (old new : Serving S C) → faults.before ≤ faults.now → sees.files new.store.shelf ≡ sees.files old.store.shelf → StandsAs sees ticks clock start attempts attempts here old new
        → EndsAt sees (origin_of clock start base) faults attempts line old new
    ends_stands faults line old new later stays is = ends_here faults line old new later stays (stands_leaves attempts attempts here here.states old new refl is)

    pub ends_behind : (faults : Faults) (line : Line) (outcome : Outcome) (play : Play) (states : ℕ → SessionState) (old new : Serving S C) → (step clock here (attempt line outcome)).play ≡ record play { states = states } → IsAttempt base (attempt line outcome)
        → ((step clock here (attempt line outcome)).play.log ≡ here.log) ⊎ ((outcome ≡ Served) × MayWrite here line)
        → KeepsOthers clock start (with_line attempts line outcome) (sees.files old.store.shelf) (sees.files new.store.shelf)
        → TellsFailure faults outcome → StandsAs sees ticks clock start attempts (with_line attempts line outcome) play old new → EndsAt sees (origin_of clock start base) faults attempts line old new
    ends_behind faults line outcome play states old new same good log others told is = record {
      left = attempt line outcome ∷ [];
      is = (refl, record { attempt = good; log = log });
      failures = told_failures faults (attempt line outcome) told;
      leaves = stands_leaves attempts (with_line attempts line outcome) play states old new (play_on clock start base attempts (attempt line outcome) ∙ same) is;
      others = others;
    }

    -- ---- the line is served

    -- where the step stands
    served_on : (faults : Faults) (line : Line) (outcome : Outcome) (play : Play) (states : ℕ → SessionState) (replies : List Reply) (old new : Serving S C) → step clock here (attempt line outcome) ≡ record { replies = replies; play = record play { states = states } }
        → MayPlay clock start base faults.now (with_line attempts line outcome) → AreReadings clock → RiseFrom base (failures_of attempts) faults.before → TellsFailure faults outcome → AreSeated new.store.chain.live.mailbox states new.seats
        → KeepsOthers clock start (with_line attempts line outcome) (sees.files old.store.shelf) (sees.files new.store.shelf)
        → StandsAs sees ticks clock start attempts (with_line attempts line outcome) play old new
        → IsServed sees ticks (origin_of clock start base) faults attempts line replies old new
    served_on faults line outcome play states replies old new steps may small before told seated others is =
        let same : play_of clock start (with_line attempts line outcome) ≡ record play { states = states } = play_on clock start base attempts (attempt line outcome) ∙ ap (λ (s : Step). s.play) steps in
        record {
          outcome = outcome;
          answers = ap (λ (s : Step). s.replies) steps;
          count = told;
          follows = record {
            may = may;
            failures = failures_on base attempts (attempt line outcome ∷ []) faults before (told_failures faults (attempt line outcome) told);
            keeps = stands_keeps attempts (with_line attempts line outcome) play states old new same is;
            small = small;
            readings = λ reads. is.readings reads ∙ ap (λ (p : Play). behind clock p.used) (sym same);
            seats = subst (λ (p : Play). AreSeated new.store.chain.live.mailbox p.states new.seats) (sym same) seated;
          };
          since = is.since;
          settled = is.settled;
          others = others;
        }

    module _ (before faults : ℕ) (line : Line) (old : Serving S C) (follows : Follows sees ticks (origin_of clock start base) before attempts old) (good : IsLine line) (later : before ≤ faults) where
      -- a line that the disk's failure doesn't answer
      may_quietly : (replies : List Reply) (play : Play) → step clock here (attempt line Served) ≡ record { replies = replies; play = play } → AreAvailable replies → MayPlay clock start base faults (with_line attempts line Served)
      may_quietly replies play steps available =
          may_on clock start base attempts before faults (attempt line Served) follows.may (record { line = good; count = tt })
          (subst (λ (n : ℕ). RoseBy n before faults) (sym (ap (λ (s : Step). unavailable_count (s.replies ∷ [])) steps ∙ counts_none replies available)) (rose_none before faults later))

      pub seated_same : (new : Serving S C) → new.seats ≡ old.seats → new.store.chain.live.mailbox ≡ old.store.chain.live.mailbox → AreSeated new.store.chain.live.mailbox here.states new.seats
      seated_same new seats mailbox =
          subst (λ (m : Mailbox). AreSeated m here.states new.seats) (sym mailbox)
          (subst (λ (fs : List Follower). AreSeated old.store.chain.live.mailbox here.states fs) (sym seats) follows.seats)

      -- it is refused
      pub refused_serves : (r : Reply) (new : Serving S C) (replies : List Reply) → refused_here here line ≡ Some r → new.seats ≡ old.seats → new.store.chain.live.mailbox ≡ old.store.chain.live.mailbox → replies ≡ r ∷ []
          → KeepsOthers clock start (with_line attempts line Served) (sees.files old.store.shelf) (sees.files new.store.shelf)
          → StandsAs sees ticks clock start attempts attempts here old new → IsServed sees ticks (origin_of clock start base) (faults_between before faults) attempts line replies old new
      refused_serves r new replies refused seats mailbox lines others is =
          let steps = refused_step clock here line Served r refused in
          let available : AreAvailable (r ∷ []) = one_available r (refused_available here line r refused) in
          let stays = refused_stays clock start attempts (attempt line Served) r refused in
          subst (λ (rs : List Reply). IsServed sees ticks (origin_of clock start base) (faults_between before faults) attempts line rs old new) (sym lines)
          (served_on (faults_between before faults) line Served here here.states (r ∷ []) old new steps (may_quietly (r ∷ []) here steps available) follows.small follows.failures later (seated_same new seats mailbox) others
          (stands_on line Served here old new refl (same_writes_nothing here (play_of clock start (with_line attempts line Served)) stays) is))

      module _ (allowed : refused_here here line ≡ None) where
        -- the disk failed it
        pub failed_serves : (count : ℕ) (rotation : Rotation) (new : Serving S C) (replies : List Reply) → touches_disk line.1 ≡ true → count ≡ faults → Rose before faults → new.seats ≡ old.seats → new.store.chain.live.mailbox ≡ old.store.chain.live.mailbox
            → replies ≡ reply.Unavailable count ∷ [] → KeepsOthers clock start (with_line attempts line (Failed count rotation)) (sees.files old.store.shelf) (sees.files new.store.shelf) → StandsAs sees ticks clock start attempts (with_line attempts line (Failed count rotation)) (behind_failure here line rotation) old new
            → IsServed sees ticks (origin_of clock start base) (faults_between before faults) attempts line replies old new
        failed_serves count rotation new replies touches is_count rose seats mailbox lines others is =
            let steps = failed_step clock here line count rotation allowed touches in
            subst (λ (rs : List Reply). IsServed sees ticks (origin_of clock start base) (faults_between before faults) attempts line rs old new) (sym lines)
            (served_on (faults_between before faults) line (Failed count rotation) (behind_failure here line rotation) here.states (reply.Unavailable count ∷ []) old new steps
            (may_on clock start base attempts before faults (attempt line (Failed count rotation)) follows.may (failed_attempt count rotation is_count rose)
            (subst (λ (n : ℕ). RoseBy n before faults) (sym (ap (λ (s : Step). unavailable_count (s.replies ∷ [])) steps)) rose))
            follows.small follows.failures (rose, is_count)
            (seated_same new seats mailbox) others is)
          where
            failed_attempt : (n : ℕ) (turned : Rotation) → n ≡ faults → Rose before faults → IsAttempt base (attempt line (Failed n turned))
            failed_attempt n turned e r = record { line = good; count = subst (Rose base) (sym e) (rose_since _ base before faults follows.may.few r) }

        -- it is told
        pub told_serves : (at : ℕ) (mid new : Serving S C) (replies : List Reply) → line.0 ≡ at + 1 → at < length mid.seats → KeepsOthers clock start (with_line attempts line Served) (sees.files old.store.shelf) (sees.files mid.store.shelf)
            → StandsAs sees ticks clock start attempts (with_line attempts line Served) (with_group_here clock here line) old mid
            → AreSeated mid.store.chain.live.mailbox here.states mid.seats → IsAbreast mid.store.chain.live.mailbox (seat_at new.seats at)
            → record { replies = replies; next = (seat_at new.seats at).state }
            ≡ answer (with_group_here clock here line).log.mail (seat_at mid.seats at).state line.1 old.store.chain.live.mailbox mid.groups mid.store.chain.live.mailbox mid.store.mark
            → with_seat at (seat_at new.seats at) mid ≡ new → IsServed sees ticks (origin_of clock start base) (faults_between before faults) attempts line replies old new
        told_serves at mid new replies number less others is seated abreast answered only =
            let play : Play = with_group_here clock here line in
            let f : Follower = seat_at new.seats at in
            let m : Mailbox = mid.store.chain.live.mailbox in
            let a : Answer = answer play.log.mail (here.states line.0) line.1 here.mailbox (length play.log.entries) play.mailbox play.mark in
            let steps : step clock here (attempt line Served) ≡ told here line play = served_step clock here line allowed in
            let same : record { replies = replies; next = f.state } ≡ a =
            answered_so play.log.mail (seat_at mid.seats at).state (here.states line.0) line old.store.chain.live.mailbox m here.mailbox mid.groups play.mailbox (length play.log.entries) mid.store.mark play.mark (record { replies = replies; next = f.state })
            (state_at m here.states mid.seats seated at less ∙ ap here.states (sym number)) (sym follows.keeps.at.mailbox) (sym is.at.groups) (sym is.at.mailbox) (sym is.at.mark) answered in
            let states_are : with_state here.states (at + 1) f.state ≡ with_state play.states line.0 a.next =
            ap (λ (st : ℕ → SessionState). with_state st (at + 1) f.state) (sym (group_states clock here line))
            ∙ ap (λ (n : ℕ). with_state play.states n f.state) (sym number)
            ∙ ap (λ (b : Answer). with_state play.states line.0 b.next) same in
            subst (λ (rs : List Reply). IsServed sees ticks (origin_of clock start base) (faults_between before faults) attempts line rs old new) (sym (ap (λ (b : Answer). b.replies) same))
            (subst (λ (n : Serving S C). IsServed sees ticks (origin_of clock start base) (faults_between before faults) attempts line a.replies old n) only
            (served_on (faults_between before faults) line Served play (with_state play.states line.0 a.next) a.replies old (with_seat at f mid) steps
            (may_quietly a.replies (told here line play).play steps (answer_available play.log.mail (here.states line.0) line.1 here.mailbox (length play.log.entries) play.mailbox play.mark))
            follows.small follows.failures later
            (subst (λ (st : ℕ → SessionState). AreSeated m st (with_seat at f mid).seats) states_are (seated_with m here.states mid.seats seated at f less abreast)) others
            (stands_seats attempts (with_line attempts line Served) play old mid (with_seat at f mid).seats is)))
