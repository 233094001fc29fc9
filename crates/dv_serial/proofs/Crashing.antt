-- What a crash leaves at any moment of a write: the log behind some of the lines, or that with the
-- group of one that the disk failed.
use Rattle.std.proofs.Common.{◌≡◌, ◌⊎◌, inl, inr, ⊎_elim, ℕ, Bool, true, false, List, [], ◌∷◌, ◌++◌, append-nil, append_assoc, Option, None, refl, sym, ◌∙◌, ap, subst}
use Rattle.std.specs.Prelude.{if◌then◌else◌}
use Rattle.dv_model.specs.declared.types.Mailbox.{Mailbox}
use Rattle.dv_model.specs.Journals.{Log}
use Rattle.dv_model.specs.Journals as journals
use Rattle.dv_model.specs.Transcripts.{Line, touches_disk}
use Rattle.dv_shelf.specs.Crashes.{LeavesOnly}
use Rattle.dv_shelf.specs.Folders.{Folder}
use Rattle.dv_shelf.specs.Sees.{SeesFolder}
use Rattle.dv_shelf.proofs.Moments.{started, weaker}
use Rattle.dv_chain.specs.declared.chain.Chain.{Chain}
use Rattle.dv_files.specs.declared.texts.Turn.{Turn}
use Rattle.dv_files.specs.Texts.{place_of}
use Rattle.dv_writing.specs.Debts.{Debt, Fits, Last, Nothing, Pending}
use Rattle.dv_writing.specs.Debts as debts
use Rattle.dv_writing.specs.Keeping.{Gives}
use Rattle.dv_writing.specs.Opening.{mark_behind}
use Rattle.dv_writing.proofs.Resting.{rests_give}
use Rattle.dv_playing.specs.Laws.{MayWrite}
use Rattle.dv_playing.specs.Playing.{Attempt, Failed, Outcome, Play, Rotation, Served, behind_failure, begin, fared, group_here, is_empty, refused_here, stepped_by, told, with_group_here}
use Rattle.dv_playing.proofs.Plays.{goes_on}
use Rattle.dv_serving.specs.Commits.{GivesDuring, GivesOwed}
use Rattle.dv_serving.specs.Places.{GivesPlay, GivesWith, IsFailedWrite, StandsAt, begin_at}
use Rattle.dv_serving.proofs.Crashing.{group_gives, rest_gives, text_behind, write_touches}
use Rattle.dv_serving.proofs.Matching.{mark_with}
use Rattle.dv_serial.specs.Following.{Keeps, with_line}
use Rattle.dv_serial.specs.Places.{GivesBehind, GivesBetween, GivesNext, IsLastFailed, IsOwedBehind, IsPendingOf, MayGive, play_of}
use Rattle.dv_serial.specs.Servings.{Serving}

-- ---- some of the lines, and more

next_longer : (clock : ℕ → ℕ) (play : Play) (back more : List Attempt) (c : Folder) → GivesNext clock play back c → GivesNext clock play (back ++ more) c
next_longer clock play [] [] c gives = gives
next_longer clock play [] (a ∷ more) c gives = inl gives
next_longer clock play (b ∷ back) more c gives = gives

module _ (clock : ℕ → ℕ) (start : Log) (attempts : List Attempt) (c : Folder) where
  -- what is given behind some lines may be given while more are served
  pub longer_may : (more : List Attempt) → MayGive clock start attempts c → MayGive clock start (attempts ++ more) c
  longer_may more may = record {
    front = may.front;
    back = may.back ++ more;
    lines = ap (λ (these : List Attempt). these ++ more) may.lines ∙ append_assoc may.front may.back more;
    gives = next_longer clock (play_of clock start may.front) may.back more c may.gives;
  }

  pub play_may : GivesPlay (play_of clock start attempts) c → MayGive clock start attempts c
  play_may gives = record { front = attempts; back = []; lines = sym (append-nil attempts); gives = gives }

  -- the group of a line that failed before, behind the lines in front of it
  last_may : (met : Play) (a : Attempt) → IsLastFailed clock start attempts met a → GivesWith clock met a.line c → MayGive clock start attempts c
  last_may met a last gives = record {
    front = last.front;
    back = a ∷ last.back;
    lines = last.lines;
    gives = inr (
      subst (λ (play : Play). IsFailedWrite play a) last.was last.failed,
      subst (λ (play : Play). GivesWith clock play a.line c) last.was gives,
    );
  }

  pub behind_may : GivesBehind clock start attempts c → MayGive clock start attempts c
  behind_may = ⊎_elim play_may (λ with. last_may with.0 with.1 with.2 with.3)

-- what is given between some lines and more
pub between_may : (clock : ℕ → ℕ) (start : Log) (attempts more : List Attempt) (c : Folder) → GivesBetween clock start attempts (attempts ++ more) c → MayGive clock start (attempts ++ more) c
between_may clock start attempts more c =
    ⊎_elim (λ before. longer_may clock start attempts c more (behind_may clock start attempts c before)) (behind_may clock start (attempts ++ more) c)

-- ---- a store at rest behind the lines

module _ (clock : ℕ → ℕ) (start : Log) (attempts : List Attempt) (chain : Chain) (c : Folder) where
  abbrev end : Play
  end = play_of clock start attempts

  -- the group that is owed
  pending_gives : (text : List ℕ) (after : Mailbox) (written : Log) → end.log.rotates ≡ true → IsPendingOf clock start attempts text after written → place_of chain ≡ begin_at end.mark
      → Gives written after (mark_behind text chain) c → GivesBehind clock start attempts c
  pending_gives text after written rotates is at gives =
      let met : Play = is.met in
      let line : Line = is.attempt.line in
      let some : is_empty (group_here met line) ≡ false = is.failed.failed.write.some in
      let turns_over : true ≡ met.log.rotates = sym rotates ∙ ap (λ (log : Log). log.rotates) is.failed.log in
      let mark_is : mark_behind text chain ≡ (with_group_here clock met line).mark =
      text_behind text (group_here met line) chain met.mark is.spelled (at ∙ ap begin_at is.failed.mark)
      ∙ ap (λ (b : Bool). journals.mark_behind b met.mark (group_here met line)) turns_over
      ∙ mark_with clock met line some in
      inr (met, is.attempt, is.failed, group_gives clock met line written after (mark_behind text chain) c some is.gives is.log mark_is gives)

  -- so it gives what is owed
  pub owed_behind : (debt : Debt) → end.log.rotates ≡ true → IsOwedBehind clock start attempts (place_of chain) debt → GivesOwed debt chain c → GivesBehind clock start attempts c
  owed_behind Nothing rotates behind gives = absurd gives
  owed_behind (Last new) rotates behind gives = absurd gives
  owed_behind (Pending text after written) rotates behind gives = pending_gives text after written rotates behind.0 behind.1 gives

  -- what a crash leaves of it
  pub rest_behind : (debt : Debt) (owed : Option Turn) → end.log.rotates ≡ true → end.mailbox ≡ chain.live.mailbox → StandsAt end.begun end.mark (place_of chain) owed → Fits owed debt → IsOwedBehind clock start attempts (place_of chain) debt
      → debts.MayGive end.log debt chain c → GivesBehind clock start attempts c
  rest_behind debt owed rotates mailbox stands fits behind gives =
      ⊎_elim inl (owed_behind debt rotates behind) (rest_gives end chain c debt owed mailbox stands fits gives)

-- ---- a serving behind the lines

module _ {S C : Type 0} (sees : SeesFolder S) (clock : ℕ → ℕ) (start : Log) (attempts : List Attempt) (serving : Serving S C) (keeps : Keeps sees clock start attempts serving) where
  -- it gives the log behind them, or that with a group that the disk failed
  pub keeps_behind : (c : Folder) → sees.may_leave serving.store.shelf c → GivesBehind clock start attempts c
  keeps_behind c left =
      let chain : Chain = serving.store.chain in
      rest_behind clock start attempts chain c keeps.debt serving.store.owed keeps.at.rotates keeps.at.mailbox keeps.at.place keeps.rests.fits keeps.owed
      (rests_give sees (play_of clock start attempts).log keeps.debt chain serving.store.shelf c keeps.rests.stands left)

  -- so do the files as they are read
  pub files_behind : sees.may_leave serving.store.shelf (sees.files serving.store.shelf) → GivesBehind clock start attempts (sees.files serving.store.shelf)
  files_behind there = keeps_behind (sees.files serving.store.shelf) there

  -- and what a crash leaves while it is only looked at
  pub looks_between : (new : S) → LeavesOnly sees serving.store.shelf new (sees.may_leave serving.store.shelf)
      → LeavesOnly sees serving.store.shelf new (GivesBetween clock start attempts attempts)
  looks_between new since =
      weaker sees serving.store.shelf new (sees.may_leave serving.store.shelf) (GivesBetween clock start attempts attempts) since (λ c left. inl (keeps_behind c left))

  -- or isn't called
  pub stays_between : ((c : Folder) → sees.left_since serving.store.shelf (sees.moment serving.store.shelf) c → sees.may_leave serving.store.shelf c)
      → LeavesOnly sees serving.store.shelf serving.store.shelf (GivesBetween clock start attempts attempts)
  stays_between now =
      started sees serving.store.shelf (GivesBetween clock start attempts attempts) (λ c left. inl (keeps_behind c (now c left)))

  pub stays_may : ((c : Folder) → sees.left_since serving.store.shelf (sees.moment serving.store.shelf) c → sees.may_leave serving.store.shelf c)
      → LeavesOnly sees serving.store.shelf serving.store.shelf (MayGive clock start attempts)
  stays_may now =
      started sees serving.store.shelf (MayGive clock start attempts) (λ c left. behind_may clock start attempts c (keeps_behind c (now c left)))

-- with one line more, or more of them
pub more_may : {S : Type 0} (sees : SeesFolder S) (old new : S) (clock : ℕ → ℕ) (start : Log) (attempts more : List Attempt) → LeavesOnly sees old new (MayGive clock start attempts)
    → LeavesOnly sees old new (MayGive clock start (attempts ++ more))
more_may sees old new clock start attempts more since =
    weaker sees old new (MayGive clock start attempts) (MayGive clock start (attempts ++ more)) since (λ c. longer_may clock start attempts c more)

-- what is given behind the lines before is given between them and any
pub first_between : {S : Type 0} (sees : SeesFolder S) (old new : S) (clock : ℕ → ℕ) (start : Log) (attempts behind : List Attempt) → LeavesOnly sees old new (GivesBetween clock start attempts attempts)
    → LeavesOnly sees old new (GivesBetween clock start attempts behind)
first_between sees old new clock start attempts behind since =
    weaker sees old new (GivesBetween clock start attempts attempts) (GivesBetween clock start attempts behind) since (λ c. ⊎_elim inl inl)

-- ---- one line more of the play

module _ (clock : ℕ → ℕ) (start : Log) (attempts : List Attempt) (line : Line) (allowed : refused_here (play_of clock start attempts) line ≡ None) where
  abbrev met_here : Play
  met_here = play_of clock start attempts

  stepped : (outcome : Outcome) → play_of clock start (with_line attempts line outcome) ≡ (fared clock met_here line (if touches_disk line.1 then outcome else Served)).play
  stepped outcome =
      let a : Attempt = record { line = line; outcome = outcome } in
      goes_on clock (begin start) attempts a ∙ ap (λ (o : Option _). (stepped_by clock met_here a o).play) allowed

  -- what is served
  pub served_play : play_of clock start (with_line attempts line Served) ≡ (told met_here line (with_group_here clock met_here line)).play
  served_play = stepped Served ∙ ap (λ (o : Outcome). (fared clock met_here line o).play) (by_test (touches_disk line.1))
    where
      by_test : (b : Bool) → (if b then Served else Served) ≡ Served
      by_test true = refl
      by_test false = refl

  -- what the disk failed
  pub failed_play : (faults : ℕ) (rotation : Rotation) → touches_disk line.1 ≡ true → play_of clock start (with_line attempts line (Failed faults rotation)) ≡ behind_failure met_here line rotation
  failed_play faults rotation touches =
      stepped (Failed faults rotation) ∙ ap (λ (b : Bool). (fared clock met_here line (if b then Failed faults rotation else Served)).play) touches

-- the last line failed, whose group may stand behind the log
pub last_failed : (clock : ℕ → ℕ) (start : Log) (attempts : List Attempt) (line : Line) → MayWrite (play_of clock start attempts) line → (faults : ℕ) (rotation : Rotation)
    → IsLastFailed clock start (with_line attempts line (Failed faults rotation)) (play_of clock start attempts) (record { line = line; outcome = Failed faults rotation })
last_failed clock start attempts line may faults rotation =
    let is : play_of clock start (with_line attempts line (Failed faults rotation)) ≡ behind_failure (play_of clock start attempts) line rotation =
    failed_play clock start attempts line may.allowed faults rotation (write_touches line may.write) in
    record {
      front = attempts;
      back = [];
      lines = refl;
      was = refl;
      failed = record { faults = faults; rotation = rotation; outcome = refl; write = may };
      log = ap (λ (play : Play). play.log) is;
      mailbox = ap (λ (play : Play). play.mailbox) is;
      mark = ap (λ (play : Play). play.mark) is;
    }

-- ---- a commit

module _ (clock : ℕ → ℕ) (start : Log) (attempts : List Attempt) (line : Line) (chain : Chain) (debt : Debt)
    (rotates : (play_of clock start attempts).log.rotates ≡ true) (behind : IsOwedBehind clock start attempts (place_of chain) debt) (may : MayWrite (play_of clock start attempts) line) (c : Folder) where
  abbrev here : Play
  here = play_of clock start attempts

  -- the log from before
  before_gives : (after : List Attempt) → GivesPlay here c ⊎ GivesOwed debt chain c → GivesBetween clock start attempts after c
  before_gives after before = inl (⊎_elim inl (owed_behind clock start attempts chain c debt rotates behind) before)

  -- or, where it was served, that with the line's group
  pub served_gives : GivesDuring clock here line debt chain c → GivesBetween clock start attempts (with_line attempts line Served) c
  served_gives =
      ⊎_elim (before_gives (with_line attempts line Served))
      (λ with. inr (inl (subst (λ (play : Play). GivesPlay play c) (sym (served_play clock start attempts line may.allowed)) (inl with))))

  -- where the disk failed it
  pub failed_gives : (faults : ℕ) (rotation : Rotation) → GivesDuring clock here line debt chain c → GivesBetween clock start attempts (with_line attempts line (Failed faults rotation)) c
  failed_gives faults rotation =
      ⊎_elim (before_gives (with_line attempts line (Failed faults rotation)))
      (λ with. inr (inr (here, record { line = line; outcome = Failed faults rotation }, last_failed clock start attempts line may faults rotation, with)))
