-- What a failed write leaves: the log as it was, a rotation as far as it came, and what is owed.
use Rattle.std.proofs.Common.{◌≡◌, inl, inr, ⊎_elim, ℕ, Bool, true, false, not, ◌&&◌, ◌||◌, List, [], ◌∷◌, ◌++◌, append_assoc, Option, Some, None, refl, sym, ◌∙◌, ap, subst}
use Rattle.std.specs.Prelude.{IsSome, if◌then◌else◌}
use Rattle.dv_model.specs.declared.types.Group.{Group}
use Rattle.dv_model.specs.declared.types.Mailbox.{Mailbox}
use Rattle.dv_model.specs.declared.types.Mark.{Mark}
use Rattle.dv_model.specs.Journals.{Log, is_rotation_due}
use Rattle.dv_model.specs.Spelling.{group_text}
use Rattle.dv_model.specs.Transcripts.{Line}
use Rattle.dv_shelf.specs.Clocks.{behind}
use Rattle.dv_shelf.specs.Crashes.{LeavesOnly}
use Rattle.dv_shelf.specs.Folders.{Folder}
use Rattle.dv_shelf.proofs.Moments.{weaker}
use Rattle.dv_logfile.specs.Layout.{closing}
use Rattle.dv_chain.specs.declared.chain.Chain.{Chain}
use Rattle.dv_logfile.specs.Settling.{StaysSettled}
use Rattle.dv_files.specs.declared.texts.Turn.{Turn}
use Rattle.dv_files.specs.Texts.{place_of}
use Rattle.dv_writing.specs.Debts.{Debt, Fits, Last, Nothing, Pending}
use Rattle.dv_plans.specs.Begins.{turns}
use Rattle.dv_writing.specs.Writes.{IsAfter, MayOweGate, Write, log_with}
use Rattle.dv_playing.specs.Laws.{MayWrite}
use Rattle.dv_playing.specs.Playing.{Attempt, DueAgain, Failed, Made, Owed, Play, Rotation, behind_failure, begins_file, group_here, is_empty, used_by}
use Rattle.dv_store.specs.Commits.{IsLeftAt, MayGiveCommit, begin_of, text_by}
use Rattle.dv_store.specs.Rest.{IsAtRest}
use Rattle.dv_store.specs.States.{State}
use Rattle.dv_serial.specs.Following.{IsAt, with_line}
use Rattle.dv_serial.specs.Places.{GivesBetween, IsLastFailed, IsOwedBehind, IsPendingOf, play_of}
use Rattle.dv_serving.specs.Places.{StandsAt, begin_at, next_file}
use Rattle.dv_serial.specs.Servings.{Serving}
use Rattle.dv_serial.specs.Writes.{IsFailedBy}
use Rattle.dv_serial.proofs.Crashing.{failed_gives, failed_play, last_failed}
use Rattle.dv_serving.proofs.Crashing.{write_touches}
use Rattle.dv_serving.specs.Commits.{GivesDuring, HasFailed, IsLeftBy, IsOfRotation, IsPendingHere}
use Rattle.dv_shelf.specs.Sees.{SeesFolder, SeesTime}

-- ---- one line more that writes no group

module _ (clock : ℕ → ℕ) (start : Log) (attempts : List Attempt) (a : Attempt) (place : Mark) where
  abbrev before : Play
  before = play_of clock start attempts

  abbrev behind_it : Play
  behind_it = play_of clock start (attempts ++ a ∷ [])

  module _ (log : behind_it.log ≡ before.log) (mailbox : behind_it.mailbox ≡ before.mailbox) (mark : behind_it.mark ≡ before.mark) where
    last_longer : (met : Play) (b : Attempt) → IsLastFailed clock start attempts met b → IsLastFailed clock start (attempts ++ a ∷ []) met b
    last_longer met b last = record {
      front = last.front;
      back = last.back ++ a ∷ [];
      lines = ap (λ (these : List Attempt). these ++ a ∷ []) last.lines ∙ append_assoc last.front (b ∷ last.back) (a ∷ []);
      was = last.was;
      failed = last.failed;
      log = log ∙ last.log;
      mailbox = mailbox ∙ last.mailbox;
      mark = mark ∙ last.mark;
    }

    -- what was owed still is
    pub owed_longer : (debt : Debt) → IsOwedBehind clock start attempts place debt → IsOwedBehind clock start (attempts ++ a ∷ []) place debt
    owed_longer Nothing is = tt
    owed_longer (Last new) is = tt
    owed_longer (Pending text after written) is = (
      record {
        met = is.0.met;
        attempt = is.0.attempt;
        failed = last_longer is.0.met is.0.attempt is.0.failed;
        spelled = is.0.spelled;
        gives = is.0.gives;
        log = is.0.log;
      },
      is.1 ∙ ap begin_at (sym mark),
    )

-- ---- what is left

-- the new store stands there with what is owed, where the rotation came so far
pub record IsLeftSo {S C : Type 0} (clock : ℕ → ℕ) (start : Log) (attempts : List Attempt)
    (line : Line) (faults : ℕ) (new : State S C) (now : Debt) : Type 0 where
  pub rotation : Rotation
  pub place : StandsAt (behind_failure (play_of clock start attempts) line rotation).begun
      (play_of clock start attempts).mark (place_of new.chain) new.owed
  pub owes : IsOwedBehind clock start (with_line attempts line (Failed faults rotation))
      (place_of new.chain) now

module _ {S C : Type 0} (clock : ℕ → ℕ) (start : Log) (attempts : List Attempt) (line : Line) (old : State S C) (debt : Debt) (faults : ℕ)
    (owed : IsOwedBehind clock start attempts (place_of old.chain) debt) (may : MayWrite (play_of clock start attempts) line) where
  abbrev here : Play
  here = play_of clock start attempts

  abbrev tried : Rotation → Attempt
  tried rotation = record { line = line; outcome = Failed faults rotation }

  abbrev lines : Rotation → List Attempt
  lines rotation = with_line attempts line (Failed faults rotation)

  play_is : (rotation : Rotation) → play_of clock start (lines rotation) ≡ behind_failure here line rotation
  play_is rotation = failed_play clock start attempts line may.allowed faults rotation (write_touches line may.write)

  -- what was owed before
  owes_same : (rotation : Rotation) (place : Mark) (now : Debt) → now ≡ debt → place ≡ place_of old.chain → IsOwedBehind clock start (lines rotation) place now
  owes_same rotation place now same at =
      subst (λ (d : Debt). IsOwedBehind clock start (lines rotation) place d) (sym same)
      (subst (λ (k : Mark). IsOwedBehind clock start (lines rotation) k debt) (sym at)
      (owed_longer clock start attempts (tried rotation) (place_of old.chain) (ap (λ (play : Play). play.log) (play_is rotation))
      (ap (λ (play : Play). play.mailbox) (play_is rotation)) (ap (λ (play : Play). play.mark) (play_is rotation)) debt owed))

  owes_turn : (rotation : Rotation) (place : Mark) (now : Debt) → IsOfRotation now → IsOwedBehind clock start (lines rotation) place now
  owes_turn rotation place now =
      ⊎_elim (λ none. subst (IsOwedBehind clock start (lines rotation) place) (sym none) tt)
      (λ last. subst (IsOwedBehind clock start (lines rotation) place) (sym last.1) tt)

  -- the group of the line
  owes_this : (rotation : Rotation) (place : Mark) (now : Debt) → IsPendingHere clock here line now → place ≡ begin_at here.mark → IsOwedBehind clock start (lines rotation) place now
  owes_this rotation place Nothing is at = absurd is
  owes_this rotation place (Last new) is at = absurd is
  owes_this rotation place (Pending text after written) is at = (
    record {
      met = here;
      attempt = tried rotation;
      failed = last_failed clock start attempts line may faults rotation;
      spelled = is.0;
      gives = is.1;
      log = is.2;
    },
    at ∙ ap begin_at (sym (ap (λ (play : Play). play.mark) (play_is rotation))),
  )

  pub left_so : (new : State S C) (now : Debt) → IsLeftBy clock here line debt old new now → IsLeftSo clock start attempts line faults new now
  left_so new now left = record {
    rotation = left.rotation;
    place = left.place;
    owes = ⊎_elim (λ same. owes_same left.rotation (place_of new.chain) now same.0 same.1)
        (⊎_elim (owes_turn left.rotation (place_of new.chain) now) (λ this. owes_this left.rotation (place_of new.chain) now this.0 this.1)) left.owes;
  }

-- ---- a commit that the disk failed

module _ {S C : Type 0} (sees : SeesFolder S) (ticks : SeesTime C) (clock : ℕ → ℕ) (start : Log) (attempts : List Attempt) (line : Line) (old : Serving S C)
    (at : IsAt (play_of clock start attempts) old) (debt : Debt) (owed : IsOwedBehind clock start attempts (place_of old.store.chain) debt) (new : State S C) (settled : StaysSettled sees old.store.shelf new.shelf) (faults : ℕ) where
  abbrev play : Play
  play = play_of clock start attempts

  abbrev behind_all : Serving S C
  behind_all = record old { store = new }

  pub failed_by : HasFailed sees clock play line debt old.store new → (ticks.tells → ticks.upcoming new.clock ≡ behind clock (used_by play line)) → IsFailedBy sees ticks clock start attempts line faults old behind_all
  failed_by failed readings =
      let left : IsLeftSo clock start attempts line faults new failed.now = left_so clock start attempts line old.store debt faults owed failed.may new failed.now failed.left in
      record {
        allowed = failed.may.allowed;
        mailbox = failed.mailbox;
        rotation = left.rotation;
        stands = record {
          at = record { rotates = at.rotates; groups = at.groups; mailbox = at.mailbox ∙ sym failed.mailbox; mark = at.mark ∙ sym failed.mark; place = left.place };
          debt = failed.now;
          owed = left.owes;
          rests = failed.rests;
          readings = readings;
          since = weaker sees old.store.shelf new.shelf (GivesDuring clock play line debt old.store.chain) (GivesBetween clock start attempts (with_line attempts line (Failed faults left.rotation))) failed.since
              (λ c. failed_gives clock start attempts line old.store.chain debt at.rotates owed failed.may c faults left.rotation);
          settled = settled;
        };
      }
