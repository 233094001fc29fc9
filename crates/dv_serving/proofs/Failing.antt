-- What a write that the disk failed leaves: how far a rotation came, and what is owed.
use Rattle.std.proofs.Common.{◌≡◌, ◌⊎◌, inl, inr, ⊎_elim, ℕ, ◌+◌, Bool, true, false, not, ◌&&◌, ◌||◌, List, ◌++◌, Option, Some, None, refl, sym, ◌∙◌, ap, subst}
use Rattle.std.specs.Prelude.{IsSome, if◌then◌else◌}
use Rattle.dv_model.specs.declared.types.Group.{Group}
use Rattle.dv_model.specs.declared.types.Mailbox.{Mailbox}
use Rattle.dv_model.specs.declared.types.Mark.{Mark}
use Rattle.dv_model.specs.Journals.{Log, is_rotation_due}
use Rattle.dv_model.specs.Spelling.{group_text}
use Rattle.dv_model.specs.Transcripts.{Line}
use Rattle.dv_logfile.specs.Layout.{closing}
use Rattle.dv_chain.specs.declared.chain.Chain.{Chain}
use Rattle.dv_files.specs.declared.texts.Turn.{Turn}
use Rattle.dv_files.specs.Texts.{place_of}
use Rattle.dv_writing.specs.Debts.{Debt, Last, Nothing, Pending}
use Rattle.dv_writing.specs.Writes.{IsAfter, MayOweGate, Write, log_with}
use Rattle.dv_plans.specs.Begins.{turns}
use Rattle.dv_playing.specs.Laws.{MayWrite}
use Rattle.dv_playing.specs.Playing.{DueAgain, Made, Owed, Play, Rotation, behind_failure, begins_file, group_here, is_empty}
use Rattle.dv_store.specs.Commits.{IsLeftAt, begin_of, text_by}
use Rattle.dv_store.specs.States.{State}
use Rattle.dv_serving.specs.Commits.{IsLeftBy, IsPendingHere, IsWriteAt, OwesBehind}
use Rattle.dv_serving.specs.Places.{StandsAt, begin_at, next_file}
use Rattle.dv_serving.proofs.Matching.{after_here}

-- ---- how far the rotation came

again_is : (b e f : Bool) → b ≡ (b || (e && f && false))
again_is true e f = refl
again_is false true true = refl
again_is false true false = refl
again_is false false f = refl

begun_is : (b e f : Bool) → e ≡ true → f ≡ true → true ≡ (b || (e && f && true))
begun_is true e f some due = refl
begun_is false true true some due = refl
begun_is false true false some due = absurd cc
begun_is false false f some due = absurd cc

-- a rotation is made where one was due, and stays made
made_is : (b e due : Bool) → e ≡ true → (b ≡ true → due ≡ true) → due ≡ (b || (e && (due && not b) && true))
made_is true e due some was = was refl
made_is false true true some was = refl
made_is false true false some was = refl
made_is false false due some was = absurd cc

-- a play begun a file at its mark only where one was due
begun_due : (begun : Bool) (mark place : Mark) (owed : Option Turn) → StandsAt begun mark place owed → begun ≡ true → is_rotation_due true mark ≡ true
begun_due false mark place owed stands is = absurd cc
begun_due true mark place owed stands is = stands.0

-- at the log's begin of the next group no turn is owed
pub stands_begin : (due : Bool) (mark place : Mark) (owed : Option Turn) → is_rotation_due true mark ≡ due → place ≡ begin_at mark → owed ≡ None → StandsAt due mark place owed
stands_begin true mark place owed is at none = (is, inr (at ∙ ap (λ (b : Bool). if b then next_file mark else mark) is, none))
stands_begin false mark place owed is at none = (at ∙ ap (λ (b : Bool). if b then next_file mark else mark) is, none)

-- where a rotation comes first, none is owed, and none was begun
pub none_begun : (begun : Bool) (mark : Mark) (owed : Option Turn) (chain : Chain) → StandsAt begun mark (place_of chain) owed → turns owed chain ≡ true → (place_of chain ≡ mark) × (owed ≡ None) × (is_rotation_due true mark ≡ true)
none_begun begun mark (Some turn) chain stands is = absurd cc
none_begun false mark None chain stands is = (stands.0, refl, ap (is_rotation_due true) (sym stands.0) ∙ is)
none_begun true mark None chain stands is = ⊎_elim (λ at. absurd cc) (λ at. absurd (none_new at.0)) stands.1
  where
    none_new : place_of chain ≡ next_file mark → ⊥
    none_new at = let new : false ≡ true = ap (is_rotation_due true) (sym at) ∙ is in cc

-- ---- what is left

moved_stands : (begun : Bool) (mark old new : Mark) (turn left : Option Turn) → new ≡ old → left ≡ turn → StandsAt begun mark old turn → StandsAt begun mark new left
moved_stands begun mark old new turn left at same stands =
    subst (λ (place : Mark). StandsAt begun mark place left) (sym at) (subst (StandsAt begun mark old) (sym same) stands)

-- ---- by what the store left

module _ {S C : Type 0} (clock : ℕ → ℕ) (play : Play) (line : Line) (write : Write) (old : State S C) (debt : Debt) (is : IsWriteAt clock play line write old.owed old.chain)
    (rotates : play.log.rotates ≡ true) (stands : StandsAt play.begun play.mark (place_of old.chain) old.owed) (may : MayWrite play line) where
  abbrev some : Bool
  some = not (is_empty (group_here play line))

  some_is : some ≡ true
  some_is = ap not may.some

  abbrev IsLeft : State S C → Debt → Type 0
  IsLeft new now = IsLeftBy clock play line debt old new now

  -- the rotation is due again
  again_stands : (new : State S C) → place_of new.chain ≡ place_of old.chain → new.owed ≡ old.owed → StandsAt (behind_failure play line DueAgain).begun play.mark (place_of new.chain) new.owed
  again_stands new at same =
      subst (λ (b : Bool). StandsAt b play.mark (place_of new.chain) new.owed) (again_is play.begun some (begins_file play))
      (moved_stands play.begun play.mark (place_of old.chain) (place_of new.chain) old.owed new.owed at same stands)

  -- all as before
  left_same : (new : State S C) (now : Debt) → place_of new.chain ≡ place_of old.chain → new.owed ≡ old.owed → now ≡ debt → IsLeft new now
  left_same new now at same debt_is = record { rotation = DueAgain; place = again_stands new at same; owes = inl (debt_is, at) }

  -- what was owed is paid
  left_paid : (new : State S C) (now : Debt) → place_of new.chain ≡ place_of old.chain → turns old.owed old.chain ≡ true → new.owed ≡ None → now ≡ Nothing → IsLeft new now
  left_paid new now at due none debt_is = record {
    rotation = DueAgain;
    place = again_stands new at (none ∙ sym (none_begun play.begun play.mark old.owed old.chain stands due).1);
    owes = inr (inl (inl debt_is));
  }

  -- the rotation's last replace is owed
  left_last : (new : State S C) (now : Debt) (file : List ℕ) → place_of new.chain ≡ place_of old.chain → turns old.owed old.chain ≡ true → IsSome new.owed → now ≡ Last file → IsLeft new now
  left_last new now file at due turn debt_is =
      let was = none_begun play.begun play.mark old.owed old.chain stands due in
      record {
        rotation = Owed;
        place = subst (λ (b : Bool). StandsAt b play.mark (place_of new.chain) new.owed) (begun_is play.begun some (begins_file play) some_is (sym is.turning ∙ due))
            (was.2, inl (at ∙ was.0, turn));
        owes = inr (inl (inr (file, debt_is)));
      }

  -- the log ends where the group begins
  made_stands : (new : State S C) → place_of new.chain ≡ begin_of old.owed old.chain → new.owed ≡ None → StandsAt (behind_failure play line Made).begun play.mark (place_of new.chain) new.owed
  made_stands new at none =
      let due : Bool = is_rotation_due play.log.rotates play.mark in
      let due_is : is_rotation_due true play.mark ≡ due = ap (λ (b : Bool). is_rotation_due b play.mark) (sym rotates) in
      subst (λ (b : Bool). StandsAt b play.mark (place_of new.chain) new.owed)
      (made_is play.begun some due some_is (λ begun. sym due_is ∙ begun_due play.begun play.mark (place_of old.chain) old.owed stands begun))
      (stands_begin due play.mark (place_of new.chain) new.owed due_is (at ∙ is.begin) none)

  -- this line's group may stand there
  this_pending : (after : Mailbox) → IsAfter play.log write old.chain.live.mailbox after
      → IsPendingHere clock play line (Pending (text_by play.log write old.chain.live.mailbox) after (log_with play.log write old.chain.live.mailbox))
  this_pending after gives = (
    ap (λ (g : Group). group_text g ++ closing) is.group,
    after_here clock play line write old.owed old.chain is after gives,
    is.log may.some,
  )

  left_begin : (new : State S C) (now : Debt) → place_of new.chain ≡ begin_of old.owed old.chain → new.owed ≡ None → MayOweGate play.log write (text_by play.log write old.chain.live.mailbox) old.chain.live.mailbox now → IsLeft new now
  left_begin new now at none gate = record {
    rotation = Made;
    place = made_stands new at none;
    owes = inr (⊎_elim (λ paid. inl (inl paid))
        (λ gate_open. inr (subst (IsPendingHere clock play line) (sym gate_open.2) (this_pending gate_open.0 gate_open.1), at ∙ is.begin)) gate);
  }

  pub left_behind : (new : State S C) (now : Debt) → IsLeftAt play.log debt write old new now → IsLeftBy clock play line debt old new now
  left_behind new now =
      ⊎_elim (λ same. left_same new now same.0 same.1 same.2)
      (⊎_elim (λ paid. left_paid new now paid.0 paid.1 paid.2 paid.3)
      (⊎_elim (λ last. left_last new now last.3.0 last.0 last.1 last.2 last.3.1)
      (λ begins. left_begin new now begins.0 begins.1 begins.2)))
