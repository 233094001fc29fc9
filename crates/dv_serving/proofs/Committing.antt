-- What comes of a line's write: its group is written, or it has none, or a limit refuses it, or the
-- disk fails it.
use Rattle.std.proofs.Common.{◌≡◌, ℕ, ◌+◌, ◌≤◌, Bool, true, false, List, [], ◌∷◌, length, nat_eq, Some, None, Ok, Err, refl, sym, ◌∙◌, ap, subst, arith}
use Rattle.std.specs.Prelude.{IsTrue}
use Rattle.std.proofs.lemmas.Bool.Decides.{nat_tests}
use Rattle.dv_model.specs.declared.types.Group.{Group}
use Rattle.dv_model.specs.declared.types.Mark.{Mark}
use Rattle.dv_model.specs.declared.types.Record.{Record}
use Rattle.dv_model.specs.Effects.{applied}
use Rattle.dv_model.specs.Journals.{Log}
use Rattle.dv_model.specs.Sessions.{State as SessionState, is_write}
use Rattle.dv_model.specs.Transcripts.{Line}
use Rattle.dv_shelf.specs.Clocks.{behind}
use Rattle.dv_shelf.specs.Folders.{Folder}
use Rattle.dv_shelf.specs.Sees.{SeesFolder}
use Rattle.dv_shelf.proofs.Moments.{weaker}
use Rattle.dv_groups.specs.Groups.{HasSizes}
use Rattle.dv_files.specs.Texts.{place_of}
use Rattle.dv_writing.specs.Debts.{Debt, Fits, Nothing}
use Rattle.dv_writing.specs.Writes.{Write}
use Rattle.dv_answer.specs.Refusing.{own_refusal}
use Rattle.dv_plans.specs.declared.fault.StoreFault.TheVariants as fault
use Rattle.dv_plans.specs.Overs.{group_over, limit_over}
use Rattle.dv_playing.specs.Laws.{IsLine, MayWrite}
use Rattle.dv_playing.specs.Playing.{Play, file_readings, group_here, is_empty, refused_here, with_group_here}
use Rattle.dv_store.specs.declared.receipt.Receipt.{Receipt}
use Rattle.dv_store.specs.Commits.{Commits, CommitsQuietly, MayGiveCommit, TakesFor, end_with, write_at}
use Rattle.dv_store.specs.Rest.{IsAtRest}
use Rattle.dv_store.specs.States.{State}
use Rattle.dv_serving.specs.Commits.{GivesDuring, HasFailed, HasCommitted, IsWriteAt, Meets}
use Rattle.dv_serving.specs.Places.{StandsAt}
use Rattle.dv_serving.proofs.Allowed.{refusal_met}
use Rattle.dv_serving.proofs.Crashing.{commit_gives}
use Rattle.dv_serving.proofs.Failing.{left_behind}
use Rattle.dv_serving.proofs.Places.{begin_here, group_by_met, group_met, log_met, mailbox_met, mark_met, turns_here, with_group, written_here}

-- ---- groups

pub not_empty : (g : Group) → 1 ≤ length g.records → is_empty g ≡ false
not_empty g more = by_records g.records more
  where
    by_records : (rs : List Record) → 1 ≤ length rs → nat_eq (length rs) 0 ≡ false
    by_records [] more = absurd (omega (arith, more))
    by_records (r ∷ rs) more = grind (arith, nat_tests)

pub some_there : (rs : List Record) → (rs ≡ [] → ⊥) → 1 ≤ length rs
some_there [] some = absurd (some refl)
some_there (r ∷ rs) some = omega arith

pub takes_some : (n : ℕ) (old new : ℕ → ℕ) (rs : List Record) → 1 ≤ length rs → TakesFor n old new rs → new ≡ behind old n
takes_some n old new [] more takes = absurd (omega (arith, more))
takes_some n old new (r ∷ rs) more takes = takes

pub takes_none : (n : ℕ) (old new : ℕ → ℕ) (rs : List Record) → rs ≡ [] → TakesFor n old new rs → new ≡ old
takes_none n old new rs none takes = subst (TakesFor n old new) none takes

-- ---- a write over a store that is where the play stands

module _ {S C : Type 0} (sees : SeesFolder S) (clock : ℕ → ℕ) (play : Play) (line : Line) (x : SessionState) (same : play.states line.0 ≡ x) (old : State S C) (meets : Meets play line x.view old) (sizes : HasSizes play.log.guid)
    (good : IsLine line) (write : is_write line.1 ≡ true) (own : own_refusal x line.1 ≡ None) (received : ℕ) (reading : received ≡ clock (play.used + file_readings play)) where
  abbrev pub writes : Write
  writes = write_at line.0 line.1 x.view received

  pub write_here : IsWriteAt clock play line writes old.owed old.chain
  write_here = record {
    mailbox = meets.mailbox;
    turning = turns_here play old.owed old.chain meets.rotates meets.place;
    begin = begin_here play old.owed old.chain meets.rotates meets.place;
    group = group_by_met play line x.view old meets received;
    log = λ some. log_met play line x.view old meets received clock reading some;
    mark = λ some. mark_met play line x.view old meets received clock reading some;
  }

  pub refusal : refused_here play line ≡ limit_over line.1 x.view old.chain play.log.guid
  refusal = refusal_met play line x old same meets write own

  module _ (debt : Debt) (fits : Fits old.owed debt) (new : State S C) where
    -- ---- the group is written

    module _ (receipt : Receipt) (value : Commits line.1 x.view old new (Ok receipt)) (quiet : CommitsQuietly sees play.log debt writes old new (Ok receipt)) where
      pub allowed : refused_here play line ≡ None
      allowed = refusal ∙ value.limit play.log.guid sizes

      pub group_is : receipt.group ≡ group_here play line
      group_is = quiet.group sizes ∙ write_here.group

      module _ (more : 1 ≤ length receipt.group.records) where
        some : is_empty (group_here play line) ≡ false
        some = subst (λ (g : Group). is_empty g ≡ false) group_is (not_empty receipt.group more)

        may : MayWrite play line
        may = record { good = good; write = write; allowed = allowed; some = some }

        abbrev after_it : Play
        after_it = with_group_here clock play line

        mark_is : after_it.mark ≡ receipt.mark
        mark_is = sym (value.ok.mark more ∙ ap (λ (g : Group). end_with old.owed old.chain g.records) group_is ∙ write_here.mark some)

        pub has_written : HasCommitted sees clock play line debt receipt old new
        has_written = record {
          may = may;
          group = group_is;
          mailbox = mailbox_met play line x.view old meets received clock reading some new.chain.live.mailbox
              (ap (λ (g : Group). applied old.chain.live.mailbox g.records) (sym group_is) ∙ value.ok.gives);
          mark = mark_is ∙ sym value.mark;
          told = sym value.mark;
          place = subst (λ (b : Bool). StandsAt b after_it.mark (place_of new.chain) new.owed) (sym (ap (λ (p : Play). p.begun) (with_group clock play line some)))
              (sym (value.ok.place more) ∙ sym mark_is, (value.paid more).turn);
          rests = subst (λ (log : Log). IsAtRest sees log Nothing new) (write_here.log some) (quiet.ok more);
          since = weaker sees old.shelf new.shelf (MayGiveCommit play.log debt writes old.owed old.chain) (GivesDuring clock play line debt old.chain) quiet.any_moment
              (λ c. commit_gives clock play line writes old.owed old.chain write_here debt meets.place fits may c);
        }

    -- ---- the disk failed it

    pub has_failed : (faults : ℕ) → Commits line.1 x.view old new (Err (fault.Disk faults)) → CommitsQuietly sees play.log debt writes old new (Err (fault.Disk faults)) → HasFailed sees clock play line debt old new
    has_failed faults value quiet =
        let limited = value.limit play.log.guid sizes in
        let some : is_empty (group_here play line) ≡ false = subst (λ (g : Group). is_empty g ≡ false) (group_met play line x.view old meets) (not_empty (group_over line.1 x.view old.chain play.log.guid) limited.1) in
        let may : MayWrite play line = record { good = good; write = write; allowed = refusal ∙ limited.0; some = some } in
        record {
          may = may;
          mailbox = value.failed;
          mark = value.mark;
          now = quiet.err.0;
          left = left_behind clock play line writes old debt write_here meets.rotates meets.place may new quiet.err.0 quiet.err.1;
          rests = quiet.err.2;
          since = weaker sees old.shelf new.shelf (MayGiveCommit play.log debt writes old.owed old.chain) (GivesDuring clock play line debt old.chain) quiet.any_moment
              (λ c. commit_gives clock play line writes old.owed old.chain write_here debt meets.place fits may c);
        }
