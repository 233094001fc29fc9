-- A write over a store that is where a play stands, and a group behind the play.
use Rattle.std.proofs.Common.{◌≡◌, ℕ, false, Option, Some, sym, ◌∙◌, ap}
use Rattle.std.specs.Prelude.{unwrap_or}
use Rattle.dv_model.specs.declared.types.Group.{Group}
use Rattle.dv_model.specs.declared.types.Mailbox.{Mailbox}
use Rattle.dv_model.specs.Effects.{applied}
use Rattle.dv_model.specs.Journals.{mark_behind}
use Rattle.dv_model.specs.Transcripts.{Line}
use Rattle.dv_chain.specs.declared.chain.Chain.{Chain}
use Rattle.dv_files.specs.declared.texts.Turn.{Turn}
use Rattle.dv_plans.specs.Begins.{turns}
use Rattle.dv_writing.specs.Writes.{IsAfter, Write, group_by, log_with}
use Rattle.dv_playing.specs.Playing.{Play, begins_file, group_here, is_empty, with_group_here}
use Rattle.dv_store.specs.Commits.{begin_of, end_with}
use Rattle.dv_serving.specs.Commits.{IsWriteAt}
use Rattle.dv_serving.proofs.Places.{with_group}

-- the mailbox with the write's group is the play's
pub after_here : (clock : ℕ → ℕ) (play : Play) (line : Line) (write : Write) (owed : Option Turn) (chain : Chain) → IsWriteAt clock play line write owed chain → (after : Mailbox) → IsAfter play.log write chain.live.mailbox after
    → applied play.mailbox (group_here play line).records ≡ Some after
after_here clock play line write owed chain at after is =
    ap (λ (g : Group). applied play.mailbox g.records) (sym at.group)
    ∙ ap (λ (m : Mailbox). applied m (group_by play.log write chain.live.mailbox).records) at.mailbox
    ∙ is

-- ---- a group that has a record

module _ (clock : ℕ → ℕ) (play : Play) (line : Line) (some : is_empty (group_here play line) ≡ false) where
  -- where it makes a mailbox, that is the play's behind it
  pub mailbox_behind : (after : Mailbox) → applied play.mailbox (group_here play line).records ≡ Some after → after ≡ (with_group_here clock play line).mailbox
  mailbox_behind after gives =
      sym (ap (λ (p : Play). p.mailbox) (with_group clock play line some) ∙ ap (λ (o : Option Mailbox). unwrap_or o play.mailbox) gives)

  -- its place
  pub mark_with : mark_behind play.log.rotates play.mark (group_here play line) ≡ (with_group_here clock play line).mark
  mark_with = ap (λ (p : Play). p.mark) (sym (with_group clock play line some))
