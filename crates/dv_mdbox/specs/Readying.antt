-- A group that is made ready, before anything is written.
use Rattle.std.specs.Prelude.{◌≡◌, ◌≤◌, ◌+◌, ℕ, List, Option, Some, flat_map, is_some, length}
use Rattle.dv_model.specs.declared.types.Mailbox.{Mailbox}
use Rattle.dv_model.specs.declared.types.Record.{Record}
use Rattle.dv_model.specs.Effects.{applied}
use Rattle.dv_model.specs.Sessions.{group_limit}
use Rattle.dv_model.specs.Spelling.{written}
use Rattle.dv_shelf.specs.Sees.{SeesFolder}
use Rattle.dv_chain.specs.declared.chain.Chain.{Chain}
use Rattle.dv_chain.specs.Openings.{OnlyLooks}
use Rattle.dv_chain.specs.Rest.{IsPending}
use Rattle.dv_plans.specs.Begins.{turns}
use Rattle.dv_plans.specs.Counts.{CountsReads}
use Rattle.dv_files.specs.declared.texts.Turn.{Turn}
use Rattle.dv_writing.specs.Ways.{ready}
use Rattle.dv_filing.specs.declared.steps.Files.{Files}
use Rattle.dv_filing.specs.declared.steps.Steps.{Steps}
use Rattle.dv_filing.specs.Writes.{AreSteps}
use Rattle.dv_maps.specs.Laws.{AreWritten}
use Rattle.dv_mdbox.specs.Answers.{HasRoom}

-- One or more records have spellings and apply to the chain's map. They are no longer than a group
-- may be, and the log has room for them.
pub record IsGroupFor (chain : Chain) (records : List Record) : Type 0 where
  pub some : 1 ≤ length records
  pub are : AreWritten chain.live.mailbox records (length (flat_map written records))
  pub short : length (flat_map written records) ≤ group_limit
  pub fits : HasRoom chain (length (flat_map written records))

-- the steps are made for the chain, with this file and the rotation that is due, and the text is
-- that of these records
pub record IsReadyFor (owed : Option Turn) (chain : Chain) (records : List Record) (files : Files)
    (text : List ℕ) (steps : Steps) : Type 0 where
  pub made : AreSteps owed chain text steps
  pub file : steps.files ≡ files
  pub pending : (after : Mailbox) → applied chain.live.mailbox records ≡ Some after
      → IsPending text after (ready owed steps.turn chain)
  pub size : length text ≡ length (flat_map written records) + 4
  pub due : is_some steps.turn ≡ turns owed chain

-- nothing is changed, and no message file is read
pub record LooksAtLog {S : Type 0} (sees : SeesFolder S) (old new : S) : Type 0 where
  pub changes : sees.tells → OnlyLooks sees old new
  pub mail_reads : CountsReads 0 (sees.mail_reads old) (sees.mail_reads new)
