-- A store that was opened just now is at rest.
use Rattle.std.proofs.Common.{◌≡◌, ℕ, List, Some, sym, subst}
use Rattle.dv_model.specs.Journals.{Log}
use Rattle.dv_shelf.specs.declared.shelf.Name.TheVariants as name
use Rattle.dv_shelf.specs.Crashes.{IsSettled}
use Rattle.dv_shelf.specs.Folders.{Folder, with_file}
use Rattle.dv_chain.specs.declared.chain.Chain.{Chain}
use Rattle.dv_chain.specs.Rest.{Rests}
use Rattle.dv_chain.specs.Rest as rest
use Rattle.dv_writing.specs.Debts.{Nothing, Stands}
use Rattle.dv_writing.specs.Keeping.{Keeps}
use Rattle.dv_writing.proofs.Kept.{KeepsMessages, beside_file, kept_same, of_log, same_messages}
use Rattle.dv_shelf.specs.Sees.{SeesFolder}

-- where only the log was replaced, what was kept still is
module _ {S : Type 0} (sees : SeesFolder S) where
  pub stands_opened : (log : Log) (chain : Chain) (old : Folder) (new : S) (text : List ℕ) → sees.files new ≡ with_file old name.Log (Some text) → IsSettled sees new → Rests sees rest.Nothing chain new → log.indexid ≡ chain.indexid → Keeps log chain.live.mailbox old → Stands sees log Nothing chain new
  stands_opened log chain old new text is settled rests named keeps =
      let beside : KeepsMessages old (sees.files new) = beside_file old (sees.files new) name.Log (Some text) of_log is in
      record {
        named = named;
        written = tt;
        rests = rests;
        keeps = λ c may. kept_same log chain.live.mailbox old c (same_messages chain.live.mailbox old c (subst (KeepsMessages old) (sym (settled c may)) beside)) keeps;
        owed = λ c may. tt;
      }
