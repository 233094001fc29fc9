-- What a repair leaves: a heal, or the last replace of a rotation made again.
use Rattle.std.proofs.Common.{◌≡◌, ℕ, List, Option, Some, None, Result, Ok, Err, OnOk, OnErr, sym, subst}
use Rattle.dv_model.specs.declared.types.Mailbox.{Mailbox}
use Rattle.dv_shelf.specs.declared.shelf.Name.TheVariants as name
use Rattle.dv_shelf.specs.Folders.{Folder}
use Rattle.dv_shelf.specs.Sees.{SeesFolder}
use Rattle.dv_shelf.proofs.Moments.{weaker}
use Rattle.dv_logfile.specs.Gates.{FromOneOf}
use Rattle.dv_chain.specs.declared.chain.Chain.{Chain}
use Rattle.dv_chain.specs.Rest.{Last, Nothing, Owed, Pending, Rests}
use Rattle.dv_files.specs.declared.texts.Turn.{Turn}
use Rattle.dv_files.specs.Leavings.{IsPut, Leaves, Puts}
use Rattle.dv_files.specs.Quiet.{FinishesQuietly, RestsFinished}
use Rattle.dv_files.proofs.Replacing.{puts_either}
use Rattle.dv_writing.specs.Commits.{HealsFolder, KeepsOthers, OpensBeside, healed}
use Rattle.dv_writing.specs.Opening.{MayOpen}
use Rattle.dv_writing.proofs.Kept.{KeepsMessages, beside_log, beside_put, of_log}
use Rattle.dv_writing.proofs.Repaired.{on_err, on_ok}
use Rattle.dv_writing.proofs.Resting.{follows_since}
use Rattle.dv_filing.specs.Standing.{Fits, PaysQuietly, Stands}
use Rattle.dv_filing.proofs.Resting.{gives_since, stands_then}
use Rattle.dv_maps.specs.Texts.{Messages}

-- ---- a heal

module _ {S : Type 0} (sees : SeesFolder S) (messages : Messages) (owed : Owed) (chain next : Chain) (old new : S) (stands : Stands sees messages owed chain old) (mailbox : next.live.mailbox ≡ chain.live.mailbox) where
  healed_rests : Fits None chain.live.mailbox owed → Rests sees (healed owed) next new → Rests sees Nothing next new
  healed_rests fits = by_owed owed fits
    where
      by_owed : (o : Owed) → Fits None chain.live.mailbox o → Rests sees (healed o) next new → Rests sees Nothing next new
      by_owed Nothing is rests = rests
      by_owed (Pending text after) is rests = rests
      by_owed (Last log after) is rests = absurd is

  pub healed_quiet : {T E : Type 0} (result : Result T E) → Fits None chain.live.mailbox owed → HealsFolder sees owed chain next result old new → ((c : Folder) → sees.may_leave new c → sees.left_since new (sees.moment old) c)
      → PaysQuietly sees messages owed chain next result old new
  healed_quiet result fits heals now =
      let from = weaker sees old new (FromOneOf (sees.may_leave old) (OpensBeside owed chain)) (FromOneOf (sees.may_leave old) KeepsOthers) heals.any_moment (λ c step. (step.0, step.1, step.2.0)) in
      let opens = weaker sees old new (FromOneOf (sees.may_leave old) (OpensBeside owed chain)) (MayOpen owed chain) heals.any_moment (λ c step. step.2.1) in
      let follows = follows_since sees old new KeepsOthers now from in
      record {
        since = gives_since sees messages owed chain old stands KeepsOthers beside_log owed (λ c keeps owes. owes) new from opens;
        ok = on_ok result (λ rests. stands_then sees messages owed chain old stands KeepsOthers beside_log Nothing (λ c keeps owes. tt) next new mailbox (healed_rests fits rests) follows) heals.ok;
        err = on_err result (λ rests. stands_then sees messages owed chain old stands KeepsOthers beside_log owed (λ c keeps owes. owes) next new mailbox rests follows) heals.err;
      }

-- ---- the last replace of a rotation

module _ {S : Type 0} (sees : SeesFolder S) (messages : Messages) (turn : Turn) (chain next : Chain) (old new : S) (mailbox : next.live.mailbox ≡ chain.live.mailbox) where
  abbrev put : Folder → Folder → Type 0
  put = IsPut name.Log turn.new

  abbrev owed_last : Owed
  owed_last = Last turn.new chain.live.mailbox

  finished : {T E : Type 0} (result : Result T E) → Stands sees messages owed_last chain old → Leaves sees (Puts name.Log turn.new result) put old new → FinishesQuietly sees turn chain next result old new
      → PaysQuietly sees messages owed_last chain next result old new
  finished {T = T} {E = E} result stands leaves quiet = record {
    since = gives_since sees messages owed_last chain old stands put kept owed_last (λ c keeps owes. owes) new leaves.since quiet.since;
    ok = ok result quiet.rests;
    err = err result quiet.rests;
  }
    where
      kept : (d c : Folder) → put d c → KeepsMessages d c
      kept d c is = beside_put name.Log turn.new d c of_log is

      follows : (c : Folder) → sees.may_leave new c → (d : Folder) × sees.may_leave old d × put d c
      follows c left =
          let from = leaves.crash c left in
          (from.0, from.1, puts_either name.Log turn.new result from.0 c from.2)

      ok : (r : Result T E) → RestsFinished sees turn next new r → OnOk r (Stands sees messages Nothing next new)
      ok (Ok x) rests = stands_then sees messages owed_last chain old stands put kept Nothing (λ c keeps owes. tt) next new mailbox rests follows
      ok (Err e) rests = tt

      err : (r : Result T E) → RestsFinished sees turn next new r → OnErr r (Stands sees messages owed_last next new)
      err (Ok x) rests = tt
      err (Err e) rests =
          stands_then sees messages owed_last chain old stands put kept owed_last (λ c keeps owes. owes) next new mailbox
          (subst (λ (m : Mailbox). Rests sees (Last turn.new m) next new) mailbox rests) follows

  pub finished_quiet : {T E : Type 0} (result : Result T E) (owed : Owed) → Fits (Some turn) chain.live.mailbox owed → Stands sees messages owed chain old → Leaves sees (Puts name.Log turn.new result) put old new
      → (Rests sees owed_last chain old → FinishesQuietly sees turn chain next result old new) → PaysQuietly sees messages owed chain next result old new
  finished_quiet result Nothing fits stands leaves quiet = absurd fits
  finished_quiet result (Pending text after) fits stands leaves quiet = absurd fits
  finished_quiet result (Last log after) fits stands leaves quiet =
      let same : Last log after ≡ owed_last = (λ i. Last (sym fits.0 i) (fits.1 i)) in
      let here : Stands sees messages owed_last chain old = subst (λ (o : Owed). Stands sees messages o chain old) same stands in
      subst (λ (o : Owed). PaysQuietly sees messages o chain next result old new) (sym same) (finished result here leaves (quiet here.rests))
