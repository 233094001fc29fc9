-- What the calls on a chain at rest leave: a folder that opens to its mailbox, and a chain at rest.
use Rattle.std.proofs.Common.{◌≡◌, inl, inr, ⊎_elim, ℕ, ◌<◌, List, Some, Result, Ok, Err, OnOk, refl, sym, ◌∙◌, ap, subst, arith}
use Rattle.dv_model.specs.declared.types.Mailbox.{Mailbox}
use Rattle.dv_shelf.specs.declared.shelf.Name.TheVariants as name
use Rattle.dv_shelf.specs.Folders.{Folder, with_file}
use Rattle.dv_shelf.proofs.FolderLemmas.{with_same}
use Rattle.dv_shelf.proofs.Moments.{weaker}
use Rattle.dv_logfile.proofs.Patches.{written_again}
use Rattle.dv_openings.specs.Numbers.{OpensAs}
use Rattle.dv_openings.specs.Openings.{Finds}
use Rattle.dv_chain.specs.declared.chain.Chain.{Chain}
use Rattle.dv_chain.specs.Openings.{HasBounds, OnlyLooks}
use Rattle.dv_chain.specs.Rest.{HoldsAlone, IsResting, Last, Nothing, Owed, Rests, next_mark}
use Rattle.dv_files.specs.declared.fault.TurnEnd.{TurnEnd}
use Rattle.dv_files.specs.declared.fault.TurnEnd.TheVariants as end
use Rattle.dv_files.specs.declared.texts.Turn.{Turn}
use Rattle.dv_files.specs.Leavings.{IsPut, IsTurning, Leaves, Puts, Turns, with_new}
use Rattle.dv_files.specs.Quiet.{FinishesQuietly, Opens, OpensEither, RestsFinished, RestsTurned, StaysAtRest, TurnsQuietly}
use Rattle.dv_files.specs.Texts.{Advances, ClosesLog, IsSnapshotOf, IsTurnOf, turned}
use Rattle.dv_files.proofs.Grounds.{alone_opens}
use Rattle.dv_files.proofs.Replacing.{puts_either}
use Rattle.dv_files.proofs.Turned.{alone_before, alone_new, alone_put, found_new, opens_turning, rests_last}
use Rattle.dv_shelf.specs.Sees.{SeesFolder}

turned_bounds : (chain : Chain) → HasBounds chain → HasBounds (turned chain)
turned_bounds chain bounds = record { end = omega arith; count = omega arith; named = bounds.named }

module _ {S : Type 0} (sees : SeesFolder S) where
  -- a call that only looks
  pub looked_rests : (chain : Chain) (owed : Owed) (old new : S) → Rests sees owed chain old → OnlyLooks sees old new → Rests sees owed chain new
  looked_rests chain owed old new rests looks = record { bounds = rests.bounds; owes = rests.owes; each = λ c left. rests.each c (looks.crash c left) }

  -- a checkpoint
  pub put_quiet : {T E : Type 0} (chain : Chain) (text : List ℕ) (result : Result T E) (old new : S) → IsSnapshotOf chain text → Rests sees Nothing chain old
      → Leaves sees (Puts name.Index text result) (IsPut name.Index text) old new → StaysAtRest sees chain old new
  put_quiet chain text result old new is rests leaves = record {
    since = weaker sees old new _ (Opens chain) leaves.since (λ c from. alone_opens chain c (alone_put chain text is from.0 (rests.each from.0 from.1) c from.2));
    rests = record {
      bounds = rests.bounds;
      owes = rests.owes;
      each = λ c left.
          let from = leaves.crash c left in
          alone_put chain text is from.0 (rests.each from.0 from.1) c (puts_either name.Index text result from.0 c from.2);
    };
  }

  module _ (chain : Chain) (turn : Turn) (is : IsTurnOf chain turn) (room : chain.log.file_seq < 4294967295) where
    abbrev m : Mailbox
    m = chain.live.mailbox

    -- the chain on the next file
    next_rests : (new : S) → Rests sees Nothing (turned chain) new → (next : Chain) → next ≡ turned chain → Rests sees Nothing next new
    next_rests new rests next e = subst (λ (x : Chain). Rests sees Nothing x new) (sym e) rests

    next_opens : (c : Folder) → OpensAs c chain.indexid (Finds m (next_mark chain)) → (next : Chain) → next ≡ turned chain → Opens next c
    next_opens c found next e = subst (λ (x : Chain). Opens x c) (sym e) found

    -- a rotation
    pub turned_quiet : {T : Type 0} (result : Result T TurnEnd) (next : Chain) (old new : S) → Advances chain next result → Rests sees Nothing chain old → sees.may_leave old (sees.files old) → ClosesLog chain turn (sees.files old)
        → Leaves sees (Turns turn result) (IsTurning turn) old new → TurnsQuietly sees turn chain next result old new
    turned_quiet {T = T} result next old new advances rests here closes leaves = record {
      since = weaker sees old new _ (OpensEither chain) leaves.since (λ c from. opens_turning chain turn is room seen held closes from.0 c (rests.each from.0 from.1) from.2);
      found = finds result advances leaves.crash;
      rests = rested result advances leaves.crash;
    }
      where
        seen : Folder
        seen = sees.files old

        held : HoldsAlone chain seen
        held = rests.each seen here

        is_new : (c d : Folder) → c ≡ with_new turn d → OpensAs c chain.indexid (Finds m (next_mark chain))
        is_new c d e = subst (λ (f : Folder). OpensAs f chain.indexid (Finds m (next_mark chain))) (sym e) (found_new chain turn is room seen held closes d)

        finds : (r : Result T TurnEnd) → Advances chain next r → ((c : Folder) → sees.may_leave new c → (d : Folder) × sees.may_leave old d × Turns turn r d c) → OnOk r ((c : Folder) → sees.may_leave new c → Opens next c)
        finds (Ok x) e crash = λ c left.
            let from = crash c left in
            next_opens c (is_new c from.0 from.2) next e
        finds (Err fault) e crash = tt

        rested : (r : Result T TurnEnd) → Advances chain next r → ((c : Folder) → sees.may_leave new c → (d : Folder) × sees.may_leave old d × Turns turn r d c) → RestsTurned sees turn next new r
        rested (Ok x) e crash =
            next_rests new (record {
              bounds = turned_bounds chain rests.bounds;
              owes = rests.owes;
              each = λ c left.
                  let from = crash c left in
                  alone_new chain turn is room c (ap (λ (f : Folder). f name.Log) from.2) (is_new c from.0 from.2).found;
            }) next e
        rested (Err end.Before) e crash =
            subst (λ (x : Chain). Rests sees Nothing x new) (sym e) (record {
              bounds = rests.bounds;
              owes = rests.owes;
              each = λ c left.
                  let from = crash c left in
                  alone_before chain turn is room seen held closes from.0 c (rests.each from.0 from.1) from.2;
            })
        rested (Err end.Last) e crash =
            subst (λ (x : Chain). Rests sees (Last turn.new x.live.mailbox) x new) (sym e) (record {
              bounds = rests.bounds;
              owes = rests.owes;
              each = λ c left.
                  let from = crash c left in
                  rests_last chain turn is room seen held closes from.0 c (rests.each from.0 from.1) from.2;
            })

    -- ---- the last replace, made again

    module _ (d : Folder) (resting : IsResting (Last turn.new m) chain d) where
      last_opens : (c : Folder) → IsPut name.Log turn.new d c → OpensEither chain c
      last_opens c put = ⊎_elim (λ e. subst (OpensEither chain) (sym e) here) (λ e. inr (subst (λ (f : Folder). OpensAs f chain.indexid (Finds m (next_mark chain))) (sym e) resting.1)) put
        where
          here : OpensEither chain d
          here =
              ⊎_elim (λ alone. inl (alone_opens chain d alone))
              (λ e. inr (subst (λ (f : Folder). OpensAs f chain.indexid (Finds m (next_mark chain))) (sym (ap (with_file d name.Log) e) ∙ with_same d name.Log) resting.1))
              resting.0

      last_rests : (c : Folder) → IsPut name.Log turn.new d c → IsResting (Last turn.new m) chain c
      last_rests c put =
          let P : Folder → Type 0 = IsResting (Last turn.new m) chain in
          ⊎_elim (λ e. subst P (sym e) resting)
          (λ e. subst P (sym e) (inr refl, subst (λ (f : Folder). OpensAs f chain.indexid (Finds m (next_mark chain))) (sym (written_again d (Some turn.new) (Some turn.new))) resting.1)) put

    pub finished_quiet : {T E : Type 0} (result : Result T E) (next : Chain) (old new : S) → Advances chain next result → Rests sees (Last turn.new m) chain old
        → Leaves sees (Puts name.Log turn.new result) (IsPut name.Log turn.new) old new → FinishesQuietly sees turn chain next result old new
    finished_quiet {T = T} {E = E} result next old new advances rests leaves = record {
      since = weaker sees old new _ (OpensEither chain) leaves.since (λ c from. last_opens from.0 (rests.each from.0 from.1) c from.2);
      found = finds result advances leaves.crash;
      rests = rested result advances leaves.crash;
    }
      where
        is_new : (c d : Folder) → sees.may_leave old d → c ≡ with_file d name.Log (Some turn.new) → OpensAs c chain.indexid (Finds m (next_mark chain))
        is_new c d left e = subst (λ (f : Folder). OpensAs f chain.indexid (Finds m (next_mark chain))) (sym e) (rests.each d left).1

        finds : (r : Result T E) → Advances chain next r → ((c : Folder) → sees.may_leave new c → (d : Folder) × sees.may_leave old d × Puts name.Log turn.new r d c) → OnOk r ((c : Folder) → sees.may_leave new c → Opens next c)
        finds (Ok x) e crash = λ c left.
            let from = crash c left in
            next_opens c (is_new c from.0 from.1 from.2) next e
        finds (Err fault) e crash = tt

        rested : (r : Result T E) → Advances chain next r → ((c : Folder) → sees.may_leave new c → (d : Folder) × sees.may_leave old d × Puts name.Log turn.new r d c) → RestsFinished sees turn next new r
        rested (Ok x) e crash =
            next_rests new (record {
              bounds = turned_bounds chain rests.bounds;
              owes = rests.owes;
              each = λ c left.
                  let from = crash c left in
                  alone_new chain turn is room c (ap (λ (f : Folder). f name.Log) from.2) (is_new c from.0 from.1 from.2).found;
            }) next e
        rested (Err fault) e crash =
            subst (λ (x : Chain). Rests sees (Last turn.new x.live.mailbox) x new) (sym e) (record {
              bounds = rests.bounds;
              owes = rests.owes;
              each = λ c left.
                  let from = crash c left in
                  last_rests from.0 (rests.each from.0 from.1) c from.2;
            })
