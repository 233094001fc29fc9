use Rattle.std.proofs.Common.{◌∙◌, ◌+◌, ◌<◌, List, drop, get_or, length, subst}
use Rattle.std.proofs.lemmas.List.{drop_all, drop_more}
use Rattle.dv_blocks.specs.Shared.{AreShared}
use Rattle.dv_blocks.specs.declared.chunk.Pending.{Pending}
use Rattle.dv_blocks.proofs.Pendings.{gone_seen, gone_shared, held_leaves, no_pending}
use Rattle.dv_blocks.proofs.holding.let_go.Goals as goal

pub release-requires : goal.release-requires
release-requires c =
    let hs = c.args.held.now in
    let at = c.loop-at.at in
    let less : at < length hs = c.loop-at-test.true in
    let cells = c.requires.0 in
    held_leaves (drop (at + 1) hs) (get_or hs at no_pending) c.loop-at.sets cells
    (subst (λ (l : List Pending). AreShared l c.loop-at.sets cells) (drop_more hs at no_pending less) (c.loop-at.invariant.shared cells c.requires.1))

pub loop-at-preserved : goal.loop-at-preserved
loop-at-preserved c =
    let hs = c.args.held.now in
    let at = c.loop-at.at in
    let less : at < length hs = c.loop-at-test.true in
    let x = get_or hs at no_pending in
    let inv = c.loop-at.invariant in
    record {
      shared = λ cells are. gone_shared (drop (at + 1) hs) x c.loop-at.sets c.release.new.sets cells
          (subst (λ (l : List Pending). AreShared l c.loop-at.sets cells) (drop_more hs at no_pending less) (inv.shared cells are)) c.release.ensures;
      rows = λ cells sizes are. gone_seen (drop (at + 1) hs) x c.loop-at.sets c.release.new.sets sizes cells
          (subst (λ (l : List Pending). AreShared l c.loop-at.sets cells) (drop_more hs at no_pending less) (inv.shared cells are)) c.release.ensures
          ∙ inv.rows cells sizes are;
    }

pub returns-clause-shared : goal.returns-clause-shared
returns-clause-shared c cells are =
    subst (λ (l : List Pending). AreShared l c.loop-at.sets cells) (drop_all c.loop-at.at c.args.held.now c.loop-at-test.false) (c.loop-at.invariant.shared cells are)
