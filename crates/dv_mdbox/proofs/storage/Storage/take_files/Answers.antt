use Rattle.std.proofs.Common.{◌≡◌, ℕ, ◌+◌, ◌++◌, ◌∷◌, [], None, Some, Ok, Err, refl, sym, subst, arith}
use Rattle.std.proofs.lemmas.Result.{err_from_is_err_and}
use Rattle.dv_logfile.proofs.Settling.{settled_then}
use Rattle.dv_chain.specs.Rest.{Nothing}
use Rattle.dv_maps.specs.Purges.{all_mapped}
use Rattle.dv_maps.specs.Tables.{IsTableFrom}
use Rattle.dv_maps.specs.Texts.{Messages}
use Rattle.dv_mdbox.specs.Purging.{IsClearedTo, PurgesTo}
use Rattle.dv_mdbox.proofs.Clearing.{cleared_all, cleared_more, cleared_none}
use Rattle.dv_mdbox.specs.States.{IsAtRest}
use Rattle.dv_mdbox.proofs.Purged.{KnowsStill, knows_more, knows_next, knows_start}
use Rattle.dv_mdbox.proofs.Listed.{all_told, some_weaker, table_behind}
use Rattle.dv_mdbox.proofs.Stepping.{none_taken, taken_last, taken_more}
use Rattle.dv_mdbox.proofs.Thinning.{quiet_err, quiet_stays, quiet_then, takes_both, takes_none}
use Rattle.dv_mdbox.proofs.storage.Storage.take_files.Goals as goal

pub loop-file-init : goal.loop-file-init
loop-file-init g c =
    let S = g.S.Shelf in
    let start = c.args.self.now in
    record {
      from = omega arith;
      table = some_weaker c.table-table.result (λ t is. (is.0, c.tables_stay.ensures.whole (all_mapped start.chain.live.mailbox) t 0 is.1)) c.table-table.ensures;
      value = λ known knows. (([], none_taken known 0 start start refl refl refl refl refl), knows_start S.sees known start knows);
      gives = λ tells messages rest. quiet_stays S.sees messages c.thinnings_are.ensures start start refl refl refl (λ f left. g.met.S.Shelf.only_now start.shelf f tells left) rest (Ok tt);
      clears = λ tells messages rest named. cleared_none (S.sees.files start.shelf) start.chain.live.mailbox named;
      settled = λ tells stayed settled. settled;
      later = omega arith;
      clock = λ tells. takes_none (g.C.Clock.sees.upcoming start.clock);
    }

pub next_gone-requires : goal.next_gone-requires
next_gone-requires g c = some_weaker c.loop-file.table-1 (λ t is. is.1) c.loop-file.invariant.table

pub take_file-requires : goal.take_file-requires
take_file-requires g c =
    let next = c.in-Some.ensures in
    record {
      next = (c.loop-file.from, next);
      table = some_weaker c.loop-file.table-1 (λ t is. all_told c.loop-file.from (all_mapped c.loop-file.self.chain.live.mailbox) t is.1 c.in-Some.file next.from_there next.some.0 next.some.1 next.some.2 next.some.3) c.loop-file.invariant.table;
    }

pub loop-file-preserved : goal.loop-file-preserved
loop-file-preserved g c =
    let S = g.S.Shelf in
    let start = c.args.self.now in
    let mid = c.loop-file.self in
    let new = c.take_file.new.self in
    let inv = c.loop-file.invariant in
    let taken = c.in_ok-take_file.ensures in
    let file = c.in-Some.file in
    let from = c.loop-file.from in
    let next = c.in-Some.ensures in
    let same : c.from-from.result ≡ file = c.from-from.ensures in
    record {
      from = omega arith;
      table = some_weaker c.loop-file.table-1
          (λ t is.
          let goes = taken.value from None next tt in
          let after = new.chain.live.mailbox in
          let behind = table_behind c.tables_stay.ensures mid.chain.live.mailbox after is.0 from file t is.1 goes.groups (file + 1) goes.goes in
          (behind.0, subst (λ (n : ℕ). IsTableFrom (n + 1) (all_mapped after) t) (sym same) behind.1)) inv.table;
      value = λ known knows.
          let was = inv.value known knows in
          let files = was.0.0 in
          let here = taken.value from known next (knows_next S.sees known start mid from file next knows was.1) in
          let away = λ (tells : S.sees.tells) (messages : Messages) (rest : IsAtRest S.sees messages Nothing start). (taken.gives tells messages (inv.gives tells messages rest).ok).1 in (
            (files ++ file ∷ [], subst (λ (n : ℕ). PurgesTo known 0 (files ++ file ∷ []) (n + 1) start new) (sym same) (taken_more known files from file start mid new was.0.1 here)),
            subst (λ (n : ℕ). KnowsStill S.sees known start (n + 1) new) (sym same) (knows_more S.sees known start mid new from file next away knows was.1),
          );
      gives = λ tells messages rest.
          let one = inv.gives tells messages rest in
          quiet_then S.sees messages c.thinnings_are.ensures Nothing start mid new tt one (inv.value None tt).0.1.indexid (Ok tt) (taken.gives tells messages one.ok).0;
      clears = λ tells messages rest named.
          let one = inv.gives tells messages rest in
          subst (λ (n : ℕ). IsClearedTo (n + 1) (S.sees.files new.shelf) new.chain.live.mailbox) (sym same)
          (cleared_more from file mid.chain.live.mailbox new.chain.live.mailbox (S.sees.files mid.shelf) (S.sees.files new.shelf) next (taken.gives tells messages one.ok).1 (inv.clears tells messages rest named));
      settled = λ tells. settled_then S.sees start.shelf mid.shelf new.shelf inv.later taken.cause.later (inv.settled tells) (taken.settled tells);
      later = let one = inv.later in let two = taken.cause.later in omega (arith, one, two);
      clock = λ tells. takes_both (g.C.Clock.sees.upcoming start.clock) (g.C.Clock.sees.upcoming mid.clock) (g.C.Clock.sees.upcoming new.clock) (inv.clock tells) (taken.clock tells);
    }

-- ---- the last file was taken

pub returns-clause-value : goal.returns-clause-value
returns-clause-value g c = λ known knows.
    let was = c.loop-file.invariant.value known knows in
    (was.0.0, c.loop-file.from, was.0.1, c.in_default.ensures)

pub returns-clause-kept : goal.returns-clause-kept
returns-clause-kept g c = λ tells messages rest.
    let S = g.S.Shelf in
    let start = c.args.self.now in
    (c.loop-file.invariant.value (Some (S.sees.files start.shelf)) (tells, (messages, rest), λ f named. refl)).1.same

pub returns-clause-gives : goal.returns-clause-gives
returns-clause-gives g c = c.loop-file.invariant.gives

pub returns-clause-clears : goal.returns-clause-clears
returns-clause-clears g c = λ tells messages rest named. cleared_all c.loop-file.from (g.S.Shelf.sees.files c.loop-file.self.shelf) c.loop-file.self.chain.live.mailbox (c.loop-file.invariant.clears tells messages rest named) c.in_default.ensures

-- ---- or one failed

pub returns-in_err-take_file-clause-value : goal.returns-in_err-take_file-clause-value
returns-in_err-take_file-clause-value g c = λ known knows.
    let start = c.args.self.now in
    let mid = c.loop-file.self in
    let from = c.loop-file.from in
    let file = c.in-Some.file in
    let next = c.in-Some.ensures in
    let was = c.loop-file.invariant.value known knows in
    let here = c.in_err-take_file.ensures.value from known next (knows_next g.S.Shelf.sees known start mid from file next knows was.1) in
    let p = err_from_is_err_and c.from_residual.result c.from_residual.ensures.1 in
    rw p.1 (taken_last known was.0.0 from file start mid c.take_file.new.self next was.0.1 _ p.0 p.2 here)

pub returns-in_err-take_file-clause-gives : goal.returns-in_err-take_file-clause-gives
returns-in_err-take_file-clause-gives g c = λ tells messages rest.
    let S = g.S.Shelf in
    let inv = c.loop-file.invariant in
    let one = inv.gives tells messages rest in
    let p = err_from_is_err_and c.from_residual.result c.from_residual.ensures.1 in
    rw p.1
    (quiet_err S.sees messages Nothing c.args.self.now c.take_file.new.self _ p.0
    (quiet_then S.sees messages c.thinnings_are.ensures Nothing c.args.self.now c.loop-file.self c.take_file.new.self tt one (inv.value None tt).0.1.indexid (Err _) (c.in_err-take_file.ensures.gives tells messages one.ok).0))

pub returns-in_err-take_file-clause-settled : goal.returns-in_err-take_file-clause-settled
returns-in_err-take_file-clause-settled g c = λ tells.
    let inv = c.loop-file.invariant in
    settled_then g.S.Shelf.sees c.args.self.now.shelf c.loop-file.self.shelf c.take_file.new.self.shelf inv.later c.in_err-take_file.ensures.cause.later (inv.settled tells) (c.in_err-take_file.ensures.settled tells)

pub returns-in_err-take_file-clause-clock : goal.returns-in_err-take_file-clause-clock
returns-in_err-take_file-clause-clock g c = λ tells. takes_both (g.C.Clock.sees.upcoming c.args.self.now.clock) (g.C.Clock.sees.upcoming c.loop-file.self.clock) (g.C.Clock.sees.upcoming c.take_file.new.self.clock) (c.loop-file.invariant.clock tells) (c.in_err-take_file.ensures.clock tells)
