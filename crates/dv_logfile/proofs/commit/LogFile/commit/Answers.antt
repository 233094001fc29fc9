use Rattle.std.proofs.Common.{arith, ap, sym, subst, ◌∙◌, ◌+◌, ◌≡◌, ℕ, List, min, ◌-◌, ◌^◌, length, refl}
use Rattle.dv_model.specs.declared.types.Record.{Record}
use Rattle.dv_logfile.specs.Layout.{Spelled, closing}
use Rattle.dv_logfile.proofs.Commits.{first_bytes, first_crash, second_bytes, second_crash, both_bytes, both_crash, group_read}
use Rattle.dv_logfile.proofs.Groups.{spelled_eight, group_long}
use Rattle.dv_logfile.proofs.Settling.{rose_settled, settled_then, synced_settled}
use Rattle.dv_logfile.proofs.commit.LogFile.commit.Goals as goal

pub split_at-requires : goal.split_at-requires
split_at-requires g c = omega (arith, group_long _ c.requires.group, ap length c.as_slice-text.ensures)

pub overflow_sub-self : goal.overflow_sub-self
overflow_sub-self g c = omega (arith, group_long _ c.requires.group, ap length c.as_slice-text.ensures)

-- ---- the first write or its sync failed

pub returns-in-Err-clause-bytes : goal.returns-in-Err-clause-bytes
returns-in-Err-clause-bytes g c = λ tells.
    first_bytes c.args.text.now c.requires.group c.split_at.ensures.back c.as_slice-text.ensures c.args.self.now _ c.requires.debt (c.in-Err.ensures.writes tells)

pub returns-in-Err-clause-crash : goal.returns-in-Err-clause-crash
returns-in-Err-clause-crash g c = λ tells.
    first_crash c.args.text.now c.requires.group c.split_at.ensures.back c.as_slice-text.ensures c.args.self.now _ c.requires.debt (c.in-Err.ensures.writes tells)

pub returns-in-Err-clause-reading : goal.returns-in-Err-clause-reading
returns-in-Err-clause-reading g c = λ tells rest.
    group_read c.args.text.now c.requires.group c.args.self.now c.args.self.now c.requires.room rest _ tt tt refl (returns-in-Err-clause-crash g c tells)

-- ---- the second write or its sync failed

pub returns-in-Err-write_synced-clause-bytes : goal.returns-in-Err-write_synced-clause-bytes
returns-in-Err-write_synced-clause-bytes g c = λ tells.
    second_bytes c.args.text.now c.requires.group c.split_at.ensures.back c.as_slice-text.ensures c.args.self.now (c.in-Ok.ensures.writes tells) _ (c.in-Err-write_synced.ensures.writes tells)

pub returns-in-Err-write_synced-clause-crash : goal.returns-in-Err-write_synced-clause-crash
returns-in-Err-write_synced-clause-crash g c = λ tells.
    second_crash c.args.text.now c.requires.group c.split_at.ensures.back c.as_slice-text.ensures c.args.self.now (c.in-Ok.ensures.writes tells) _ (c.in-Err-write_synced.ensures.writes tells)

pub returns-in-Err-write_synced-clause-reading : goal.returns-in-Err-write_synced-clause-reading
returns-in-Err-write_synced-clause-reading g c = λ tells rest.
    group_read c.args.text.now c.requires.group c.args.self.now _ c.requires.room rest _ tt tt refl (returns-in-Err-write_synced-clause-crash g c tells)

-- ---- both were done

pub returns-clause-value : goal.returns-clause-value
returns-clause-value g c =
    let size : length c.as_slice-text.result.now ≡ length c.args.text.now = ap length c.as_slice-text.ensures in
    let count : (records : List Record) → Spelled records c.args.text.now closing → c.record_count.result ≡ length records =
    λ records spelled. c.record_count.ensures records (subst (λ (l : List ℕ). Spelled records l closing) (sym c.as_slice-text.ensures) spelled) in
    record {
      mark = (refl, refl);
      end = omega (arith, group_long _ c.requires.group, size);
      count = λ records spelled. c.saturating_add-self.ensures ∙ ap (λ n. min (c.args.self.now.count + n) (2 ^ 32 - 1)) (count records spelled);
      counted = λ eight records spelled.
          let less = spelled_eight records c.args.text.now closing spelled in
          let is = count records spelled in
          (omega (arith, less, c.requires.room), omega (arith, less, c.requires.room, size));
      file_seq = refl;
      debt = refl;
      kept = tt;
    }

pub returns-clause-bytes : goal.returns-clause-bytes
returns-clause-bytes g c = λ tells.
    both_bytes c.args.text.now c.requires.group c.split_at.ensures.back c.as_slice-text.ensures c.args.self.now (c.in-Ok.ensures.writes tells) _ _ (c.in-Ok-write_synced.ensures.writes tells)

pub returns-clause-crash : goal.returns-clause-crash
returns-clause-crash g c = λ tells.
    both_crash c.args.text.now c.requires.group c.split_at.ensures.back c.as_slice-text.ensures c.args.self.now (c.in-Ok.ensures.writes tells) _ _ (c.in-Ok-write_synced.ensures.writes tells)

pub returns-clause-reading : goal.returns-clause-reading
returns-clause-reading g c = λ tells rest.
    let value = returns-clause-value g c in
    group_read c.args.text.now c.requires.group c.args.self.now _ c.requires.room rest _ value.debt value.end tt (returns-clause-crash g c tells)

-- ---- a settled shelf stays so

pub returns-in-Err-clause-settled : goal.returns-in-Err-clause-settled
returns-in-Err-clause-settled g c = λ tells.
    rose_settled g.S.Shelf.sees c.args.shelf.now c.write_synced.new.shelf c.in-Err.ensures.cause.rose

pub returns-in-Err-write_synced-clause-settled : goal.returns-in-Err-write_synced-clause-settled
returns-in-Err-write_synced-clause-settled g c = λ tells.
    let S = g.S.Shelf in
    let mid = c.write_synced.new.shelf in
    let new = c.write_synced-2.new.shelf in
    let first = c.in-Ok.ensures in
    let second = c.in-Err-write_synced.ensures in
    settled_then S.sees c.args.shelf.now mid new first.cause.later second.cause.later
    (synced_settled S.sees _ _ _ c.args.shelf.now mid first.cause (first.writes tells)) (rose_settled S.sees mid new second.cause.rose)

pub returns-clause-settled : goal.returns-clause-settled
returns-clause-settled g c = λ tells.
    let S = g.S.Shelf in
    let mid = c.write_synced.new.shelf in
    let new = c.write_synced-2.new.shelf in
    let first = c.in-Ok.ensures in
    let second = c.in-Ok-write_synced.ensures in
    settled_then S.sees c.args.shelf.now mid new first.cause.later second.cause.later
    (synced_settled S.sees _ _ _ c.args.shelf.now mid first.cause (first.writes tells)) (synced_settled S.sees _ _ _ mid new second.cause (second.writes tells))
