use Rattle.std.proofs.Common.{◌∙◌, ◌^◌, ◌<◌, ◌≤◌, List, ℕ, length, Ok, Err, refl, sym, subst}
use Rattle.std.proofs.lemmas.Result.{err_from_is_err_and}
use Rattle.dv_model.specs.declared.types.Mailbox.{Mailbox}
use Rattle.dv_model.specs.declared.types.Record.{Record}
use Rattle.dv_logfile.proofs.Settling.{settled_then}
use Rattle.dv_maps.specs.declared.mapped.Mapped.{Mapped}
use Rattle.dv_maps.specs.Groups.{purge_records}
use Rattle.dv_maps.specs.Purges.{AreSpelled, moved, size_of}
use Rattle.dv_mdbox.specs.Purging.{TakesSome}
use Rattle.dv_mdbox.specs.Answers.{IsFailure}
use Rattle.dv_mdbox.proofs.Finished.{file_missed, file_quiet, file_taken, group_quiet, on_ok, rewrites_map, spared, taken_away}
use Rattle.dv_mdbox.proofs.Rewritten.{apart, rewritten_by, some_records}
use Rattle.dv_mdbox.proofs.Stepping.{none_taken, takes_failed}
use Rattle.dv_mdbox.proofs.Thinning.{quiet_err, quiet_stays, takes_none}
use Rattle.dv_mdbox.proofs.storage.Storage.rewrite_file.Goals as goal

pub file_records-requires : goal.file_records-requires
file_records-requires g c = subst (λ (rs : List Mapped). size_of rs < 2 ^ 32) (sym c.requires.kept) c.requires.short

pub put_group-requires-clause-some : goal.put_group-requires-clause-some
put_group-requires-clause-some g c =
    let m = c.args.self.now.chain.live.mailbox in
    let same = c.in_ok-records.ensures ∙ (λ i. purge_records (moved c.args.new 0 (c.requires.kept i)) (c.requires.gone i)) in
    subst (λ (rs : List Record). 1 ≤ length rs) (sym same) (some_records m c.args.file c.args.new (subst (λ (ids : List ℕ). 1 ≤ length ids) c.requires.gone c.requires.some))

pub put_group-requires-clause-spelled : goal.put_group-requires-clause-spelled
put_group-requires-clause-spelled g c =
    let m = c.args.self.now.chain.live.mailbox in
    let same = c.in_ok-records.ensures ∙ (λ i. purge_records (moved c.args.new 0 (c.requires.kept i)) (c.requires.gone i)) in
    subst (AreSpelled m) (sym same) (c.rewrites_are_written.ensures m c.args.file c.args.new c.has_valid_map.ensures)

-- ---- nothing was written

pub returns-in_err-records-clause-value : goal.returns-in_err-records-clause-value
returns-in_err-records-clause-value g c = λ from known next fits.
    let old = c.args.self.now in
    let p = err_from_is_err_and c.from_residual.result c.from_residual.ensures.1 in
    rw p.1 (takes_failed known from c.args.file old old (none_taken known from old old refl refl refl refl refl) p.0 (subst IsFailure (sym p.2) tt))

pub returns-in_err-records-clause-gives : goal.returns-in_err-records-clause-gives
returns-in_err-records-clause-gives g c = λ tells messages bytes rest kept.
    let S = g.S.Shelf in
    let old = c.args.self.now in
    let p = err_from_is_err_and c.from_residual.result c.from_residual.ensures.1 in
    rw p.1 (quiet_stays S.sees messages c.thinnings_are.ensures old old refl refl refl (λ f left. g.met.S.Shelf.only_now old.shelf f tells left) rest (Err p.0), tt)

pub returns-in_err-records-clause-clock : goal.returns-in_err-records-clause-clock
returns-in_err-records-clause-clock g c = λ tells. takes_none (g.C.Clock.sees.upcoming c.args.self.now.clock)

-- ---- the group failed

pub returns-in_err-put_group-clause-value : goal.returns-in_err-put_group-clause-value
returns-in_err-put_group-clause-value g c = λ from known next fits.
    let need = c.requires in
    let same = c.in_ok-records.ensures ∙ (λ i. purge_records (moved c.args.new 0 (need.kept i)) (need.gone i)) in
    let p = err_from_is_err_and c.from_residual-in_err-put_group.result c.from_residual-in_err-put_group.ensures.1 in
    rw p.1
    (file_missed known from c.args.file c.args.new c.args.self.now c.put_group.new.self fits (record { above = need.above; low = c.is_number.ensures }) c.in_ok-records.records same _ c.in_err-put_group.ensures.value c.in_err-put_group.ensures.room p.0 p.2)

pub returns-in_err-put_group-clause-gives : goal.returns-in_err-put_group-clause-gives
returns-in_err-put_group-clause-gives g c = λ tells messages bytes rest kept.
    let S = g.S.Shelf in
    let old = c.args.self.now in
    let m = old.chain.live.mailbox in
    let file = c.args.file in
    let new = c.args.new in
    let need = c.requires in
    let same = c.in_ok-records.ensures ∙ (λ i. purge_records (moved new 0 (need.kept i)) (need.gone i)) in
    let by = rewritten_by c.rewrites_are.ensures c.rewrites_are_written.ensures m file new rest.map c.has_valid_map.ensures (subst (λ (ids : List ℕ). 1 ≤ length ids) need.gone need.some) c.is_number.ensures need.short in
    let p = err_from_is_err_and c.from_residual-in_err-put_group.result c.from_residual-in_err-put_group.ensures.1 in
    rw p.1 (
      quiet_err S.sees messages _ old c.put_group.new.self _ p.0
          (group_quiet S.sees messages c.thinnings_are.ensures c.rewrites_lose_nothing.ensures.thin c.rewrites_lose_nothing.ensures.keep file new bytes c.args.files old rest by kept c.in_ok-records.records same c.put_group.new.self (Err _)
          c.in_err-put_group.ensures.value (c.in_err-put_group.ensures.gives tells)),
      tt,
    )

-- ---- the group was written

pub returns-clause-value : goal.returns-clause-value
returns-clause-value g c = λ from known next fits.
    let need = c.requires in
    let old = c.args.self.now in
    let file = c.args.file in
    let new = c.args.new in
    let same = c.in_ok-records.ensures ∙ (λ i. purge_records (moved new 0 (need.kept i)) (need.gone i)) in
    let some = subst (λ (ids : List ℕ). 1 ≤ length ids) need.gone need.some in
    let rewrites = λ (after : Mailbox). rewrites_map c.rewrites_are.ensures old.chain.live.mailbox after file new c.has_valid_map.ensures some c.is_number.ensures need.short in
    file_taken known from file new old c.put_group.new.self c.clear_files.new.self next fits (record { above = need.above; low = c.is_number.ensures }) c.in_ok-records.records same c.in_ok-put_group.ensures.room rewrites _ c.in_ok-put_group.ensures.value c.clear_files.ensures.stays c.clear_files.result
    c.clear_files.ensures.err

pub returns-clause-gives : goal.returns-clause-gives
returns-clause-gives g c = λ tells messages bytes rest kept.
    let S = g.S.Shelf in
    let old = c.args.self.now in
    let mid = c.put_group.new.self in
    let last = c.clear_files.new.self in
    let m = old.chain.live.mailbox in
    let file = c.args.file in
    let new = c.args.new in
    let need = c.requires in
    let records = c.in_ok-records.records in
    let laws = c.thinnings_are.ensures in
    let thin = c.rewrites_lose_nothing.ensures.thin in
    let keep = c.rewrites_lose_nothing.ensures.keep in
    let some = subst (λ (ids : List ℕ). 1 ≤ length ids) need.gone need.some in
    let same = c.in_ok-records.ensures ∙ (λ i. purge_records (moved new 0 (need.kept i)) (need.gone i)) in
    let by = rewritten_by c.rewrites_are.ensures c.rewrites_are_written.ensures m file new rest.map c.has_valid_map.ensures some c.is_number.ensures need.short in
    let value = c.in_ok-put_group.ensures.value in
    let later = c.in_ok-put_group.ensures.gives tells in
    let free = spared S.sees messages laws thin keep file new bytes c.args.files old rest by kept records same mid _ value later need.above (apart m file new some need.above) in
    let one = group_quiet S.sees messages laws thin keep file new bytes c.args.files old rest by kept records same mid (Ok _) value later in (
      file_quiet S.sees messages laws thin keep file new bytes c.args.files old rest by kept records same mid _ value later need.above last c.clear_files.ensures.stays c.clear_files.result (c.clear_files.ensures.gives tells messages free one.ok),
      on_ok c.clear_files.result (taken_away S.sees messages laws thin keep file new bytes c.args.files old rest by kept records same mid _ value later need.above last c.clear_files.ensures.stays) (c.clear_files.ensures.gone tells),
    )

pub returns-clause-settled : goal.returns-clause-settled
returns-clause-settled g c = λ tells.
    settled_then g.S.Shelf.sees c.args.self.now.shelf c.put_group.new.self.shelf c.clear_files.new.self.shelf c.in_ok-put_group.ensures.cause.later c.clear_files.ensures.cause.later (c.in_ok-put_group.ensures.settled tells) (c.clear_files.ensures.settled tells)

pub returns-clause-clock : goal.returns-clause-clock
returns-clause-clock g c = λ tells. subst (λ clock. TakesSome (g.C.Clock.sees.upcoming c.args.self.now.clock) (g.C.Clock.sees.upcoming clock)) (sym c.clear_files.ensures.stays.clock) (c.in_ok-put_group.ensures.clock tells)
