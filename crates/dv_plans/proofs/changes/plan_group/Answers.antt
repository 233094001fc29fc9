use Rattle.std.proofs.Common.{◌≡◌, ℕ, List, length, ◌∙◌, ap, subst}
use Rattle.std.proofs.lemmas.Result.{err_from_is_err_and}
use Rattle.dv_groups.specs.Changes.{changed_uids, expunged_uids, guid_rows}
use Rattle.dv_files.specs.Reading.{guid_at}
use Rattle.dv_plans.specs.Counts.{CountsReads, CountsUpTo}
use Rattle.dv_plans.specs.Guids.{guid_from, removed_of}
use Rattle.dv_plans.proofs.Counts.{all_counted}
use Rattle.dv_plans.proofs.Naming.{guids_found}
use Rattle.dv_plans.proofs.Planned.{removed_rows}
use Rattle.dv_plans.proofs.changes.plan_group.Goals as goal

pub returns-in-Err-clause-mail_reads : goal.returns-in-Err-clause-mail_reads
returns-in-Err-clause-mail_reads g c =
    let command = c.args.c.now in
    let changed : c.as_slice-2.result.now ≡ changed_uids command c.args.view.now c.args.chain.now.live.mailbox = ◌∙◌ {c = changed_uids c.args.c.now c.args.view.now c.args.chain.now.live.mailbox} c.as_slice-2.ensures c.in_ok-uids.ensures in
    let before = g.S.Shelf.sees.mail_reads c.args.shelf.now in
    let now = g.S.Shelf.sees.mail_reads c.removed_guids.new.shelf in
    subst (λ (us : List ℕ). CountsUpTo (length (removed_of command us)) before now) changed c.in-Err.ensures.mail_reads

pub returns-in_err-group-clause-mail_reads : goal.returns-in_err-group-clause-mail_reads
returns-in_err-group-clause-mail_reads g c =
    let command = c.args.c.now in
    let changed : c.as_slice-2.result.now ≡ changed_uids command c.args.view.now c.args.chain.now.live.mailbox = ◌∙◌ {c = changed_uids c.args.c.now c.args.view.now c.args.chain.now.live.mailbox} c.as_slice-2.ensures c.in_ok-uids.ensures in
    let before = g.S.Shelf.sees.mail_reads c.args.shelf.now in
    let now = g.S.Shelf.sees.mail_reads c.removed_guids.new.shelf in
    let n = length (expunged_uids command c.args.view.now c.args.chain.now.live.mailbox) in
    let p = err_from_is_err_and c.from_residual-in_err-group.result c.from_residual-in_err-group.ensures.1 in
    rw p.1 (all_counted n before now (subst (λ (us : List ℕ). CountsReads (length (removed_of command us)) before now) changed c.in-Ok.ensures.mail_reads))

pub returns-clause-mail_reads : goal.returns-clause-mail_reads
returns-clause-mail_reads g c =
    let command = c.args.c.now in
    let changed : c.as_slice-2.result.now ≡ changed_uids command c.args.view.now c.args.chain.now.live.mailbox = ◌∙◌ {c = changed_uids c.args.c.now c.args.view.now c.args.chain.now.live.mailbox} c.as_slice-2.ensures c.in_ok-uids.ensures in
    let before = g.S.Shelf.sees.mail_reads c.args.shelf.now in
    let now = g.S.Shelf.sees.mail_reads c.removed_guids.new.shelf in
    subst (λ (us : List ℕ). CountsReads (length (removed_of command us)) before now) changed c.in-Ok.ensures.mail_reads

pub returns-clause-group : goal.returns-clause-group
returns-clause-group g c =
    let m = c.args.chain.now.live.mailbox in
    let view = c.args.view.now in
    let rows = c.in-Ok.rows in
    let changed : c.as_slice-2.result.now ≡ changed_uids c.args.c.now view m = ◌∙◌ {c = changed_uids c.args.c.now c.args.view.now c.args.chain.now.live.mailbox} c.as_slice-2.ensures c.in_ok-uids.ensures in
    let again : c.as_slice-3.result.now ≡ changed_uids c.args.c.now view m = ◌∙◌ {c = changed_uids c.args.c.now c.args.view.now c.args.chain.now.live.mailbox} c.as_slice-3.ensures c.in_ok-uids.ensures in
    let removed = removed_rows c.args.c.now view m c.as_slice-2.result.now rows c.have_bounds.ensures.ordered c.have_bounds.ensures.valid changed c.in-Ok.ensures.beside in
    record {
      guid = guid_from rows;
      guids = guids_found rows c.in-Ok.ensures.beside.guids;
      is = c.in_ok-group.ensures view (guid_from rows) again (c.as_slice-4.ensures ∙ removed);
    }

pub returns-clause-read : goal.returns-clause-read
returns-clause-read g c = λ tells.
    let folder = g.S.Shelf.sees.files c.args.shelf.now in
    let view = c.args.view.now in
    let m = c.args.chain.now.live.mailbox in
    let changed : c.as_slice-2.result.now ≡ changed_uids c.args.c.now view m = ◌∙◌ {c = changed_uids c.args.c.now c.args.view.now c.args.chain.now.live.mailbox} c.as_slice-2.ensures c.in_ok-uids.ensures in
    let again : c.as_slice-3.result.now ≡ changed_uids c.args.c.now view m = ◌∙◌ {c = changed_uids c.args.c.now c.args.view.now c.args.chain.now.live.mailbox} c.as_slice-3.ensures c.in_ok-uids.ensures in
    let rows = c.in-Ok.ensures.rows tells ∙ ap (λ (us : List ℕ). guid_rows (guid_at folder) (removed_of c.args.c.now us)) changed in
    c.in_ok-group.ensures view (guid_at folder) again (c.as_slice-4.ensures ∙ rows)
