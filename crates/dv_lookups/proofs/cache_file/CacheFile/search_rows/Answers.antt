use Rattle.std.proofs.Common.{rules, ◌≡◌, ◌<◌, ◌≤◌, ◌^◌, ◌∙◌, ◌+◌, ◌++◌, ℕ, ap, get_or, length, subst, sym, take}
use Rattle.dv_model.specs.declared.types.Shown.{Shown}
use Rattle.dv_model.specs.Sets.{numbered}
use Rattle.dv_shelf.specs.Folders.{Folder}
use Rattle.dv_search.proofs.Found.{few_rows}
use Rattle.dv_lookups.specs.Commands.{AskedStands}
use Rattle.dv_lookups.specs.Reads.{damaged_of, numbers_found, uids_of}
use Rattle.dv_lookups.proofs.Picking.{all_numbered, all_numbered_uids, number_in, numbered_is, numbered_less, numbered_uid, numbered_uid_less, numbers_more}
use Rattle.dv_lookups.proofs.RowSteps.{damage_more}
use Rattle.dv_lookups.proofs.Stepping.{knows_still, looks_all, looks_more}
use Rattle.dv_lookups.proofs.cache_file.CacheFile.search_rows.Goals as goal

pub overflow_add-number : goal.overflow_add-number
overflow_add-number g c =
    let few : length c.args.view.now.rows < 2 ^ 32 = few_rows c.args.view.now c.rows.ensures.ordered in
    let same : length c.as_slice-s-items.result.now ≡ length c.args.view.now.rows = ap length (c.as_slice-s-items.ensures ∙ c.rows.ensures.is) in
    let here : c.loop-s.number ≡ c.loop-s.s-index = c.loop-s.invariant.counted in
    search rules

pub loop-s-preserved : goal.loop-s-preserved
loop-s-preserved g c =
    let S = g.S.Shelf in
    let folder = S.sees.files c.args.shelf.now in
    let chain = c.args.chain.now in
    let m = chain.live.mailbox in
    let view = c.args.view.now in
    let by_uid = c.args.by_uid in
    let all = numbered view in
    let uids = uids_of all in
    let i = c.loop-s.s-index in
    let s = c.s-item.result in
    let rows = c.as_slice-s-items.ensures ∙ c.rows.ensures.is in
    let less : i < length view.rows = subst (λ rs. i < length rs) rows c.loop-s-test.true in
    let is : s ≡ get_or view.rows i s = c.s-item.is ∙ ap (λ rs. get_or rs i s) rows in
    let inv = c.loop-s.invariant in
    let did = c.search_row.ensures in
    let uid : s.uid ≡ get_or uids i 0 = sym (numbered_uid view i less s is) in
    let number : c.loop-s.number + 1 ≡ i + 1 = ap (λ n. n + 1) inv.counted in
    let still : S.sees.tells → S.sees.files c.loop-s.shelf ≡ folder = λ told. (inv.looks.looks told).same in
    let knows = knows_still S.sees chain (AskedStands c.args.asked.now) (take i uids) c.args.self.now c.loop-s.self c.args.shelf.now c.loop-s.shelf inv.looks in
    record {
      counted = number;
      numbers = λ told known k ready asks.
          let before = numbers_found folder m k view by_uid (take i all) in
          c.in_ok-search_row.ensures.numbers told (knows told known) k view ready asks
          ∙ ap (λ (f : Folder). c.loop-s.picked.numbers ++ number_in f m k view by_uid (c.loop-s.number + 1, s)) (still told)
          ∙ ap (λ (n : ℕ). c.loop-s.picked.numbers ++ number_in folder m k view by_uid (n, s)) number
          ∙ ap (λ ns. ns ++ number_in folder m k view by_uid (i + 1, s)) (inv.numbers told known k ready asks)
          ∙ ap (λ (row : ℕ × Shown). before ++ number_in folder m k view by_uid row) (sym (numbered_is view i less s is))
          ∙ sym (numbers_more folder m k view by_uid all i (i + 1, s) (numbered_less view i less));
      damaged = λ told known.
          damage_more folder (S.sees.files c.loop-s.shelf) m uids i s.uid c.loop-s.picked.damaged c.search_row.new.picked.damaged (numbered_uid_less view i less) uid (still told) (inv.damaged told known)
          (c.in_ok-search_row.ensures.damaged told (knows told known));
      looks = looks_more S.sees chain c.args.asked.now uids i (numbered_uid_less view i less) c.args.shelf.now c.loop-s.shelf c.search_row.new.shelf c.args.self.now c.loop-s.self c.search_row.new.self
          s.uid uid inv.looks did.looks did.file did.economy did.spares;
      faults = search rules;
    }

pub returns-in_err-search_row-clause-looks : goal.returns-in_err-search_row-clause-looks
returns-in_err-search_row-clause-looks g c =
    let S = g.S.Shelf in
    let chain = c.args.chain.now in
    let asked = c.args.asked.now in
    let view = c.args.view.now in
    let uids = uids_of (numbered view) in
    let i = c.loop-s.s-index in
    let s = c.s-item.result in
    let rows = c.as_slice-s-items.ensures ∙ c.rows.ensures.is in
    let less : i < length view.rows = subst (λ rs. i < length rs) rows c.loop-s-test.true in
    let is : s ≡ get_or view.rows i s = c.s-item.is ∙ ap (λ rs. get_or rs i s) rows in
    let did = c.search_row.ensures in
    looks_all S.sees chain asked uids (i + 1) c.args.self.now c.search_row.new.self c.args.shelf.now c.search_row.new.shelf
    (looks_more S.sees chain asked uids i (numbered_uid_less view i less) c.args.shelf.now c.loop-s.shelf c.search_row.new.shelf c.args.self.now c.loop-s.self c.search_row.new.self
    s.uid (sym (numbered_uid view i less s is)) c.loop-s.invariant.looks did.looks did.file did.economy did.spares)

pub returns-clause-numbers : goal.returns-clause-numbers
returns-clause-numbers g c = λ told known k ready asks.
    let done = subst (λ rs. length rs ≤ c.loop-s.s-index) (c.as_slice-s-items.ensures ∙ c.rows.ensures.is) c.loop-s-test.false in
    c.loop-s.invariant.numbers told known k ready asks
    ∙ ap (numbers_found (g.S.Shelf.sees.files c.args.shelf.now) c.args.chain.now.live.mailbox k c.args.view.now c.args.by_uid) (all_numbered c.args.view.now c.loop-s.s-index done)

pub returns-clause-damaged : goal.returns-clause-damaged
returns-clause-damaged g c = λ told known.
    let done = subst (λ rs. length rs ≤ c.loop-s.s-index) (c.as_slice-s-items.ensures ∙ c.rows.ensures.is) c.loop-s-test.false in
    c.loop-s.invariant.damaged told known
    ∙ ap (damaged_of (g.S.Shelf.sees.files c.args.shelf.now) c.args.chain.now.live.mailbox) (all_numbered_uids c.args.view.now c.loop-s.s-index done)

pub returns-clause-looks : goal.returns-clause-looks
returns-clause-looks g c =
    looks_all g.S.Shelf.sees c.args.chain.now c.args.asked.now (uids_of (numbered c.args.view.now)) c.loop-s.s-index c.args.self.now c.loop-s.self c.args.shelf.now c.loop-s.shelf c.loop-s.invariant.looks
