use Rattle.std.proofs.Common.{◌≡◌, ◌∙◌, ◌≤◌, [], List, ℕ, length, Some, Err, inr, refl, sym, subst, arith}
use Rattle.std.proofs.lemmas.Result.{err_from_is_err_and}
use Rattle.std.proofs.lemmas.Bool.{eqb-true}
use Rattle.std.proofs.lemmas.Bool.Decides.{nat_tests}
use Rattle.dv_maps.specs.declared.mapped.Mapped.{Mapped}
use Rattle.dv_mdbox.specs.Answers.{IsFailure}
use Rattle.dv_mdbox.specs.Purging.{kept_rows}
use Rattle.dv_mdbox.proofs.Finished.{on_ok}
use Rattle.dv_mdbox.proofs.Moved.{fit_empty, no_items, nothing_kept}
use Rattle.dv_mdbox.proofs.Rewritten.{some_gone}
use Rattle.dv_mdbox.proofs.Stepping.{none_taken, takes_failed}
use Rattle.dv_mdbox.proofs.Thinning.{quiet_stays, takes_none}
use Rattle.dv_mdbox.proofs.storage.Storage.take_file.Goals as goal

pub returns-in_err-rows-clause-value : goal.returns-in_err-rows-clause-value
returns-in_err-rows-clause-value g c = λ from known next knows.
    let old = c.args.self.now in
    let p = err_from_is_err_and c.from_residual.result c.from_residual.ensures.1 in
    rw p.1 (takes_failed known from c.args.file old old (none_taken known from old old refl refl refl refl refl) p.0 (subst IsFailure (sym p.2) tt))

pub returns-in_err-rows-clause-gives : goal.returns-in_err-rows-clause-gives
returns-in_err-rows-clause-gives g c = λ tells messages rest.
    let S = g.S.Shelf in
    let old = c.args.self.now in
    let p = err_from_is_err_and c.from_residual.result c.from_residual.ensures.1 in
    rw p.1 (quiet_stays S.sees messages c.thinnings_are.ensures old old refl refl refl (λ f left. g.met.S.Shelf.only_now old.shelf f tells left) rest (Err p.0), tt)

pub returns-in_err-rows-clause-clock : goal.returns-in_err-rows-clause-clock
returns-in_err-rows-clause-clock g c = λ tells. takes_none (g.C.Clock.sees.upcoming c.args.self.now.clock)

pub rewrite_file-requires : goal.rewrite_file-requires
rewrite_file-requires g c =
    let m = c.args.self.now.chain.live.mailbox in
    let none : length c.as_slice.result.now ≡ 0 = eqb-true _ _ (sym c.is_empty.ensures ∙ c.if-is_empty.true) in
    nothing_kept m c.args.file c.in_ok-rows.rows c.in_ok-rows.ensures (sym c.as_slice.ensures.value ∙ no_items c.as_slice.result.now none) (some_gone m c.requires.next.0 c.args.file c.requires.next.1)

pub move_texts-requires-clause-some : goal.move_texts-requires-clause-some
move_texts-requires-clause-some g c =
    let m = c.args.self.now.chain.live.mailbox in
    let some : 1 ≤ length c.as_slice.result.now = grind (arith, nat_tests, c.is_empty.ensures, c.if-is_empty.false) in (
      subst (λ (rs : List Mapped). 1 ≤ length rs) c.as_slice.ensures.value some,
      subst (λ (ids : List ℕ). 1 ≤ length ids) (sym c.in_ok-rows.ensures.gone) (some_gone m c.requires.next.0 c.args.file c.requires.next.1),
    )

pub returns-then-is_empty-clause-value : goal.returns-then-is_empty-clause-value
returns-then-is_empty-clause-value g c = λ from known next knows.
    let m = c.args.self.now.chain.live.mailbox in
    let none : length c.as_slice.result.now ≡ 0 = eqb-true _ _ (sym c.is_empty.ensures ∙ c.if-is_empty.true) in
    let empty : kept_rows m c.args.file ≡ [] = sym c.in_ok-rows.ensures.kept ∙ sym c.as_slice.ensures.value ∙ no_items c.as_slice.result.now none in
    c.rewrite_file.ensures.value from known next (fit_empty known m c.args.file empty)

pub returns-then-is_empty-clause-gives : goal.returns-then-is_empty-clause-gives
returns-then-is_empty-clause-gives g c = λ tells messages rest.
    let S = g.S.Shelf in
    let m = c.args.self.now.chain.live.mailbox in
    let none : length c.as_slice.result.now ≡ 0 = eqb-true _ _ (sym c.is_empty.ensures ∙ c.if-is_empty.true) in
    let empty : kept_rows m c.args.file ≡ [] = sym c.in_ok-rows.ensures.kept ∙ sym c.as_slice.ensures.value ∙ no_items c.as_slice.result.now none in
    let two = c.rewrite_file.ensures.gives tells messages [] rest empty in
    (two.0, on_ok c.rewrite_file.result (λ away. inr (fit_empty (Some (S.sees.files c.args.self.now.shelf)) m c.args.file empty, away)) two.1)
