use Rattle.std.proofs.Common.{◌∙◌, ◌^◌, ◌<◌, List, Err, inr, refl, ap, subst}
use Rattle.std.specs.Prelude.{All}
use Rattle.std.proofs.lemmas.Result.{err_from_is_err_and}
use Rattle.dv_maps.specs.declared.mapped.Mapped.{Mapped}
use Rattle.dv_maps.specs.Purges.{StandsIn, size_of, texts_in}
use Rattle.dv_mdbox.proofs.Moved.{some_items}
use Rattle.dv_mdbox.proofs.Finished.{number_missed}
use Rattle.dv_mdbox.proofs.Thinning.{quiet_stays, takes_none}
use Rattle.dv_mdbox.proofs.storage.Storage.put_texts.Goals as goal

pub rewrite_file-requires : goal.rewrite_file-requires
rewrite_file-requires g c = record {
  kept = c.requires.rows.kept;
  gone = c.requires.rows.gone;
  some = c.requires.some.1;
  short = subst (λ (rs : List Mapped). size_of rs < 2 ^ 32) c.requires.rows.kept c.requires.short;
  above = inr c.in_ok-new.ensures;
  room = tt;
}

pub returns-in_err-new-clause-value : goal.returns-in_err-new-clause-value
returns-in_err-new-clause-value g c = λ from known next fits.
    let old = c.args.self.now in
    let p = err_from_is_err_and c.from_residual.result c.from_residual.ensures.1 in
    rw p.1 (number_missed known from c.args.file old fits (λ none. some_items c.args.rows.kept.items c.requires.some.0 (c.requires.rows.kept ∙ none)) _ c.in_err-new.ensures p.0 p.2)

pub returns-in_err-new-clause-gives : goal.returns-in_err-new-clause-gives
returns-in_err-new-clause-gives g c = λ tells messages bytes rest texts stands.
    let S = g.S.Shelf in
    let old = c.args.self.now in
    let p = err_from_is_err_and c.from_residual.result c.from_residual.ensures.1 in
    rw p.1 (quiet_stays S.sees messages c.thinnings_are.ensures old old refl refl refl (λ f left. g.met.S.Shelf.only_now old.shelf f tells left) rest (Err p.0), tt)

pub returns-in_err-new-clause-clock : goal.returns-in_err-new-clause-clock
returns-in_err-new-clause-clock g c = λ tells. takes_none (g.C.Clock.sees.upcoming c.args.self.now.clock)

pub returns-clause-gives : goal.returns-clause-gives
returns-clause-gives g c = λ tells messages bytes rest texts stands.
    let kept = c.requires.rows.kept in
    c.rewrite_file.ensures.gives tells messages bytes rest (
      refl,
      c.in_ok-new.ensures,
      texts ∙ ap (texts_in bytes) kept,
      subst (All (StandsIn messages bytes)) kept stands,
      λ none. some_items c.args.rows.kept.items c.requires.some.0 (kept ∙ none),
    )
