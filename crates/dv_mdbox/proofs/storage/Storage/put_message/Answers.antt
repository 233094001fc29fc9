use Rattle.std.proofs.Common.{◌∙◌, sym, ap, refl, subst, arith}
use Rattle.std.proofs.lemmas.Result.{err_from_is_err_and}
use Rattle.dv_maps.specs.declared.place.Place.{Place}
use Rattle.dv_mdbox.specs.Tails.{IsFreeFrom}
use Rattle.dv_mdbox.proofs.Finding.{ok_anyway}
use Rattle.dv_mdbox.proofs.Going.{goes_clocked, goes_nowhere}
use Rattle.dv_mdbox.proofs.Saved.{saves_clocked, saves_stayed}
use Rattle.dv_mdbox.proofs.Written.{group_clocked, group_kept}
use Rattle.dv_mdbox.proofs.storage.Storage.put_message.Goals as goal

pub put_text-requires-clause-place : goal.put_text-requires-clause-place
put_text-requires-clause-place g c =
    let m = c.self.inside.chain.live.mailbox in
    let offset = ap (λ (p : Place). p.offset) c.in-Some.ensures.0 in
    let size = ap (λ (p : Place). p.size) c.in-Some.ensures.0 in
    let small = c.in-Some.ensures.1 in
    record {
      free = subst (λ (p : Place). IsFreeFrom m (record { file = p.file; offset = p.offset })) (sym c.in-Some.ensures.0) (rw (← c.self.view_is) at c.requires.free);
      size = size ∙ c.len.ensures;
      end = omega (arith, offset, size, small);
    }

-- ---- nothing was written

pub returns-in_err-text-clause-value : goal.returns-in_err-text-clause-value
returns-in_err-text-clause-value g c = rw (← c.self.view_is) (
    let p = err_from_is_err_and c.from_residual.result c.from_residual.ensures.1 in
    let none : Place = record { file = 0; offset = 0; size = 0 } in
    rw p.1 (none, group_kept _ _ _ p.0 refl refl refl refl, tt))

pub returns-in_err-text-clause-gives : goal.returns-in_err-text-clause-gives
returns-in_err-text-clause-gives g c = rw (← c.self.view_is) (λ tells messages debt rest.
    let S = g.S.Shelf in
    let p = err_from_is_err_and c.from_residual.result c.from_residual.ensures.1 in
    rw p.1 (saves_stayed S.sees messages debt c.args.message.now _ _ rest p.0 refl refl refl (λ f left. g.met.S.Shelf.only_now c.self.inside.shelf f tells left)))

pub returns-in-None-clause-value : goal.returns-in-None-clause-value
returns-in-None-clause-value g c = rw (← c.self.view_is) (
    let none : Place = record { file = 0; offset = 0; size = 0 } in
    (none, group_kept _ _ _ _ refl refl refl refl, tt))

pub returns-in-None-clause-gives : goal.returns-in-None-clause-gives
returns-in-None-clause-gives g c = rw (← c.self.view_is) (λ tells messages debt rest.
    let S = g.S.Shelf in
    saves_stayed S.sees messages debt c.args.message.now _ _ rest _ refl refl refl (λ f left. g.met.S.Shelf.only_now c.self.inside.shelf f tells left))

-- ---- the group

pub returns-in-Some-clause-value : goal.returns-in-Some-clause-value
returns-in-Some-clause-value g c = rw (← c.self.view_is) (
  c.in-Some.place,
  group_clocked _ _ c.put_text.new.self c.now-now.new.self c.put_text.result c.put_text.ensures.value,
  ok_anyway c.put_text.result (ap (λ (p : Place). p.file) c.in-Some.ensures.0, ap (λ (p : Place). p.offset) c.in-Some.ensures.0),
)

pub returns-in-Some-clause-gives : goal.returns-in-Some-clause-gives
returns-in-Some-clause-gives g c = rw (← c.self.view_is) (λ tells messages debt rest.
    let S = g.S.Shelf in
    saves_clocked S.sees messages debt c.args.message.now _ c.put_text.new.self c.now-now.new.self c.put_text.result
    (c.put_text.ensures.gives tells messages debt c.args.message.now c.in_ok-text.ensures (record { stands = rest.stands; fits = rest.fits; map = rest.map })))

-- ---- the end of the last file

pub returns-in_err-text-clause-goes : goal.returns-in_err-text-clause-goes
returns-in_err-text-clause-goes g c = rw (← c.self.view_is) (
    let p = err_from_is_err_and c.from_residual.result c.from_residual.ensures.1 in
    rw p.1 (goes_nowhere g.S.Shelf.sees _ _ p.0 refl refl))

pub returns-in-None-clause-goes : goal.returns-in-None-clause-goes
returns-in-None-clause-goes g c = rw (← c.self.view_is) (goes_nowhere g.S.Shelf.sees _ _ _ refl refl)

pub returns-in-Some-clause-goes : goal.returns-in-Some-clause-goes
returns-in-Some-clause-goes g c = rw (← c.self.view_is) (goes_clocked g.S.Shelf.sees _ c.put_text.new.self c.now-now.new.self c.put_text.result c.put_text.ensures.goes)
