use Rattle.std.proofs.Common.{◌≡◌, ◌∷◌, ◌++◌, inl, inr, ap, drop, get_or, subst, sym, take, ◌∙◌}
use Rattle.std.proofs.lemmas.List.{get_or_default}
use Rattle.dv_model.specs.declared.types.Row.{Row}
use Rattle.dv_model.specs.Effects.{with_place}
use Rattle.dv_rows.proofs.GivenPlaces.{either_way, given_more, had_it}
use Rattle.dv_rows.specs.Adding.{Lacks}
use Rattle.dv_rows.proofs.adding.give_at.Goals as goal

pub returns-in_default-clause-ok : goal.returns-in_default-clause-ok
returns-in_default-clause-ok c = λ d.
    let rows = c.args.rows.now in
    had_it c.args.place c.args.modseq rows c.args.at d
    (subst (λ ks. with_place c.args.place ks ≡ ks) (c.as_slice.ensures ∙ ap (λ (r : Row). r.keywords) (get_or_default rows c.args.at c.index-rows-at.result d c.requires.inside)) c.in_default.ensures)

pub returns-clause-given : goal.returns-clause-given
returns-clause-given c = λ before so_far.
    let rows = c.args.rows.now in
    let k = c.args.place in
    let at = c.args.at in
    let here : Row = get_or rows at c.index-rows-at-3.result in
    let keywords = c.as_slice.ensures ∙ ap (λ (r : Row). r.keywords) (get_or_default rows at c.index-rows-at.result c.index-rows-at-3.result c.requires.inside) in
    let lacks : Lacks k here.keywords = subst (Lacks k) keywords c.in-Some.ensures.2 in
    let goes = subst (λ ks. with_place k ks ≡ take c.in-Some.gap ks ++ k ∷ drop c.in-Some.gap ks) keywords c.in-Some.ensures.1 in
    let old = ap (λ (r : Row). r.modseq) (get_or_default rows at c.index-rows-at-2.result c.index-rows-at-3.result c.requires.inside) in
    given_more k c.args.modseq before rows c.args.given.now.items c.push.new.self.items (record { at = at; modseq = (get_or rows at c.index-rows-at-2.result).modseq }) c.give.new.row c.index-rows-at-3.result so_far c.requires.inside lacks old c.in_ok-push.ensures.items
    (either_way c.give.result c.give.ensures.ok c.give.ensures.err (λ is. inl (is ∙ ap (λ ks. record here { keywords = ks; modseq = c.args.modseq }) (sym goes))) (λ is. inr is))
