use Rattle.std.proofs.Common.{◌≡◌, [], ◌∷◌, ◌++◌, ◌<◌, arith, ap, length, refl, rules, subst, ◌∙◌}
use Rattle.std.specs.Prelude.{All}
use Rattle.std.proofs.lemmas.List.{get_or_append_left, get_or_default, get_or_push, length_push}
use Rattle.dv_model.specs.declared.types.Row.{Row}
use Rattle.dv_model.specs.Effects.{without_place}
use Rattle.dv_rows.specs.declared.adding.Given.{Given}
use Rattle.dv_rows.proofs.GivenPlaces.{all_back, taken_back}
use Rattle.dv_rows.proofs.adding.take_back.Goals as goal

pub loop-last-preserved : goal.loop-last-preserved
loop-last-preserved c =
    let rows = c.loop-last.rows in
    let last : Given = c.in-Some.last in
    let left = c.pop.new.self.items in
    let popped : c.loop-last.given.items ≡ left ++ last ∷ [] = c.in-Some.ensures.items in
    let many = length_push left last in
    let long : length rows ≡ length c.args.rows.now = c.loop-last.auto.rows in
    let within : last.at < length c.args.rows.now =
    subst (λ (g : Given). g.at < length c.args.rows.now) (get_or_push left last last (length left) refl) (subst (All (λ (g : Given). g.at < length c.args.rows.now)) popped c.loop-last.invariant.inside (length left) last (omega (arith, many))) in
    let inside : last.at < length rows = omega (arith, within, long) in
    record {
      inside = λ k d h. subst (λ (g : Given). g.at < length c.args.rows.now) (get_or_append_left left (last ∷ []) d k h) (subst (All (λ (g : Given). g.at < length c.args.rows.now)) popped c.loop-last.invariant.inside k d (omega (arith, many, h)));
      given = λ n before so_far.
          taken_back c.args.place n before rows c.loop-last.given.items left last c.take_one.new.row (c.loop-last.invariant.given n before so_far) popped inside
          (λ d. c.take_one.ensures ∙ ap (λ (r : Row). record r { keywords = without_place c.args.place r.keywords; modseq = last.modseq }) (get_or_default rows last.at c.index-rows-last.result d inside));
    }

pub returns : goal.returns
returns c =
    let none : c.loop-last.given.items ≡ [] = search rules in
    λ n before so_far. all_back c.args.place n before c.loop-last.rows c.loop-last.given.items (c.loop-last.invariant.given n before so_far) none
