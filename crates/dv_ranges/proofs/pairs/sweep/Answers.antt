use Rattle.std.proofs.Common.{◌≤◌, ◌||◌, Bool, get_or, sym, ◌∙◌, ap, arith}
use Rattle.std.proofs.lemmas.List.{get_or_default}
use Rattle.std.proofs.lemmas.List.Elements.{All-weaker}
use Rattle.std.proofs.lemmas.List.Folds.{list_any_more}
use Rattle.dv_model.specs.declared.types.Pair.{Pair}
use Rattle.dv_model.specs.Effects.{is_in_pair}
use Rattle.dv_ranges.proofs.pairs.sweep.Goals as goal

abbrev none : Pair
none = record { first = 0; last = 0 }

pub loop-pair-preserved : goal.loop-pair-preserved
loop-pair-preserved c =
    let pairs = c.args.pairs.now in
    let j = c.loop-pair.pair-index in
    let x = get_or pairs j none in
    record {
      same = λ uid.
          c.in_ok-add.ensures.same uid
          ∙ ap (λ (b : Bool). b || is_in_pair uid x) (c.loop-pair.invariant.same uid)
          ∙ sym (list_any_more (is_in_pair uid) pairs j none c.loop-pair-test.true);
      apart = c.in_ok-add.ensures.apart;
      behind = λ k d le less.
          let rise : (get_or pairs j d).first ≤ (get_or pairs k d).first = c.requires j k d (omega arith) less in
          let same = ap (λ (p : Pair). p.first) (get_or_default pairs j none d c.loop-pair-test.true) in
          All-weaker (λ (p : Pair). p.first ≤ x.first) (λ (p : Pair). p.first ≤ (get_or pairs k d).first) (λ p h. omega arith) c.add.new.joined.items c.in_ok-add.ensures.behind;
    }
