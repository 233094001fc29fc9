use Rattle.std.proofs.Common.{◌≡◌, inl, inr, get_or, arith, subst}
use Rattle.std.proofs.lemmas.Bool.{cases_lt}
use Rattle.std.proofs.lemmas.List.{get_or_default}
use Rattle.dv_lookups.specs.Headers.{IsAsked}
use Rattle.dv_lookups.proofs.headers.ask_all.Goals as goal

pub loop-name-preserved : goal.loop-name-preserved
loop-name-preserved c = λ k d less.
    let names = c.args.names.now in
    let i = c.loop-name.name-index in
    elim (cases_lt k i) [
      | inl before ↦ c.in_ok-ask.ensures.others (get_or names k d) (c.loop-name.invariant k d before)
      | inr past ↦
          let here : k ≡ i = omega (arith, less, past) in
          let same : c.as_slice.result.now ≡ get_or names k d = grind (arith, get_or_default) in
          subst (IsAsked c.ask.new.missing) same c.in_ok-ask.ensures.asked
    ]
