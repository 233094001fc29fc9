use Rattle.std.proofs.Common.{◌∷◌, ◌-◌, [], length, take, drop}
use Rattle.std.proofs.lemmas.Slice.Eq.{bytes_eq-Decides}
use Rattle.dv_sets.proofs.Words.{inside_is}
use Rattle.dv_sets.proofs.flags.inside.Goals as goal

pub returns : goal.returns
returns c =
    let b = c.args.b.now in
    let rest = c.in-Some.rest.now in
    let n = length rest - 1 in
    let front = c.in-Some.ensures.cases in
    let behind = c.in-Some-strip_suffix.ensures.cases in
    inside_is b rest c.in-Some-strip_suffix.text.now n ((bytes_eq-Decides (take 1 b) (40 ∷ [])).0 front.0) front.1 ((bytes_eq-Decides (drop n rest) (41 ∷ [])).0 behind.0) behind.1
