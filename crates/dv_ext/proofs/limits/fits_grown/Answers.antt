use Rattle.std.proofs.Common.{arith}
use Rattle.std.proofs.lemmas.Bool.Decides.{nat_tests}
use Rattle.dv_ext.proofs.Fits.{fit_grown}
use Rattle.dv_ext.proofs.limits.fits_grown.Goals as goal

pub returns-then-others-from-le-ROW_BYTES : goal.returns-then-others-from-le-ROW_BYTES
returns-then-others-from-le-ROW_BYTES c =
    let e = fit_grown c.args.list.now c.args.place c.index-list-place.result c.args.intro.now c.requires.extensions c.requires.place c.index-list-place.is in
    grind (arith, nat_tests, e)

pub returns-else-others-from-le-ROW_BYTES : goal.returns-else-others-from-le-ROW_BYTES
returns-else-others-from-le-ROW_BYTES c =
    let e = fit_grown c.args.list.now c.args.place c.index-list-place.result c.args.intro.now c.requires.extensions c.requires.place c.index-list-place.is in
    grind (arith, nat_tests, e)
