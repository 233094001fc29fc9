use Rattle.std.proofs.Common.{arith}
use Rattle.std.proofs.lemmas.Bool.Decides.{nat_tests}
use Rattle.dv_ext.proofs.Fits.{fit_added}
use Rattle.dv_ext.proofs.limits.fits_added.Goals as goal
use Rattle.dv_ext.proofs.limits.fits_added.Goals.{then-list-lt-MOST, else-list-lt-MOST}

pub returns-then-record_sizes-from-le-ROW_BYTES : goal.returns-then-record_sizes-from-le-ROW_BYTES
returns-then-record_sizes-from-le-ROW_BYTES c =
    let e = fit_added c.args.list.now c.args.intro.now c.requires in
    elim c.if-list-lt-MOST.branch [ then-list-lt-MOST w ↦ grind (arith, nat_tests, e) | else-list-lt-MOST w ↦ grind (arith, nat_tests, e) ]
