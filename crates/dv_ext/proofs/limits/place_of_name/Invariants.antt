use Rattle.std.proofs.Common.{◌≡◌, false, bytes_eq}
use Rattle.std.specs.List.{AllWithin}
use Rattle.dv_ext.proofs.limits.place_of_name.Given as goal

abbrev pub invariant-loop-place : goal.invariant-loop-place
invariant-loop-place l = AllWithin (λ e. bytes_eq e.name l.name ≡ false) l.list 0 l.place
