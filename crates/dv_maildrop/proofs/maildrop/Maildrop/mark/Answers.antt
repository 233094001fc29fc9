use Rattle.std.proofs.Common.{◌≡◌, ℕ, ◌+◌, ◌<◌, Bool, true, false, cond, List, Some, length, get_or, ◌∙◌, ap, subst, arith, nat_eq}
use Rattle.dv_maildrop.specs.declared.types.Listed.{Listed}
use Rattle.dv_maildrop.specs.Maildrops.{Transaction, row_of}
use Rattle.dv_maildrop.proofs.Kept.{count_fewer, kept_marked, octets_fewer, written_back}
use Rattle.dv_maildrop.proofs.maildrop.Maildrop.mark.Goals as goal

pub overflow_sub-self : goal.overflow_sub-self
overflow_sub-self c =
    let m : Transaction = record { uid_validity = c.self.inside.uid_validity; rows = c.self.inside.rows; marked = c.self.inside.marked.items; ended = c.self.inside.ended } in
    let found : row_of m c.args.number ≡ Some c.args.row = ap (λ (t : Transaction). row_of t c.args.number) c.self.view_is ∙ c.requires in
    omega (arith, c.self.invariant.left, count_fewer m c.args.number c.args.row found)

pub overflow_sub-self-2 : goal.overflow_sub-self-2
overflow_sub-self-2 c =
    let m : Transaction = record { uid_validity = c.self.inside.uid_validity; rows = c.self.inside.rows; marked = c.self.inside.marked.items; ended = c.self.inside.ended } in
    let found : row_of m c.args.number ≡ Some c.args.row = ap (λ (t : Transaction). row_of t c.args.number) c.self.view_is ∙ c.requires in
    omega (arith, c.from.ensures, c.self.invariant.sum, octets_fewer m c.args.number c.args.row found)

pub invariant_of-self-2 : goal.invariant_of-self-2
invariant_of-self-2 c =
    let m : Transaction = record { uid_validity = c.self.inside.uid_validity; rows = c.self.inside.rows; marked = c.self.inside.marked.items; ended = c.self.inside.ended } in
    let k = c.args.number in
    let row : Listed = c.args.row in
    let found : row_of m k ≡ Some row = ap (λ (t : Transaction). row_of t k) c.self.view_is ∙ c.requires in
    let old : List Bool = c.self.inside.flags.items in
    let new : List Bool = c.set_flag.new.flags in
    let same : length new ≡ length old = omega (arith, c.set_flag.auto.flags, ap length c.deref_mut.ensures.value) in
    let long : length new ≡ c.self.inside.flags.len = omega (arith, c.set_flag.auto.flags, c.deref_mut.ensures.len) in
    let each : (i : ℕ) → i < length old → get_or new i false ≡ cond (nat_eq (i + 1) k) true (get_or old i false) =
    subst (λ (fs : List Bool). (i : ℕ) → i < length fs → get_or new i false ≡ cond (nat_eq (i + 1) k) true (get_or fs i false)) c.deref_mut.ensures.value c.set_flag.ensures in
    kept_marked m k row old new _ _ c.self.inside.count c.self.inside.octets c.self.inside.whole _ c.self.invariant found same each c.in_ok-push.ensures.items (written_back c.self.inside.flags.len new old long) c.from.ensures
