use Rattle.std.proofs.Common.{◌≡◌, ℕ, ◌<◌, Bool, false, List, length, get_or, ap, subst, arith}
use Rattle.dv_maildrop.specs.Maildrops.{Transaction}
use Rattle.dv_maildrop.proofs.Kept.{kept_reset, written_back}
use Rattle.dv_maildrop.proofs.maildrop.Maildrop.reset.Goals as goal

pub invariant_of-self : goal.invariant_of-self
invariant_of-self c =
    let inside = c.self.inside in
    let m : Transaction = record { uid_validity = c.self.inside.uid_validity; rows = c.self.inside.rows; marked = c.self.inside.marked.items; ended = c.self.inside.ended } in
    let old : List Bool = c.self.inside.flags.items in
    let new : List Bool = c.unmark.new.flags in
    let same : length new ≡ length old = omega (arith, c.unmark.auto.flags, ap length c.deref_mut.ensures.value) in
    let long : length new ≡ c.self.inside.flags.len = omega (arith, c.unmark.auto.flags, c.deref_mut.ensures.len) in
    let clear : (i : ℕ) → i < length old → get_or new i false ≡ false =
    subst (λ (fs : List Bool). (i : ℕ) → i < length fs → get_or new i false ≡ false) c.deref_mut.ensures.value c.unmark.ensures.flags in
    kept_reset m old new _ _ c.self.inside.count c.self.inside.octets c.self.inside.whole _ c.self.invariant same clear c.unmark.ensures.numbers (written_back c.self.inside.flags.len new old long) c.len-self-inside.ensures
