use Rattle.std.proofs.Common.{◌∙◌, ap, subst, sym}
use Rattle.std.specs.Prelude.{filter}
use Rattle.dv_rows.specs.Kept.{AreRows}
use Rattle.dv_rows.specs.Parted.{is_among}
use Rattle.dv_rows.proofs.Rising.{filtered_rows}
use Rattle.dv_rows.proofs.rows.Rows.part.Goals as goal

pub of-requires : goal.of-requires
of-requires c =
    subst AreRows (sym (c.from_vec.ensures ∙ c.in_ok-rows.ensures ∙ ap (filter (λ row. is_among c.args.uids.now row.uid)) c.deref.ensures.value))
    (filtered_rows (is_among c.args.uids.now) c.self.inside.rows.items c.self.invariant.counted.are)
