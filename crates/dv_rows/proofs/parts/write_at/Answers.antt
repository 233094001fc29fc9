use Rattle.std.proofs.Common.{◌≤◌, length, subst}
use Rattle.std.specs.Prelude.{IfSome}
use Rattle.std.proofs.lemmas.Option.{slice_get-get_or}
use Rattle.dv_rows.specs.Changed.{written_at_front}
use Rattle.dv_rows.proofs.PartChanges.{item_set, no_item}
use Rattle.dv_rows.proofs.parts.write_at.Goals as goal

pub returns-then-place-parts : goal.returns-then-place-parts
returns-then-place-parts c = no_item (written_at_front c.args.bytes.now) c.args.parts.now c.args.place c.if-place-parts.true

pub returns : goal.returns
returns c = item_set (written_at_front c.args.bytes.now) c.args.parts.now c.args.place c.index-parts-place.result c.write.new.part c.if-place-parts.false c.write.ensures

pub write-requires : goal.write-requires
write-requires c =
    subst (λ o. IfSome o (λ part. length c.args.bytes.now ≤ length part)) (slice_get-get_or c.args.parts.now c.args.place c.index-parts-place.result c.if-place-parts.false) c.requires
