use Rattle.std.proofs.Common.{sym, ◌∙◌}
use Rattle.dv_shelf.proofs.SampleSteps.{written_samples, some_shown}
use Rattle.dv_shelf.proofs.record.Record.add_write.Goals as goal

pub bytes_of-requires : goal.bytes_of-requires
bytes_of-requires c = c.args.self.now.within c.args.call (c.args.i, c.requires.place, c.requires.there)

pub add_torn_images-requires : goal.add_torn_images-requires
add_torn_images-requires c =
    some_shown c.args.self.now.bytes.items c.args.call _ _ (c.args.self.now.within c.args.call (c.args.i, c.requires.place, c.requires.there)) (sym c.is_open.ensures ∙ c.if-not-is_open.false) c.bytes_of.ensures

pub returns : goal.returns
returns c =
    let a = c.args in
    written_samples a.self.now.bytes.items a.self.now.calls.items a.i a.call a.at c.in_ok-old.old _ _ _ _ c.requires.place c.requires.there c.requires.write
    (a.self.now.within a.call (a.i, c.requires.place, c.requires.there)) (sym c.is_open.ensures ∙ c.if-not-is_open.false) c.in_ok-old.ensures c.bytes_of.ensures c.in_ok-add_image.ensures c.in_ok-add_torn_images.ensures
