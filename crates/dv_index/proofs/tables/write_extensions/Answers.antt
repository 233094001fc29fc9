use Rattle.std.proofs.Common.{subst}
use Rattle.std.proofs.lemmas.List.Elements.{All-more}
use Rattle.dv_formats.specs.Snapshots.{HasFieldsOf, extension_text}
use Rattle.dv_index.proofs.Texts.{text_more}
use Rattle.dv_index.proofs.tables.write_extensions.Goals as goal

pub loop-extension-preserved : goal.loop-extension-preserved
loop-extension-preserved c = record {
  text = text_more extension_text c.args.extensions.now c.loop-extension.extension-index c.extension-item.result c.args.out.now c.loop-extension.out c.write_extension.new.out c.loop-extension-test.true c.extension-item.is
      c.loop-extension.invariant.text c.in_ok-write_extension.ensures.text;
  fits = All-more HasFieldsOf c.args.extensions.now c.loop-extension.extension-index c.extension-item.result c.loop-extension-test.true c.loop-extension.invariant.fits
      (subst HasFieldsOf c.extension-item.is c.in_ok-write_extension.ensures.fits);
}
