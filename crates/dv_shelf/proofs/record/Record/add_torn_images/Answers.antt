use Rattle.std.proofs.Common.{refl}
use Rattle.dv_shelf.specs.Records.{made_calls}
use Rattle.dv_shelf.proofs.SampleSteps.{torn_rest}
use Rattle.dv_shelf.proofs.record.Record.add_torn_images.Goals as goal

pub returns : goal.returns
returns c =
    let a = c.args in
    let calls = made_calls a.self.now in
    let rest = c.split_at.ensures.back in (
      _,
      torn_rest calls a.name a.at _ _ a.bytes.now _ _ rest c.in_ok-add_torn.ensures,
      (
        _,
        torn_rest calls a.name a.at 0x80 _ a.bytes.now _ _ rest c.in_ok-add_torn-2.ensures,
        (
          _,
          torn_rest calls a.name a.at 0x00 _ a.bytes.now _ _ rest c.in_ok-add_torn-3.ensures,
          (
            _,
            torn_rest calls a.name a.at 0x37 _ a.bytes.now _ _ rest c.in_ok-add_torn-4.ensures,
            refl,
          ),
        ),
      ),
    )
