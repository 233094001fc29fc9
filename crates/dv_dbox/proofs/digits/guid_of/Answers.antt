use Rattle.dv_dbox.proofs.Guids.{guid_is}
use Rattle.dv_dbox.proofs.digits.guid_of.Goals as goal

pub returns : goal.returns
returns c = rw (c.ok.ensures.value, c.from_hex.ensures) (guid_is c.args.text.now)
