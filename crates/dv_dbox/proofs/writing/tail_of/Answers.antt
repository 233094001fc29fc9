use Rattle.std.specs.Prelude.{string_bytes}
use Rattle.std.proofs.Common.{◌++◌, ap, ◌∙◌}
use Rattle.hex.specs.Hex.{encode_lower}
use Rattle.dv_dbox.specs.BoxTexts.{metadata_text, trailer}
use Rattle.dv_dbox.proofs.Guids.{encoded_is}
use Rattle.dv_dbox.proofs.Wide.{said_as, tail_is, tail_pieces}
use Rattle.dv_dbox.proofs.writing.tail_of.Goals as goal

pub returns : goal.returns
returns c =
    let guid = c.args.guid.now in
    let received = c.args.received in
    let size = c.args.size in
    let as_sent = c.args.as_sent in
    let same = ap (λ text. tail_pieces text received size as_sent) (encoded_is guid c.fits-guid) ∙ tail_is guid received size as_sent in
    said_as string_bytes c.format.result (tail_pieces (encode_lower guid) received size as_sent) (trailer ++ metadata_text guid received size as_sent) same (rw (c.in_radix.ensures, c.in_radix-2.ensures, c.in_radix-3.ensures, c.in_ok-guid.ensures) at c.format.ensures.ok)
