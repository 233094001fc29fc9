use Rattle.std.specs.Prelude.{string_bytes}
use Rattle.std.proofs.Common.{◌++◌}
use Rattle.dv_dbox.specs.BoxTexts.{first_line_text, message_header_text}
use Rattle.dv_dbox.proofs.Wide.{head_is, head_pieces, said_as}
use Rattle.dv_dbox.proofs.writing.head_of.Goals as goal

pub returns : goal.returns
returns c =
    let stamp = c.args.stamp in
    let size = c.args.size in
    said_as string_bytes c.format.result (head_pieces stamp size) (first_line_text stamp ++ message_header_text size) (head_is stamp size) (rw (c.in_radix.ensures, c.in_radix-2.ensures, c.laid_out.ensures) at c.format.ensures.ok)
