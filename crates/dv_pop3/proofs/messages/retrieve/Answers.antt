use Rattle.std.proofs.Common.{◌∙◌, inl}
use Rattle.std.proofs.lemmas.Result.{err_from_is_err_and}
use Rattle.dv_shared.specs.Kept.{notes_in}
use Rattle.dv_pop3.proofs.Keeping.{reader_fresh, reader_held}
use Rattle.dv_pop3.proofs.Retrieved.{found_answered, found_left, taken_says}
use Rattle.dv_pop3.proofs.messages.retrieve.Goals as goal

pub returns-in_err-mail-clause-left : goal.returns-in_err-mail-clause-left
returns-in_err-mail-clause-left g c h given =
    let p = err_from_is_err_and c.from_residual-in_err-mail.result c.from_residual-in_err-mail.ensures.1 in
    let read = c.in_err-mail.ensures.read in
    rw p.1 (inl (reader_held (notes_in read.0) read.1 c.args.s.now c.mail.new.s c.in_err-mail.field-0 read.3))

pub returns-clause-found : goal.returns-clause-found
returns-clause-found g c h given =
    let k = g.K.Keeping in
    let old = c.args.s.now in
    let new = c.mail.new.s in
    let read = c.mail.ensures.read in
    let fresh = reader_fresh (notes_in read.0) read.1 old new c.mail.result read.3 ∙ c.requires.fresh in
    let says = taken_says k.start k.count c.args.row old new c.number.ensures.session c.number-2.ensures.session c.requires.fresh fresh c.mail.ensures.begins given c.in_ok-command.command c.in_ok-command.ensures c.new-replies.result c.mail.new.replies c.new-replies.ensures c.in_ok-mail.field-0 (c.in_ok-mail.ensures.turn h) in
    found_answered k.start k.count c.args.row c.mail.new.replies.text old new says c.answer_by.result c.answer_by.ensures.none c.answer_by.ensures.some

pub returns-clause-left : goal.returns-clause-left
returns-clause-left g c h given =
    let k = g.K.Keeping in
    let old = c.args.s.now in
    let new = c.mail.new.s in
    let read = c.mail.ensures.read in
    let fresh = reader_fresh (notes_in read.0) read.1 old new c.mail.result read.3 ∙ c.requires.fresh in
    let says = taken_says k.start k.count c.args.row old new c.number.ensures.session c.number-2.ensures.session c.requires.fresh fresh c.mail.ensures.begins given c.in_ok-command.command c.in_ok-command.ensures c.new-replies.result c.mail.new.replies c.new-replies.ensures c.in_ok-mail.field-0 (c.in_ok-mail.ensures.turn h) in
    found_left k.start k.count c.args.row c.mail.new.replies.text old new says c.answer_by.result

pub returns-clause-later : goal.returns-clause-later
returns-clause-later g c h given =
    let k = g.K.Keeping in
    let old = c.args.s.now in
    let new = c.mail.new.s in
    let read = c.mail.ensures.read in
    let fresh = reader_fresh (notes_in read.0) read.1 old new c.mail.result read.3 ∙ c.requires.fresh in
    let says = taken_says k.start k.count c.args.row old new c.number.ensures.session c.number-2.ensures.session c.requires.fresh fresh c.mail.ensures.begins given c.in_ok-command.command c.in_ok-command.ensures c.new-replies.result c.mail.new.replies c.new-replies.ensures c.in_ok-mail.field-0 (c.in_ok-mail.ensures.turn h) in
    says.later
