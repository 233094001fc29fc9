use Rattle.std.proofs.Common.{◌∙◌, refl, length}
use Rattle.dv_model.specs.Spelling.{group_text}
use Rattle.dv_chain.specs.declared.chain.Chain.{Chain}
use Rattle.dv_plans.proofs.Readied.{due_of, room_left, seq_of}
use Rattle.dv_mdbox.proofs.Readied.{pending_for, ready_for, text_length}
use Rattle.dv_mdbox.proofs.readying.make_ready.Goals as goal

pub turn_at-requires-clause-room : goal.turn_at-requires-clause-room
turn_at-requires-clause-room g c = seq_of c.args.time c.args.owed.now c.args.chain.now c.requires.time

pub turn_at-requires-clause-named : goal.turn_at-requires-clause-named
turn_at-requires-clause-named g c = c.requires.owing.bounds.named

pub returns-in-Ok-clause-ready : goal.returns-in-Ok-clause-ready
returns-in-Ok-clause-ready g c =
    let old = c.args.chain.now in
    let chain : Chain = record old { live = c.prepare.new.live } in
    let owed = c.args.owed.now in
    let turn = c.in-Ok.turn in
    let group = c.args.group.now in
    let text = c.in_ok-text.text in
    let prepared = c.in_ok-prepared.prepared in
    let is = c.in_ok-text.ensures.text in
    let due = c.in-Ok.ensures.is.0 ∙ c.requires.time in
    let room = room_left owed turn chain (length (group_text group)) due c.requires.group.short c.requires.group.fits in
    record {
      made = record {
        due = due_of owed turn chain due c.in-Ok.ensures.is.1;
        room = c.requires.room;
        group = ready_for owed turn chain group text prepared c.requires.group.are.spelled c.requires.group.some is room c.in_ok-prepared.ensures.ok;
      };
      file = refl;
      pending = pending_for owed turn chain group text prepared c.requires.group.are.spelled c.requires.group.some is room;
      size = text_length group text is;
      due = due;
    }
