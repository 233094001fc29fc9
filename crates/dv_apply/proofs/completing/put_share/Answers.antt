use Rattle.std.proofs.Common.{◌≡◌, ◌↔◌, true, if◌then◌else◌, ◌-◌, refl, ap, sym, ◌∙◌, subst, arith}
use Rattle.dv_keywords.specs.Tables.{Keywords}
use Rattle.dv_model.specs.declared.types.Mailbox.{Mailbox}
use Rattle.std.specs.Prelude.{Contains}
use Rattle.dv_model.specs.Fresh.{IsTouched}
use Rattle.dv_model.specs.Mailboxes.{IsValid}
use Rattle.dv_apply.specs.Preparing.{Part, PutsShare, part_of}
use Rattle.dv_apply.specs.States.{Held, held_of}
use Rattle.dv_apply.proofs.Extending.{sizes_are, sizes_blank}
use Rattle.dv_apply.proofs.Replacing.{HasLeft, has_left, mailbox_is, parted_pass, rows_are}
use Rattle.dv_apply.proofs.completing.put_share.Goals as goal

pub put_part-requires-clause-parted : goal.put_part-requires-clause-parted
put_part-requires-clause-parted c = parted_pass (held_of c.args.state.now) (part_of c.args.made) c.requires.prepared.0 c.deref.result.now c.requires.prepared.1 c.deref.ensures.value

pub returns-clause-is : goal.returns-clause-is
returns-clause-is c = λ after makes.
    let live : Held = held_of c.args.state.now in
    let p : Part = part_of c.args.made in
    let rows : c.put_part.new.self.rows ≡ after.rows = rows_are live p after c.put_part.new.self.rows c.deref.result.now makes c.put_part.ensures.rows c.deref.ensures.value c.put_part.ensures.part c.put_part.ensures.others in
    mailbox_is live p after c.put_part.new.self.rows c.show.new.self.names makes rows (ap (λ (k : Keywords). k.names) c.show.ensures)

pub returns-clause-kept : goal.returns-clause-kept
returns-clause-kept c =
    let live : Held = held_of c.args.state.now in
    let p : Part = part_of c.args.made in
    let after : Mailbox = c.requires.prepared.0 in
    let makes : PutsShare live p after = c.requires.prepared.1 in
    let rows : c.put_part.new.self.rows ≡ after.rows = rows_are live p after c.put_part.new.self.rows c.deref.result.now makes c.put_part.ensures.rows c.deref.ensures.value c.put_part.ensures.part c.put_part.ensures.others in
    let is = mailbox_is live p after c.put_part.new.self.rows c.show.new.self.names makes rows (ap (λ (k : Keywords). k.names) c.show.ensures) in
    let kept = c.requires.kept.spare in
    let has : HasLeft c.args.made.share.extensions.extensions c.left-state.new.blanks.items c.left-state.result c.put_part.new.self.room =
    has_left c.have_sizes-same.result c.args.state.now.extensions.extensions c.args.made.share.extensions.extensions c.args.state.now.blanks.items c.left-state.new.blanks.items c.args.state.now.spare c.args.made.appended c.left-state.result c.put_part.new.self.room c.args.state.now.rows.room
    kept.blank kept.blanks kept.room (λ e. sizes_blank c.args.state.now.extensions.extensions c.args.made.share.extensions.extensions (sizes_are c.args.state.now.extensions.extensions c.args.made.share.extensions.extensions c.as_slice.result.now c.as_slice-2.result.now c.have_sizes-same.result true (c.as_slice.ensures ∙ c.list.ensures.list) (c.as_slice-2.ensures ∙ c.list-2.ensures.list) c.have_sizes-same.ensures e)) c.left-state.ensures.blanks c.left-state.ensures.spare (omega (arith, c.put_part.ensures.room, makes.appended)) in
    record { valid = subst IsValid (sym is) makes.valid; spare = record { blank = has.blank; blanks = has.blanks; room = has.room } }

pub returns-clause-touched : goal.returns-clause-touched
returns-clause-touched c = λ uid.
    let live : Held = held_of c.args.state.now in
    let p : Part = part_of c.args.made in
    let after : Mailbox = c.requires.prepared.0 in
    let makes : PutsShare live p after = c.requires.prepared.1 in
    let rows : c.put_part.new.self.rows ≡ after.rows = rows_are live p after c.put_part.new.self.rows c.deref.result.now makes c.put_part.ensures.rows c.deref.ensures.value c.put_part.ensures.part c.put_part.ensures.others in
    let is = mailbox_is live p after c.put_part.new.self.rows c.show.new.self.names makes rows (ap (λ (k : Keywords). k.names) c.show.ensures) in
    subst (λ (m : Mailbox). Contains c.args.made.touched uid ↔ IsTouched live.mailbox m uid) (sym is) (makes.touched uid)

pub returns-clause-spare : goal.returns-clause-spare
returns-clause-spare c =
    let old = c.args.state.now.extensions.extensions in
    let new = c.args.made.share.extensions.extensions in
    let test = sizes_are old new c.as_slice.result.now c.as_slice-2.result.now c.have_sizes-same.result c.have_sizes-same.result (c.as_slice.ensures ∙ c.list.ensures.list) (c.as_slice-2.ensures ∙ c.list-2.ensures.list) c.have_sizes-same.ensures refl in
    c.left-state.ensures.spare ∙ ap (λ b. if b then c.args.state.now.spare - c.args.made.appended else 0) (sym test)
