use Rattle.std.proofs.Common.{◌≡◌, ℕ, None, Some, fold, refl, ap, sym, ◌∙◌, subst, arith}
use Rattle.std.specs.Prelude.{All}
use Rattle.dv_model.specs.declared.types.Body.TheVariants.{ExtRecordUpdate}
use Rattle.dv_model.specs.declared.types.Current.{Current}
use Rattle.dv_model.specs.declared.types.Mailbox.{Mailbox}
use Rattle.dv_model.specs.Effects.{on_current, with_higher, with_update, with_updates}
use Rattle.dv_ext.specs.Updates.{rows_updated}
use Rattle.dv_apply.specs.Alike.{IsWide}
use Rattle.dv_apply.specs.States.{mailbox_of}
use Rattle.dv_apply.proofs.Becoming.{no_current, parts_become, rows_become, some_current, updates_size}
use Rattle.dv_apply.proofs.Extending.{alike_itself, current_wide}
use Rattle.dv_apply.proofs.extensions.update_rows.Goals as goal

pub returns-in_default : goal.returns-in_default
returns-in_default c =
    let s = c.args.state.now in
    let m : Mailbox = mailbox_of s in
    let h : Mailbox = with_higher m in
    let bytes = c.args.bytes.now in
    let none : m.current ≡ None = sym c.current.ensures ∙ c.in_default.is in
    rows_become s (ExtRecordUpdate bytes) s.rows.rows s.rows c.higher-state.result c.requires tt
    (parts_become m (ExtRecordUpdate bytes) (on_current h (with_updates bytes h)) m.rows refl (no_current h (with_updates bytes h) none) (alike_itself m.rows))
    refl c.higher-state.ensures refl (omega arith)

pub returns-in_default-new : goal.returns-in_default-new
returns-in_default-new c =
    let s = c.args.state.now in
    let m : Mailbox = mailbox_of s in
    let h : Mailbox = with_higher m in
    let bytes = c.args.bytes.now in
    let current : Current = c.in-Some.current in
    let some : m.current ≡ Some current = sym c.current.ensures ∙ c.in-Some.is in
    let made = some_current h (with_updates bytes h) current some ∙ c.new.ensures.effect h current refl ∙ ap (λ o. rows_updated o current h) c.in_default-new.is in
    rows_become s (ExtRecordUpdate bytes) s.rows.rows s.rows c.higher-state.result c.requires tt
    (parts_become m (ExtRecordUpdate bytes) (on_current h (with_updates bytes h)) m.rows refl made (alike_itself m.rows))
    refl c.higher-state.ensures refl (omega arith)

pub write_parts-requires : goal.write_parts-requires
write_parts-requires c =
    let m : Mailbox = mailbox_of c.args.state.now in
    let current : Current = c.in-Some.current in
    let some : m.current ≡ Some current = sym c.current.ensures ∙ c.in-Some.is in
    let size : c.in-Some-new.updates.size ≡ current.size = updates_size current.size c.args.bytes.now c.in-Some-new.updates (sym c.new.ensures.rows ∙ c.in-Some-new.is) in
    subst (λ (n : ℕ). All (IsWide current.extension n) m.rows) (sym size) (current_wide m current some c.requires.valid)

pub returns : goal.returns
returns c =
    let s = c.args.state.now in
    let m : Mailbox = mailbox_of s in
    let h : Mailbox = with_higher m in
    let bytes = c.args.bytes.now in
    let current : Current = c.in-Some.current in
    let updates = c.in-Some-new.updates in
    let some : m.current ≡ Some current = sym c.current.ensures ∙ c.in-Some.is in
    let size : updates.size ≡ current.size = updates_size current.size bytes updates (sym c.new.ensures.rows ∙ c.in-Some-new.is) in
    let made =
    some_current h (with_updates bytes h) current some
    ∙ c.new.ensures.effect h current refl
    ∙ ap (λ o. rows_updated o current h) c.in-Some-new.is
    ∙ ap (λ (n : ℕ). fold (with_update (record { extension = current.extension; size = n })) h updates.rows) (sym size)
    ∙ c.write_parts.ensures.is h refl in
    rows_become s (ExtRecordUpdate bytes) c.write_parts.new.rows.rows c.write_parts.new.rows c.higher-state.result c.requires tt
    (parts_become m (ExtRecordUpdate bytes) (on_current h (with_updates bytes h)) c.write_parts.new.rows.rows refl made c.write_parts.ensures.alike)
    refl c.higher-state.ensures refl (omega (arith, c.write_parts.ensures.room))
