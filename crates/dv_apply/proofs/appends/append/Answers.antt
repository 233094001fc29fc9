use Rattle.std.proofs.Common.{◌≡◌, ℕ, ◌-◌, length, ap, sym, ◌∙◌, subst}
use Rattle.std.specs.Prelude.{fold}
use Rattle.dv_model.specs.declared.types.Body.TheVariants.{Append}
use Rattle.dv_model.specs.declared.types.Mailbox.{Mailbox}
use Rattle.dv_model.specs.Effects.{with_higher, with_row}
use Rattle.dv_apply.specs.States.{HasSpare, Kept, kept_of, mailbox_of}
use Rattle.dv_apply.proofs.Appending.{appended}
use Rattle.dv_apply.proofs.Becoming.{becomes}
use Rattle.dv_apply.proofs.appends.append.Goals as goal

pub returns-clause-ok : goal.returns-clause-ok
returns-clause-ok c =
    let old = c.args.state.now in
    let rows = c.args.rows.now in
    let n = length rows in
    let m : Mailbox = mailbox_of old in
    let ready = c.prepare.new.state in
    let raised = record ready { highest = c.higher-state.result } in
    let new = record c.add_all.new.state { spare = c.left-state.result } in
    let same : kept_of ready ≡ kept_of old = c.in_ok-prepare.ensures.is in
    let mailbox : mailbox_of ready ≡ m = ap (λ (k : Kept). k.mailbox) same in
    let high : c.higher-state.result ≡ (with_higher m).highest = c.higher-state.ensures ∙ ap (λ (k : Mailbox). (with_higher k).highest) mailbox in
    let begun : mailbox_of raised ≡ with_higher m = ap (λ (k : Mailbox). record k { highest = c.higher-state.result }) mailbox ∙ ap (λ (h : ℕ). record m { highest = h }) high in
    let added : fold with_row (with_higher m) rows ≡ mailbox_of new = ap (λ (k : Mailbox). fold with_row k rows) (sym begun) ∙ sym c.add_all.ensures.is in
    let spare : c.left-state.result ≡ old.spare - n = c.left-state.ensures ∙ ap (λ (k : ℕ). k - n) (c.add_all.ensures.same ∙ ap (λ (k : Kept). k.spare) same) in
    let kept = c.in_ok-prepare.ensures.kept.spare in
    let before : HasSpare ready.spare raised = record { blank = kept.blank; blanks = kept.blanks; room = kept.room } in
    let after : HasSpare (ready.spare - n) c.add_all.new.state = c.add_all.ensures.spare ready.spare before in
    let is : ready.spare - n ≡ c.left-state.result = ap (λ (k : ℕ). k - n) (sym c.add_all.ensures.same) ∙ sym c.left-state.ensures in
    let has : HasSpare c.left-state.result c.add_all.new.state = subst (λ (k : ℕ). HasSpare k c.add_all.new.state) is after in
    becomes old new (Append rows) (fold with_row (with_higher m) rows) c.requires.kept c.requires.below
    (appended m rows c.requires.kept.valid c.in_ok-test_rows.ensures.ok) added spare (record { blank = has.blank; blanks = has.blanks; room = has.room })
