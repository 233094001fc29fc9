use Rattle.std.proofs.Common.{◌≡◌, ℕ, List, Some, true, false, fold, map, ap, refl, sym, ◌∙◌, subst, arith, if◌then◌else◌}
use Rattle.std.specs.Prelude.{All}
use Rattle.std.proofs.lemmas.List.Elements.{All-nil}
use Rattle.dv_model.specs.declared.types.Body.TheVariants.{ExtIntro}
use Rattle.dv_model.specs.declared.types.Extension.{Extension}
use Rattle.dv_model.specs.declared.types.Mailbox.{Mailbox}
use Rattle.dv_model.specs.declared.types.Row.{Row}
use Rattle.dv_model.specs.Effects.{stamped, with_higher, with_intro, with_row_parts}
use Rattle.dv_model.specs.Mailboxes.{IsValid}
use Rattle.dv_ext.specs.Changes.{HasTable}
use Rattle.dv_ext.specs.Sizes.{fitted, have_sizes, leave_parts, sizes_of}
use Rattle.dv_ext.specs.Tables.{Table, with_table}
use Rattle.dv_validity.proofs.Stamps.{higher_valid}
use Rattle.dv_apply.specs.Alike.{IsAlike}
use Rattle.dv_apply.specs.States.{blank_parts, mailbox_of}
use Rattle.dv_apply.proofs.Becoming.{becomes, table_becomes}
use Rattle.dv_apply.proofs.Extending.{alike_itself, alike_parts, fitted_rows, introduced_all, parts_told, rows_left, sizes_are, sizes_blank, stamped_like}
use Rattle.dv_apply.proofs.extensions.introduce_new.Goals as goal

pub returns-then-have_sizes-clause-ok : goal.returns-then-have_sizes-clause-ok
returns-then-have_sizes-clause-ok c =
    let s = c.args.state.now in
    let m : Mailbox = mailbox_of s in
    let h : Mailbox = with_higher m in
    let intros = c.args.intros.now in
    let after : Table = c.intro_all.new.self in
    let valid : IsValid h = higher_valid m c.requires.valid in
    let has : HasTable after (fold with_intro h intros) =
    subst (λ (t : Table). IsValid (with_table t h) → HasTable after (fold with_intro (with_table t h) intros)) c.in_ok-extensions.ensures (c.in_ok-intro_all.ensures.has h) valid in
    let yes : have_sizes m.extensions after.extensions ≡ true =
    sizes_are m.extensions after.extensions c.as_slice.result.now c.as_slice-list.result.now c.have_sizes.result true (c.as_slice.ensures ∙ c.list-2.ensures.list) (c.as_slice-list.ensures ∙ c.list.ensures.list) c.have_sizes.ensures c.if-have_sizes.true in
    let stay : leave_parts m.extensions intros ≡ true = parts_told s.extensions c.in_ok-extensions.extensions after intros c.in_ok-extensions.ensures c.in_ok-intro_all.ensures.behind ∙ yes in
    let is = introduced_all h after intros m.rows has (rows_left h after intros valid has yes) in
    table_becomes s (ExtIntro intros) after s.rows c.higher-state.result (fold with_intro h intros) c.requires tt refl is
    (alike_itself m.rows) (ap (λ (x : Mailbox). blank_parts x.extensions) is ∙ sizes_blank m.extensions after.extensions yes) c.higher-state.ensures (ap (λ b. if b then s.spare else 0) stay) (omega arith)

pub returns-clause-ok : goal.returns-clause-ok
returns-clause-ok c =
    let s = c.args.state.now in
    let m : Mailbox = mailbox_of s in
    let h : Mailbox = with_higher m in
    let intros = c.args.intros.now in
    let after : Table = c.intro_all.new.self in
    let rows : List Row = c.fit_parts.new.self.rows in
    let valid : IsValid h = higher_valid m c.requires.valid in
    let has : HasTable after (fold with_intro h intros) =
    subst (λ (t : Table). IsValid (with_table t h) → HasTable after (fold with_intro (with_table t h) intros)) c.in_ok-extensions.ensures (c.in_ok-intro_all.ensures.has h) valid in
    let no : have_sizes m.extensions after.extensions ≡ false =
    sizes_are m.extensions after.extensions c.as_slice.result.now c.as_slice-list.result.now c.have_sizes.result false (c.as_slice.ensures ∙ c.list-2.ensures.list) (c.as_slice-list.ensures ∙ c.list.ensures.list) c.have_sizes.ensures c.if-have_sizes.false in
    let other : leave_parts m.extensions intros ≡ false = parts_told s.extensions c.in_ok-extensions.extensions after intros c.in_ok-extensions.ensures c.in_ok-intro_all.ensures.behind ∙ no in
    let fitted_is : rows ≡ map (with_row_parts (fitted (sizes_of after.extensions))) h.rows =
    c.in_ok-fit_parts.ensures.ok ∙ ap (λ (es : List Extension). map (with_row_parts (fitted (sizes_of es))) h.rows) (c.as_slice-list.ensures ∙ c.list.ensures.list) in
    let n : Mailbox = with_table after (record h { rows = rows }) in
    let made : fold with_intro h intros ≡ n = introduced_all h after intros rows has (fitted_rows h after intros rows valid has fitted_is) in
    let alike : IsAlike m.rows rows = alike_parts m.rows rows (fitted (sizes_of after.extensions)) fitted_is in
    becomes s (record s { rows = c.fit_parts.new.self; extensions = after; highest = c.higher-state-2.result; blanks = c.clear.new.self; spare = 0 }) (ExtIntro intros) n c.requires tt
    (ap (λ (x : Mailbox). Some (stamped m.rows x)) made ∙ ap Some (stamped_like m n alike))
    (ap (λ (top : ℕ). with_table after (record m { rows = rows; highest = top })) (sym c.higher-state-2.ensures))
    (sym (ap (λ b. if b then s.spare else 0) other))
    (record {
      blank = subst (All (λ parts. parts ≡ blank_parts after.extensions)) (sym c.clear.ensures.items) (All-nil (λ (parts : List (List ℕ)). parts ≡ blank_parts after.extensions));
      blanks = omega arith;
      room = omega arith;
    })
