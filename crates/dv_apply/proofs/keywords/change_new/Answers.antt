use Rattle.std.proofs.Common.{◌≡◌, ℕ, List, refl, ap, sym, ◌∙◌, arith}
use Rattle.std.specs.Prelude.{map}
use Rattle.dv_model.specs.declared.types.Body.TheVariants.{KeywordUpdate}
use Rattle.dv_model.specs.declared.types.Mailbox.{Mailbox}
use Rattle.dv_model.specs.declared.types.Row.{Row}
use Rattle.dv_model.specs.Effects.{keywords_after, with_higher, with_name}
use Rattle.dv_rows.specs.Changed.{changed_keywords}
use Rattle.dv_validity.specs.Laws.{restamped}
use Rattle.dv_apply.specs.States.{mailbox_of}
use Rattle.dv_apply.proofs.Becoming.{becomes}
use Rattle.dv_apply.proofs.Changing.{new_changed}
use Rattle.dv_apply.proofs.Naming.{names_hidden}
use Rattle.dv_apply.proofs.keywords.change_new.Goals as goal

pub returns-clause-ok : goal.returns-clause-ok
returns-clause-ok c =
    let s = c.args.state.now in
    let m : Mailbox = mailbox_of s in
    let n = c.higher-modseq.result in
    let names = c.add.new.self.names in
    let pairs = c.args.pairs.now in
    let rows : List Row = map (λ (row : Row). restamped n row (changed_keywords pairs (keywords_after c.args.how c.in_ok-place.place) row)) m.rows in
    let named : names ≡ with_name c.args.name.now m.keywords = c.in_ok-place.ensures.ok.0 in
    let kept = c.requires.kept.spare in
    becomes s (record s { rows = c.change_keywords.new.rows; names = c.add.new.self; highest = n }) (KeywordUpdate c.args.how c.args.name.now pairs) (record (with_higher m) { keywords = names; rows = rows }) c.requires.kept c.requires.name
    (new_changed m c.args.how c.args.name.now pairs names c.in_ok-place.place n c.requires.kept.valid c.requires.added named c.in_ok-place.ensures.ok.1 c.higher-modseq.ensures)
    (ap (λ (rs : List Row). record (with_higher m) { keywords = names; rows = rs }) (sym c.in-Ok.ensures.ok) ∙ ap (λ (h : ℕ). record m { keywords = names; rows = c.change_keywords.new.rows.rows; highest = h }) (sym c.higher-modseq.ensures))
    refl (record { blank = kept.blank; blanks = kept.blanks; room = omega (arith, kept.room, c.change_keywords.ensures.room) })

pub returns-in-Err-clause-err : goal.returns-in-Err-clause-err
returns-in-Err-clause-err c = (names_hidden c.args.state.now c.change_keywords.new.rows c.add.new.self c.hide.new.self c.args.name.now c.count-count.result c.requires.kept c.in-Err.ensures.err c.count-count.ensures.is c.in_ok-place.ensures.ok.0 c.hide.ensures).0

pub returns-in-Err-clause-kept : goal.returns-in-Err-clause-kept
returns-in-Err-clause-kept c = (names_hidden c.args.state.now c.change_keywords.new.rows c.add.new.self c.hide.new.self c.args.name.now c.count-count.result c.requires.kept c.in-Err.ensures.err c.count-count.ensures.is c.in_ok-place.ensures.ok.0 c.hide.ensures).1
