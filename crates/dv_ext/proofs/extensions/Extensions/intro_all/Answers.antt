use Rattle.std.proofs.Common.{◌≡◌, true, false, ap, sym, ◌∙◌, fold, subst, take}
use Rattle.std.proofs.lemmas.List.{take_all}
use Rattle.std.proofs.lemmas.List.Sums.{fold_more}
use Rattle.dv_model.specs.declared.types.Mailbox.{Mailbox}
use Rattle.dv_model.specs.Effects.{with_intro}
use Rattle.dv_ext.specs.Changes.{HasTable}
use Rattle.dv_ext.specs.Tables.{with_table}
use Rattle.dv_ext.proofs.Sizing.{behind_of, keeps_table, parts_stay, same_sizes, table_next}
use Rattle.dv_ext.proofs.extensions.Extensions.intro_all.Goals.{in-Same, in_default}
use Rattle.dv_ext.proofs.extensions.Extensions.intro_all.Goals as goal

pub loop-intro-preserved : goal.loop-intro-preserved
loop-intro-preserved c =
    let t = c.loop-intro.self in
    let u = c.intro.new.self in
    let i = c.loop-intro.intro-index in
    let intros = c.args.intros.now in
    let intro = c.intro-item.result in
    let change = c.in_ok-intro.field-0 in
    record {
      has = λ m v.
          let start : Mailbox = with_table c.args.self.now m in
          let last = table_next t u (fold with_intro start (take i intros)) intro change (c.loop-intro.invariant.has m v) c.in_ok-intro.ensures.ok c.in_ok-intro.ensures.valid in
          subst (HasTable u) (ap (with_intro (fold with_intro start (take i intros))) c.intro-item.is ∙ sym (fold_more with_intro start intros i intro c.loop-intro-test.true)) last;
      sizes = λ e. (elim c.match-branch-2.branch [
        | in-Same w ↦ same_sizes t u change c.loop-intro.invariant.table c.in_ok-intro.ensures.valid w.in-Same.is ∙ c.loop-intro.invariant.sizes (sym w.stay-is ∙ e)
        | in_default w ↦ let never : false ≡ true = sym w.stay-is ∙ e in absurd cc
      ]);
      start = c.loop-intro.invariant.start;
      table = keeps_table t u change c.loop-intro.invariant.table c.in_ok-intro.ensures.valid;
    }

pub returns-clause-has : goal.returns-clause-has
returns-clause-has c = λ m v.
    subst (λ xs. HasTable c.loop-intro.self (fold with_intro (with_table c.args.self.now m) xs)) (take_all c.loop-intro.intro-index c.args.intros.now c.loop-intro-test.false) (c.loop-intro.invariant.has m v)

pub returns-clause-behind : goal.returns-clause-behind
returns-clause-behind c =
    behind_of c.args.self.now c.loop-intro.self c.args.intros.now c.loop-intro.invariant.start
    (λ m v. subst (λ xs. HasTable c.loop-intro.self (fold with_intro (with_table c.args.self.now m) xs)) (take_all c.loop-intro.intro-index c.args.intros.now c.loop-intro-test.false) (c.loop-intro.invariant.has m v))

pub returns-clause-parts : goal.returns-clause-parts
returns-clause-parts c = λ e. parts_stay c.args.self.now c.loop-intro.self c.args.intros.now (returns-clause-behind c) (c.loop-intro.invariant.sizes e)
