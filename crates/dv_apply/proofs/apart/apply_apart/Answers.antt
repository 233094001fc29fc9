use Rattle.std.proofs.Common.{◌≡◌, ℕ, ◌+◌, ◌-◌, List, length, length-append, Some, ap, sym, ◌∙◌, subst, arith}
use Rattle.std.specs.Prelude.{All}
use Rattle.std.proofs.lemmas.List.Elements.{All-nil}
use Rattle.dv_model.specs.declared.types.Mailbox.{Mailbox}
use Rattle.dv_model.specs.Effects.{applied}
use Rattle.dv_apply.proofs.Lending.{apart_is, apart_valid, bad_by, names_split, still_kept}
use Rattle.dv_apply.specs.Preparing.{IsRefused}
use Rattle.dv_apply.specs.declared.share.Share.{Share}
use Rattle.dv_apply.specs.States.{blank_parts, mailbox_of}
use Rattle.dv_apply.proofs.apart.apply_apart.Goals as goal

pub apply_each-done-requires-clause-kept : goal.apply_each-done-requires-clause-kept
apply_each-done-requires-clause-kept c = record {
  valid = apart_valid c.args.state.now c.args.uids.now c.in_ok-rows.rows c.replace.result c.in_ok-extensions.extensions c.requires.kept c.in_ok-rows.ensures c.replace.ensures.value c.in_ok-extensions.ensures;
  spare = record {
    blank = subst (All (λ (parts : List (List ℕ)). parts ≡ blank_parts c.in_ok-extensions.extensions.extensions)) (sym c.new.ensures.items) (All-nil (λ (parts : List (List ℕ)). parts ≡ blank_parts c.in_ok-extensions.extensions.extensions));
    blanks = omega arith;
    room = omega arith;
  };
}

pub returns-in-Ok-clause-kept : goal.returns-in-Ok-clause-kept
returns-in-Ok-clause-kept c =
    still_kept c.args.state.now c.apply_each-done.new.state.names c.hide.new.self c.replace.result c.count-count.result c.requires.kept c.replace.ensures.value c.apply_each-done.ensures.names c.count-count.ensures.is c.hide.ensures

pub returns-clause-kept : goal.returns-clause-kept
returns-clause-kept c =
    still_kept c.args.state.now c.apply_each-done.new.state.names c.hide.new.self c.replace.result c.count-count.result c.requires.kept c.replace.ensures.value c.apply_each-done.ensures.names c.count-count.ensures.is c.hide.ensures

pub returns-in-Ok-clause-ok : goal.returns-in-Ok-clause-ok
returns-in-Ok-clause-ok c =
    let s = c.args.state.now in
    let from = apart_is s c.args.uids.now c.in_ok-rows.rows c.replace.result c.in_ok-extensions.extensions c.requires.kept c.in_ok-rows.ensures c.replace.ensures.value c.in_ok-extensions.ensures in
    let grown = c.apply_each-done.new.state.names in
    let more = c.apply_each-done.ensures.names in
    let first : c.replace.result.names ≡ s.names.names = ap (λ k. k.names) c.replace.ensures.value in
    let long : length grown.names ≡ length c.replace.result.names + length more.0 = ap length more.1 ∙ length-append c.replace.result.names more.0 in
    let same : length c.replace.result.names ≡ length s.names.names = ap length first in
    ap (λ (m : Mailbox). applied m c.args.records.now) (sym from) ∙ c.in-Ok.ensures.ok
    ∙ ap (λ (ns : List (List ℕ)). Some (record (mailbox_of c.apply_each-done.new.state) { keywords = ns }))
    (sym (names_split grown c.hide.new.self c.count-count.result (c.count.result - c.count-count.result) (omega (arith, c.count-count.ensures.is)) (ap (λ (n : ℕ). n - c.count-count.result) c.count.ensures.is) c.hide.ensures))

pub returns-clause-bad : goal.returns-clause-bad
returns-clause-bad c =
    let from = apart_is c.args.state.now c.args.uids.now c.in_ok-rows.rows c.replace.result c.in_ok-extensions.extensions c.requires.kept c.in_ok-rows.ensures c.replace.ensures.value c.in_ok-extensions.ensures in
    bad_by Share c.apply_each-done.result c.in-Err.e _ _ c.in-Err.is c.apply_each-done.ensures.bad (λ x. subst (λ (m : Mailbox). IsRefused m c.args.records.now x) from)
