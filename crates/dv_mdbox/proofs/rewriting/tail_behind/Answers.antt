use Rattle.std.proofs.Common.{◌∙◌, sym, arith}
use Rattle.std.proofs.lemmas.Bool.{MatchBool-at_true, eqb-true}
use Rattle.std.proofs.lemmas.Bool.Decides.{nat_tests}
use Rattle.dv_maps.specs.Laws.{IsMap}
use Rattle.dv_mdbox.proofs.Ended.{short_texts, tail_moved, tail_spared}
use Rattle.dv_mdbox.proofs.rewriting.tail_behind.Goals as goal

pub size_of_texts-requires : goal.size_of_texts-requires
size_of_texts-requires c = short_texts c.rewrites_are.ensures c.args.live.now.mailbox c.is_valid.ensures c.args.file c.args.new c.is_number.ensures c.args.rows.now c.requires.rows.0 c.requires.rows.1 c.as_slice-kept.result.now c.as_slice-kept.ensures.value

pub returns-then-is_empty : goal.returns-then-is_empty
returns-then-is_empty c =
    tail_spared c.rewrites_are.ensures c.args.live.now.mailbox c.is_valid.ensures c.args.file c.args.new c.is_number.ensures c.args.rows.now c.requires.rows.0 c.requires.rows.1 c.as_slice-kept.result.now c.as_slice-kept.ensures.value (eqb-true _ _ (sym c.is_empty.ensures ∙ c.if-is_empty.true)) c.args.known c.other_tail.result c.requires.known
    c.other_tail.ensures

pub returns : goal.returns
returns c =
    tail_moved c.rewrites_are.ensures c.args.live.now.mailbox c.is_valid.ensures c.args.file c.args.new c.is_number.ensures c.args.rows.now c.requires.rows.0 c.requires.rows.1 c.as_slice-kept.result.now c.as_slice-kept.ensures.value (grind (arith, nat_tests, c.is_empty.ensures, c.if-is_empty.false))
    (MatchBool-at_true (IsMap c.args.live.now.mailbox) (IsMap c.args.live.now.mailbox → ⊥) c.if-not-has_map.false c.has_map.ensures) c.size_of_texts.result c.size_of_texts.ensures
