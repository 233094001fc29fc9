use Rattle.std.proofs.Common.{◌≡◌, ◌∙◌, ap, sym, subst, rules}
use Rattle.std.specs.Int.{w32, to_le_bytes}
use Rattle.std.specs.List.{flat_map}
use Rattle.std.proofs.lemmas.List.{take_all}
use Rattle.dv_feed.specs.Publishing.{IsGroupText}
use Rattle.dv_feed.proofs.Grouping.{is_text, text_again}
use Rattle.dv_feed.proofs.groups.group_of.Goals as goal

pub group_in-requires : goal.group_in-requires
group_in-requires c =
    let text : c.deref.result.now ≡ flat_map (to_le_bytes w32) c.args.words.now = c.deref.ensures.value ∙ c.loop-word.invariant ∙ ap (λ ws. flat_map (to_le_bytes w32) ws) (take_all c.loop-word.word-index c.args.words.now (search rules)) in
    subst IsGroupText (sym text) (is_text c.args.words.now c.requires)

pub returns : goal.returns
returns c =
    let text : c.deref.result.now ≡ flat_map (to_le_bytes w32) c.args.words.now = c.deref.ensures.value ∙ c.loop-word.invariant ∙ ap (λ ws. flat_map (to_le_bytes w32) ws) (take_all c.loop-word.word-index c.args.words.now (search rules)) in
    λ g all bytes is. c.group_in.ensures g all (text_again g c.args.words.now all bytes is ∙ sym text)
