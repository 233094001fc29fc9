use Rattle.std.proofs.Common.{◌∙◌, ◌+◌, length, take, sym, ap, subst, arith, ◌++◌, ℕ, List, append_assoc}
use Rattle.std.proofs.lemmas.List.{length-append}
use Rattle.dv_model.specs.Sessions.{value_of}
use Rattle.dv_responses.proofs.Items.{has_value, names_more}
use Rattle.dv_responses.specs.Asked.{field_names, names_in}
use Rattle.dv_responses.specs.Fetched.{HasValue}
use Rattle.dv_texts.proofs.Growing.{word_more}
use Rattle.dv_texts.proofs.items.put_items.Goals as goal

pub loop-item-preserved : goal.loop-item-preserved
loop-item-preserved c =
    let items = c.args.items.now in
    let i = c.loop-item.item-index in
    let x = c.item-item.result in
    let less = c.loop-item-test.true in
    let few = c.loop-item.invariant.few in
    let small = c.fields_in-field.ensures.small in
    record {
      grows = record {
        more = c.loop-item.invariant.grows.more ++ c.put_item.ensures.grows.more;
        is = c.put_item.ensures.grows.is ∙ ap (λ (t : List ℕ). t ++ c.put_item.ensures.grows.more) c.loop-item.invariant.grows.is
            ∙ append_assoc c.args.text.now c.loop-item.invariant.grows.more c.put_item.ensures.grows.more;
      };
      few = omega (arith, few, small);
      counted =
          ap (λ n. n + c.fields_in-field.result) c.loop-item.invariant.counted ∙ ap (λ n. length (field_names (take i items)) + n) c.fields_in-field.ensures.is
          ∙ sym (length-append (field_names (take i items)) (names_in x)) ∙ ap length (sym (names_more items i x less c.item-item.is));
      so_far = λ message are.
          let has : HasValue message c.args.facts.now c.loop-item.field x = subst (λ k. HasValue message c.args.facts.now k x) (sym c.loop-item.invariant.counted) (has_value items message c.args.facts.now are i x less c.item-item.is) in
          word_more (value_of c.args.live.now.mailbox c.args.s.now message) items i x _ _ _ less c.item-item.is (c.loop-item.invariant.so_far message are) (c.in_ok-put_item.ensures.ok message has);
    }
