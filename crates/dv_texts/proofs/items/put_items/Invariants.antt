use Rattle.std.proofs.Common.{◌≡◌, ◌++◌, ℕ, ◌≤◌, List, length, map, take}
use Rattle.dv_model.specs.Sessions.{value_of}
use Rattle.dv_responses.specs.Asked.{field_names}
use Rattle.dv_responses.specs.Supplied.{DescribesItems}
use Rattle.dv_script.specs.Extending.{Extends}
use Rattle.dv_texts.proofs.Growing.{words}
use Rattle.dv_texts.proofs.items.put_items.Given as goal

abbrev pub invariant-loop-item : goal.invariant-loop-item
invariant-loop-item l = record {
  grows : Extends l.initial.text l.text;
  few : l.field ≤ l.item-index;
  counted : l.field ≡ length (field_names (take l.item-index l.items));
  so_far : (message : List ℕ) → DescribesItems l.items message l.facts → l.text ≡ l.initial.text ++ words (map (value_of l.live.mailbox l.s message) (take l.item-index l.items));
}
