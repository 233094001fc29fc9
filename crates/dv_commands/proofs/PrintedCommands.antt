-- What is printed of a command is read back.
use Rattle.std.proofs.Common.{ℕ, List, [], ◌∷◌, ◌++◌, map, Option, Some, None, codes, refl, sym, ◌∙◌, append_assoc}
use Rattle.std.specs.List.{AllZip}
use Rattle.dv_model.specs.declared.types.Command.{Command}
use Rattle.dv_model.specs.declared.types.Command.TheVariants as command
use Rattle.dv_model.specs.declared.types.Item.{Item}
use Rattle.dv_model.specs.declared.types.Item.TheVariants as item
use Rattle.dv_model.specs.Texts.{spaced}
use Rattle.dv_formats.specs.Printing.{command_text, flags_text, item_text, modifier_text, set_text, sought_text}
use Rattle.dv_formats.specs.Scripts.{IsCommand, IsItem, IsModifier, uid_text}
use Rattle.dv_sets.proofs.Reread.{printed_set}
use Rattle.dv_sets.proofs.PrintedFlags.{flags_printed}
use Rattle.dv_commands.proofs.PrintedKeys.{sought_printed}

item_printed : (one : Item) (b : List ℕ) → IsItem one b → IsItem one (item_text one)
item_printed item.Flags b is = refl
item_printed item.Size b is = refl
item_printed item.Body b is = refl
item_printed (item.Field name) b is = (is.0, refl)
item_printed item.Modseq b is = refl

items_printed : (items : List Item) (words : List (List ℕ)) → AllZip IsItem items words → AllZip IsItem items (map item_text items)
items_printed [] [] all = tt
items_printed [] (w ∷ ws) all = absurd all
items_printed (x ∷ xs) [] all = absurd all
items_printed (x ∷ xs) (w ∷ ws) all = (item_printed x w all.0, items_printed xs ws all.1)

modifier_printed : (since : Option ℕ) (b : List ℕ) → IsModifier since b → IsModifier since (modifier_text since)
modifier_printed None b is = refl
modifier_printed (Some n) b is = (is.0, refl)

-- a command's text is one of the grammar, where it has one
pub command_printed : (c : Command) (b : List ℕ) → IsCommand c b → IsCommand c (command_text c)
command_printed command.Select b is = refl
command_printed command.Noop b is = refl
command_printed command.Check b is = refl
command_printed command.Expunge b is = refl
command_printed (command.Append flags keywords message) b is = absurd is
command_printed (command.Fetch by_uid set items) b is =
    let front = uid_text by_uid ++ codes "FETCH " ++ set_text set in
    let words = spaced (map item_text items) in
    record {
      set_text = set_text set;
      items_text = codes "(" ++ words ++ codes ")";
      named = printed_set set is.set_text is.named;
      asked = record { some = is.asked.some; words = map item_text items; each = items_printed items is.asked.words is.asked.each; text = refl };
      text = append_assoc (front ++ codes " (") words (codes ")") ∙ append_assoc front (codes " (") (words ++ codes ")") ∙ sym (append_assoc front (codes " ") (codes "(" ++ words ++ codes ")"));
    }
command_printed (command.Store by_uid set how flags keywords since) b is = record {
  set_text = set_text set;
  modifier = modifier_text since;
  flags_text = flags_text flags keywords;
  named = printed_set set is.set_text is.named;
  unchanged = modifier_printed since is.modifier is.unchanged;
  stored = flags_printed flags keywords is.flags_text is.stored;
  text = refl;
}
command_printed (command.Search by_uid k) b is = (sought_text k, sought_printed k is.0 is.1, refl)
command_printed (command.UidRemove set) b is = (set_text set, printed_set set is.0 is.1, refl)
