-- Notes one behind another, and their words.
use Rattle.std.proofs.Common.{◌≡◌, true, List, [], ◌∷◌, ◌++◌, flat_map, sym, ap, ◌∙◌}
use Rattle.std.specs.Prelude.{All}
use Rattle.std.proofs.lemmas.List.{map-append}
use Rattle.std.proofs.lemmas.List.Concat.{flat_map-append}
use Rattle.std.proofs.lemmas.List.Elements.{All-cons, All-nil}
use mathlib.Core.List.{IsPrefix}
use Rattle.dv_model.specs.declared.types.Mailbox.{Mailbox}
use Rattle.dv_model.specs.declared.types.Mark.{Mark}
use Rattle.dv_model.specs.Journals.{IsEntry, mark_behind}
use Rattle.dv_formats.specs.Feeds.{entry_words}
use Rattle.dv_front.specs.declared.notes.Note.{Note}
use Rattle.dv_front.specs.Notes.{AreNotes, entries_of, text_of}

-- what comes first has its words first
pub text_append : (xs ys : List Note) → text_of (xs ++ ys) ≡ text_of xs ++ text_of ys
text_append xs ys = ap (flat_map entry_words) (map-append (λ (n : Note). n.entry) xs ys) ∙ flat_map-append entry_words (entries_of xs) (entries_of ys)

pub text_prefix : (xs ys : List Note) → IsPrefix xs ys → IsPrefix (text_of xs) (text_of ys)
text_prefix xs ys p = (text_of p.0, sym (text_append xs p.0) ∙ ap text_of p.1)

-- good notes have entries
pub are_entries : (m : Mailbox) (mark : Mark) (notes : List Note) → AreNotes m mark notes → All IsEntry (entries_of notes)
are_entries m mark [] good = All-nil IsEntry
are_entries m mark (n ∷ notes) good = All-cons IsEntry n.entry (entries_of notes) good.0 (are_entries good.2.0 (mark_behind true mark n.entry.group) notes good.2.3)
