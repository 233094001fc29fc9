-- What is written of a client's answers.
use Rattle.std.specs.Prelude.{◌≡◌, ℕ, List, flat_map}
use Rattle.dv_shelf.specs.Streams.{Appends, AppendsFront}
use Rattle.dv_catching.specs.declared.catching.CatchEnd.{CatchEnd}
use Rattle.dv_catching.specs.declared.catching.CatchEnd.TheVariants as end

-- pieces of a text, one behind another
abbrev pub joined : List (List ℕ) → List ℕ
joined pieces = flat_map (λ piece. piece) pieces

-- the text where it was answered, a front of it where the output failed, and else nothing
abbrev pub WritesText : CatchEnd → List ℕ → List ℕ → List ℕ → Type 0
WritesText (end.Answered mark) text old new = Appends old new text
WritesText end.Sink text old new = AppendsFront old new text
WritesText e text old new = new ≡ old
