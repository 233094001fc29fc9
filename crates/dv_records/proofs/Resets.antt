-- The two forms of a reset.
use Rattle.std.proofs.Common.{◌≡◌, ℕ, List, [], ◌∷◌, length, get_or, refl, sym, ◌∙◌, arith, inl, inr}
use Rattle.std.specs.Int.{w32, to_le_bytes}
use Rattle.std.proofs.lemmas.List.{take_all}
use Rattle.dv_model.specs.Spelling.{IsReset}
use Rattle.dv_records.specs.Fronts.{word_at}
use Rattle.dv_records.proofs.Loop.{IsBytes}
use Rattle.dv_records.proofs.Fronts.{word_is, byte_is, word_below, joined}

pub reset_of_four : (b : List ℕ) → IsBytes b → length b ≡ 4 → IsReset (word_at b 0) 0 b
reset_of_four b fits size = (word_below b 0 fits, inr (sym (take_all 4 b (omega arith)) ∙ word_is b 0 fits (omega arith), refl))

pub reset_of_eight : (b : List ℕ) → IsBytes b → length b ≡ 8
    → IsReset (word_at b 0) (get_or b 4 0) b
reset_of_eight b fits size =
    (word_below b 0 fits, inl (size, joined 4 1 b (to_le_bytes w32 (word_at b 0)) (get_or b 4 0 ∷ []) (word_is b 0 fits (omega arith)) (byte_is b 4 (omega arith))))
