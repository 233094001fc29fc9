-- The line of a FETCH is its parts, one behind another.
use Rattle.std.proofs.Common.{◌≡◌, ◌∙◌, ℕ, List, [], ◌∷◌, ◌++◌, ap, append_assoc}
use Rattle.std.specs.Prelude.{codes, decimal, flat_map}
use Rattle.dv_model.specs.declared.types.Reply.TheVariants as reply
use Rattle.dv_model.specs.declared.types.Value.{Value}
use Rattle.dv_model.specs.Texts.{line_text, reply_text, value_text}
use Rattle.dv_script.specs.Fetches.{fetch_end, fetch_front, numbered}
use Rattle.dv_script.proofs.SpacedLemmas.{spaced-map}

inside : (a f u n b e : List ℕ) → a ++ f ++ (u ++ n ++ b) ++ e ≡ a ++ (f ++ u) ++ n ++ b ++ e
inside a f u n b e = simp append_assoc

around : (s g m b e l : List ℕ) → s ++ (g ++ (m ++ b ++ e)) ++ l ≡ s ++ g ++ m ++ b ++ (e ++ l)
around s g m b e l = simp append_assoc

module _ (number uid : ℕ) (values : List Value) where
  abbrev behind : List ℕ
  behind = flat_map (λ v. 32 ∷ value_text v) values

  -- without the session and the line feed
  pub fetch_in_parts : reply_text (reply.Fetch number uid values) ≡ numbered number uid ++ behind ++ codes ")"
  fetch_in_parts =
      let front = codes "* " ++ decimal number in
      ap (λ (t : List ℕ). front ++ codes " FETCH (" ++ t ++ codes ")") (spaced-map value_text (codes "UID " ++ decimal uid) values)
      ∙ inside front (codes " FETCH (") (codes "UID ") (decimal uid) behind (codes ")")

  pub line_in_parts : (session : List ℕ) → line_text session (reply.Fetch number uid values) ≡ fetch_front session number uid ++ behind ++ fetch_end
  line_in_parts session =
      ap (λ (t : List ℕ). session ++ 32 ∷ t ++ 10 ∷ []) fetch_in_parts ∙ around session (codes " ") (numbered number uid) behind (codes ")") (codes "\n")
