-- A line that grows by its parts.
use Rattle.std.proofs.Common.{◌≡◌, ◌∙◌, ℕ, ◌+◌, ◌<◌, List, [], ◌∷◌, ◌++◌, ap, sym, get_or, length, map, take}
use Rattle.std.specs.Prelude.{flat_map}
use Rattle.std.proofs.lemmas.Grind.{flat_map-append}
use Rattle.std.proofs.lemmas.List.{append-nil}
use Rattle.dv_model.specs.declared.types.Reply.TheVariants as reply
use Rattle.dv_model.specs.declared.types.Value.{Value}
use Rattle.dv_model.specs.Texts.{line_text, value_text}
use Rattle.dv_responses.proofs.Items.{values_more}
use Rattle.dv_script.proofs.FetchLines.{line_in_parts}
use Rattle.dv_script.proofs.SpacedLemmas.{pieces}
use Rattle.dv_script.specs.Fetches.{fetch_end, fetch_front}

-- values as text
abbrev pub words : List Value → List ℕ
words values = flat_map (λ v. 32 ∷ value_text v) values

one_word : (v : Value) → 32 ∷ value_text v ≡ words (v ∷ [])
one_word v = sym (append-nil (32 ∷ value_text v))

-- one item's value more
pub word_more : {X : Type 0} (f : X → Value) (xs : List X) (i : ℕ) (x : X) (first text new : List ℕ) → i < length xs → x ≡ get_or xs i x
    → text ≡ first ++ words (map f (take i xs)) → new ≡ text ++ 32 ∷ value_text (f x) → new ≡ first ++ words (map f (take (i + 1) xs))
word_more f xs i x first text new less is so_far added =
    let before = map f (take i xs) in
    pieces first text new (words before) (32 ∷ value_text (f x)) so_far added
    ∙ ap (λ (t : List ℕ). first ++ t) (ap (λ (t : List ℕ). words before ++ t) (one_word (f x)) ∙ sym (flat_map-append (λ (v : Value). 32 ∷ value_text v) before (f x ∷ [])) ∙ ap words (sym (values_more f xs i x less is)))

module _ (session : List ℕ) (number uid : ℕ) (old begun filled ended : List ℕ) where
  -- the front, the values and the end are a line
  pub whole : (values : List Value) → begun ≡ old ++ fetch_front session number uid → filled ≡ begun ++ words values → ended ≡ filled ++ fetch_end
      → ended ≡ old ++ line_text session (reply.Fetch number uid values)
  whole values front middle last =
      let head = fetch_front session number uid in
      pieces old filled ended (head ++ words values) fetch_end (pieces old begun filled head (words values) front middle) last
      ∙ ap (λ (t : List ℕ). old ++ t) (sym (line_in_parts number uid values session))

  -- so it is with one value
  pub whole_of_one : (v : Value) → begun ≡ old ++ fetch_front session number uid → filled ≡ begun ++ 32 ∷ value_text v → ended ≡ filled ++ fetch_end
      → ended ≡ old ++ line_text session (reply.Fetch number uid (v ∷ []))
  whole_of_one v front middle last = whole (v ∷ []) front (middle ∙ ap (λ (t : List ℕ). begun ++ t) (one_word v)) last
