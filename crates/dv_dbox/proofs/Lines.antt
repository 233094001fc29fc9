-- The lines of the metadata, one after another.
use Rattle.std.proofs.Common.{◌≡◌, ℕ, ◌+◌, ◌<◌, List, [], ◌∷◌, ◌++◌, length, take, drop, Option, Some, None, refl, sym, ap, ◌∙◌, append_assoc, arith}
use Rattle.std.specs.List.{position, slice_split}
use Rattle.std.specs.Option.{option_map}
use Rattle.std.proofs.lemmas.List.{append-nil}
use Rattle.std.proofs.lemmas.List.Splits.{slice_split_first, slice_split_none, length-slice_split}
use Rattle.std.proofs.lemmas.List.Sums.{fails_before_first}
use Rattle.dv_dbox.specs.BoxTexts.{before_empty, first_line, is_feed}
use Rattle.dv_fields.proofs.FirstLines.{position-none, position-some}

-- lines that were read, before the others
abbrev pub with_front : List (List ℕ) → Option (List (List ℕ)) → Option (List (List ℕ))
with_front front lines = option_map (λ more. front ++ more) lines

-- there is always a part
pub some_part : (text : List ℕ) → 0 < length (slice_split is_feed text)
some_part text = omega (arith, length-slice_split is_feed text)

pub parts_more : (text line rest : List ℕ) → first_line text ≡ Some (line, rest)
    → slice_split is_feed text ≡ line ∷ slice_split is_feed rest
parts_more text line rest e = by_place (position is_feed text) refl e
  where
    by_place : (o : Option ℕ) → position is_feed text ≡ o → option_map {U = List ℕ × List ℕ} (λ i. (take i text, drop (i + 1) text)) o ≡ Some (line, rest) → slice_split is_feed text ≡ line ∷ slice_split is_feed rest
    by_place None h f = absurd cc
    by_place (Some i) h f =
        let at = position-some is_feed text i h in
        let parts = slice_split_first is_feed text 0 (omega (arith, at.0, at.1)) in
        let whole : List ℕ × List ℕ = (take i text, drop (i + 1) text) in
        let found : List ℕ × List ℕ = (line, rest) in
        let same : whole ≡ found = cc in
        parts ∙ ap (λ (k : ℕ). take k text ∷ slice_split is_feed (drop (k + 1) text)) at.0 ∙ ap (λ (x : List ℕ × List ℕ). x.0 ∷ slice_split is_feed x.1) same

pub parts_end : (text : List ℕ) → first_line text ≡ None → slice_split is_feed text ≡ text ∷ []
parts_end text e = by_place (position is_feed text) refl e
  where
    by_place : (o : Option ℕ) → position is_feed text ≡ o → option_map {U = List ℕ × List ℕ} (λ i. (take i text, drop (i + 1) text)) o ≡ None → slice_split is_feed text ≡ text ∷ []
    by_place (Some i) h f = absurd cc
    by_place None h f =
        let far = position-none is_feed text h in
        slice_split_none is_feed text (λ k d lt. fails_before_first is_feed text k d (omega arith))

pub before_now : (parts : List (List ℕ)) → 0 < length parts → before_empty ([] ∷ parts) ≡ Some []
before_now [] h = absurd (omega arith)
before_now (part ∷ parts) h = refl

pub before_more : (line : List ℕ) (parts : List (List ℕ)) → 0 < length line → 0 < length parts
    → before_empty (line ∷ parts) ≡ option_map (λ entries. line ∷ entries) (before_empty parts)
before_more [] parts some h = absurd (omega arith)
before_more (b ∷ line) [] some h = absurd (omega arith)
before_more (b ∷ line) (part ∷ parts) some h = grind arith

regrouped : (front : List (List ℕ)) (line : List ℕ) (lines : Option (List (List ℕ)))
    → with_front front (option_map (λ entries. line ∷ entries) lines) ≡ with_front (front ++ line ∷ []) lines
regrouped front line None = refl
regrouped front line (Some entries) = ap (λ (xs : List (List ℕ)). Some xs) (sym (append_assoc front (line ∷ []) entries))

-- a line that isn't empty
pub goes_on : (front : List (List ℕ)) (text line rest : List ℕ)
    → first_line text ≡ Some (line, rest) → 0 < length line
    → with_front front (before_empty (slice_split is_feed text)) ≡ with_front (front ++ line ∷ []) (before_empty (slice_split is_feed rest))
goes_on front text line rest e some =
    ap (λ (parts : List (List ℕ)). with_front front (before_empty parts)) (parts_more text line rest e)
    ∙ ap (with_front front) (before_more line (slice_split is_feed rest) some (some_part rest))
    ∙ regrouped front line (before_empty (slice_split is_feed rest))

-- an empty line ends the metadata
pub is_done : (front : List (List ℕ)) (text line rest : List ℕ)
    → first_line text ≡ Some (line, rest) → length line ≡ 0
    → with_front front (before_empty (slice_split is_feed text)) ≡ Some front
is_done front text (b ∷ line) rest e none = absurd (omega arith)
is_done front text [] rest e none =
    ap (λ (parts : List (List ℕ)). with_front front (before_empty parts)) (parts_more text [] rest e)
    ∙ ap (with_front front) (before_now (slice_split is_feed rest) (some_part rest))
    ∙ ap (λ (xs : List (List ℕ)). Some xs) (append-nil front)

-- no line feed, no empty line
pub ends : (front : List (List ℕ)) (text : List ℕ) → first_line text ≡ None
    → with_front front (before_empty (slice_split is_feed text)) ≡ None
ends front text e = ap (λ (parts : List (List ℕ)). with_front front (before_empty parts)) (parts_end text e)
