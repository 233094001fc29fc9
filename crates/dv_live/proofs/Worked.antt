-- Worked examples of a kept search.
use Rattle.std.proofs.Common.{◌≡◌, ℕ, Bool, not, List, [], ◌∷◌, map, filter, ap, ◌∙◌}
use Rattle.std.specs.Prelude.{bit_and, nat_eq}
use Rattle.std.specs.List.{AllByRecursion}
use Rattle.dv_model.specs.declared.types.Key.{Key}
use Rattle.dv_model.specs.declared.types.Key.TheVariants as key
use Rattle.dv_model.specs.declared.types.Shown.{Shown}
use Rattle.dv_model.specs.Fresh.{patched}
use Rattle.dv_model.specs.Searches.{meets}
use Rattle.dv_model.proofs.Clients.{filter_same}
use Rattle.dv_model.proofs.Searching.{meets-Has, meets-Not}
use Rattle.dv_search.specs.Stars.{row_in}
use Rattle.dv_live.specs.Examples.{DeletedLeave, SeenIsFound, deleted_uids, flagged, left, marked, message, nine}
use Rattle.dv_live.specs.Keeping.{found_uids, largest_of}

each : {X : Type 0} (P : X → Type 0) → ((x : X) → P x) → (xs : List X) → AllByRecursion P xs
each P all [] = tt
each P all (x ∷ xs) = (all x, each P all xs)

found_with : (k : Key) (rows : List Shown) (q : Shown → Bool) → ((s : Shown) (largest : ℕ) → meets k (row_in [] largest s) ≡ q s) → found_uids k [] rows ≡ map (λ s. s.uid) (filter q rows)
found_with k rows q same =
    ap (map (λ (s : Shown). s.uid)) (filter_same (λ s. meets k (row_in [] (largest_of rows) s)) q rows (each (λ (s : Shown). meets k (row_in [] (largest_of rows) s) ≡ q s) (λ s. same s (largest_of rows)) rows))

has_bits : (bits : ℕ) (s : Shown) (largest : ℕ) → meets (key.Has bits) (row_in [] largest s) ≡ nat_eq (bit_and s.flags bits) bits
has_bits bits s largest = meets-Has (row_in [] largest s) bits

lacks_bits : (bits : ℕ) (s : Shown) (largest : ℕ) → meets (key.Not (key.Has bits)) (row_in [] largest s) ≡ not (nat_eq (bit_and s.flags bits) bits)
lacks_bits bits s largest = meets-Not (row_in [] largest s) (key.Has bits) ∙ ap not (has_bits bits s largest)

pub seen_is_found : SeenIsFound
seen_is_found = (
  found_with (key.Has 8) (patched [] (flagged 0 1 ∷ [])) (λ s. nat_eq (bit_and s.flags 8) 8) (has_bits 8),
  found_with (key.Has 8) (patched (message 1 0 ∷ []) (flagged 8 1 ∷ [])) (λ s. nat_eq (bit_and s.flags 8) 8) (has_bits 8),
)

pub deleted_leave : DeletedLeave
deleted_leave = (
  found_with (key.Not (key.Has 4)) nine (λ s. not (nat_eq (bit_and s.flags 4) 4)) (lacks_bits 4),
  found_with (key.Not (key.Has 4)) marked (λ s. not (nat_eq (bit_and s.flags 4) 4)) (lacks_bits 4),
  found_with (key.Not (key.Has 4)) (patched marked (map left deleted_uids)) (λ s. not (nat_eq (bit_and s.flags 4) 4)) (lacks_bits 4),
)
