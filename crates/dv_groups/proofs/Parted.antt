-- Pieces of a list, from left to right.
use Rattle.std.proofs.Common.{◌≡◌, ℕ, suc, ◌+◌, ◌-◌, ◌/◌, ◌<◌, ◌≤◌, List, [], ◌∷◌, ◌++◌, length, map, take, drop, min, inl, inr, ◌⊎◌, sym, ◌∙◌, ap, arith, append_assoc, length-drop}
use Rattle.std.proofs.Math.ListN.{drop_of_length-le}
use Rattle.std.proofs.lemmas.List.{take_all}
use Rattle.std.proofs.lemmas.Bool.{cases_lt}
use Rattle.dv_model.specs.declared.types.Record.{Record}
use Rattle.dv_model.specs.Sessions.{first_pieces, piece_size, pieces}

one_more : (n : ℕ) → 1 ≤ n → (n + 65535) / 65536 ≡ suc ((n - 65536 + 65535) / 65536)
one_more n some = omega arith

-- the first piece, and those of the rest
pieces-cons : {X : Type 0} (xs : List X) → 1 ≤ length xs → pieces xs ≡ take piece_size xs ∷ pieces (drop piece_size xs)
pieces-cons xs some =
    ap (λ n. first_pieces n xs) (one_more (length xs) some)
    ∙ ap (λ n. take piece_size xs ∷ first_pieces ((n + 65535) / 65536) (drop piece_size xs)) (sym (length-drop piece_size xs))

-- where fewer are left, the first piece is all of them
fronts : {X : Type 0} (xs : List X) (n : ℕ) → n ≡ min (length xs) piece_size → (take n xs ≡ take piece_size xs) × (drop n xs ≡ drop piece_size xs)
fronts xs n is = by_length (cases_lt piece_size (length xs))
  where
    by_length : (65536 < length xs) ⊎ (length xs ≤ 65536) → (take n xs ≡ take piece_size xs) × (drop n xs ≡ drop piece_size xs)
    by_length (inl many) = let e : n ≡ piece_size = omega arith in (ap (λ k. take k xs) e, ap (λ k. drop k xs) e)
    by_length (inr few) =
        let e : n ≡ length xs = omega arith in
        (take_all n xs (omega arith) ∙ sym (take_all piece_size xs few), drop_of_length-le xs (omega arith) ∙ sym (drop_of_length-le xs few))

-- cut off so, the first piece and the others
pub pieces-front : {X : Type 0} (xs front back : List X) (n : ℕ) → 1 ≤ length xs → n ≡ min (length xs) piece_size → front ≡ take n xs → back ≡ drop n xs → pieces xs ≡ front ∷ pieces back
pieces-front xs front back n some is first others =
    let e = fronts xs n is in
    pieces-cons xs some ∙ ap (λ ys. ys ∷ pieces (drop piece_size xs)) (sym (first ∙ e.0)) ∙ ap (λ ys. front ∷ pieces ys) (sym (others ∙ e.1))

-- one record more
pub pieces-more : {X : Type 0} (f : List X → Record) (before records after : List Record) (rest piece behind : List X)
    → before ≡ records ++ map f (pieces rest) → pieces rest ≡ piece ∷ pieces behind → after ≡ records ++ f piece ∷ [] → before ≡ after ++ map f (pieces behind)
pieces-more f before records after rest piece behind so_far cut pushed =
    so_far ∙ ap (λ ps. records ++ map f ps) cut ∙ sym (append_assoc records (f piece ∷ []) (map f (pieces behind))) ∙ ap (λ rs. rs ++ map f (pieces behind)) (sym pushed)

-- behind the last item there is no piece
pub pieces-none : {X : Type 0} (xs : List X) (n : ℕ) → length xs ≤ n → pieces (drop n xs) ≡ []
pieces-none xs n through = ap pieces (drop_of_length-le xs through)
