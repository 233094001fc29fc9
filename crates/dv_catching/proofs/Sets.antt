-- Whether words are sets.
use Rattle.std.proofs.Common.{◌≡◌, ℕ, ◌^◌, Bool, true, false, cond, not, ◌&&◌, List, [], ◌∷◌, take, drop, Some, None, Option, Bor, position, nat_eq, refl, sym, ◌∙◌, ap}
use Rattle.std.specs.Prelude.{bytes_eq, codes, is_some, MatchOption}
use Rattle.std.proofs.lemmas.Bool.{false≢true}
use Rattle.std.specs.List.{slice_split}
use Rattle.dv_model.specs.declared.types.End.{End}
use Rattle.dv_model.specs.declared.types.End.TheVariants.{Number}
use Rattle.dv_model.specs.declared.types.Span.{Span}
use Rattle.dv_sets.proofs.Pieces.{first_piece, front_lacks, none_before, one_piece, parts_at, some_piece}
use Rattle.dv_commands.proofs.Grammar.{set_sound}
use Rattle.dv_formats.specs.Parsing.{◌>>=◌, each_of, end_of, is_byte, number_of, set_of, span_by, span_of}
use Rattle.dv_formats.specs.Scripts.{IsSet}

-- ---- pieces

abbrev pub split : ℕ → List ℕ → List (List ℕ)
split byte text = slice_split (is_byte byte) text

-- a text without the byte is one piece
pub whole_piece : (byte : ℕ) (text : List ℕ) → None ≡ position (is_byte byte) text
    → split byte text ≡ text ∷ []
whole_piece byte text none = one_piece byte text text (none_before byte text none) refl

-- else the first one ends before it
pub piece_at : (byte at : ℕ) (text front rest : List ℕ) → Some at ≡ position (is_byte byte) text
    → front ≡ take at text → rest ≡ drop 1 (drop at text)
    → split byte text ≡ front ∷ split byte rest
piece_at byte at text front rest found is behind =
    first_piece byte text (take at text) (drop 1 (drop at text)) (front_lacks byte at text found) (parts_at byte at text found)
    ∙ (λ i. sym is i ∷ split byte (sym behind i))

-- ---- ends of a range

ended : (r : Option End) → is_some {T = Span} (r >>= λ end. Some (record { from = end; to = end })) ≡ is_some r
ended None = refl
ended (Some end) = refl

both_ended : (r s : Option End) → is_some {T = Span} (r >>= λ end. s >>= λ to. Some (record { from = end; to = to })) ≡ (is_some r && is_some s)
both_ended None s = refl
both_ended (Some end) None = refl
both_ended (Some end) (Some to) = refl

pub one_end : (b from : List ℕ) → split 58 b ≡ from ∷ [] → is_some (span_of b) ≡ is_some (end_of from)
one_end b from is = ap (λ ps. is_some (span_by ps)) is ∙ ended (end_of from)

pub two_ends : (b from rest to : List ℕ) → split 58 b ≡ from ∷ split 58 rest → split 58 rest ≡ to ∷ []
    → is_some (span_of b) ≡ (is_some (end_of from) && is_some (end_of to))
two_ends b from rest to is last =
    ap (λ ps. is_some (span_by ps)) (is ∙ ap (λ ps. from ∷ ps) last) ∙ both_ended (end_of from) (end_of to)

more_ends : (b from rest to more : List ℕ) → split 58 b ≡ from ∷ split 58 rest
    → split 58 rest ≡ to ∷ split 58 more → is_some (span_of b) ≡ false
more_ends b from rest to more is last = by_more (split 58 more) refl
  where
    by_more : (ps : List (List ℕ)) → split 58 more ≡ ps → is_some (span_of b) ≡ false
    by_more [] none = absurd (some_piece 58 more none)
    by_more (x ∷ xs) some = ap (λ ps. is_some (span_by ps)) (is ∙ ap (λ ps. from ∷ ps) (last ∙ ap (λ ps. to ∷ ps) some))

-- of more than two pieces no range is
pub more_cut : (b from rest to : List ℕ) (more : Option (Bor (List ℕ))) → split 58 b ≡ from ∷ split 58 rest
    → MatchOption more (split 58 rest ≡ to ∷ []) (λ r. split 58 rest ≡ to ∷ split 58 r.now)
    → is_some more ≡ true → is_some (span_of b) ≡ false
more_cut b from rest to None is last some = absurd cc
more_cut b from rest to (Some r) is last some = more_ends b from rest to r.now is last

-- ---- ranges of a set

no_first : (r : Option Span) (rs : Option (List Span)) → is_some r ≡ false
    → is_some {T = List Span} (r >>= λ y. rs >>= λ ys. Some (y ∷ ys)) ≡ false
no_first None rs is = refl
no_first (Some y) rs is = absurd cc

some_first : (r : Option Span) (rs : Option (List Span)) → is_some r ≡ true
    → is_some {T = List Span} (r >>= λ y. rs >>= λ ys. Some (y ∷ ys)) ≡ is_some rs
some_first None rs is = absurd cc
some_first (Some y) None is = refl
some_first (Some y) (Some ys) is = refl

bad_range : (b piece : List ℕ) (more : List (List ℕ)) → split 44 b ≡ piece ∷ more
    → is_some (span_of piece) ≡ false → is_some (set_of b) ≡ false
unfolding set_of
bad_range b piece more is bad =
    ap (λ ps. is_some (each_of span_of ps)) is ∙ no_first (span_of piece) (each_of span_of more) bad

-- of a text whose first piece is none no set is
pub bad_cut : (b piece : List ℕ) (more : Option (Bor (List ℕ)))
    → MatchOption more (split 44 b ≡ piece ∷ []) (λ r. split 44 b ≡ piece ∷ split 44 r.now)
    → is_some (span_of piece) ≡ false → is_some (set_of b) ≡ false
bad_cut b piece None parts bad = bad_range b piece [] parts bad
bad_cut b piece (Some r) parts bad = bad_range b piece (split 44 r.now) parts bad

pub last_range : (b piece : List ℕ) → split 44 b ≡ piece ∷ [] → is_some (span_of piece) ≡ true
    → is_some (set_of b) ≡ true
unfolding set_of
last_range b piece is good =
    ap (λ ps. is_some (each_of span_of ps)) is ∙ some_first (span_of piece) (Some []) good

pub more_ranges : (b piece rest : List ℕ) → split 44 b ≡ piece ∷ split 44 rest
    → is_some (span_of piece) ≡ true → is_some (set_of b) ≡ is_some (set_of rest)
unfolding set_of
more_ranges b piece rest is good =
    ap (λ ps. is_some (each_of span_of ps)) is ∙ some_first (span_of piece) (each_of span_of (split 44 rest)) good

-- ---- an end

pub star_end : (b : List ℕ) → bytes_eq b (codes "*") ≡ true → is_some (end_of b) ≡ true
unfolding end_of
star_end b is = rw is refl

no_number : (r : Option ℕ) → r ≡ None → is_some {T = End} (r >>= λ n. cond (nat_eq n 0) None (Some (Number n))) ≡ false
no_number r none = rw none refl

a_number : (r : Option ℕ) (n : ℕ) → r ≡ Some n → is_some {T = End} (r >>= λ m. cond (nat_eq m 0) None (Some (Number m))) ≡ not (nat_eq n 0)
a_number r n is = rw is (by_zero (nat_eq n 0))
  where
    by_zero : (zero : Bool) → is_some {T = End} (cond zero None (Some (Number n))) ≡ not zero
    by_zero true = refl
    by_zero false = refl

pub number_end : (b : List ℕ) (n : ℕ) → bytes_eq b (codes "*") ≡ false → number_of (2 ^ 32) b ≡ Some n
    → is_some (end_of b) ≡ not (nat_eq n 0)
unfolding end_of
number_end b n other is = rw other (a_number (number_of (2 ^ 32) b) n is)

pub no_end : (b : List ℕ) → bytes_eq b (codes "*") ≡ false → number_of (2 ^ 32) b ≡ None
    → is_some (end_of b) ≡ false
unfolding end_of
no_end b other none = rw other (no_number (number_of (2 ^ 32) b) none)

-- ---- a client

-- a text of no set
pub no_set : (b : List ℕ) → ((set : List Span) → IsSet set b → ⊥) → set_of b ≡ None
no_set b none = by_case (set_of b) refl
  where
    by_case : (r : Option (List Span)) → set_of b ≡ r → r ≡ None
    by_case None is = refl
    by_case (Some set) is = absurd (none set (set_sound b set is))

pub not_set : (b : List ℕ) → is_some (set_of b) ≡ false → set_of b ≡ None
not_set b is = by_case (set_of b) refl
  where
    by_case : (r : Option (List Span)) → set_of b ≡ r → r ≡ None
    by_case None same = refl
    by_case (Some set) same = absurd (false≢true (sym is ∙ ap is_some same))
