-- A text in pieces, with a byte between two.
use Rattle.std.proofs.Common.{◌≡◌, ℕ, suc, ◌<◌, ◌≤◌, Bool, true, false, cond, List, [], ◌∷◌, ◌++◌, length, get_or, take, drop, All, Some, None, position, nat_eq, nat_lt, refl, sym, ◌∙◌, ap, arith, append_assoc, drop-cons}
use Rattle.std.specs.List.{position_or_len, slice_split, AllZip}
use Rattle.std.specs.List.{join_with_byte}
use Rattle.std.proofs.lemmas.Bool.{eqb-true, eq-eqb}
use Rattle.std.proofs.lemmas.Bool.Decides.{nat_tests}
use Rattle.std.proofs.lemmas.List.{get_or-take, length-take, take-append-drop}
use Rattle.std.proofs.lemmas.List.Elements.{All-head, All-tail, All-cons}
use Rattle.std.proofs.lemmas.List.Quantifiers.{position-Some}
use Rattle.std.proofs.lemmas.List.Splits.{join_with_byte-slice_split, length-slice_split, slice_split_at, slice_split_none}
use Rattle.std.proofs.lemmas.List.Sums.{fails_before_first}
use Rattle.dv_formats.specs.Scripts.{joined}

abbrev pub is : ℕ → ℕ → Bool
is byte b = nat_eq b byte

-- no such byte stands there
abbrev pub Lacks : ℕ → List ℕ → Type 0
Lacks byte text = All (λ b. nat_eq b byte ≡ false) text

-- ---- up to the first such byte

no_place : (k n : ℕ) → cond (nat_lt k n) (Some k) None ≡ None → n ≤ k
no_place k n e = grind (arith, nat_tests)

pub none_before : (byte : ℕ) (text : List ℕ) → None ≡ position (is byte) text → Lacks byte text
none_before byte text e = λ k d less. fails_before_first (is byte) text k d (omega (arith, less, no_place (position_or_len (is byte) text) (length text) (sym e)))

pub front_lacks : (byte at : ℕ) (text : List ℕ) → Some at ≡ position (is byte) text
    → Lacks byte (take at text)
front_lacks byte at text e = λ k d less.
    let below : k < at = omega (arith, less, length-take at text) in
    ap (is byte) (get_or-take at text k d below) ∙ (position-Some (is byte) text at d (sym e)).2 k below

pub parts_at : (byte at : ℕ) (text : List ℕ) → Some at ≡ position (is byte) text
    → text ≡ take at text ++ byte ∷ drop 1 (drop at text)
parts_at byte at text e =
    let place = position-Some (is byte) text at 0 (sym e) in
    let here : drop at text ≡ get_or text at 0 ∷ drop (suc at) text = drop-cons text at 0 place.0 in
    let same : get_or text at 0 ≡ byte = eqb-true (get_or text at 0) byte place.1 in
    sym (take-append-drop at text) ∙ ap (λ t. take at text ++ t) (here ∙ ap (λ b. b ∷ drop (suc at) text) same ∙ ap (λ t. byte ∷ t) (sym (ap (drop 1) here)))

-- ---- all pieces

abbrev pub split : ℕ → List ℕ → List (List ℕ)
split byte text = slice_split (is byte) text

same_byte : (byte : ℕ) → is byte byte ≡ true
same_byte byte = eq-eqb byte byte refl

-- a text without the byte is one piece
pub one_piece : (byte : ℕ) (text piece : List ℕ) → Lacks byte piece → text ≡ piece
    → split byte text ≡ piece ∷ []
one_piece byte text piece lacks e = ap (split byte) e ∙ slice_split_none (is byte) piece lacks

-- else the first piece ends before it
pub first_piece : (byte : ℕ) (text piece rest : List ℕ) → Lacks byte piece
    → text ≡ piece ++ byte ∷ rest → split byte text ≡ piece ∷ split byte rest
first_piece byte text piece rest lacks e = ap (split byte) e ∙ slice_split_at (is byte) piece byte rest lacks (same_byte byte)

-- there is a piece
pub some_piece : (byte : ℕ) (text : List ℕ) → split byte text ≡ [] → ⊥
some_piece byte text e = omega (arith, length-slice_split (is byte) text, ap length e)

same_join : (byte : ℕ) (pieces : List (List ℕ))
    → joined (byte ∷ []) pieces ≡ join_with_byte byte pieces
same_join byte [] = refl
same_join byte (x ∷ []) = refl
same_join byte (x ∷ y ∷ xs) = append_assoc x (byte ∷ []) (joined (byte ∷ []) (y ∷ xs)) ∙ ap (λ t. x ++ byte ∷ t) (same_join byte (y ∷ xs))

-- the pieces joined are the text
pub joined_split : (byte : ℕ) (text : List ℕ) → joined (byte ∷ []) (split byte text) ≡ text
joined_split byte text = same_join byte (split byte text) ∙ join_with_byte-slice_split byte text

-- pieces without the byte are those of the text that they join to
pub split_joined : (byte : ℕ) (pieces : List (List ℕ)) → 1 ≤ length pieces → All (Lacks byte) pieces
    → split byte (joined (byte ∷ []) pieces) ≡ pieces
split_joined byte [] some lack = absurd (omega (arith, some))
split_joined byte (x ∷ []) some lack = slice_split_none (is byte) x (All-head (Lacks byte) x [] lack)
split_joined byte (x ∷ y ∷ xs) some lack =
    let rest = joined (byte ∷ []) (y ∷ xs) in
    first_piece byte (joined (byte ∷ []) (x ∷ y ∷ xs)) x rest (All-head (Lacks byte) x (y ∷ xs) lack) (append_assoc x (byte ∷ []) rest) ∙ ap (λ t. x ∷ t) (split_joined byte (y ∷ xs) (omega arith) (All-tail (Lacks byte) x (y ∷ xs) lack))

-- a text of one piece is that piece
pub only_piece : (byte : ℕ) (text piece : List ℕ) → split byte text ≡ piece ∷ [] → piece ≡ text
only_piece byte text piece e = ap (joined (byte ∷ [])) (sym e) ∙ joined_split byte text

-- ---- values of pieces

-- one among the pieces has a value
pub zip_middle : {A B : Type 0} (R : A → B → Type 0) (xs : List A) (ys : List B) (y : B)
    (zs : List B)
    → AllZip R xs (ys ++ y ∷ zs) → (x : A) × R x y
zip_middle R [] [] y zs all = absurd all
zip_middle R (x ∷ xs) [] y zs all = (x, all.0)
zip_middle R [] (b ∷ ys) y zs all = absurd all
zip_middle R (x ∷ xs) (b ∷ ys) y zs all = zip_middle R xs ys y zs all.1

-- where a piece has one value, the pieces have one list of values
pub zip_one : {A B : Type 0} (R : A → B → Type 0) → ((x z : A) (y : B) → R x y → R z y → x ≡ z)
    → (xs zs : List A) (ys : List B) → AllZip R xs ys → AllZip R zs ys → xs ≡ zs
zip_one R one [] [] [] p q = refl
zip_one R one [] (z ∷ zs) [] p q = absurd q
zip_one R one (x ∷ xs) zs [] p q = absurd p
zip_one R one [] zs (y ∷ ys) p q = absurd p
zip_one R one (x ∷ xs) [] (y ∷ ys) p q = absurd q
zip_one R one (x ∷ xs) (z ∷ zs) (y ∷ ys) p q = ap (λ v. v ∷ xs) (one x z y p.0 q.0) ∙ ap (λ vs. z ∷ vs) (zip_one R one xs zs ys p.1 q.1)

pub zip_some : {A B : Type 0} (R : A → B → Type 0) (xs : List A) (ys : List B) → AllZip R xs ys
    → 1 ≤ length xs → 1 ≤ length ys
zip_some R [] ys all some = absurd (omega (arith, some))
zip_some R (x ∷ xs) [] all some = absurd all
zip_some R (x ∷ xs) (y ∷ ys) all some = omega arith

pub zip_all : {A B : Type 0} (R : A → B → Type 0) (P : B → Type 0) → ((x : A) (y : B) → R x y → P y)
    → (xs : List A) (ys : List B) → AllZip R xs ys → All P ys
zip_all R P each [] [] all = λ k d less. absurd (omega (arith, less))
zip_all R P each [] (y ∷ ys) all = absurd all
zip_all R P each (x ∷ xs) [] all = absurd all
zip_all R P each (x ∷ xs) (y ∷ ys) all = All-cons P y ys (each x y all.0) (zip_all R P each xs ys all.1)
