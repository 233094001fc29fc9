-- The text of five fields, and how it is read.
use Rattle.std.proofs.Common.{◌≡◌, ℕ, ◌+◌, ◌*◌, ◌<◌, ◌≤◌, List, [], ◌∷◌, ◌++◌, length, take, drop, All, Contains, Option, Some, None, refl, sym, ◌∙◌, ap, subst, arith, length-append, append_assoc}
use Rattle.std.specs.Prelude.{sum_by}
use Rattle.std.proofs.lemmas.List.{append-nil, take-append-drop, flat_map_more, length_push}
use Rattle.std.proofs.lemmas.List.Elements.{All-cons, All-contains, All-head, All-push, All-tail, Contains-append_right}
use Rattle.std.proofs.lemmas.List.Sums.{sum_by-cons}
use Rattle.std.proofs.Math.Seq.{take-append_seam}
use Rattle.dv_formats.proofs.Texts.{parts_one, word_one}
use Rattle.dv_cache.specs.Caches.{field_size, field_text, fields_text, IsShort}
use Rattle.dv_cache.specs.Finding.{AreFieldsOf}

-- ---- sizes

pub text_size : (fields : List (Option (List ℕ)))
    → length (fields_text fields) ≡ 4 * length fields + sum_by field_size fields
text_size [] = refl
text_size (None ∷ fields) = omega (arith, text_size fields, sum_by-cons field_size None fields)
text_size (Some value ∷ fields) = omega (arith, text_size fields, sum_by-cons field_size (Some value) fields, length-append value (fields_text fields), length-append (field_text (Some value)) (fields_text fields))

pub all_short : (fields : List (Option (List ℕ))) → sum_by field_size fields ≤ 65536
    → All IsShort fields
all_short [] few = λ k d below. absurd (omega (arith, below))
all_short (None ∷ fields) few =
    let split = sum_by-cons field_size None fields in
    All-cons IsShort None fields tt (all_short fields (omega (arith, few, split)))
all_short (Some value ∷ fields) few =
    let split = sum_by-cons field_size (Some value) fields in
    All-cons IsShort (Some value) fields (omega (arith, few, split)) (all_short fields (omega (arith, few, split)))

-- ---- a text is of one list of fields

field_one : (f g : Option (List ℕ)) (b c : List ℕ) → IsShort f → IsShort g
    → field_text f ++ b ≡ field_text g ++ c → (f ≡ g) × (b ≡ c)
field_one None None b c p q e = (refl, ap (drop 4) e)
field_one None (Some w) b c p q e = let same = word_one 4294967295 (length w) (omega arith) (omega (arith, q)) (ap (take 4) e) in absurd (omega (arith, same, q))
field_one (Some v) None b c p q e = let same = word_one (length v) 4294967295 (omega (arith, p)) (omega arith) (ap (take 4) e) in absurd (omega (arith, same, p))
field_one (Some v) (Some w) b c p q e =
    let same = word_one (length v) (length w) (omega (arith, p)) (omega (arith, q)) (ap (take 4) e) in
    let both = parts_one v w b c same (ap (drop 4) e) in
    (ap (λ x. Some x) both.0, both.1)

-- fields that begin bytes are the first of more fields that do
first_of : (fs gs : List (Option (List ℕ))) (b c : List ℕ) → length fs ≤ length gs → All IsShort fs
    → All IsShort gs → fields_text fs ++ b ≡ fields_text gs ++ c
    → (xs : List (Option (List ℕ))) × (gs ≡ fs ++ xs) × (b ≡ fields_text xs ++ c)
first_of [] gs b c le p q e = (gs, refl, e)
first_of (f ∷ fs) [] b c le p q e = absurd (omega (arith, le))
first_of (f ∷ fs) (g ∷ gs) b c le p q e =
    let joined = sym (append_assoc (field_text f) (fields_text fs) b) ∙ e ∙ append_assoc (field_text g) (fields_text gs) c in
    let here = field_one f g (fields_text fs ++ b) (fields_text gs ++ c) (All-head IsShort f fs p) (All-head IsShort g gs q) joined in
    let rest = first_of fs gs b c (omega (arith, le)) (All-tail IsShort f fs p) (All-tail IsShort g gs q) here.1 in
    (rest.0, ap (λ x. x ∷ gs) (sym here.0) ∙ ap (λ xs. f ∷ xs) rest.1, rest.2)

fields_front : (b : List ℕ) (fields : List (Option (List ℕ))) → AreFieldsOf b fields
    → fields_text fields ++ drop (length (fields_text fields)) b ≡ b
fields_front b fields is = ap (λ t. t ++ drop (length (fields_text fields)) b) (sym is.text) ∙ take-append-drop (length (fields_text fields)) b

-- at most one list of five fields begins any bytes
pub one_five : (b : List ℕ) (fs gs : List (Option (List ℕ))) → AreFieldsOf b fs → AreFieldsOf b gs
    → fs ≡ gs
one_five b fs gs p q =
    let more = first_of fs gs (drop (length (fields_text fs)) b) (drop (length (fields_text gs)) b) (omega (arith, p.five, q.five)) p.short q.short (fields_front b fs p ∙ sym (fields_front b gs q)) in
    by_rest more.0 more.1
  where
    by_rest : (xs : List (Option (List ℕ))) → gs ≡ fs ++ xs → fs ≡ gs
    by_rest [] e = sym (e ∙ append-nil fs)
    by_rest (x ∷ xs) e = absurd (omega (arith, p.five, q.five, ap length e, length-append fs (x ∷ xs)))

-- ---- as a loop does

-- so many fields, and what follows them
pub record IsReadTo (b : List ℕ) (fields : List (Option (List ℕ))) (rest : List ℕ) (done : ℕ) : Type 0 where
  pub counted : length fields ≡ done
  pub short : All IsShort fields
  pub text : b ≡ fields_text fields ++ rest

pub starts : (b : List ℕ) → IsReadTo b [] b 0
starts b = record { counted = refl; short = λ k d below. absurd (omega (arith, below)); text = refl }

-- no five fields begin the bytes where no field follows
pub no_field : (b : List ℕ) (fields : List (Option (List ℕ))) (rest : List ℕ) (done : ℕ)
    → IsReadTo b fields rest done → done < 5
    → ((field : Option (List ℕ)) (behind : List ℕ) → IsShort field → rest ≡ field_text field ++ behind → ⊥)
    → (others : List (Option (List ℕ))) → AreFieldsOf b others → ⊥
no_field b fields rest done so_far less none others is =
    let behind = drop (length (fields_text others)) b in
    let more = first_of fields others rest behind (omega (arith, so_far.counted, is.five)) so_far.short is.short (sym so_far.text ∙ sym (fields_front b others is)) in
    by_rest more.0 more.1 more.2
  where
    by_rest : (xs : List (Option (List ℕ))) → others ≡ fields ++ xs
        → rest ≡ fields_text xs ++ drop (length (fields_text others)) b → ⊥
    by_rest [] e f = let same : length others ≡ length fields = ap length (e ∙ append-nil fields) in absurd (omega (arith, same, so_far.counted, is.five))
    by_rest (x ∷ xs) e f =
        let there : Contains others x = subst (λ ys. Contains ys x) (sym e) (Contains-append_right fields (x ∷ xs) x (0, omega arith, refl)) in
        none x (fields_text xs ++ drop (length (fields_text others)) b) (All-contains IsShort others x is.short there) (f ∙ append_assoc (field_text x) (fields_text xs) (drop (length (fields_text others)) b))

-- one more field
pub one_more : (b : List ℕ) (fields : List (Option (List ℕ))) (rest : List ℕ) (done : ℕ)
    → IsReadTo b fields rest done → (field : Option (List ℕ)) (behind : List ℕ) → IsShort field
    → rest ≡ field_text field ++ behind
    → IsReadTo b (fields ++ field ∷ []) behind (done + 1)
one_more b fields rest done so_far field behind short e = record {
  counted = omega (arith, so_far.counted, length_push fields field);
  short = All-push IsShort fields field so_far.short short;
  text = so_far.text ∙ ap (λ t. fields_text fields ++ t) e ∙ sym (append_assoc (fields_text fields) (field_text field) behind) ∙ ap (λ t. t ++ behind) (flat_map_more field_text [] fields field);
}

pub is_done : (b : List ℕ) (fields : List (Option (List ℕ))) (rest : List ℕ)
    → IsReadTo b fields rest 5 → AreFieldsOf b fields
is_done b fields rest is = record { five = is.counted; short = is.short; text = ap (take (length (fields_text fields))) is.text ∙ take-append_seam (fields_text fields) rest }
