-- What was made for each row is put into it, from the last row to the first.
use Rattle.std.proofs.Common.{◌≡◌, ℕ, zero, suc, ◌+◌, ◌<◌, ◌≤◌, List, [], ◌∷◌, ◌++◌, length, get_or, take, drop, refl, sym, subst, ◌∙◌, ap, arith, length-set}
use Rattle.std.proofs.Math.ListN.{set}
use Rattle.std.specs.List.{AllZip}
use Rattle.std.specs.Prelude.{map}
use Rattle.std.proofs.lemmas.List.{append-nil, append_assoc, length-map, drop_all, drop_more, get_or-take, get_or_append_left, get_or_push, length-take-le, length_push, set_at, take-take, take_all, take_at, take_more}
use Rattle.dv_model.specs.declared.types.Row.{Row}
use Rattle.dv_formats.proofs.Zips.{zip_push}

-- ---- lists in step

zip_at : {A B : Type 0} (R : A → B → Type 0) (xs : List A) (ys : List B) (i : ℕ) (d : A) (e : B) → AllZip R xs ys → i < length xs → R (get_or xs i d) (get_or ys i e)
zip_at R [] ys i d e zip h = absurd (omega arith)
zip_at R (x ∷ xs) [] i d e zip h = absurd zip
zip_at R (x ∷ xs) (y ∷ ys) zero d e zip h = zip.0
zip_at R (x ∷ xs) (y ∷ ys) (suc i) d e zip h = zip_at R xs ys i d e zip.1 (omega arith)

pub zip_more : {A B : Type 0} (R : A → B → Type 0) (xs : List A) (i : ℕ) (x : A) (y : B) (ys made : List B) → i < length xs → AllZip R (take i xs) ys → R (get_or xs i x) y → made ≡ ys ++ y ∷ [] → AllZip R (take (i + 1) xs) made
zip_more R xs i x y ys made inside zip is pushed =
    subst (λ l. AllZip R l made) (sym (take_more xs i x inside)) (subst (AllZip R (take i xs ++ get_or xs i x ∷ [])) (sym pushed) (zip_push R (take i xs) ys (get_or xs i x) y zip is))

pub zip_length : {A B : Type 0} (R : A → B → Type 0) (xs : List A) (ys : List B) → AllZip R xs ys → length xs ≡ length ys
zip_length R [] [] zip = refl
zip_length R [] (y ∷ ys) zip = absurd zip
zip_length R (x ∷ xs) [] zip = absurd zip
zip_length R (x ∷ xs) (y ∷ ys) zip = ap suc (zip_length R xs ys zip.1)

pub zip_weaker : {A B : Type 0} (R S : A → B → Type 0) → ((a : A) (b : B) → R a b → S a b) → (xs : List A) (ys : List B) → AllZip R xs ys → AllZip S xs ys
zip_weaker R S weaker [] [] zip = tt
zip_weaker R S weaker [] (y ∷ ys) zip = absurd zip
zip_weaker R S weaker (x ∷ xs) [] zip = absurd zip
zip_weaker R S weaker (x ∷ xs) (y ∷ ys) zip = (weaker x y zip.0, zip_weaker R S weaker xs ys zip.1)

-- ---- a vector whose slice was changed

pub written_back : (f : Row → Row) (items slice new : List Row) (len : ℕ) → slice ≡ items → length slice ≡ len → new ≡ map f slice → take len (new ++ drop (length new) items) ≡ map f items
written_back f items slice new len same many is =
    take_at new (drop (length new) items) len (ap length is ∙ length-map slice f ∙ many) ∙ is ∙ ap (map f) same

pub all_back : (items new : List ℕ) (len : ℕ) → length new ≡ len → take len (new ++ drop (length new) items) ≡ new
all_back items new len many = take_at new (drop (length new) items) len many

-- ---- from the last row to the first

-- the rows behind those that are left are replaced
pub record IsReplaced {X : Type 0} (put : Row → X → Row) (before : List Row) (made : List X) (rows : List Row) (left : List X) : Type 0 where
  pub many : length before ≡ length made
  pub same : length rows ≡ length before
  pub front : left ≡ take (length left) made
  pub upto : length left ≤ length made
  pub rest : (f : Row → Row) → AllZip (λ row new. put row new ≡ f row) before made → rows ≡ take (length left) before ++ map f (drop (length left) before)

pub starts : {X : Type 0} (put : Row → X → Row) (before : List Row) (made : List X) → length before ≡ length made → IsReplaced put before made before made
starts put before made many = record {
  many = many;
  same = refl;
  front = sym (take_all (length made) made (omega arith));
  upto = omega arith;
  rest = λ f zip. sym (ap (λ l. l ++ map f (drop (length made) before)) (take_all (length made) before (omega arith)) ∙ ap (λ l. before ++ map f l) (drop_all (length made) before (omega arith)) ∙ append-nil before);
}

row_there : {X : Type 0} (put : Row → X → Row) (before : List Row) (made : List X) (rows : List Row) (left : List X) → IsReplaced put before made rows left → (f : Row → Row) → AllZip (λ row new. put row new ≡ f row) before made
    → (n : ℕ) (row : Row) → length left ≡ n + 1 → row ≡ get_or rows n row → row ≡ get_or before n row
row_there put before made rows left is f zip n row last at =
    let many : length before ≡ length made = is.many in
    let upto : length left ≤ length made = is.upto in
    let front : length (take (length left) before) ≡ length left = length-take-le (length left) before (omega arith) in
    at ∙ ap (λ l. get_or l n row) (is.rest f zip) ∙ get_or_append_left (take (length left) before) (map f (drop (length left) before)) row n (omega arith)
    ∙ get_or-take (length left) before n row (omega arith)

new_there : {X : Type 0} (put : Row → X → Row) (before : List Row) (made : List X) (rows : List Row) (all left : List X) (new : X) → IsReplaced put before made rows all → all ≡ left ++ new ∷ [] → new ≡ get_or made (length left) new
new_there put before made rows all left new is popped =
    let many : length all ≡ length left + 1 = ap length popped ∙ length_push left new in
    sym (get_or_push left new new (length left) refl) ∙ ap (λ l. get_or l (length left) new) (sym popped ∙ is.front) ∙ get_or-take (length all) made (length left) new (omega arith)

step_rest : {X : Type 0} (put : Row → X → Row) (before : List Row) (made : List X) (rows : List Row) (all left : List X) (new : X) (row : Row) → IsReplaced put before made rows all → all ≡ left ++ new ∷ [] → row ≡ get_or rows (length left) row
    → (f : Row → Row) → AllZip (λ row new. put row new ≡ f row) before made → set rows (length left) (put row new) ≡ take (length left) before ++ map f (drop (length left) before)
step_rest put before made rows all left new row is popped at f zip =
    let n : ℕ = length left in
    let last : length all ≡ n + 1 = ap length popped ∙ length_push left new in
    let many : length before ≡ length made = is.many in
    let upto : length all ≤ length made = is.upto in
    let inside : n < length before = omega arith in
    let here : row ≡ get_or before n row = row_there put before made rows all is f zip n row last at in
    let it : new ≡ get_or made n new = new_there put before made rows all left new is popped in
    let gives : put row new ≡ f row = ap (λ r. put r new) here ∙ ap (put (get_or before n row)) it ∙ zip_at (λ row new. put row new ≡ f row) before made n row new zip inside ∙ sym (ap f here) in
    let seen : rows ≡ take n before ++ row ∷ map f (drop (n + 1) before) =
    is.rest f zip ∙ ap (λ k. take k before ++ map f (drop k before)) last
    ∙ ap (λ l. l ++ map f (drop (n + 1) before)) (take_more before n row inside ∙ ap (λ r. take n before ++ r ∷ []) (sym here)) ∙ append_assoc (take n before) (row ∷ []) (map f (drop (n + 1) before)) in
    ap (λ l. set l n (put row new)) seen ∙ set_at (take n before) row (map f (drop (n + 1) before)) (put row new) n (length-take-le n before (omega arith))
    ∙ ap (λ r. take n before ++ r ∷ map f (drop (n + 1) before)) (gives ∙ ap f here) ∙ ap (λ l. take n before ++ l) (sym (ap (map f) (drop_more before n row inside)))

front_step : {X : Type 0} (made all left : List X) (new : X) → all ≡ left ++ new ∷ [] → all ≡ take (length all) made → length all ≤ length made → left ≡ take (length left) made
front_step made all left new popped front upto =
    let many : length all ≡ length left + 1 = ap length popped ∙ length_push left new in
    sym (take_at left (new ∷ []) (length left) refl) ∙ ap (take (length left)) (sym popped ∙ front) ∙ take-take (length left) (length all) made (omega arith)

pub step : {X : Type 0} (put : Row → X → Row) (before : List Row) (made : List X) (rows : List Row) (all left : List X) (new : X) (row : Row) → IsReplaced put before made rows all → all ≡ left ++ new ∷ [] → row ≡ get_or rows (length left) row
    → IsReplaced put before made (set rows (length left) (put row new)) left
step put before made rows all left new row is popped at =
    let many : length all ≡ length left + 1 = ap length popped ∙ length_push left new in
    let upto : length all ≤ length made = is.upto in
    record {
      many = is.many;
      same = length-set rows (length left) (put row new) ∙ is.same;
      front = front_step made all left new popped is.front is.upto;
      upto = omega arith;
      rest = step_rest put before made rows all left new row is popped at;
    }

pub ends : {X : Type 0} (put : Row → X → Row) (before : List Row) (made : List X) (rows : List Row) (left : List X) → IsReplaced put before made rows left → left ≡ [] → (f : Row → Row) → AllZip (λ row new. put row new ≡ f row) before made → rows ≡ map f before
ends put before made rows left is none f zip = is.rest f zip ∙ ap (λ l. take (length l) before ++ map f (drop (length l) before)) none
