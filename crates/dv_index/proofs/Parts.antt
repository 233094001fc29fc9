-- A row's parts are read one behind another.
use Rattle.std.proofs.Common.{◌≡◌, ℕ, ◌+◌, ◌<◌, ◌≤◌, List, [], ◌∷◌, ◌++◌, length, take, drop, get_or, refl, sym, ◌∙◌, ap, subst, arith, length-append, append_assoc}
use Rattle.std.specs.Prelude.{flat_map, map, sum_by}
use Rattle.std.proofs.lemmas.List.{append-nil, drop_all, drop_more, flat_map_more, map_push, nil_from_length, take_all, take_more}
use Rattle.std.proofs.lemmas.List.Sums.{sum_by-cons}
use Rattle.dv_model.specs.declared.types.Extension.{Extension}
use Rattle.dv_model.specs.Spelling.{padded}
use Rattle.dv_formats.specs.Snapshots.{filled}
use Rattle.dv_formats.proofs.Texts.{filled_one, length_filled}
use Rattle.dv_index.specs.Reading.{AreParts}

-- the bytes are these parts, and the rest is those of the extensions from a place on
pub record ArePartsTo (es : List Extension) (at : ℕ) (parts : List (List ℕ)) (rest b : List ℕ) : Type 0 where
  pub sizes : map length parts ≡ map (λ e. e.record_size) (take at es)
  pub text : b ≡ flat_map filled parts ++ rest
  pub left : length rest ≡ sum_by (λ e. padded e.record_size) (drop at es)
  pub only : (all : List (List ℕ)) → AreParts es all b → (later : List (List ℕ)) × AreParts (drop at es) later rest

-- parts that begin with one of this extension
record HasFirst (e : Extension) (es : List Extension) (b : List ℕ) : Type 0 where
  first : List ℕ
  rest : List (List ℕ)
  size : length first ≡ e.record_size
  sizes : map length rest ≡ map (λ x. x.record_size) es
  text : b ≡ filled first ++ flat_map filled rest

first_part : (e : Extension) (es : List Extension) (parts : List (List ℕ)) (b : List ℕ) → AreParts (e ∷ es) parts b → HasFirst e es b
first_part e es [] b is = let same = is.sizes in absurd cc
first_part e es (p ∷ ps) b is = let same = is.sizes in record { first = p; rest = ps; size = cc; sizes = ap (drop 1) same; text = is.text }

pub parts_start : (es : List Extension) (b : List ℕ) → length b ≡ sum_by (λ e. padded e.record_size) es → ArePartsTo es 0 [] b b
parts_start es b long = record { sizes = refl; text = refl; left = long; only = λ all are. (all, are) }

next_of : (es : List Extension) (at : ℕ) (e : Extension) (parts : List (List ℕ)) (rest b : List ℕ) → at < length es → e ≡ get_or es at e → ArePartsTo es at parts rest b → (all : List (List ℕ)) → AreParts es all b → HasFirst e (drop (at + 1) es) rest
next_of es at e parts rest b below is so_far all are =
    let later = so_far.only all are in
    let here : drop at es ≡ e ∷ drop (at + 1) es = drop_more es at e below ∙ ap (λ x. x ∷ drop (at + 1) es) (sym is) in
    first_part e (drop (at + 1) es) later.0 rest (subst (λ xs. AreParts xs later.0 rest) here later.1)

pub no_part : (es : List Extension) (at : ℕ) (e : Extension) (parts : List (List ℕ)) (rest b : List ℕ) → at < length es → e ≡ get_or es at e → ArePartsTo es at parts rest b
    → ((text behind : List ℕ) → length text ≡ e.record_size → rest ≡ filled text ++ behind → ⊥) → (all : List (List ℕ)) → AreParts es all b → ⊥
no_part es at e parts rest b below is so_far none all are =
    let next = next_of es at e parts rest b below is so_far all are in
    none next.first (flat_map filled next.rest) next.size next.text

pub parts_more : (es : List Extension) (at : ℕ) (e : Extension) (parts more : List (List ℕ)) (part rest behind b : List ℕ) → at < length es → e ≡ get_or es at e → ArePartsTo es at parts rest b
    → length part ≡ e.record_size → rest ≡ filled part ++ behind → more ≡ parts ++ part ∷ [] → ArePartsTo es (at + 1) more behind b
parts_more es at e parts more part rest behind b below is so_far size here pushed =
    let split : drop at es ≡ e ∷ drop (at + 1) es = drop_more es at e below ∙ ap (λ x. x ∷ drop (at + 1) es) (sym is) in
    let items : take (at + 1) es ≡ take at es ++ e ∷ [] = take_more es at e below ∙ ap (λ x. take at es ++ x ∷ []) (sym is) in
    let wide : length (filled part) ≡ padded e.record_size = length_filled part ∙ ap padded size in
    let sum : length rest ≡ padded e.record_size + sum_by (λ x. padded x.record_size) (drop (at + 1) es) =
    so_far.left ∙ ap (sum_by (λ (x : Extension). padded x.record_size)) split ∙ sum_by-cons (λ (x : Extension). padded x.record_size) e (drop (at + 1) es) in
    record {
      sizes = ap (map length) pushed ∙ map_push length parts part ∙ ap (λ ns. ns ++ length part ∷ []) so_far.sizes ∙ ap (λ n. map (λ (x : Extension). x.record_size) (take at es) ++ n ∷ []) size
          ∙ sym (map_push (λ (x : Extension). x.record_size) (take at es) e) ∙ ap (map (λ (x : Extension). x.record_size)) (sym items);
      text = so_far.text ∙ ap (λ t. flat_map filled parts ++ t) here ∙ sym (append_assoc (flat_map filled parts) (filled part) behind) ∙ ap (λ t. t ++ behind) (flat_map_more filled [] parts part ∙ ap (flat_map filled) (sym pushed));
      left = omega (arith, sum, wide, ap length here, length-append (filled part) behind);
      only = λ all are.
          let next = next_of es at e parts rest b below is so_far all are in
          let both = filled_one part next.first behind (flat_map filled next.rest) (size ∙ sym next.size) (sym here ∙ next.text) in
          (next.rest, record { sizes = next.sizes; text = both.1 });
    }

pub parts_done : (es : List Extension) (at : ℕ) (parts : List (List ℕ)) (rest b : List ℕ) → length es ≤ at → ArePartsTo es at parts rest b → AreParts es parts b
parts_done es at parts rest b past is =
    let all : take at es ≡ es = take_all at es past in
    let none : drop at es ≡ [] = drop_all at es past in
    let nothing : rest ≡ [] = nil_from_length rest (is.left ∙ ap (sum_by (λ (e : Extension). padded e.record_size)) none) in
    record {
      sizes = is.sizes ∙ ap (map (λ (e : Extension). e.record_size)) all;
      text = is.text ∙ ap (λ t. flat_map filled parts ++ t) nothing ∙ append-nil (flat_map filled parts);
    }
