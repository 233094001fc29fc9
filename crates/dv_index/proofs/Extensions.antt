-- The extensions of a text are read one behind another.
use Rattle.std.proofs.Common.{◌≡◌, ℕ, ◌+◌, ◌-◌, ◌^◌, ◌<◌, ◌≤◌, List, [], ◌∷◌, ◌++◌, length, take, drop, All, refl, sym, ◌∙◌, ap, subst, arith, append_assoc}
use Rattle.std.specs.Prelude.{flat_map, replicate}
use Rattle.std.specs.Int.{w16, w32, to_le_bytes, from_le_bytes}
use Rattle.std.proofs.lemmas.List.{append-nil, flat_map_more, length-drop, length-take, length_push, nil_from_length, take-append-drop}
use Rattle.std.proofs.lemmas.List.Elements.{All-head, All-nil, All-push, All-tail}
use Rattle.std.proofs.lemmas.Nat.{from_le_bytes-to_le_bytes_2, from_le_bytes-to_le_bytes_4, le_bytes_2}
use Rattle.dv_model.specs.declared.types.Extension.{Extension}
use Rattle.dv_model.specs.Spelling.{padding}
use Rattle.dv_formats.specs.Snapshots.{extension_text, filled}
use Rattle.dv_formats.specs.SnapshotFaults.{word_at}
use Rattle.dv_formats.proofs.Texts.{IsShortExtension, extension_one, filled_one}
use Rattle.dv_formats.proofs.Passed.{IsBytes, back_bytes, drop_bytes, each_bytes, front_bytes, grow, part_bytes, word_small, word_there}
use Rattle.dv_index.specs.Reading.{AreTexts, IsText}

short_of : (e : Extension) → IsText e → IsShortExtension e
short_of e is = record { numbers = is.fields.numbers; texts = is.sizes }

-- ---- one extension

half_there : (at x : ℕ) (b : List ℕ) → IsBytes b → at + 2 ≤ length b → x ≡ from_le_bytes w16 (take 2 (drop at b)) → take 2 (drop at b) ≡ to_le_bytes w16 x
half_there at x b fits long same = sym (le_bytes_2 (take 2 (drop at b)) x (omega (arith, long, length-take 2 (drop at b), length-drop at b)) (part_bytes at 2 b fits) same)

-- the bytes say this of an extension
pub record HasExtension (e : Extension) (b : List ℕ) : Type 0 where
  pub reset_id : e.reset_id ≡ word_at 0 b
  pub header : length e.header ≡ word_at 4 b
  pub record_size : e.record_size ≡ from_le_bytes w16 (take 2 (drop 8 b))
  pub record_align : e.record_align ≡ from_le_bytes w16 (take 2 (drop 10 b))
  pub flags : e.flags ≡ from_le_bytes w16 (take 2 (drop 12 b))
  pub name : length e.name ≡ from_le_bytes w16 (take 2 (drop 14 b))

pub extension_there : (e : Extension) (b behind rest : List ℕ) → IsBytes b → 16 ≤ length b → HasExtension e b → drop 16 b ≡ filled e.name ++ behind → behind ≡ filled e.header ++ rest → b ≡ extension_text e ++ rest
extension_there e b behind rest fits long is texts header =
    let at4 = grow 4 4 b _ (to_le_bytes w32 (length e.header)) (word_there 0 e.reset_id b fits (omega (arith, long)) is.reset_id) (word_there 4 (length e.header) b fits (omega (arith, long)) is.header) in
    let at8 = grow 8 2 b _ (to_le_bytes w16 e.record_size) at4 (half_there 8 e.record_size b fits (omega (arith, long)) is.record_size) in
    let at10 = grow 10 2 b _ (to_le_bytes w16 e.record_align) at8 (half_there 10 e.record_align b fits (omega (arith, long)) is.record_align) in
    let at12 = grow 12 2 b _ (to_le_bytes w16 e.flags) at10 (half_there 12 e.flags b fits (omega (arith, long)) is.flags) in
    let at14 = grow 14 2 b _ (to_le_bytes w16 (length e.name)) at12 (half_there 14 (length e.name) b fits (omega (arith, long)) is.name) in
    let numbers = to_le_bytes w32 e.reset_id ++ to_le_bytes w32 (length e.header) ++ to_le_bytes w16 e.record_size ++ to_le_bytes w16 e.record_align ++ to_le_bytes w16 e.flags ++ to_le_bytes w16 (length e.name) in
    sym (take-append-drop 16 b) ∙ ap (λ t. t ++ drop 16 b) at14 ∙ ap (λ t. numbers ++ t) (texts ∙ ap (λ t. filled e.name ++ t) header ∙ sym (append_assoc (filled e.name) (filled e.header) rest))

-- what a text of an extension has in front
pub text_long : (e : Extension) (b rest : List ℕ) → b ≡ extension_text e ++ rest → 16 ≤ length b
text_long e b rest is = let long = ap length is in omega (arith, long)

pub text_name : (e : Extension) (b rest : List ℕ) → IsText e → b ≡ extension_text e ++ rest → length e.name ≡ from_le_bytes w16 (take 2 (drop 14 b))
text_name e b rest is text = sym (ap (λ t. from_le_bytes w16 (take 2 (drop 14 t))) text ∙ from_le_bytes-to_le_bytes_2 (length e.name) is.sizes.0)

pub text_header : (e : Extension) (b rest : List ℕ) → IsText e → b ≡ extension_text e ++ rest → length e.header ≡ word_at 4 b
text_header e b rest is text = sym (ap (word_at 4) text ∙ from_le_bytes-to_le_bytes_4 (length e.header) is.sizes.1)

pub text_behind : (e : Extension) (b rest : List ℕ) → b ≡ extension_text e ++ rest → drop 16 b ≡ filled e.name ++ (filled e.header ++ rest)
text_behind e b rest text = ap (drop 16) text ∙ append_assoc (filled e.name) (filled e.header) rest

-- ---- all extensions

-- the bytes are these extensions, and the rest is those that are to come
pub record AreTextsTo (count done : ℕ) (es : List Extension) (rest b : List ℕ) : Type 0 where
  pub counted : length es ≡ done
  pub each : All IsText es
  pub text : b ≡ flat_map extension_text es ++ rest
  pub only : (all : List Extension) → AreTexts count all b → (later : List Extension) × AreTexts (count - done) later rest

record HasFirst (n : ℕ) (b : List ℕ) : Type 0 where
  first : Extension
  rest : List Extension
  is : IsText first
  text : b ≡ extension_text first ++ flat_map extension_text rest
  are : AreTexts n rest (flat_map extension_text rest)

first_text : (n : ℕ) (es : List Extension) (b : List ℕ) → AreTexts (n + 1) es b → HasFirst n b
first_text n [] b are = absurd (omega (arith, are.counted))
first_text n (e ∷ es) b are = record {
  first = e;
  rest = es;
  is = All-head IsText e es are.each;
  text = are.text;
  are = record { counted = omega (arith, are.counted); each = All-tail IsText e es are.each; text = refl };
}

pub texts_start : (count : ℕ) (b : List ℕ) → AreTextsTo count 0 [] b b
texts_start count b = record { counted = refl; each = All-nil IsText; text = refl; only = λ all are. let same : count ≡ count - 0 = omega arith in (all, subst (λ n. AreTexts n all b) same are) }

next_of : (count done : ℕ) (es : List Extension) (rest b : List ℕ) → done < count → AreTextsTo count done es rest b → (all : List Extension) → AreTexts count all b → HasFirst (count - (done + 1)) rest
next_of count done es rest b below so_far all are =
    let later = so_far.only all are in
    let one : count - done ≡ (count - (done + 1)) + 1 = omega (arith, below) in
    first_text (count - (done + 1)) later.0 rest (subst (λ n. AreTexts n later.0 rest) one later.1)

pub no_text : (count done : ℕ) (es : List Extension) (rest b : List ℕ) → done < count → AreTextsTo count done es rest b → ((e : Extension) (behind : List ℕ) → IsText e → rest ≡ extension_text e ++ behind → ⊥) → (all : List Extension) → AreTexts count all b → ⊥
no_text count done es rest b below so_far none all are = let next = next_of count done es rest b below so_far all are in none next.first (flat_map extension_text next.rest) next.is next.text

pub texts_more : (count done : ℕ) (es more : List Extension) (e : Extension) (rest behind b : List ℕ) → done < count → AreTextsTo count done es rest b → IsText e → rest ≡ extension_text e ++ behind → more ≡ es ++ e ∷ [] → AreTextsTo count (done + 1) more behind b
texts_more count done es more e rest behind b below so_far is here pushed = record {
  counted = ap length pushed ∙ length_push es e ∙ ap (λ n. n + 1) so_far.counted;
  each = subst (All IsText) (sym pushed) (All-push IsText es e so_far.each is);
  text = so_far.text ∙ ap (λ t. flat_map extension_text es ++ t) here ∙ sym (append_assoc (flat_map extension_text es) (extension_text e) behind)
      ∙ ap (λ t. t ++ behind) (flat_map_more extension_text [] es e ∙ ap (flat_map extension_text) (sym pushed));
  only = λ all are.
      let next = next_of count done es rest b below so_far all are in
      let both = extension_one e next.first behind (flat_map extension_text next.rest) (short_of e is) (short_of next.first next.is) (sym here ∙ next.text) in
      (next.rest, subst (AreTexts (count - (done + 1)) next.rest) (sym both.1) next.are);
}

pub texts_done : (count done : ℕ) (es : List Extension) (rest b : List ℕ) → done ≡ count → rest ≡ [] → AreTextsTo count done es rest b → AreTexts count es b
texts_done count done es rest b end none is = record { counted = is.counted ∙ end; each = is.each; text = is.text ∙ ap (λ t. flat_map extension_text es ++ t) none ∙ append-nil (flat_map extension_text es) }

pub texts_over : (count done : ℕ) (es : List Extension) (rest b : List ℕ) → done ≡ count → (rest ≡ [] → ⊥) → AreTextsTo count done es rest b → (all : List Extension) → AreTexts count all b → ⊥
texts_over count done es rest b end some so_far all are =
    let later = so_far.only all are in
    let none : count - done ≡ 0 = omega (arith, end) in
    let empty : later.0 ≡ [] = nil_from_length later.0 (later.1.counted ∙ none) in
    some (later.1.text ∙ ap (flat_map extension_text) empty)

-- ---- as the code has them

small_half : (w : List ℕ) → IsBytes w → from_le_bytes w16 w < 2 ^ 16
small_half w fits = let a = fits 0 in let b = fits 1 in omega (arith, a, b)

half_small : (at : ℕ) (b : List ℕ) → IsBytes b → from_le_bytes w16 (take 2 (drop at b)) < 2 ^ 16
half_small at b fits = small_half (take 2 (drop at b)) (part_bytes at 2 b fits)

pub text_is : (e : Extension) (b behind rest : List ℕ) → IsBytes b → 16 ≤ length b → HasExtension e b → drop 16 b ≡ filled e.name ++ behind → behind ≡ filled e.header ++ rest → IsText e × (b ≡ extension_text e ++ rest)
text_is e b behind rest fits long is texts header =
    let name_bytes = front_bytes (filled e.name) behind (subst IsBytes texts (drop_bytes 16 b fits)) in
    let behind_bytes = back_bytes (filled e.name) behind (subst IsBytes texts (drop_bytes 16 b fits)) in
    let header_bytes = front_bytes (filled e.header) rest (subst IsBytes header behind_bytes) in (
      record {
        fields = record {
          text = (each_bytes e.name (front_bytes e.name (replicate (padding (length e.name)) 0) name_bytes), each_bytes e.header (front_bytes e.header (replicate (padding (length e.header)) 0) header_bytes));
          numbers = (omega (arith, is.reset_id, word_small 0 b fits), omega (arith, is.record_size, half_small 8 b fits), omega (arith, is.record_align, half_small 10 b fits), omega (arith, is.flags, half_small 12 b fits));
        };
        sizes = (omega (arith, is.name, half_small 14 b fits), omega (arith, is.header, word_small 4 b fits));
      },
      extension_there e b behind rest fits long is texts header,
    )

pub header_next : (e : Extension) (b name behind rest : List ℕ) → IsText e → b ≡ extension_text e ++ rest → length name ≡ from_le_bytes w16 (take 2 (drop 14 b)) → drop 16 b ≡ filled name ++ behind → behind ≡ filled e.header ++ rest
header_next e b name behind rest is text size texts = (filled_one name e.name behind (filled e.header ++ rest) (size ∙ sym (text_name e b rest is text)) (sym texts ∙ text_behind e b rest text)).1
