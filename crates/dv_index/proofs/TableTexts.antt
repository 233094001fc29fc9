-- The tables of a text are its keywords and then its extensions.
use Rattle.std.proofs.Common.{◌≡◌, ℕ, ◌^◌, ◌<◌, ◌≤◌, List, [], ◌++◌, length, take, drop, All, sym, ◌∙◌, ap, subst, arith}
use Rattle.std.specs.Prelude.{flat_map}
use Rattle.std.specs.List.{AllByRecursion}
use Rattle.std.proofs.lemmas.List.{append-nil}
use Rattle.dv_model.specs.declared.types.Extension.{Extension}
use Rattle.dv_model.specs.Mailboxes.{AreExtensions}
use Rattle.dv_model.specs.Names.{IsName}
use Rattle.dv_formats.specs.Snapshots.{HasFieldsOf, extension_text, keyword_text}
use Rattle.dv_formats.specs.SnapshotFaults.{AreTables, word_at}
use Rattle.dv_formats.proofs.Texts.{AreShort, IsShortExtension, extensions_one, names_one}
use Rattle.dv_formats.proofs.Wholes.{each_of_all}
use Rattle.dv_index.specs.Reading.{AreNames, AreTexts, IsText}

-- the bytes between the header and the records, and the numbers that say how they are read
pub record AreTableBytes (size names extensions : ℕ) (text b : List ℕ) : Type 0 where
  pub is_size : size ≡ word_at 4 b
  pub is_names : names ≡ word_at 44 b
  pub is_extensions : extensions ≡ word_at 48 b
  pub is_text : text ≡ drop 120 (take size b)
  pub bounds : (120 ≤ size) × (size ≤ length b)

there : (size count many : ℕ) (text b : List ℕ) → AreTableBytes size count many text b → drop 120 (take (word_at 4 b) b) ≡ text
there size count many text b bytes = ap (λ n. drop 120 (take n b)) (sym bytes.is_size) ∙ sym bytes.is_text

is_text : (e : Extension) → HasFieldsOf e → length e.name < 2 ^ 16 → length e.header < 2 ^ 32 → IsText e
is_text e fields name header = record { fields = fields; sizes = (name, header) }

texts_of : (names : List (List ℕ)) (es : List Extension) (b : List ℕ) → AreTables names es b → All IsText es
texts_of names es b are = λ k d below.
    let name = are.extensions.names k d below in
    let header = are.extensions.headers k d below in
    is_text _ (are.fields k d below) (omega (arith, name.1)) (omega (arith, header))

names_of : (size count many : ℕ) (text b : List ℕ) → AreTableBytes size count many text b → (names : List (List ℕ)) (es : List Extension) → AreTables names es b → AreNames count names (flat_map extension_text es) text
names_of size count many text b bytes names es are = record { counted = are.counted.0 ∙ sym bytes.is_names; valid = are.valid; text = sym (there size count many text b bytes) ∙ are.text }

pub no_names : (size count many : ℕ) (text b : List ℕ) → AreTableBytes size count many text b → ((names : List (List ℕ)) (rest : List ℕ) → AreNames count names rest text → ⊥) → (names : List (List ℕ)) (es : List Extension) → AreTables names es b → ⊥
no_names size count many text b bytes none names es are = none names (flat_map extension_text es) (names_of size count many text b bytes names es are)

short_names : (count : ℕ) (names : List (List ℕ)) (rest text : List ℕ) → AreNames count names rest text → AreShort names
short_names count names rest text are = each_of_all IsName (λ name. length name < 2 ^ 16) (λ name h. omega (arith, h.size.1)) names are.valid.0

-- other tables of the text have these names and go on with this rest
same_rest : (size count many : ℕ) (text b : List ℕ) → AreTableBytes size count many text b → (names : List (List ℕ)) (rest : List ℕ) → AreNames count names rest text → (others : List (List ℕ)) (es : List Extension) → AreTables others es b → rest ≡ flat_map extension_text es
same_rest size count many text b bytes names rest is others es are =
    let other = names_of size count many text b bytes others es are in
    (names_one names others rest (flat_map extension_text es) (is.counted ∙ sym other.counted) (short_names count names rest text is) (short_names count others (flat_map extension_text es) text other) (sym is.text ∙ other.text)).1

texts_there : (size count many : ℕ) (text b : List ℕ) → AreTableBytes size count many text b → (names : List (List ℕ)) (rest : List ℕ) → AreNames count names rest text → (others : List (List ℕ)) (es : List Extension) → AreTables others es b → AreTexts many es rest
texts_there size count many text b bytes names rest is others es are = record {
  counted = are.counted.1 ∙ sym bytes.is_extensions;
  each = texts_of others es b are;
  text = same_rest size count many text b bytes names rest is others es are;
}

pub no_extensions : (size count many : ℕ) (text b : List ℕ) → AreTableBytes size count many text b → (names : List (List ℕ)) (rest : List ℕ) → AreNames count names rest text → ((es : List Extension) → AreTexts many es rest → ⊥)
    → (others : List (List ℕ)) (es : List Extension) → AreTables others es b → ⊥
no_extensions size count many text b bytes names rest is none others es are = none es (texts_there size count many text b bytes names rest is others es are)

short_texts : (es : List Extension) → All IsText es → AllByRecursion IsShortExtension es
short_texts es all = each_of_all IsText IsShortExtension (λ e h. record { numbers = h.fields.numbers; texts = h.sizes }) es all

pub not_allowed : (size count many : ℕ) (text b : List ℕ) → AreTableBytes size count many text b → (names : List (List ℕ)) (rest : List ℕ) → AreNames count names rest text → (es : List Extension) → AreTexts many es rest → (AreExtensions es → ⊥)
    → (others : List (List ℕ)) (all : List Extension) → AreTables others all b → ⊥
not_allowed size count many text b bytes names rest is es texts bad others all are =
    let other = texts_there size count many text b bytes names rest is others all are in
    let joined : flat_map extension_text es ++ [] ≡ flat_map extension_text all ++ [] = append-nil (flat_map extension_text es) ∙ sym texts.text ∙ other.text ∙ sym (append-nil (flat_map extension_text all)) in
    let same = (extensions_one es all [] [] (texts.counted ∙ sym other.counted) (short_texts es texts.each) (short_texts all other.each) joined).0 in
    bad (subst AreExtensions (sym same) are.extensions)

pub tables_found : (size count many : ℕ) (text b : List ℕ) → AreTableBytes size count many text b → (names : List (List ℕ)) (rest : List ℕ) → AreNames count names rest text → (es : List Extension) → AreTexts many es rest → AreExtensions es → AreTables names es b
tables_found size count many text b bytes names rest is es texts allowed = record {
  counted = (is.counted ∙ bytes.is_names, texts.counted ∙ bytes.is_extensions);
  valid = is.valid;
  extensions = allowed;
  fields = λ k d below. (texts.each k d below).fields;
  size = (omega (arith, bytes.is_size, bytes.bounds.0), omega (arith, bytes.is_size, bytes.bounds.1));
  text = there size count many text b bytes ∙ is.text ∙ ap (λ t. flat_map keyword_text names ++ t) texts.text;
}
