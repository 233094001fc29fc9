-- The entries of a feed's words, read one after another.
use Rattle.std.proofs.Common.{◌≡◌, ℕ, zero, suc, ◌+◌, ◌*◌, ◌/◌, ◌%◌, ◌<◌, ◌≤◌, List, [], ◌∷◌, ◌++◌, length, take, drop, refl, sym, ap, subst, ◌∙◌, append_assoc, arith, length-append}
use Rattle.std.specs.Prelude.{flat_map, All, slice_index}
use Rattle.std.specs.Int.{w32, to_le_bytes}
use Rattle.std.proofs.lemmas.List.{append-nil, take_at, drop_at}
use Rattle.std.proofs.lemmas.List.Concat.{flat_map-cons}
use Rattle.std.proofs.lemmas.List.Elements.{All-head, All-tail}
use Rattle.dv_model.specs.declared.types.Entry.{Entry}
use Rattle.dv_model.specs.declared.types.Group.{Group}
use Rattle.dv_model.specs.Journals.{AreByteValues, IsEntry}
use Rattle.dv_model.specs.Spelling.{IsRecord, group_text}
use Rattle.dv_formats.specs.Feeds.{entry_words, feed_text, group_words}
use Rattle.dv_feeding.proofs.Entries.{bytes_at, texts_whole}
use Rattle.dv_feed.specs.Feeds.{IsFeed}
use Rattle.dv_feed.specs.Publishing.{IsGroupText, IsGroupWords}
use Rattle.dv_feed.proofs.Words.{bytes_of_words}

-- ---- a group

-- the words of a group, as bytes, are its text
pub text_again : (g : Group) (words : List ℕ) → All IsRecord g.records → AreByteValues (group_text g) → group_words g ≡ words → group_text g ≡ flat_map (to_le_bytes w32) words
text_again g words all bytes is =
    let text = group_text g in
    let whole : length text % 4 ≡ 0 = texts_whole g.records all in
    sym (bytes_of_words (length text / 4) text (omega (arith, whole)) (bytes_at text bytes)) ∙ ap (λ ws. flat_map (to_le_bytes w32) ws) is

pub is_text : (words : List ℕ) → IsGroupWords words → IsGroupText (flat_map (to_le_bytes w32) words)
is_text words w = record { group = w.group; records = w.records; is = text_again w.group words w.records w.bytes w.is }

-- ---- entries

-- of some entries with these words these are left
pub record LeftOf (entries made : List Entry) (rest : List ℕ) : Type 0 where
  pub left : List Entry
  pub all : All IsEntry left
  pub whole : entries ≡ made ++ left
  pub text : rest ≡ feed_text left

abbrev pub IsGroupedTo : List ℕ → List Entry → List ℕ → Type 0
IsGroupedTo words made rest = (entries : List Entry) → All IsEntry entries → feed_text entries ≡ words → LeftOf entries made rest

pub starts : (words : List ℕ) → IsGroupedTo words [] words
starts words entries all is = record { left = entries; all = all; whole = refl; text = sym is }

pub record NextOf (entries made : List Entry) (rest : List ℕ) : Type 0 where
  pub e : Entry
  pub es : List Entry
  pub is : IsEntry e
  pub all : All IsEntry es
  pub whole : entries ≡ made ++ e ∷ es
  pub text : rest ≡ entry_words e ++ feed_text es

pub next_of : (entries made : List Entry) (rest : List ℕ) → 2 ≤ length rest → LeftOf entries made rest → NextOf entries made rest
next_of entries made rest le l = cases l.left l.all l.whole l.text
  where
    cases : (left : List Entry) → All IsEntry left → entries ≡ made ++ left → rest ≡ feed_text left → NextOf entries made rest
    cases [] all is text = absurd (omega (arith, ap length text))
    cases (e ∷ es) all is text = record { e = e; es = es; is = All-head IsEntry e es all; all = All-tail IsEntry e es all; whole = is; text = text ∙ flat_map-cons entry_words e es }

-- what stands in front of the words of an entry and others
pub record HeadOf (rest : List ℕ) (e : Entry) (es : List Entry) : Type 0 where
  pub author : slice_index (take 2 rest) 0 ≡ e.author
  pub count : slice_index (take 2 rest) 1 ≡ length (group_words e.group)
  pub fits : length (group_words e.group) ≤ length (drop 2 rest)
  pub group : take (length (group_words e.group)) (drop 2 rest) ≡ group_words e.group
  pub behind : drop (length (group_words e.group)) (drop 2 rest) ≡ feed_text es

pub head_of : (rest : List ℕ) (e : Entry) (es : List Entry) → rest ≡ entry_words e ++ feed_text es → HeadOf rest e es
head_of rest e es is =
    let words = group_words e.group in
    let two : take 2 rest ≡ e.author ∷ length words ∷ [] = ap (take 2) is in
    let more : drop 2 rest ≡ words ++ feed_text es = ap (drop 2) is in
    record {
      author = ap (λ t. slice_index t 0) two;
      count = ap (λ t. slice_index t 1) two;
      fits = omega (arith, ap length more, length-append words (feed_text es));
      group = ap (take (length words)) more ∙ take_at words (feed_text es) (length words) refl;
      behind = ap (drop (length words)) more ∙ drop_at words (feed_text es) (length words) refl;
    }

-- some entries have these words
pub next_some : (words : List ℕ) (made : List Entry) (rest : List ℕ) → 2 ≤ length rest → (f : IsFeed words) → IsGroupedTo words made rest → NextOf f.entries made rest
next_some words made rest le f l = next_of f.entries made rest le (l f.entries f.are f.text)

pub fits_next : (words : List ℕ) (made : List Entry) (rest : List ℕ) → 2 ≤ length rest → IsFeed words → IsGroupedTo words made rest → slice_index (take 2 rest) 1 ≤ length (drop 2 rest)
fits_next words made rest le f l = let n = next_some words made rest le f l in let h = head_of rest n.e n.es n.text in omega (arith, h.count, h.fits)

pub group_next : (words : List ℕ) (made : List Entry) (rest : List ℕ) → 2 ≤ length rest → IsFeed words → IsGroupedTo words made rest → IsGroupWords (take (slice_index (take 2 rest) 1) (drop 2 rest))
group_next words made rest le f l =
    let n = next_some words made rest le f l in
    let h = head_of rest n.e n.es n.text in
    record { group = n.e.group; records = n.is.records; bytes = n.is.bytes; is = sym (ap (λ k. take k (drop 2 rest)) h.count ∙ h.group) }

abbrev pub ReadsGroup : List ℕ → Group → Type 0
ReadsGroup words made = (g : Group) → All IsRecord g.records → AreByteValues (group_text g) → group_words g ≡ words → made ≡ g

-- a group more was read
pub groups_on : (words : List ℕ) (made : List Entry) (rest : List ℕ) (g : Group) → 2 ≤ length rest → IsGroupedTo words made rest → ReadsGroup (take (slice_index (take 2 rest) 1) (drop 2 rest)) g
    → IsGroupedTo words (made ++ record { author = slice_index (take 2 rest) 0; group = g } ∷ []) (drop (slice_index (take 2 rest) 1) (drop 2 rest))
groups_on words made rest g le l reads entries all is =
    let n = next_of entries made rest le (l entries all is) in
    let h = head_of rest n.e n.es n.text in
    let same : g ≡ n.e.group = reads n.e.group n.is.records n.is.bytes (sym (ap (λ k. take k (drop 2 rest)) h.count ∙ h.group)) in
    let entry : Entry = record { author = slice_index (take 2 rest) 0; group = g } in
    let are : entry ≡ n.e = (λ i. record { author = h.author i; group = same i }) in
    record {
      left = n.es;
      all = n.all;
      whole = n.whole ∙ sym (append_assoc made (n.e ∷ []) n.es) ∙ ap (λ (x : Entry). (made ++ x ∷ []) ++ n.es) (sym are);
      text = ap (λ k. drop k (drop 2 rest)) h.count ∙ h.behind;
    }

-- the end: no entry is left
pub grouped_whole : (words : List ℕ) (made : List Entry) (rest : List ℕ) → length rest < 2 → IsFeed words → IsGroupedTo words made rest → All IsEntry made × (feed_text made ≡ words)
grouped_whole words made rest lt f l = let left = l f.entries f.are f.text in cases left.left left.whole left.text
  where
    cases : (left : List Entry) → f.entries ≡ made ++ left → rest ≡ feed_text left → All IsEntry made × (feed_text made ≡ words)
    cases [] whole text =
        let same : f.entries ≡ made = whole ∙ append-nil made in
        (subst (λ es. All IsEntry es) same f.are, ap feed_text (sym same) ∙ f.text)
    cases (e ∷ es) whole text = absurd (omega (arith, ap length (text ∙ flat_map-cons entry_words e es)))
