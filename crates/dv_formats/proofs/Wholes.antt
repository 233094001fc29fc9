-- A text is of one snapshot: its rows, its header, and all of it.
use Rattle.std.proofs.Common.{◌≡◌, ℕ, zero, suc, ◌+◌, ◌*◌, ◌^◌, ◌<◌, ◌≤◌, List, [], ◌∷◌, ◌++◌, length, take, drop, Option, Some, None, refl, sym, ◌∙◌, ap, subst, arith, length-append}
use Rattle.std.specs.Prelude.{All, map, flat_map, replicate, slice_index, slice_get, codes, IfSome, IsSomeAnd}
use Rattle.std.specs.Int.{w16, w32, to_le_bytes}
use Rattle.std.specs.List.{AllByRecursion}
use Rattle.std.specs.List.Sorted.{IsStrictlyIncreasing}
use Rattle.std.proofs.lemmas.List.{append_assoc, append-nil}
use Rattle.std.proofs.lemmas.List.Elements.{All-head, All-tail}
use Rattle.dv_model.specs.declared.types.Current.{Current}
use Rattle.dv_model.specs.declared.types.Extension.{Extension}
use Rattle.dv_model.specs.declared.types.Mailbox.{Mailbox}
use Rattle.dv_model.specs.declared.types.Mark.{Mark}
use Rattle.dv_model.specs.declared.types.Row.{Row}
use Rattle.dv_model.proofs.Clients.{rising_tail}
use Rattle.dv_model.specs.Mailboxes.{IsRowOf, IsValid}
use Rattle.dv_model.specs.Names.{IsName}
use Rattle.dv_model.specs.Spelling.{padding}
use Rattle.dv_formats.specs.Snapshots.{HasFieldsOf, IsSnapshot, current_text, extension_text, filled, highest_text, keyword_bits, keyword_text, keyword_words, modseq_text, row_size, row_text, rows_with, tables_text}
use Rattle.dv_formats.proofs.Bits.{Below, Rise, bits_one}
use Rattle.dv_formats.proofs.Texts.{AreShort, IsShortExtension, extensions_one, filled_one, names_one, word_one, wide_one, words_one}

-- ---- a row

filled_parts_one : (ps ps' : List (List ℕ)) (b b' : List ℕ) → map length ps ≡ map length ps'
    → flat_map filled ps ++ b ≡ flat_map filled ps' ++ b' → (ps ≡ ps') × (b ≡ b')
filled_parts_one [] [] b b' same e = (refl, e)
filled_parts_one [] (p' ∷ ps') b b' same e = absurd cc
filled_parts_one (p ∷ ps) [] b b' same e = absurd cc
filled_parts_one (p ∷ ps) (p' ∷ ps') b b' same e =
    let size : length p ≡ length p' = cc in
    let sizes : map length ps ≡ map length ps' = ap (drop 1) same in
    let joined = sym (append_assoc (filled p) (flat_map filled ps) b) ∙ e ∙ append_assoc (filled p') (flat_map filled ps') b' in
    let first = filled_one p p' (flat_map filled ps ++ b) (flat_map filled ps' ++ b') size joined in
    let rest = filled_parts_one ps ps' b b' sizes first.1 in
    (ap (λ x. x ∷ ps) first.0 ∙ ap (λ xs. p' ∷ xs) rest.0, rest.1)

-- what is known of a row of a snapshot
record IsShortRow (names : ℕ) (sizes : List ℕ) (row : Row) : Type 0 where
  uid : row.uid < 2 ^ 32
  modseq : row.modseq < 2 ^ 64
  rise : Rise 0 row.keywords
  below : Below names row.keywords
  parts : map length row.parts ≡ sizes

below_words : (n : ℕ) (ks : List ℕ) → Below n ks → Below (32 * keyword_words n) ks
below_words n [] below = tt
below_words n (k ∷ ks) below = let low = below.0 in (omega (arith, low), below_words n ks below.1)

same_row_of : (x y : Row) → x.uid ≡ y.uid → x.flags ≡ y.flags → x.keywords ≡ y.keywords
    → x.parts ≡ y.parts → x.modseq ≡ y.modseq → x ≡ y
same_row_of x y uid flags keywords parts modseq = λ i. record { uid = uid i; flags = flags i; keywords = keywords i; parts = parts i; modseq = modseq i }

-- the keywords and the parts behind a row's numbers
behind_one : (n : ℕ) (sizes : List ℕ) (x y : Row) (b b' : List ℕ) → IsShortRow n sizes x
    → IsShortRow n sizes y
    → keyword_bits n x.keywords ++ flat_map filled x.parts ++ b ≡ keyword_bits n y.keywords ++ flat_map filled y.parts ++ b'
    → (x.keywords ≡ y.keywords) × (x.parts ≡ y.parts) × (b ≡ b')
behind_one n sizes x y b b' p q e =
    let joined = sym (append_assoc (keyword_bits n x.keywords) (flat_map filled x.parts) b) ∙ e ∙ append_assoc (keyword_bits n y.keywords) (flat_map filled y.parts) b' in
    let bits = words_one 0 (keyword_words n) x.keywords y.keywords (flat_map filled x.parts ++ b) (flat_map filled y.parts ++ b') p.rise q.rise joined in
    let keywords = bits_one (keyword_words n) 0 x.keywords y.keywords p.rise q.rise (below_words n x.keywords p.below) (below_words n y.keywords q.below) (λ word high. bits.0 word (omega arith) (omega (arith, high))) in
    let parts = filled_parts_one x.parts y.parts b b' (p.parts ∙ sym q.parts) bits.1 in
    (keywords, parts.0, parts.1)

-- a row with this many keywords in the table
abbrev row_of : ℕ → ℕ → Row → List ℕ
row_of version n row = to_le_bytes w32 row.uid ++ row.flags ∷ 0 ∷ 0 ∷ 0 ∷ modseq_text version row ++ keyword_bits n row.keywords ++ flat_map filled row.parts

-- rows of version 2
row_one : (n : ℕ) (sizes : List ℕ) (x y : Row) (b b' : List ℕ) → IsShortRow n sizes x
    → IsShortRow n sizes y → row_of 2 n x ++ b ≡ row_of 2 n y ++ b' → (x ≡ y) × (b ≡ b')
row_one n sizes x y b b' p q e =
    let uid = word_one x.uid y.uid p.uid q.uid (ap (take 4) e) in
    let flags : x.flags ≡ y.flags = ap (λ t. slice_index t 4) e in
    let modseq = wide_one x.modseq y.modseq p.modseq q.modseq (ap (λ t. take 8 (drop 8 t)) e) in
    let behind = behind_one n sizes x y b b' p q (ap (drop 16) e) in
    (same_row_of x y uid flags behind.0 behind.1 modseq, behind.2)

-- rows of version 1, all of whose numbers are 1
old_row_one : (n : ℕ) (sizes : List ℕ) (x y : Row) (b b' : List ℕ) → IsShortRow n sizes x
    → IsShortRow n sizes y → x.modseq ≡ y.modseq → row_of 1 n x ++ b ≡ row_of 1 n y ++ b'
    → (x ≡ y) × (b ≡ b')
old_row_one n sizes x y b b' p q modseq e =
    let uid = word_one x.uid y.uid p.uid q.uid (ap (take 4) e) in
    let flags : x.flags ≡ y.flags = ap (λ t. slice_index t 4) e in
    let behind = behind_one n sizes x y b b' p q (ap (drop 8) e) in
    (same_row_of x y uid flags behind.0 behind.1 modseq, behind.2)

rows_one : (n : ℕ) (sizes : List ℕ) (xs ys : List Row) (b b' : List ℕ) → length xs ≡ length ys
    → AllByRecursion (IsShortRow n sizes) xs → AllByRecursion (IsShortRow n sizes) ys
    → flat_map (row_of 2 n) xs ++ b ≡ flat_map (row_of 2 n) ys ++ b' → xs ≡ ys
rows_one n sizes [] [] b b' same p q e = refl
rows_one n sizes [] (y ∷ ys) b b' same p q e = absurd (omega (arith, same))
rows_one n sizes (x ∷ xs) [] b b' same p q e = absurd (omega (arith, same))
rows_one n sizes (x ∷ xs) (y ∷ ys) b b' same p q e =
    let joined = sym (append_assoc (row_of 2 n x) (flat_map (row_of 2 n) xs) b) ∙ e ∙ append_assoc (row_of 2 n y) (flat_map (row_of 2 n) ys) b' in
    let first = row_one n sizes x y (flat_map (row_of 2 n) xs ++ b) (flat_map (row_of 2 n) ys ++ b') p.0 q.0 joined in
    ap (λ z. z ∷ xs) first.0 ∙ ap (λ zs. y ∷ zs) (rows_one n sizes xs ys b b' (omega (arith, same)) p.1 q.1 first.1)

old_rows_one : (n : ℕ) (sizes : List ℕ) (xs ys : List Row) (b b' : List ℕ) → length xs ≡ length ys
    → AllByRecursion (IsShortRow n sizes) xs → AllByRecursion (IsShortRow n sizes) ys
    → AllByRecursion (λ row. row.modseq ≡ 1) xs → AllByRecursion (λ row. row.modseq ≡ 1) ys
    → flat_map (row_of 1 n) xs ++ b ≡ flat_map (row_of 1 n) ys ++ b' → xs ≡ ys
old_rows_one n sizes [] [] b b' same p q r s e = refl
old_rows_one n sizes [] (y ∷ ys) b b' same p q r s e = absurd (omega (arith, same))
old_rows_one n sizes (x ∷ xs) [] b b' same p q r s e = absurd (omega (arith, same))
old_rows_one n sizes (x ∷ xs) (y ∷ ys) b b' same p q r s e =
    let joined = sym (append_assoc (row_of 1 n x) (flat_map (row_of 1 n) xs) b) ∙ e ∙ append_assoc (row_of 1 n y) (flat_map (row_of 1 n) ys) b' in
    let first = old_row_one n sizes x y (flat_map (row_of 1 n) xs ++ b) (flat_map (row_of 1 n) ys ++ b') p.0 q.0 (r.0 ∙ sym s.0) joined in
    ap (λ z. z ∷ xs) first.0 ∙ ap (λ zs. y ∷ zs) (old_rows_one n sizes xs ys b b' (omega (arith, same)) p.1 q.1 r.1 s.1 first.1)

-- ---- the header

-- its numbers
pub record Fields : Type 0 where
  pub header_size : ℕ
  pub row_size : ℕ
  pub indexid : ℕ
  pub validity : ℕ
  pub next_uid : ℕ
  pub rows : ℕ
  pub file_seq : ℕ
  pub offset : ℕ
  pub names : ℕ
  pub extensions : ℕ
  pub seen : ℕ
  pub deleted : ℕ

pub record AreWords (f : Fields) : Type 0 where
  pub ids : (f.indexid < 2 ^ 32) × (f.validity < 2 ^ 32) × (f.next_uid < 2 ^ 32)
  pub place : (f.file_seq < 2 ^ 32) × (f.offset < 2 ^ 32)
  pub counts : (f.rows < 2 ^ 32) × (f.names < 2 ^ 32) × (f.extensions < 2 ^ 32)

abbrev pub IsShortCurrent : Option Current → Type 0
IsShortCurrent c = IfSome c (λ current. (current.extension + 1 < 2 ^ 32) × (current.size < 2 ^ 32))

abbrev pub whole : ℕ → Fields → Option Current → List ℕ → List ℕ → List ℕ → List ℕ
whole version f c highest tables rows =
    (201 ∷ version ∷ to_le_bytes w16 120
    ++ to_le_bytes w32 f.header_size ++ to_le_bytes w32 f.row_size ++ to_le_bytes w32 0
    ++ to_le_bytes w32 f.indexid ++ to_le_bytes w32 0 ++ to_le_bytes w32 f.validity ++ to_le_bytes w32 f.next_uid
    ++ to_le_bytes w32 f.rows ++ to_le_bytes w32 f.file_seq ++ to_le_bytes w32 f.offset
    ++ to_le_bytes w32 f.names ++ to_le_bytes w32 f.extensions ++ current_text c
    ++ to_le_bytes w32 f.seen ++ to_le_bytes w32 f.deleted ++ highest) ++ tables ++ rows

-- what two equal texts have in common
record AreAlike (f g : Fields) (c d : Option Current) (behind other : List ℕ) : Type 0 where
  indexid : f.indexid ≡ g.indexid
  validity : f.validity ≡ g.validity
  next_uid : f.next_uid ≡ g.next_uid
  rows : f.rows ≡ g.rows
  file_seq : f.file_seq ≡ g.file_seq
  offset : f.offset ≡ g.offset
  names : f.names ≡ g.names
  extensions : f.extensions ≡ g.extensions
  current : c ≡ d
  rest : behind ≡ other

module _ (v : ℕ) (f g : Fields) (hi hi' ts ts' rs rs' : List ℕ) (p : AreWords f) (q : AreWords g) where
  currents_one : (c d : Option Current) → IsShortCurrent c → IsShortCurrent d
      → whole v f c hi ts rs ≡ whole v g d hi' ts' rs'
      → (c ≡ d) × (hi ++ ts ++ rs ≡ hi' ++ ts' ++ rs')
  currents_one None None r s e = (refl, ap (drop 68) e)
  currents_one None (Some y) r s e = let one : 0 ≡ y.extension + 1 = word_one 0 (y.extension + 1) (omega arith) s.0 (ap (λ t. take 4 (drop 52 t)) e) in absurd (omega (arith, one))
  currents_one (Some x) None r s e = let one : x.extension + 1 ≡ 0 = word_one (x.extension + 1) 0 r.0 (omega arith) (ap (λ t. take 4 (drop 52 t)) e) in absurd (omega (arith, one))
  currents_one (Some x) (Some y) r s e =
      let place = word_one (x.extension + 1) (y.extension + 1) r.0 s.0 (ap (λ t. take 4 (drop 52 t)) e) in
      let extension : x.extension ≡ y.extension = omega (arith, place) in
      let size = word_one x.size y.size r.1 s.1 (ap (λ t. take 4 (drop 56 t)) e) in
      (λ i. Some (record { extension = extension i; size = size i }), ap (drop 68) e)

  headers_one : (c d : Option Current) → IsShortCurrent c → IsShortCurrent d
      → whole v f c hi ts rs ≡ whole v g d hi' ts' rs'
      → AreAlike f g c d (hi ++ ts ++ rs) (hi' ++ ts' ++ rs')
  headers_one c d r s e =
      let both = currents_one c d r s e in
      record {
        indexid = word_one f.indexid g.indexid p.ids.0 q.ids.0 (ap (λ t. take 4 (drop 16 t)) e);
        validity = word_one f.validity g.validity p.ids.1 q.ids.1 (ap (λ t. take 4 (drop 24 t)) e);
        next_uid = word_one f.next_uid g.next_uid p.ids.2 q.ids.2 (ap (λ t. take 4 (drop 28 t)) e);
        rows = word_one f.rows g.rows p.counts.0 q.counts.0 (ap (λ t. take 4 (drop 32 t)) e);
        file_seq = word_one f.file_seq g.file_seq p.place.0 q.place.0 (ap (λ t. take 4 (drop 36 t)) e);
        offset = word_one f.offset g.offset p.place.1 q.place.1 (ap (λ t. take 4 (drop 40 t)) e);
        names = word_one f.names g.names p.counts.1 q.counts.1 (ap (λ t. take 4 (drop 44 t)) e);
        extensions = word_one f.extensions g.extensions p.counts.2 q.counts.2 (ap (λ t. take 4 (drop 48 t)) e);
        current = both.0;
        rest = both.1;
      }

-- ---- what is known of a snapshot

pub each_of_all : {X : Type 0} (P Q : X → Type 0) → ((x : X) → P x → Q x) → (xs : List X) → All P xs
    → AllByRecursion Q xs
each_of_all P Q weaker [] all = tt
each_of_all P Q weaker (x ∷ xs) all = (weaker x (All-head P x xs all), each_of_all P Q weaker xs (All-tail P x xs all))

pub rise_behind : (n : ℕ) (ns : List ℕ) → IsStrictlyIncreasing (n ∷ ns) → Rise (n + 1) ns
rise_behind n [] up = tt
rise_behind n (m ∷ ns) up = let step = up 0 (omega arith) in (omega (arith, step), rise_behind m ns (rising_tail n (m ∷ ns) up))

pub rise_of : (ns : List ℕ) → IsStrictlyIncreasing ns → Rise 0 ns
rise_of [] up = tt
rise_of (n ∷ ns) up = (omega arith, rise_behind n ns up)

pub below_of : (n : ℕ) (ks : List ℕ) → All (λ k. k < n) ks → Below n ks
below_of n [] all = tt
below_of n (k ∷ ks) all = (All-head (λ j. j < n) k ks all, below_of n ks (All-tail (λ j. j < n) k ks all))

-- rising numbers below a bound are no more than the bound
pub few : (n bound : ℕ) (rows : List Row) → n ≤ bound → Rise n (map (λ row. row.uid) rows)
    → AllByRecursion (λ row. row.uid < bound) rows → n + length rows ≤ bound
few n bound [] le rise below = omega arith
few n bound (row ∷ rows) le rise below = let low = below.0 in let rest = few (row.uid + 1) bound rows (omega arith) rise.1 below.1 in omega (arith, rest, rise.0)

-- each keyword takes bytes of the tables
pub names_in_tables : (ns : List (List ℕ)) → length ns ≤ length (flat_map keyword_text ns)
names_in_tables [] = omega arith
names_in_tables (n ∷ ns) =
    let rest = names_in_tables ns in
    omega (arith, rest, length-append (keyword_text n) (flat_map keyword_text ns), length-append (to_le_bytes w16 (length n) ++ n) (replicate (padding (length (to_le_bytes w16 (length n) ++ n))) 0))

short_current : (es : List Extension) (k size : ℕ) → AllByRecursion (λ e. e.record_size < 2 ^ 16) es
    → IsSomeAnd (slice_get es k) (λ e. size ≤ e.record_size) → (k < length es) × (size < 2 ^ 16)
short_current [] k size short there = absurd there
short_current (e ∷ es) zero size short there = let low = short.0 in (omega arith, omega (arith, low, there))
short_current (e ∷ es) (suc k) size short there = let rest = short_current es k size short.1 there in (omega (arith, rest.0), rest.1)

current_of : (es : List Extension) (c : Option Current) → length es ≤ 16
    → AllByRecursion (λ e. e.record_size < 2 ^ 16) es
    → IfSome c (λ c. IsSomeAnd (slice_get es c.extension) (λ e. c.size ≤ e.record_size))
    → IsShortCurrent c
current_of es None le short there = tt
current_of es (Some c) le short there = let both = short_current es c.extension c.size short there in (omega (arith, both.0, le), omega (arith, both.1))

pub extensions_of : (es : List Extension) → All HasFieldsOf es
    → All (λ e. (1 ≤ length e.name) × (length e.name ≤ 255) × (e.name ≡ codes "keywords" → ⊥)) es
    → All (λ e. length e.header ≤ 65536) es → AllByRecursion IsShortExtension es
extensions_of [] fields names headers = tt
extensions_of (e ∷ es) fields names headers =
    let field = All-head HasFieldsOf e es fields in
    let name = All-head (λ x. (1 ≤ length x.name) × (length x.name ≤ 255) × (x.name ≡ codes "keywords" → ⊥)) e es names in
    let header = All-head (λ x. length x.header ≤ 65536) e es headers in (
      record { numbers = field.numbers; texts = (omega (arith, name.1), omega (arith, header)) },
      extensions_of es (All-tail HasFieldsOf e es fields) (All-tail (λ x. (1 ≤ length x.name) × (length x.name ≤ 255) × (x.name ≡ codes "keywords" → ⊥)) e es names) (All-tail (λ x. length x.header ≤ 65536) e es headers),
    )

abbrev sizes_of : Mailbox → List ℕ
sizes_of m = map (λ e. e.record_size) m.extensions

row_of_valid : (m : Mailbox) → IsValid m → (row : Row) → IsRowOf m row
    → IsShortRow (length m.keywords) (sizes_of m) row
row_of_valid m valid row is = record {
  uid = omega (arith, is.uid.1, valid.next_uid.1);
  modseq = omega (arith, is.modseq.1, valid.highest.1);
  rise = rise_of row.keywords is.keywords.0;
  below = below_of (length m.keywords) row.keywords is.keywords.1;
  parts = is.parts;
}

abbrev pub fields_of : ℕ → Mailbox → ℕ → Mark → Fields
fields_of version m indexid mark = record {
  header_size = 120 + length (tables_text m);
  row_size = row_size version m;
  indexid = indexid;
  validity = m.uid_validity;
  next_uid = m.next_uid;
  rows = length m.rows;
  file_seq = mark.file_seq;
  offset = mark.offset;
  names = length m.keywords;
  extensions = length m.extensions;
  seen = rows_with 8 m;
  deleted = rows_with 4 m;
}

module _ (version : ℕ) (m : Mailbox) (indexid : ℕ) (mark : Mark) (b : List ℕ) (is : IsSnapshot version m indexid mark b) where
  short_names : AreShort m.keywords
  short_names = each_of_all IsName (λ name. length name < 2 ^ 16) (λ name h. omega (arith, h.size.1)) m.keywords is.valid.names.0

  short_extensions : AllByRecursion IsShortExtension m.extensions
  short_extensions = extensions_of m.extensions is.fits.extensions is.valid.extensions.names is.valid.extensions.headers

  short_rows : AllByRecursion (IsShortRow (length m.keywords) (sizes_of m)) m.rows
  short_rows = each_of_all (IsRowOf m) (IsShortRow (length m.keywords) (sizes_of m)) (row_of_valid m is.valid) m.rows is.valid.rows

  pub small_current : IsShortCurrent m.current
  small_current = current_of m.extensions m.current is.valid.extensions.count (each_of_all HasFieldsOf (λ e. e.record_size < 2 ^ 16) (λ e h. h.numbers.1) m.extensions is.fits.extensions) is.valid.current

  pub are_words : AreWords (fields_of version m indexid mark)
  are_words =
      let rows = few 0 m.next_uid m.rows (omega arith) (rise_of (map (λ row. row.uid) m.rows) is.valid.rising) (each_of_all (IsRowOf m) (λ row. row.uid < m.next_uid) (λ row h. h.uid.1) m.rows is.valid.rows) in
      let names = names_in_tables m.keywords in
      let tables = length-append (flat_map keyword_text m.keywords) (flat_map extension_text m.extensions) in
      record {
        ids = (is.fits.named.1, is.fits.validity, is.valid.next_uid.1);
        place = is.fits.place;
        counts = (omega (arith, rows, is.valid.next_uid.1), omega (arith, names, tables, is.fits.tables), omega (arith, is.valid.extensions.count));
      }

-- ---- the whole text

same_mailbox : (m m' : Mailbox) → m.uid_validity ≡ m'.uid_validity → m.next_uid ≡ m'.next_uid
    → m.rows ≡ m'.rows → m.keywords ≡ m'.keywords → m.extensions ≡ m'.extensions
    → m.current ≡ m'.current → m.highest ≡ m'.highest → m ≡ m'
same_mailbox m m' validity next_uid rows keywords extensions current highest =
    λ i. record { uid_validity = validity i; next_uid = next_uid i; rows = rows i; keywords = keywords i; extensions = extensions i; current = current i; highest = highest i }

tables_one : (m m' : Mailbox) (r r' : List ℕ) → length m.keywords ≡ length m'.keywords
    → length m.extensions ≡ length m'.extensions → AreShort m.keywords → AreShort m'.keywords
    → AllByRecursion IsShortExtension m.extensions → AllByRecursion IsShortExtension m'.extensions
    → tables_text m ++ r ≡ tables_text m' ++ r'
    → (m.keywords ≡ m'.keywords) × (m.extensions ≡ m'.extensions) × (r ≡ r')
tables_one m m' r r' names extensions p q s t e =
    let joined = sym (append_assoc (flat_map keyword_text m.keywords) (flat_map extension_text m.extensions) r) ∙ e ∙ append_assoc (flat_map keyword_text m'.keywords) (flat_map extension_text m'.extensions) r' in
    let first = names_one m.keywords m'.keywords (flat_map extension_text m.extensions ++ r) (flat_map extension_text m'.extensions ++ r') names p q joined in
    let second = extensions_one m.extensions m'.extensions r r' extensions s t first.1 in
    (first.0, second.0, second.1)

abbrev Same : Mailbox → Mailbox → ℕ → ℕ → Mark → Mark → Type 0
Same m m' indexid indexid' mark mark' = (m ≡ m') × (indexid ≡ indexid') × (mark ≡ mark')

module _ (m m' : Mailbox) (indexid indexid' : ℕ) (mark mark' : Mark) (b : List ℕ) where
  moved_rows : length m.keywords ≡ length m'.keywords → m.extensions ≡ m'.extensions
      → AllByRecursion (IsShortRow (length m'.keywords) (sizes_of m')) m'.rows
      → AllByRecursion (IsShortRow (length m.keywords) (sizes_of m)) m'.rows
  moved_rows names extensions short =
      subst (λ n. AllByRecursion (IsShortRow n (sizes_of m)) m'.rows) (sym names) (subst (λ es. AllByRecursion (IsShortRow (length m'.keywords) (map (λ e. e.record_size) es)) m'.rows) (sym extensions) short)

  new_one : IsSnapshot 2 m indexid mark b → IsSnapshot 2 m' indexid' mark' b
      → Same m m' indexid indexid' mark mark'
  new_one p q =
      let alike = headers_one 2 (fields_of 2 m indexid mark) (fields_of 2 m' indexid' mark') (highest_text 2 m) (highest_text 2 m') (tables_text m) (tables_text m') (flat_map (row_text 2 m) m.rows) (flat_map (row_text 2 m') m'.rows)
      (are_words 2 m indexid mark b p) (are_words 2 m' indexid' mark' b q) m.current m'.current (small_current 2 m indexid mark b p) (small_current 2 m' indexid' mark' b q) (sym p.text ∙ q.text) in
      let highest = wide_one m.highest m'.highest (omega (arith, p.valid.highest.1)) (omega (arith, q.valid.highest.1)) (ap (take 8) alike.rest) in
      let tables = tables_one m m' (flat_map (row_text 2 m) m.rows) (flat_map (row_text 2 m') m'.rows) alike.names alike.extensions (short_names 2 m indexid mark b p) (short_names 2 m' indexid' mark' b q)
      (short_extensions 2 m indexid mark b p) (short_extensions 2 m' indexid' mark' b q) (ap (drop 52) alike.rest) in
      let texts : flat_map (row_of 2 (length m.keywords)) m.rows ++ [] ≡ flat_map (row_of 2 (length m.keywords)) m'.rows ++ [] =
      append-nil (flat_map (row_text 2 m) m.rows) ∙ tables.2 ∙ ap (λ n. flat_map (row_of 2 n) m'.rows) (sym alike.names) ∙ sym (append-nil (flat_map (row_of 2 (length m.keywords)) m'.rows)) in
      let rows = rows_one (length m.keywords) (sizes_of m) m.rows m'.rows [] [] alike.rows (short_rows 2 m indexid mark b p) (moved_rows alike.names tables.1 (short_rows 2 m' indexid' mark' b q)) texts in
      (same_mailbox m m' alike.validity alike.next_uid rows tables.0 tables.1 alike.current highest, alike.indexid, λ i. record { file_seq = alike.file_seq i; offset = alike.offset i })

  old_one : IsSnapshot 1 m indexid mark b → IsSnapshot 1 m' indexid' mark' b
      → Same m m' indexid indexid' mark mark'
  old_one p q =
      let alike = headers_one 1 (fields_of 1 m indexid mark) (fields_of 1 m' indexid' mark') (highest_text 1 m) (highest_text 1 m') (tables_text m) (tables_text m') (flat_map (row_text 1 m) m.rows) (flat_map (row_text 1 m') m'.rows)
      (are_words 1 m indexid mark b p) (are_words 1 m' indexid' mark' b q) m.current m'.current (small_current 1 m indexid mark b p) (small_current 1 m' indexid' mark' b q) (sym p.text ∙ q.text) in
      let ones = p.numbered refl in
      let others = q.numbered refl in
      let tables = tables_one m m' (flat_map (row_text 1 m) m.rows) (flat_map (row_text 1 m') m'.rows) alike.names alike.extensions (short_names 1 m indexid mark b p) (short_names 1 m' indexid' mark' b q)
      (short_extensions 1 m indexid mark b p) (short_extensions 1 m' indexid' mark' b q) (ap (drop 52) alike.rest) in
      let texts : flat_map (row_of 1 (length m.keywords)) m.rows ++ [] ≡ flat_map (row_of 1 (length m.keywords)) m'.rows ++ [] =
      append-nil (flat_map (row_text 1 m) m.rows) ∙ tables.2 ∙ ap (λ n. flat_map (row_of 1 n) m'.rows) (sym alike.names) ∙ sym (append-nil (flat_map (row_of 1 (length m.keywords)) m'.rows)) in
      let rows = old_rows_one (length m.keywords) (sizes_of m) m.rows m'.rows [] [] alike.rows (short_rows 1 m indexid mark b p) (moved_rows alike.names tables.1 (short_rows 1 m' indexid' mark' b q))
      (each_of_all (λ row. row.modseq ≡ 1) (λ row. row.modseq ≡ 1) (λ row h. h) m.rows ones.1) (each_of_all (λ row. row.modseq ≡ 1) (λ row. row.modseq ≡ 1) (λ row h. h) m'.rows others.1) texts in
      (same_mailbox m m' alike.validity alike.next_uid rows tables.0 tables.1 alike.current (ones.0 ∙ sym others.0), alike.indexid, λ i. record { file_seq = alike.file_seq i; offset = alike.offset i })

  of_version : (v : ℕ) → IsSnapshot v m indexid mark b → IsSnapshot v m' indexid' mark' b
      → Same m m' indexid indexid' mark mark'
  of_version zero p q = absurd (omega (arith, p.known.0))
  of_version (suc zero) p q = old_one p q
  of_version (suc (suc zero)) p q = new_one p q
  of_version (suc (suc (suc v))) p q = absurd (omega (arith, p.known.1))

pub snapshot_is_one : (version version' : ℕ) (m m' : Mailbox) (indexid indexid' : ℕ)
    (mark mark' : Mark) (b : List ℕ)
    → IsSnapshot version m indexid mark b → IsSnapshot version' m' indexid' mark' b
    → (version ≡ version') × (m ≡ m') × (indexid ≡ indexid') × (mark ≡ mark')
snapshot_is_one version version' m m' indexid indexid' mark mark' b p q =
    let same : version ≡ version' = ap (λ t. slice_index t 1) (sym p.text ∙ q.text) in
    let rest = of_version m m' indexid indexid' mark mark' b version p (subst (λ v. IsSnapshot v m' indexid' mark' b) (sym same) q) in
    (same, rest.0, rest.1, rest.2)
