-- Which records are valid: what is asked of their items.
use Rattle.std.proofs.Common.{◌≡◌, ℕ, ◌+◌, ◌*◌, ◌%◌, ◌^◌, ◌<◌, ◌≤◌, List, [], ◌∷◌, ◌++◌, length, take, replicate, refl, sym, ap, subst, ◌∙◌, append_assoc, arith, inl}
use Rattle.std.specs.List.{flat_map, AllByRecursion}
use Rattle.std.specs.Int.{w16, to_le_bytes}
use Rattle.std.proofs.Math.Nat.{mul-suc}
use Rattle.std.proofs.lemmas.List.{length-append, length-replicate, take_at, drop_at}
use Rattle.std.proofs.lemmas.List.Concat.{flat_map-cons}
use Rattle.dv_model.specs.declared.types.Body.TheVariants.{Expunge, Append, FlagUpdate, HeaderUpdate, ExtIntro, ExtReset, ExtHeaderUpdate, ExtRecordUpdate, KeywordUpdate, KeywordReset, ExpungeGuid}
use Rattle.dv_model.specs.declared.types.Change.{Change}
use Rattle.dv_model.specs.declared.types.GuidRow.{GuidRow}
use Rattle.dv_model.specs.declared.types.How.{How}
use Rattle.dv_model.specs.declared.types.Intro.{Intro}
use Rattle.dv_model.specs.declared.types.NewRow.{NewRow}
use Rattle.dv_model.specs.declared.types.Pair.{Pair}
use Rattle.dv_model.specs.declared.types.Part.{Part}
use Rattle.dv_model.specs.declared.types.Record.{Record}
use Rattle.dv_model.specs.Names.{IsName}
use Rattle.dv_model.specs.Spelling.{AreEnds, AreIntroNumbers, ArePairs, AreParts, InTurn, IsChange, IsGuidRow, IsIntro, IsKeywordUpdate, IsNewRow, IsPair, IsPart, IsPayload, IsRecord, IsUid, Spells, change_text, guid_row_text, how_code, intro_head, intro_text, keyword_text, new_row_text, padded, padding, pair_text, part_text, payload_text, size_code, written}
use Rattle.dv_records.proofs.InTurn.{IsSized}
use Rattle.dv_records.proofs.Payloads.{sized_changes, sized_guid_rows, sized_intros, sized_new_rows, sized_pairs, sized_parts}

-- ---- a list of items

-- the texts of items, one behind another
pub texts_in_turn : {A : Type 0} (size : A → ℕ) (Is : A → List ℕ → Type 0) (text : A → List ℕ)
    → IsSized size Is → (xs : List A) → AllByRecursion (λ x. Is x (text x)) xs
    → InTurn size Is xs (flat_map text xs)
texts_in_turn size Is text sizes [] all = refl
texts_in_turn size Is text sizes (x ∷ xs) all =
    let n : length (text x) ≡ size x = sizes.sized x (text x) all.0 in
    let rest : List ℕ = flat_map text xs in
    let others : InTurn size Is xs rest = texts_in_turn size Is text sizes xs all.1 in
    let joined : InTurn size Is (x ∷ xs) (text x ++ rest) = (subst (Is x) (sym (take_at (text x) rest (size x) n)) all.0, subst (InTurn size Is xs) (sym (drop_at (text x) rest (size x) n)) others) in
    subst (InTurn size Is (x ∷ xs)) (sym (flat_map-cons text x xs)) joined

-- items of one size
pub texts_length : {A : Type 0} (text : A → List ℕ) (n : ℕ) → (xs : List A)
    → AllByRecursion (λ x. length (text x) ≡ n) xs → length (flat_map text xs) ≡ n * length xs
texts_length text n [] all = omega arith
texts_length text n (x ∷ xs) all =
    let others : length (flat_map text xs) ≡ n * length xs = texts_length text n xs all.1 in
    ap length (flat_map-cons text x xs) ∙ omega (arith, length-append (text x) (flat_map text xs), others, mul-suc n (length xs), all.0)

pub all_to : {A : Type 0} (P Q : A → Type 0) → ((x : A) → P x → Q x) → (xs : List A)
    → AllByRecursion P xs → AllByRecursion Q xs
all_to P Q each [] all = tt
all_to P Q each (x ∷ xs) all = (each x all.0, all_to P Q each xs all.1)

-- ---- the items

-- a text and zero bytes up to a multiple of four, behind a head of whole words
pub padded_text : (head text : List ℕ) (n : ℕ) → length head ≡ n → n % 4 ≡ 0 → let t : List ℕ = head ++ text ++ replicate (padding (length text)) 0 in (length t ≡ padded (n + length text)) × (take (n + length text) t ≡ head ++ text)
padded_text head text n len whole =
    let zeros : List ℕ = replicate (padding (length text)) 0 in
    let both : length (head ++ text) ≡ n + length text = omega (arith, length-append head text) in
    (omega (arith, length-append (head ++ text) zeros, length-replicate {A = ℕ} (padding (length text)) 0), take_at (head ++ text) zeros (n + length text) both)

-- a part that fits its fields
pub record IsValidPart (part : Part) : Type 0 where
  pub place : part.offset < 2 ^ 16
  pub short : length part.bytes < 2 ^ 16

pub pair_spelled : (pair : Pair) → AreEnds pair.first pair.last → IsPair pair (pair_text pair)
pair_spelled pair ends = record { fields = refl; ends = ends }

pub new_row_spelled : (row : NewRow) → IsUid row.uid → IsNewRow row (new_row_text row)
new_row_spelled row uid = record { size = refl; fields = refl; uid = uid }

pub change_spelled : (change : Change) → AreEnds change.first change.last
    → IsChange change (change_text change)
change_spelled change ends = record { size = refl; fields = refl; ends = ends }

pub guid_row_spelled : (row : GuidRow) → IsUid row.uid × (length row.guid ≡ 16)
    → IsGuidRow row (guid_row_text row)
guid_row_spelled row is = record { size = is.1; fields = refl; uid = is.0 }

pub part_spelled : (part : Part) → IsValidPart part → IsPart part (part_text part)
part_spelled part is =
    let t = padded_text (to_le_bytes w16 part.offset ++ to_le_bytes w16 (length part.bytes)) part.bytes 4 refl refl in
    record { size = t.0; fields = t.1; short = is.short; place = is.place }

pub intro_spelled : (intro : Intro) → AreIntroNumbers intro → IsIntro intro (intro_text intro)
intro_spelled intro numbers =
    let t = padded_text (intro_head intro) intro.name 20 refl refl in
    record { size = t.0; fields = t.1; numbers = numbers }

pub keyword_spelled : (how : How) (name : List ℕ) (pairs : List Pair) (rest : List ℕ) → IsName name
    → ArePairs pairs rest → IsKeywordUpdate how name pairs (keyword_text how name ++ rest)
keyword_spelled how name pairs rest keyword ranges =
    let n : ℕ = length name in
    let size : List ℕ = to_le_bytes w16 n in
    let zeros : List ℕ = replicate (padding n) 0 in
    let t = padded_text (how_code how ∷ 0 ∷ size) name 4 refl refl in
    let len : length (size ++ name) ≡ 2 + n = omega (arith, length-append size name) in
    let regrouped : ((size ++ name) ++ zeros) ++ rest ≡ (size ++ name) ++ (zeros ++ rest) = append_assoc (size ++ name) zeros rest in
    record {
      size = omega (arith, t.0, length-append (keyword_text how name) rest);
      modify_type = refl;
      fields = ap (take (2 + n)) regrouped ∙ take_at (size ++ name) (zeros ++ rest) (2 + n) len;
      keyword = keyword;
      ranges = subst (ArePairs pairs) (sym (drop_at (keyword_text how name) rest (padded (4 + n)) t.0)) ranges;
    }

-- ---- the records

-- a record whose written payload spells its body, and is below 2 ^ 23 bytes with the header
pub valid_record : (r : Record) → r.top < 16 → IsPayload r.body (payload_text r.body)
    → length (payload_text r.body) + 8 < 2 ^ 23 → IsRecord r
valid_record r top payload below =
    let text : List ℕ = payload_text r.body in
    let n : 8 + length text ≡ length (written r) = omega arith in
    let spells : Spells r (written r) = record { size = ap size_code n; below = omega arith; type = refl; payload = payload; top = top } in
    record { spells = spells }

-- items of n bytes each
items_below : {A : Type 0} (text : A → List ℕ) (n : ℕ) (xs : List A)
    → AllByRecursion (λ x. length (text x) ≡ n) xs → n * length xs + 8 < 2 ^ 23
    → length (flat_map text xs) + 8 < 2 ^ 23
items_below text n xs all lt = let e = texts_length text n xs all in omega (arith, e)

pub valid_pairs : (pairs : List Pair) → AllByRecursion (λ pair. AreEnds pair.first pair.last) pairs
    → ArePairs pairs (flat_map pair_text pairs)
valid_pairs pairs all = texts_in_turn _ IsPair pair_text sized_pairs pairs (all_to _ _ pair_spelled pairs all)

pair_sizes : (pairs : List Pair) → AllByRecursion (λ pair. length (pair_text pair) ≡ 8) pairs
pair_sizes [] = tt
pair_sizes (pair ∷ pairs) = (refl, pair_sizes pairs)

pub valid_expunge : (top : ℕ) (pairs : List Pair) → top < 16 → AllByRecursion (λ pair. AreEnds pair.first pair.last) pairs → 8 * length pairs + 8 < 2 ^ 23 → IsRecord (record { top = top; body = Expunge pairs })
valid_expunge top pairs lt all below = valid_record (record { top = top; body = Expunge pairs }) lt (valid_pairs pairs all) (items_below pair_text 8 pairs (pair_sizes pairs) below)

pub valid_keyword_reset : (top : ℕ) (pairs : List Pair) → top < 16 → AllByRecursion (λ pair. AreEnds pair.first pair.last) pairs → 8 * length pairs + 8 < 2 ^ 23 → IsRecord (record { top = top; body = KeywordReset pairs })
valid_keyword_reset top pairs lt all below = valid_record (record { top = top; body = KeywordReset pairs }) lt (valid_pairs pairs all) (items_below pair_text 8 pairs (pair_sizes pairs) below)

pub valid_keyword_update : (top : ℕ) (how : How) (name : List ℕ) (pairs : List Pair) → top < 16
    → IsName name → AllByRecursion (λ pair. AreEnds pair.first pair.last) pairs
    → 8 * length pairs + 300 < 2 ^ 23
    → IsRecord (record { top = top; body = KeywordUpdate how name pairs })
valid_keyword_update top how name pairs lt keyword all below =
    let t = padded_text (how_code how ∷ 0 ∷ to_le_bytes w16 (length name)) name 4 refl refl in
    let n = texts_length pair_text 8 pairs (pair_sizes pairs) in
    let small : length name ≤ 255 = keyword.size.1 in
    valid_record (record { top = top; body = KeywordUpdate how name pairs }) lt (keyword_spelled how name pairs (flat_map pair_text pairs) keyword (valid_pairs pairs all))
    (omega (arith, t.0, n, length-append (keyword_text how name) (flat_map pair_text pairs)))

new_row_sizes : (rows : List NewRow) → AllByRecursion (λ row. length (new_row_text row) ≡ 8) rows
new_row_sizes [] = tt
new_row_sizes (row ∷ rows) = (refl, new_row_sizes rows)

pub valid_append : (top : ℕ) (rows : List NewRow) → top < 16 → AllByRecursion (λ row. IsUid row.uid) rows → 8 * length rows + 8 < 2 ^ 23 → IsRecord (record { top = top; body = Append rows })
valid_append top rows lt all below =
    valid_record (record { top = top; body = Append rows }) lt (texts_in_turn _ IsNewRow new_row_text sized_new_rows rows (all_to _ _ new_row_spelled rows all)) (items_below new_row_text 8 rows (new_row_sizes rows) below)

change_sizes : (changes : List Change)
    → AllByRecursion (λ change. length (change_text change) ≡ 12) changes
change_sizes [] = tt
change_sizes (change ∷ changes) = (refl, change_sizes changes)

pub valid_flag_update : (top : ℕ) (changes : List Change) → top < 16 → AllByRecursion (λ change. AreEnds change.first change.last) changes → 12 * length changes + 8 < 2 ^ 23 → IsRecord (record { top = top; body = FlagUpdate changes })
valid_flag_update top changes lt all below =
    valid_record (record { top = top; body = FlagUpdate changes }) lt (texts_in_turn _ IsChange change_text sized_changes changes (all_to _ _ change_spelled changes all)) (items_below change_text 12 changes (change_sizes changes) below)

guid_row_size : (row : GuidRow) → IsUid row.uid × (length row.guid ≡ 16)
    → length (guid_row_text row) ≡ 20
guid_row_size row is = sized_guid_rows.sized row (guid_row_text row) (guid_row_spelled row is)

pub valid_expunge_guid : (top : ℕ) (rows : List GuidRow) → top < 16 → AllByRecursion (λ row. IsUid row.uid × (length row.guid ≡ 16)) rows → 20 * length rows + 8 < 2 ^ 23 → IsRecord (record { top = top; body = ExpungeGuid rows })
valid_expunge_guid top rows lt all below =
    valid_record (record { top = top; body = ExpungeGuid rows }) lt (texts_in_turn _ IsGuidRow guid_row_text sized_guid_rows rows (all_to _ _ guid_row_spelled rows all))
    (items_below guid_row_text 20 rows (all_to _ _ guid_row_size rows all) below)

pub valid_parts : (parts : List Part) → AllByRecursion IsValidPart parts
    → AreParts parts (flat_map part_text parts)
valid_parts parts all = texts_in_turn _ IsPart part_text sized_parts parts (all_to _ _ part_spelled parts all)

pub valid_header_update : (top : ℕ) (parts : List Part) → top < 16 → 1 ≤ length parts → AllByRecursion IsValidPart parts → length (flat_map part_text parts) + 8 < 2 ^ 23 → IsRecord (record { top = top; body = HeaderUpdate parts })
valid_header_update top parts lt some all below = valid_record (record { top = top; body = HeaderUpdate parts }) lt (some, valid_parts parts all) below

pub valid_ext_header_update : (top : ℕ) (parts : List Part) → top < 16 → 1 ≤ length parts → AllByRecursion IsValidPart parts → length (flat_map part_text parts) + 8 < 2 ^ 23 → IsRecord (record { top = top; body = ExtHeaderUpdate parts })
valid_ext_header_update top parts lt some all below = valid_record (record { top = top; body = ExtHeaderUpdate parts }) lt (some, valid_parts parts all) below

pub valid_ext_intro : (top : ℕ) (intros : List Intro) → top < 16 → 1 ≤ length intros → AllByRecursion AreIntroNumbers intros → length (flat_map intro_text intros) + 8 < 2 ^ 23 → IsRecord (record { top = top; body = ExtIntro intros })
valid_ext_intro top intros lt some all below =
    valid_record (record { top = top; body = ExtIntro intros }) lt (some, texts_in_turn _ IsIntro intro_text sized_intros intros (all_to _ _ intro_spelled intros all)) below

pub valid_ext_reset : (top reset_id preserve : ℕ) → top < 16 → reset_id < 2 ^ 32 → IsRecord (record { top = top; body = ExtReset reset_id preserve })
valid_ext_reset top reset_id preserve lt id = valid_record (record { top = top; body = ExtReset reset_id preserve }) lt (id, inl (refl, refl)) (omega arith)

pub valid_ext_record_update : (top : ℕ) (bytes : List ℕ) → top < 16 → length bytes % 4 ≡ 0 → length bytes + 8 < 2 ^ 23 → IsRecord (record { top = top; body = ExtRecordUpdate bytes })
valid_ext_record_update top bytes lt whole below = valid_record (record { top = top; body = ExtRecordUpdate bytes }) lt (refl, whole) below
