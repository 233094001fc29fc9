-- No spelling begins another, and each is of one record.
use Rattle.std.proofs.Common.{◌≡◌, ℕ, ◌+◌, ◌%◌, ◌^◌, ◌<◌, ◌≤◌, List, [], ◌∷◌, ◌++◌, length, get_or, take, drop, Some, refl, sym, ap, subst, ◌∙◌, append_assoc, arith, inl, inr}
use Rattle.std.specs.Int.{w32, from_le_bytes}
use Rattle.std.proofs.lemmas.List.{length-take, length-drop, take-append-drop, take_at, take_all}
use Rattle.std.proofs.lemmas.Nat.{from_le_bytes-to_le_bytes_4}
use Rattle.std.proofs.lemmas.Option.{same_Some}
use Rattle.dv_model.specs.declared.types.Body.{Body}
use Rattle.dv_model.specs.declared.types.Body.TheVariants.{Expunge, Append, FlagUpdate, HeaderUpdate, ExtIntro, ExtReset, ExtHeaderUpdate, ExtRecordUpdate, KeywordUpdate, KeywordReset, ExpungeGuid, Carried}
use Rattle.dv_model.specs.declared.types.How.{How}
use Rattle.dv_model.specs.declared.types.How.TheVariants.{Add, Remove, Replace}
use Rattle.dv_model.specs.declared.types.Pair.{Pair}
use Rattle.dv_model.specs.declared.types.Record.{Record}
use Rattle.dv_model.specs.Spelling.{Spells, IsPayload, IsReset, IsKeywordUpdate, ArePairs, IsPair, IsNewRow, IsChange, IsGuidRow, IsPart, IsIntro, code_of, type_of, size_code, size_value, how_code, padded}
use Rattle.dv_records.specs.Faults.{IsBodyOf}
use Rattle.dv_records.specs.Fronts.{half_at, word_at, pair_front, new_row_front, change_front, guid_row_front, part_front, intro_front}
use Rattle.dv_records.proofs.Codes.{of_expunge, of_append, of_flag_update, of_header_update, of_ext_intro, of_ext_reset, of_ext_header_update, of_ext_record_update, of_keyword_update, of_keyword_reset, of_expunge_guid, of_carried}
use Rattle.dv_records.proofs.Fronts.{pair_reads, new_row_reads, change_reads, guid_row_reads, part_reads, intro_reads, word_read, half_read, byte_read, inner}
use Rattle.dv_records.proofs.Loop.{in_turn-one}
use Rattle.dv_records.proofs.Payloads.{payload-whole}
use Rattle.dv_records.proofs.Sizes.{value_of_code}

-- ---- a payload is of one body of its code

reset_id_is : (reset_id preserve : ℕ) (b : List ℕ) → IsReset reset_id preserve b
    → word_at b 0 ≡ reset_id
reset_id_is reset_id preserve b is =
    elim is.1 [
      | inl long ↦ word_read b _ 0 5 reset_id (omega arith) long.1 refl is.0
      | inr short ↦ word_read b _ 0 4 reset_id (omega arith) (ap (take 4) short.0) refl is.0
    ]

preserve_is : (reset_id preserve : ℕ) (b : List ℕ) → IsReset reset_id preserve b
    → get_or b 4 0 ≡ preserve
preserve_is reset_id preserve b is =
    elim is.1 [
      | inl long ↦ byte_read b _ 4 5 (omega arith) long.1
      | inr short ↦ ap (λ (t : List ℕ). get_or t 4 0) short.0 ∙ sym short.1
    ]

how_one : (how other : How) → how_code how ≡ how_code other → how ≡ other
how_one Add Add e = refl
how_one Remove Remove e = refl
how_one Replace Replace e = refl
how_one how other e = absurd (omega arith)

head_is : (a c : ℕ) → a ∷ [] ≡ c ∷ [] → a ≡ c
head_is a c e = cc

size_is : (how : How) (name : List ℕ) (pairs : List Pair) (b : List ℕ)
    → IsKeywordUpdate how name pairs b → half_at (drop 2 b) 0 ≡ length name
size_is how name pairs b is = half_read (drop 2 b) _ 0 (2 + length name) (length name) (omega arith) is.fields refl (omega (arith, is.keyword.size.1))

name_is : (how : How) (name : List ℕ) (pairs : List Pair) (b : List ℕ)
    → IsKeywordUpdate how name pairs b → take (length name) (drop 2 (drop 2 b)) ≡ name
name_is how name pairs b is =
    sym (inner 2 (length name) (2 + length name) (drop 2 b) (omega arith)) ∙ ap (λ (t : List ℕ). take (length name) (drop 2 t)) is.fields ∙ take_all (length name) name (omega arith)

keyword_one : (how : How) (name : List ℕ) (pairs : List Pair) (how' : How) (name' : List ℕ)
    (pairs' : List Pair) (b : List ℕ)
    → IsKeywordUpdate how name pairs b → IsKeywordUpdate how' name' pairs' b
    → KeywordUpdate how name pairs ≡ KeywordUpdate how' name' pairs'
keyword_one how name pairs how' name' pairs' b p q =
    let hows : how ≡ how' = how_one how how' (head_is _ _ (sym p.modify_type ∙ q.modify_type)) in
    let sizes : length name ≡ length name' = sym (size_is how name pairs b p) ∙ size_is how' name' pairs' b q in
    let names : name ≡ name' = sym (name_is how name pairs b p) ∙ ap (λ (n : ℕ). take n (drop 2 (drop 2 b))) sizes ∙ name_is how' name' pairs' b q in
    let ranges = subst (λ (n : ℕ). ArePairs pairs' (drop (padded (4 + n)) b)) (sym sizes) q.ranges in
    let same : pairs ≡ pairs' = in_turn-one _ IsPair pair_front pair_reads pairs pairs' (drop (padded (4 + length name)) b) p.ranges ranges in
    rw (hows, names, same) refl

pub payload_one : (body other : Body) (b : List ℕ) → IsPayload body b
    → IsBodyOf (code_of body) b other → body ≡ other
payload_one (Expunge pairs) other b p q = let o = of_expunge b other q in ap (λ xs. Expunge xs) (in_turn-one _ IsPair pair_front pair_reads pairs o.0 b p o.2) ∙ sym o.1
payload_one (Append rows) other b p q = let o = of_append b other q in ap (λ xs. Append xs) (in_turn-one _ IsNewRow new_row_front new_row_reads rows o.0 b p o.2) ∙ sym o.1
payload_one (FlagUpdate changes) other b p q = let o = of_flag_update b other q in ap (λ xs. FlagUpdate xs) (in_turn-one _ IsChange change_front change_reads changes o.0 b p o.2) ∙ sym o.1
payload_one (HeaderUpdate parts) other b p q = let o = of_header_update b other q in ap (λ xs. HeaderUpdate xs) (in_turn-one _ IsPart part_front part_reads parts o.0 b p.1 o.2.1) ∙ sym o.1
payload_one (ExtIntro intros) other b p q = let o = of_ext_intro b other q in ap (λ xs. ExtIntro xs) (in_turn-one _ IsIntro intro_front intro_reads intros o.0 b p.1 o.2.1) ∙ sym o.1
payload_one (ExtReset reset_id preserve) other b p q =
    let o = of_ext_reset b other q in
    let ids : reset_id ≡ o.0 = sym (reset_id_is reset_id preserve b p) ∙ reset_id_is o.0 o.1 b o.3 in
    let preserves : preserve ≡ o.1 = sym (preserve_is reset_id preserve b p) ∙ preserve_is o.0 o.1 b o.3 in
    ap (λ (n : ℕ). ExtReset n preserve) ids ∙ ap (λ (n : ℕ). ExtReset o.0 n) preserves ∙ sym o.2
payload_one (ExtHeaderUpdate parts) other b p q = let o = of_ext_header_update b other q in ap (λ xs. ExtHeaderUpdate xs) (in_turn-one _ IsPart part_front part_reads parts o.0 b p.1 o.2.1) ∙ sym o.1
payload_one (ExtRecordUpdate bytes) other b p q = let o = of_ext_record_update b other q in ap (λ xs. ExtRecordUpdate xs) (sym p.0 ∙ o.2.0) ∙ sym o.1
payload_one (KeywordUpdate how name pairs) other b p q = let o = of_keyword_update b other q in keyword_one how name pairs o.0 o.1 o.2 b p o.4 ∙ sym o.3
payload_one (KeywordReset pairs) other b p q = let o = of_keyword_reset b other q in ap (λ xs. KeywordReset xs) (in_turn-one _ IsPair pair_front pair_reads pairs o.0 b p o.2) ∙ sym o.1
payload_one (ExpungeGuid rows) other b p q = let o = of_expunge_guid b other q in ap (λ xs. ExpungeGuid xs) (in_turn-one _ IsGuidRow guid_row_front guid_row_reads rows o.0 b p o.2) ∙ sym o.1
payload_one (Carried code bytes) other b p q = let o = of_carried code b other p.0 q in ap (λ xs. Carried code xs) (sym p.1.0 ∙ o.2.0) ∙ sym o.1

-- ---- a spelling is of one record

pub code_below : (body : Body) (b : List ℕ) → IsPayload body b → code_of body < 2 ^ 28
code_below (Carried code bytes) b is = is.0.0
code_below body b is = omega arith

pub spelling_long : (r : Record) (b : List ℕ) → Spells r b → 8 ≤ length b
spelling_long r b is = let n : length (take 4 (drop 4 b)) ≡ 4 = ap length is.type in omega (arith, length-take 4 (drop 4 b), length-drop 4 b)

pub spelling_whole : (r : Record) (b : List ℕ) → Spells r b → length b % 4 ≡ 0
spelling_whole r b is =
    let n : length (drop 8 b) % 4 ≡ 0 = payload-whole r.body _ is.payload in
    omega (arith, length-drop 8 b, spelling_long r b is)

pub type_is : (r : Record) (b : List ℕ) → Spells r b → word_at b 4 ≡ type_of r
type_is r b is =
    let code : code_of r.body < 2 ^ 28 = code_below r.body _ is.payload in
    ap (from_le_bytes w32) is.type ∙ from_le_bytes-to_le_bytes_4 (type_of r) (omega (arith, is.top))

record_is : (r s : Record) → r.top ≡ s.top → r.body ≡ s.body → r ≡ s
record_is r s p q = rw (p, q) refl

spelling_one : (r s : Record) (b : List ℕ) → Spells r b → Spells s b → r ≡ s
spelling_one r s b p q =
    let types : type_of r ≡ type_of s = sym (type_is r b p) ∙ type_is s b q in
    let code : code_of r.body < 2 ^ 28 = code_below r.body _ p.payload in
    let other : code_of s.body < 2 ^ 28 = code_below s.body _ q.payload in
    let codes : code_of s.body ≡ code_of r.body = omega arith in
    let tops : r.top ≡ s.top = omega arith in
    record_is r s tops (payload_one r.body s.body (drop 8 b) p.payload (codes, q.payload))

-- ---- whatever follows

pub size_read : (r : Record) (b rest : List ℕ) → Spells r b
    → size_value (b ++ rest) ≡ Some (length b)
size_read r b rest is =
    let e : b ++ rest ≡ size_code (length b) ++ (drop 4 b ++ rest) =
    ap (λ (t : List ℕ). t ++ rest) (sym (take-append-drop 4 b) ∙ ap (λ (t : List ℕ). t ++ drop 4 b) is.size) ∙ append_assoc (size_code (length b)) (drop 4 b) rest in
    ap size_value e ∙ value_of_code (length b) (drop 4 b ++ rest) (omega (arith, is.below)) (spelling_whole r b is)

pub one_reading : (r s : Record) (b c x y : List ℕ) → Spells r b → Spells s c → b ++ x ≡ c ++ y
    → (b ≡ c) × (r ≡ s)
one_reading r s b c x y p q e =
    let sizes : length b ≡ length c = same_Some _ _ (sym (size_read r b x p) ∙ ap size_value e ∙ size_read s c y q) in
    let texts : b ≡ c = sym (take_at b x (length b) refl) ∙ ap (λ (t : List ℕ). take (length b) t) e ∙ take_at c y (length b) (sym sizes) in
    (texts, spelling_one r s b p (subst (λ (t : List ℕ). Spells s t) (sym texts) q))
