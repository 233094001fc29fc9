-- A record that has a spelling has a written one.
use Rattle.std.proofs.Common.{◌≡◌, ℕ, ◌+◌, ◌^◌, ◌<◌, List, [], ◌∷◌, length, take, drop, refl, sym, ap, ◌∙◌, arith, inl}
use Rattle.std.specs.List.{flat_map, AllByRecursion}
use Rattle.std.specs.Int.{w16, to_le_bytes}
use Rattle.std.proofs.lemmas.List.{length-append, length-take, length-drop}
use Rattle.std.proofs.lemmas.List.Concat.{flat_map-cons}
use Rattle.dv_model.specs.declared.types.Body.{Body}
use Rattle.dv_model.specs.declared.types.Body.TheVariants.{Expunge, Append, FlagUpdate, HeaderUpdate, ExtIntro, ExtReset, ExtHeaderUpdate, ExtRecordUpdate, KeywordUpdate, KeywordReset, ExpungeGuid, Carried}
use Rattle.dv_model.specs.declared.types.Pair.{Pair}
use Rattle.dv_model.specs.declared.types.Part.{Part}
use Rattle.dv_model.specs.declared.types.Record.{Record}
use Rattle.dv_model.specs.Spelling.{InTurn, Spells, IsRecord, IsPayload, IsPair, IsNewRow, IsChange, IsGuidRow, IsPart, IsIntro, ArePairs, AreParts, padded, pair_text, new_row_text, change_text, guid_row_text, part_text, intro_text, keyword_text, payload_text, how_code}
use Rattle.dv_records.proofs.InTurn.{IsSized, in_turn-all}
use Rattle.dv_records.proofs.Valid.{texts_in_turn, padded_text, pair_spelled, new_row_spelled, change_spelled, guid_row_spelled, part_spelled, intro_spelled, keyword_spelled, valid_record}
use Rattle.dv_records.proofs.Payloads.{sized_pairs, sized_new_rows, sized_changes, sized_guid_rows, sized_parts, sized_intros}
use Rattle.dv_records.proofs.Readings.{spelling_long}

-- ---- one item behind another

record IsRewritten {A : Type 0} (size : A → ℕ) (Is : A → List ℕ → Type 0) (text : A → List ℕ) (xs : List A) (b : List ℕ) : Type 0 where
  is : InTurn size Is xs (flat_map text xs)
  length_is : length (flat_map text xs) ≡ length b

same_length : {A : Type 0} (size : A → ℕ) (Is : A → List ℕ → Type 0) (text : A → List ℕ)
    → IsSized size Is → (xs : List A) (b : List ℕ) → AllByRecursion (λ x. Is x (text x)) xs
    → InTurn size Is xs b → length (flat_map text xs) ≡ length b
same_length size Is text sizes [] b all is = sym (ap length is)
same_length size Is text sizes (x ∷ xs) b all is =
    let n : length (text x) ≡ size x = sizes.sized x (text x) all.0 in
    let front : length (take (size x) b) ≡ size x = sizes.sized x _ is.0 in
    let others : length (flat_map text xs) ≡ length (drop (size x) b) = same_length size Is text sizes xs _ all.1 is.1 in
    ap length (flat_map-cons text x xs) ∙ omega (arith, length-append (text x) (flat_map text xs), others, n, front, length-drop (size x) b, length-take (size x) b)

rewritten : {A : Type 0} (size : A → ℕ) (Is : A → List ℕ → Type 0) (text : A → List ℕ)
    → IsSized size Is → ((x : A) (b : List ℕ) → Is x b → Is x (text x)) → (xs : List A) (b : List ℕ)
    → InTurn size Is xs b → IsRewritten size Is text xs b
rewritten size Is text sizes texts xs b is =
    let all = in_turn-all size Is (λ x. Is x (text x)) texts xs b is in
    record { is = texts_in_turn size Is text sizes xs all; length_is = same_length size Is text sizes xs b all is }

-- ---- the payload

record IsRewrittenBody (body : Body) (b : List ℕ) : Type 0 where
  is : IsPayload body (payload_text body)
  below : length b + 8 < 2 ^ 23 → length (payload_text body) + 8 < 2 ^ 23

pairs_rewritten : (pairs : List Pair) (b : List ℕ) → ArePairs pairs b
    → IsRewritten (λ pair. 8) IsPair pair_text pairs b
pairs_rewritten pairs b is = rewritten _ IsPair pair_text sized_pairs (λ pair t p. pair_spelled pair p.ends) pairs b is

parts_rewritten : (parts : List Part) (b : List ℕ) → AreParts parts b
    → IsRewritten (λ part. padded (4 + length part.bytes)) IsPart part_text parts b
parts_rewritten parts b is = rewritten _ IsPart part_text sized_parts (λ part t p. part_spelled part (record { place = p.place; short = p.short })) parts b is

body_rewritten : (body : Body) (b : List ℕ) → IsPayload body b → IsRewrittenBody body b
body_rewritten (Expunge pairs) b is = let w = pairs_rewritten pairs b is in record { is = w.is; below = λ lt. omega (arith, w.length_is) }
body_rewritten (Append rows) b is = let w = rewritten _ IsNewRow new_row_text sized_new_rows (λ row t p. new_row_spelled row p.uid) rows b is in record { is = w.is; below = λ lt. omega (arith, w.length_is) }
body_rewritten (FlagUpdate changes) b is = let w = rewritten _ IsChange change_text sized_changes (λ change t p. change_spelled change p.ends) changes b is in record { is = w.is; below = λ lt. omega (arith, w.length_is) }
body_rewritten (HeaderUpdate parts) b is = let w = parts_rewritten parts b is.1 in record { is = (is.0, w.is); below = λ lt. omega (arith, w.length_is) }
body_rewritten (ExtIntro intros) b is = let w = rewritten _ IsIntro intro_text sized_intros (λ intro t p. intro_spelled intro p.numbers) intros b is.1 in record { is = (is.0, w.is); below = λ lt. omega (arith, w.length_is) }
body_rewritten (ExtReset reset_id preserve) b is = record { is = (is.0, inl (refl, refl)); below = λ lt. omega arith }
body_rewritten (ExtHeaderUpdate parts) b is = let w = parts_rewritten parts b is.1 in record { is = (is.0, w.is); below = λ lt. omega (arith, w.length_is) }
body_rewritten (ExtRecordUpdate bytes) b is = record { is = (refl, is.1); below = λ lt. omega (arith, ap length is.0) }
body_rewritten (KeywordUpdate how name pairs) b is =
    let w = pairs_rewritten pairs _ is.ranges in
    let t = padded_text (how_code how ∷ 0 ∷ to_le_bytes w16 (length name)) name 4 refl refl in
    record {
      is = keyword_spelled how name pairs (flat_map pair_text pairs) is.keyword w.is;
      below = λ lt. omega (arith, is.size, w.length_is, t.0, length-append (keyword_text how name) (flat_map pair_text pairs), length-drop (padded (4 + length name)) b);
    }
body_rewritten (KeywordReset pairs) b is = let w = pairs_rewritten pairs b is in record { is = w.is; below = λ lt. omega (arith, w.length_is) }
body_rewritten (ExpungeGuid rows) b is = let w = rewritten _ IsGuidRow guid_row_text sized_guid_rows (λ row t p. guid_row_spelled row (p.uid, p.size)) rows b is in record { is = w.is; below = λ lt. omega (arith, w.length_is) }
body_rewritten (Carried code bytes) b is = record { is = (is.0, (refl, is.1.1)); below = λ lt. omega (arith, ap length is.1.0) }

pub is_record : (r : Record) (b : List ℕ) → Spells r b → IsRecord r
is_record r b is =
    let w = body_rewritten r.body (drop 8 b) is.payload in
    valid_record r is.top w.is (w.below (omega (arith, length-drop 8 b, is.below, spelling_long r b is)))
