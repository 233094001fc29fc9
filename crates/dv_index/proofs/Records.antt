-- Records are read into rows.
use Rattle.std.proofs.Common.{◌≡◌, ◌⊎◌, inl, inr, ℕ, suc, ◌+◌, ◌-◌, ◌*◌, ◌<◌, ◌≤◌, cond, List, [], ◌∷◌, ◌++◌, length, take, drop, get_or, sym, ◌∙◌, ap, subst, arith, append_assoc}
use Rattle.std.specs.Prelude.{flat_map, nat_eq}
use Rattle.std.specs.Int.{w32, w64, to_le_bytes, from_le_bytes}
use Rattle.std.proofs.lemmas.Bool.{cases_lt}
use Rattle.std.proofs.lemmas.List.{drop-drop, drop_at, drop_more, get_or_append_left, get_or_at, length-drop, length-take, length_push, take-append-drop, take_at}
use Rattle.std.proofs.lemmas.Nat.{le_bytes_8}
use Rattle.dv_model.specs.declared.types.Mailbox.{Mailbox}
use Rattle.dv_model.specs.declared.types.Row.{Row}
use Rattle.dv_formats.specs.Snapshots.{filled, keyword_bits, keyword_words, modseq_text}
use Rattle.dv_formats.specs.SnapshotFaults.{HasRecords, IsRecord, record_at, record_place, version_at, word_at}
use Rattle.dv_formats.proofs.Passing.{length_words, no_row, which_version}
use Rattle.dv_formats.proofs.Passed.{IsBytes, grow, part_bytes, word_small, word_there}
use Rattle.dv_index.specs.Reading.{AreParts, ArePlaces, HasModseq}

-- ---- the modification sequence

abbrev modseq_bytes : ℕ → ℕ → List ℕ
modseq_bytes version modseq = cond (nat_eq version 1) [] (to_le_bytes w64 modseq)

pub modseq_one : (version highest : ℕ) (rest b : List ℕ) → version ≡ 1 → 1 ≤ highest → rest ≡ drop 8 b → HasModseq version highest 1 rest b
modseq_one version highest rest b one some is = record {
  bounds = (omega arith, some);
  text = subst (λ v. drop 8 b ≡ modseq_bytes v 1 ++ rest) (sym one) (sym is);
}

pub modseq_two : (version highest modseq : ℕ) (rest b : List ℕ) → (version ≡ 1) ⊎ (version ≡ 2) → (version ≡ 1 → ⊥) → 16 ≤ length b → IsBytes b → (1 ≤ modseq) × (modseq ≤ highest) → modseq ≡ from_le_bytes w64 (take 8 (drop 8 b)) → rest ≡ drop 16 b
    → HasModseq version highest modseq rest b
modseq_two version highest modseq rest b (inl one) other long fits bounds is after = absurd (other one)
modseq_two version highest modseq rest b (inr two) other long fits bounds is after = record {
  bounds = bounds;
  text =
      let bytes = le_bytes_8 (take 8 (drop 8 b)) modseq (omega (arith, long, length-take 8 (drop 8 b), length-drop 8 b)) (part_bytes 8 8 b fits) is in
      subst (λ v. drop 8 b ≡ modseq_bytes v modseq ++ rest) (sym two)
      (sym (take-append-drop 8 (drop 8 b)) ∙ ap (λ t. t ++ drop 8 (drop 8 b)) (sym bytes) ∙ ap (λ t. to_le_bytes w64 modseq ++ t) (drop-drop 8 8 b ∙ sym after));
}

-- ---- one record

four_bytes : (b : List ℕ) (flags : ℕ) → 8 ≤ length b → flags ≡ get_or b 4 0 → get_or b 5 0 ≡ 0 → get_or b 6 0 ≡ 0 → get_or b 7 0 ≡ 0 → take 4 (drop 4 b) ≡ flags ∷ 0 ∷ 0 ∷ 0 ∷ []
four_bytes b flags long here five six seven =
    let cells : drop 4 b ≡ get_or b 4 0 ∷ get_or b 5 0 ∷ get_or b 6 0 ∷ get_or b 7 0 ∷ drop 8 b =
    drop_more b 4 0 (omega (arith, long)) ∙ ap (λ t. get_or b 4 0 ∷ t) (drop_more b 5 0 (omega (arith, long)) ∙ ap (λ t. get_or b 5 0 ∷ t) (drop_more b 6 0 (omega (arith, long)) ∙ ap (λ t. get_or b 6 0 ∷ t) (drop_more b 7 0 (omega (arith, long))))) in
    ap (take 4) cells ∙ ap (λ x. x ∷ get_or b 5 0 ∷ get_or b 6 0 ∷ get_or b 7 0 ∷ []) (sym here) ∙ ap (λ x. flags ∷ x ∷ get_or b 6 0 ∷ get_or b 7 0 ∷ []) five ∙ ap (λ x. flags ∷ 0 ∷ x ∷ get_or b 7 0 ∷ []) six ∙ ap (λ x. flags ∷ 0 ∷ 0 ∷ x ∷ []) seven

pub record_there : (version : ℕ) (m : Mailbox) (row : Row) (b rest : List ℕ) (n : ℕ) → IsBytes b → 8 ≤ length b → row.uid ≡ word_at 0 b → row.flags ≡ get_or b 4 0 → get_or b 5 0 ≡ 0 → get_or b 6 0 ≡ 0 → get_or b 7 0 ≡ 0
    → HasModseq version m.highest row.modseq rest b → ArePlaces (length m.keywords) row.keywords (take n rest) → AreParts m.extensions row.parts (drop n rest) → IsRecord version m row b
record_there version m row b rest n fits long uid flags five six seven modseq places parts = record {
  numbers = (omega (arith, uid, word_small 0 b fits), let small = fits 4 in omega (arith, flags, small));
  keywords = places.keywords;
  parts = parts.sizes;
  modseq = modseq.bounds;
  text =
      let front = grow 4 4 b (to_le_bytes w32 row.uid) (row.flags ∷ 0 ∷ 0 ∷ 0 ∷ []) (word_there 0 row.uid b fits (omega (arith, long)) uid) (four_bytes b row.flags long flags five six seven) in
      let behind : rest ≡ keyword_bits (length m.keywords) row.keywords ++ flat_map filled row.parts =
      sym (take-append-drop n rest) ∙ ap (λ t. t ++ drop n rest) places.text ∙ ap (λ t. keyword_bits (length m.keywords) row.keywords ++ t) parts.text in
      let numbers = to_le_bytes w32 row.uid ++ row.flags ∷ 0 ∷ 0 ∷ 0 ∷ [] in
      sym (take-append-drop 8 b) ∙ ap (λ t. t ++ drop 8 b) front ∙ ap (λ t. numbers ++ t) (modseq.text ∙ ap (λ t. modseq_text version row ++ t) behind ∙ sym (append_assoc (modseq_text version row) (keyword_bits (length m.keywords) row.keywords) (flat_map filled row.parts)));
}

same_front : (version x y : ℕ) (s t : List ℕ) → (version ≡ 1) ⊎ (version ≡ 2) → modseq_bytes version x ++ s ≡ modseq_bytes version y ++ t → s ≡ t
same_front version x y s t (inl one) e = subst (λ v. modseq_bytes v x ++ s ≡ modseq_bytes v y ++ t → s ≡ t) (sym one) (λ h. h) e
same_front version x y s t (inr two) e = subst (λ v. modseq_bytes v x ++ s ≡ modseq_bytes v y ++ t → s ≡ t) (sym two) (λ h. ap (drop 8) h) e

-- what a record of a row has behind its modification sequence
pub record_split : (version highest modseq : ℕ) (m : Mailbox) (row : Row) (b rest : List ℕ) (n : ℕ) → (1 ≤ version) × (version ≤ 2) → n ≡ 4 * keyword_words (length m.keywords) → IsRecord version m row b → HasModseq version highest modseq rest b
    → ArePlaces (length m.keywords) row.keywords (take n rest) × AreParts m.extensions row.parts (drop n rest)
record_split version highest modseq m row b rest n known size is has =
    let bits = keyword_bits (length m.keywords) row.keywords in
    let parts = flat_map filled row.parts in
    let behind : drop 8 b ≡ modseq_bytes version row.modseq ++ (bits ++ parts) = ap (drop 8) is.text ∙ append_assoc (modseq_bytes version row.modseq) bits parts in
    let same : rest ≡ bits ++ parts = same_front version modseq row.modseq rest (bits ++ parts) (which_version version known) (sym has.text ∙ behind) in
    let long : length bits ≡ n = length_words 0 (keyword_words (length m.keywords)) row.keywords ∙ sym size in (
      record { keywords = is.keywords; text = ap (take n) same ∙ take_at bits parts n long },
      record { sizes = is.parts; text = ap (drop n) same ∙ drop_at bits parts n long },
    )

-- the zero bytes of a record
pub zero_bytes : (version : ℕ) (m : Mailbox) (row : Row) (b : List ℕ) → IsRecord version m row b → (get_or b 5 0 ≡ 0) × (get_or b 6 0 ≡ 0) × (get_or b 7 0 ≡ 0)
zero_bytes version m row b is = (ap (λ t. get_or t 5 0) is.text, ap (λ t. get_or t 6 0) is.text, ap (λ t. get_or t 7 0) is.text)

-- ---- all records

-- the places of records are inside
pub room : (size k n : ℕ) → k < n → size * k + size ≤ size * n
room size k n less =
    let gap : n ≡ k + suc (n - suc k) = omega (arith, less) in
    let more : size * n ≡ size * k + size + size * (n - suc k) = ap (λ x. size * x) gap ∙ omega arith in
    omega (arith, more)

pub records_more : (version : ℕ) (m : Mailbox) (rows more : List Row) (row : Row) (b : List ℕ) (done : ℕ) → length rows ≡ done
    → ((k : ℕ) (d : Row) → k < length rows → IsRecord version m (get_or rows k d) (record_at k b)) → IsRecord version m row (record_at done b) → more ≡ rows ++ row ∷ []
    → (k : ℕ) (d : Row) → k < length more → IsRecord version m (get_or more k d) (record_at k b)
records_more version m rows more row b done counted each is pushed k d below =
    subst (λ xs. IsRecord version m (get_or xs k d) (record_at k b)) (sym pushed)
    (elim (cases_lt k (length rows)) [
      | inl less ↦ subst (λ x. IsRecord version m x (record_at k b)) (sym (get_or_append_left rows (row ∷ []) d k less)) (each k d less)
      | inr from ↦
          let last : length rows ≡ k = omega (arith, below, from, ap length pushed, length_push rows row) in
          subst (λ x. IsRecord version m x (record_at k b)) (sym (get_or_at rows row [] d k last)) (subst (λ j. IsRecord version m row (record_at j b)) (sym counted ∙ last) is)
    ])

pub no_records : (m : Mailbox) (b : List ℕ) (k : ℕ) → k < word_at 32 b → ((row : Row) → IsRecord (version_at b) m row (record_at k b) → ⊥) → HasRecords m b → ⊥
no_records m b k below none (rows, are) = none (get_or rows k no_row) (are.each k no_row (omega (arith, below, are.counted)))

pub record_is : (k at size : ℕ) (b behind text : List ℕ) → at ≡ record_place k b → size ≡ word_at 8 b → behind ≡ drop at b → text ≡ take size behind → text ≡ record_at k b
record_is k at size b behind text place is_size back front = front ∙ ap (take size) back ∙ ap (λ n. take n (drop at b)) is_size ∙ ap (λ n. take (word_at 8 b) (drop n b)) place
