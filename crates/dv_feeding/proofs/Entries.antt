-- The words of an entry are of one entry.
use Rattle.std.proofs.Common.{◌≡◌, inl, inr, ℕ, ◌/◌, ◌%◌, ◌<◌, ◌≤◌, List, [], ◌∷◌, ◌++◌, length, drop, refl, sym, ◌∙◌, ap, arith, length-append}
use Rattle.std.specs.Prelude.{All, flat_map}
use Rattle.std.proofs.lemmas.Bool.{cases_lt}
use Rattle.std.proofs.lemmas.List.{get_or_past}
use Rattle.std.proofs.lemmas.List.Concat.{flat_map-cons}
use Rattle.std.proofs.lemmas.List.Elements.{All-get_or, All-head, All-tail}
use Rattle.dv_model.specs.declared.types.Entry.{Entry}
use Rattle.dv_model.specs.declared.types.Record.{Record}
use Rattle.dv_model.specs.Spelling.{IsRecord, group_text, written}
use Rattle.dv_formats.specs.Feeds.{entry_words, group_words, words_of}
use Rattle.dv_formats.specs.Snapshots.{AreBytes}
use Rattle.dv_formats.proofs.Texts.{head_one, parts_one}
use Rattle.dv_records.proofs.Loop.{IsBytes}
use Rattle.dv_records.proofs.Readings.{one_reading, spelling_long, spelling_whole}
use Rattle.dv_feeding.specs.Laws.{IsSpelled}
use Rattle.dv_feeding.proofs.Words.{length-words_of, words_one}

-- ---- the text of records is of whole words, and of one list of records

pub texts_whole : (rs : List Record) → All IsRecord rs → length (flat_map written rs) % 4 ≡ 0
texts_whole [] all = refl
texts_whole (r ∷ rs) all =
    let first : length (written r) % 4 ≡ 0 = spelling_whole r (written r) (All-head IsRecord r rs all).spells in
    let rest : length (flat_map written rs) % 4 ≡ 0 = texts_whole rs (All-tail IsRecord r rs all) in
    omega (arith, ap length (flat_map-cons written r rs), length-append (written r) (flat_map written rs), first, rest)

texts_some : (r : Record) (rs : List Record) → IsRecord r → 8 ≤ length (flat_map written (r ∷ rs))
texts_some r rs is = omega (arith, ap length (flat_map-cons written r rs), length-append (written r) (flat_map written rs), spelling_long r (written r) is.spells)

records_one : (rs ss : List Record) → All IsRecord rs → All IsRecord ss → flat_map written rs ≡ flat_map written ss → rs ≡ ss
records_one [] [] p q e = refl
records_one [] (s ∷ ss) p q e = absurd (omega (arith, ap length e, texts_some s ss (All-head IsRecord s ss q)))
records_one (r ∷ rs) [] p q e = absurd (omega (arith, ap length e, texts_some r rs (All-head IsRecord r rs p)))
records_one (r ∷ rs) (s ∷ ss) p q e =
    let joined : written r ++ flat_map written rs ≡ written s ++ flat_map written ss = sym (flat_map-cons written r rs) ∙ e ∙ flat_map-cons written s ss in
    let first = one_reading r s (written r) (written s) (flat_map written rs) (flat_map written ss) (All-head IsRecord r rs p).spells (All-head IsRecord s ss q).spells joined in
    let texts : flat_map written rs ≡ flat_map written ss = (parts_one (written r) (written s) (flat_map written rs) (flat_map written ss) (ap length first.0) joined).1 in
    let rest : rs ≡ ss = records_one rs ss (All-tail IsRecord r rs p) (All-tail IsRecord s ss q) texts in
    ap (λ (t : Record). t ∷ rs) first.1 ∙ ap (λ (ts : List Record). s ∷ ts) rest

-- ---- a group

pub bytes_at : (b : List ℕ) → AreBytes b → IsBytes b
bytes_at b all i =
    elim (cases_lt i (length b)) [
      | inl lt ↦ All-get_or (λ x. x < 256) b i 0 lt all
      | inr le ↦ rw (get_or_past b i 0 le) (omega arith)
    ]

text_one : (b c : List ℕ) → length b % 4 ≡ 0 → length c % 4 ≡ 0 → AreBytes b → AreBytes c → length b / 4 ≡ length c / 4 → words_of (length b / 4) b ≡ words_of (length c / 4) c → b ≡ c
text_one b c whole wholes p q same e =
    words_one (length b / 4) b c (omega (arith, whole)) (omega (arith, wholes, same)) (bytes_at b p) (bytes_at c q) (e ∙ ap (λ n. words_of n c) (sym same))

same_entry : (d e : Entry) → d.author ≡ e.author → d.group.records ≡ e.group.records → d ≡ e
same_entry d e authors records = λ i. record { author = authors i; group = record { records = records i } }

-- ---- an entry

pub entry_one : (d e : Entry) (x y : List ℕ) → IsSpelled d → IsSpelled e → entry_words d ++ x ≡ entry_words e ++ y → (d ≡ e) × (x ≡ y)
entry_one d e x y p q same =
    let authors : d.author ≡ e.author = head_one d.author e.author (drop 1 (entry_words d) ++ x) (drop 1 (entry_words e) ++ y) same in
    let numbers : length (group_words d.group) ≡ length (group_words e.group) =
    head_one (length (group_words d.group)) (length (group_words e.group)) (group_words d.group ++ x) (group_words e.group ++ y) (ap (drop 1) same) in
    let words = parts_one (group_words d.group) (group_words e.group) x y numbers (ap (drop 2) same) in
    let d_text : List ℕ = group_text d.group in
    let e_text : List ℕ = group_text e.group in
    let sizes : length d_text / 4 ≡ length e_text / 4 = sym (length-words_of (length d_text / 4) d_text) ∙ numbers ∙ length-words_of (length e_text / 4) e_text in
    let texts : d_text ≡ e_text = text_one d_text e_text (texts_whole d.group.records p.records) (texts_whole e.group.records q.records) p.bytes q.bytes sizes words.0 in
    (same_entry d e authors (records_one d.group.records e.group.records p.records q.records texts), words.1)
