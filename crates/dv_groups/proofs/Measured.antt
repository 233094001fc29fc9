-- How many bytes the records that a command writes take.
use Rattle.std.proofs.Common.{◌≡◌, ℕ, zero, suc, ◌+◌, ◌-◌, ◌*◌, ◌/◌, ◌%◌, ◌≤◌, Bool, true, false, cond, List, [], ◌∷◌, ◌++◌, get_or, length, map, take, drop, nat_eq, Option, refl, sym, ◌∙◌, ap, arith, length-append, length-drop, length-take}
use Rattle.std.specs.Prelude.{All, flat_map}
use Rattle.std.specs.Int.{w16, to_le_bytes}
use Rattle.std.specs.List.{enumerate_from}
use Rattle.std.proofs.lemmas.Bool.Decides.{nat_tests}
use Rattle.std.proofs.lemmas.Grind.{flat_map-append}
use Rattle.std.proofs.lemmas.List.{length-map}
use Rattle.std.proofs.lemmas.List.Concat.{flat_map-cons}
use Rattle.std.proofs.lemmas.List.Elements.{All-drop, All-map, All-take, recursion_from_All}
use Rattle.std.proofs.lemmas.List.FromFn.{length-enumerate_from}
use Rattle.std.proofs.lemmas.List.Sums.{sum_by-cons}
use Rattle.dv_model.specs.declared.types.Body.TheVariants as body
use Rattle.dv_model.specs.declared.types.Command.{Command}
use Rattle.dv_model.specs.declared.types.Command.TheVariants as command
use Rattle.dv_model.specs.declared.types.GuidRow.{GuidRow}
use Rattle.dv_model.specs.declared.types.How.{How}
use Rattle.dv_model.specs.declared.types.How.TheVariants as how
use Rattle.dv_model.specs.declared.types.Mailbox.{Mailbox}
use Rattle.dv_model.specs.declared.types.Pair.{Pair}
use Rattle.dv_model.specs.declared.types.Record.{Record}
use Rattle.dv_model.specs.declared.types.Row.{Row}
use Rattle.dv_model.specs.declared.types.Span.{Span}
use Rattle.dv_model.specs.Sessions.{check_records, deleted_uids, expunges, external_record, first_pieces, flag_updates, group_of, internal_record, keyword_adds, keyword_resets, keyword_updates, offset_row, piece_size, pieces, ranges_of, removed_uids, store_records, stored_uids}
use Rattle.dv_model.specs.Spelling.{change_text, group_text, guid_row_text, how_code, keyword_text, padded, pair_text, payload_text, written}
use Rattle.dv_model.specs.Views.{View}
use Rattle.dv_records.proofs.Valid.{padded_text, texts_length}
use Rattle.dv_groups.specs.Changes.{append_of, change_of, changed_uids, guid_rows}
use Rattle.dv_groups.specs.Lengths.{flags_length, keyword_length, keywords_length, records_length, store_length}

-- the bytes of records
abbrev pub size_of : List Record → ℕ
size_of rs = length (flat_map written rs)

-- eight stand in front of a payload
pub written_length : (r : Record) → length (written r) ≡ 8 + length (payload_text r.body)
written_length r = omega arith

size_of-cons : (r : Record) (rs : List Record) → size_of (r ∷ rs) ≡ length (written r) + size_of rs
size_of-cons r rs = ap length (flat_map-cons written r rs) ∙ length-append (written r) (flat_map written rs)

size_of-append : (rs ss : List Record) → size_of (rs ++ ss) ≡ size_of rs + size_of ss
size_of-append rs ss = ap length (flat_map-append written rs ss) ∙ length-append (flat_map written rs) (flat_map written ss)

-- items of one width
items_length : {X : Type 0} (P : X → Type 0) (text : X → List ℕ) (width : ℕ) → ((x : X) → P x → length (text x) ≡ width) → (xs : List X) → All P xs → length (flat_map text xs) ≡ width * length xs
items_length P text width each xs all =
    texts_length text width xs (recursion_from_All (λ x. length (text x) ≡ width) xs (λ k d less. each (get_or xs k d) (all k d less)))

-- ---- pieces

module _ {X : Type 0} (P : X → Type 0) (f : List X → Record) (head width : ℕ) (each : (xs : List X) → All P xs → length (payload_text (f xs).body) ≡ head + width * length xs) where
  first_length : (k : ℕ) (xs : List X) → All P xs → length xs ≤ 65536 * k → size_of (map f (first_pieces k xs)) ≡ (8 + head) * k + width * length xs
  first_length zero xs all few =
      let none : length xs ≡ 0 = omega arith in
      rw none (omega arith)
  first_length (suc k) xs all few =
      let front : List X = take piece_size xs in
      let back : List X = drop piece_size xs in
      let one : length (written (f front)) ≡ 8 + (head + width * length front) = written_length (f front) ∙ ap (λ n. 8 + n) (each front (All-take P piece_size xs all)) in
      let others = first_length k back (All-drop P piece_size xs all) (omega (arith, few, length-drop piece_size xs)) in
      let both : length xs ≡ length front + length back = omega (arith, length-take piece_size xs, length-drop piece_size xs) in
      let wide : width * length xs ≡ width * length front + width * length back = ap (λ n. width * n) both ∙ omega arith in
      omega (arith, size_of-cons (f front) (map f (first_pieces k back)), one, others, wide)

  pub pieces_length : (xs : List X) → All P xs → size_of (map f (pieces xs)) ≡ records_length head width (length xs)
  pieces_length xs all = first_length ((length xs + 65535) / 65536) xs all (omega arith)

-- ---- changes of flags and keywords

ranges_length : (pairs : List Pair) → length (flat_map pair_text pairs) ≡ 8 * length pairs
ranges_length pairs = items_length (λ pair. Unit {0}) pair_text 8 (λ pair is. refl) pairs (λ k d less. tt)

keyword_text-length : (h : How) (name : List ℕ) → length (keyword_text h name) ≡ padded (4 + length name)
keyword_text-length h name = (padded_text (how_code h ∷ 0 ∷ to_le_bytes w16 (length name)) name 4 refl (omega arith)).0

update_length : (h : How) (name : List ℕ) (pairs : List Pair) → length (payload_text (body.KeywordUpdate h name pairs)) ≡ padded (4 + length name) + 8 * length pairs
update_length h name pairs = omega (arith, length-append (keyword_text h name) (flat_map pair_text pairs), keyword_text-length h name, ranges_length pairs)

updates_length : (h : How) (pairs : List Pair) (name : List ℕ) → size_of (keyword_updates h pairs name) ≡ keyword_length (length pairs) name
updates_length h pairs name =
    pieces_length (λ pair. Unit {0}) (λ ps. external_record (body.KeywordUpdate h name ps)) (padded (4 + length name)) 8 (λ ps all. update_length h name ps) pairs (λ k d less. tt)

names_length : (h : How) (pairs : List Pair) (names : List (List ℕ)) → size_of (flat_map (keyword_updates h pairs) names) ≡ keywords_length names (length pairs)
names_length h pairs [] = refl
names_length h pairs (name ∷ names) =
    ap size_of (flat_map-cons (keyword_updates h pairs) name names) ∙ size_of-append (keyword_updates h pairs name) (flat_map (keyword_updates h pairs) names)
    ∙ omega (arith, updates_length h pairs name, names_length h pairs names, sum_by-cons (keyword_length (length pairs)) name names)

resets_length : (pairs : List Pair) → size_of (keyword_resets pairs) ≡ records_length 0 8 (length pairs)
resets_length pairs = pieces_length (λ pair. Unit {0}) (λ ps. external_record (body.KeywordReset ps)) 0 8 (λ ps all. omega (arith, ranges_length ps)) pairs (λ k d less. tt)

changes_length : (add remove : ℕ) (pairs : List Pair) → length (flat_map change_text (map (change_of add remove) pairs)) ≡ 0 + 12 * length pairs
changes_length add remove pairs =
    let one : length (flat_map change_text (map (change_of add remove) pairs)) ≡ 12 * length (map (change_of add remove) pairs) =
    items_length (λ change. Unit {0}) change_text 12 (λ change is. refl) (map (change_of add remove) pairs) (λ k d less. tt) in
    omega (arith, one, length-map pairs (change_of add remove))

updated_length : (add remove : ℕ) (pairs : List Pair) → size_of (flag_updates add remove pairs) ≡ flags_length (add + remove) (length pairs)
updated_length add remove pairs = by_test (nat_eq (add + remove) 0)
  where
    by_test : (b : Bool) → size_of (cond b [] (map (λ ps. external_record (body.FlagUpdate (map (change_of add remove) ps))) (pieces pairs))) ≡ cond b 0 (records_length 0 12 (length pairs))
    by_test true = refl
    by_test false = pieces_length (λ pair. Unit {0}) (λ ps. external_record (body.FlagUpdate (map (change_of add remove) ps))) 0 12 (λ ps all. changes_length add remove ps) pairs (λ k d less. tt)

flags_some : (flags ranges : ℕ) → flags_length (flags + (31 - flags % 32)) ranges ≡ records_length 0 12 ranges
flags_some flags ranges =
    let some : nat_eq (flags + (31 - flags % 32)) 0 ≡ false = grind (arith, nat_tests) in
    ap (λ b. cond b 0 (records_length 0 12 ranges)) some

pub store_records-length : (h : How) (flags : ℕ) (names : List (List ℕ)) (pairs : List Pair) → size_of (store_records h flags names pairs) ≡ store_length h flags names (length pairs)
store_records-length how.Add flags names pairs =
    let same : flags + 0 ≡ flags = omega arith in
    size_of-append (flag_updates flags 0 pairs) (flat_map (keyword_updates how.Add pairs) names)
    ∙ omega (arith, updated_length flags 0 pairs ∙ ap (λ n. flags_length n (length pairs)) same, names_length how.Add pairs names)
store_records-length how.Remove flags names pairs =
    let same : 0 + flags ≡ flags = omega arith in
    size_of-append (flag_updates 0 flags pairs) (flat_map (keyword_updates how.Remove pairs) names)
    ∙ omega (arith, updated_length 0 flags pairs ∙ ap (λ n. flags_length n (length pairs)) same, names_length how.Remove pairs names)
store_records-length how.Replace flags names pairs =
    let resets : List Record = flag_updates flags (31 - flags % 32) pairs ++ keyword_resets pairs in
    omega (
      arith,
      size_of-append resets (flat_map (keyword_updates how.Add pairs) names),
      size_of-append (flag_updates flags (31 - flags % 32) pairs) (keyword_resets pairs),
      updated_length flags (31 - flags % 32) pairs,
      flags_some flags (length pairs),
      resets_length pairs,
      names_length how.Add pairs names,
    )

-- ---- messages that come and leave

adds_length : (uid : ℕ) (names : List (List ℕ)) → size_of (keyword_adds uid names) ≡ keywords_length names 1
adds_length uid [] = refl
adds_length uid (name ∷ names) =
    let pairs : List Pair = record { first = uid; last = uid } ∷ [] in
    let r : Record = external_record (body.KeywordUpdate how.Add name pairs) in
    omega (arith, size_of-cons r (keyword_adds uid names), written_length r, update_length how.Add name pairs, adds_length uid names, sum_by-cons (keyword_length 1) name names)

pub append_records-length : (uid flags : ℕ) (names : List (List ℕ)) → size_of (append_of uid flags ∷ keyword_adds uid names) ≡ 16 + keywords_length names 1
append_records-length uid flags names = omega (arith, size_of-cons (append_of uid flags) (keyword_adds uid names), adds_length uid names)

pub expunges-length : (guid : ℕ → List ℕ) → ((uid : ℕ) → length (guid uid) ≡ 16) → (uids : List ℕ) → size_of (expunges guid uids) ≡ records_length 0 20 (length uids)
expunges-length guid sizes uids =
    pieces_length (λ (row : GuidRow). length row.guid ≡ 16) (λ rows. external_record (body.ExpungeGuid rows)) 0 20
    (λ rows all. omega (arith, items_length (λ (row : GuidRow). length row.guid ≡ 16) guid_row_text 20 (λ row is. omega (arith, is)) rows all))
    (guid_rows guid uids) (All-map (λ (row : GuidRow). length row.guid ≡ 16) (λ uid. record { uid = uid; guid = guid uid }) uids (λ k d less. sizes (get_or uids k d)))
    ∙ ap (records_length 0 20) (length-map uids (λ (uid : ℕ). record { uid = uid; guid = guid uid }))

-- ---- a CHECK

pub check_records-length : (m : Mailbox) → size_of (check_records m) ≡ 52 + records_length 0 8 (length m.rows)
check_records-length m =
    let rows : List (ℕ × Row) = enumerate_from 0 m.rows in
    let updates : size_of (map (λ rows. internal_record (body.ExtRecordUpdate (flat_map offset_row rows))) (pieces rows)) ≡ records_length 0 8 (length rows) =
    pieces_length (λ (row : ℕ × Row). Unit {0}) (λ rows. internal_record (body.ExtRecordUpdate (flat_map offset_row rows))) 0 8
    (λ rows all. omega (arith, items_length (λ (row : ℕ × Row). Unit {0}) offset_row 8 (λ row is. refl) rows all)) rows (λ k d less. tt) in
    omega (arith, updates ∙ ap (records_length 0 8) (length-enumerate_from 0 m.rows))

-- ---- the group of a command

module _ (c : Command) (view : View) (m : Mailbox) (guid : ℕ → List ℕ) where
  pub append-length : (flags : ℕ) (names : List (List ℕ)) (message : List ℕ) → c ≡ command.Append flags names message → length (group_text (group_of c view m guid)) ≡ 16 + keywords_length names 1
  append-length flags names message is = ap (λ cmd. length (group_text (group_of cmd view m guid))) is ∙ append_records-length m.next_uid flags names

  pub store-length : (by_uid : Bool) (set : List Span) (h : How) (flags : ℕ) (names : List (List ℕ)) (since : Option ℕ) (uids : List ℕ) → c ≡ command.Store by_uid set h flags names since
      → uids ≡ changed_uids c view m → length (group_text (group_of c view m guid)) ≡ store_length h flags names (length (ranges_of uids))
  store-length by_uid set h flags names since uids is are =
      let them : uids ≡ stored_uids by_uid set since view m = are ∙ ap (λ cmd. changed_uids cmd view m) is in
      ap (λ cmd. length (group_text (group_of cmd view m guid))) is ∙ store_records-length h flags names (ranges_of (stored_uids by_uid set since view m))
      ∙ ap (λ us. store_length h flags names (length (ranges_of us))) (sym them)

  pub expunge-length : (uids : List ℕ) → ((uid : ℕ) → length (guid uid) ≡ 16) → c ≡ command.Expunge → uids ≡ changed_uids c view m → length (group_text (group_of c view m guid)) ≡ records_length 0 20 (length uids)
  expunge-length uids sizes is are =
      let them : uids ≡ deleted_uids m = are ∙ ap (λ cmd. changed_uids cmd view m) is in
      ap (λ cmd. length (group_text (group_of cmd view m guid))) is ∙ expunges-length guid sizes (deleted_uids m) ∙ ap (λ us. records_length 0 20 (length us)) (sym them)

  pub remove-length : (set : List Span) (uids : List ℕ) → ((uid : ℕ) → length (guid uid) ≡ 16) → c ≡ command.UidRemove set → uids ≡ changed_uids c view m → length (group_text (group_of c view m guid)) ≡ records_length 0 20 (length uids)
  remove-length set uids sizes is are =
      let them : uids ≡ removed_uids set view m = are ∙ ap (λ cmd. changed_uids cmd view m) is in
      ap (λ cmd. length (group_text (group_of cmd view m guid))) is ∙ expunges-length guid sizes (removed_uids set view m) ∙ ap (λ us. records_length 0 20 (length us)) (sym them)

  pub check-length : c ≡ command.Check → length (group_text (group_of c view m guid)) ≡ 52 + records_length 0 8 (length m.rows)
  check-length is = ap (λ cmd. length (group_text (group_of cmd view m guid))) is ∙ check_records-length m
