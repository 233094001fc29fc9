-- The records that a command writes have spellings in bytes.
use Rattle.std.proofs.Common.{◌≡◌, ℕ, ◌+◌, ◌-◌, ◌*◌, ◌%◌, ◌^◌, ◌<◌, ◌≤◌, Bool, true, false, cond, ◌&&◌, List, [], ◌∷◌, ◌++◌, length, nat_eq, bytes_eq, replicate, Option, Some, None, refl, subst, arith}
use Rattle.std.specs.Prelude.{All, Any, IfSome, codes, filter, find, flat_map, map, option_map, take, unwrap_or}
use Rattle.std.specs.Int.{w16, w32, to_le_bytes}
use Rattle.std.specs.List.{AllByRecursion, enumerate_from}
use Rattle.std.proofs.lemmas.Bool.{and_parts}
use Rattle.std.proofs.lemmas.Bool.Decides.{nat_tests}
use Rattle.std.proofs.lemmas.List.{length-map}
use Rattle.std.proofs.lemmas.List.Elements.{All-append, All-cons, All-filter, All-from_recursion, All-head, All-map, All-nil, All-tail, All-take, All-weaker, filter_passes, recursion_from_All}
use Rattle.std.proofs.lemmas.List.Folds.{Any-from_list_any}
use Rattle.dv_model.specs.declared.types.Body.TheVariants as body
use Rattle.dv_model.specs.declared.types.Change.{Change}
use Rattle.dv_model.specs.declared.types.Command.{Command}
use Rattle.dv_model.specs.declared.types.Command.TheVariants as command
use Rattle.dv_model.specs.declared.types.Extension.{Extension}
use Rattle.dv_model.specs.declared.types.GuidRow.{GuidRow}
use Rattle.dv_model.specs.declared.types.How.{How}
use Rattle.dv_model.specs.declared.types.How.TheVariants as how
use Rattle.dv_model.specs.declared.types.Intro.{Intro}
use Rattle.dv_model.specs.declared.types.Mailbox.{Mailbox}
use Rattle.dv_model.specs.declared.types.NewRow.{NewRow}
use Rattle.dv_model.specs.declared.types.Pair.{Pair}
use Rattle.dv_model.specs.declared.types.Record.{Record}
use Rattle.dv_model.specs.declared.types.Row.{Row}
use Rattle.dv_model.specs.Effects.{no_id}
use Rattle.dv_model.specs.Journals.{AreByteValues, HasResets, IsGuid, IsU32}
use Rattle.dv_model.specs.Mailboxes.{IsRowOf, IsValid}
use Rattle.dv_model.specs.Names.{IsName}
use Rattle.dv_model.specs.Sessions.{IsCommand, cache_number, check_records, deleted_uids, expunge_limit, expunges, external, external_record, flag_updates, group_of, has_row, internal_record, is_deleted, is_unchanged, keyword_adds, keyword_resets, keyword_updates, next_number, offset_row, pieces, ranges_of, removed_uids, store_records, stored_uids}
use Rattle.dv_model.specs.Sets.{named, named_by_uid}
use Rattle.dv_model.specs.Spelling.{AreIntroNumbers, IsRecord, IsUid, change_text, guid_row_text, how_code, intro_head, intro_text, keyword_text, new_row_text, padding, pair_text, payload_text}
use Rattle.dv_model.specs.Views.{View}
use Rattle.dv_records.proofs.Valid.{texts_length, valid_append, valid_expunge_guid, valid_ext_intro, valid_ext_record_update, valid_ext_reset, valid_flag_update, valid_keyword_reset, valid_keyword_update}
use Rattle.dv_validity.proofs.Pieces.{IsPiece, IsRange, one_range, pieces_are, ranges_are}
use Rattle.dv_validity.proofs.Texts.{IsByte, flat_all, half_bytes, name_bytes, word_bytes, zero_bytes}
use Rattle.dv_validity.specs.Entries.{HasUidLeft}

-- a record with a spelling, whose payload is of bytes
pub record IsWritable (r : Record) : Type 0 where
  pub is : IsRecord r
  pub bytes : AreByteValues (payload_text r.body)

abbrev pub AreWritable : List Record → Type 0
AreWritable rs = All IsWritable rs

each_written : {X : Type 0} (P : X → Type 0) (f : List X → Record) → ((xs : List X) → IsPiece P xs → IsWritable (f xs)) → (xs : List X) → All P xs → AreWritable (map f (pieces xs))
each_written P f each xs all = All-map IsWritable f (pieces xs) (All-weaker (IsPiece P) (λ xs. IsWritable (f xs)) each (pieces xs) (pieces_are P xs all))

-- ---- ranges

pair_bytes : (pair : Pair) → AreByteValues (pair_text pair)
pair_bytes pair = All-append IsByte (to_le_bytes w32 pair.first) (to_le_bytes w32 pair.last) (word_bytes pair.first) (word_bytes pair.last)

pairs_bytes : (pairs : List Pair) → AreByteValues (flat_map pair_text pairs)
pairs_bytes pairs = flat_all (λ pair. Unit {0}) IsByte pair_text (λ pair is. pair_bytes pair) pairs (λ k d h. tt)

-- ---- keywords

code_byte : (h : How) → IsByte (how_code h)
code_byte how.Add = omega arith
code_byte how.Remove = omega arith
code_byte how.Replace = omega arith

keyword_bytes : (h : How) (name : List ℕ) → IsName name → AreByteValues (keyword_text h name)
keyword_bytes h name is =
    let size : List ℕ = to_le_bytes w16 (length name) in
    let zeros : List ℕ = replicate (padding (length name)) 0 in
    All-cons IsByte (how_code h) (0 ∷ size ++ name ++ zeros) (code_byte h)
    (All-cons IsByte 0 (size ++ name ++ zeros) (omega arith)
    (All-append IsByte (size ++ name) zeros (All-append IsByte size name (half_bytes (length name)) (name_bytes name is)) (zero_bytes (padding (length name)))))

keyword_written : (h : How) (name : List ℕ) (pairs : List Pair) → IsName name → All IsRange pairs → length pairs ≤ 65536 → IsWritable (external_record (body.KeywordUpdate h name pairs))
keyword_written h name pairs is all short = record {
  is = valid_keyword_update external h name pairs (omega arith) is (recursion_from_All IsRange pairs all) (omega (arith, short));
  bytes = All-append IsByte (keyword_text h name) (flat_map pair_text pairs) (keyword_bytes h name is) (pairs_bytes pairs);
}

updates_written : (h : How) (pairs : List Pair) (name : List ℕ) → All IsRange pairs → IsName name → AreWritable (keyword_updates h pairs name)
updates_written h pairs name all is = each_written IsRange (λ ps. external_record (body.KeywordUpdate h name ps)) (λ ps piece. keyword_written h name ps is piece.each piece.short) pairs all

names_written : (h : How) (pairs : List Pair) (names : List (List ℕ)) → All IsRange pairs → All IsName names → AreWritable (flat_map (keyword_updates h pairs) names)
names_written h pairs names all are = flat_all IsName IsWritable (keyword_updates h pairs) (λ name is. updates_written h pairs name all is) names are

resets_written : (pairs : List Pair) → All IsRange pairs → AreWritable (keyword_resets pairs)
resets_written pairs all =
    each_written IsRange (λ ps. external_record (body.KeywordReset ps))
    (λ ps piece. record { is = valid_keyword_reset external ps (omega arith) (recursion_from_All IsRange ps piece.each) (omega (arith, piece.short)); bytes = pairs_bytes ps })
    pairs all

-- ---- flags

abbrev IsGoodChange : Change → Type 0
IsGoodChange change = ((1 ≤ change.first) × (change.first ≤ change.last) × (change.last < 2 ^ 32)) × IsByte change.add × IsByte change.remove

change_bytes : (change : Change) → IsGoodChange change → AreByteValues (change_text change)
change_bytes change is =
    All-append IsByte (to_le_bytes w32 change.first ++ to_le_bytes w32 change.last) (change.add ∷ change.remove ∷ 0 ∷ 0 ∷ [])
    (All-append IsByte (to_le_bytes w32 change.first) (to_le_bytes w32 change.last) (word_bytes change.first) (word_bytes change.last))
    (All-from_recursion IsByte (change.add ∷ change.remove ∷ 0 ∷ 0 ∷ []) (is.1, (is.2, (omega arith, (omega arith, tt)))))

changes_written : (changes : List Change) → All IsGoodChange changes → length changes ≤ 65536 → IsWritable (external_record (body.FlagUpdate changes))
changes_written changes all short = record {
  is = valid_flag_update external changes (omega arith)
      (recursion_from_All (λ (change : Change). (1 ≤ change.first) × (change.first ≤ change.last) × (change.last < 2 ^ 32)) changes
      (All-weaker IsGoodChange (λ (change : Change). (1 ≤ change.first) × (change.first ≤ change.last) × (change.last < 2 ^ 32)) (λ change is. is.0) changes all))
      (omega (arith, short));
  bytes = flat_all IsGoodChange IsByte change_text change_bytes changes all;
}

module _ (add remove : ℕ) (add_is : IsByte add) (remove_is : IsByte remove) where
  abbrev change_of : Pair → Change
  change_of pair = record { first = pair.first; last = pair.last; add = add; remove = remove }

  piece_written : (ps : List Pair) → IsPiece IsRange ps → IsWritable (external_record (body.FlagUpdate (map change_of ps)))
  piece_written ps piece =
      changes_written (map change_of ps) (All-map IsGoodChange change_of ps (All-weaker IsRange (λ pair. IsGoodChange (change_of pair)) (λ pair ends. (ends, add_is, remove_is)) ps piece.each))
      (omega (arith, length-map ps change_of, piece.short))

  flags_written : (pairs : List Pair) → All IsRange pairs → AreWritable (flag_updates add remove pairs)
  flags_written pairs all = by_test (nat_eq (add + remove) 0)
    where
      by_test : (b : Bool) → AreWritable (cond b [] (map (λ ps. external_record (body.FlagUpdate (map change_of ps))) (pieces pairs)))
      by_test true = All-nil IsWritable
      by_test false = each_written IsRange (λ ps. external_record (body.FlagUpdate (map change_of ps))) piece_written pairs all

store_written : (h : How) (flags : ℕ) (names : List (List ℕ)) (pairs : List Pair) → IsByte flags → All IsName names → All IsRange pairs → AreWritable (store_records h flags names pairs)
store_written how.Add flags names pairs byte are all =
    All-append IsWritable (flag_updates flags 0 pairs) (flat_map (keyword_updates how.Add pairs) names) (flags_written flags 0 byte (omega arith) pairs all) (names_written how.Add pairs names all are)
store_written how.Remove flags names pairs byte are all =
    All-append IsWritable (flag_updates 0 flags pairs) (flat_map (keyword_updates how.Remove pairs) names) (flags_written 0 flags (omega arith) byte pairs all) (names_written how.Remove pairs names all are)
store_written how.Replace flags names pairs byte are all =
    All-append IsWritable (flag_updates flags (31 - flags % 32) pairs ++ keyword_resets pairs) (flat_map (keyword_updates how.Add pairs) names)
    (All-append IsWritable (flag_updates flags (31 - flags % 32) pairs) (keyword_resets pairs) (flags_written flags (31 - flags % 32) byte (omega arith) pairs all) (resets_written pairs all))
    (names_written how.Add pairs names all are)

-- ---- expunges

abbrev IsGoodRow : GuidRow → Type 0
IsGoodRow row = IsUid row.uid × IsGuid row.guid

row_bytes : (row : GuidRow) → IsGoodRow row → AreByteValues (guid_row_text row)
row_bytes row is = All-append IsByte (to_le_bytes w32 row.uid) row.guid (word_bytes row.uid) is.1.bytes

rows_written : (rows : List GuidRow) → IsPiece IsGoodRow rows → IsWritable (external_record (body.ExpungeGuid rows))
rows_written rows piece = record {
  is = valid_expunge_guid external rows (omega arith)
      (recursion_from_All (λ (row : GuidRow). IsUid row.uid × (length row.guid ≡ 16)) rows
      (All-weaker IsGoodRow (λ (row : GuidRow). IsUid row.uid × (length row.guid ≡ 16)) (λ row is. (is.0, is.1.size)) rows piece.each))
      (omega (arith, piece.short));
  bytes = flat_all IsGoodRow IsByte guid_row_text row_bytes rows piece.each;
}

expunges_written : (guid : ℕ → List ℕ) → ((uid : ℕ) → IsGuid (guid uid)) → (uids : List ℕ) → All IsUid uids → AreWritable (expunges guid uids)
expunges_written guid guids uids all =
    each_written IsGoodRow (λ rows. external_record (body.ExpungeGuid rows)) rows_written (map (λ uid. record { uid = uid; guid = guid uid }) uids)
    (All-map IsGoodRow (λ uid. record { uid = uid; guid = guid uid }) uids (All-weaker IsUid (λ uid. IsUid uid × IsGuid (guid uid)) (λ uid is. (is, guids uid)) uids all))

-- ---- a CHECK

find_has : {X : Type 0} (P : X → Type 0) (p : X → Bool) (xs : List X) → All P xs → IfSome (find p xs) P
find_has P p [] all = tt
find_has P p (x ∷ xs) all = by_test (p x) (find_has P p xs (All-tail P x xs all))
  where
    by_test : (b : Bool) → IfSome (find p xs) P → IfSome (cond b (Some x) (find p xs)) P
    by_test true rest = All-head P x xs all
    by_test false rest = rest

number_below : (o : Option Extension) → IfSome o (λ e. IsU32 e.reset_id) → IsU32 (unwrap_or (option_map (λ e. e.reset_id) o) 0)
number_below None is = omega arith
number_below (Some e) is = is

cache_below : (m : Mailbox) → HasResets m → IsU32 (cache_number m)
cache_below m resets =
    number_below (find (λ e. bytes_eq e.name (codes "cache")) m.extensions) (find_has (λ (e : Extension). IsU32 e.reset_id) (λ e. bytes_eq e.name (codes "cache")) m.extensions resets)

next_below : (n : ℕ) → IsU32 n → IsU32 (next_number n)
next_below n below = by_test (nat_eq n 4294967295) refl
  where
    by_test : (b : Bool) → nat_eq n 4294967295 ≡ b → IsU32 (cond b 1 (n + 1))
    by_test true is = omega arith
    by_test false is = grind (arith, nat_tests)

intro_bytes : (intro : Intro) → AreByteValues intro.name → AreByteValues (intro_text intro)
intro_bytes intro name =
    let wide : List ℕ = to_le_bytes w32 intro.ext_id ++ to_le_bytes w32 intro.reset_id ++ to_le_bytes w32 intro.hdr_size in
    let sizes : List ℕ = wide ++ to_le_bytes w16 intro.record_size ++ to_le_bytes w16 intro.record_align in
    let zeros : List ℕ = replicate (padding (length intro.name)) 0 in
    let wide_is : AreByteValues wide =
    All-append IsByte (to_le_bytes w32 intro.ext_id ++ to_le_bytes w32 intro.reset_id) (to_le_bytes w32 intro.hdr_size)
    (All-append IsByte (to_le_bytes w32 intro.ext_id) (to_le_bytes w32 intro.reset_id) (word_bytes intro.ext_id) (word_bytes intro.reset_id)) (word_bytes intro.hdr_size) in
    let sizes_are : AreByteValues sizes =
    All-append IsByte (wide ++ to_le_bytes w16 intro.record_size) (to_le_bytes w16 intro.record_align)
    (All-append IsByte wide (to_le_bytes w16 intro.record_size) wide_is (half_bytes intro.record_size)) (half_bytes intro.record_align) in
    let head_is : AreByteValues (intro_head intro) =
    All-append IsByte (sizes ++ to_le_bytes w16 intro.flags) (to_le_bytes w16 (length intro.name))
    (All-append IsByte sizes (to_le_bytes w16 intro.flags) sizes_are (half_bytes intro.flags)) (half_bytes (length intro.name)) in
    All-append IsByte (intro_head intro ++ intro.name) zeros (All-append IsByte (intro_head intro) intro.name head_is name) (zero_bytes (padding (length intro.name)))

abbrev cache_intro : ℕ → Intro
cache_intro n = record { ext_id = no_id; reset_id = n; hdr_size = 0; record_size = 4; record_align = 4; flags = 0; name = codes "cache" }

intro_written : (n : ℕ) → IsU32 n → IsWritable (internal_record (body.ExtIntro (cache_intro n ∷ [])))
intro_written n below =
    let numbers : AreIntroNumbers (cache_intro n) = record { wide = (omega arith, below, omega arith); short = (omega arith, omega arith, omega arith, omega arith) } in
    record {
      is = valid_ext_intro 0 (cache_intro n ∷ []) (omega arith) (omega arith) (numbers, tt) (omega arith);
      bytes = flat_all (λ (intro : Intro). AreByteValues intro.name) IsByte intro_text intro_bytes (cache_intro n ∷ [])
          (All-cons (λ (intro : Intro). AreByteValues intro.name) (cache_intro n) []
          (All-from_recursion IsByte (codes "cache") (omega arith, (omega arith, (omega arith, (omega arith, (omega arith, tt)))))) (All-nil (λ (intro : Intro). AreByteValues intro.name)));
    }

reset_written : (n : ℕ) → IsU32 n → IsWritable (internal_record (body.ExtReset n 0))
reset_written n below = record {
  is = valid_ext_reset 0 n 0 (omega arith) below;
  bytes = All-append IsByte (to_le_bytes w32 n) (0 ∷ 0 ∷ 0 ∷ 0 ∷ []) (word_bytes n) (zero_bytes 4);
}

offset_sizes : (rows : List (ℕ × Row)) → AllByRecursion (λ row. length (offset_row row) ≡ 8) rows
offset_sizes [] = tt
offset_sizes (row ∷ rows) = (refl, offset_sizes rows)

offset_bytes : (row : ℕ × Row) → AreByteValues (offset_row row)
offset_bytes row = All-append IsByte (to_le_bytes w32 row.1.uid) (to_le_bytes w32 (32 + 16 * row.0)) (word_bytes row.1.uid) (word_bytes (32 + 16 * row.0))

update_written : (rows : List (ℕ × Row)) → IsPiece (λ row. Unit {0}) rows → IsWritable (internal_record (body.ExtRecordUpdate (flat_map offset_row rows)))
update_written rows piece =
    let n = texts_length offset_row 8 rows (offset_sizes rows) in
    record {
      is = valid_ext_record_update 0 (flat_map offset_row rows) (omega arith) (omega (arith, n)) (omega (arith, n, piece.short));
      bytes = flat_all (λ (row : ℕ × Row). Unit {0}) IsByte offset_row (λ row is. offset_bytes row) rows piece.each;
    }

check_written : (m : Mailbox) → HasResets m → AreWritable (check_records m)
check_written m resets =
    let intro : Record = internal_record (body.ExtIntro (cache_intro (cache_number m) ∷ [])) in
    let reset : Record = internal_record (body.ExtReset (next_number (cache_number m)) 0) in
    let updates : List Record = map (λ rows. internal_record (body.ExtRecordUpdate (flat_map offset_row rows))) (pieces (enumerate_from 0 m.rows)) in
    let below : IsU32 (cache_number m) = cache_below m resets in
    All-cons IsWritable intro (reset ∷ updates) (intro_written (cache_number m) below)
    (All-cons IsWritable reset updates (reset_written (next_number (cache_number m)) (next_below (cache_number m) below))
    (each_written (λ (row : ℕ × Row). Unit {0}) (λ rows. internal_record (body.ExtRecordUpdate (flat_map offset_row rows))) update_written (enumerate_from 0 m.rows) (λ k d h. tt)))

-- ---- an APPEND

append_written : (uid flags : ℕ) → IsUid uid → IsByte flags → IsWritable (external_record (body.Append (record { uid = uid; flags = flags } ∷ [])))
append_written uid flags is byte = record {
  is = valid_append external (record { uid = uid; flags = flags } ∷ []) (omega arith) (is, tt) (omega arith);
  bytes = flat_all (λ (row : NewRow). IsByte row.flags) IsByte new_row_text
      (λ row byte. All-append IsByte (to_le_bytes w32 row.uid) (row.flags ∷ 0 ∷ 0 ∷ 0 ∷ []) (word_bytes row.uid)
      (All-from_recursion IsByte (row.flags ∷ 0 ∷ 0 ∷ 0 ∷ []) (byte, (omega arith, (omega arith, (omega arith, tt))))))
      (record { uid = uid; flags = flags } ∷ []) (All-cons (λ (row : NewRow). IsByte row.flags) (record { uid = uid; flags = flags }) [] byte (All-nil (λ (row : NewRow). IsByte row.flags)));
}

adds_written : (uid : ℕ) → IsUid uid → (names : List (List ℕ)) → All IsName names → AreWritable (keyword_adds uid names)
adds_written uid is names are =
    let pairs : List Pair = record { first = uid; last = uid } ∷ [] in
    All-map IsWritable (λ name. record { top = external; body = body.KeywordUpdate how.Add name pairs }) names
    (All-weaker IsName (λ name. IsWritable (record { top = external; body = body.KeywordUpdate how.Add name pairs })) (λ name is_name. keyword_written how.Add name pairs is_name (one_range uid is) (omega arith)) names are)

-- ---- UIDs of rows

module _ (m : Mailbox) (valid : IsValid m) where
  rows_are : All (λ row. IsUid row.uid) m.rows
  rows_are = All-weaker (IsRowOf m) (λ row. IsUid row.uid) (λ row is. (is.uid.0, omega (arith, is.uid.1, valid.next_uid.1))) m.rows valid.rows

  row_uid : (test : Row → Bool) (uid : ℕ) → has_row m test uid ≡ true → IsUid uid
  row_uid test uid has = of_row (Any-from_list_any (λ row. nat_eq row.uid uid && test row) m.rows has)
    where
      of_row : Any (λ row. (nat_eq row.uid uid && test row) ≡ true) m.rows → IsUid uid
      of_row (k, row, h, at, same) =
          let e : row.uid ≡ uid = let one = (and_parts (nat_eq row.uid uid) (test row) same).0 in grind (arith, nat_tests) in
          subst IsUid e (subst (λ (r : Row). IsUid r.uid) at (rows_are k row h))

  kept_are : (test : Row → Bool) (uids : List ℕ) → All IsUid (filter (has_row m test) uids)
  kept_are test uids = All-weaker (λ uid. has_row m test uid ≡ true) IsUid (row_uid test) (filter (has_row m test) uids) (filter_passes (has_row m test) uids)

  deleted_are : All IsUid (deleted_uids m)
  deleted_are =
      All-map IsUid (λ (row : Row). row.uid) (take expunge_limit (filter is_deleted m.rows))
      (All-take (λ (row : Row). IsUid row.uid) expunge_limit (filter is_deleted m.rows) (All-filter is_deleted (λ (row : Row). IsUid row.uid) m.rows rows_are))

  -- ---- any command

  pub group_written : (c : Command) (view : View) (guid : ℕ → List ℕ) → IsCommand c → HasResets m → ((uid : ℕ) → IsGuid (guid uid)) → HasUidLeft c m → AreWritable (group_of c view m guid).records
  group_written (command.Append flags keywords message) view guid good resets guids left =
      let uid : IsUid m.next_uid = (valid.next_uid.0, let below = left refl in omega arith) in
      All-cons IsWritable (external_record (body.Append (record { uid = m.next_uid; flags = flags } ∷ []))) (keyword_adds m.next_uid keywords) (append_written m.next_uid flags uid good.0) (adds_written m.next_uid uid keywords good.1)
  group_written (command.Store by_uid set h flags keywords since) view guid good resets guids left =
      let uids : List ℕ = stored_uids by_uid set since view m in
      store_written h flags keywords (ranges_of uids) good.0 good.1 (ranges_are uids (kept_are (is_unchanged since) (map (λ row. row.1.uid) (named by_uid set view))))
  group_written command.Expunge view guid good resets guids left = expunges_written guid guids (deleted_uids m) deleted_are
  group_written (command.UidRemove set) view guid good resets guids left =
      expunges_written guid guids (removed_uids set view m) (kept_are (λ row. true) (map (λ row. row.1.uid) (named_by_uid set view)))
  group_written command.Check view guid good resets guids left = check_written m resets
  group_written c view guid good resets guids left = All-nil IsWritable
