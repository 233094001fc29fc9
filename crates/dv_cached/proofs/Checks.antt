-- What the group of CHECK leaves of the rows' UIDs.
use Rattle.std.proofs.Common.{◌≡◌, ◌^◌, ◌<◌, ◌≤◌, ℕ, zero, suc, ◌/◌, ◌%◌, Bool, true, false, cond, List, [], ◌∷◌, ◌++◌, length, drop, get_or, nat_eq, Option, Some, None, refl, sym, ◌∙◌, subst, arith}
use Rattle.std.specs.Prelude.{All, Contains, codes, flat_map, fold, map, slice_get, take}
use Rattle.std.specs.Int.{w32, from_le_bytes}
use Rattle.std.specs.List.{enumerate_from, list_any}
use Rattle.std.proofs.lemmas.List.{length-map}
use Rattle.std.proofs.lemmas.List.Elements.{All-cons, All-contains, All-contains_itself, All-head, All-map, All-tail, All-weaker}
use Rattle.std.proofs.lemmas.Option.{option_and_then_some}
use Rattle.dv_model.specs.declared.types.Body.{Body}
use Rattle.dv_model.specs.declared.types.Body.TheVariants as body
use Rattle.dv_model.specs.declared.types.Current.{Current}
use Rattle.dv_model.specs.declared.types.Extension.{Extension}
use Rattle.dv_model.specs.declared.types.Intro.{Intro}
use Rattle.dv_model.specs.declared.types.Mailbox.{Mailbox}
use Rattle.dv_model.specs.declared.types.Record.{Record}
use Rattle.dv_model.specs.declared.types.Row.{Row}
use Rattle.dv_model.specs.Effects.{added_extension, after_record, applied, effect, fit, grown_extension, grown_to, if_fit, introduced, no_id, is_as_before, is_request, may_be_added, new_extension, on_current, stamped_row, update_rows, update_size, with_higher, with_intro, with_item, with_parts, with_reset, with_row_parts, with_update, with_updates, without_current, zeroed}
use Rattle.dv_model.specs.Journals.{Mail, Held, Damaged}
use Rattle.dv_model.specs.Mailboxes.{IsRowOf, IsValid}
use Rattle.dv_cache.specs.declared.row.CacheRow.{CacheRow}
use Rattle.dv_model.specs.Sessions.{cache_number, check_records, internal_record, next_number, offset_row, pieces}
use Rattle.dv_shelf.specs.declared.shelf.Name.TheVariants as name
use Rattle.dv_shelf.specs.Folders.{Folder}
use Rattle.dv_cache.specs.Caches.{HasFive, cache_text}
use Rattle.dv_cache.specs.Written.{AreWritable}
use Rattle.dv_dbox.specs.Mails.{mail_in}
use Rattle.dv_openings.specs.TrueCaches.{HasTrueCache, cached_rows, known_of}
use Rattle.dv_openings.proofs.Cached.{written_true}
use Rattle.dv_validity.proofs.Records.{after_by, by_some}
use Rattle.dv_validity.proofs.Rows.{fold_keeps_any, map_map, map_same}

-- the rows keep their UIDs
abbrev SameUids : Mailbox → Mailbox → Type 0
SameUids m n = map (λ row. row.uid) n.rows ≡ map (λ row. row.uid) m.rows

uids_mapped : (f : Row → Row) → ((row : Row) → (f row).uid ≡ row.uid) → (rows : List Row) → map (λ row. row.uid) (map f rows) ≡ map (λ row. row.uid) rows
uids_mapped f same rows = map_map (λ (row : Row). row.uid) f rows ∙ map_same (λ (row : Row). (f row).uid) (λ (row : Row). row.uid) same rows

parts_mapped : (change : List (List ℕ) → List (List ℕ)) (rows : List Row) → map (λ row. row.uid) (map (with_row_parts change) rows) ≡ map (λ row. row.uid) rows
parts_mapped change rows = uids_mapped (with_row_parts change) (λ row. refl) rows

-- ---- introductions

fit_by : (m changed : Mailbox) (b : Bool) → SameUids m changed → SameUids m (cond b changed (without_current m))
fit_by m changed true same = same
fit_by m changed false same = refl

module _ (m : Mailbox) (intro : Intro) where
  grown_by : (k : ℕ) (e : Extension) (b : Bool)
      → SameUids m (cond b
      (if_fit m (record (with_parts k (grown_to intro.record_size) m) { extensions = with_item k (grown_extension intro) m.extensions; current = Some (record { extension = k; size = intro.record_size }) }))
      (without_current m))
  grown_by k e true =
      fit_by m (record (with_parts k (grown_to intro.record_size) m) { extensions = with_item k (grown_extension intro) m.extensions; current = Some (record { extension = k; size = intro.record_size }) })
      (fit (with_item k (grown_extension intro) m.extensions)) (parts_mapped (with_item k (grown_to intro.record_size)) m.rows)
  grown_by k e false = refl

  new_by : (b : Bool) → SameUids m (cond b (added_extension m intro) (without_current m))
  new_by true = fit_by m _ (fit (m.extensions ++ new_extension intro ∷ [])) (parts_mapped _ m.rows)
  new_by false = refl

  known_by : (k : ℕ) → introduced m.extensions intro ≡ Some k → (o : Option Extension) → slice_get m.extensions k ≡ o → SameUids m (with_intro m intro)
  known_by k place None is = rw (place, is) refl
  known_by k place (Some e) is = rw (place, is) (grown_by k e (nat_eq e.reset_id intro.reset_id))

  intro_by : (o : Option ℕ) → introduced m.extensions intro ≡ o → SameUids m (with_intro m intro)
  intro_by None place = rw place (new_by (may_be_added intro))
  intro_by (Some k) place = known_by k place (slice_get m.extensions k) refl

  intro_uids : SameUids m (with_intro m intro)
  intro_uids = intro_by (introduced m.extensions intro) refl

-- ---- resets and updates

current_by : (m : Mailbox) (change : Current → Mailbox) → ((c : Current) → SameUids m (change c)) → (o : Option Current) → m.current ≡ o → SameUids m (on_current m change)
current_by m change each None is = rw is refl
current_by m change each (Some c) is = rw is (each c)

on_current_uids : (m : Mailbox) (change : Current → Mailbox) → ((c : Current) → SameUids m (change c)) → SameUids m (on_current m change)
on_current_uids m change each = current_by m change each m.current refl

reset_uids : (m : Mailbox) (reset_id : ℕ) (c : Current) → SameUids m (with_reset reset_id 0 m c)
reset_uids m reset_id c = parts_mapped (with_item c.extension zeroed) m.rows

row_by : (change : Row → Row) → ((row : Row) → (change row).uid ≡ row.uid) → (b : Bool) (row : Row) → (cond b (change row) row).uid ≡ row.uid
row_by change same true row = same row
row_by change same false row = refl

update_uids : (c : Current) (m : Mailbox) (update : List ℕ) → SameUids m (with_update c m update)
update_uids c m update =
    let change : Row → Row = λ row. record row { parts = with_item c.extension (λ part. take c.size (drop 4 update) ++ drop c.size part) row.parts } in
    uids_mapped (λ row. cond (nat_eq (from_le_bytes w32 (take 4 update)) row.uid) (change row) row) (λ row. row_by change (λ r. refl) (nat_eq (from_le_bytes w32 (take 4 update)) row.uid) row) m.rows

updates_by : (bytes : List ℕ) (m : Mailbox) (c : Current) (b : Bool) → SameUids m (cond b (fold (with_update c) m (update_rows (length bytes / update_size c.size) (update_size c.size) bytes)) m)
updates_by bytes m c true = fold_keeps_any (SameUids m) (with_update c) (λ n update is. update_uids c n update ∙ is) m (update_rows (length bytes / update_size c.size) (update_size c.size) bytes) refl
updates_by bytes m c false = refl

-- ---- records

-- an introduction, a reset that preserves nothing, or an update of rows
abbrev IsOfCheck : Body → Type 0
IsOfCheck (body.ExtIntro intros) = Unit {0}
IsOfCheck (body.ExtReset reset_id zero) = Unit {0}
IsOfCheck (body.ExtRecordUpdate bytes) = Unit {0}
IsOfCheck other = ⊥

effect_uids : (m n : Mailbox) (b : Body) → IsOfCheck b → effect m b ≡ Some n → SameUids m n
effect_uids m n (body.ExtIntro intros) is e = by_some (SameUids m) (fold with_intro m intros) n (fold_keeps_any (SameUids m) with_intro (λ k intro so. intro_uids k intro ∙ so) m intros refl) e
effect_uids m n (body.ExtReset reset_id zero) is e = by_some (SameUids m) (on_current m (with_reset reset_id 0 m)) n (on_current_uids m (with_reset reset_id 0 m) (reset_uids m reset_id)) e
effect_uids m n (body.ExtReset reset_id (suc k)) is e = absurd is
effect_uids m n (body.ExtRecordUpdate bytes) is e =
    by_some (SameUids m) (on_current m (with_updates bytes m)) n (on_current_uids m (with_updates bytes m) (λ c. updates_by bytes m c (nat_eq (length bytes % update_size c.size) 0))) e
effect_uids m n (body.Expunge pairs) is e = absurd is
effect_uids m n (body.Append rows) is e = absurd is
effect_uids m n (body.FlagUpdate changes) is e = absurd is
effect_uids m n (body.HeaderUpdate parts) is e = absurd is
effect_uids m n (body.ExtHeaderUpdate parts) is e = absurd is
effect_uids m n (body.KeywordUpdate h name pairs) is e = absurd is
effect_uids m n (body.KeywordReset pairs) is e = absurd is
effect_uids m n (body.ExpungeGuid rows) is e = absurd is
effect_uids m n (body.Carried code bytes) is e = absurd is

stamped_by : (b : Bool) (n : ℕ) (row : Row) → (cond b row (record row { modseq = n })).uid ≡ row.uid
stamped_by true n row = refl
stamped_by false n row = refl

record_uids : (m n : Mailbox) (r : Record) → IsOfCheck r.body → after_record m r ≡ Some n → SameUids m n
record_uids m n r is e =
    after_by (SameUids m) m n r refl
    (λ k done. uids_mapped (stamped_row m.rows k.highest) (λ row. stamped_by (list_any (is_as_before row) m.rows) k.highest row) k.rows ∙ effect_uids (with_higher m) k r.body is done) (is_request r) e

records_uids : (m n : Mailbox) (rs : List Record) → All (λ r. IsOfCheck r.body) rs → applied m rs ≡ Some n → SameUids m n
records_uids m n [] are e = by_some (SameUids m) m n refl e
records_uids m n (r ∷ rs) are e =
    option_and_then_some (λ k. applied k rs) (after_record m r) n e
    (λ k first rest. records_uids k n rs (All-tail (λ r. IsOfCheck r.body) r rs are) rest ∙ record_uids m k r (All-head (λ r. IsOfCheck r.body) r rs are) first)

check_are : (m : Mailbox) → All (λ r. IsOfCheck r.body) (check_records m)
check_are m =
    let P : Record → Type 0 = λ r. IsOfCheck r.body in
    let update : List (ℕ × Row) → Record = λ rows. internal_record (body.ExtRecordUpdate (flat_map offset_row rows)) in
    let updates : List Record = map update (pieces (enumerate_from 0 m.rows)) in
    let intro : Record = internal_record (body.ExtIntro (record { ext_id = no_id; reset_id = cache_number m; hdr_size = 0; record_size = 4; record_align = 4; flags = 0; name = codes "cache" } ∷ [])) in
    let reset : Record = internal_record (body.ExtReset (next_number (cache_number m)) 0) in
    let last : All P updates = All-map P update (pieces (enumerate_from 0 m.rows)) (λ k d h. tt {0}) in
    let more : All P (reset ∷ updates) = All-cons P reset updates (tt {0}) last in
    All-cons P intro (reset ∷ updates) (tt {0}) more

pub check_uids : (m after : Mailbox) → applied m (check_records m) ≡ Some after → map (λ row. row.uid) after.rows ≡ map (λ row. row.uid) m.rows
check_uids m after e = records_uids m after (check_records m) (check_are m) e

-- ---- the cache

-- what holds of each UID of a mailbox holds of each row's
pub uids_all : (P : ℕ → Type 0) (rows : List Row) → All (λ row. P row.uid) rows → All P (map (λ row. row.uid) rows)
uids_all P rows all = All-map P (λ (row : Row). row.uid) rows all

pub rows_all : (P : ℕ → Type 0) (rows : List Row) → All P (map (λ row. row.uid) rows) → All (λ row. P row.uid) rows
rows_all P [] all = λ k d h. absurd (omega arith)
rows_all P (row ∷ rows) all =
    All-cons (λ (r : Row). P r.uid) row rows (All-head P row.uid (map (λ row. row.uid) rows) all) (rows_all P rows (All-tail P row.uid (map (λ row. row.uid) rows) all))

pub checked_true : (folder : Folder) (indexid number seq : ℕ) (mail : ℕ → Mail) (m after : Mailbox) → number < 2 ^ 32 → seq < 2 ^ 32 → AreWritable (cached_rows mail m) → folder name.Cache ≡ Some (cache_text number seq (cached_rows mail m))
    → ((row : Row) → Contains m.rows row → mail row.uid ≡ mail_in (folder (name.Mail row.uid))) → applied m (check_records m) ≡ Some after → HasTrueCache folder indexid after
checked_true folder indexid number seq mail m after p q ok cache same e =
    let P : ℕ → Type 0 = λ uid. mail uid ≡ mail_in (folder (name.Mail uid)) in
    let old : All (λ row. P row.uid) m.rows = λ k d h. same (get_or m.rows k d) (All-contains_itself m.rows k d h) in
    let new : All (λ row. P row.uid) after.rows = rows_all P after.rows (subst (All P) (sym (check_uids m after e)) (uids_all P m.rows old)) in
    written_true folder indexid number seq mail m after p q ok cache (λ row here. All-contains (λ row. P row.uid) after.rows row new here)

-- ---- what may be written

known_five : (o : Mail) → HasFive (known_of o)
known_five Damaged = tt {0}
known_five (Held message) = refl

pub cached_writable : (mail : ℕ → Mail) (m : Mailbox) → IsValid m → length m.rows ≤ 8388608 → AreWritable (cached_rows mail m)
cached_writable mail m valid few =
    let made : Row → CacheRow = λ row. record { uid = row.uid; known = known_of (mail row.uid) } in
    let top : m.next_uid < 2 ^ 32 = valid.next_uid.1 in
    record {
      uids = All-map (λ (row : CacheRow). row.uid < 2 ^ 32) made m.rows (All-weaker (IsRowOf m) (λ row. row.uid < 2 ^ 32) (λ row is. let low = is.uid.1 in omega (arith, low, top)) m.rows valid.rows);
      five = All-map (λ (row : CacheRow). HasFive row.known) made m.rows (λ k d h. known_five (mail (get_or m.rows k d).uid));
      few = let long = length-map m.rows made in omega (arith, long, few);
    }
