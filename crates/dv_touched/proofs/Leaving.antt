-- A record leaves alone what is shown of a row that it doesn't name.
use Rattle.std.proofs.Common.{◌≡◌, ℕ, suc, ◌%◌, ◌/◌, Bool, true, false, cond, ◌&&◌, List, [], ◌∷◌, ◌++◌, length, get_or, nat_eq, nat_le, nat_lt, Option, Some, None, refl, sym, ◌∙◌, ap, arith}
use Rattle.std.proofs.lemmas.Bool.{false_from_ne_true, eqb-true}
use Rattle.std.specs.Prelude.{All, Contains, bytes_eq, drop, filter, find, fold, map, not, option_map, replicate, slice_get, take, if◌then◌else◌}
use Rattle.std.specs.List.{list_any}
use Rattle.std.specs.Int.{w32, from_le_bytes}
use Rattle.std.proofs.lemmas.Bool.Decides.{nat_tests}
use Rattle.std.proofs.lemmas.List.Folds.{list_any_at}
use Rattle.dv_model.specs.declared.types.Body.{Body}
use Rattle.dv_model.specs.declared.types.Body.TheVariants.{Expunge, Append, FlagUpdate, HeaderUpdate, ExtIntro, ExtReset, ExtHeaderUpdate, ExtRecordUpdate, KeywordUpdate, KeywordReset, ExpungeGuid, Carried}
use Rattle.dv_model.specs.declared.types.Change.{Change}
use Rattle.dv_model.specs.declared.types.Current.{Current}
use Rattle.dv_model.specs.declared.types.Extension.{Extension}
use Rattle.dv_model.specs.declared.types.How.{How}
use Rattle.dv_model.specs.declared.types.How.TheVariants.{Add, Remove, Replace}
use Rattle.dv_model.specs.declared.types.Intro.{Intro}
use Rattle.dv_model.specs.declared.types.Mailbox.{Mailbox}
use Rattle.dv_model.specs.declared.types.NewRow.{NewRow}
use Rattle.dv_model.specs.declared.types.Pair.{Pair}
use Rattle.dv_model.specs.declared.types.Part.{Part}
use Rattle.dv_model.specs.declared.types.Record.{Record}
use Rattle.dv_model.specs.declared.types.Row.{Row}
use Rattle.dv_model.specs.declared.types.Shown.{Shown}
use Rattle.dv_model.specs.Effects.{added_extension, after_record, effect, fit, fresh_row, grown_extension, grown_to, header_number, if_fit, introduced, is_as_before, is_in_guid_rows, is_in_pairs, is_request, keywords_after, may_be_added, new_extension, on_current, place_of, reintroduced, stamped_row, update_rows, update_size, with_bits, with_change, with_changed, with_header_part, with_header_parts, with_higher, with_intro, with_item, with_keyword, with_keywords, with_named, with_next_uid, with_parts, with_reset, with_row, with_row_parts, with_rows, with_update, with_updates, with_validity, without_current, without_uids, zeroed}
use Rattle.dv_model.specs.Fresh.{shown_of}
use Rattle.dv_model.specs.Views.{shown}
use Rattle.dv_validity.proofs.Comparisons.{as_before_itself}
use Rattle.dv_validity.proofs.Records.{after_by, by_some}
use Rattle.dv_validity.proofs.Rows.{fold_keeps, fold_keeps_any}
use Rattle.dv_touched.specs.Naming.{names_uid}
use Rattle.dv_touched.specs.Telling.{shown_in}

-- ---- rows

-- none of them passes
all_off : {X : Type 0} (p : X → Bool) (xs : List X) → list_any p xs ≡ false → All (λ x. p x ≡ false) xs
all_off p xs off k d h = false_from_ne_true (p (get_or xs k d)) (λ passes. let found : list_any p xs ≡ true = list_any_at p xs k d h passes in absurd cc)

-- what is shown of the row of this UID
abbrev pub seen : ℕ → List Row → Option Shown
seen u rows = shown_in rows u

beside : (row : Row) (o p : Option Row) (b : Bool) → option_map shown o ≡ option_map shown p → option_map shown (cond b (Some row) o) ≡ option_map shown (cond b (Some row) p)
beside row o p true rest = refl
beside row o p false rest = rest

passed : (u : ℕ) (row : Row) (o : Option Row) → nat_eq row.uid u ≡ false → option_map shown (cond (nat_eq row.uid u) (Some row) o) ≡ option_map shown o
passed u row o e = ap (λ (b : Bool). option_map shown (cond b (Some row) o)) e

mapped_by : (u : ℕ) (f : Row → Row) (row : Row) (o p : Option Row) → (f row).uid ≡ row.uid → (row.uid ≡ u → shown (f row) ≡ shown row) → option_map shown o ≡ option_map shown p
    → (b : Bool) → nat_eq row.uid u ≡ b → option_map shown (cond b (Some row) o) ≡ option_map shown (cond (nat_eq (f row).uid u) (Some (f row)) p)
mapped_by u f row o p uid same rest true e =
    let found : nat_eq (f row).uid u ≡ true = ap (λ n. nat_eq n u) uid ∙ e in
    ap Some (sym (same (eqb-true row.uid u e))) ∙ ap (λ (b : Bool). option_map shown (cond b (Some (f row)) p)) (sym found)
mapped_by u f row o p uid same rest false e =
    let other : nat_eq (f row).uid u ≡ false = ap (λ n. nat_eq n u) uid ∙ e in
    rest ∙ ap (λ (b : Bool). option_map shown (cond b (Some (f row)) p)) (sym other)

seen_mapped : (u : ℕ) (f : Row → Row) → ((row : Row) → (f row).uid ≡ row.uid) → ((row : Row) → row.uid ≡ u → shown (f row) ≡ shown row) → (rows : List Row) → seen u rows ≡ seen u (map f rows)
seen_mapped u f uid same [] = refl
seen_mapped u f uid same (row ∷ rows) =
    mapped_by u f row (find (λ row. nat_eq row.uid u) rows) (find (λ row. nat_eq row.uid u) (map f rows)) (uid row) (same row) (seen_mapped u f uid same rows) (nat_eq row.uid u) refl

kept_by : (u : ℕ) (row : Row) (rows kept : List Row) (b : Bool) → (nat_eq row.uid u ≡ true → b ≡ true) → seen u rows ≡ seen u kept → seen u (row ∷ rows) ≡ seen u (cond b (row ∷ kept) kept)
kept_by u row rows kept true passes rest = beside row (find (λ row. nat_eq row.uid u) rows) (find (λ row. nat_eq row.uid u) kept) (nat_eq row.uid u) rest
kept_by u row rows kept false passes rest =
    passed u row (find (λ row. nat_eq row.uid u) rows) (false_from_ne_true (nat_eq row.uid u) (λ found. let impossible : false ≡ true = passes found in absurd cc)) ∙ rest

pub seen_filtered : (u : ℕ) (p : Row → Bool) → ((row : Row) → row.uid ≡ u → p row ≡ true) → (rows : List Row) → seen u rows ≡ seen u (filter p rows)
seen_filtered u p stays [] = refl
seen_filtered u p stays (row ∷ rows) = kept_by u row rows (filter p rows) (p row) (λ found. stays row (eqb-true row.uid u found)) (seen_filtered u p stays rows)

seen_pushed : (u : ℕ) (rows : List Row) (new : Row) → nat_eq new.uid u ≡ false → seen u rows ≡ seen u (rows ++ new ∷ [])
seen_pushed u [] new other = sym (passed u new None other)
seen_pushed u (row ∷ rows) new other =
    beside row (find (λ row. nat_eq row.uid u) rows) (find (λ row. nat_eq row.uid u) (rows ++ new ∷ [])) (nat_eq row.uid u) (seen_pushed u rows new other)

-- ---- the record's modification sequence

found_by : (u : ℕ) (f : Row → Row) (row : Row) (o p : Option Row) → (f row).uid ≡ row.uid → p ≡ option_map f o
    → (b : Bool) → nat_eq row.uid u ≡ b → cond (nat_eq (f row).uid u) (Some (f row)) p ≡ option_map f (cond b (Some row) o)
found_by u f row o p uid rest true e = ap (λ (b : Bool). cond b (Some (f row)) p) (ap (λ n. nat_eq n u) uid ∙ e)
found_by u f row o p uid rest false e = ap (λ (b : Bool). cond b (Some (f row)) p) (ap (λ n. nat_eq n u) uid ∙ e) ∙ rest

pub found_mapped : (u : ℕ) (f : Row → Row) → ((row : Row) → (f row).uid ≡ row.uid) → (rows : List Row) → find (λ row. nat_eq row.uid u) (map f rows) ≡ option_map f (find (λ row. nat_eq row.uid u) rows)
found_mapped u f uid [] = refl
found_mapped u f uid (row ∷ rows) =
    found_by u f row (find (λ row. nat_eq row.uid u) rows) (find (λ row. nat_eq row.uid u) (map f rows)) (uid row) (found_mapped u f uid rows) (nat_eq row.uid u) refl

contained_by : (row old : Row) (rows : List Row) (o : Option Row) → (o ≡ Some old → Contains rows old) → (b : Bool) → cond b (Some row) o ≡ Some old → Contains (row ∷ rows) old
contained_by row old rows o later true e = let same : row ≡ old = cc in (0, omega arith, same)
contained_by row old rows o later false e = let (k, h, at) = later e in (suc k, omega arith, at)

pub contained : (u : ℕ) (rows : List Row) (old : Row) → find (λ row. nat_eq row.uid u) rows ≡ Some old → Contains rows old
contained u [] old e = absurd cc
contained u (row ∷ rows) old e = contained_by row old rows (find (λ row. nat_eq row.uid u) rows) (contained u rows old) (nat_eq row.uid u) e

any_contained : (p : Row → Bool) (rows : List Row) (old : Row) → Contains rows old → p old ≡ true → list_any p rows ≡ true
any_contained p rows old (k, h, at) passes = list_any_at p rows k old h (ap p at ∙ passes)

pub as_before : (row old : Row) → shown row ≡ shown old → is_as_before row old ≡ true
as_before row old same =
    ap (λ (s : Shown). nat_eq s.uid old.uid && nat_eq s.flags (old.flags % 32) && bytes_eq s.keywords old.keywords) same ∙ as_before_itself old

stamp_by : (u : ℕ) (before : List Row) (n : ℕ) (o p : Option Row) → find (λ row. nat_eq row.uid u) before ≡ o → option_map shown o ≡ option_map shown p → option_map shown o ≡ option_map shown (option_map (stamped_row before n) p)
stamp_by u before n None None e same = refl
stamp_by u before n None (Some row) e same = absurd cc
stamp_by u before n (Some old) None e same = absurd cc
stamp_by u before n (Some old) (Some row) e same =
    let alike : shown row ≡ shown old = cc in
    same
    ∙ ap (λ (b : Bool). Some (shown (cond b row (record row { modseq = n })))) (sym (any_contained (is_as_before row) before old (contained u before old e) (as_before row old alike)))

uid_by : (b : Bool) (n : ℕ) (row : Row) → (cond b row (record row { modseq = n })).uid ≡ row.uid
uid_by true n row = refl
uid_by false n row = refl

seen_stamped : (u : ℕ) (before new : List Row) (n : ℕ) → seen u before ≡ seen u new → seen u before ≡ seen u (map (stamped_row before n) new)
seen_stamped u before new n same =
    stamp_by u before n (find (λ row. nat_eq row.uid u) before) (find (λ row. nat_eq row.uid u) new) refl same
    ∙ ap (option_map shown) (sym (found_mapped u (stamped_row before n) (λ row. uid_by (list_any (is_as_before row) before) n row) new))

-- ---- what leaves the row of this UID alone

module _ (u : ℕ) where
  abbrev Leaves : Mailbox → Mailbox → Type 0
  Leaves m n = seen u m.rows ≡ seen u n.rows

  -- steps that each leave it alone do so in turn
  in_turn : {A : Type 0} (Q : A → Type 0) (f : Mailbox → A → Mailbox) → ((m : Mailbox) (a : A) → Q a → Leaves m (f m a)) → (m : Mailbox) (xs : List A) → All Q xs → Leaves m (fold f m xs)
  in_turn Q f step m xs each = fold_keeps (Leaves m) Q f (λ n a is so. so ∙ step n a is) m xs each refl

  any_in_turn : {A : Type 0} (f : Mailbox → A → Mailbox) → ((m : Mailbox) (a : A) → Leaves m (f m a)) → (m : Mailbox) (xs : List A) → Leaves m (fold f m xs)
  any_in_turn f step m xs = fold_keeps_any (Leaves m) f (λ n a so. so ∙ step n a) m xs refl

  changed_uid : (b : Bool) (change : Row → Row) (row : Row) → (change row).uid ≡ row.uid → (cond b (change row) row).uid ≡ row.uid
  changed_uid true change row same = same
  changed_uid false change row same = refl

  changed : (test : ℕ → Bool) (change : Row → Row) (m : Mailbox) → ((row : Row) → (change row).uid ≡ row.uid) → test u ≡ false → Leaves m (with_changed test change m)
  changed test change m uid off =
      seen_mapped u (λ row. cond (test row.uid) (change row) row) (λ row. changed_uid (test row.uid) change row (uid row))
      (λ row at. ap (λ (b : Bool). shown (cond b (change row) row)) (ap test at ∙ off)) m.rows

  removed : (test : ℕ → Bool) (m : Mailbox) → test u ≡ false → Leaves m (without_uids test m)
  removed test m off = seen_filtered u (λ row. not (test row.uid)) (λ row at. ap not (ap test at ∙ off)) m.rows

  parts_leave : (m : Mailbox) (f : List (List ℕ) → List (List ℕ)) → seen u m.rows ≡ seen u (map (with_row_parts f) m.rows)
  parts_leave m f = seen_mapped u (with_row_parts f) (λ row. refl) (λ row at. refl) m.rows

  -- ---- new rows

  added_by : (m n : Mailbox) (row : NewRow) (rows : List NewRow) → nat_eq row.uid u ≡ false → (with_rows (with_row m row) rows ≡ Some n → Leaves (with_row m row) n)
      → (b : Bool) → cond b None (with_rows (with_row m row) rows) ≡ Some n → Leaves m n
  added_by m n row rows other later true e = absurd cc
  added_by m n row rows other later false e = seen_pushed u m.rows (fresh_row m row) other ∙ later e

  added : (m n : Mailbox) (rows : List NewRow) → All (λ (row : NewRow). nat_eq row.uid u ≡ false) rows → with_rows m rows ≡ Some n → Leaves m n
  added m n [] others e = by_some (Leaves m) m n refl e
  added m n (row ∷ rows) others e =
      added_by m n row rows (others 0 row (omega arith)) (added (with_row m row) n rows (λ k d h. others (suc k) d (omega arith))) (nat_lt row.uid m.next_uid) e

  -- ---- the header

  with_validity_leaves : (m : Mailbox) (o : Option ℕ) → Leaves m (with_validity m o)
  with_validity_leaves m None = refl
  with_validity_leaves m (Some n) = refl

  with_next_leaves : (m : Mailbox) (o : Option ℕ) → Leaves m (with_next_uid m o)
  with_next_leaves m None = refl
  with_next_leaves m (Some n) = refl

  header_leaves : (m : Mailbox) (part : Part) → Leaves m (with_header_part m part)
  header_leaves m part = with_validity_leaves m (header_number part 24) ∙ with_next_leaves (with_validity m (header_number part 24)) (header_number part 28)

  -- ---- keywords

  named_leaves : (m : Mailbox) (how : How) (name : List ℕ) → Leaves m (with_named how name m)
  named_leaves m Add name = refl
  named_leaves m Remove name = refl
  named_leaves m Replace name = refl

  keywords_leave : (m : Mailbox) (pairs : List Pair) (change : List ℕ → List ℕ) → is_in_pairs pairs u ≡ false → Leaves m (with_keywords pairs change m)
  keywords_leave m pairs change off = changed (is_in_pairs pairs) (λ row. record row { keywords = change row.keywords }) m (λ row. refl) off

  placed_leaves : (m : Mailbox) (how : How) (name : List ℕ) (pairs : List Pair) → is_in_pairs pairs u ≡ false → (o : Option ℕ) → place_of m.keywords name ≡ o → Leaves m (with_keyword how name pairs m)
  placed_leaves m how name pairs off None e = rw e refl
  placed_leaves m how name pairs off (Some k) e = rw e (keywords_leave m pairs (keywords_after how k) off)

  keyword_leaves : (m : Mailbox) (how : How) (name : List ℕ) (pairs : List Pair) → is_in_pairs pairs u ≡ false → Leaves m (with_keyword how name pairs (with_named how name m))
  keyword_leaves m how name pairs off =
      let n : Mailbox = with_named how name m in named_leaves m how name ∙ placed_leaves n how name pairs off (place_of n.keywords name) refl

  -- ---- extensions

  either : (m changed : Mailbox) → Leaves m changed → (b : Bool) → Leaves m (cond b changed (without_current m))
  either m changed is true = is
  either m changed is false = refl

  fit_leaves : (m changed : Mailbox) → Leaves m changed → Leaves m (if_fit m changed)
  fit_leaves m changed is = either m changed is (fit changed.extensions)

  abbrev grown : Mailbox → ℕ → Intro → Mailbox
  grown m k intro =
      record (with_parts k (grown_to intro.record_size) m) { extensions = with_item k (grown_extension intro) m.extensions; current = Some (record { extension = k; size = intro.record_size }) }

  known_leaves : (m : Mailbox) (k : ℕ) (e : Extension) (intro : Intro) → Leaves m (reintroduced m k e intro)
  known_leaves m k e intro =
      either m (if_fit m (grown m k intro)) (fit_leaves m (grown m k intro) (parts_leave m (with_item k (grown_to intro.record_size)))) (nat_eq e.reset_id intro.reset_id)

  abbrev with_new : Mailbox → Intro → Mailbox
  with_new m intro = record m {
    rows = map (with_row_parts (λ parts. parts ++ replicate intro.record_size 0 ∷ [])) m.rows;
    extensions = m.extensions ++ new_extension intro ∷ [];
    current = Some (record { extension = length m.extensions; size = intro.record_size });
  }

  new_leaves : (m : Mailbox) (intro : Intro) → Leaves m (added_extension m intro)
  new_leaves m intro = fit_leaves m (with_new m intro) (parts_leave m (λ parts. parts ++ replicate intro.record_size 0 ∷ []))

  at_place_leaves : (m : Mailbox) (intro : Intro) (k : ℕ) → introduced m.extensions intro ≡ Some k → (o : Option Extension) → slice_get m.extensions k ≡ o → Leaves m (with_intro m intro)
  at_place_leaves m intro k place None at = rw (place, at) refl
  at_place_leaves m intro k place (Some e) at = rw (place, at) (known_leaves m k e intro)

  intro_by : (m : Mailbox) (intro : Intro) → (o : Option ℕ) → introduced m.extensions intro ≡ o → Leaves m (with_intro m intro)
  intro_by m intro None place = rw place (either m (added_extension m intro) (new_leaves m intro) (may_be_added intro))
  intro_by m intro (Some k) place = at_place_leaves m intro k place (slice_get m.extensions k) refl

  intro_leaves : (m : Mailbox) (intro : Intro) → Leaves m (with_intro m intro)
  intro_leaves m intro = intro_by m intro (introduced m.extensions intro) refl

  current_by : (m : Mailbox) (change : Current → Mailbox) (o : Option Current) → ((current : Current) → Leaves m (change current)) → Leaves m (on_current (record m { current = o }) change)
  current_by m change None later = refl
  current_by m change (Some current) later = later current

  current_leaves : (m : Mailbox) (change : Current → Mailbox) → ((current : Current) → Leaves m (change current)) → Leaves m (on_current m change)
  current_leaves m change later = current_by m change m.current later

  reset_by : (m : Mailbox) (zeroes kept : Mailbox) → Leaves m zeroes → Leaves m kept → (b : Bool) → Leaves m (cond b zeroes kept)
  reset_by m zeroes kept one other true = one
  reset_by m zeroes kept one other false = other

  reset_leaves : (m : Mailbox) (reset_id preserve : ℕ) (current : Current) → Leaves m (with_reset reset_id preserve m current)
  reset_leaves m reset_id preserve current = reset_by m _ _ (parts_leave m (with_item current.extension zeroed)) refl (nat_eq preserve 0)

  update_uid : (b : Bool) (f : List (List ℕ) → List (List ℕ)) (row : Row) → (cond b (with_row_parts f row) row).uid ≡ row.uid
  update_uid true f row = refl
  update_uid false f row = refl

  update_shown : (b : Bool) (f : List (List ℕ) → List (List ℕ)) (row : Row) → shown (cond b (with_row_parts f row) row) ≡ shown row
  update_shown true f row = refl
  update_shown false f row = refl

  update_leaves : (current : Current) (m : Mailbox) (update : List ℕ) → Leaves m (with_update current m update)
  update_leaves current m update =
      let change : List (List ℕ) → List (List ℕ) = with_item current.extension (λ part. take current.size (drop 4 update) ++ drop current.size part) in
      seen_mapped u (λ row. if nat_eq (from_le_bytes w32 (take 4 update)) row.uid then with_row_parts change row else row)
      (λ row. update_uid (nat_eq (from_le_bytes w32 (take 4 update)) row.uid) change row) (λ row at. update_shown (nat_eq (from_le_bytes w32 (take 4 update)) row.uid) change row) m.rows

  updates_leave : (m : Mailbox) (bytes : List ℕ) (current : Current) → Leaves m (with_updates bytes m current)
  updates_leave m bytes current =
      let updates : List (List ℕ) = update_rows (length bytes / update_size current.size) (update_size current.size) bytes in
      reset_by m (fold (with_update current) m updates) m (any_in_turn (with_update current) (update_leaves current) m updates) refl (nat_eq (length bytes % update_size current.size) 0)

  -- ---- any record

  effect_leaves : (m n : Mailbox) (body : Body) → names_uid body u ≡ false → effect m body ≡ Some n → Leaves m n
  effect_leaves m n (Expunge pairs) off e = by_some (Leaves m) _ n (removed (is_in_pairs pairs) m off) e
  effect_leaves m n (Append rows) off e = added m n rows (all_off (λ (row : NewRow). nat_eq row.uid u) rows off) e
  effect_leaves m n (FlagUpdate changes) off e =
      by_some (Leaves m) _ n
      (in_turn (λ (change : Change). (nat_le change.first u && nat_le u change.last) ≡ false) with_change
      (λ m change out. changed (λ uid. nat_le change.first uid && nat_le uid change.last) (λ row. record row { flags = with_bits change.add change.remove row.flags }) m (λ row. refl) out)
      m changes (all_off (λ (change : Change). nat_le change.first u && nat_le u change.last) changes off))
      e
  effect_leaves m n (HeaderUpdate parts) off e = by_some (Leaves m) _ n (any_in_turn with_header_part header_leaves m parts) e
  effect_leaves m n (ExtIntro intros) off e = by_some (Leaves m) _ n (any_in_turn with_intro intro_leaves m intros) e
  effect_leaves m n (ExtReset reset_id preserve) off e = by_some (Leaves m) _ n (current_leaves m (with_reset reset_id preserve m) (reset_leaves m reset_id preserve)) e
  effect_leaves m n (ExtHeaderUpdate parts) off e = by_some (Leaves m) _ n (current_leaves m (with_header_parts parts m) (λ current. refl)) e
  effect_leaves m n (ExtRecordUpdate bytes) off e = by_some (Leaves m) _ n (current_leaves m (with_updates bytes m) (updates_leave m bytes)) e
  effect_leaves m n (KeywordUpdate how name pairs) off e = by_some (Leaves m) _ n (keyword_leaves m how name pairs off) e
  effect_leaves m n (KeywordReset pairs) off e = by_some (Leaves m) _ n (keywords_leave m pairs (λ places. []) off) e
  effect_leaves m n (ExpungeGuid rows) off e = by_some (Leaves m) _ n (removed (is_in_guid_rows rows) m off) e
  effect_leaves m n (Carried code bytes) off e = by_some (Leaves m) m n refl e

pub only_named : (m n : Mailbox) (r : Record) (uid : ℕ) → after_record m r ≡ Some n → names_uid r.body uid ≡ false → shown_of m uid ≡ shown_of n uid
only_named m n r uid e off =
    after_by (λ k. seen uid m.rows ≡ seen uid k.rows) m n r refl
    (λ k done. seen_stamped uid m.rows k.rows k.highest (effect_leaves uid (with_higher m) k r.body off done)) (is_request r) e
