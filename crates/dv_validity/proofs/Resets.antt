-- Each extension's reset number stays one of 32 bits.
use Rattle.std.proofs.Common.{◌≡◌, ℕ, zero, suc, ◌+◌, ◌/◌, ◌%◌, Bool, true, false, cond, List, [], ◌∷◌, ◌++◌, length, drop, nat_eq, nat_lt, Option, Some, None, refl}
use Rattle.std.specs.Prelude.{All, fold, slice_get}
use Rattle.std.proofs.lemmas.List.Elements.{All-cons, All-from_recursion, All-head, All-push, All-tail}
use Rattle.std.proofs.lemmas.Option.{option_and_then_some}
use Rattle.dv_model.specs.declared.types.Body.{Body}
use Rattle.dv_model.specs.declared.types.Body.TheVariants as body
use Rattle.dv_model.specs.declared.types.Current.{Current}
use Rattle.dv_model.specs.declared.types.Extension.{Extension}
use Rattle.dv_model.specs.declared.types.How.{How}
use Rattle.dv_model.specs.declared.types.How.TheVariants as how
use Rattle.dv_model.specs.declared.types.Intro.{Intro}
use Rattle.dv_model.specs.declared.types.Mailbox.{Mailbox}
use Rattle.dv_model.specs.declared.types.NewRow.{NewRow}
use Rattle.dv_model.specs.declared.types.Pair.{Pair}
use Rattle.dv_model.specs.declared.types.Part.{Part}
use Rattle.dv_model.specs.declared.types.Record.{Record}
use Rattle.dv_model.specs.Effects.{after_record, added_extension, applied, effect, fit, grown_extension, grown_to, header_number, if_fit, introduced, is_in_guid_rows, is_in_pairs, is_request, may_be_added, new_extension, on_current, place_of, update_rows, update_size, with_change, with_header_part, with_header_parts, with_higher, with_intro, with_item, with_keyword, with_keywords, with_named, with_next_uid, with_parts, with_reset, with_row, with_rows, with_update, with_updates, with_validity, without_current, without_uids, written_over, zeroed}
use Rattle.dv_model.specs.Journals.{HasResets, IsU32}
use Rattle.dv_model.specs.Spelling.{IsIntro, IsPayload, IsRecord, padded, written}
use Rattle.dv_records.proofs.InTurn.{in_turn-all}
use Rattle.dv_validity.proofs.Records.{after_by, by_some}
use Rattle.dv_validity.proofs.Rows.{fold_keeps, fold_keeps_any}

abbrev IsNumbered : Extension → Type 0
IsNumbered e = IsU32 e.reset_id

item_all : {X : Type 0} (P : X → Type 0) (f : X → X) → ((x : X) → P x → P (f x)) → (k : ℕ) (xs : List X) → All P xs → All P (with_item k f xs)
item_all P f step k [] all = all
item_all P f step zero (x ∷ xs) all = All-cons P (f x) xs (step x (All-head P x xs all)) (All-tail P x xs all)
item_all P f step (suc k) (x ∷ xs) all = All-cons P x (with_item k f xs) (All-head P x xs all) (item_all P f step k xs (All-tail P x xs all))

-- ---- introductions

fit_by : (m changed : Mailbox) (b : Bool) → HasResets m → HasResets changed → HasResets (cond b changed (without_current m))
fit_by m changed true resets others = others
fit_by m changed false resets others = resets

module _ (m : Mailbox) (intro : Intro) (resets : HasResets m) (number : IsU32 intro.reset_id) where
  grown_by : (k : ℕ) (e : Extension) (b : Bool)
      → HasResets (cond b
      (if_fit m (record (with_parts k (grown_to intro.record_size) m) { extensions = with_item k (grown_extension intro) m.extensions; current = Some (record { extension = k; size = intro.record_size }) }))
      (without_current m))
  grown_by k e true =
      fit_by m (record (with_parts k (grown_to intro.record_size) m) { extensions = with_item k (grown_extension intro) m.extensions; current = Some (record { extension = k; size = intro.record_size }) })
      (fit (with_item k (grown_extension intro) m.extensions)) resets (item_all IsNumbered (grown_extension intro) (λ e is. is) k m.extensions resets)
  grown_by k e false = resets

  added_resets : HasResets (added_extension m intro)
  added_resets = fit_by m _ (fit (m.extensions ++ new_extension intro ∷ [])) resets (All-push IsNumbered m.extensions (new_extension intro) resets number)

  new_by : (b : Bool) → HasResets (cond b (added_extension m intro) (without_current m))
  new_by true = added_resets
  new_by false = resets

  known_by : (k : ℕ) → introduced m.extensions intro ≡ Some k → (o : Option Extension) → slice_get m.extensions k ≡ o → HasResets (with_intro m intro)
  known_by k place None is = rw (place, is) resets
  known_by k place (Some e) is = rw (place, is) (grown_by k e (nat_eq e.reset_id intro.reset_id))

  intro_by : (o : Option ℕ) → introduced m.extensions intro ≡ o → HasResets (with_intro m intro)
  intro_by None place = rw place (new_by (may_be_added intro))
  intro_by (Some k) place = known_by k place (slice_get m.extensions k) refl

  intro_resets : HasResets (with_intro m intro)
  intro_resets = intro_by (introduced m.extensions intro) refl

-- ---- other records of extensions

current_by : (m : Mailbox) (change : Current → Mailbox) → HasResets m → ((c : Current) → HasResets (change c)) → (o : Option Current) → m.current ≡ o → HasResets (on_current m change)
current_by m change resets each None is = rw is resets
current_by m change resets each (Some c) is = rw is (each c)

on_current_resets : (m : Mailbox) (change : Current → Mailbox) → HasResets m → ((c : Current) → HasResets (change c)) → HasResets (on_current m change)
on_current_resets m change resets each = current_by m change resets each m.current refl

module _ (m : Mailbox) (resets : HasResets m) where
  reset_by : (reset_id : ℕ) (c : Current) → IsU32 reset_id → (b : Bool)
      → HasResets (cond b (record (with_parts c.extension zeroed m) { extensions = with_item c.extension (λ e. record e { reset_id = reset_id; header = zeroed e.header }) m.extensions })
      (record m { extensions = with_item c.extension (λ e. record e { reset_id = reset_id }) m.extensions }))
  reset_by reset_id c number true = item_all IsNumbered (λ e. record e { reset_id = reset_id; header = zeroed e.header }) (λ e is. number) c.extension m.extensions resets
  reset_by reset_id c number false = item_all IsNumbered (λ e. record e { reset_id = reset_id }) (λ e is. number) c.extension m.extensions resets

  header_resets : (parts : List Part) (c : Current) → HasResets (with_header_parts parts m c)
  header_resets parts c = item_all IsNumbered (λ e. record e { header = fold written_over e.header parts }) (λ e is. is) c.extension m.extensions resets

  updates_by : (bytes : List ℕ) (c : Current) (b : Bool) → HasResets (cond b (fold (with_update c) m (update_rows (length bytes / update_size c.size) (update_size c.size) bytes)) m)
  updates_by bytes c true = fold_keeps_any HasResets (with_update c) (λ n update is. is) m (update_rows (length bytes / update_size c.size) (update_size c.size) bytes) resets
  updates_by bytes c false = resets

  -- ---- records that leave the extensions

  next_by : (v n : Option ℕ) → HasResets (with_next_uid (with_validity m v) n)
  next_by None None = resets
  next_by None (Some n) = resets
  next_by (Some v) None = resets
  next_by (Some v) (Some n) = resets

  named_resets : (h : How) (name : List ℕ) → HasResets (with_named h name m)
  named_resets how.Add name = resets
  named_resets how.Remove name = resets
  named_resets how.Replace name = resets

  keyword_by : (h : How) (name : List ℕ) (pairs : List Pair) (o : Option ℕ) → place_of m.keywords name ≡ o → HasResets (with_keyword h name pairs m)
  keyword_by h name pairs None is = rw is resets
  keyword_by h name pairs (Some k) is = rw is resets

keyword_resets : (m : Mailbox) (resets : HasResets m) (h : How) (name : List ℕ) (pairs : List Pair) → HasResets (with_keyword h name pairs (with_named h name m))
keyword_resets m resets h name pairs = let n : Mailbox = with_named h name m in keyword_by n (named_resets m resets h name) h name pairs (place_of n.keywords name) refl

rows_by : (m n : Mailbox) (row : NewRow) (rows : List NewRow) → (with_rows (with_row m row) rows ≡ Some n → HasResets n) → (b : Bool) → cond b None (with_rows (with_row m row) rows) ≡ Some n → HasResets n
rows_by m n row rows later true e = absurd cc
rows_by m n row rows later false e = later e

rows_resets : (m n : Mailbox) (rows : List NewRow) → HasResets m → with_rows m rows ≡ Some n → HasResets n
rows_resets m n [] resets e = by_some HasResets m n resets e
rows_resets m n (row ∷ rows) resets e = rows_by m n row rows (λ rest. rows_resets (with_row m row) n rows resets rest) (nat_lt row.uid m.next_uid) e

-- ---- any record

numbers_are : (intros : List Intro) (b : List ℕ) → IsPayload (body.ExtIntro intros) b → All (λ intro. IsU32 intro.reset_id) intros
numbers_are intros b is =
    All-from_recursion (λ (intro : Intro). IsU32 intro.reset_id) intros
    (in_turn-all (λ (intro : Intro). padded (20 + length intro.name)) IsIntro (λ intro. IsU32 intro.reset_id) (λ intro c one. one.numbers.wide.1) intros b is.1)

effect_resets : (m n : Mailbox) (bd : Body) (b : List ℕ) → HasResets m → IsPayload bd b → effect m bd ≡ Some n → HasResets n
effect_resets m n (body.Expunge pairs) b resets is e = by_some HasResets (without_uids (is_in_pairs pairs) m) n resets e
effect_resets m n (body.Append rows) b resets is e = rows_resets m n rows resets e
effect_resets m n (body.FlagUpdate changes) b resets is e = by_some HasResets (fold with_change m changes) n (fold_keeps_any HasResets with_change (λ k change is. is) m changes resets) e
effect_resets m n (body.HeaderUpdate parts) b resets is e =
    by_some HasResets (fold with_header_part m parts) n
    (fold_keeps_any HasResets with_header_part (λ k part is. next_by k is (header_number part 24) (header_number part 28)) m parts resets) e
effect_resets m n (body.ExtIntro intros) b resets is e =
    by_some HasResets (fold with_intro m intros) n
    (fold_keeps HasResets (λ (intro : Intro). IsU32 intro.reset_id) with_intro (λ k intro number is. intro_resets k intro is number) m intros (numbers_are intros b is) resets) e
effect_resets m n (body.ExtReset reset_id preserve) b resets is e =
    by_some HasResets (on_current m (with_reset reset_id preserve m)) n (on_current_resets m (with_reset reset_id preserve m) resets (λ c. reset_by m resets reset_id c is.0 (nat_eq preserve 0))) e
effect_resets m n (body.ExtHeaderUpdate parts) b resets is e = by_some HasResets (on_current m (with_header_parts parts m)) n (on_current_resets m (with_header_parts parts m) resets (header_resets m resets parts)) e
effect_resets m n (body.ExtRecordUpdate bytes) b resets is e =
    by_some HasResets (on_current m (with_updates bytes m)) n
    (on_current_resets m (with_updates bytes m) resets (λ c. updates_by m resets bytes c (nat_eq (length bytes % update_size c.size) 0))) e
effect_resets m n (body.KeywordUpdate h name pairs) b resets is e = by_some HasResets (with_keyword h name pairs (with_named h name m)) n (keyword_resets m resets h name pairs) e
effect_resets m n (body.KeywordReset pairs) b resets is e = by_some HasResets (with_keywords pairs (λ places. []) m) n resets e
effect_resets m n (body.ExpungeGuid rows) b resets is e = by_some HasResets (without_uids (is_in_guid_rows rows) m) n resets e
effect_resets m n (body.Carried code bytes) b resets is e = by_some HasResets m n resets e

pub record_resets : (m n : Mailbox) (r : Record) → HasResets m → IsRecord r → after_record m r ≡ Some n → HasResets n
record_resets m n r resets is e =
    after_by HasResets m n r resets (λ k done. effect_resets (with_higher m) k r.body (drop 8 (written r)) resets is.spells.payload done) (is_request r) e

pub records_resets : (m n : Mailbox) (rs : List Record) → HasResets m → All IsRecord rs → applied m rs ≡ Some n → HasResets n
records_resets m n [] resets is e = by_some HasResets m n resets e
records_resets m n (r ∷ rs) resets is e =
    option_and_then_some (λ k. applied k rs) (after_record m r) n e
    (λ k first rest. records_resets k n rs (record_resets m k r resets (All-head IsRecord r rs is) first) (All-tail IsRecord r rs is) rest)
