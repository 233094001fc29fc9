-- A record makes of some rows what it makes of them among all.
use Rattle.std.proofs.Common.{◌≡◌, ℕ, ◌+◌, ◌%◌, ◌/◌, ◌≤◌, Bool, true, false, cond, not, ◌&&◌, List, [], ◌∷◌, ◌++◌, length, nat_eq, nat_le, nat_lt, Option, Some, None, refl, sym, ◌∙◌, ap, subst, arith}
use Rattle.std.specs.Prelude.{filter, fold, map, option_and_then, option_map, replicate, slice_get, take, drop}
use Rattle.std.specs.Int.{w32, from_le_bytes}
use Rattle.std.specs.List.{list_any}
use Rattle.std.proofs.lemmas.Bool.Decides.{nat_tests}
use Rattle.std.proofs.lemmas.List.Elements.{filter-append}
use Rattle.dv_model.specs.declared.types.Body.{Body}
use Rattle.dv_model.specs.declared.types.Body.TheVariants.{Expunge, Append, FlagUpdate, HeaderUpdate, ExtIntro, ExtReset, ExtHeaderUpdate, ExtRecordUpdate, KeywordUpdate, KeywordReset, ExpungeGuid, Carried}
use Rattle.dv_model.specs.declared.types.Change.{Change}
use Rattle.dv_model.specs.declared.types.Current.{Current}
use Rattle.dv_model.specs.declared.types.Extension.{Extension}
use Rattle.dv_model.specs.declared.types.How.{How}
use Rattle.dv_model.specs.declared.types.How.TheVariants.{Add, Remove, Replace}
use Rattle.dv_model.specs.declared.types.Intro.{Intro}
use Rattle.dv_model.specs.declared.types.Mailbox.{Mailbox}
use Rattle.dv_model.specs.declared.types.NewRow.{NewRow}
use Rattle.dv_model.specs.declared.types.Pair.{Pair}
use Rattle.dv_model.specs.declared.types.Part.{Part}
use Rattle.dv_model.specs.declared.types.Record.{Record}
use Rattle.dv_model.specs.declared.types.Row.{Row}
use Rattle.dv_model.specs.Effects.{added_extension, after_record, applied, effect, fit, fresh_row, grown_extension, grown_to, header_number, if_fit, introduced, is_as_before, is_in_guid_rows, is_in_pairs, is_request, keywords_after, may_be_added, new_extension, on_current, place_of, reintroduced, stamped, stamped_row, update_rows, update_size, with_bits, with_change, with_changed, with_header_part, with_header_parts, with_higher, with_intro, with_item, with_keyword, with_keywords, with_named, with_next_uid, with_parts, with_reset, with_row, with_row_parts, with_rows, with_update, with_updates, with_validity, without_current, without_uids, zeroed}
use Rattle.dv_model.specs.Mailboxes.{IsValid}
use Rattle.dv_validity.proofs.Comparisons.{as_before_uid}
use Rattle.dv_validity.proofs.Expunges.{expunged_valid}
use Rattle.dv_validity.proofs.Records.{after_by, effect_goes_on}
use Rattle.dv_portion.specs.Portions.{HoldsNew, portion}

-- ---- lists

filtered_by : {X : Type 0} (p q : X → Bool) (x : X) (both one other : List X) → filter p one ≡ both → filter q other ≡ both → (a b : Bool) → p x ≡ a → q x ≡ b
    → filter p (cond b (x ∷ one) one) ≡ filter q (cond a (x ∷ other) other)
filtered_by p q x both one other first second true true e f = rw (e, f) (ap (λ xs. x ∷ xs) (first ∙ sym second))
filtered_by p q x both one other first second true false e f = rw f (first ∙ sym second)
filtered_by p q x both one other first second false true e f = rw e (first ∙ sym second)
filtered_by p q x both one other first second false false e f = first ∙ sym second

filters_swap : {X : Type 0} (p q : X → Bool) (xs : List X) → filter p (filter q xs) ≡ filter q (filter p xs)
filters_swap p q [] = refl
filters_swap p q (x ∷ xs) = filtered_by p q x (filter q (filter p xs)) (filter q xs) (filter p xs) (filters_swap p q xs) refl (p x) (q x) refl refl

pub filter_same : {X : Type 0} (p q : X → Bool) → ((x : X) → p x ≡ q x) → (xs : List X) → filter p xs ≡ filter q xs
filter_same p q same [] = refl
filter_same p q same (x ∷ xs) = ap (λ (b : Bool). cond b (x ∷ filter p xs) (filter p xs)) (same x) ∙ ap (λ ys. cond (q x) (x ∷ ys) ys) (filter_same p q same xs)

not_not : (b : Bool) → not (not b) ≡ b
not_not true = refl
not_not false = refl

-- ---- a portion of changed rows

abbrev pub in_portion : (ℕ → Bool) → List Row → List Row
in_portion test rows = filter (λ row. test row.uid) rows

both_by : (test : ℕ → Bool) (f g : Row → Row) (row : Row) (some all : List Row) → (f row).uid ≡ row.uid → (test row.uid ≡ true → g row ≡ f row) → map g some ≡ in_portion test all
    → (b : Bool) → test row.uid ≡ b → map g (cond b (row ∷ some) some) ≡ cond (test (f row).uid) (f row ∷ in_portion test all) (in_portion test all)
both_by test f g row some all uid same later true e =
    ap (λ r. r ∷ map g some) (same e) ∙ ap (λ rs. f row ∷ rs) later ∙ ap (λ (b : Bool). cond b (f row ∷ in_portion test all) (in_portion test all)) (sym (ap test uid ∙ e))
both_by test f g row some all uid same later false e = later ∙ ap (λ (b : Bool). cond b (f row ∷ in_portion test all) (in_portion test all)) (sym (ap test uid ∙ e))

-- rows that pass are changed alike
changed_both : (test : ℕ → Bool) (f g : Row → Row) → ((row : Row) → (f row).uid ≡ row.uid) → ((row : Row) → test row.uid ≡ true → g row ≡ f row) → (rows : List Row)
    → map g (in_portion test rows) ≡ in_portion test (map f rows)
changed_both test f g uid same [] = refl
changed_both test f g uid same (row ∷ rows) = both_by test f g row (in_portion test rows) (map f rows) (uid row) (same row) (changed_both test f g uid same rows) (test row.uid) refl

pub portion_mapped : (test : ℕ → Bool) (f : Row → Row) → ((row : Row) → (f row).uid ≡ row.uid) → (rows : List Row) → map f (in_portion test rows) ≡ in_portion test (map f rows)
portion_mapped test f uid rows = changed_both test f f uid (λ row e. refl) rows

-- ---- the record's modification sequence

any_by : {X : Type 0} (p q : X → Bool) (x : X) (xs : List X) → (p x ≡ true → q x ≡ true) → list_any p (filter q xs) ≡ list_any p xs → (a b : Bool) → p x ≡ a → q x ≡ b
    → list_any p (cond b (x ∷ filter q xs) (filter q xs)) ≡ list_any p (x ∷ xs)
any_by p q x xs within later true true e f = rw e refl
any_by p q x xs within later true false e f = let impossible : q x ≡ true = within e in absurd cc
any_by p q x xs within later false true e f = rw e later
any_by p q x xs within later false false e f = rw e later

any_in_filter : {X : Type 0} (p q : X → Bool) → ((x : X) → p x ≡ true → q x ≡ true) → (xs : List X) → list_any p (filter q xs) ≡ list_any p xs
any_in_filter p q within [] = refl
any_in_filter p q within (x ∷ xs) = any_by p q x xs (within x) (any_in_filter p q within xs) (p x) (q x) refl refl

uid_by : (b : Bool) (n : ℕ) (row : Row) → (cond b row (record row { modseq = n })).uid ≡ row.uid
uid_by true n row = refl
uid_by false n row = refl

pub stamped_uid : (before : List Row) (n : ℕ) (row : Row) → (stamped_row before n row).uid ≡ row.uid
stamped_uid before n row = uid_by (list_any (is_as_before row) before) n row

stamped_same : (test : ℕ → Bool) (before : List Row) (n : ℕ) (row : Row) → test row.uid ≡ true → stamped_row (in_portion test before) n row ≡ stamped_row before n row
stamped_same test before n row passes =
    ap (λ (b : Bool). cond b row (record row { modseq = n }))
    (any_in_filter (is_as_before row) (λ old. test old.uid) (λ old e. ap test (sym (as_before_uid row old e)) ∙ passes) before)

pub stamped_portion : (test : ℕ → Bool) (before : List Row) (m : Mailbox) → stamped (in_portion test before) (portion test m) ≡ portion test (stamped before m)
stamped_portion test before m =
    ap (λ (rows : List Row). record m { rows = rows })
    (changed_both test (stamped_row before m.highest) (stamped_row (in_portion test before) m.highest) (stamped_uid before m.highest) (stamped_same test before m.highest) m.rows)

-- ---- each effect

module _ (test : ℕ → Bool) where
  -- the effect on a portion is the portion of the effect
  abbrev Acts : (Mailbox → Mailbox) → Type 0
  Acts f = (m : Mailbox) → f (portion test m) ≡ portion test (f m)

  acts_in_turn : {A : Type 0} (f : Mailbox → A → Mailbox) → ((a : A) → Acts (λ m. f m a)) → (xs : List A) → Acts (λ m. fold f m xs)
  acts_in_turn f step [] m = refl
  acts_in_turn f step (x ∷ xs) m = ap (λ k. fold f k xs) (step x m) ∙ acts_in_turn f step xs (f m x)

  changed_uid : (b : Bool) (change : Row → Row) (row : Row) → (change row).uid ≡ row.uid → (cond b (change row) row).uid ≡ row.uid
  changed_uid true change row same = same
  changed_uid false change row same = refl

  changed_acts : (names : ℕ → Bool) (change : Row → Row) → ((row : Row) → (change row).uid ≡ row.uid) → Acts (with_changed names change)
  changed_acts names change uid m =
      ap (λ (rows : List Row). record m { rows = rows })
      (portion_mapped test (λ row. cond (names row.uid) (change row) row) (λ row. changed_uid (names row.uid) change row (uid row)) m.rows)

  removed_acts : (names : ℕ → Bool) → Acts (without_uids names)
  removed_acts names m = ap (λ (rows : List Row). record m { rows = rows }) (filters_swap (λ row. not (names row.uid)) (λ row. test row.uid) m.rows)

  parts_act : (f : List (List ℕ) → List (List ℕ)) (rows : List Row) → map (with_row_parts f) (in_portion test rows) ≡ in_portion test (map (with_row_parts f) rows)
  parts_act f rows = portion_mapped test (with_row_parts f) (λ row. refl) rows

  -- ---- new rows

  added_act : (m : Mailbox) (row : NewRow) → test row.uid ≡ true → with_row (portion test m) row ≡ portion test (with_row m row)
  added_act m row passes =
      ap (λ (rows : List Row). record m { rows = rows; next_uid = row.uid + 1 })
      (sym (filter-append (λ (r : Row). test r.uid) m.rows (fresh_row m row ∷ []) ∙ ap (λ (b : Bool). in_portion test m.rows ++ cond b (fresh_row m row ∷ []) []) passes))

  above : (m : Mailbox) (row : NewRow) → HoldsNew test m.next_uid → nat_lt row.uid m.next_uid ≡ false → test row.uid ≡ true
  above m row new e = new row.uid (grind (arith, nat_tests))

  above_next : (m : Mailbox) (row : NewRow) → HoldsNew test m.next_uid → nat_lt row.uid m.next_uid ≡ false → HoldsNew test (row.uid + 1)
  above_next m row new e uid h = let le : m.next_uid ≤ row.uid = grind (arith, nat_tests) in new uid (omega arith)

  rows_by : (m : Mailbox) (row : NewRow) (rows : List NewRow) → HoldsNew test m.next_uid
      → (HoldsNew test (row.uid + 1) → with_rows (portion test (with_row m row)) rows ≡ option_map (portion test) (with_rows (with_row m row) rows))
      → (b : Bool) → nat_lt row.uid m.next_uid ≡ b → cond b None (with_rows (with_row (portion test m) row) rows) ≡ option_map (portion test) (cond b None (with_rows (with_row m row) rows))
  rows_by m row rows new later true e = refl
  rows_by m row rows new later false e = ap (λ k. with_rows k rows) (added_act m row (above m row new e)) ∙ later (above_next m row new e)

  rows_act : (m : Mailbox) (rows : List NewRow) → HoldsNew test m.next_uid → with_rows (portion test m) rows ≡ option_map (portion test) (with_rows m rows)
  rows_act m [] new = refl
  rows_act m (row ∷ rows) new = rows_by m row rows new (λ higher. rows_act (with_row m row) rows higher) (nat_lt row.uid m.next_uid) refl

  -- ---- the header

  validity_acts : (o : Option ℕ) → Acts (λ m. with_validity m o)
  validity_acts None m = refl
  validity_acts (Some n) m = refl

  next_acts : (o : Option ℕ) → Acts (λ m. with_next_uid m o)
  next_acts None m = refl
  next_acts (Some n) m = refl

  header_acts : (part : Part) → Acts (λ m. with_header_part m part)
  header_acts part m = ap (λ k. with_next_uid k (header_number part 28)) (validity_acts (header_number part 24) m) ∙ next_acts (header_number part 28) (with_validity m (header_number part 24))

  -- ---- keywords

  named_acts : (how : How) (name : List ℕ) → Acts (with_named how name)
  named_acts Add name m = refl
  named_acts Remove name m = refl
  named_acts Replace name m = refl

  keywords_act : (pairs : List Pair) (change : List ℕ → List ℕ) → Acts (with_keywords pairs change)
  keywords_act pairs change = changed_acts (is_in_pairs pairs) (λ row. record row { keywords = change row.keywords }) (λ row. refl)

  keyword_by : (how : How) (name : List ℕ) (pairs : List Pair) (m : Mailbox) (o : Option ℕ) → place_of m.keywords name ≡ o → with_keyword how name pairs (portion test m) ≡ portion test (with_keyword how name pairs m)
  keyword_by how name pairs m None e = rw e refl
  keyword_by how name pairs m (Some k) e = rw e (keywords_act pairs (keywords_after how k) m)

  keyword_acts : (how : How) (name : List ℕ) (pairs : List Pair) → Acts (λ m. with_keyword how name pairs (with_named how name m))
  keyword_acts how name pairs m =
      let n : Mailbox = with_named how name m in
      ap (with_keyword how name pairs) (named_acts how name m) ∙ keyword_by how name pairs n (place_of n.keywords name) refl

  -- ---- extensions

  either_acts : (b : Bool) (f g : Mailbox → Mailbox) → Acts f → Acts g → Acts (λ m. cond b (f m) (g m))
  either_acts true f g one other m = one m
  either_acts false f g one other m = other m

  fit_by : (m n k : Mailbox) → k ≡ portion test n → (b : Bool) → cond b k (without_current (portion test m)) ≡ portion test (cond b n (without_current m))
  fit_by m n k e true = e
  fit_by m n k e false = refl

  abbrev grown : ℕ → Intro → Mailbox → Mailbox
  grown k intro m =
      record (with_parts k (grown_to intro.record_size) m) { extensions = with_item k (grown_extension intro) m.extensions; current = Some (record { extension = k; size = intro.record_size }) }

  grown_acts : (k : ℕ) (intro : Intro) → Acts (grown k intro)
  grown_acts k intro m =
      ap (λ (rows : List Row). record m { rows = rows; extensions = with_item k (grown_extension intro) m.extensions; current = Some (record { extension = k; size = intro.record_size }) })
      (parts_act (with_item k (grown_to intro.record_size)) m.rows)

  known_acts : (k : ℕ) (e : Extension) (intro : Intro) (m : Mailbox) → reintroduced (portion test m) k e intro ≡ portion test (reintroduced m k e intro)
  known_acts k e intro m =
      fit_by m (if_fit m (grown k intro m)) (if_fit (portion test m) (grown k intro (portion test m)))
      (fit_by m (grown k intro m) (grown k intro (portion test m)) (grown_acts k intro m) (fit (with_item k (grown_extension intro) m.extensions)))
      (nat_eq e.reset_id intro.reset_id)

  abbrev with_new : Intro → Mailbox → Mailbox
  with_new intro m = record m {
    rows = map (with_row_parts (λ parts. parts ++ replicate intro.record_size 0 ∷ [])) m.rows;
    extensions = m.extensions ++ new_extension intro ∷ [];
    current = Some (record { extension = length m.extensions; size = intro.record_size });
  }

  new_acts : (intro : Intro) (m : Mailbox) → with_new intro (portion test m) ≡ portion test (with_new intro m)
  new_acts intro m =
      ap (λ (rows : List Row). record m { rows = rows; extensions = m.extensions ++ new_extension intro ∷ []; current = Some (record { extension = length m.extensions; size = intro.record_size }) })
      (parts_act (λ parts. parts ++ replicate intro.record_size 0 ∷ []) m.rows)

  at_place_acts : (intro : Intro) (m : Mailbox) (k : ℕ) → introduced m.extensions intro ≡ Some k → (o : Option Extension) → slice_get m.extensions k ≡ o → with_intro (portion test m) intro ≡ portion test (with_intro m intro)
  at_place_acts intro m k place None at = rw (place, at) refl
  at_place_acts intro m k place (Some e) at = rw (place, at) (known_acts k e intro m)

  intro_by : (intro : Intro) (m : Mailbox) (o : Option ℕ) → introduced m.extensions intro ≡ o → with_intro (portion test m) intro ≡ portion test (with_intro m intro)
  intro_by intro m None place =
      rw place
      (fit_by m (added_extension m intro) (added_extension (portion test m) intro)
      (fit_by m (with_new intro m) (with_new intro (portion test m)) (new_acts intro m) (fit (m.extensions ++ new_extension intro ∷ [])))
      (may_be_added intro))
  intro_by intro m (Some k) place = at_place_acts intro m k place (slice_get m.extensions k) refl

  intro_acts : (intro : Intro) → Acts (λ m. with_intro m intro)
  intro_acts intro m = intro_by intro m (introduced m.extensions intro) refl

  current_by : (change : Mailbox → Current → Mailbox) → ((current : Current) → Acts (λ m. change m current)) → (m : Mailbox) (o : Option Current) → m.current ≡ o
      → on_current (portion test m) (change (portion test m)) ≡ portion test (on_current m (change m))
  current_by change each m None e = rw e refl
  current_by change each m (Some current) e = rw e (each current (record m { current = Some current }))

  current_acts : (change : Mailbox → Current → Mailbox) → ((current : Current) → Acts (λ m. change m current)) → Acts (λ m. on_current m (change m))
  current_acts change each m = current_by change each m m.current refl

  abbrev zeroing : ℕ → Current → Mailbox → Mailbox
  zeroing reset_id current m = record (with_parts current.extension zeroed m) { extensions = with_item current.extension (λ e. record e { reset_id = reset_id; header = zeroed e.header }) m.extensions }

  zeroing_acts : (reset_id : ℕ) (current : Current) → Acts (zeroing reset_id current)
  zeroing_acts reset_id current m =
      ap (λ (rows : List Row). record m { rows = rows; extensions = with_item current.extension (λ e. record e { reset_id = reset_id; header = zeroed e.header }) m.extensions })
      (parts_act (with_item current.extension zeroed) m.rows)

  reset_acts : (reset_id preserve : ℕ) (current : Current) → Acts (λ m. with_reset reset_id preserve m current)
  reset_acts reset_id preserve current =
      either_acts (nat_eq preserve 0) (zeroing reset_id current) (λ m. record m { extensions = with_item current.extension (λ e. record e { reset_id = reset_id }) m.extensions }) (zeroing_acts reset_id current) (λ m. refl)

  update_acts : (current : Current) (update : List ℕ) → Acts (λ m. with_update current m update)
  update_acts current update =
      changed_acts (nat_eq (from_le_bytes w32 (take 4 update))) (λ row. record row { parts = with_item current.extension (λ part. take current.size (drop 4 update) ++ drop current.size part) row.parts }) (λ row. refl)

  updates_act : (bytes : List ℕ) (current : Current) → Acts (λ m. with_updates bytes m current)
  updates_act bytes current =
      let updates : List (List ℕ) = update_rows (length bytes / update_size current.size) (update_size current.size) bytes in
      either_acts (nat_eq (length bytes % update_size current.size) 0) (λ m. fold (with_update current) m updates) (λ m. m) (acts_in_turn (with_update current) (update_acts current) updates) (λ m. refl)

  -- ---- any record

  change_acts : (change : Change) → Acts (λ m. with_change m change)
  change_acts change = changed_acts (λ uid. nat_le change.first uid && nat_le uid change.last) (λ row. record row { flags = with_bits change.add change.remove row.flags }) (λ row. refl)

  -- only an append asks which UIDs are new
  abbrev pub Brings : ℕ → Body → Type 0
  Brings next_uid (Append rows) = HoldsNew test next_uid
  Brings next_uid body = Unit {0}

  pub brings : (next_uid : ℕ) (body : Body) → HoldsNew test next_uid → Brings next_uid body
  brings next_uid (Append rows) new = new
  brings next_uid (Expunge pairs) new = tt
  brings next_uid (ExpungeGuid rows) new = tt
  brings next_uid (FlagUpdate changes) new = tt
  brings next_uid (HeaderUpdate parts) new = tt
  brings next_uid (ExtIntro intros) new = tt
  brings next_uid (ExtReset reset_id preserve) new = tt
  brings next_uid (ExtHeaderUpdate parts) new = tt
  brings next_uid (ExtRecordUpdate bytes) new = tt
  brings next_uid (KeywordUpdate how name pairs) new = tt
  brings next_uid (KeywordReset pairs) new = tt
  brings next_uid (Carried code bytes) new = tt

  pub effect_acts : (m : Mailbox) (body : Body) → Brings m.next_uid body → effect (portion test m) body ≡ option_map (portion test) (effect m body)
  effect_acts m (Append rows) new = rows_act m rows new
  effect_acts m (HeaderUpdate parts) new = ap Some (acts_in_turn with_header_part header_acts parts m)
  effect_acts m (Expunge pairs) new = ap Some (removed_acts (is_in_pairs pairs) m)
  effect_acts m (ExpungeGuid rows) new = ap Some (removed_acts (is_in_guid_rows rows) m)
  effect_acts m (FlagUpdate changes) new = ap Some (acts_in_turn with_change change_acts changes m)
  effect_acts m (KeywordUpdate how name pairs) new = ap Some (keyword_acts how name pairs m)
  effect_acts m (KeywordReset pairs) new = ap Some (keywords_act pairs (λ places. []) m)
  effect_acts m (ExtIntro intros) new = ap Some (acts_in_turn with_intro intro_acts intros m)
  effect_acts m (ExtReset reset_id preserve) new = ap Some (current_acts (with_reset reset_id preserve) (reset_acts reset_id preserve) m)
  effect_acts m (ExtHeaderUpdate parts) new = ap Some (current_acts (with_header_parts parts) (λ current m. refl) m)
  effect_acts m (ExtRecordUpdate bytes) new = ap Some (current_acts (with_updates bytes) (updates_act bytes) m)
  effect_acts m (Carried code bytes) new = refl

  stamp_by : (before : List Row) (o : Option Mailbox) → option_map (stamped (in_portion test before)) (option_map (portion test) o) ≡ option_map (portion test) (option_map (stamped before) o)
  stamp_by before None = refl
  stamp_by before (Some k) = ap Some (stamped_portion test before k)

  record_by : (m : Mailbox) (r : Record) → HoldsNew test m.next_uid → (b : Bool)
      → cond b (Some (with_higher (portion test m))) (option_map (stamped (in_portion test m.rows)) (effect (with_higher (portion test m)) r.body))
      ≡ option_map (portion test) (cond b (Some (with_higher m)) (option_map (stamped m.rows) (effect (with_higher m) r.body)))
  record_by m r new true = refl
  record_by m r new false =
      ap (option_map (stamped (in_portion test m.rows))) (effect_acts (with_higher m) r.body (brings m.next_uid r.body new)) ∙ stamp_by m.rows (effect (with_higher m) r.body)

  pub record_portion : (m : Mailbox) (r : Record) → HoldsNew test m.next_uid → after_record (portion test m) r ≡ option_map (portion test) (after_record m r)
  record_portion m r new = record_by m r new (is_request r)

-- ---- records in turn

never_lower : (m n : Mailbox) (r : Record) → after_record m r ≡ Some n → m.next_uid ≤ n.next_uid
never_lower m n r done = after_by (λ k. m.next_uid ≤ k.next_uid) m n r (omega arith) (λ k e. (effect_goes_on (with_higher m) k r.body e).next_uid) (is_request r) done

pub next_by : (test : ℕ → Bool) (m n : Mailbox) (r : Record) → HoldsNew test m.next_uid → after_record m r ≡ Some n → HoldsNew test n.next_uid
next_by test m n r new done uid h = let le : m.next_uid ≤ n.next_uid = never_lower m n r done in new uid (omega arith)

in_turn_by : (test : ℕ → Bool) (m : Mailbox) (r : Record) (rs : List Record) → HoldsNew test m.next_uid
    → ((n : Mailbox) → HoldsNew test n.next_uid → applied (portion test n) rs ≡ option_map (portion test) (applied n rs))
    → (o : Option Mailbox) → after_record m r ≡ o
    → option_and_then (λ k. applied k rs) (option_map (portion test) o) ≡ option_map (portion test) (option_and_then (λ k. applied k rs) o)
in_turn_by test m r rs new later None e = refl
in_turn_by test m r rs new later (Some n) e = later n (next_by test m n r new e)

pub records_portion : (test : ℕ → Bool) (m : Mailbox) (rs : List Record) → HoldsNew test m.next_uid → applied (portion test m) rs ≡ option_map (portion test) (applied m rs)
records_portion test m [] new = refl
records_portion test m (r ∷ rs) new =
    ap (option_and_then (λ k. applied k rs)) (record_portion test m r new)
    ∙ in_turn_by test m r rs new (λ n higher. records_portion test n rs higher) (after_record m r) refl

-- ---- validity

pub portion_valid : (test : ℕ → Bool) (m : Mailbox) → IsValid m → IsValid (portion test m)
portion_valid test m valid =
    subst (λ (rows : List Row). IsValid (record m { rows = rows })) (filter_same (λ (row : Row). not (not (test row.uid))) (λ (row : Row). test row.uid) (λ row. not_not (test row.uid)) m.rows)
    (expunged_valid m (λ uid. not (test uid)) valid)
