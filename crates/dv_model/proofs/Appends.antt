-- What an appended message does to a mailbox, how it is written, and what sessions are told of it.
use Rattle.std.proofs.Common.{◌≡◌, ℕ, ◌+◌, ◌-◌, ◌^◌, ◌%◌, ◌<◌, ◌≤◌, Bool, true, false, cond, not, ◌&&◌, ◌||◌, List, [], ◌∷◌, ◌++◌, length, Some, None, refl, sym, ◌∙◌, ap, arith}
use Rattle.std.specs.Prelude.{All, reverse, slice_index_or, min, map, replicate, nat_eq, bytes_eq, option_map}
use Rattle.std.specs.List.{list_any, list_all}
use Rattle.std.specs.Int.{w32, to_le_bytes}
use Rattle.std.proofs.lemmas.Bool.{eq-eqb, le-ltb, and_left, and_right}
use Rattle.std.proofs.lemmas.Bool.Decides.{nat_tests}
use Rattle.std.proofs.lemmas.List.{append-nil, length-map, length_push, map_push}
use Rattle.std.proofs.lemmas.List.Elements.{All-head, All-tail, All-map, All-push, All-weaker}
use Rattle.std.proofs.lemmas.List.Folds.{list_any-append, list_all-append, list_any_at, list_any_none, map_fixed}
use Rattle.std.proofs.lemmas.Nat.{from_le_bytes-to_le_bytes_4}
use Rattle.std.proofs.lemmas.Slice.Eq.{bytes_eq-Decides}
use Rattle.dv_model.specs.declared.types.Body.TheVariants.{Append, HeaderUpdate}
use Rattle.dv_model.specs.declared.types.Command.TheVariants as command
use Rattle.dv_model.specs.declared.types.Mailbox.{Mailbox}
use Rattle.dv_model.specs.declared.types.Mark.{Mark}
use Rattle.dv_model.specs.declared.types.Record.{Record}
use Rattle.dv_model.specs.declared.types.Reply.{Reply}
use Rattle.dv_model.specs.declared.types.Reply.TheVariants as reply
use Rattle.dv_model.specs.declared.types.Row.{Row}
use Rattle.dv_model.specs.declared.types.Shown.{Shown}
use Rattle.dv_model.specs.declared.types.Value.TheVariants as value
use Rattle.dv_model.specs.declared.types.Word.TheVariants as word
use Rattle.dv_model.specs.Effects.{applied, after_record, with_row, with_higher, stamped, stamped_row, is_as_before}
use Rattle.dv_model.specs.Appends.{append_record, appended_row, appended, validity_record, full_view, fetch_of, all_fetches}
use Rattle.dv_model.specs.Journals.{Mail}
use Rattle.dv_model.specs.Mailboxes.{IsValid, IsRowOf, last_modseq, empty_mailbox}
use Rattle.dv_model.specs.Sessions.{State, answer, external, group_of}
use Rattle.dv_model.specs.Spelling.{group_text, written, IsRecord}
use Rattle.dv_model.specs.Views.{View, empty_view, shown, same_row, names_of, numbers, removals, growth, changes, said}

-- ---- the mailbox behind an appended message

-- each message's UID was given out
abbrev pub AreBelow : Mailbox → Type 0
AreBelow m = All (λ row. row.uid < m.next_uid) m.rows

bytes_eq_self : (xs : List ℕ) → bytes_eq xs xs ≡ true
bytes_eq_self xs = (bytes_eq-Decides xs xs).1 refl

both_true : (a b : Bool) → a ≡ true → b ≡ true → (a && b) ≡ true
both_true a b p q = rw (p, q)

is_as_before_self : (row : Row) → is_as_before row row ≡ true
is_as_before_self row =
    both_true (nat_eq row.uid row.uid && nat_eq (row.flags % 32) (row.flags % 32)) (bytes_eq row.keywords row.keywords)
    (both_true (nat_eq row.uid row.uid) (nat_eq (row.flags % 32) (row.flags % 32)) (eq-eqb row.uid row.uid refl) (eq-eqb (row.flags % 32) (row.flags % 32) refl))
    (bytes_eq_self row.keywords)

-- a row that stood there before keeps its modification sequence
stamped_old : (rows : List Row) (n : ℕ) → All (λ row. stamped_row rows n row ≡ row) rows
stamped_old rows n k d h = rw (list_any_at (is_as_before (slice_index_or rows k d)) rows k d h (is_as_before_self (slice_index_or rows k d)))

either_row : (b : Bool) (row : Row) (n : ℕ) → row.modseq ≡ n → cond b row (record row { modseq = n }) ≡ row
either_row true row n is = refl
either_row false row n is = ap (λ (k : ℕ). record row { modseq = k }) (sym is)

stamped_push : (rows : List Row) (row : Row) (n : ℕ) → row.modseq ≡ n → map (stamped_row rows n) (rows ++ row ∷ []) ≡ rows ++ row ∷ []
stamped_push rows row n is =
    map_push (stamped_row rows n) rows row
    ∙ ap (λ (old : List Row). old ++ stamped_row rows n row ∷ []) (map_fixed (stamped_row rows n) rows (stamped_old rows n))
    ∙ ap (λ (new : Row). rows ++ new ∷ []) (either_row (list_any (is_as_before row) rows) row n is)

pub append_is : (m : Mailbox) (flags : ℕ) → after_record m (append_record m flags) ≡ Some (appended m flags)
append_is m flags =
    ap (λ (b : Bool). option_map (stamped m.rows) (cond b None (Some (with_row (with_higher m) (record { uid = m.next_uid; flags = flags }))))) (le-ltb m.next_uid m.next_uid (omega arith))
    ∙ ap (λ (rows : List Row). Some (record (appended m flags) { rows = rows })) (stamped_push m.rows (appended_row m flags) (min (m.highest + 1) last_modseq) refl)

-- the group of an append does so
pub append_group_is : (flags : ℕ) (message : List ℕ) (view : View) (m : Mailbox) (guid : ℕ → List ℕ)
    → applied m (group_of (command.Append flags [] message) view m guid).records ≡ Some (appended m flags)
append_group_is flags message view m guid = rw (append_is m flags)

pub appended_below : (m : Mailbox) (flags : ℕ) → AreBelow m → AreBelow (appended m flags)
appended_below m flags below =
    All-push (λ (row : Row). row.uid < m.next_uid + 1) m.rows (appended_row m flags)
    (All-weaker (λ (row : Row). row.uid < m.next_uid) (λ (row : Row). row.uid < m.next_uid + 1) (λ row h. omega arith) m.rows below)
    (omega arith)

pub below_of_valid : (m : Mailbox) → IsValid m → AreBelow m
below_of_valid m valid = All-weaker (IsRowOf m) (λ (row : Row). row.uid < m.next_uid) (λ row h. h.uid.1) m.rows valid.rows

-- ---- a new mailbox

pub created_is : (n : ℕ) → n < 2 ^ 32 → applied (empty_mailbox n) (validity_record n ∷ []) ≡ Some (record (empty_mailbox n) { highest = 2 })
created_is n h = ap (λ (k : ℕ). Some (record (empty_mailbox k) { highest = 2 })) (from_le_bytes-to_le_bytes_4 n h)

-- ---- what a session is told

same_row_self : (s : Shown) → same_row s s ≡ true
same_row_self s =
    both_true (nat_eq s.uid s.uid && nat_eq s.flags s.flags) (bytes_eq s.keywords s.keywords)
    (both_true (nat_eq s.uid s.uid) (nat_eq s.flags s.flags) (eq-eqb s.uid s.uid refl) (eq-eqb s.flags s.flags refl))
    (bytes_eq_self s.keywords)

-- each row is found among its own list and more
found : (rel : Shown → Shown → Bool) (self : (s : Shown) → rel s s ≡ true) (rows more : List Shown) → All (λ s. list_any (rel s) (rows ++ more) ≡ true) rows
found rel self rows more k d h =
    let s = slice_index_or rows k d in
    list_any-append (rel s) rows more ∙ ap (λ b. b || list_any (rel s) more) (list_any_at (rel s) rows k d h (self s))

numbers_none : (test : Shown → Bool) (k : ℕ) (rows : List Shown) → All (λ s. test s ≡ false) rows → numbers test k rows ≡ []
numbers_none test k [] h = refl
numbers_none test k (s ∷ rows) h =
    ap (λ (b : Bool). cond b ((k, s) ∷ numbers test (k + 1) rows) (numbers test (k + 1) rows)) (All-head (λ (s : Shown). test s ≡ false) s rows h)
    ∙ numbers_none test (k + 1) rows (All-tail (λ (s : Shown). test s ≡ false) s rows h)

-- where only the last row passes
numbers_last : (test : Shown → Bool) (k : ℕ) (rows : List Shown) (last : Shown) → All (λ s. test s ≡ false) rows → test last ≡ true
    → numbers test k (rows ++ last ∷ []) ≡ (k + length rows, last) ∷ []
numbers_last test k [] last h new =
    ap (λ (b : Bool). cond b ((k, last) ∷ []) []) new ∙ ap (λ (n : ℕ). (n, last) ∷ []) (omega arith)
numbers_last test k (s ∷ rows) last h new =
    ap (λ (b : Bool). cond b ((k, s) ∷ numbers test (k + 1) (rows ++ last ∷ [])) (numbers test (k + 1) (rows ++ last ∷ []))) (All-head (λ (s : Shown). test s ≡ false) s rows h)
    ∙ numbers_last test (k + 1) rows last (All-tail (λ (s : Shown). test s ≡ false) s rows h) new
    ∙ ap (λ (n : ℕ). (n, last) ∷ []) (omega arith)

all_hold : (test : Shown → Bool) (rows : List Shown) → All (λ s. test s ≡ true) rows → list_all test rows ≡ true
all_hold test [] h = refl
all_hold test (s ∷ rows) h =
    ap (λ (b : Bool). b && list_all test rows) (All-head (λ (s : Shown). test s ≡ true) s rows h) ∙ all_hold test rows (All-tail (λ (s : Shown). test s ≡ true) s rows h)

turned : (test : Shown → Bool) (rows : List Shown) → All (λ s. test s ≡ true) rows → All (λ s. not (test s) ≡ false) rows
turned test rows h = All-weaker (λ (s : Shown). test s ≡ true) (λ (s : Shown). not (test s) ≡ false) (λ s is. ap not is) rows h

-- no row of the first left
no_removals : (rows more : List Shown) (old new : ℕ) → removals (record { rows = rows; next_uid = old }) (record { rows = rows ++ more; next_uid = new }) ≡ []
no_removals rows more old new =
    ap (λ (ns : List (ℕ × Shown)). map (λ row. reply.Expunge row.0) (reverse ns))
    (numbers_none (λ s. not (list_any (λ t. nat_eq t.uid s.uid) (rows ++ more))) 1 rows
    (turned (λ s. list_any (λ t. nat_eq t.uid s.uid) (rows ++ more)) rows
    (found (λ s t. nat_eq t.uid s.uid) (λ s. eq-eqb s.uid s.uid refl) rows more)))

-- a view that does not move is told nothing
pub said_nothing : (m : Mailbox) (v : View) → said m v v ≡ []
said_nothing m v =
    let here : v.rows ++ [] ≡ v.rows = append-nil v.rows in
    let uids = rw here at (found (λ s t. nat_eq t.uid s.uid) (λ s. eq-eqb s.uid s.uid refl) v.rows []) in
    let same = rw here at (found same_row same_row_self v.rows []) in
    let left = numbers_none (λ s. not (list_any (λ t. nat_eq t.uid s.uid) v.rows)) 1 v.rows (turned (λ s. list_any (λ t. nat_eq t.uid s.uid) v.rows) v.rows uids) in
    let changed = numbers_none (λ s. not (list_any (same_row s) v.rows)) 1 v.rows (turned (λ s. list_any (same_row s) v.rows) v.rows same) in
    let grew = all_hold (λ s. list_any (λ t. nat_eq t.uid s.uid) v.rows) v.rows uids in
    rw (left, grew, changed)

below_is_not : (a b : ℕ) → a < b → nat_eq a b ≡ false
below_is_not a b h = grind (arith, nat_tests)

above_is_not : (a b : ℕ) → a < b → nat_eq b a ≡ false
above_is_not a b h = grind (arith, nat_tests)

-- no row of the view has the next UID
none_has_next : (m : Mailbox) → AreBelow m → list_any (λ t. nat_eq t.uid m.next_uid) (map shown m.rows) ≡ false
none_has_next m below =
    list_any_none (λ (t : Shown). nat_eq t.uid m.next_uid) (map shown m.rows)
    (All-map (λ (t : Shown). nat_eq t.uid m.next_uid ≡ false) shown m.rows
    (All-weaker (λ (row : Row). row.uid < m.next_uid) (λ (row : Row). nat_eq row.uid m.next_uid ≡ false) (λ row h. below_is_not row.uid m.next_uid h) m.rows below))

none_is_same : (m : Mailbox) (flags : ℕ) → AreBelow m → list_any (same_row (shown (appended_row m flags))) (map shown m.rows) ≡ false
none_is_same m flags below =
    list_any_none (same_row (shown (appended_row m flags))) (map shown m.rows)
    (All-map (λ (t : Shown). same_row (shown (appended_row m flags)) t ≡ false) shown m.rows
    (All-weaker (λ (row : Row). row.uid < m.next_uid) (λ (row : Row). same_row (shown (appended_row m flags)) (shown row) ≡ false)
    (λ row h.
    and_left (nat_eq m.next_uid row.uid && nat_eq (flags % 32) (row.flags % 32)) (bytes_eq [] row.keywords)
    (and_left (nat_eq m.next_uid row.uid) (nat_eq (flags % 32) (row.flags % 32)) (above_is_not row.uid m.next_uid h)))
    m.rows below))

module _ (m : Mailbox) (flags : ℕ) (below : AreBelow m) where
  growth_append : growth (full_view m) (record { rows = map shown m.rows ++ shown (appended_row m flags) ∷ []; next_uid = m.next_uid + 1 }) ≡ reply.Exists (length m.rows + 1) ∷ []
  growth_append =
      let old = map shown m.rows in
      let uid_there : Shown → Bool = λ s. list_any (λ t. nat_eq t.uid s.uid) old in
      let not_all : list_all uid_there (old ++ shown (appended_row m flags) ∷ []) ≡ false =
      list_all-append uid_there old (shown (appended_row m flags) ∷ [])
      ∙ and_right (list_all uid_there old) (list_all uid_there (shown (appended_row m flags) ∷ [])) (and_left (list_any (λ t. nat_eq t.uid m.next_uid) old) true (none_has_next m below)) in
      ap (λ (b : Bool). cond b [] (reply.Exists (length (old ++ shown (appended_row m flags) ∷ [])) ∷ [])) not_all
      ∙ ap (λ (n : ℕ). reply.Exists n ∷ []) (length_push old (shown (appended_row m flags)) ∙ ap (λ n. n + 1) (length-map m.rows shown))

  changes_append : changes (appended m flags) (full_view m) (record { rows = map shown m.rows ++ shown (appended_row m flags) ∷ []; next_uid = m.next_uid + 1 })
      ≡ reply.Fetch (length m.rows + 1) m.next_uid (value.Flags (flags % 32) [] ∷ []) ∷ []
  changes_append =
      let old = map shown m.rows in
      let same = rw (append-nil old) at (found same_row same_row_self old []) in
      let one : numbers (λ s. not (list_any (same_row s) old)) 1 (old ++ shown (appended_row m flags) ∷ []) ≡ (length m.rows + 1, shown (appended_row m flags)) ∷ [] =
      numbers_last (λ s. not (list_any (same_row s) old)) 1 old (shown (appended_row m flags))
      (turned (λ s. list_any (same_row s) old) old same)
      (ap not (none_is_same m flags below))
      ∙ ap (λ (n : ℕ). (n, shown (appended_row m flags)) ∷ []) (omega (arith, length-map m.rows shown)) in
      ap (λ (ns : List (ℕ × Shown)). map (λ row. reply.Fetch row.0 row.1.uid (value.Flags row.1.flags (names_of (appended m flags) row.1.keywords) ∷ [])) ns) one

  -- a session that was shown the mailbox is told of one message more
  pub said_append : said (appended m flags) (full_view m) (full_view (appended m flags))
      ≡ reply.Exists (length m.rows + 1) ∷ reply.Fetch (length m.rows + 1) m.next_uid (value.Flags (flags % 32) [] ∷ []) ∷ []
  said_append =
      rw (map_push shown m.rows (appended_row m flags))
      (rw (no_removals (map shown m.rows) (shown (appended_row m flags) ∷ []) m.next_uid (m.next_uid + 1), growth_append, changes_append))

-- ---- the whole mailbox, row by row

pub all_fetches_push : (m : Mailbox) (k : ℕ) (rows : List Shown) (s : Shown) → all_fetches m k (rows ++ s ∷ []) ≡ all_fetches m k rows ++ fetch_of m (k + length rows) s ∷ []
all_fetches_push m k [] s = ap (λ (n : ℕ). fetch_of m n s ∷ []) (omega arith)
all_fetches_push m k (row ∷ rows) s =
    ap (λ (others : List Reply). fetch_of m k row ∷ others)
    (all_fetches_push m (k + 1) rows s ∙ ap (λ (n : ℕ). all_fetches m (k + 1) rows ++ fetch_of m n s ∷ []) (omega arith))

changes_from : (m : Mailbox) (k : ℕ) (rows : List Shown)
    → map (λ row. reply.Fetch row.0 row.1.uid (value.Flags row.1.flags (names_of m row.1.keywords) ∷ [])) (numbers (λ s. not (list_any (same_row s) [])) k rows) ≡ all_fetches m k rows
changes_from m k [] = refl
changes_from m k (s ∷ rows) = ap (λ (others : List Reply). fetch_of m k s ∷ others) (changes_from m (k + 1) rows)

-- a session that was shown nothing is told of each row
pub changes_anew : (m : Mailbox) (v : View) → changes m empty_view v ≡ all_fetches m 1 v.rows
changes_anew m v = changes_from m 1 v.rows

-- ---- answers

module _ (mail : ℕ → Mail) (m : Mailbox) (q : ℕ) (mark : Mark) where
  -- NOOP where the session was shown the mailbox as it is
  pub noop_answer : (told : ℕ) (met : Mailbox)
      → answer mail (record { selected = true; view = full_view m; told = told }) command.Noop met q m mark
      ≡ record { replies = reply.Done word.Noop mark None [] ∷ []; next = record { selected = true; view = full_view m; told = q } }
  noop_answer told met =
      ap (λ (rs : List Reply). record { replies = rs ++ reply.Done word.Noop mark None [] ∷ []; next = record { selected = true; view = full_view m; told = q } }) (said_nothing m (full_view m))

  -- APPEND where the session was shown the mailbox that the append met
  pub append_answer : (told flags : ℕ) (message : List ℕ) → AreBelow m
      → answer mail (record { selected = true; view = full_view m; told = told }) (command.Append flags [] message) m q (appended m flags) mark
      ≡ record {
        replies =
            reply.Exists (length m.rows + 1)
            ∷ reply.Fetch (length m.rows + 1) m.next_uid (value.Flags (flags % 32) [] ∷ [])
            ∷ reply.Done word.Append mark (Some (m.uid_validity, m.next_uid)) []
            ∷ [];
        next = record { selected = true; view = full_view (appended m flags); told = q };
      }
  append_answer told flags message below =
      ap (λ (rs : List Reply). record {
        replies = rs ++ reply.Done word.Append mark (Some (m.uid_validity, m.next_uid)) [] ∷ [];
        next = record { selected = true; view = full_view (appended m flags); told = q };
      }) (said_append m flags below)

  -- SELECT from any state
  pub select_answer : (x : State) (met : Mailbox)
      → answer mail x command.Select met q m mark
      ≡ record {
        replies =
            reply.Exists (length m.rows)
            ∷ reply.Validity m.uid_validity
            ∷ reply.NextUid m.next_uid
            ∷ (all_fetches m 1 (map shown m.rows) ++ reply.Done word.Select mark None [] ∷ []);
        next = record { selected = true; view = full_view m; told = q };
      }
  select_answer x met = rw (changes_anew m (full_view m), length-map m.rows shown)

-- ---- the bytes that are written

-- the sixteen bytes of an append
pub append_text : (flags : ℕ) (message : List ℕ) (view : View) (m : Mailbox) (guid : ℕ → List ℕ)
    → group_text (group_of (command.Append flags [] message) view m guid)
    ≡ (0x80 ∷ 0x80 ∷ 0x80 ∷ 0x84 ∷ 2 ∷ 0 ∷ 0 ∷ 0x10 ∷ []) ++ to_le_bytes w32 m.next_uid ++ flags ∷ 0 ∷ 0 ∷ 0 ∷ []
append_text flags message view m guid = refl

pub append_length : (flags : ℕ) (message : List ℕ) (view : View) (m : Mailbox) (guid : ℕ → List ℕ)
    → length (group_text (group_of (command.Append flags [] message) view m guid)) ≡ 16
append_length flags message view m guid = refl

pub append_is_record : (m : Mailbox) (flags : ℕ) → 1 ≤ m.next_uid → m.next_uid < 2 ^ 32 - 1 → IsRecord (append_record m flags)
append_is_record m flags low high = record {
  spells = record {
    size = refl;
    below = omega arith;
    type = refl;
    payload = (record { size = refl; fields = refl; uid = (low, high) }, refl);
    top = omega arith;
  };
}

-- the sixteen bytes of the header update
pub validity_text : (n : ℕ) → written (validity_record n) ≡ (0x80 ∷ 0x80 ∷ 0x80 ∷ 0x84 ∷ 0x20 ∷ 0 ∷ 0 ∷ 0 ∷ 24 ∷ 0 ∷ 4 ∷ 0 ∷ []) ++ to_le_bytes w32 n
validity_text n = refl

pub validity_is_record : (n : ℕ) → IsRecord (validity_record n)
validity_is_record n = record {
  spells = record {
    size = refl;
    below = omega arith;
    type = refl;
    payload = (omega arith, (record { size = refl; fields = refl; short = omega arith; place = omega arith }, refl));
    top = omega arith;
  };
}
