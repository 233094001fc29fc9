-- The UIDs of the kept messages, by keyword, and their flags.
use Rattle.std.proofs.Common.{◌≡◌, ◌≢◌, ℕ, zero, suc, ◌+◌, ◌<◌, ◌≤◌, true, false, Bool, nat_eq, nat_lt, List, [], ◌∷◌, ◌++◌, length, take, drop, get_or, set, Option, Some, None, refl, sym, ◌∙◌, ap, arith, All}
use Rattle.std.specs.Prelude.{cond, if◌then◌else◌, ◌||◌, filter, flat_map, is_some, option_map, position, slice_get, unwrap_or}
use Rattle.std.specs.List.{enumerate_from, list_any, position_or_len}
use Rattle.std.specs.List.Sorted.{IsStrictlyIncreasing}
use Rattle.std.proofs.lemmas.Bool.{eqb-true, eqb-false, ltb-false, ltb-true, ne_eqb}
use Rattle.std.proofs.lemmas.List.{append-nil, drop_all, flat_map_more, get_or_default, get_or-set_same, get_or-set_other, length-set, length_push, take_all, take_more}
use Rattle.std.proofs.lemmas.List.Elements.{filter_more}
use Rattle.std.proofs.lemmas.List.Folds.{find_at, list_any-append}
use Rattle.std.proofs.lemmas.List.FromFn.{get_or-enumerate_from, length-enumerate_from}
use Rattle.std.proofs.lemmas.List.Kept.{AllPairs-from_increasing}
use Rattle.dv_model.specs.declared.types.Mailbox.{Mailbox}
use Rattle.dv_model.specs.declared.types.Record.{Record}
use Rattle.dv_model.specs.declared.types.Row.{Row}
use Rattle.dv_model.specs.Views.{row_of}
use Rattle.dv_openings.specs.Salvages.{has_keyword, keyword_records, kept_row}
use Rattle.dv_rebuild.specs.Keywords.{AreEmpty, AreUids, Notes}

-- ---- a row by its UID

abbrev pub is_uid : ℕ → Row → Bool
is_uid uid row = nat_eq row.uid uid

pub row_there : (m : Mailbox) (uid at : ℕ) (row : Row) → position (is_uid uid) m.rows ≡ Some at → slice_get m.rows at ≡ Some row → row_of m uid ≡ Some row
row_there m uid at row is there = find_at (is_uid uid) m.rows ∙ ap (slice_get m.rows) (placed (nat_lt (position_or_len (is_uid uid) m.rows) (length m.rows)) is) ∙ there
  where
    placed : (b : Bool) → cond b (Some (position_or_len (is_uid uid) m.rows)) None ≡ Some at → position_or_len (is_uid uid) m.rows ≡ at
    placed true e = cc
    placed false e = absurd cc

past_all : {X : Type 0} (xs : List X) (k : ℕ) → length xs ≤ k → slice_get xs k ≡ None
past_all [] k le = refl
past_all (x ∷ xs) zero le = absurd (omega (arith, le))
past_all (x ∷ xs) (suc k) le = past_all xs k (omega (arith, le))

there_all : {X : Type 0} (xs : List X) (k : ℕ) → k < length xs → is_some (slice_get xs k) ≡ true
there_all [] k less = absurd (omega (arith, less))
there_all (x ∷ xs) zero less = refl
there_all (x ∷ xs) (suc k) less = there_all xs k (omega (arith, less))

pub row_found : (m : Mailbox) (uid at : ℕ) → position (is_uid uid) m.rows ≡ Some at → is_some (row_of m uid) ≡ true
row_found m uid at is =
    ap is_some (find_at (is_uid uid) m.rows) ∙ there_all m.rows (position_or_len (is_uid uid) m.rows) (inside (nat_lt (position_or_len (is_uid uid) m.rows) (length m.rows)) refl is)
  where
    inside : (b : Bool) → nat_lt (position_or_len (is_uid uid) m.rows) (length m.rows) ≡ b → cond b (Some (position_or_len (is_uid uid) m.rows)) None ≡ Some at → position_or_len (is_uid uid) m.rows < length m.rows
    inside true less e = ltb-true (position_or_len (is_uid uid) m.rows) (length m.rows) less
    inside false less e = absurd cc

pub row_gone : (m : Mailbox) (uid : ℕ) → position (is_uid uid) m.rows ≡ None → row_of m uid ≡ None
row_gone m uid is = find_at (is_uid uid) m.rows ∙ past_all m.rows (position_or_len (is_uid uid) m.rows) (past (nat_lt (position_or_len (is_uid uid) m.rows) (length m.rows)) refl is)
  where
    past : (b : Bool) → nat_lt (position_or_len (is_uid uid) m.rows) (length m.rows) ≡ b → cond b (Some (position_or_len (is_uid uid) m.rows)) None ≡ None → length m.rows ≤ position_or_len (is_uid uid) m.rows
    past true less e = absurd cc
    past false less e = ltb-false (position_or_len (is_uid uid) m.rows) (length m.rows) less

pub row_kept : (m : Mailbox) (uid at : ℕ) (row : Row) → position (is_uid uid) m.rows ≡ Some at → slice_get m.rows at ≡ Some row → record { uid = uid; flags = row.flags } ≡ kept_row m uid
row_kept m uid at row is there = sym (ap (λ (o : Option Row). record { uid = uid; flags = unwrap_or (option_map (λ (r : Row). r.flags) o) 0 }) (row_there m uid at row is there))

pub none_kept : (m : Mailbox) (uid : ℕ) → position (is_uid uid) m.rows ≡ None → record { uid = uid; flags = 0 } ≡ kept_row m uid
none_kept m uid is = sym (ap (λ (o : Option Row). record { uid = uid; flags = unwrap_or (option_map (λ (r : Row). r.flags) o) 0 }) (row_gone m uid is))

keyword_there : (m : Mailbox) (uid at k : ℕ) (row : Row) → position (is_uid uid) m.rows ≡ Some at → slice_get m.rows at ≡ Some row → has_keyword m k uid ≡ list_any (nat_eq k) row.keywords
keyword_there m uid at k row is there = ap (λ (o : Option Row). list_any (nat_eq k) (unwrap_or (option_map (λ (r : Row). r.keywords) o) [])) (row_there m uid at row is there)

keyword_gone : (m : Mailbox) (uid k : ℕ) → position (is_uid uid) m.rows ≡ None → has_keyword m k uid ≡ false
keyword_gone m uid k is = ap (λ (o : Option Row). list_any (nat_eq k) (unwrap_or (option_map (λ (r : Row). r.keywords) o) [])) (row_gone m uid is)

-- ---- empty lists

pub none_empty : AreEmpty 0 []
none_empty = record { many = refl; each = λ k. refl }

empty_push : (lists : List (List ℕ)) (k : ℕ) → ((j : ℕ) → get_or lists j [] ≡ []) → get_or (lists ++ [] ∷ []) k [] ≡ []
empty_push [] zero each = refl
empty_push [] (suc k) each = refl
empty_push (l ∷ lists) zero each = each 0
empty_push (l ∷ lists) (suc k) each = empty_push lists k (λ j. each (suc j))

pub empty_more : (n : ℕ) (lists new : List (List ℕ)) → AreEmpty n lists → new ≡ lists ++ [] ∷ [] → AreEmpty (n + 1) new
empty_more n lists new are is = record {
  many = ap length is ∙ length_push lists [] ∙ ap (λ (k : ℕ). k + 1) are.many;
  each = λ k. ap (λ (l : List (List ℕ)). get_or l k []) is ∙ empty_push lists k are.each;
}

-- ---- a UID is noted

pub noted_none : (uid : ℕ) (lists : List (List ℕ)) → Notes uid [] lists lists
noted_none uid lists = record { many = refl; each = λ k less. sym (append-nil (get_or lists k [])) }

any_false : (k : ℕ) (places : List ℕ) (i : ℕ) → ((j : ℕ) → j < i → k ≢ get_or places j 0) → list_any (nat_eq k) (take i places) ≡ false
any_false k [] zero others = refl
any_false k [] (suc i) others = refl
any_false k (p ∷ places) zero others = refl
any_false k (p ∷ places) (suc i) others =
    rw (ne_eqb k p (others 0 (omega arith)), any_false k places i (λ j less. others (suc j) (omega (arith, less)))) refl

any_more : (k : ℕ) (places : List ℕ) (i : ℕ) → i < length places → list_any (nat_eq k) (take (i + 1) places) ≡ (list_any (nat_eq k) (take i places) || (nat_eq k (get_or places i 0) || false))
any_more k places i less = ap (list_any (nat_eq k)) (take_more places i 0 less) ∙ list_any-append (nat_eq k) (take i places) (get_or places i 0 ∷ [])

pub noted_more : (uid : ℕ) (places : List ℕ) (i : ℕ) (first lists new : List (List ℕ)) → IsStrictlyIncreasing places → i < length places → get_or places i 0 < length lists → Notes uid (take i places) first lists
    → new ≡ set lists (get_or places i 0) (get_or lists (get_or places i 0) [] ++ uid ∷ []) → Notes uid (take (i + 1) places) first new
noted_more uid places i first lists new up less inside notes is = record {
  many = ap length is ∙ length-set lists p (get_or lists p [] ++ uid ∷ []) ∙ notes.many;
  each = λ k below. by_place k below (nat_eq k p) refl;
}
  where
    p : ℕ
    p = get_or places i 0

    by_place : (k : ℕ) → k < length first → (b : Bool) → nat_eq k p ≡ b → get_or new k [] ≡ get_or first k [] ++ (if list_any (nat_eq k) (take (i + 1) places) then uid ∷ [] else [])
    by_place k below true same =
        let at : k ≡ p = eqb-true k p same in
        let none : list_any (nat_eq k) (take i places) ≡ false =
        any_false k places i (λ j before e. let rise = AllPairs-from_increasing places up j i 0 before less in omega (arith, e, at, rise)) in
        let any : list_any (nat_eq k) (take (i + 1) places) ≡ true = any_more k places i less ∙ rw (none, same) refl in
        let was : get_or lists p [] ≡ get_or first k [] =
        ap (λ (j : ℕ). get_or lists j []) (sym at) ∙ notes.each k below ∙ ap (λ (b : Bool). get_or first k [] ++ (if b then uid ∷ [] else [])) none ∙ append-nil (get_or first k []) in
        ap (λ (l : List (List ℕ)). get_or l k []) is ∙ ap (λ (j : ℕ). get_or (set lists p (get_or lists p [] ++ uid ∷ [])) j []) at ∙ get_or-set_same lists p (get_or lists p [] ++ uid ∷ []) [] inside
        ∙ ap (λ (l : List ℕ). l ++ uid ∷ []) was ∙ sym (ap (λ (b : Bool). get_or first k [] ++ (if b then uid ∷ [] else [])) any)
    by_place k below false other =
        let any : list_any (nat_eq k) (take (i + 1) places) ≡ list_any (nat_eq k) (take i places) = any_more k places i less ∙ ap (λ (b : Bool). list_any (nat_eq k) (take i places) || (b || false)) other ∙ or_false (list_any (nat_eq k) (take i places)) in
        ap (λ (l : List (List ℕ)). get_or l k []) is ∙ get_or-set_other lists p k (get_or lists p [] ++ uid ∷ []) [] (eqb-false k p other) ∙ notes.each k below
        ∙ sym (ap (λ (b : Bool). get_or first k [] ++ (if b then uid ∷ [] else [])) any)
      where
        or_false : (b : Bool) → (b || (false || false)) ≡ b
        or_false true = refl
        or_false false = refl

pub noted_push : (uid : ℕ) (places : List ℕ) (i : ℕ) (first lists : List (List ℕ)) (pushed d : List ℕ) → IsStrictlyIncreasing places → i < length places → All (λ p. p < length first) places → Notes uid (take i places) first lists
    → pushed ≡ get_or lists (get_or places i 0) d ++ uid ∷ [] → Notes uid (take (i + 1) places) first (set lists (get_or places i 0) pushed)
noted_push uid places i first lists pushed d up less inside notes is =
    let here : get_or places i 0 < length first = inside i 0 less in
    let within : get_or places i 0 < length lists = omega (arith, here, notes.many) in
    noted_more uid places i first lists (set lists (get_or places i 0) pushed) up less within notes
    (ap (set lists (get_or places i 0)) (is ∙ ap (λ (l : List ℕ). l ++ uid ∷ []) (get_or_default lists (get_or places i 0) d [] within)))

-- a slice of a whole vector is written back
pub written_back : (len : ℕ) (new items : List (List ℕ)) → length new ≡ length items → len ≡ length items → take len (new ++ drop (length new) items) ≡ new
written_back len new items same all =
    ap (λ (l : List (List ℕ)). take len (new ++ l)) (drop_all (length new) items (omega (arith, same))) ∙ ap (take len) (append-nil new) ∙ take_all len new (omega (arith, same, all))

-- ---- the UIDs of each keyword

pub uids_none : (m : Mailbox) (lists : List (List ℕ)) → AreEmpty (length m.keywords) lists → AreUids m [] lists
uids_none m lists are = record { many = are.many; each = λ k less. are.each k }

pub uids_noted : (m : Mailbox) (kept : List ℕ) (i at : ℕ) (row : Row) (lists new : List (List ℕ)) → i < length kept → position (is_uid (get_or kept i 0)) m.rows ≡ Some at → slice_get m.rows at ≡ Some row → AreUids m (take i kept) lists → Notes (get_or kept i 0) row.keywords lists new
    → AreUids m (take (i + 1) kept) new
uids_noted m kept i at row lists new less is there are notes = record {
  many = notes.many ∙ are.many;
  each = λ k below.
      notes.each k (omega (arith, below, are.many)) ∙ ap (λ (l : List ℕ). l ++ (if list_any (nat_eq k) row.keywords then get_or kept i 0 ∷ [] else [])) (are.each k below)
      ∙ ap (λ (b : Bool). filter (has_keyword m k) (take i kept) ++ (if b then get_or kept i 0 ∷ [] else [])) (sym (keyword_there m (get_or kept i 0) at k row is there))
      ∙ sym (filter_more (has_keyword m k) kept i 0 less);
}

pub uids_passed : (m : Mailbox) (kept : List ℕ) (i : ℕ) (lists : List (List ℕ)) → i < length kept → position (is_uid (get_or kept i 0)) m.rows ≡ None → AreUids m (take i kept) lists → AreUids m (take (i + 1) kept) lists
uids_passed m kept i lists less is are = record {
  many = are.many;
  each = λ k below.
      are.each k below
      ∙ sym (
      filter_more (has_keyword m k) kept i 0 less
      ∙ ap (λ (b : Bool). filter (has_keyword m k) (take i kept) ++ (if b then get_or kept i 0 ∷ [] else [])) (keyword_gone m (get_or kept i 0) k is)
      ∙ append-nil (filter (has_keyword m k) (take i kept))
      );
}

-- ---- their records

get_is : (names : List (List ℕ)) (j : ℕ) (one : List ℕ) → slice_get names j ≡ Some one → get_or names j [] ≡ one
get_is [] j one e = absurd cc
get_is (x ∷ names) zero one e = cc
get_is (x ∷ names) (suc j) one e = get_is names j one e

pub uids_at : (m : Mailbox) (kept : List ℕ) (k : ℕ) (lists : List (List ℕ)) (there d : List ℕ) → AreUids m kept lists → k < length m.keywords → there ≡ get_or lists k d → there ≡ filter (has_keyword m k) kept
uids_at m kept k lists there d are less is =
    let inside : k < length lists = omega (arith, less, are.many) in
    is ∙ get_or_default lists k d [] inside ∙ are.each k less

pub keywords_more : (m : Mailbox) (kept : List ℕ) (k : ℕ) (name : List ℕ) (first before new : List Record) → k < length m.keywords → slice_get m.keywords k ≡ Some name
    → before ≡ first ++ flat_map (keyword_records m kept) (take k (enumerate_from 0 m.keywords)) → new ≡ before ++ keyword_records m kept (k, name)
    → new ≡ first ++ flat_map (keyword_records m kept) (take (k + 1) (enumerate_from 0 m.keywords))
keywords_more m kept k name first before new less is was more =
    let all = enumerate_from 0 m.keywords in
    let inside : k < length all = omega (arith, less, length-enumerate_from 0 m.keywords) in
    let zero_more : 0 + k ≡ k = omega arith in
    let one : get_or all k (0, []) ≡ (k, name) =
    get_or-enumerate_from 0 m.keywords k (0, []) less ∙ ap (λ (j : ℕ). (j, get_or m.keywords k [])) zero_more ∙ ap (λ (x : List ℕ). (k, x)) (get_is m.keywords k name is) in
    more ∙ ap (λ (l : List Record). l ++ keyword_records m kept (k, name)) was
    ∙ ap (λ (x : ℕ × List ℕ). (first ++ flat_map (keyword_records m kept) (take k all)) ++ keyword_records m kept x) (sym one)
    ∙ flat_map_more (keyword_records m kept) first (take k all) (get_or all k (0, []))
    ∙ ap (λ (l : List (ℕ × List ℕ)). first ++ flat_map (keyword_records m kept) l) (sym (take_more all k (0, []) inside))
