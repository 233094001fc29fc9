-- The numbers of the rows that pass a test, and what is told of them.
use Rattle.std.proofs.Common.{◌≡◌, ℕ, suc, ◌+◌, ◌-◌, ◌<◌, ◌≤◌, Bool, true, false, cond, not, List, [], ◌∷◌, ◌++◌, length, get_or, take, drop, map, sym, ◌∙◌, ap, arith}
use Rattle.std.specs.Prelude.{reverse}
use Rattle.std.specs.List.{list_any}
use Rattle.std.proofs.lemmas.List.{append-nil, drop_more, length-take, reverse-append, take_more}
use Rattle.dv_model.specs.declared.types.Reply.{Reply}
use Rattle.dv_model.specs.declared.types.Reply.TheVariants as reply
use Rattle.dv_model.specs.declared.types.Shown.{Shown}
use Rattle.dv_model.specs.Views.{numbers, same_row}
use Rattle.dv_model.proofs.Clients.{shows}
use Rattle.dv_view.specs.Tells.{changes_of, fetch_of, removals_of}

pub numbers-append : (test : Shown → Bool) (k : ℕ) (xs ys : List Shown) → numbers test k (xs ++ ys) ≡ numbers test k xs ++ numbers test (k + length xs) ys
numbers-append test k [] ys = ap (λ n. numbers test n ys) (omega arith)
numbers-append test k (x ∷ xs) ys =
    let same : k + 1 + length xs ≡ k + suc (length xs) = omega arith in
    let others = numbers-append test (k + 1) xs ys ∙ ap (λ n. numbers test (k + 1) xs ++ numbers test n ys) same in
    by_test (test x) others
  where
    by_test : (b : Bool) → numbers test (k + 1) (xs ++ ys) ≡ numbers test (k + 1) xs ++ numbers test (k + suc (length xs)) ys
        → cond b ((k, x) ∷ numbers test (k + 1) (xs ++ ys)) (numbers test (k + 1) (xs ++ ys)) ≡ cond b ((k, x) ∷ numbers test (k + 1) xs) (numbers test (k + 1) xs) ++ numbers test (k + suc (length xs)) ys
    by_test true others = ap (λ rows. (k, x) ∷ rows) others
    by_test false others = others

-- ---- EXPUNGE

abbrev expunged : Bool → ℕ → List Reply
expunged left n = cond left (reply.Expunge n ∷ []) []

removed_by : (done : List (ℕ × Shown)) (n : ℕ) (s : Shown) (b : Bool) → map (λ row. reply.Expunge row.0) (reverse (done ++ cond b ((n, s) ∷ []) [])) ≡ expunged b n ++ map (λ row. reply.Expunge row.0) (reverse done)
removed_by done n s true = ap (map (λ row. reply.Expunge row.0)) (reverse-append done ((n, s) ∷ []))
removed_by done n s false = ap (λ rows. map (λ row. reply.Expunge row.0) (reverse rows)) (append-nil done)

removed_last : (new old : List Shown) (i : ℕ) (d : Shown) → i < length old → removals_of new (take (i + 1) old) ≡ expunged (not (shows new (get_or old i d).uid)) (i + 1) ++ removals_of new (take i old)
removed_last new old i d less =
    let test = λ (s : Shown). not (shows new s.uid) in
    let s = get_or old i d in
    let count : 1 + length (take i old) ≡ i + 1 = omega (arith, length-take i old) in
    ap (removals_of new) (take_more old i d less)
    ∙ ap (λ rows. map (λ row. reply.Expunge row.0) (reverse rows)) (numbers-append test 1 (take i old) (s ∷ []) ∙ ap (λ n. numbers test 1 (take i old) ++ cond (test s) ((n, s) ∷ []) []) count)
    ∙ removed_by (numbers test 1 (take i old)) (i + 1) s (test s)

-- the row of number k left, or stayed
pub removed_more : (new old : List Shown) (k : ℕ) (d : Shown) (b : Bool) → 0 < k → k ≤ length old → shows new (get_or old (k - 1) d).uid ≡ b
    → removals_of new (take k old) ≡ expunged (not b) k ++ removals_of new (take (k - 1) old)
removed_more new old k d b some inside is =
    let same : k - 1 + 1 ≡ k = omega arith in
    ap (λ n. removals_of new (take n old)) (sym same)
    ∙ removed_last new old (k - 1) d (omega arith) ∙ ap (λ t. expunged (not t) (k - 1 + 1) ++ removals_of new (take (k - 1) old)) is ∙ ap (λ n. expunged (not b) n ++ removals_of new (take (k - 1) old)) same

-- ---- FETCH

-- a row is told of, or is as it was
pub told_more : (names : List (List ℕ)) (old new : List Shown) (k i : ℕ) (d : Shown) (b : Bool) → i < length new → not (list_any (same_row (get_or new i d)) old) ≡ b
    → changes_of names old k (drop i new) ≡ cond b (fetch_of names (k, get_or new i d) ∷ []) [] ++ changes_of names old (k + 1) (drop (i + 1) new)
told_more names old new k i d b less is = ap (changes_of names old k) (drop_more new i d less) ∙ by_test b is
  where
    by_test : (b : Bool) → not (list_any (same_row (get_or new i d)) old) ≡ b
        → changes_of names old k (get_or new i d ∷ drop (i + 1) new) ≡ cond b (fetch_of names (k, get_or new i d) ∷ []) [] ++ changes_of names old (k + 1) (drop (i + 1) new)
    by_test true e = rw e
    by_test false e = rw e
