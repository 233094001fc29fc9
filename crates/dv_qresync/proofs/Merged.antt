-- A row that is put among a replica's rows.
use Rattle.std.proofs.Common.{◌≡◌, ℕ, ◌+◌, ◌<◌, ◌≤◌, Bool, true, false, cond, not, List, [], ◌∷◌, ◌++◌, append-nil, get_or, length, take, Some, refl, sym, ◌∙◌, ap, subst, arith}
use Rattle.std.specs.Prelude.{All, filter, nat_eq, nat_lt, reverse}
use Rattle.std.proofs.lemmas.Bool.{eqb-true, eq-eqb, le-ltb, lt-ltb}
use Rattle.std.proofs.lemmas.Bool.Decides.{nat_tests}
use Rattle.std.proofs.lemmas.List.{append_assoc, reverse-append, take_more}
use Rattle.std.proofs.lemmas.List.Elements.{All-cons, All-head, All-nil, All-tail, filter-append, filter_agree}
use Rattle.std.proofs.lemmas.List.Sums.{fold-append}
use Rattle.dv_model.specs.declared.types.Pair.{Pair}
use Rattle.dv_model.specs.declared.types.Span.{Span}
use Rattle.dv_model.specs.Effects.{is_in_pairs}
use Rattle.dv_model.specs.Sets.{is_in_set}
use Rattle.dv_model.proofs.Clients.{not_same_back, reverse_first}
use Rattle.dv_qresync.specs.declared.types.Answer.{Answer}
use Rattle.dv_qresync.specs.declared.types.Cached.{Cached}
use Rattle.dv_qresync.specs.declared.types.Replica.{Replica}
use Rattle.dv_qresync.specs.Replicas.{caught_up, heard, with_cached}
use Rattle.dv_qresync.proofs.Rows.{Above, at_tail, row_at}

abbrev pub uid_of : Cached → ℕ
uid_of row = row.uid

-- a replica of these rows
abbrev pub with_rows : ℕ → ℕ → List Cached → Replica
with_rows validity highest rows = record { uid_validity = validity; highest = highest; rows = rows }

-- ---- behind lower rows

-- those with lower UIDs stand before it
pub put_behind : (row : Cached) (before rest : List Cached) → All (λ c. c.uid < row.uid) before → with_cached row (before ++ rest) ≡ before ++ with_cached row rest
put_behind row [] rest below = refl
put_behind row (c ∷ cs) rest below =
    let less : c.uid < row.uid = All-head (λ (d : Cached). d.uid < row.uid) c cs below in
    ap (λ (b : Bool). cond b (row ∷ c ∷ (cs ++ rest)) (cond (nat_eq row.uid c.uid) (row ∷ (cs ++ rest)) (c ∷ with_cached row (cs ++ rest)))) (le-ltb row.uid c.uid (omega arith))
    ∙ ap (λ (b : Bool). cond b (row ∷ (cs ++ rest)) (c ∷ with_cached row (cs ++ rest))) (not_same_back row.uid c.uid less)
    ∙ ap (λ (ds : List Cached). c ∷ ds) (put_behind row cs rest (All-tail (λ (d : Cached). d.uid < row.uid) c cs below))

-- the first row that isn't lower has its UID
pub put_same : (row c : Cached) (rest : List Cached) → row.uid ≡ c.uid → with_cached row (c ∷ rest) ≡ row ∷ rest
put_same row c rest same =
    ap (λ (b : Bool). cond b (row ∷ c ∷ rest) (cond (nat_eq row.uid c.uid) (row ∷ rest) (c ∷ with_cached row rest))) (le-ltb row.uid c.uid (omega arith))
    ∙ ap (λ (b : Bool). cond b (row ∷ rest) (c ∷ with_cached row rest)) (eq-eqb row.uid c.uid same)

-- or a higher one
pub put_lower : (row c : Cached) (rest : List Cached) → row.uid < c.uid → with_cached row (c ∷ rest) ≡ row ∷ c ∷ rest
put_lower row c rest less = ap (λ (b : Bool). cond b (row ∷ c ∷ rest) (cond (nat_eq row.uid c.uid) (row ∷ rest) (c ∷ with_cached row rest))) (lt-ltb row.uid c.uid less)

-- ---- among rising rows

module _ (row : Cached) where
  pub with_above : (n : ℕ) (rows : List Cached) → n ≤ row.uid → Above uid_of n rows → Above uid_of n (with_cached row rows)
  with_above n [] le above = (le, tt)
  with_above n (c ∷ cs) le above = by_less (nat_lt row.uid c.uid) refl (nat_eq row.uid c.uid) refl (λ more. with_above (c.uid + 1) cs more above.1)
    where
      by_less : (b : Bool) → nat_lt row.uid c.uid ≡ b → (d : Bool) → nat_eq row.uid c.uid ≡ d → (c.uid + 1 ≤ row.uid → Above uid_of (c.uid + 1) (with_cached row cs))
          → Above uid_of n (cond b (row ∷ c ∷ cs) (cond d (row ∷ cs) (c ∷ with_cached row cs)))
      by_less true e d f rest = (le, (grind (arith, nat_tests, e), above.1))
      by_less false e true f rest = let same : row.uid ≡ c.uid = eqb-true row.uid c.uid f in (le, subst (λ u. Above uid_of (u + 1) cs) (sym same) above.1)
      by_less false e false f rest = (above.0, rest (grind (arith, nat_tests, e, f)))

  pub with_at : (n u : ℕ) (rows : List Cached) → Above uid_of n rows → row_at uid_of u (with_cached row rows) ≡ cond (nat_eq row.uid u) (Some row) (row_at uid_of u rows)
  with_at n u [] above = refl
  with_at n u (c ∷ cs) above = by_less (nat_lt row.uid c.uid) refl (nat_eq row.uid c.uid) refl (with_at (c.uid + 1) u cs above.1)
    where
      by_head : (b : Bool) → nat_eq c.uid u ≡ b → c.uid < row.uid → cond b (Some c) (cond (nat_eq row.uid u) (Some row) (row_at uid_of u cs)) ≡ cond (nat_eq row.uid u) (Some row) (cond b (Some c) (row_at uid_of u cs))
      by_head true e less = let at : c.uid ≡ u = eqb-true c.uid u e in sym (ap (λ d. cond d (Some row) (Some c)) (not_same_back row.uid u (omega arith)))
      by_head false e less = refl

      by_same : (b : Bool) → nat_eq row.uid u ≡ b → row.uid ≡ c.uid → cond b (Some row) (row_at uid_of u cs) ≡ cond b (Some row) (row_at uid_of u (c ∷ cs))
      by_same true e same = refl
      by_same false e same = sym (at_tail uid_of c cs u (ap (λ v. nat_eq v u) (sym same) ∙ e))

      by_less : (b : Bool) → nat_lt row.uid c.uid ≡ b → (d : Bool) → nat_eq row.uid c.uid ≡ d → row_at uid_of u (with_cached row cs) ≡ cond (nat_eq row.uid u) (Some row) (row_at uid_of u cs)
          → row_at uid_of u (cond b (row ∷ c ∷ cs) (cond d (row ∷ cs) (c ∷ with_cached row cs))) ≡ cond (nat_eq row.uid u) (Some row) (row_at uid_of u (c ∷ cs))
      by_less true e d f rest = refl
      by_less false e true f rest = by_same (nat_eq row.uid u) refl (eqb-true row.uid c.uid f)
      by_less false e false f rest = ap (λ o. cond (nat_eq c.uid u) (Some c) o) rest ∙ by_head (nat_eq c.uid u) refl (grind (arith, nat_tests, e, f))

-- ---- the place moves over rows

reverse_more : (xs : List Cached) (x : Cached) → reverse (xs ++ x ∷ []) ≡ x ∷ reverse xs
reverse_more xs x = reverse-append xs (x ∷ [])

-- the last of the rows behind the place is the first of them
pub moved_over : (before after left : List Cached) (x : Cached) → after ≡ left ++ x ∷ [] → (before ++ x ∷ []) ++ reverse left ≡ before ++ reverse after
moved_over before after left x was = append_assoc before (x ∷ []) (reverse left) ∙ ap (λ (cs : List Cached). before ++ cs) (sym (ap reverse was ∙ reverse_more left x))

-- the last of the rows before the place becomes the first behind it
pub moved_back : (before left after : List Cached) (x : Cached) → before ≡ left ++ x ∷ [] → left ++ reverse (after ++ x ∷ []) ≡ before ++ reverse after
moved_back before left after x was =
    ap (λ (cs : List Cached). left ++ cs) (reverse_more after x) ∙ sym (append_assoc left (x ∷ []) (reverse after)) ∙ ap (λ (cs : List Cached). cs ++ reverse after) (sym was)

module _ (row : Cached) (old before after left : List Cached) (x : Cached) (so_far : with_cached row old ≡ before ++ with_cached row (reverse after)) (was : after ≡ left ++ x ∷ []) where
  behind : with_cached row old ≡ before ++ with_cached row (x ∷ reverse left)
  behind = so_far ∙ ap (λ (cs : List Cached). before ++ with_cached row cs) (ap reverse was ∙ reverse_more left x)

  pub passed_on : x.uid < row.uid → with_cached row old ≡ (before ++ x ∷ []) ++ with_cached row (reverse left)
  passed_on less =
      behind
      ∙ ap (λ (cs : List Cached). before ++ cs) (put_behind row (x ∷ []) (reverse left) (All-cons (λ (c : Cached). c.uid < row.uid) x [] less (All-nil (λ (c : Cached). c.uid < row.uid))))
      ∙ sym (append_assoc before (x ∷ []) (with_cached row (reverse left)))

  pub passed_same : row.uid ≡ x.uid → with_cached row old ≡ before ++ row ∷ reverse left
  passed_same same = behind ∙ ap (λ (cs : List Cached). before ++ cs) (put_same row x (reverse left) same)

  pub passed_lower : row.uid < x.uid → with_cached row old ≡ before ++ row ∷ reverse (left ++ x ∷ [])
  passed_lower less = behind ∙ ap (λ (cs : List Cached). before ++ cs) (put_lower row x (reverse left) less ∙ ap (λ (cs : List Cached). row ∷ cs) (sym (reverse_more left x)))

-- ---- rows are taken out of both parts

reverse_kept : (p : Cached → Bool) (xs : List Cached) → reverse (filter p xs) ≡ filter p (reverse xs)
reverse_kept p [] = refl
reverse_kept p (x ∷ xs) = by_test (p x) (reverse_kept p xs) ∙ sym (ap (filter p) (reverse_first x xs) ∙ filter-append p (reverse xs) (x ∷ []))
  where
    by_test : (b : Bool) → reverse (filter p xs) ≡ filter p (reverse xs) → reverse (cond b (x ∷ filter p xs) (filter p xs)) ≡ filter p (reverse xs) ++ cond b (x ∷ []) []
    by_test true others = reverse_first x (filter p xs) ∙ ap (λ (cs : List Cached). cs ++ x ∷ []) others
    by_test false others = others ∙ sym (append-nil (filter p (reverse xs)))

pub taken_out : (set : List Span) (pairs : List Pair) (before after left_before left_after : List Cached) → ((star uid : ℕ) → is_in_set star set uid ≡ is_in_pairs pairs uid)
    → left_before ≡ filter (λ row. not (is_in_set 0 set row.uid)) before → left_after ≡ filter (λ row. not (is_in_set 0 set row.uid)) after
    → left_before ++ reverse left_after ≡ filter (λ row. not (is_in_pairs pairs row.uid)) (before ++ reverse after)
taken_out set pairs before after left_before left_after same first second =
    let p : Cached → Bool = λ row. not (is_in_set 0 set row.uid) in
    ap (λ (cs : List Cached). cs ++ reverse left_after) first
    ∙ ap (λ (cs : List Cached). filter p before ++ cs) (ap reverse second ∙ reverse_kept p after)
    ∙ sym (filter-append p before (reverse after))
    ∙ filter_agree p (λ row. not (is_in_pairs pairs row.uid)) (λ row. ap not (same 0 row.uid)) (before ++ reverse after)

-- ---- one answer more

pub caught_more : (r : Replica) (answers : List Answer) (i : ℕ) (d : Answer) → i < length answers → heard (caught_up r (take i answers)) (get_or answers i d) ≡ caught_up r (take (i + 1) answers)
caught_more r answers i d less = sym (ap (caught_up r) (take_more answers i d less) ∙ fold-append heard r (take i answers) (get_or answers i d ∷ []))
