-- The UIDs of the messages that a command removes rise, and each has a row.
use Rattle.std.proofs.Common.{◌≡◌, ℕ, ◌+◌, ◌<◌, ◌&&◌, min, Bool, true, List, [], ◌∷◌, length, get_or, map, take, filter, nat_eq, refl, sym, ap, subst, arith, length-take}
use Rattle.std.specs.Prelude.{All, AllPairs, Contains}
use Rattle.std.specs.List.{enumerate_from}
use Rattle.std.specs.List.Sorted.{IsStrictlyIncreasing}
use Rattle.std.proofs.lemmas.Bool.{and_parts, eqb-true}
use Rattle.std.proofs.lemmas.List.{get_or-map, get_or-take, length-map}
use Rattle.std.proofs.lemmas.List.Elements.{All-contains_itself, All-filter, All-map, All-nil, All-take, All-weaker, filter_passes}
use Rattle.std.proofs.lemmas.List.Folds.{Any-from_list_any}
use Rattle.std.proofs.lemmas.List.Kept.{AllPairs-filter, AllPairs-from_increasing, IsStrictlyIncreasing-filter}
use Rattle.dv_model.specs.declared.types.Command.{Command}
use Rattle.dv_model.specs.declared.types.Command.TheVariants as command
use Rattle.dv_model.specs.declared.types.Mailbox.{Mailbox}
use Rattle.dv_model.specs.declared.types.Row.{Row}
use Rattle.dv_model.specs.declared.types.Shown.{Shown}
use Rattle.dv_model.specs.Mailboxes.{IsValid}
use Rattle.dv_model.specs.Sessions.{expunge_limit, has_uid, is_deleted, removed_uids}
use Rattle.dv_model.specs.Sets.{is_in_set, largest_uid, named_by_uid, numbered}
use Rattle.dv_model.specs.Views.{View}
use Rattle.dv_view.specs.Orders.{IsOrdered}
use Rattle.dv_groups.specs.Changes.{expunged_uids}

-- ---- lists whose numbers rise

module _ {X : Type 0} (f : X → ℕ) where
  abbrev Rise : List X → Type 0
  Rise xs = AllPairs (λ a b. f a < f b) xs

  rise_of : (xs : List X) → IsStrictlyIncreasing (map f xs) → Rise xs
  rise_of xs rising i j d less inside =
      let long : length (map f xs) ≡ length xs = length-map xs f in
      let pair : get_or (map f xs) i (f d) < get_or (map f xs) j (f d) = AllPairs-from_increasing (map f xs) rising i j (f d) less (omega (arith, long, inside)) in
      let one : get_or (map f xs) i (f d) ≡ f (get_or xs i d) = get_or-map f xs i d (f d) (omega (arith, less, inside)) in
      let two : get_or (map f xs) j (f d) ≡ f (get_or xs j d) = get_or-map f xs j d (f d) inside in
      omega (arith, pair, one, two)

  numbers_rise : (xs : List X) → Rise xs → IsStrictlyIncreasing (map f xs)
  numbers_rise [] rise k inside = absurd (omega arith)
  numbers_rise (x ∷ xs) rise k inside =
      let long : length (map f (x ∷ xs)) ≡ length (x ∷ xs) = length-map (x ∷ xs) f in
      let here : k + 1 < length (x ∷ xs) = omega (arith, long, inside) in
      let one : get_or (map f (x ∷ xs)) k 0 ≡ f (get_or (x ∷ xs) k x) = get_or-map f (x ∷ xs) k x 0 (omega (arith, here)) in
      let two : get_or (map f (x ∷ xs)) (k + 1) 0 ≡ f (get_or (x ∷ xs) (k + 1) x) = get_or-map f (x ∷ xs) (k + 1) x 0 here in
      let pair : f (get_or (x ∷ xs) k x) < f (get_or (x ∷ xs) (k + 1) x) = rise k (k + 1) x (omega arith) here in
      omega (arith, pair, one, two)

  first_rise : (n : ℕ) (xs : List X) → Rise xs → Rise (take n xs)
  first_rise n xs rise i j d less inside =
      let both : length (take n xs) ≡ min n (length xs) = length-take n xs in
      let one : get_or (take n xs) i d ≡ get_or xs i d = get_or-take n xs i d (omega (arith, both, less, inside)) in
      let two : get_or (take n xs) j d ≡ get_or xs j d = get_or-take n xs j d (omega (arith, both, inside)) in
      let pair : f (get_or xs i d) < f (get_or xs j d) = rise i j d less (omega (arith, both, inside)) in
      omega (arith, pair, ap f one, ap f two)

  pub kept_rise : (p : X → Bool) (xs : List X) → IsStrictlyIncreasing (map f xs) → IsStrictlyIncreasing (map f (filter p xs))
  kept_rise p xs rising = numbers_rise (filter p xs) (AllPairs-filter (λ a b. f a < f b) p xs (rise_of xs rising))

  pub first_kept_rise : (n : ℕ) (p : X → Bool) (xs : List X) → IsStrictlyIncreasing (map f xs) → IsStrictlyIncreasing (map f (take n (filter p xs)))
  first_kept_rise n p xs rising = numbers_rise (take n (filter p xs)) (first_rise n (filter p xs) (AllPairs-filter (λ a b. f a < f b) p xs (rise_of xs rising)))

-- ---- the messages that are removed

numbered_uids : (n : ℕ) (rows : List Shown) → map (λ (row : ℕ × Shown). row.1.uid) (enumerate_from n rows) ≡ map (λ (s : Shown). s.uid) rows
numbered_uids n [] = refl
numbered_uids n (s ∷ rows) = ap (λ (uids : List ℕ). s.uid ∷ uids) (numbered_uids (n + 1) rows)

pub expunged_rise : (c : Command) (view : View) (m : Mailbox) → IsOrdered view → IsValid m → IsStrictlyIncreasing (expunged_uids c view m)
expunged_rise command.Expunge view m ordered valid = first_kept_rise (λ (row : Row). row.uid) expunge_limit is_deleted m.rows valid.rising
expunged_rise (command.UidRemove set) view m ordered valid =
    let all : IsStrictlyIncreasing (map (λ (row : ℕ × Shown). row.1.uid) (numbered view)) = subst IsStrictlyIncreasing (sym (numbered_uids 1 view.rows)) ordered.rising in
    IsStrictlyIncreasing-filter (has_uid m) (map (λ (row : ℕ × Shown). row.1.uid) (named_by_uid set view))
    (kept_rise (λ (row : ℕ × Shown). row.1.uid) (λ row. is_in_set (largest_uid view) set row.1.uid) (numbered view) all)
expunged_rise c view m ordered valid = λ k inside. absurd (omega arith)

-- the mailbox has a row of the UID
abbrev pub HasRow : Mailbox → ℕ → Type 0
HasRow m uid = (row : Row) × Contains m.rows row × (row.uid ≡ uid)

row_from : (m : Mailbox) (uid : ℕ) → has_uid m uid ≡ true → HasRow m uid
row_from m uid has =
    let found = Any-from_list_any (λ (row : Row). nat_eq row.uid uid && true) m.rows has in
    (found.1, (found.0, found.2, found.3), eqb-true found.1.uid uid (and_parts (nat_eq found.1.uid uid) true found.4).0)

pub expunged_there : (c : Command) (view : View) (m : Mailbox) → All (HasRow m) (expunged_uids c view m)
expunged_there command.Expunge view m =
    All-map (HasRow m) (λ (row : Row). row.uid) (take expunge_limit (filter is_deleted m.rows))
    (All-take (λ row. HasRow m row.uid) expunge_limit (filter is_deleted m.rows)
    (All-filter is_deleted (λ row. HasRow m row.uid) m.rows (All-weaker (Contains m.rows) (λ row. HasRow m row.uid) (λ row here. (row, here, refl)) m.rows (All-contains_itself m.rows))))
expunged_there (command.UidRemove set) view m =
    let uids : List ℕ = map (λ (row : ℕ × Shown). row.1.uid) (named_by_uid set view) in
    All-weaker (λ uid. has_uid m uid ≡ true) (HasRow m) (row_from m) (removed_uids set view m) (filter_passes (has_uid m) uids)
expunged_there c view m = All-nil (HasRow m)
