-- One row more of those whose messages a command reads.
use Rattle.std.proofs.Common.{◌≡◌, ℕ, ◌+◌, ◌<◌, ◌≤◌, List, [], ◌∷◌, ◌++◌, length, get_or, take, Result, Err, sym, ◌∙◌, ap, arith}
use Rattle.std.specs.Prelude.{flat_map}
use Rattle.std.proofs.lemmas.Grind.{flat_map-append}
use Rattle.std.proofs.lemmas.List.{append-nil, get_or_default, get_or-map, length-map, take_all, take_more}
use Rattle.dv_model.specs.declared.types.Mailbox.{Mailbox}
use Rattle.dv_model.specs.declared.types.Shown.{Shown}
use Rattle.dv_shelf.specs.Folders.{Folder}
use Rattle.dv_responses.specs.Rows.{row_at, rows_at}
use Rattle.dv_lookups.specs.Founds.{mail_of}
use Rattle.dv_lookups.specs.Reads.{damaged_in, damaged_of, uids_of}

-- an error that a call passes on is its own
pub passed_on : {T U E : Type 0} (r : Result T E) (s : Result U E) (x e y : E) → s ≡ Err x → r ≡ Err e → e ≡ x → r ≡ Err y → s ≡ Err y
passed_on r s x e y was is same failed =
    let it : e ≡ y = cc in
    was ∙ ap Err (sym same ∙ it)

-- what is made of one item more
pub flat_more : {X Y : Type 0} (f : X → List Y) (xs : List X) (i : ℕ) (d : X) → i < length xs → flat_map f (take (i + 1) xs) ≡ flat_map f (take i xs) ++ f (get_or xs i d)
flat_more f xs i d less =
    ap (flat_map f) (take_more xs i d less) ∙ flat_map-append f (take i xs) (get_or xs i d ∷ []) ∙ ap (λ t. flat_map f (take i xs) ++ t) (append-nil (f (get_or xs i d)))

-- the UIDs of the rows with these numbers
module _ (rows : List Shown) (numbers : List ℕ) (i : ℕ) (less : i < length numbers) where
  abbrev n : ℕ
  n = get_or numbers i 0

  pub row_less : i < length (rows_at rows numbers)
  row_less = let long = length-map {B = ℕ × Shown} numbers (λ (number : ℕ). (number, row_at rows number)) in omega (arith, long, less)

  pub row_is : get_or (rows_at rows numbers) i (n, row_at rows n) ≡ (n, row_at rows n)
  row_is = get_or-map (λ (number : ℕ). (number, row_at rows number)) numbers i n (n, row_at rows n) less ∙ ap (λ (number : ℕ). (number, row_at rows number)) (sym (get_or_default numbers i 0 n less))

  pub uid_less : i < length (uids_of (rows_at rows numbers))
  uid_less = let long = length-map (rows_at rows numbers) (λ (row : ℕ × Shown). row.1.uid) in let inside = row_less in omega (arith, long, inside)

  pub uid_is : get_or (uids_of (rows_at rows numbers)) i 0 ≡ (row_at rows n).uid
  uid_is = get_or-map (λ (row : ℕ × Shown). row.1.uid) (rows_at rows numbers) i (n, row_at rows n) 0 row_less ∙ ap (λ (row : ℕ × Shown). row.1.uid) row_is

-- all of them
module _ (rows : List Shown) (numbers : List ℕ) (i : ℕ) (done : length numbers ≤ i) where
  pub all_rows : take i (rows_at rows numbers) ≡ rows_at rows numbers
  all_rows = let long = length-map {B = ℕ × Shown} numbers (λ (number : ℕ). (number, row_at rows number)) in take_all i (rows_at rows numbers) (omega (arith, done, long))

  pub all_uids : take i (uids_of (rows_at rows numbers)) ≡ uids_of (rows_at rows numbers)
  all_uids =
      let long = length-map {B = ℕ × Shown} numbers (λ (number : ℕ). (number, row_at rows number)) in
      let same = length-map (rows_at rows numbers) (λ (row : ℕ × Shown). row.1.uid) in
      take_all i (uids_of (rows_at rows numbers)) (omega (arith, done, long, same))

-- the damage of one row more
pub damage_more : (folder other : Folder) (m : Mailbox) (uids : List ℕ) (i uid : ℕ) (old new : List ℕ) → i < length uids → uid ≡ get_or uids i 0 → other ≡ folder
    → old ≡ damaged_of folder m (take i uids) → new ≡ old ++ damaged_in uid (mail_of other m uid) → new ≡ damaged_of folder m (take (i + 1) uids)
damage_more folder other m uids i uid old new less is same before now =
    let each : ℕ → List ℕ = λ u. damaged_in u (mail_of folder m u) in
    now ∙ ap (λ (f : Folder). old ++ damaged_in uid (mail_of f m uid)) same ∙ ap (λ (u : ℕ). old ++ each u) is
    ∙ ap (λ (t : List ℕ). t ++ each (get_or uids i 0)) before ∙ sym (flat_more each uids i 0 less)
