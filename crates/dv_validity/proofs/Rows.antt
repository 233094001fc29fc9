-- The rows of a valid mailbox, as they stay, change, leave and come, and what effects leave of its numbers.
use Rattle.std.proofs.Common.{◌≡◌, ◌≢◌, ◌⊎◌, inl, inr, ℕ, ◌+◌, ◌<◌, ◌≤◌, Bool, true, false, cond, List, [], ◌∷◌, ◌++◌, length, get_or, refl, sym, ◌∙◌, ap, subst, arith}
use Rattle.std.specs.Prelude.{All, Any, map, filter, fold}
use Rattle.std.specs.List.Sorted.{IsStrictlyIncreasing}
use Rattle.std.proofs.lemmas.Bool.{cases_lt}
use Rattle.std.proofs.lemmas.List.{append-nil, append_assoc, get_or_append_left, get_or_default, get_or_push, length_push}
use Rattle.std.proofs.lemmas.List.Elements.{All-head, All-tail, All-map, All-push, All-weaker, All-filter}
use Rattle.dv_model.specs.declared.types.Mailbox.{Mailbox}
use Rattle.dv_model.specs.declared.types.Row.{Row}
use Rattle.dv_model.specs.Mailboxes.{IsRowOf, IsValid}
use Rattle.dv_validity.specs.Laws.{GrowsTo}

-- ---- lists

-- what one step keeps, all keep
pub fold_keeps : {A B : Type 0} (P : B → Type 0) (Q : A → Type 0) (f : B → A → B) → ((b : B) (a : A) → Q a → P b → P (f b a)) → (b : B) (xs : List A) → All Q xs → P b → P (fold f b xs)
fold_keeps P Q f step b [] all is = is
fold_keeps P Q f step b (x ∷ xs) all is = fold_keeps P Q f step (f b x) xs (All-tail Q x xs all) (step b x (All-head Q x xs all) is)

-- what each step keeps of whatever it is given, all keep
pub fold_keeps_any : {A B : Type 0} (P : B → Type 0) (f : B → A → B) → ((b : B) (a : A) → P b → P (f b a)) → (b : B) (xs : List A) → P b → P (fold f b xs)
fold_keeps_any P f step b [] is = is
fold_keeps_any P f step b (x ∷ xs) is = fold_keeps_any P f step (f b x) xs (step b x is)

pub map_same : {X Y : Type 0} (f g : X → Y) → ((x : X) → f x ≡ g x) → (xs : List X) → map f xs ≡ map g xs
map_same f g same [] = refl
map_same f g same (x ∷ xs) = ap (λ y. y ∷ map f xs) (same x) ∙ ap (λ ys. g x ∷ ys) (map_same f g same xs)

pub map_map : {X Y Z : Type 0} (g : Y → Z) (f : X → Y) (xs : List X) → map g (map f xs) ≡ map (λ x. g (f x)) xs
map_map g f [] = refl
map_map g f (x ∷ xs) = ap (λ ys. g (f x) ∷ ys) (map_map g f xs)

map_cond : {X Y : Type 0} (f : X → Y) (b : Bool) (x : X) (xs : List X) → map f (cond b (x ∷ xs) xs) ≡ cond b (f x ∷ map f xs) (map f xs)
map_cond f true x xs = refl
map_cond f false x xs = refl

pub map_filter : {X Y : Type 0} (f : X → Y) (p : Y → Bool) (xs : List X) → map f (filter (λ x. p (f x)) xs) ≡ filter p (map f xs)
map_filter f p [] = refl
map_filter f p (x ∷ xs) = map_cond f (p (f x)) x (filter (λ y. p (f y)) xs) ∙ ap (λ ys. cond (p (f x)) (f x ∷ ys) ys) (map_filter f p xs)

-- ---- numbers that rise

rising_inside : (xs : List ℕ) (y k : ℕ) → k + 1 < length xs → get_or xs k 0 < get_or xs (k + 1) 0 → get_or (xs ++ y ∷ []) k 0 < get_or (xs ++ y ∷ []) (k + 1) 0
rising_inside xs y k h less =
    let here : get_or (xs ++ y ∷ []) k 0 ≡ get_or xs k 0 = get_or_append_left xs (y ∷ []) 0 k (omega arith) in
    let next : get_or (xs ++ y ∷ []) (k + 1) 0 ≡ get_or xs (k + 1) 0 = get_or_append_left xs (y ∷ []) 0 (k + 1) h in
    omega arith

rising_last : (xs : List ℕ) (y k : ℕ) → length xs ≡ k + 1 → get_or xs k 0 < y → get_or (xs ++ y ∷ []) k 0 < get_or (xs ++ y ∷ []) (k + 1) 0
rising_last xs y k h less =
    let here : get_or (xs ++ y ∷ []) k 0 ≡ get_or xs k 0 = get_or_append_left xs (y ∷ []) 0 k (omega arith) in
    let next : get_or (xs ++ y ∷ []) (k + 1) 0 ≡ y = get_or_push xs y 0 (k + 1) h in
    omega arith

rising_at : (xs : List ℕ) (y k : ℕ) → IsStrictlyIncreasing xs → All (λ x. x < y) xs → k + 1 < length (xs ++ y ∷ []) → (k + 1 < length xs) ⊎ (length xs ≤ k + 1) → get_or (xs ++ y ∷ []) k 0 < get_or (xs ++ y ∷ []) (k + 1) 0
rising_at xs y k rising below h (inl inside) = rising_inside xs y k inside (rising k inside)
rising_at xs y k rising below h (inr last) =
    let many : length (xs ++ y ∷ []) ≡ length xs + 1 = length_push xs y in
    rising_last xs y k (omega arith) (below k 0 (omega arith))

-- one more above all
pub rising_push : (xs : List ℕ) (y : ℕ) → IsStrictlyIncreasing xs → All (λ x. x < y) xs → IsStrictlyIncreasing (xs ++ y ∷ [])
rising_push xs y rising below k h = rising_at xs y k rising below h (cases_lt (k + 1) (length xs))

-- ---- a row in another mailbox

-- what a row is judged by is no less
pub record IsWider (m n : Mailbox) : Type 0 where
  pub next_uid : m.next_uid ≤ n.next_uid
  pub keywords : length m.keywords ≤ length n.keywords
  pub highest : m.highest ≤ n.highest

pub row_in : (m n : Mailbox) (row : Row) → IsWider m n → map length row.parts ≡ map (λ e. e.record_size) n.extensions → IsRowOf m row → IsRowOf n row
row_in m n row wider parts is = record {
  uid = (is.uid.0, omega arith);
  keywords = (is.keywords.0, All-weaker (λ k. k < length m.keywords) (λ k. k < length n.keywords) (λ k h. omega arith) row.keywords is.keywords.1);
  parts = parts;
  modseq = (is.modseq.0, omega arith);
}

pub rows_in : (m n : Mailbox) (rows : List Row) → IsWider m n → map (λ e. e.record_size) m.extensions ≡ map (λ e. e.record_size) n.extensions → All (IsRowOf m) rows → All (IsRowOf n) rows
rows_in m n rows wider sizes each = All-weaker (IsRowOf m) (IsRowOf n) (λ row is. row_in m n row wider (is.parts ∙ sizes) is) rows each

-- ---- each row is changed

uids_same : (f : Row → Row) → ((row : Row) → (f row).uid ≡ row.uid) → (rows : List Row) → map (λ row. row.uid) (map f rows) ≡ map (λ row. row.uid) rows
uids_same f same rows = map_map (λ (row : Row). row.uid) f rows ∙ map_same (λ (row : Row). (f row).uid) (λ (row : Row). row.uid) same rows

pub rising_mapped : (f : Row → Row) → ((row : Row) → (f row).uid ≡ row.uid) → (rows : List Row) → IsStrictlyIncreasing (map (λ row. row.uid) rows) → IsStrictlyIncreasing (map (λ row. row.uid) (map f rows))
rising_mapped f same rows rising = subst IsStrictlyIncreasing (sym (uids_same f same rows)) rising

pub mapped_valid : (m : Mailbox) (f : Row → Row) → ((row : Row) → (f row).uid ≡ row.uid) → ((row : Row) → IsRowOf m row → IsRowOf m (f row)) → IsValid m → IsValid (record m { rows = map f m.rows })
mapped_valid m f same keeps valid =
    let n : Mailbox = record m { rows = map f m.rows } in
    let wider : IsWider m n = record { next_uid = omega arith; keywords = omega arith; highest = omega arith } in
    let each : All (λ row. IsRowOf n (f row)) m.rows =
    All-weaker (IsRowOf m) (λ row. IsRowOf n (f row)) (λ row is. let new = keeps row is in row_in m n (f row) wider new.parts new) m.rows valid.rows in
    record {
      next_uid = valid.next_uid;
      rising = rising_mapped f same m.rows valid.rising;
      rows = All-map (IsRowOf n) f m.rows each;
      names = valid.names;
      extensions = valid.extensions;
      current = valid.current;
      highest = valid.highest;
    }

-- ---- what an effect leaves

-- no row has the UID
abbrev pub Lacks : ℕ → List Row → Type 0
Lacks uid rows = All (λ row. row.uid ≢ uid) rows

-- the row has the UID and the modification sequence of one of these, or this one
abbrev pub IsFrom : List Row → ℕ → Row → Type 0
IsFrom before highest row = Any (λ old. (old.uid ≡ row.uid) × (old.modseq ≡ row.modseq)) before ⊎ (row.modseq ≡ highest)

-- the UIDNEXT never falls, a UID that was given out and has no row gets none, rows keep their modification sequences, and
-- keywords their places
pub record GoesOn (m n : Mailbox) : Type 0 where
  pub next_uid : m.next_uid ≤ n.next_uid
  pub highest : n.highest ≡ m.highest
  pub gone : (uid : ℕ) → uid < m.next_uid → Lacks uid m.rows → Lacks uid n.rows
  pub from : All (IsFrom m.rows m.highest) n.rows
  pub table : GrowsTo m.keywords n.keywords

from_itself : (rows : List Row) (highest : ℕ) → All (IsFrom rows highest) rows
from_itself rows highest k d h = inl (k, get_or rows k d, h, get_or_default rows k (get_or rows k d) d h, (refl, refl))

same_table : (names more : List (List ℕ)) → more ≡ names → GrowsTo names more
same_table names more e = ([], e ∙ sym (append-nil names))

pub goes_on_same : (m n : Mailbox) → m.next_uid ≤ n.next_uid → n.highest ≡ m.highest → n.rows ≡ m.rows → n.keywords ≡ m.keywords → GoesOn m n
goes_on_same m n next_uid highest rows keywords = record {
  next_uid = next_uid;
  highest = highest;
  gone = λ uid h lacks. subst (Lacks uid) (sym rows) lacks;
  from = subst (All (IsFrom m.rows m.highest)) (sym rows) (from_itself m.rows m.highest);
  table = same_table m.keywords n.keywords keywords;
}

-- the table of keywords alone grows
pub goes_on_named : (m n : Mailbox) → GrowsTo m.keywords n.keywords → n.next_uid ≡ m.next_uid → n.highest ≡ m.highest → n.rows ≡ m.rows → GoesOn m n
goes_on_named m n table next_uid highest rows = record {
  next_uid = omega arith;
  highest = highest;
  gone = λ uid h lacks. subst (Lacks uid) (sym rows) lacks;
  from = subst (All (IsFrom m.rows m.highest)) (sym rows) (from_itself m.rows m.highest);
  table = table;
}

from_again : (before rows : List Row) (highest : ℕ) → All (IsFrom before highest) rows → (row : Row) → IsFrom rows highest row → IsFrom before highest row
from_again before rows highest each row (inr is) = inr is
from_again before rows highest each row (inl (k, old, h, at, same)) = again (subst (IsFrom before highest) at (each k old h))
  where
    again : IsFrom before highest old → IsFrom before highest row
    again (inr is) = inr (sym same.1 ∙ is)
    again (inl (j, first, h, at, alike)) = inl (j, first, h, at, (alike.0 ∙ same.0, alike.1 ∙ same.1))

pub grows_again : (first second third : List (List ℕ)) → GrowsTo first second → GrowsTo second third → GrowsTo first third
grows_again first second third one two = (one.0 ++ two.0, two.1 ∙ ap (λ names. names ++ two.0) one.1 ∙ append_assoc first one.0 two.0)

pub goes_on_again : (m n k : Mailbox) → GoesOn m n → GoesOn n k → GoesOn m k
goes_on_again m n k first second = record {
  next_uid = omega arith;
  highest = second.highest ∙ first.highest;
  gone = λ uid h lacks. second.gone uid (omega arith) (first.gone uid h lacks);
  from = All-weaker (IsFrom n.rows m.highest) (IsFrom m.rows m.highest) (from_again m.rows n.rows m.highest first.from) k.rows (subst (λ h. All (IsFrom n.rows h) k.rows) first.highest second.from);
  table = grows_again m.keywords n.keywords k.keywords first.table second.table;
}

from_mapped : (rows : List Row) (highest : ℕ) (f : Row → Row) → ((row : Row) → (f row).uid ≡ row.uid) → ((row : Row) → (f row).modseq ≡ row.modseq) → (row : Row) → IsFrom rows highest row → IsFrom rows highest (f row)
from_mapped rows highest f same stamp row (inr is) = inr (stamp row ∙ is)
from_mapped rows highest f same stamp row (inl (k, old, h, at, alike)) = inl (k, old, h, at, (alike.0 ∙ sym (same row), alike.1 ∙ sym (stamp row)))

pub goes_on_mapped : (m n : Mailbox) (f : Row → Row) → ((row : Row) → (f row).uid ≡ row.uid) → ((row : Row) → (f row).modseq ≡ row.modseq)
    → n.next_uid ≡ m.next_uid → n.highest ≡ m.highest → n.rows ≡ map f m.rows → n.keywords ≡ m.keywords → GoesOn m n
goes_on_mapped m n f same stamp next_uid highest rows keywords = record {
  next_uid = omega arith;
  highest = highest;
  gone = λ uid h lacks. subst (Lacks uid) (sym rows)
      (All-map (λ (row : Row). row.uid ≢ uid) f m.rows (All-weaker (λ (row : Row). row.uid ≢ uid) (λ (row : Row). (f row).uid ≢ uid) (λ row other e. other (sym (same row) ∙ e)) m.rows lacks));
  from = subst (All (IsFrom m.rows m.highest)) (sym rows)
      (All-map (IsFrom m.rows m.highest) f m.rows (All-weaker (IsFrom m.rows m.highest) (λ row. IsFrom m.rows m.highest (f row)) (from_mapped m.rows m.highest f same stamp) m.rows (from_itself m.rows m.highest)));
  table = same_table m.keywords n.keywords keywords;
}

pub goes_on_filtered : (m n : Mailbox) (p : Row → Bool) → n.next_uid ≡ m.next_uid → n.highest ≡ m.highest → n.rows ≡ filter p m.rows → n.keywords ≡ m.keywords → GoesOn m n
goes_on_filtered m n p next_uid highest rows keywords = record {
  next_uid = omega arith;
  highest = highest;
  gone = λ uid h lacks. subst (Lacks uid) (sym rows) (All-filter p (λ (row : Row). row.uid ≢ uid) m.rows lacks);
  from = subst (All (IsFrom m.rows m.highest)) (sym rows) (All-filter p (IsFrom m.rows m.highest) m.rows (from_itself m.rows m.highest));
  table = same_table m.keywords n.keywords keywords;
}

-- a row more whose UID wasn't given out
pub goes_on_pushed : (m n : Mailbox) (row : Row) → m.next_uid ≤ row.uid → m.next_uid ≤ n.next_uid → row.modseq ≡ m.highest → n.highest ≡ m.highest → n.rows ≡ m.rows ++ row ∷ [] → n.keywords ≡ m.keywords → GoesOn m n
goes_on_pushed m n row new next_uid stamp highest rows keywords = record {
  next_uid = next_uid;
  highest = highest;
  gone = λ uid h lacks. subst (Lacks uid) (sym rows) (All-push (λ (old : Row). old.uid ≢ uid) m.rows row lacks (λ e. omega arith));
  from = subst (All (IsFrom m.rows m.highest)) (sym rows) (All-push (IsFrom m.rows m.highest) m.rows row (from_itself m.rows m.highest) (inr stamp));
  table = same_table m.keywords n.keywords keywords;
}
