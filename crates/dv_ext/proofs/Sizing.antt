-- What introductions make of rows, by the sizes of their parts.
use Rattle.std.proofs.Common.{◌≡◌, ℕ, zero, suc, ◌+◌, ◌-◌, ◌≤◌, Bool, true, false, cond, List, [], ◌∷◌, ◌++◌, length, max, nat_eq, replicate, Option, Some, None, refl, sym, ◌∙◌, ap, subst, arith, append_assoc, length-append}
use Rattle.std.specs.Prelude.{All, fold, map, slice_get, get_or, min, take}
use Rattle.std.proofs.lemmas.Slice.Eq.{bytes_eq-Decides}
use Rattle.std.proofs.lemmas.List.{get_or-map, append-nil, length-take, take_more, length-map, length-replicate, map-append, replicate-append-replicate}
use Rattle.std.proofs.lemmas.List.Elements.{All-cons, All-head, All-nil, All-tail, All-weaker}
use Rattle.dv_model.specs.declared.types.Extension.{Extension}
use Rattle.dv_model.specs.declared.types.Intro.{Intro}
use Rattle.dv_model.specs.declared.types.Mailbox.{Mailbox}
use Rattle.dv_model.specs.declared.types.Row.{Row}
use Rattle.dv_model.specs.Effects.{fit, grown_extension, grown_to, introduced, may_be_added, new_extension, with_intro, with_item, with_row_parts, without_current}
use Rattle.dv_model.specs.Mailboxes.{IsRowOf, IsValid, empty_mailbox}
use Rattle.std.specs.Prelude.{AllPairs, ◌<◌, ◌≢◌}
use Rattle.std.specs.List.Sorted.{IsStrictlyIncreasing}
use Rattle.dv_model.specs.Names.{IsName}
use Rattle.dv_ext.specs.declared.change.PartsChange.{PartsChange}
use Rattle.dv_ext.specs.declared.change.PartsChange.TheVariants.{Same}
use Rattle.dv_ext.specs.Changes.{Does, HasTable, Keeps, rows_changed}
use Rattle.dv_ext.specs.Sizes.{extensions_behind, fitted, have_sizes, leave_parts, sizes_of}
use Rattle.dv_ext.specs.Tables.{IsTable, Table, with_table}

-- ---- one introduction

-- what it does to a row's parts, and to their sizes
data Growth : Type 0 where
  None_grows : Growth
  One_more : (size : ℕ) → Growth
  One_grows : (place size : ℕ) → Growth

abbrev grown_parts : Growth → List (List ℕ) → List (List ℕ)
grown_parts None_grows parts = parts
grown_parts (One_more n) parts = parts ++ replicate n 0 ∷ []
grown_parts (One_grows k n) parts = with_item k (grown_to n) parts

abbrev grown_sizes : Growth → List ℕ → List ℕ
grown_sizes None_grows sizes = sizes
grown_sizes (One_more n) sizes = sizes ++ n ∷ []
grown_sizes (One_grows k n) sizes = with_item k (λ s. max s n) sizes

record IsGrown (m n : Mailbox) : Type 0 where
  growth : Growth
  rows : n.rows ≡ map (with_row_parts (grown_parts growth)) m.rows
  sizes : sizes_of n.extensions ≡ grown_sizes growth (sizes_of m.extensions)
  is : n ≡ record m { rows = n.rows; extensions = n.extensions; current = n.current }

same_rows : (rows : List Row) → rows ≡ map (with_row_parts (λ parts. parts)) rows
same_rows [] = refl
same_rows (row ∷ rows) = ap (λ (rs : List Row). row ∷ rs) (same_rows rows)

no_current : (m : Mailbox) → IsGrown m (without_current m)
no_current m = record { growth = None_grows; rows = same_rows m.rows; sizes = refl; is = refl }

item_sizes : (intro : Intro) (k : ℕ) (es : List Extension) → sizes_of (with_item k (grown_extension intro) es) ≡ with_item k (λ s. max s intro.record_size) (sizes_of es)
item_sizes intro k [] = refl
item_sizes intro zero (e ∷ es) = refl
item_sizes intro (suc k) (e ∷ es) = ap (λ ns. e.record_size ∷ ns) (item_sizes intro k es)

abbrev larger : Mailbox → ℕ → Intro → Mailbox
larger m k intro = record m {
  rows = map (with_row_parts (with_item k (grown_to intro.record_size))) m.rows;
  extensions = with_item k (grown_extension intro) m.extensions;
  current = Some (record { extension = k; size = intro.record_size });
}

is_larger : (m : Mailbox) (k : ℕ) (intro : Intro) → IsGrown m (larger m k intro)
is_larger m k intro = record { growth = One_grows k intro.record_size; rows = refl; sizes = item_sizes intro k m.extensions; is = refl }

abbrev longer : Mailbox → Intro → Mailbox
longer m intro = record m {
  rows = map (with_row_parts (λ parts. parts ++ replicate intro.record_size 0 ∷ [])) m.rows;
  extensions = m.extensions ++ new_extension intro ∷ [];
  current = Some (record { extension = length m.extensions; size = intro.record_size });
}

is_longer : (m : Mailbox) (intro : Intro) → IsGrown m (longer m intro)
is_longer m intro = record { growth = One_more intro.record_size; rows = refl; sizes = map-append (λ (e : Extension). e.record_size) m.extensions (new_extension intro ∷ []); is = refl }

either_grown : (m n : Mailbox) → IsGrown m n → (a b : Bool) → IsGrown m (cond a (cond b n (without_current m)) (without_current m))
either_grown m n is true true = is
either_grown m n is true false = no_current m
either_grown m n is false b = no_current m

at_place_grown : (m : Mailbox) (intro : Intro) (k : ℕ) → introduced m.extensions intro ≡ Some k → (o : Option Extension) → slice_get m.extensions k ≡ o → IsGrown m (with_intro m intro)
at_place_grown m intro k place None there = rw (place, there) (no_current m)
at_place_grown m intro k place (Some e) there =
    rw (place, there) (either_grown m (larger m k intro) (is_larger m k intro) (nat_eq e.reset_id intro.reset_id) (fit (with_item k (grown_extension intro) m.extensions)))

intro_by : (m : Mailbox) (intro : Intro) (o : Option ℕ) → introduced m.extensions intro ≡ o → IsGrown m (with_intro m intro)
intro_by m intro None place = rw place (either_grown m (longer m intro) (is_longer m intro) (may_be_added intro) (fit (m.extensions ++ new_extension intro ∷ [])))
intro_by m intro (Some k) place = at_place_grown m intro k place (slice_get m.extensions k) refl

intro_grown : (m : Mailbox) (intro : Intro) → IsGrown m (with_intro m intro)
intro_grown m intro = intro_by m intro (introduced m.extensions intro) refl

-- ---- the extensions ask for nothing else

abbrev beside : Mailbox → Mailbox → Mailbox
beside m n = record n { extensions = m.extensions }

either_same : (a b : Bool) (x y p q : Mailbox) → x.extensions ≡ y.extensions → p.extensions ≡ q.extensions → (cond a (cond b x p) p).extensions ≡ (cond a (cond b y q) q).extensions
either_same true true x y p q one two = one
either_same true false x y p q one two = two
either_same false b x y p q one two = two

at_place_same : (m n : Mailbox) (intro : Intro) (k : ℕ) → introduced m.extensions intro ≡ Some k → (o : Option Extension) → slice_get m.extensions k ≡ o → (with_intro (beside m n) intro).extensions ≡ (with_intro m intro).extensions
at_place_same m n intro k place None there = rw (place, there) refl
at_place_same m n intro k place (Some e) there =
    rw (place, there) (either_same (nat_eq e.reset_id intro.reset_id) (fit (with_item k (grown_extension intro) m.extensions)) (larger (beside m n) k intro) (larger m k intro) (without_current (beside m n)) (without_current m) refl refl)

same_by : (m n : Mailbox) (intro : Intro) (o : Option ℕ) → introduced m.extensions intro ≡ o → (with_intro (beside m n) intro).extensions ≡ (with_intro m intro).extensions
same_by m n intro None place =
    rw place (either_same (may_be_added intro) (fit (m.extensions ++ new_extension intro ∷ [])) (longer (beside m n) intro) (longer m intro) (without_current (beside m n)) (without_current m) refl refl)
same_by m n intro (Some k) place = at_place_same m n intro k place (slice_get m.extensions k) refl

all_same : (m n : Mailbox) (intros : List Intro) → n.extensions ≡ m.extensions → (fold with_intro n intros).extensions ≡ (fold with_intro m intros).extensions
all_same m n [] same = same
all_same m n (intro ∷ intros) same =
    let first : (with_intro n intro).extensions ≡ (with_intro m intro).extensions =
    ap (λ (es : List Extension). (with_intro (record n { extensions = es }) intro).extensions) same ∙ same_by m n intro (introduced m.extensions intro) refl in
    all_same (with_intro m intro) (with_intro n intro) intros first

-- the extensions behind introductions are those of each mailbox
pub behind_all : (m : Mailbox) (intros : List Intro) → extensions_behind m.extensions intros ≡ (fold with_intro m intros).extensions
behind_all m intros = all_same m (record (empty_mailbox 1) { extensions = m.extensions }) intros refl

-- ---- parts of other sizes

grown_again : (s n : ℕ) (part : List ℕ) → grown_to n (grown_to s part) ≡ grown_to (max s n) part
grown_again s n part =
    let filling : List ℕ = replicate (s - length part) 0 in
    let long : length (part ++ filling) ≡ length part + length filling = length-append part filling in
    let more : length filling ≡ s - length part = length-replicate (s - length part) 0 in
    let rest : n - length (grown_to s part) ≡ (max s n - length part) - (s - length part) = omega arith in
    let all : (s - length part) + ((max s n - length part) - (s - length part)) ≡ max s n - length part = omega arith in
    append_assoc part filling (replicate (n - length (grown_to s part)) 0)
    ∙ ap (λ (k : ℕ). part ++ (filling ++ replicate k 0)) rest
    ∙ ap (λ (zs : List ℕ). part ++ zs) (replicate-append-replicate (s - length part) ((max s n - length part) - (s - length part)) 0)
    ∙ ap (λ (k : ℕ). part ++ replicate k 0) all

one_grows : (k n : ℕ) (sizes : List ℕ) (parts : List (List ℕ)) → with_item k (grown_to n) (fitted sizes parts) ≡ fitted (with_item k (λ s. max s n) sizes) parts
one_grows k n [] parts = refl
one_grows zero n (s ∷ sizes) [] = ap (λ (p : List ℕ). p ∷ fitted sizes []) (grown_again s n [])
one_grows zero n (s ∷ sizes) (part ∷ parts) = ap (λ (p : List ℕ). p ∷ fitted sizes parts) (grown_again s n part)
one_grows (suc k) n (s ∷ sizes) [] = ap (λ ps. grown_to s [] ∷ ps) (one_grows k n sizes [])
one_grows (suc k) n (s ∷ sizes) (part ∷ parts) = ap (λ ps. grown_to s part ∷ ps) (one_grows k n sizes parts)

one_more : (n : ℕ) (sizes : List ℕ) (parts : List (List ℕ)) → length parts ≤ length sizes → fitted sizes parts ++ replicate n 0 ∷ [] ≡ fitted (sizes ++ n ∷ []) parts
one_more n [] [] few = let all : n ≡ n - 0 = omega arith in ap (λ (k : ℕ). replicate k 0 ∷ []) all
one_more n [] (part ∷ parts) few = absurd (omega arith)
one_more n (s ∷ sizes) [] few = ap (λ ps. grown_to s [] ∷ ps) (one_more n sizes [] (omega arith))
one_more n (s ∷ sizes) (part ∷ parts) few = ap (λ ps. grown_to s part ∷ ps) (one_more n sizes parts (omega arith))

grown_fits : (growth : Growth) (sizes : List ℕ) (parts : List (List ℕ)) → length parts ≤ length sizes → grown_parts growth (fitted sizes parts) ≡ fitted (grown_sizes growth sizes) parts
grown_fits None_grows sizes parts few = refl
grown_fits (One_more n) sizes parts few = one_more n sizes parts few
grown_fits (One_grows k n) sizes parts few = one_grows k n sizes parts

no_fewer : (growth : Growth) (sizes : List ℕ) → length sizes ≤ length (grown_sizes growth sizes)
no_fewer None_grows sizes = omega arith
no_fewer (One_more n) sizes = let long : length (sizes ++ n ∷ []) ≡ length sizes + 1 = length-append sizes (n ∷ []) in omega arith
no_fewer (One_grows k n) sizes = item_count k sizes
  where
    item_count : (k : ℕ) (xs : List ℕ) → length xs ≤ length (with_item k (λ s. max s n) xs)
    item_count k [] = omega arith
    item_count zero (x ∷ xs) = omega arith
    item_count (suc k) (x ∷ xs) = let less : length xs ≤ length (with_item k (λ s. max s n) xs) = item_count k xs in omega arith

fitted_more : (ns : List ℕ) (n : ℕ) (parts : List (List ℕ)) → fitted (ns ++ n ∷ []) parts ≡ fitted ns parts ++ grown_to n (get_or parts (length ns) []) ∷ []
fitted_more [] n [] = refl
fitted_more [] n (part ∷ parts) = refl
fitted_more (k ∷ ns) n [] = ap (λ ps. grown_to k [] ∷ ps) (fitted_more ns n [])
fitted_more (k ∷ ns) n (part ∷ parts) = ap (λ ps. grown_to k part ∷ ps) (fitted_more ns n parts)

-- one part more
pub fitted_next : (es : List Extension) (at : ℕ) (e : Extension) (parts : List (List ℕ)) → at < length es
    → fitted (sizes_of (take (at + 1) es)) parts ≡ fitted (sizes_of (take at es)) parts ++ grown_to (get_or es at e).record_size (get_or parts at []) ∷ []
fitted_next es at e parts less =
    let last : Extension = get_or es at e in
    let many : length (take at es) ≡ min at (length es) = length-take at es in
    let all : length (sizes_of (take at es)) ≡ length (take at es) = length-map (take at es) (λ (x : Extension). x.record_size) in
    let count : length (sizes_of (take at es)) ≡ at = omega arith in
    ap (λ (xs : List Extension). fitted (sizes_of xs) parts) (take_more es at e less)
    ∙ ap (λ (ns : List ℕ). fitted ns parts) (map-append (λ (x : Extension). x.record_size) (take at es) (last ∷ []))
    ∙ fitted_more (sizes_of (take at es)) last.record_size parts
    ∙ ap (λ (k : ℕ). fitted (sizes_of (take at es)) parts ++ grown_to last.record_size (get_or parts k []) ∷ []) count

-- parts of those sizes stay
pub fitted_itself : (sizes : List ℕ) (parts : List (List ℕ)) → map length parts ≡ sizes → fitted sizes parts ≡ parts
fitted_itself [] [] same = refl
fitted_itself [] (part ∷ parts) same = absurd cc
fitted_itself (n ∷ ns) [] same = absurd cc
fitted_itself (n ∷ ns) (part ∷ parts) same =
    let long : length part ≡ n = cc in
    let rest : map length parts ≡ ns = cc in
    let none : n - length part ≡ 0 = omega arith in
    ap (λ (k : ℕ). (part ++ replicate k 0) ∷ fitted ns parts) none ∙ ap (λ (p : List ℕ). p ∷ fitted ns parts) (append-nil part) ∙ ap (λ ps. part ∷ ps) (fitted_itself ns parts rest)

-- ---- all introductions

rows_grow : (growth : Growth) (sizes : List ℕ) (rows : List Row) → All (λ row. length row.parts ≤ length sizes) rows
    → map (with_row_parts (grown_parts growth)) (map (with_row_parts (fitted sizes)) rows) ≡ map (with_row_parts (fitted (grown_sizes growth sizes))) rows
rows_grow growth sizes [] few = refl
rows_grow growth sizes (row ∷ rows) few =
    ap (λ (parts : List (List ℕ)). record row { parts = parts } ∷ map (with_row_parts (grown_parts growth)) (map (with_row_parts (fitted sizes)) rows))
    (grown_fits growth sizes row.parts (All-head (λ (r : Row). length r.parts ≤ length sizes) row rows few))
    ∙ ap (λ (rs : List Row). record row { parts = fitted (grown_sizes growth sizes) row.parts } ∷ rs) (rows_grow growth sizes rows (All-tail (λ (r : Row). length r.parts ≤ length sizes) row rows few))

rows_in_turn : (m : Mailbox) (rows : List Row) (intros : List Intro) → All (λ row. length row.parts ≤ length (sizes_of m.extensions)) rows → m.rows ≡ map (with_row_parts (fitted (sizes_of m.extensions))) rows
    → (fold with_intro m intros).rows ≡ map (with_row_parts (fitted (sizes_of (fold with_intro m intros).extensions))) rows
rows_in_turn m rows [] few is = is
rows_in_turn m rows (intro ∷ intros) few is =
    let n : Mailbox = with_intro m intro in
    let step : IsGrown m n = intro_grown m intro in
    let before : List ℕ = sizes_of m.extensions in
    let more : length before ≤ length (sizes_of n.extensions) = subst (λ (ns : List ℕ). length before ≤ length ns) (sym step.sizes) (no_fewer step.growth before) in
    let behind : n.rows ≡ map (with_row_parts (fitted (sizes_of n.extensions))) rows =
    step.rows ∙ ap (map (with_row_parts (grown_parts step.growth))) is ∙ rows_grow step.growth before rows few ∙ ap (λ (ns : List ℕ). map (with_row_parts (fitted ns)) rows) (sym step.sizes) in
    rows_in_turn n rows intros (All-weaker (λ (row : Row). length row.parts ≤ length before) (λ (row : Row). length row.parts ≤ length (sizes_of n.extensions)) (λ row h. omega arith) rows few) behind

rows_fit : (sizes : List ℕ) (rows : List Row) → All (λ row. map length row.parts ≡ sizes) rows → map (with_row_parts (fitted sizes)) rows ≡ rows
rows_fit sizes [] each = refl
rows_fit sizes (row ∷ rows) each =
    ap (λ (parts : List (List ℕ)). record row { parts = parts } ∷ map (with_row_parts (fitted sizes)) rows) (fitted_itself sizes row.parts (All-head (λ (r : Row). map length r.parts ≡ sizes) row rows each))
    ∙ ap (λ (rs : List Row). row ∷ rs) (rows_fit sizes rows (All-tail (λ (r : Row). map length r.parts ≡ sizes) row rows each))

valid_sizes : (m : Mailbox) → IsValid m → All (λ row. map length row.parts ≡ sizes_of m.extensions) m.rows
valid_sizes m valid = All-weaker (IsRowOf m) (λ (row : Row). map length row.parts ≡ sizes_of m.extensions) (λ row is. is.parts) m.rows valid.rows

-- introductions fill each row's parts up to the sizes behind them
pub rows_behind : (m : Mailbox) (intros : List Intro) → IsValid m → (fold with_intro m intros).rows ≡ map (with_row_parts (fitted (sizes_of (fold with_intro m intros).extensions))) m.rows
rows_behind m intros valid =
    rows_in_turn m m.rows intros
    (All-weaker (λ (row : Row). map length row.parts ≡ sizes_of m.extensions) (λ (row : Row). length row.parts ≤ length (sizes_of m.extensions))
    (λ row same. let long : length (map length row.parts) ≡ length row.parts = length-map row.parts length in let as_long : length (map length row.parts) ≡ length (sizes_of m.extensions) = ap length same in omega arith) m.rows (valid_sizes m valid))
    (sym (rows_fit (sizes_of m.extensions) m.rows (valid_sizes m valid)))

-- and where these are the same, the rows stay
pub intros_stay : (m : Mailbox) (intros : List Intro) → IsValid m → sizes_of (fold with_intro m intros).extensions ≡ sizes_of m.extensions → (fold with_intro m intros).rows ≡ m.rows
intros_stay m intros valid same =
    rows_behind m intros valid ∙ ap (λ (ns : List ℕ). map (with_row_parts (fitted ns)) m.rows) same ∙ rows_fit (sizes_of m.extensions) m.rows (valid_sizes m valid)

-- they change nothing but rows and extensions
pub only_those : (m : Mailbox) (intros : List Intro) → let n : Mailbox = fold with_intro m intros in n ≡ record m { rows = n.rows; extensions = n.extensions; current = n.current }
only_those m [] = refl
only_those m (intro ∷ intros) =
    let k : Mailbox = with_intro m intro in
    let n : Mailbox = fold with_intro k intros in
    only_those k intros ∙ ap (λ (x : Mailbox). record x { rows = n.rows; extensions = n.extensions; current = n.current }) (intro_grown m intro).is

-- ---- a table behind introductions

pub table_next : (t u : Table) (n : Mailbox) (intro : Intro) (change : PartsChange) → HasTable t n → Does (λ m. with_intro m intro) t u change → Keeps t u change → HasTable u (with_intro n intro)
table_next t u n intro change has does keeps =
    let valid : IsValid (with_table t n) = subst IsValid (sym has.is) has.valid in
    let made = ap (λ (x : Mailbox). with_intro x intro) (sym has.is) ∙ does n valid in
    subst (HasTable u) (sym made) (record { valid = keeps n valid; is = refl })

-- a mailbox of this table with one row
abbrev zero_bytes : ℕ → List ℕ
zero_bytes n = replicate n 0

abbrev one_row : List Extension → Row
one_row es = record { uid = 1; flags = 0; keywords = []; parts = map zero_bytes (sizes_of es); modseq = 1 }

abbrev with_one_row : Table → Mailbox
with_one_row t = record (empty_mailbox 1) { next_uid = 2; rows = one_row t.extensions ∷ []; extensions = t.extensions; current = t.current }

rising_one : (n : ℕ) → IsStrictlyIncreasing (n ∷ [])
rising_one n k h = absurd (omega arith)

no_pairs : {X : Type 0} (R : X → X → Type 0) → AllPairs R []
no_pairs R i j d less h = absurd (omega arith)

no_numbers : IsStrictlyIncreasing []
no_numbers k h = absurd (omega arith)

blank_sizes : (ns : List ℕ) → map length (map zero_bytes ns) ≡ ns
blank_sizes [] = refl
blank_sizes (n ∷ ns) = ap (λ k. k ∷ map length (map zero_bytes ns)) (length-replicate n 0) ∙ ap (λ ks. n ∷ ks) (blank_sizes ns)

one_row_valid : (t : Table) → IsTable t → IsValid (with_one_row t)
one_row_valid t is = record {
  next_uid = (omega arith, omega arith);
  rising = rising_one 1;
  rows = All-cons (IsRowOf (with_one_row t)) (one_row t.extensions) [] (record { uid = (omega arith, omega arith); keywords = (no_numbers, All-nil (λ k. k < 0)); parts = blank_sizes (sizes_of t.extensions); modseq = (omega arith, omega arith) }) (All-nil (IsRowOf (with_one_row t)));
  names = (All-nil IsName, no_pairs (λ (a b : List ℕ). a ≢ b));
  extensions = is.extensions;
  current = is.current;
  highest = (omega arith, omega arith);
}

-- where no part changes, the sizes stay
pub same_sizes : (t u : Table) (change : PartsChange) → IsTable t → Keeps t u change → change ≡ Same → sizes_of u.extensions ≡ sizes_of t.extensions
same_sizes t u change is keeps same =
    let m : Mailbox = with_one_row t in
    let kept : IsValid (with_table u m) = subst (λ (c : PartsChange). Keeps t u c) same keeps m (one_row_valid t is) in
    sym (All-head (IsRowOf (with_table u m)) (one_row t.extensions) [] kept.rows).parts ∙ blank_sizes (sizes_of t.extensions)

hollow_valid : (t : Table) → IsTable t → IsValid (with_table t (empty_mailbox 1))
hollow_valid t is = record {
  next_uid = (omega arith, omega arith);
  rising = no_numbers;
  rows = All-nil (IsRowOf (with_table t (empty_mailbox 1)));
  names = (All-nil IsName, no_pairs (λ (a b : List ℕ). a ≢ b));
  extensions = is.extensions;
  current = is.current;
  highest = (omega arith, omega arith);
}

pub keeps_table : (t u : Table) (change : PartsChange) → IsTable t → Keeps t u change → IsTable u
keeps_table t u change is keeps =
    let kept : IsValid (with_table u (rows_changed change (empty_mailbox 1))) = keeps (empty_mailbox 1) (hollow_valid t is) in
    record { extensions = kept.extensions; current = kept.current }

-- ---- equal sizes

pub sizes_test : (es fs : List Extension) → sizes_of es ≡ sizes_of fs → have_sizes es fs ≡ true
sizes_test es fs same = (bytes_eq-Decides (sizes_of es) (sizes_of fs)).1 same

pub sizes_same : (es fs : List Extension) → have_sizes es fs ≡ true → sizes_of es ≡ sizes_of fs
sizes_same es fs test = (bytes_eq-Decides (sizes_of es) (sizes_of fs)).0 test

no_by : (b : Bool) → (b ≡ true → ⊥) → b ≡ false
no_by true h = absurd (h refl)
no_by false h = refl

pub other_count : (es fs : List Extension) → (length es ≡ length fs → ⊥) → have_sizes es fs ≡ false
other_count es fs differ = no_by (have_sizes es fs) (λ test.
    let long : length (sizes_of es) ≡ length (sizes_of fs) = ap length (sizes_same es fs test) in
    let one : length (sizes_of es) ≡ length es = length-map es (λ (e : Extension). e.record_size) in
    let other : length (sizes_of fs) ≡ length fs = length-map fs (λ (e : Extension). e.record_size) in
    differ (omega arith))

pub other_size : (es fs : List Extension) (k : ℕ) (d c : Extension) → k < length es → k < length fs → ((get_or es k d).record_size ≡ (get_or fs k c).record_size → ⊥) → have_sizes es fs ≡ false
other_size es fs k d c less short differ = no_by (have_sizes es fs) (λ test.
    differ (sym (get_or-map (λ (e : Extension). e.record_size) es k d 0 less) ∙ ap (λ (ns : List ℕ). get_or ns k 0) (sizes_same es fs test) ∙ get_or-map (λ (e : Extension). e.record_size) fs k c 0 short))

-- the extensions of a table behind introductions
pub table_behind : (t u : Table) (intros : List Intro) → HasTable u (fold with_intro (with_table t (empty_mailbox 1)) intros) → u.extensions ≡ extensions_behind t.extensions intros
table_behind t u intros has = ap (λ (m : Mailbox). m.extensions) has.is ∙ sym (behind_all (with_table t (empty_mailbox 1)) intros)

pub behind_of : (t u : Table) (intros : List Intro) → IsTable t → ((m : Mailbox) → IsValid (with_table t m) → HasTable u (fold with_intro (with_table t m) intros)) → u.extensions ≡ extensions_behind t.extensions intros
behind_of t u intros is has = table_behind t u intros (has (empty_mailbox 1) (hollow_valid t is))

pub parts_stay : (t u : Table) (intros : List Intro) → u.extensions ≡ extensions_behind t.extensions intros → sizes_of u.extensions ≡ sizes_of t.extensions → leave_parts t.extensions intros ≡ true
parts_stay t u intros is same = sizes_test t.extensions (extensions_behind t.extensions intros) (sym same ∙ ap sizes_of is)
