-- What introductions of extensions leave.
use Rattle.std.proofs.Common.{◌≡◌, ◌≢◌, ℕ, ◌+◌, ◌-◌, ◌<◌, ◌≤◌, Bool, true, false, cond, not, ◌&&◌, List, [], ◌∷◌, ◌++◌, length, get_or, max, nat_eq, nat_le, nat_lt, position, replicate, Option, Some, None, refl, sym, ◌∙◌, ap, arith, length-append}
use Rattle.std.specs.Prelude.{All, IfSome, IsSomeAnd, bytes_eq, codes, fold, map, slice_get, sum_by}
use Rattle.std.specs.List.{list_all}
use Rattle.std.proofs.lemmas.Bool.{and_parts, eqb-true}
use Rattle.std.proofs.lemmas.Bool.Decides.{nat_tests}
use Rattle.std.proofs.lemmas.List.{get_or_push, length-replicate, map_push}
use Rattle.std.proofs.lemmas.List.Elements.{All-map, All-push, All-weaker}
use Rattle.std.proofs.lemmas.List.Quantifiers.{all_pairs_push}
use Rattle.std.proofs.lemmas.List.Sums.{AllPass-from_list_all}
use Rattle.std.proofs.lemmas.Option.{slice_get-get_or}
use Rattle.std.proofs.lemmas.Slice.Eq.{bytes_eq-Decides}
use Rattle.dv_model.specs.declared.types.Current.{Current}
use Rattle.dv_model.specs.declared.types.Extension.{Extension}
use Rattle.dv_model.specs.declared.types.Intro.{Intro}
use Rattle.dv_model.specs.declared.types.Mailbox.{Mailbox}
use Rattle.dv_model.specs.Effects.{added_extension, fit, grown_extension, grown_to, if_fit, introduced, may_be_added, new_extension, no_id, reintroduced, with_intro, with_item, with_row_parts, without_current}
use Rattle.dv_model.specs.Mailboxes.{AreExtensions, IsRowOf, IsValid}
use Rattle.dv_validity.proofs.Items.{all_like, item_at, map_kept, map_with_item, none_passes, pairs_like, some_and}
use Rattle.dv_validity.proofs.Rows.{IsWider, GoesOn, fold_keeps_any, goes_on_again, goes_on_mapped, goes_on_same, rising_mapped, rows_in}

-- ---- a mailbox with another table of extensions

-- the current extension is one of these, and no larger
abbrev pub IsCurrent : List Extension → Option Current → Type 0
IsCurrent es current = IfSome current (λ c. IsSomeAnd (slice_get es c.extension) (λ e. c.size ≤ e.record_size))

-- a mailbox whose rows have a part of each extension of another table
abbrev pub with_table : Mailbox → ((List (List ℕ)) → List (List ℕ)) → List Extension → Option Current → Mailbox
with_table m change es current = record m { rows = map (with_row_parts change) m.rows; extensions = es; current = current }

pub table_valid : (m : Mailbox) (change : List (List ℕ) → List (List ℕ)) (es : List Extension) (current : Option Current)
    → ((parts : List (List ℕ)) → map length parts ≡ map (λ e. e.record_size) m.extensions → map length (change parts) ≡ map (λ e. e.record_size) es)
    → AreExtensions es → IsCurrent es current → IsValid m → IsValid (with_table m change es current)
table_valid m change es current sizes are is valid =
    let n : Mailbox = with_table m change es current in
    let each : All (λ row. IsRowOf n (with_row_parts change row)) m.rows =
    All-weaker (IsRowOf m) (λ row. IsRowOf n (with_row_parts change row))
    (λ row is. record { uid = is.uid; keywords = is.keywords; parts = sizes row.parts is.parts; modseq = is.modseq }) m.rows valid.rows in
    record {
      next_uid = valid.next_uid;
      rising = rising_mapped (with_row_parts change) (λ row. refl) m.rows valid.rising;
      rows = All-map (IsRowOf n) (with_row_parts change) m.rows each;
      names = valid.names;
      extensions = are;
      current = is;
      highest = valid.highest;
    }

pub table_goes_on : (m : Mailbox) (change : List (List ℕ) → List (List ℕ)) (es : List Extension) (current : Option Current) → GoesOn m (with_table m change es current)
table_goes_on m change es current = goes_on_mapped m (with_table m change es current) (with_row_parts change) (λ row. refl) (λ row. refl) refl refl refl refl

-- a mailbox with another table, whose rows are the same
pub same_parts_valid : (m : Mailbox) (es : List Extension) (current : Option Current) → map (λ e. e.record_size) m.extensions ≡ map (λ e. e.record_size) es
    → AreExtensions es → IsCurrent es current → IsValid m → IsValid (record m { extensions = es; current = current })
same_parts_valid m es current sizes are is valid =
    let n : Mailbox = record m { extensions = es; current = current } in
    let wider : IsWider m n = record { next_uid = omega arith; keywords = omega arith; highest = omega arith } in
    record {
      next_uid = valid.next_uid;
      rising = valid.rising;
      rows = rows_in m n m.rows wider sizes valid.rows;
      names = valid.names;
      extensions = are;
      current = is;
      highest = valid.highest;
    }

no_current_valid : (m : Mailbox) → IsValid m → IsValid (without_current m)
no_current_valid m valid = same_parts_valid m m.extensions None refl valid.extensions tt valid

no_current_goes_on : (m : Mailbox) → GoesOn m (without_current m)
no_current_goes_on m = goes_on_same m (without_current m) (omega arith) refl refl refl

-- ---- the limits

at_most : (a b : ℕ) → nat_le a b ≡ true → a ≤ b
at_most a b e = grind (arith, nat_tests)

-- what a test of the limits says
pub record AreFit (es : List Extension) : Type 0 where
  pub count : length es ≤ 16
  pub record_sizes : sum_by (λ e. e.record_size) es ≤ 1024
  pub headers : All (λ e. length e.header ≤ 65536) es

fit_says : (es : List Extension) → fit es ≡ true → AreFit es
fit_says es e =
    let parts = and_parts (nat_le (length es) 16 && nat_le (sum_by (λ x. x.record_size) es) 1024) (list_all (λ x. nat_le (length x.header) 65536) es) e in
    let numbers = and_parts (nat_le (length es) 16) (nat_le (sum_by (λ x. x.record_size) es) 1024) parts.0 in
    record {
      count = at_most (length es) 16 numbers.0;
      record_sizes = at_most (sum_by (λ x. x.record_size) es) 1024 numbers.1;
      headers = All-weaker (λ (x : Extension). nat_le (length x.header) 65536 ≡ true) (λ (x : Extension). length x.header ≤ 65536) (λ x is. at_most (length x.header) 65536 is) es
          (AllPass-from_list_all (λ (x : Extension). nat_le (length x.header) 65536) es parts.1);
    }

-- a name that an extension may have
abbrev pub IsExtensionName : List ℕ → Type 0
IsExtensionName name = (1 ≤ length name) × (length name ≤ 255) × (name ≢ codes "keywords")

-- extensions with the names of others, within the limits
pub named_alike : (es fs : List Extension) → AreExtensions es → map (λ e. e.name) es ≡ map (λ e. e.name) fs → AreFit fs → AreExtensions fs
named_alike es fs are names within = record {
  count = within.count;
  record_sizes = within.record_sizes;
  headers = within.headers;
  names = all_like (λ (e : Extension). e.name) IsExtensionName es fs names are.names;
  distinct = pairs_like (λ (e : Extension). e.name) (λ a b. a ≢ b) es fs names are.distinct;
}

-- what fits is taken
fit_by : (m changed : Mailbox) → IsValid m → (fit changed.extensions ≡ true → IsValid changed) → (b : Bool) → fit changed.extensions ≡ b → IsValid (cond b changed (without_current m))
fit_by m changed valid later true e = later e
fit_by m changed valid later false e = no_current_valid m valid

fit_valid : (m changed : Mailbox) → IsValid m → (fit changed.extensions ≡ true → IsValid changed) → IsValid (if_fit m changed)
fit_valid m changed valid later = fit_by m changed valid later (fit changed.extensions) refl

fit_goes_on_by : (m changed : Mailbox) → GoesOn m changed → (b : Bool) → GoesOn m (cond b changed (without_current m))
fit_goes_on_by m changed is true = is
fit_goes_on_by m changed is false = no_current_goes_on m

fit_goes_on : (m changed : Mailbox) → GoesOn m changed → GoesOn m (if_fit m changed)
fit_goes_on m changed is = fit_goes_on_by m changed is (fit changed.extensions)

-- ---- a known extension

grown_by : (all size added n : ℕ) → all ≡ size + added → added ≡ n - size → all ≡ max size n
grown_by all size added n e f = omega arith

grown_length : (n : ℕ) (bytes : List ℕ) → length (grown_to n bytes) ≡ max (length bytes) n
grown_length n bytes =
    let zeros : List ℕ = replicate (n - length bytes) 0 in
    let added : length (bytes ++ zeros) ≡ length bytes + length zeros = length-append bytes zeros in
    let many : length zeros ≡ n - length bytes = length-replicate (n - length bytes) 0 in
    grown_by (length (bytes ++ zeros)) (length bytes) (length zeros) n added many

module _ (m : Mailbox) (k : ℕ) (e : Extension) (intro : Intro) where
  abbrev grown : Mailbox
  grown = with_table m (with_item k (grown_to intro.record_size)) (with_item k (grown_extension intro) m.extensions) (Some (record { extension = k; size = intro.record_size }))

  grown_sizes : (parts : List (List ℕ)) → map length parts ≡ map (λ e. e.record_size) m.extensions
      → map length (with_item k (grown_to intro.record_size) parts) ≡ map (λ e. e.record_size) (with_item k (grown_extension intro) m.extensions)
  grown_sizes parts same =
      map_with_item length (grown_to intro.record_size) (λ n. max n intro.record_size) (grown_length intro.record_size) k parts
      ∙ ap (with_item k (λ n. max n intro.record_size)) same
      ∙ sym (map_with_item (λ (x : Extension). x.record_size) (grown_extension intro) (λ n. max n intro.record_size) (λ x. refl) k m.extensions)

  grown_valid : IsValid m → slice_get m.extensions k ≡ Some e → fit grown.extensions ≡ true → IsValid grown
  grown_valid valid at fits =
      table_valid m (with_item k (grown_to intro.record_size)) (with_item k (grown_extension intro) m.extensions) (Some (record { extension = k; size = intro.record_size })) grown_sizes
      (named_alike m.extensions (with_item k (grown_extension intro) m.extensions) valid.extensions (sym (map_kept (λ (x : Extension). x.name) (grown_extension intro) (λ x. refl) k m.extensions)) (fit_says (with_item k (grown_extension intro) m.extensions) fits))
      (item_at (λ x. Unit {0}) (λ (x : Extension). intro.record_size ≤ x.record_size) (grown_extension intro) (λ x is. omega arith) k m.extensions (some_and (λ x. Unit {0}) (slice_get m.extensions k) e at tt))
      valid

  known_by : IsValid m → slice_get m.extensions k ≡ Some e → (b : Bool) → IsValid (cond b (if_fit m grown) (without_current m))
  known_by valid at true = fit_valid m grown valid (grown_valid valid at)
  known_by valid at false = no_current_valid m valid

  known_goes_on_by : (b : Bool) → GoesOn m (cond b (if_fit m grown) (without_current m))
  known_goes_on_by true = fit_goes_on m grown (table_goes_on m (with_item k (grown_to intro.record_size)) (with_item k (grown_extension intro) m.extensions) (Some (record { extension = k; size = intro.record_size })))
  known_goes_on_by false = no_current_goes_on m

  known_valid : IsValid m → slice_get m.extensions k ≡ Some e → IsValid (reintroduced m k e intro)
  known_valid valid at = known_by valid at (nat_eq e.reset_id intro.reset_id)

  known_goes_on : GoesOn m (reintroduced m k e intro)
  known_goes_on = known_goes_on_by (nat_eq e.reset_id intro.reset_id)

-- ---- a new extension

-- what the test of a new extension says
pub record IsNew (intro : Intro) : Type 0 where
  pub by_name : intro.ext_id ≡ no_id
  pub name : IsExtensionName intro.name

new_says : (intro : Intro) → may_be_added intro ≡ true → IsNew intro
new_says intro e =
    let last = and_parts (nat_eq intro.ext_id no_id && nat_le 1 (length intro.name) && nat_le (length intro.name) 255) (not (bytes_eq intro.name (codes "keywords"))) e in
    let middle = and_parts (nat_eq intro.ext_id no_id && nat_le 1 (length intro.name)) (nat_le (length intro.name) 255) last.0 in
    let first = and_parts (nat_eq intro.ext_id no_id) (nat_le 1 (length intro.name)) middle.0 in
    record {
      by_name = eqb-true intro.ext_id no_id first.0;
      name = (at_most 1 (length intro.name) first.1, at_most (length intro.name) 255 middle.1, other_by (bytes_eq intro.name (codes "keywords")) (bytes_eq-Decides intro.name (codes "keywords")).1 last.1);
    }
  where
    other_by : (b : Bool) → (intro.name ≡ codes "keywords" → b ≡ true) → not b ≡ true → intro.name ≢ codes "keywords"
    other_by true says e same = absurd cc
    other_by false says e same = let found : false ≡ true = says same in absurd cc

other_name : (es : List Extension) (name : List ℕ) → position (λ e. bytes_eq e.name name) es ≡ None → (k : ℕ) (d : Extension) → k < length es → (get_or es k d).name ≢ name
other_name es name none k d h same =
    let fails : bytes_eq (get_or es k d).name name ≡ false = none_passes (λ (e : Extension). bytes_eq e.name name) es none k d h in
    let passes : bytes_eq (get_or es k d).name name ≡ true = (bytes_eq-Decides (get_or es k d).name name).1 same in
    absurd cc

none_by_name : (es : List Extension) (intro : Intro) → introduced es intro ≡ None → intro.ext_id ≡ no_id → position (λ e. bytes_eq e.name intro.name) es ≡ None
none_by_name es intro none by_name = name_by (nat_eq intro.ext_id no_id) (grind (arith, nat_tests)) none
  where
    name_by : (b : Bool) → b ≡ true → cond b (position (λ e. bytes_eq e.name intro.name) es) (cond (nat_lt intro.ext_id (length es)) (Some intro.ext_id) None) ≡ None → position (λ e. bytes_eq e.name intro.name) es ≡ None
    name_by true e is = is
    name_by false e is = absurd cc

module _ (m : Mailbox) (intro : Intro) where
  abbrev added : Mailbox
  added = with_table m (λ parts. parts ++ replicate intro.record_size 0 ∷ []) (m.extensions ++ new_extension intro ∷ []) (Some (record { extension = length m.extensions; size = intro.record_size }))

  added_sizes : (parts : List (List ℕ)) → map length parts ≡ map (λ e. e.record_size) m.extensions
      → map length (parts ++ replicate intro.record_size 0 ∷ []) ≡ map (λ e. e.record_size) (m.extensions ++ new_extension intro ∷ [])
  added_sizes parts same =
      map_push length parts (replicate intro.record_size 0)
      ∙ ap (λ n. map length parts ++ n ∷ []) (length-replicate intro.record_size 0)
      ∙ ap (λ ns. ns ++ intro.record_size ∷ []) same
      ∙ sym (map_push (λ (x : Extension). x.record_size) m.extensions (new_extension intro))

  added_valid : IsValid m → introduced m.extensions intro ≡ None → IsNew intro → fit added.extensions ≡ true → IsValid added
  added_valid valid none new fits =
      let es : List Extension = m.extensions ++ new_extension intro ∷ [] in
      let within : AreFit es = fit_says es fits in
      let at : slice_get es (length m.extensions) ≡ Some (new_extension intro) =
      slice_get-get_or es (length m.extensions) (new_extension intro) (omega (arith, length-append m.extensions (new_extension intro ∷ [])))
      ∙ ap Some (get_or_push m.extensions (new_extension intro) (new_extension intro) (length m.extensions) refl) in
      table_valid m (λ parts. parts ++ replicate intro.record_size 0 ∷ []) es (Some (record { extension = length m.extensions; size = intro.record_size })) added_sizes
      (record {
        count = within.count;
        record_sizes = within.record_sizes;
        headers = within.headers;
        names = All-push (λ (e : Extension). IsExtensionName e.name) m.extensions (new_extension intro) valid.extensions.names new.name;
        distinct = all_pairs_push (λ (a b : Extension). a.name ≢ b.name) m.extensions (new_extension intro) valid.extensions.distinct (other_name m.extensions intro.name (none_by_name m.extensions intro none new.by_name));
      })
      (some_and (λ (x : Extension). intro.record_size ≤ x.record_size) (slice_get es (length m.extensions)) (new_extension intro) at (omega arith))
      valid

  new_by : IsValid m → introduced m.extensions intro ≡ None → (b : Bool) → may_be_added intro ≡ b → IsValid (cond b (added_extension m intro) (without_current m))
  new_by valid none true e = fit_valid m added valid (added_valid valid none (new_says intro e))
  new_by valid none false e = no_current_valid m valid

  new_goes_on_by : (b : Bool) → GoesOn m (cond b (added_extension m intro) (without_current m))
  new_goes_on_by true = fit_goes_on m added (table_goes_on m (λ parts. parts ++ replicate intro.record_size 0 ∷ []) (m.extensions ++ new_extension intro ∷ []) (Some (record { extension = length m.extensions; size = intro.record_size })))
  new_goes_on_by false = no_current_goes_on m

-- ---- an introduction

placed_valid : (m : Mailbox) (intro : Intro) (k : ℕ) → introduced m.extensions intro ≡ Some k → IsValid m → (o : Option Extension) → slice_get m.extensions k ≡ o → IsValid (with_intro m intro)
placed_valid m intro k place valid None at = rw (place, at) (no_current_valid m valid)
placed_valid m intro k place valid (Some e) at = rw (place, at) (known_valid m k e intro valid at)

intro_by : (m : Mailbox) (intro : Intro) → IsValid m → (o : Option ℕ) → introduced m.extensions intro ≡ o → IsValid (with_intro m intro)
intro_by m intro valid None place = rw place (new_by m intro valid place (may_be_added intro) refl)
intro_by m intro valid (Some k) place = placed_valid m intro k place valid (slice_get m.extensions k) refl

pub intro_valid : (m : Mailbox) (intro : Intro) → IsValid m → IsValid (with_intro m intro)
intro_valid m intro valid = intro_by m intro valid (introduced m.extensions intro) refl

placed_goes_on : (m : Mailbox) (intro : Intro) (k : ℕ) → introduced m.extensions intro ≡ Some k → (o : Option Extension) → slice_get m.extensions k ≡ o → GoesOn m (with_intro m intro)
placed_goes_on m intro k place None at = rw (place, at) (no_current_goes_on m)
placed_goes_on m intro k place (Some e) at = rw (place, at) (known_goes_on m k e intro)

intro_goes_on_by : (m : Mailbox) (intro : Intro) → (o : Option ℕ) → introduced m.extensions intro ≡ o → GoesOn m (with_intro m intro)
intro_goes_on_by m intro None place = rw place (new_goes_on_by m intro (may_be_added intro))
intro_goes_on_by m intro (Some k) place = placed_goes_on m intro k place (slice_get m.extensions k) refl

pub intro_goes_on : (m : Mailbox) (intro : Intro) → GoesOn m (with_intro m intro)
intro_goes_on m intro = intro_goes_on_by m intro (introduced m.extensions intro) refl

pub intros_valid : (m : Mailbox) (intros : List Intro) → IsValid m → IsValid (fold with_intro m intros)
intros_valid m intros valid = fold_keeps_any IsValid with_intro intro_valid m intros valid

pub intros_go_on : (m : Mailbox) (intros : List Intro) → GoesOn m (fold with_intro m intros)
intros_go_on m intros =
    fold_keeps_any (GoesOn m) with_intro (λ n intro is. goes_on_again m n (with_intro n intro) is (intro_goes_on n intro)) m intros (goes_on_same m m (omega arith) refl refl refl)
