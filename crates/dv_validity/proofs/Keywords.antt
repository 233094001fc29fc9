-- What updates and resets of keywords leave.
use Rattle.std.proofs.Common.{◌≡◌, ◌≢◌, ℕ, ◌<◌, ◌≤◌, Bool, true, false, cond, List, [], ◌∷◌, ◌++◌, length, get_or, Option, Some, None, refl, sym, arith}
use Rattle.std.specs.Prelude.{All, AllPairs, bytes_eq}
use Rattle.std.specs.List.{list_any}
use Rattle.std.specs.List.Sorted.{IsStrictlyIncreasing}
use Rattle.std.proofs.lemmas.List.{append-nil, length_push}
use Rattle.std.proofs.lemmas.List.Elements.{All-nil, All-push}
use Rattle.std.proofs.lemmas.List.Folds.{list_any_at}
use Rattle.std.proofs.lemmas.List.Quantifiers.{all_pairs_push, position-Some}
use Rattle.std.proofs.lemmas.Slice.Eq.{bytes_eq-Decides}
use Rattle.dv_model.specs.declared.types.How.{How}
use Rattle.dv_model.specs.declared.types.How.TheVariants.{Add, Remove, Replace}
use Rattle.dv_model.specs.declared.types.Mailbox.{Mailbox}
use Rattle.dv_model.specs.declared.types.Pair.{Pair}
use Rattle.dv_model.specs.Effects.{is_in_pairs, keywords_after, place_of, with_keyword, with_keywords, with_name, with_named}
use Rattle.dv_model.specs.Mailboxes.{IsValid}
use Rattle.dv_model.specs.Names.{IsName}
use Rattle.dv_validity.proofs.Flags.{changed_goes_on, changed_valid}
use Rattle.dv_validity.proofs.Places.{after_all, after_rises}
use Rattle.dv_validity.proofs.Rows.{IsWider, GoesOn, goes_on_again, goes_on_named, goes_on_same, rows_in}
use Rattle.dv_validity.specs.Laws.{GrowsTo}

-- ---- the table

-- distinct names, each of which may be a keyword's
pub record AreNames (names : List (List ℕ)) : Type 0 where
  pub each : All IsName names
  pub distinct : AllPairs (λ a b. a ≢ b) names

other_name : (name : List ℕ) (names : List (List ℕ)) → list_any (bytes_eq name) names ≡ false → (k : ℕ) (d : List ℕ) → k < length names → get_or names k d ≢ name
other_name name names none k d h e =
    let found : list_any (bytes_eq name) names ≡ true = list_any_at (bytes_eq name) names k d h ((bytes_eq-Decides name (get_or names k d)).1 (sym e)) in
    absurd cc

names_by : (name : List ℕ) (names : List (List ℕ)) → IsName name → AreNames names → (b : Bool) → list_any (bytes_eq name) names ≡ b → AreNames (cond b names (names ++ name ∷ []))
names_by name names is are true e = are
names_by name names is are false e = record {
  each = All-push IsName names name are.each is;
  distinct = all_pairs_push (λ a b. a ≢ b) names name are.distinct (other_name name names e);
}

longer_by : (name : List ℕ) (names : List (List ℕ)) (b : Bool) → length names ≤ length (cond b names (names ++ name ∷ []))
longer_by name names true = omega arith
longer_by name names false = omega (arith, length_push names name)

name_added : (m : Mailbox) (name : List ℕ) → IsName name → IsValid m → IsValid (record m { keywords = with_name name m.keywords })
name_added m name is valid =
    let n : Mailbox = record m { keywords = with_name name m.keywords } in
    let longer : length m.keywords ≤ length (with_name name m.keywords) = longer_by name m.keywords (list_any (bytes_eq name) m.keywords) in
    let wider : IsWider m n = record { next_uid = omega arith; keywords = longer; highest = omega arith } in
    let names : AreNames (with_name name m.keywords) = names_by name m.keywords is (record { each = valid.names.0; distinct = valid.names.1 }) (list_any (bytes_eq name) m.keywords) refl in
    record {
      next_uid = valid.next_uid;
      rising = valid.rising;
      rows = rows_in m n m.rows wider refl valid.rows;
      names = (names.each, names.distinct);
      extensions = valid.extensions;
      current = valid.current;
      highest = valid.highest;
    }

named_valid : (m : Mailbox) (how : How) (name : List ℕ) → IsName name → IsValid m → IsValid (with_named how name m)
named_valid m Add name is valid = name_added m name is valid
named_valid m Remove name is valid = valid
named_valid m Replace name is valid = name_added m name is valid

more_by : (name : List ℕ) (names : List (List ℕ)) (b : Bool) → GrowsTo names (cond b names (names ++ name ∷ []))
more_by name names true = ([], sym (append-nil names))
more_by name names false = (name ∷ [], refl)

name_more : (name : List ℕ) (names : List (List ℕ)) → GrowsTo names (with_name name names)
name_more name names = more_by name names (list_any (bytes_eq name) names)

named_goes_on : (m : Mailbox) (how : How) (name : List ℕ) → GoesOn m (with_named how name m)
named_goes_on m Add name = goes_on_named m (with_named Add name m) (name_more name m.keywords) refl refl refl
named_goes_on m Remove name = goes_on_same m m (omega arith) refl refl refl
named_goes_on m Replace name = goes_on_named m (with_named Replace name m) (name_more name m.keywords) refl refl refl

-- ---- the rows

places_valid : (m : Mailbox) (how : How) (k : ℕ) (pairs : List Pair) → k < length m.keywords → IsValid m → IsValid (with_keywords pairs (keywords_after how k) m)
places_valid m how k pairs h valid =
    changed_valid m (is_in_pairs pairs) (λ row. record row { keywords = keywords_after how k row.keywords }) (λ row. refl)
    (λ row is. record {
      uid = is.uid;
      keywords = (after_rises how k row.keywords is.keywords.0, after_all (λ p. p < length m.keywords) how k row.keywords h is.keywords.1);
      parts = is.parts;
      modseq = is.modseq;
    })
    valid

keywords_go_on : (m : Mailbox) (pairs : List Pair) (change : List ℕ → List ℕ) → GoesOn m (with_keywords pairs change m)
keywords_go_on m pairs change = changed_goes_on m (is_in_pairs pairs) (λ row. record row { keywords = change row.keywords }) (λ row. refl) (λ row. refl)

placed_valid : (m : Mailbox) (how : How) (name : List ℕ) (pairs : List Pair) → IsValid m → (o : Option ℕ) → place_of m.keywords name ≡ o → IsValid (with_keyword how name pairs m)
placed_valid m how name pairs valid None e = rw e valid
placed_valid m how name pairs valid (Some k) e = rw e (places_valid m how k pairs (position-Some (bytes_eq name) m.keywords k [] e).0 valid)

placed_goes_on : (m : Mailbox) (how : How) (name : List ℕ) (pairs : List Pair) (o : Option ℕ) → place_of m.keywords name ≡ o → GoesOn m (with_keyword how name pairs m)
placed_goes_on m how name pairs None e = rw e (goes_on_same m m (omega arith) refl refl refl)
placed_goes_on m how name pairs (Some k) e = rw e (keywords_go_on m pairs (keywords_after how k))

-- ---- the records

pub keyword_valid : (m : Mailbox) (how : How) (name : List ℕ) (pairs : List Pair) → IsName name → IsValid m → IsValid (with_keyword how name pairs (with_named how name m))
keyword_valid m how name pairs is valid =
    let n : Mailbox = with_named how name m in placed_valid n how name pairs (named_valid m how name is valid) (place_of n.keywords name) refl

pub keyword_goes_on : (m : Mailbox) (how : How) (name : List ℕ) (pairs : List Pair) → GoesOn m (with_keyword how name pairs (with_named how name m))
keyword_goes_on m how name pairs =
    let n : Mailbox = with_named how name m in
    goes_on_again m n (with_keyword how name pairs n) (named_goes_on m how name) (placed_goes_on n how name pairs (place_of n.keywords name) refl)

none_rises : IsStrictlyIncreasing []
none_rises k h = absurd (omega arith)

pub reset_valid : (m : Mailbox) (pairs : List Pair) → IsValid m → IsValid (with_keywords pairs (λ places. []) m)
reset_valid m pairs valid =
    changed_valid m (is_in_pairs pairs) (λ row. record row { keywords = [] }) (λ row. refl)
    (λ row is. record { uid = is.uid; keywords = (none_rises, All-nil (λ k. k < length m.keywords)); parts = is.parts; modseq = is.modseq })
    valid

pub reset_goes_on : (m : Mailbox) (pairs : List Pair) → GoesOn m (with_keywords pairs (λ places. []) m)
reset_goes_on m pairs = keywords_go_on m pairs (λ places. [])
