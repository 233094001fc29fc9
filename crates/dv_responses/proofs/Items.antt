-- What the items of a FETCH ask stands among a message's facts.
use Rattle.std.proofs.Common.{◌≡◌, ℕ, zero, suc, ◌+◌, ◌<◌, Bool, true, false, ◌||◌, List, [], ◌∷◌, ◌++◌, length, get_or, take, map, Some, refl, sym, ◌∙◌, ap, arith}
use Rattle.std.specs.Prelude.{slice_get, option_map}
use Rattle.std.specs.List.{list_any}
use Rattle.std.proofs.lemmas.Bool.{false≢true}
use Rattle.std.proofs.lemmas.Grind.{flat_map-append}
use Rattle.std.proofs.lemmas.List.{append-nil, length-append, map-append, take_more}
use Rattle.std.proofs.lemmas.List.Folds.{list_any_at}
use Rattle.std.proofs.lemmas.Option.{slice_get-map}
use Rattle.dv_model.specs.declared.types.Item.{Item}
use Rattle.dv_model.specs.declared.types.Item.TheVariants as item
use Rattle.dv_model.specs.Fields.{field_of}
use Rattle.dv_model.specs.Sessions.{reads_message}
use Rattle.dv_search.specs.declared.facts.MailFacts.{MailFacts}
use Rattle.dv_responses.specs.Asked.{field_names, is_body, is_size, names_in}
use Rattle.dv_responses.specs.Fetched.{HasValue, no_facts}
use Rattle.dv_responses.specs.Supplied.{DescribesItems, values_of}

-- ---- names

none_before : (names : List (List ℕ)) (k : ℕ) → slice_get names (0 + k) ≡ slice_get names k
none_before names k = let all : 0 + k ≡ k = omega arith in ap (slice_get names) all

skip : (x : Item) (names : List (List ℕ)) (k : ℕ) → slice_get (names_in x ++ names) (length (names_in x) + k) ≡ slice_get names k
skip item.Flags names k = none_before names k
skip item.Size names k = none_before names k
skip item.Body names k = none_before names k
skip (item.Field name) names k = let behind : 1 + k ≡ suc k = omega arith in ap (slice_get (name ∷ names)) behind
skip item.Modseq names k = none_before names k

-- the name of a field stands behind those of the items before it
named_here : (items : List Item) (i : ℕ) (name : List ℕ) (d : Item) → i < length items → get_or items i d ≡ item.Field name
    → slice_get (field_names items) (length (field_names (take i items))) ≡ Some name
named_here [] i name d less is = absurd (omega (arith, less))
named_here (x ∷ items) zero name d less is = ap (λ (y : Item). slice_get (names_in y ++ field_names items) 0) is
named_here (x ∷ items) (suc i) name d less is =
    ap (slice_get (names_in x ++ field_names items)) (length-append (names_in x) (field_names (take i items))) ∙ skip x (field_names items) (length (field_names (take i items))) ∙ named_here items i name d (omega (arith, less)) is

-- one item more
pub names_more : (items : List Item) (i : ℕ) (x : Item) → i < length items → x ≡ get_or items i x
    → field_names (take (i + 1) items) ≡ field_names (take i items) ++ names_in x
names_more items i x less is =
    ap field_names (take_more items i x less ∙ ap (λ (y : Item). take i items ++ y ∷ []) (sym is)) ∙ flat_map-append names_in (take i items) (x ∷ []) ∙ ap (λ t. field_names (take i items) ++ t) (append-nil (names_in x))

-- ---- values

module _ (items : List Item) (message : List ℕ) (facts : MailFacts) (are : DescribesItems items message facts) where
  -- the facts have the value of each item
  pub has_value : (i : ℕ) (x : Item) → i < length items → x ≡ get_or items i x → HasValue message facts (length (field_names (take i items))) x
  has_value i item.Flags less is = tt
  has_value i item.Size less is = are.size (list_any_at is_size items i item.Size less (ap is_size (sym is)))
  has_value i item.Body less is = are.body (list_any_at is_body items i item.Body less (ap is_body (sym is)))
  has_value i (item.Field name) less is =
      ap (λ fs. slice_get fs (length (field_names (take i items)))) are.fields ∙ slice_get-map (λ (n : List ℕ). (n, field_of message n)) (field_names items) (length (field_names (take i items))) ∙ ap (option_map (λ (n : List ℕ). (n, field_of message n))) (named_here items i name (item.Field name) less (sym is))
  has_value i item.Modseq less is = tt

-- ---- items that read no message

or_true : (b : Bool) → (b || true) ≡ true
or_true true = refl
or_true false = refl

reads_by : (b reads : Bool) (any all : Bool) → (b ≡ true → reads ≡ true) → (any ≡ true → all ≡ true) → (b || any) ≡ true → (reads || all) ≡ true
reads_by true reads any all here rest e = ap (λ b. b || all) (here refl)
reads_by false reads any all here rest e = ap (λ b. reads || b) (rest e) ∙ or_true reads

any_reads : (p : Item → Bool) → ((x : Item) → p x ≡ true → reads_message x ≡ true) → (items : List Item) → list_any p items ≡ true → list_any reads_message items ≡ true
any_reads p reads [] e = absurd (false≢true e)
any_reads p reads (x ∷ items) e = reads_by (p x) (reads_message x) (list_any p items) (list_any reads_message items) (reads x) (any_reads p reads items) e

body_reads : (x : Item) → is_body x ≡ true → reads_message x ≡ true
body_reads item.Body e = refl
body_reads item.Flags e = absurd (false≢true e)
body_reads item.Size e = refl
body_reads (item.Field name) e = refl
body_reads item.Modseq e = absurd (false≢true e)

no_names : (items : List Item) → list_any reads_message items ≡ false → field_names items ≡ []
no_names [] none = refl
no_names (item.Flags ∷ items) none = no_names items none
no_names (item.Size ∷ items) none = absurd (false≢true (sym none))
no_names (item.Body ∷ items) none = absurd (false≢true (sym none))
no_names (item.Field name ∷ items) none = absurd (false≢true (sym none))
no_names (item.Modseq ∷ items) none = no_names items none

-- nothing is asked of the message
pub nothing_read : (items : List Item) → list_any reads_message items ≡ false → DescribesItems items [] no_facts
nothing_read items none = record {
  size = λ asked. refl;
  body = λ asked. absurd (false≢true (sym none ∙ any_reads is_body body_reads items asked));
  fields = sym (ap (values_of []) (no_names items none));
}

-- ---- asked facts

-- one item's value more
pub values_more : {X Y : Type 0} (f : X → Y) (xs : List X) (i : ℕ) (x : X) → i < length xs → x ≡ get_or xs i x → map f (take (i + 1) xs) ≡ map f (take i xs) ++ f x ∷ []
values_more f xs i x less is = ap (map f) (take_more xs i x less ∙ ap (λ y. take i xs ++ y ∷ []) (sym is)) ∙ map-append f (take i xs) (x ∷ [])
