-- What is asked of a message describes it.
use Rattle.std.proofs.Common.{◌≡◌, ℕ, Bool, true, false, cond, ◌||◌, List, [], ◌∷◌, Option, Some, None, refl, sym, ◌∙◌, ap}
use Rattle.std.specs.Prelude.{bytes_eq, find}
use Rattle.std.specs.Option.{option_map}
use Rattle.std.proofs.lemmas.Bool.{false≢true}
use Rattle.std.proofs.lemmas.Slice.Eq.{bytes_eq-Decides}
use Rattle.dv_model.specs.declared.types.Command.{Command}
use Rattle.dv_model.specs.declared.types.Command.TheVariants as command
use Rattle.dv_model.specs.Fields.{field_of}
use Rattle.dv_search.specs.Facts.{known_field}
use Rattle.dv_responses.specs.declared.asking.Asked.{Asked}
use Rattle.dv_responses.specs.Asked.{Asks, has_name}
use Rattle.dv_responses.specs.Supplied.{DescribesAsked, facts_from, values_of}

-- a field that is asked by name is known
known_named : (message : List ℕ) (names : List (List ℕ)) (name : List ℕ) → has_name names name ≡ true → known_field (values_of message names) name ≡ Some (field_of message name)
known_named message [] name has = absurd (false≢true has)
known_named message (n ∷ names) name has = by_test (bytes_eq n name) refl has (known_named message names name)
  where
    rest : Option (List ℕ × Option (List ℕ))
    rest = find (λ f. bytes_eq f.0 name) (values_of message names)

    by_test : (b : Bool) → bytes_eq n name ≡ b → (bytes_eq n name || has_name names name) ≡ true → (has_name names name ≡ true → known_field (values_of message names) name ≡ Some (field_of message name))
        → known_field (values_of message (n ∷ names)) name ≡ Some (field_of message name)
    by_test true is has later =
        ap (λ (b : Bool). option_map (λ (f : List ℕ × Option (List ℕ)). f.1) (cond b (Some (n, field_of message n)) rest)) is
        ∙ ap (λ (t : List ℕ). Some (field_of message t)) ((bytes_eq-Decides n name).0 is)
    by_test false is has later =
        ap (λ (b : Bool). option_map (λ (f : List ℕ × Option (List ℕ)). f.1) (cond b (Some (n, field_of message n)) rest)) is
        ∙ later (ap (λ (b : Bool). b || has_name names name) (sym is) ∙ has)

-- what is asked of a message describes it
pub describes : (c : Command) (asked : Asked) (uid : ℕ) (message : List ℕ) → Asks c asked → DescribesAsked c message (facts_from asked uid message)
describes (command.Fetch by_uid set items) asked uid message asks = record {
  size = λ has. refl;
  body = λ has. ap (λ b. cond b (Some message) None) (ap (λ (a : Asked). a.body) asks ∙ has);
  fields = ap (λ (a : Asked). values_of message a.fields) asks;
}
describes (command.Search by_uid key) asked uid message asks = record {
  size = refl;
  fields = λ name has. known_named message asked.fields name (asks.fields name ∙ has);
}
describes c asked uid message asks = tt
