-- A field that is asked by name is known.
use Rattle.std.proofs.Common.{◌≡◌, ℕ, Bool, true, false, cond, ◌||◌, List, [], ◌∷◌, Option, Some, None, refl, ◌∙◌, ap}
use Rattle.std.specs.Prelude.{bytes_eq, find}
use Rattle.std.specs.Option.{option_map}
use Rattle.std.proofs.lemmas.Bool.{false≢true}
use Rattle.std.proofs.lemmas.Slice.Eq.{bytes_eq-Decides}
use Rattle.dv_model.specs.declared.types.Command.{Command}
use Rattle.dv_model.specs.declared.types.Command.TheVariants as command
use Rattle.dv_model.specs.Fields.{field_of, virtual_size}
use Rattle.dv_search.specs.Facts.{known_field}
use Rattle.dv_responses.specs.Asked.{Asks, has_name}
use Rattle.dv_responses.specs.declared.asking.Asked.{Asked}
use Rattle.dv_responses.specs.Supplied.{DescribesAsked, facts_from, values_of}

-- the field of this name, where the first one that is asked has it, or else among the others
named_by : (message n name : List ℕ) (rest : Option (List ℕ × Option (List ℕ))) (b others : Bool) → bytes_eq n name ≡ b
    → (others ≡ true → option_map (λ (f : List ℕ × Option (List ℕ)). f.1) rest ≡ Some (field_of message name)) → (b || others) ≡ true
    → option_map (λ (f : List ℕ × Option (List ℕ)). f.1) (cond b (Some (n, field_of message n)) rest) ≡ Some (field_of message name)
named_by message n name rest true others is known has = ap (λ (t : List ℕ). Some (field_of message t)) ((bytes_eq-Decides n name).0 is)
named_by message n name rest false others is known has = known has

pub known_named : (message : List ℕ) (names : List (List ℕ)) (name : List ℕ) → has_name names name ≡ true → known_field (values_of message names) name ≡ Some (field_of message name)
known_named message [] name has = absurd (false≢true has)
known_named message (n ∷ names) name has =
    named_by message n name (find (λ f. bytes_eq f.0 name) (values_of message names)) (bytes_eq n name) (has_name names name) refl (known_named message names name) has

-- the facts of a message describe it, as far as they are asked
pub describes : (c : Command) (asked : Asked) (uid : ℕ) (message : List ℕ) → Asks c asked → DescribesAsked c message (facts_from asked uid message)
describes command.Select asked uid message asks = tt
describes command.Noop asked uid message asks = tt
describes command.Check asked uid message asks = tt
describes command.Expunge asked uid message asks = tt
describes (command.Append flags keywords text) asked uid message asks = tt
describes (command.Fetch by_uid set items) asked uid message asks = record {
  size = λ has. refl;
  body = λ has. ap (λ b. cond b (Some message) None) (ap (λ (a : Asked). a.body) asks ∙ has);
  fields = ap (λ (a : Asked). values_of message a.fields) asks;
}
describes (command.Store by_uid set how flags keywords since) asked uid message asks = tt
describes (command.Search by_uid key) asked uid message asks = record {
  size = refl;
  fields = λ name has. known_named message asked.fields name (asks.fields name ∙ has);
}
describes (command.UidRemove set) asked uid message asks = tt

-- facts from their parts
pub facts_are : (asked : Asked) (uid size : ℕ) (message : List ℕ) (body : Option (List ℕ)) (fields : List (List ℕ × Option (List ℕ)))
    → size ≡ virtual_size message → body ≡ cond asked.body (Some message) None → fields ≡ values_of message asked.fields
    → record { uid = uid; size = size; body = body; fields = fields } ≡ facts_from asked uid message
facts_are asked uid size message body fields counted bytes values = rw (counted, bytes, values) refl
