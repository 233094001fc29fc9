-- The facts of messages that a command is answered from.
use Rattle.std.specs.Prelude.{◌≡◌, ℕ, true, List, map, All, Option, Some, None, if◌then◌else◌}
use Rattle.std.specs.List.{list_any}
use Rattle.dv_model.specs.declared.types.Command.{Command}
use Rattle.dv_model.specs.declared.types.Command.TheVariants as command
use Rattle.dv_model.specs.declared.types.Item.{Item}
use Rattle.dv_model.specs.declared.types.Mailbox.{Mailbox}
use Rattle.dv_model.specs.Fields.{field_of, virtual_size}
use Rattle.dv_model.specs.Journals.{Mail}
use Rattle.dv_model.specs.Sessions.{message_in, reads_mail, uids_looked_at}
use Rattle.dv_model.specs.Views.{View}
use Rattle.dv_search.specs.declared.facts.MailFacts.{MailFacts}
use Rattle.dv_search.specs.Facts.{Describes, facts_of}
use Rattle.dv_responses.specs.Asked.{field_names, is_body, is_size}
use Rattle.dv_responses.specs.declared.asking.Asked.{Asked}

-- the value of each of these fields
abbrev pub values_of : List ℕ → List (List ℕ) → List (List ℕ × Option (List ℕ))
values_of message names = map (λ name. (name, field_of message name)) names

-- the facts of a message, as far as they are asked
abbrev pub facts_from : Asked → ℕ → List ℕ → MailFacts
facts_from asked uid message = record {
  uid = uid;
  size = virtual_size message;
  body = if asked.body then Some message else None;
  fields = values_of message asked.fields;
}

-- the facts are the message's, as far as the items ask
pub record DescribesItems (items : List Item) (message : List ℕ) (facts : MailFacts) : Type 0 where
  pub size : list_any is_size items ≡ true → facts.size ≡ virtual_size message
  pub body : list_any is_body items ≡ true → facts.body ≡ Some message
  pub fields : facts.fields ≡ values_of message (field_names items)

-- the facts are the message's, as far as the command asks
abbrev pub DescribesAsked : Command → List ℕ → MailFacts → Type 0
DescribesAsked (command.Fetch by_uid set items) message facts = DescribesItems items message facts
DescribesAsked (command.Search by_uid key) message facts = Describes key message facts
DescribesAsked c message facts = Unit {0}

-- a message that is there has facts that describe it, and one that isn't has none
abbrev pub Supplies : (List ℕ → MailFacts → Type 0) → Option (List ℕ) → Option MailFacts → Type 0
Supplies describes None None = Unit {0}
Supplies describes (Some message) (Some facts) = describes message facts
Supplies describes message facts = ⊥

-- so it is for each message that the command reads: those that the mailbox lacks, and those whose files are missing or
-- damaged, have no facts
abbrev pub AreSupplied : (ℕ → Mail) → Command → View → Mailbox → List MailFacts → Type 0
AreSupplied mail c view m facts =
    reads_mail c ≡ true → All (λ uid. Supplies (DescribesAsked c) (message_in mail m uid) (facts_of facts uid)) (uids_looked_at c view)
