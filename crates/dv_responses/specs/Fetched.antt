-- The values of a FETCH, item by item (RFC 3501, section 7.4.2).
use Rattle.std.specs.Prelude.{◌≡◌, ℕ, true, List, [], ◌∷◌, All, Option, Some, None, slice_get}
use Rattle.std.specs.List.{list_any}
use Rattle.dv_model.specs.declared.types.Item.{Item}
use Rattle.dv_model.specs.declared.types.Item.TheVariants as item
use Rattle.dv_model.specs.declared.types.Mailbox.{Mailbox}
use Rattle.dv_model.specs.declared.types.Reply.{Reply}
use Rattle.dv_model.specs.declared.types.Shown.{Shown}
use Rattle.dv_model.specs.Fields.{field_of, virtual_size}
use Rattle.dv_model.specs.Journals.{Mail}
use Rattle.dv_model.specs.Sessions.{fetch_line, message_in, reads_message}
use Rattle.dv_search.specs.declared.facts.MailFacts.{MailFacts}
use Rattle.dv_search.specs.Facts.{facts_of}
use Rattle.dv_responses.specs.Supplied.{DescribesItems, Supplies}

-- the facts have what the item asks of the message; so many fields stand before its own
abbrev pub HasValue : List ℕ → MailFacts → ℕ → Item → Type 0
HasValue message facts field item.Size = facts.size ≡ virtual_size message
HasValue message facts field item.Body = facts.body ≡ Some message
HasValue message facts field (item.Field name) = slice_get facts.fields field ≡ Some (name, field_of message name)
HasValue message facts field i = Unit {0}

-- the line of a row, where its message is there
abbrev pub lines_from : Mailbox → List Item → ℕ × Shown → Option (List ℕ) → List Reply
lines_from m items row None = []
lines_from m items row (Some message) = fetch_line m items row message ∷ []

-- facts of nothing
abbrev pub no_facts : MailFacts
no_facts = record { uid = 0; size = 0; body = None; fields = [] }

-- the messages of the rows are known, where the items read messages
abbrev pub AreFetched : (ℕ → Mail) → Mailbox → List Item → List MailFacts → List (ℕ × Shown) → Type 0
AreFetched mail m items facts rows =
    list_any reads_message items ≡ true → All (λ row. Supplies (DescribesItems items) (message_in mail m row.1.uid) (facts_of facts row.1.uid)) rows
