-- Room for what is known of messages.
use Rattle.std.specs.Prelude.{ℕ, ◌+◌, List, length, sum_by, Option, Some, None}
use Rattle.dv_search.specs.declared.facts.MailFacts.{MailFacts}
use Rattle.dv_search.specs.Facts.{facts_of}

-- how many bytes are known
abbrev pub known_bytes : Option (List ℕ) → ℕ
known_bytes None = 0
known_bytes (Some b) = length b

-- those of a field and its name, and 32 for what stands around them
abbrev pub field_room : List ℕ × Option (List ℕ) → ℕ
field_room field = length field.0 + known_bytes field.1 + 32

-- those of a message's body and fields
abbrev pub known_room : MailFacts → ℕ
known_room facts = known_bytes facts.body + sum_by field_room facts.fields

-- none of a message of which nothing is known
abbrev pub room_in : Option MailFacts → ℕ
room_in None = 0
room_in (Some facts) = known_room facts

-- those of the messages with these UIDs
abbrev pub data_room : List ℕ → List MailFacts → ℕ
data_room uids facts = sum_by (λ uid. room_in (facts_of facts uid)) uids
