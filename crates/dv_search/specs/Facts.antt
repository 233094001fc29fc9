-- What is known of messages, and the rows that a search finds by that (RFC 3501, section 6.4.4).
use Rattle.std.specs.Prelude.{◌≡◌, ℕ, Bool, true, false, ◌||◌, All, List, [], map, filter, find, Option, Some, None, nat_eq, bytes_eq, slice_get, unwrap_or, if◌then◌else◌}
use Rattle.std.specs.List.{list_any}
use Rattle.std.specs.List.Sorted.{IsStrictlyIncreasing}
use Rattle.std.specs.Option.{option_map}
use Rattle.dv_model.specs.declared.types.Key.{Key}
use Rattle.dv_model.specs.declared.types.Key.TheOpen.{Key-F}
use Rattle.dv_model.specs.declared.types.Key.TheFolds.{fold-Key}
use Rattle.dv_model.specs.declared.types.Mailbox.{Mailbox}
use Rattle.dv_model.specs.declared.types.Shown.{Shown}
use Rattle.dv_model.specs.Fields.{field_of, virtual_size}
use Rattle.dv_model.specs.Searches.{Candidate, meets, needs_mail}
use Rattle.dv_model.specs.Sessions.{candidate}
use Rattle.dv_model.specs.Sets.{numbered}
use Rattle.dv_model.specs.Views.{View}
use Rattle.dv_view.specs.Tells.{names_at}
use Rattle.dv_search.specs.declared.keys.Candidate.{Candidate as Tried}
use Rattle.dv_search.specs.declared.facts.MailFacts.{MailFacts}

-- ---- facts

-- facts stand by rising UIDs
abbrev pub AreRising : List MailFacts → Type 0
AreRising mail = IsStrictlyIncreasing (map (λ f. f.uid) mail)

-- the facts of a UID
abbrev pub facts_of : List MailFacts → ℕ → Option MailFacts
facts_of mail uid = find (λ f. nat_eq f.uid uid) mail

-- the field of this name, where it is known whether the message has it
abbrev pub known_field : List (List ℕ × Option (List ℕ)) → List ℕ → Option (Option (List ℕ))
known_field fields name = option_map (λ f. f.1) (find (λ f. bytes_eq f.0 name) fields)

-- ---- what a key asks

-- one key, with what the keys inside it ask
abbrev pub asks_step : Key-F (List ℕ → Bool) → List ℕ → Bool
asks_step (Key-F.Header asked text) name = bytes_eq asked name
asks_step (Key-F.Not asks) name = asks name
asks_step (Key-F.Or one other) name = one name || other name
asks_step (Key-F.And keys) name = list_any (λ asks. asks name) keys
asks_step key name = false

-- a HEADER of this name stands in the key
abbrev pub asks : Key → List ℕ → Bool
asks = fold-Key (List ℕ → Bool) asks_step

-- the facts are the message's, as far as the key asks
pub record Describes (key : Key) (message : List ℕ) (facts : MailFacts) : Type 0 where
  pub size : facts.size ≡ virtual_size message
  pub fields : (name : List ℕ) → asks key name ≡ true → known_field facts.fields name ≡ Some (field_of message name)

-- a message that is there has its facts, and one that isn't has none
abbrev pub AreFacts : Key → Option (List ℕ) → Option MailFacts → Type 0
AreFacts key None None = Unit {0}
AreFacts key (Some message) (Some facts) = Describes key message facts
AreFacts key message facts = ⊥

-- so it is with a message's facts where the key reads messages at all
abbrev pub AreKnown : Key → Option (List ℕ) → Option MailFacts → Type 0
AreKnown key message facts = needs_mail key ≡ true → AreFacts key message facts

-- so it is for each row
abbrev pub AreAllKnown : Key → (ℕ → Option (List ℕ)) → List MailFacts → List Shown → Type 0
AreAllKnown key message mail rows = All (λ s. AreKnown key (message s.uid) (facts_of mail s.uid)) rows

-- ---- what is found

-- a message is found that meets the key; one that is needed and isn't there is not found
abbrev pub is_found : Key → (List ℕ → Candidate) → Option (List ℕ) → Bool
is_found key candidate message = if needs_mail key then needing message else meets key (candidate [])
  where
    needing : Option (List ℕ) → Bool
    needing None = false
    needing (Some text) = meets key (candidate text)

-- the name stands at this place of a table
abbrev pub has_name : List (List ℕ) → List ℕ → ℕ → Bool
has_name names name place = bytes_eq name (unwrap_or (slice_get names place) [])

-- the rows that are found, as they were shown
abbrev pub found_rows : (ℕ → Option (List ℕ)) → Key → View → Mailbox → List (ℕ × Shown)
found_rows message key view m = filter (λ row. is_found key (candidate view m row.1) (message row.1.uid)) (numbered view)

-- a row as the search has it at hand, with a message; it is tried on keys in which no `*` stands
abbrev pub candidate_of : Tried → List ℕ → Candidate
candidate_of c message = record {
  uid = c.shown.now.uid;
  flags = c.shown.now.flags;
  keywords = names_at c.names.now c.shown.now.keywords;
  largest_uid = 0;
  message = message;
}
