-- What a command asks of each message that it reads (RFC 3501, sections 6.4.4 and 6.4.5).
use Rattle.std.specs.Prelude.{◌≡◌, ℕ, Bool, true, false, List, [], ◌∷◌, flat_map, bytes_eq}
use Rattle.std.specs.List.{list_any}
use Rattle.dv_model.specs.declared.types.Command.{Command}
use Rattle.dv_model.specs.declared.types.Command.TheVariants as command
use Rattle.dv_model.specs.declared.types.Item.{Item}
use Rattle.dv_model.specs.declared.types.Item.TheVariants as item
use Rattle.dv_model.specs.declared.types.Key.{Key}
use Rattle.dv_model.specs.Searches.{needs_mail}
use Rattle.dv_search.specs.Facts.{asks}
use Rattle.dv_responses.specs.declared.asking.Asked.{Asked}

-- RFC822.SIZE
abbrev pub is_size : Item → Bool
is_size item.Size = true
is_size i = false

-- the message's bytes
abbrev pub is_body : Item → Bool
is_body item.Body = true
is_body i = false

-- the name of the field that an item asks
abbrev pub names_in : Item → List (List ℕ)
names_in (item.Field name) = name ∷ []
names_in i = []

-- the names of the fields that a FETCH asks, in its order
abbrev pub field_names : List Item → List (List ℕ)
field_names items = flat_map names_in items

-- the name is one of these
abbrev pub has_name : List (List ℕ) → List ℕ → Bool
has_name names name = list_any (λ asked. bytes_eq asked name) names

-- what a FETCH asks, item by item
abbrev pub fetch_asks : List Item → Asked
fetch_asks items = record { body = list_any is_body items; size = list_any is_size items; fields = field_names items }

-- a SEARCH that reads messages takes their sizes, and the fields that a HEADER names
pub record SearchAsks (key : Key) (asked : Asked) : Type 0 where
  pub body : asked.body ≡ false
  pub size : asked.size ≡ needs_mail key
  pub fields : (name : List ℕ) → has_name asked.fields name ≡ asks key name

-- nothing is asked
abbrev pub nothing : Asked
nothing = record { body = false; size = false; fields = [] }

-- what the command asks
abbrev pub Asks : Command → Asked → Type 0
Asks (command.Fetch by_uid set items) asked = asked ≡ fetch_asks items
Asks (command.Search by_uid key) asked = SearchAsks key asked
Asks c asked = asked ≡ nothing
