-- A header that is read once for all the names that are asked.
use Rattle.std.specs.Prelude.{◌≡◌, ◌&&◌, ℕ, true, List, Option, MatchOption, Some, None, bytes_eq, find, is_some, if◌then◌else◌}
use Rattle.std.specs.BTreeMap.{BTreeMap, get_by}
use Rattle.std.specs.Cmp.Lexicographic.{slice_cmp}
use Rattle.std.specs.Global.{Vec}
use Rattle.std.specs.Option.{option_map}
use Rattle.std.specs.Ordering.{nat_cmp}
use Rattle.std.specs.Str.{str_to_ascii_lowercase}
use Rattle.dv_model.specs.Fields.{field_value, is_named}

-- what a map has at these bytes
abbrev pub at_key : {X : Type 0} → BTreeMap (Vec ℕ) X → List ℕ → Option X
at_key map bytes = get_by (λ key. slice_cmp nat_cmp bytes key.items) map

-- what it has of a name, whatever its case
abbrev pub at_name : {X : Type 0} → BTreeMap (Vec ℕ) X → List ℕ → Option X
at_name map name = at_key map (str_to_ascii_lowercase name)

-- the name is asked
abbrev pub IsAsked : {X : Type 0} → BTreeMap (Vec ℕ) X → List ℕ → Type 0
IsAsked missing name = is_some (at_name missing name) ≡ true

-- the value of the first of these fields that has the name
abbrev pub first_of : List (List ℕ) → List ℕ → Option (List ℕ)
first_of fields name = option_map field_value (find (is_named name) fields)

-- of all fields, of which these come yet, the first of the name was found, or comes yet
abbrev pub IsTold : {X : Type 0} → List (List ℕ) → List (List ℕ)
    → BTreeMap (Vec ℕ) X → BTreeMap (Vec ℕ) (List ℕ) → List ℕ → Type 0
IsTold fields more missing values name = MatchOption (at_name missing name)
    (at_name values name ≡ first_of fields name)
    (λ asked. (at_name values name ≡ None) × (first_of fields name ≡ first_of more name))

-- what is missing at these bytes behind a field of this name
abbrev pub left_behind : {X : Type 0} → List ℕ → BTreeMap (Vec ℕ) X → List ℕ → Option X
left_behind name missing key = if bytes_eq name key then None else at_key missing key

-- what was found at these bytes behind a field of this name and value
abbrev pub found_behind : {X : Type 0} → List ℕ → List ℕ
    → BTreeMap (Vec ℕ) X → BTreeMap (Vec ℕ) (List ℕ) → List ℕ → Option (List ℕ)
found_behind name value missing values key =
    if bytes_eq name key && is_some (at_key missing key) then Some value else at_key values key
