-- What a search key finds (RFC 3501, section 6.4.4).
use Rattle.std.specs.Prelude.{ℕ, Bool, true, false, not, ◌||◌, List, [], ◌∷◌, length, take, Option, Some, None, nat_eq, nat_lt, bytes_eq, bit_and}
use Rattle.std.specs.List.{list_any, list_all}
use Rattle.std.specs.Str.{str_to_ascii_lowercase}
use Rattle.dv_model.specs.declared.types.Key.{Key}
use Rattle.dv_model.specs.declared.types.Key.TheOpen.{Key-F}
use Rattle.dv_model.specs.declared.types.Key.TheFolds.{fold-Key}
use Rattle.dv_model.specs.Fields.{field_of, virtual_size}
use Rattle.dv_model.specs.Sets.{is_in_set}

-- what a key is asked of: a message as the session is shown it, the largest UID of the view, and the message's bytes
pub record Candidate : Type 0 where
  pub uid : ℕ
  pub flags : ℕ
  pub keywords : List (List ℕ)
  pub largest_uid : ℕ
  pub message : List ℕ

-- the text begins here, or further on
abbrev pub contains_text : List ℕ → List ℕ → Bool
contains_text [] text = bytes_eq text []
contains_text (b ∷ bytes) text = bytes_eq (take (length text) (b ∷ bytes)) text || contains_text bytes text

-- HEADER: the message has a field of this name whose value contains the text, whatever the case of ASCII letters
abbrev pub value_contains : Option (List ℕ) → List ℕ → Bool
value_contains None text = false
value_contains (Some value) text = contains_text (str_to_ascii_lowercase value) (str_to_ascii_lowercase text)

-- one key, with the answers of the keys inside it
abbrev pub key_step : Key-F (Candidate → Bool) → Candidate → Bool
key_step Key-F.All c = true
key_step (Key-F.Has bits) c = nat_eq (bit_and c.flags bits) bits
key_step (Key-F.Lacks bits) c = nat_eq (bit_and c.flags bits) 0
key_step (Key-F.Keyword name) c = list_any (bytes_eq name) c.keywords
key_step (Key-F.Uid set) c = is_in_set c.largest_uid set c.uid
key_step (Key-F.Larger n) c = nat_lt n (virtual_size c.message)
key_step (Key-F.Header name text) c = value_contains (field_of c.message name) text
key_step (Key-F.Not key) c = not (key c)
key_step (Key-F.Or one other) c = one c || other c
key_step (Key-F.And keys) c = list_all (λ key. key c) keys

-- the message meets the key
abbrev pub meets : Key → Candidate → Bool
meets = fold-Key (Candidate → Bool) key_step

-- one key, with whether the keys inside it read messages
abbrev pub reads_step : Key-F Bool → Bool
reads_step (Key-F.Larger n) = true
reads_step (Key-F.Header name text) = true
reads_step (Key-F.Not key) = key
reads_step (Key-F.Or one other) = one || other
reads_step (Key-F.And keys) = list_any (λ key. key) keys
reads_step key = false

-- a LARGER or a HEADER stands in the key, so that it reads messages
abbrev pub needs_mail : Key → Bool
needs_mail = fold-Key Bool reads_step
