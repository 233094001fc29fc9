-- The item that begins these bytes, and what reading gives.
use Rattle.std.specs.Prelude.{◌≡◌, ℕ, ◌+◌, ◌-◌, ◌<◌, ◌≤◌, ◌^◌, ◌||◌, List, [], ◌∷◌, ◌++◌, length, take, drop, slice_index, Bool, true, false, Option, Some, None, Result, Ok, Err, nat_eq, nat_lt, if◌then◌else◌, ⊤}
use Rattle.std.specs.Int.{w16, w32, to_le_bytes, from_le_bytes}
use Rattle.dv_model.specs.declared.types.Change.{Change}
use Rattle.dv_model.specs.declared.types.GuidRow.{GuidRow}
use Rattle.dv_model.specs.declared.types.Intro.{Intro}
use Rattle.dv_model.specs.declared.types.NewRow.{NewRow}
use Rattle.dv_model.specs.declared.types.Pair.{Pair}
use Rattle.dv_model.specs.declared.types.Part.{Part}
use Rattle.dv_model.specs.declared.types.How.{How}
use Rattle.dv_model.specs.Names.{IsName}
use Rattle.dv_model.specs.Spelling.{how_code, padded}
use Rattle.dv_records.specs.declared.fault.DecodeEnd.{DecodeEnd}
use Rattle.dv_records.specs.declared.fault.DecodeEnd.TheVariants.{Fault, NoMemory}
use Rattle.dv_records.specs.declared.fault.RecordFault.TheVariants.{BadPayload}

-- the number of two bytes from a place on
abbrev pub half_at : List ℕ → ℕ → ℕ
half_at b at = from_le_bytes w16 (take 2 (drop at b))

-- the number of four bytes from a place on
abbrev pub word_at : List ℕ → ℕ → ℕ
word_at b at = from_le_bytes w32 (take 4 (drop at b))

-- a range, its ends in order (mail_transaction_expunge)
unfoldable pub pair_front : List ℕ → Option Pair
pair_front b =
    if nat_lt (length b) 8 then None
    else (if nat_eq (word_at b 0) 0 || nat_lt (word_at b 4) (word_at b 0) then None
    else Some (record { first = word_at b 0; last = word_at b 4 }))

-- a row with a UID that a message can have (mail_index_record)
unfoldable pub new_row_front : List ℕ → Option NewRow
new_row_front b =
    if nat_lt (length b) 8 then None
    else (if nat_eq (word_at b 0) 0 || nat_eq (word_at b 0) (2 ^ 32 - 1) then None
    else Some (record { uid = word_at b 0; flags = slice_index b 4 }))

-- a change of a range of UIDs (mail_transaction_flag_update)
unfoldable pub change_front : List ℕ → Option Change
change_front b =
    if nat_lt (length b) 12 then None
    else (if nat_eq (word_at b 0) 0 || nat_lt (word_at b 4) (word_at b 0) then None
    else Some (record { first = word_at b 0; last = word_at b 4; add = slice_index b 8; remove = slice_index b 9 }))

-- a row with its GUID (mail_transaction_expunge_guid)
unfoldable pub guid_row_front : List ℕ → Option GuidRow
guid_row_front b =
    if nat_lt (length b) 20 then None
    else (if nat_eq (word_at b 0) 0 || nat_eq (word_at b 0) (2 ^ 32 - 1) then None
    else Some (record { uid = word_at b 0; guid = take 16 (drop 4 b) }))

-- a part with as many bytes as its size says (mail_transaction_header_update)
unfoldable pub part_front : List ℕ → Option Part
part_front b =
    if nat_lt (length b) 4 then None
    else (if nat_lt (length b) (padded (4 + half_at b 2)) then None
    else Some (record { offset = half_at b 0; bytes = take (half_at b 2) (drop 4 b) }))

-- an introduction with as long a name as its size says (mail_transaction_ext_intro)
unfoldable pub intro_front : List ℕ → Option Intro
intro_front b =
    if nat_lt (length b) 20 then None
    else (if nat_lt (length b) (padded (20 + half_at b 18)) then None
    else Some (record { ext_id = word_at b 0; reset_id = word_at b 4; hdr_size = word_at b 8; record_size = half_at b 12; record_align = half_at b 14; flags = half_at b 16; name = take (half_at b 18) (drop 20 b) }))

-- ---- how many bytes an item takes, without the item

-- the size of the item in front, where there is one
abbrev pub front_size : {A : Type 0} → (A → ℕ) → Option A → Option ℕ
front_size size None = None
front_size size (Some x) = Some (size x)

-- whole words of a head of so many bytes and a text whose size stands in the head's last two
abbrev pub padded_size : List ℕ → ℕ → Option ℕ
padded_size b head =
    if nat_lt (length b) head then None
    else (if nat_lt (length b) (padded (head + half_at b (head - 2))) then None
    else Some (padded (head + half_at b (head - 2))))

-- there is such a thing, or there is none
abbrev pub Tells : {A : Type 0} → (A → Type 0) → Bool → Type 0
Tells {A = A} Is true = (x : A) × Is x
Tells {A = A} Is false = (x : A) → Is x → ⊥

-- ---- what reading gives, unless memory ran out

-- the item in front, and how many bytes it takes
abbrev pub GivesFront : {A : Type 0} → (A → ℕ) → Result (A × ℕ) DecodeEnd → Option A → Type 0
GivesFront size (Ok x) front = (front ≡ Some x.0) × (x.1 ≡ size x.0)
GivesFront size (Err NoMemory) front = ⊤
GivesFront size (Err (Fault f)) front = (f ≡ BadPayload) × (front ≡ None)

-- what is read is so, and nothing is so where nothing is read
abbrev pub Reads : {A : Type 0} → (A → Type 0) → Result A DecodeEnd → Type 0
Reads Is (Ok x) = Is x
Reads Is (Err NoMemory) = ⊤
Reads {A = A} Is (Err (Fault f)) = (f ≡ BadPayload) × ((x : A) → Is x → ⊥)

-- an item reads as it is spelled, whatever follows it
pub record IsReader {A : Type 0} (size : A → ℕ) (Is : A → List ℕ → Type 0) (front : List ℕ → Option A) : Type 0 where
  pub sized : (x : A) (b : List ℕ) → Is x b → length b ≡ size x
  pub positive : (x : A) → 1 ≤ size x
  pub takes : (x : A) (b : List ℕ) → ((i : ℕ) → slice_index b i < 256) → front b ≡ Some x
      → Is x (take (size x) b)
  pub again : (x : A) (b : List ℕ) → Is x (take (size x) b) → front b ≡ Some x

-- what is done with a keyword, its name, and how many bytes they take
pub record IsKeywordFront (how : How) (name : List ℕ) (size : ℕ) (b : List ℕ) : Type 0 where
  pub taken : size ≡ padded (4 + length name)
  pub long : size ≤ length b
  pub modify_type : take 1 b ≡ how_code how ∷ []
  pub fields : take (2 + length name) (drop 2 b) ≡ to_le_bytes w16 (length name) ++ name
  pub keyword : IsName name
