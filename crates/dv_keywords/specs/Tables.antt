-- The table of a mailbox's keyword names, and its text in a snapshot.
use Rattle.std.specs.Prelude.{◌≡◌, ◌≢◌, ℕ, ◌+◌, ◌^◌, ◌<◌, ◌≤◌, List, length, take, flat_map, All, AllPairs}
use Rattle.dv_model.specs.Names.{IsName}
use Rattle.dv_model.specs.Spelling.{padded}
use Rattle.dv_formats.specs.Snapshots.{keyword_text}

-- the names of a table, and those that were taken back, whose memory is kept
pub record Keywords : Type 0 where
  pub names : List (List ℕ)
  pub kept : List (List ℕ)

-- distinct names, as many as a number of 32 bits can count
pub record IsTable (names : List (List ℕ)) : Type 0 where
  pub valid : All IsName names
  pub distinct : AllPairs (λ a b. a ≢ b) names
  pub few : length names < 2 ^ 32

-- these bytes begin with the text of the name
pub record IsNameAt (b : List ℕ) (name : List ℕ) : Type 0 where
  pub is : IsName name
  pub size : padded (2 + length name) ≤ length b
  pub text : take (padded (2 + length name)) b ≡ keyword_text name

-- the first n bytes are the text of so many names
pub record IsTableAt (count : ℕ) (names : List (List ℕ)) (n : ℕ) (b : List ℕ) : Type 0 where
  pub table : IsTable names
  pub counted : length names ≡ count
  pub size : n ≤ length b
  pub text : take n b ≡ flat_map keyword_text names
