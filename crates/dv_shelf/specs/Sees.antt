-- What the objects of the outside show: of each kind one record, by what an object of the type is.
use Rattle.std.specs.Prelude.{ℕ, List}
use Rattle.dv_shelf.specs.Folders.{Folder}

-- a folder of files
pub record SeesFolder (S : Type 0) : Type 1 where
  -- a shelf of this type tells its contents: the fields but the counts speak of one that does
  pub tells : Type 0
  -- the files, as a read gives them
  pub files : S → Folder
  -- what a crash now may leave
  pub may_leave : S → Folder → Type 0
  -- this moment: later ones aren't less
  pub moment : S → ℕ
  -- what a crash at some moment since that one might have left
  pub left_since : S → ℕ → Folder → Type 0
  -- how often a call has failed
  pub fault_count : S → ℕ
  -- how many reads of message files there were; it stops at the end of its type
  pub mail_reads : S → ℕ

-- a script
pub record SeesScript (I : Type 0) : Type 1 where
  -- a source of this type tells its contents
  pub tells : Type 0
  -- the bytes that are still to be read
  pub left : I → List ℕ
  -- how often a call has failed
  pub fault_count : I → ℕ

-- an output
pub record SeesOutput (O : Type 0) : Type 1 where
  -- a sink of this type tells its contents
  pub tells : Type 0
  -- the bytes that it has taken
  pub taken : O → List ℕ
  -- how often a call has failed
  pub fault_count : O → ℕ

-- a clock
pub record SeesTime (C : Type 0) : Type 1 where
  -- a clock of this type tells its readings
  pub tells : Type 0
  -- the reading after so many others
  pub upcoming : C → ℕ → ℕ
