-- What stands at an entry of a folder: the file as reads give it, and what a crash may leave of it.
--
-- A file is a regular one of at most 4294967295 bytes. What else has the name is no file: it reads
-- as none, and the model has nothing there.
--
-- Left out: hard links, so a file has one entry at most; who owns a file and may open it; the length
-- of a file beside its bytes; what a crash leaves of the temporary entry, which nothing depends on;
-- and that a kernel may drop from its memory what it couldn't write, so that reads change by
-- themselves (POSIX says of write() that a later read gives the bytes written).
use Rattle.std.specs.Prelude.{◌⊎◌, ℕ, Bool, true, false, cond, List, [], ◌∷◌, ◌++◌, Option}
use Rattle.dv_shelf.specs.Disks.{Version, Gone, There, version_bytes, settled_version, version_written}
use Rattle.dv_shelf.specs.Images.{IsFileImage, IsImageOfOne}

-- An entry: the file that stands there now, or none; the others, of which a crash may bring one
-- back; whether a sync of the file failed, so that what was written before may be lost; and whether
-- a sync of the folder failed since the entry changed last.
pub record At : Type 0 where
  pub first : Version
  pub others : List Version
  pub is_doubted : Bool
  pub is_unsure : Bool

-- no file stands there, and never did
abbrev pub absent : At
absent = record { first = Gone; others = []; is_doubted = false; is_unsure = false }

-- an empty file that was just made
abbrev pub empty_file : Version
empty_file = There [] 0 [] false

-- the file as reads give it
abbrev pub read_at : At → Option (List ℕ)
read_at at = version_bytes at.first

-- another file comes to stand there, or none: a crash may bring back each of the earlier ones
abbrev pub put_at : Version → Bool → At → At
put_at version is_doubted at = record {
  first = version;
  others = at.first ∷ at.others;
  is_doubted = is_doubted;
  is_unsure = false;
}

-- the same by a call that failed: reads don't see it, and a crash may leave it
abbrev pub hidden_at : Version → At → At
hidden_at version at = record {
  first = at.first;
  others = at.others ++ version ∷ [];
  is_doubted = at.is_doubted;
  is_unsure = at.is_unsure;
}

-- a write of n bytes from a place on, of which reads see those that stuck
abbrev pub written_at : ℕ → ℕ → List ℕ → At → At
written_at place n stuck at = record {
  first = version_written place n stuck at.first;
  others = at.others;
  is_doubted = at.is_doubted;
  is_unsure = at.is_unsure;
}

-- A sync of the file answered Ok: a crash leaves its bytes as reads give them. It makes nothing
-- good where an earlier sync failed.
abbrev pub synced_at : At → At
synced_at at = record {
  first = cond at.is_doubted at.first (settled_version (version_bytes at.first));
  others = at.others;
  is_doubted = at.is_doubted;
  is_unsure = at.is_unsure;
}

-- a sync of the file failed
abbrev pub doubted_at : At → At
doubted_at at = record {
  first = at.first;
  others = at.others;
  is_doubted = true;
  is_unsure = at.is_unsure;
}

-- A sync of the folder answered Ok: a crash brings back no earlier file. It makes nothing good
-- where an earlier sync of the folder failed since the entry changed.
abbrev pub swept_at : At → At
swept_at at = record {
  first = at.first;
  others = cond at.is_unsure at.others [];
  is_doubted = at.is_doubted;
  is_unsure = at.is_unsure;
}

-- a sync of the folder failed
abbrev pub unsure_at : At → At
unsure_at at = record {
  first = at.first;
  others = at.others;
  is_doubted = at.is_doubted;
  is_unsure = true;
}

-- what a crash may leave at the entry
abbrev pub IsEntryImage : At → Option (List ℕ) → Type 0
IsEntryImage at file = IsFileImage at.first file ⊎ IsImageOfOne at.others file
