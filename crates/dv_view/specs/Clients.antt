-- A client that takes no notice of keywords.
use Rattle.std.specs.Prelude.{ℕ, zero, suc, ◌-◌, List, [], ◌∷◌, ◌++◌, Option, None, Some, length, map, take, drop, replicate, slice_set}
use Rattle.dv_model.specs.declared.types.Reply.{Reply}
use Rattle.dv_model.specs.declared.types.Reply.TheVariants as reply
use Rattle.dv_model.specs.declared.types.Shown.{Shown}
use Rattle.dv_model.specs.declared.types.Value.{Value}
use Rattle.dv_model.specs.declared.types.Value.TheVariants as value
use Rattle.dv_model.specs.Views.{Known, heard}

-- a message without the names of its keywords
abbrev pub nameless : Known → Known
nameless k = record k { keywords = [] }

-- a row of such a client as the messages that clients know
abbrev pub known_bare : Shown → Known
known_bare s = record { uid = s.uid; flags = s.flags; keywords = [] }

-- what it knows after a reply
abbrev pub heard_bare : List Known → Reply → List Known
heard_bare rows r = map nameless (heard rows r)

-- its row of a message
abbrev pub bare_row : ℕ → ℕ → Shown
bare_row uid flags = record { uid = uid; flags = flags; keywords = []; modseq = 0 }

-- the row of this number, counted from 1, is set
abbrev pub with_row : List Shown → ℕ → Shown → List Shown
with_row rows zero row = rows
with_row rows (suc k) row = slice_set rows k row

-- the first FLAGS of a FETCH
abbrev pub flags_of : List Value → Option ℕ
flags_of [] = None
flags_of (value.Flags flags keywords ∷ values) = Some flags
flags_of (v ∷ values) = flags_of values

-- it sets the row, where there are FLAGS
abbrev pub with_flags : List Shown → ℕ → ℕ → Option ℕ → List Shown
with_flags rows k uid (Some flags) = with_row rows k (bare_row uid flags)
with_flags rows k uid None = rows

-- its rows behind a reply
abbrev pub heard_rows : List Shown → Reply → List Shown
heard_rows rows (reply.Expunge k) = take (k - 1) rows ++ drop k rows
heard_rows rows (reply.Exists n) = take n rows ++ replicate (n - length rows) (bare_row 0 0)
heard_rows rows (reply.Fetch k uid values) = with_flags rows k uid (flags_of values)
heard_rows rows r = rows
