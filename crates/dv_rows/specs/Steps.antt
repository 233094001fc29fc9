-- What a record does to a row, and to the number beside it.
use Rattle.std.specs.Prelude.{ℕ, ◌%◌, [], bytes_eq, nat_eq, if◌then◌else◌}
use Rattle.dv_model.specs.declared.types.Change.{Change}
use Rattle.dv_model.specs.Effects.{with_bits}
use Rattle.dv_rows.specs.Noted.{Noted}

-- the row's flags change, and those beside it stay as they were
abbrev pub flags_changed : Change → Noted → Noted
flags_changed change p = record p { row = record p.row { flags = with_bits change.add change.remove p.row.flags } }

-- a row of which the system flags are others than those beside it has this modification sequence
abbrev pub flags_stamped : ℕ → Noted → Noted
flags_stamped n p = record {
  row = record p.row { modseq = if nat_eq (p.row.flags % 32) (p.note % 32) then p.row.modseq else n };
  note = p.row.flags;
}

-- a row that had keywords has none, and this modification sequence
abbrev pub without_keywords : ℕ → Noted → Noted
without_keywords n p = record p { row = record p.row { keywords = []; modseq = if bytes_eq [] p.row.keywords then p.row.modseq else n } }

-- other flags than the row's, and neither Seen nor Deleted among them, say that it leaves
abbrev pub marked : Noted → Noted
marked p = record p { note = if nat_eq p.row.flags 0 then 1 else 0 }
