-- The place behind a group, by the size of its text.
use Rattle.std.specs.Prelude.{ℕ, ◌+◌, true, if◌then◌else◌}
use Rattle.dv_model.specs.declared.types.Mark.{Mark}
use Rattle.dv_model.specs.Journals.{header_size, is_rotation_due}

-- it stands behind the log's end, or at the front of a new file
abbrev pub mark_by : Mark → ℕ → Mark
mark_by mark size =
    if is_rotation_due true mark
    then record { file_seq = mark.file_seq + 1; offset = header_size + size }
    else record mark { offset = mark.offset + size }
