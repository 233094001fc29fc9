-- What calls take of the room.
use Rattle.std.specs.Prelude.{ℕ, ◌+◌, List, length}
use Rattle.dv_shelf.specs.declared.shelf.Name.{Name}

-- what a call that puts a file there takes
abbrev pub file_room : Name × List ℕ → ℕ
file_room file = 64 + length file.1
