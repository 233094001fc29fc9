-- Where a real folder's files stand.
use Rattle.std.specs.Prelude.{ℕ, List, string_bytes}
use Rattle.dv_disk.specs.declared.files.Missing.{Missing}
use Rattle.dv_folder.specs.declared.folder.Folder.{Folder}
use Rattle.dv_folder.specs.declared.names.Layout.{Layout}

-- the path of the folder with the files
abbrev pub path_of : Folder → List ℕ
path_of folder = string_bytes folder.shelf.files.system.folder

-- how the files are named
abbrev pub layout_of : Folder → Layout
layout_of folder = folder.shelf.files.system.layout

-- what is done about it where it is missing
abbrev pub missing_of : Folder → Missing
missing_of folder = folder.shelf.files.missing
