-- Where the files of a folder stand.
use Rattle.std.specs.Prelude.{ℕ, List, [], ◌∷◌, ◌++◌, codes, decimal, Option, Some, None}
use Rattle.dv_folder.specs.declared.names.Layout.{Layout}
use Rattle.dv_folder.specs.declared.names.Layout.TheVariants as layout

-- the path with a slash at its end; the empty path is the working folder
abbrev pub root_path : List ℕ → List ℕ
root_path [] = codes "./"
root_path (c ∷ path) = (c ∷ path) ++ codes "/"

-- a storage's files stand in a folder of it
abbrev pub part_of : Layout → List ℕ
part_of layout.Mailbox = codes ""
part_of layout.Storage = codes "storage/"

-- the path of the folder with the files
abbrev pub folder_path : Layout → List ℕ → List ℕ
folder_path layout path = root_path path ++ part_of layout

-- the path of an open folder in the process file system
abbrev pub open_path : ℕ → List ℕ
open_path n = codes "/proc/self/fd/" ++ decimal n ++ codes "/"

-- files are reached by the folder's path, or by the open folder of this number
abbrev pub way_of : List ℕ → Option ℕ → List ℕ
way_of folder None = folder
way_of folder (Some n) = open_path n
