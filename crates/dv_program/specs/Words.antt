-- The program's words: the word in the folder's place comes first.
use Rattle.std.specs.Prelude.{ℕ, Bool, false, List, [], ◌∷◌, Option, Some, bytes_eq}
use Rattle.dv_disk.specs.declared.files.Missing.{Missing}
use Rattle.dv_disk.specs.declared.files.Missing.TheVariants as missing
use Rattle.dv_folder.specs.declared.names.Layout.{Layout}
use Rattle.dv_folder.specs.declared.names.Layout.TheVariants as layout
use Rattle.dv_cli.specs.declared.words.Task.{Task}
use Rattle.dv_cli.specs.declared.words.Task.TheVariants as task

-- the first word is this one
abbrev pub asks_for : List ℕ → List (List ℕ) → Bool
asks_for asked [] = false
asks_for asked (word ∷ words) = bytes_eq word asked

-- the folder's path; the empty one where there is no word
abbrev pub folder_word : List (List ℕ) → List ℕ
folder_word [] = []
folder_word (folder ∷ words) = folder

-- the words behind the folder
abbrev pub run_words : List (List ℕ) → List (List ℕ)
run_words [] = []
run_words (folder ∷ words) = words

-- a rebuild doesn't make a folder that is missing
abbrev pub missing_for : Option Task → Missing
missing_for (Some task.Rebuild) = missing.Refuse
missing_for other = missing.Make

-- a storage's files have names of their own
abbrev pub layout_for : Option Task → Layout
layout_for (Some task.Storage) = layout.Storage
layout_for other = layout.Mailbox
