-- The names of a folder's files: of a mailbox's (Dovecot's mail-index-private.h,
-- mail-transaction-log-private.h and sdbox-storage.h) and of a storage's (its mdbox-map.c and
-- mdbox-storage.h).
use Rattle.std.specs.Prelude.{ℕ, ◌^◌, ◌<◌, List, ◌++◌, codes, decimal}
use Rattle.dv_shelf.specs.declared.shelf.Name.{Name}
use Rattle.dv_shelf.specs.declared.shelf.Name.TheVariants as name
use Rattle.dv_folder.specs.declared.names.Layout.{Layout}
use Rattle.dv_folder.specs.declared.names.Layout.TheVariants as layout

-- the name of the file in the folder
abbrev pub file_name : Layout → Name → List ℕ
file_name layout.Mailbox name.Index = codes "dovecot.index"
file_name layout.Mailbox name.Log = codes "dovecot.index.log"
file_name layout.Mailbox name.Log2 = codes "dovecot.index.log.2"
file_name layout.Mailbox name.Cache = codes "dovecot.index.cache"
file_name layout.Mailbox (name.Mail n) = codes "u." ++ decimal n
file_name layout.Storage name.Index = codes "dovecot.map.index"
file_name layout.Storage name.Log = codes "dovecot.map.index.log"
file_name layout.Storage name.Log2 = codes "dovecot.map.index.log.2"
file_name layout.Storage name.Cache = codes "dovecot.map.index.cache"
file_name layout.Storage (name.Mail n) = codes "m." ++ decimal n

-- the number of a message file fits its type
abbrev pub IsName : Name → Type 0
IsName (name.Mail n) = n < 2 ^ 32
IsName other = Unit {0}
