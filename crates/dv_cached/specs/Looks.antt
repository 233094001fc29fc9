-- What the group of a command leaves to be looked up in the cache file.
use Rattle.std.specs.Prelude.{◌≡◌, ◌⊎◌, All, Any, IfSome}
use Rattle.dv_model.specs.declared.types.Mailbox.{Mailbox}
use Rattle.dv_model.specs.declared.types.Row.{Row}
use Rattle.dv_openings.specs.TrueCaches.{look_of}

-- what is looked up for the row is looked up for an old row of its UID
abbrev pub HasOldLook : Mailbox → Mailbox → Row → Type 0
HasOldLook m after row =
    Any (λ old. (old.uid ≡ row.uid) × (look_of m old ≡ look_of after row)) m.rows

-- what is looked up for the row, if anything, is the place 0
abbrev pub HasNoLook : Mailbox → Row → Type 0
HasNoLook after row = IfSome (look_of after row) (λ look. look.offset ≡ 0)

-- for each row what is looked up is that of an old one, or nothing that a cache file has
abbrev pub KeepsLooks : Mailbox → Mailbox → Type 0
KeepsLooks m after = All (λ row. HasOldLook m after row ⊎ HasNoLook after row) after.rows
