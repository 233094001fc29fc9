-- What is looked up of a storage's ids.
use Rattle.std.specs.Prelude.{◌≡◌, ℕ, Option, Some, None, IsSome, Result, Ok, Err, nat_eq, nat_lt, position, slice_get, if◌then◌else◌, ⊤}
use Rattle.std.specs.Option.{option_and_then}
use Rattle.dv_model.specs.declared.types.Mailbox.{Mailbox}
use Rattle.dv_model.specs.declared.types.Row.{Row}
use Rattle.dv_model.specs.Journals.{Damaged, Held, Mail}
use Rattle.dv_shelf.specs.Folders.{counted}
use Rattle.dv_maps.specs.declared.place.Place.{Place}
use Rattle.dv_maps.specs.Maps.{row_count, row_place}
use Rattle.dv_mdbox.specs.declared.looking.Reference.{Reference}
use Rattle.dv_mdbox.specs.declared.got.Got.{Got}
use Rattle.dv_mdbox.specs.declared.got.Got.TheVariants as got
use Rattle.dv_mdbox.specs.declared.fault.StorageFault.{StorageFault}
use Rattle.dv_mdbox.specs.declared.fault.StorageFault.TheVariants as fault

-- the row of an id
abbrev pub row_of : Mailbox → ℕ → Option Row
row_of m id = option_and_then (slice_get m.rows) (position (λ row. nat_eq row.uid id) m.rows)

-- how many references a row has, and where its text stands, where it has one
abbrev pub reference_in : Mailbox → Row → Option Reference
reference_in m row =
    if nat_lt 0 (row_count m row)
    then Some (record { count = row_count m row; place = row_place m row }) else None

-- the same of an id, where it is there
abbrev pub reference_of : Mailbox → ℕ → Option Reference
reference_of m id = option_and_then (reference_in m) (row_of m id)

-- what was got
abbrev pub got_mail : Got → Mail
got_mail (got.Held bytes) = Held bytes
got_mail got.Damaged = Damaged

-- None is answered exactly where an id has no reference, but where memory runs out; else the
-- message, as its place has it.
abbrev pub GetsMessage : Mailbox → ℕ → (Mail → Place → Type 0) → Result Got StorageFault → Type 0
GetsMessage m id Is (Ok got) =
    (reference : Reference) × (reference_of m id ≡ Some reference)
    × Is (got_mail got) reference.place
GetsMessage m id Is (Err fault.None) = reference_of m id ≡ None
GetsMessage m id Is (Err (fault.Disk faults)) = IsSome (reference_of m id)
GetsMessage m id Is (Err fault.NoMemory) = ⊤
GetsMessage m id Is (Err other) = ⊥

-- message files are read once for an id that has a reference, and else not
abbrev pub CountsRead : Option Reference → ℕ → ℕ → Type 0
CountsRead None old new = new ≡ old
CountsRead (Some reference) old new = new ≡ counted old 1
