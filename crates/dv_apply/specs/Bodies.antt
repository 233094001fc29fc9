-- What a record does by its body, and which appends are refused.
use Rattle.std.specs.Prelude.{◌≡◌, ℕ, ◌+◌, ◌-◌, ◌^◌, ◌<◌, ◌≤◌, All, ⊤, List, [], ◌∷◌, length, Option, Some, None, option_map, nat_lt, if◌then◌else◌, true}
use Rattle.dv_model.specs.declared.types.Body.{Body}
use Rattle.dv_model.specs.declared.types.Body.TheVariants.{Append, ExtIntro, KeywordUpdate}
use Rattle.dv_model.specs.declared.types.Extension.{Extension}
use Rattle.dv_model.specs.declared.types.Mailbox.{Mailbox}
use Rattle.dv_model.specs.declared.types.NewRow.{NewRow}
use Rattle.dv_model.specs.Effects.{effect, stamped, with_higher}
use Rattle.dv_model.specs.Names.{IsName}
use Rattle.std.specs.List.{list_all}
use Rattle.dv_ext.specs.Quiet.{is_quiet}
use Rattle.dv_ext.specs.Sizes.{leave_parts}

-- the mailbox after a record with this body, unless it is refused; an expunge is no mere request here
abbrev pub after_body : Mailbox → Body → Option Mailbox
after_body m body = option_map (stamped m.rows) (effect (with_higher m) body)

-- the UID of a row, and the UIDNEXT that it is below
pub record Refused : Type 0 where
  pub uid : ℕ
  pub next_uid : ℕ

-- the first row whose UID was given out before; each row leaves a UIDNEXT of its UID plus 1
abbrev pub first_refused : ℕ → List NewRow → Option Refused
first_refused next [] = None
first_refused next (row ∷ rows) = if nat_lt row.uid next then Some (record { uid = row.uid; next_uid = next }) else first_refused (row.uid + 1) rows

-- the UIDNEXT behind all of them
abbrev pub next_after : ℕ → List NewRow → ℕ
next_after next [] = next
next_after next (row ∷ rows) = next_after (row.uid + 1) rows

-- only a row of an append is refused
abbrev pub refused_row : Mailbox → Body → Option Refused
refused_row m (Append rows) = first_refused m.next_uid rows
refused_row m body = None

-- an append takes as many rows from the spare ones as it has; introductions take all, unless they leave the sizes of each row's parts
abbrev pub spare_after : List Extension → ℕ → Body → ℕ
spare_after es n (Append rows) = n - length rows
spare_after es n (ExtIntro intros) = if leave_parts es intros then n else 0
spare_after es n body = n

-- what a record that can be written has: new UIDs are below the largest number, and a keyword is a name
abbrev pub IsSound : Body → Type 0
IsSound (Append rows) = All (λ row. row.uid < 2 ^ 32 - 1) rows
IsSound (KeywordUpdate how name pairs) = IsName name
IsSound body = ⊤

-- anything but an append
abbrev pub IsOther : Body → Type 0
IsOther (Append rows) = ⊥
IsOther body = ⊤

-- needs no memory, where the mailbox has these extensions and so many rows are spare
abbrev pub TakesNone : List Extension → ℕ → Body → Type 0
TakesNone es n (Append rows) = length rows ≤ n
TakesNone es n (KeywordUpdate how name pairs) = ⊥
TakesNone es n (ExtIntro intros) = list_all (is_quiet es) intros ≡ true
TakesNone es n body = ⊤
