-- A salvage, while records are applied.
use Rattle.std.specs.Prelude.{◌≡◌, ℕ}
use Rattle.dv_model.specs.declared.types.Record.{Record}
use Rattle.dv_openings.specs.Salvages.{Salvaged, with_spot}
use Rattle.dv_rebuild.specs.declared.salvage.Salvage.{Salvage}

-- the mailbox so far, whether its UIDVALIDITY was given, and whether records are still applied
abbrev pub salvaged_of : Salvage → Salvaged
salvaged_of s = record { mailbox = s.live.mailbox; given = s.given; going = s.going }

-- a record is applied, wherever it stands
abbrev pub TakesOne : Salvaged → Record → Salvaged → Type 0
TakesOne old r new = (place : ℕ) → new ≡ with_spot old (record { place = place; is = r })
