-- The groups that calls write into the log of a storage's map.
use Rattle.std.specs.Prelude.{◌≡◌, ℕ, ◌+◌, ◌-◌, Bool, true, false, List, [], ◌∷◌, ◌++◌, map, Option, None, Some, is_some, ⊤}
use Rattle.dv_model.specs.declared.types.Mailbox.{Mailbox}
use Rattle.dv_model.specs.declared.types.Record.{Record}
use Rattle.dv_model.specs.Effects.{applied}
use Rattle.dv_maps.specs.declared.place.Place.{Place}
use Rattle.dv_maps.specs.Groups.{count_records, save_records}
use Rattle.dv_mdbox.specs.Answers.{IsReferenced}
use Rattle.dv_mdbox.specs.Purging.{NoneGoneFrom, PurgesFiles}
use Rattle.dv_mdbox.specs.States.{State, mark_from}
use Rattle.dv_mdbox.specs.Writes.{entry_of}
use Rattle.dv_mdbox_lines.specs.declared.answers.Answer.{Answer}
use Rattle.dv_mdbox_lines.specs.declared.answers.Answer.TheVariants as answer
use Rattle.dv_mdbox_lines.specs.Playing.{Tried, done_id}
use Rattle.dv_mdbox_lines.specs.Scripts.{Call, Copy, Drop, Purge, Save}

-- ---- one call

-- the group of a call that is done, by the map before it: a save appends the next id with the place
-- of its text, and a copy or a drop says the new count
abbrev pub IsGroupOf : Mailbox → Call → List Record → Type 0
IsGroupOf m (Save message) records =
    (place : Place) × (records ≡ save_records m.next_uid place)
IsGroupOf m (Copy id) records =
    (count : ℕ) × IsReferenced m id (λ n. n ≡ count) × (records ≡ count_records id (count + 1))
IsGroupOf m (Drop id) records =
    (count : ℕ) × IsReferenced m id (λ n. n ≡ count) × (records ≡ count_records id (count - 1))
IsGroupOf m call records = ⊥

-- that group, where the call is done, and none where it isn't
abbrev pub WritesOne : Mailbox → Call → Bool → List (List Record) → Mailbox → Type 0
WritesOne m call false groups after = (groups ≡ []) × (after ≡ m)
WritesOne m call true groups after =
    (records : List Record) × IsGroupOf m call records × (applied m records ≡ Some after)
    × (groups ≡ records ∷ [])

-- a purge was done, and then this holds
abbrev pub IfPurged : Option Answer → Type 0 → Type 0
IfPurged (Some (answer.Purged n)) P = P
IfPurged told P = ⊤

-- The groups of a call. A purge writes one for each file that it rewrites; where it is done, all
-- files with an id without references were taken.
abbrev pub WritesGroups : Mailbox → Call → Option Answer → List (List Record) → Mailbox → Type 0
WritesGroups m Purge told groups after =
    (files : List ℕ) × (to : ℕ) × PurgesFiles None 0 m files groups to after
    × IfPurged told (NoneGoneFrom after to)
WritesGroups m call told groups after = WritesOne m call (is_some (done_id told)) groups after

-- ---- calls in turn

abbrev pub WriteGroups : Mailbox → List Tried → List (List Record) → Mailbox → Type 0
WriteGroups m [] groups after = (groups ≡ []) × (after ≡ m)
WriteGroups m (call ∷ more) groups after =
    (one : List (List Record)) × (rest : List (List Record)) × (mid : Mailbox)
    × WritesGroups m call.call call.answer one mid × WriteGroups mid more rest after
    × (groups ≡ one ++ rest)

-- ---- a storage

module _ {S C : Type 0} where
  -- the groups that were written to the map are the last entries, and the mark is the place behind
  -- them
  pub record Logs (Writes : Mailbox → List (List Record) → Mailbox → Type 0) (old new : State S C)
      : Type 0 where
    pub groups : List (List Record)
    pub writes : Writes old.chain.live.mailbox groups new.chain.live.mailbox
    pub entries : new.entries ≡ old.entries ++ map entry_of groups
    pub mark : new.mark ≡ mark_from old.mark (map entry_of groups)

  -- those of a call
  abbrev pub LogsCall : Call → Option Answer → State S C → State S C → Type 0
  LogsCall call told old new =
      Logs (λ m groups after. WritesGroups m call told groups after) old new

  -- and those of calls in turn
  abbrev pub LogsCalls : List Tried → State S C → State S C → Type 0
  LogsCalls calls old new = Logs (λ m groups after. WriteGroups m calls groups after) old new
