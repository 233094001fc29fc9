-- The GUIDs of the messages that a command removes, as they are found over any shelf.
use Rattle.std.specs.Prelude.{◌≡◌, ℕ, List, [], ◌∷◌, map, nat_eq, All, if◌then◌else◌}
use Rattle.dv_model.specs.declared.types.Command.{Command}
use Rattle.dv_model.specs.declared.types.GuidRow.{GuidRow}
use Rattle.dv_model.specs.Journals.{IsGuid}
use Rattle.dv_dbox.specs.Mails.{no_guid}
use Rattle.dv_groups.specs.Changes.{removes}

-- of the UIDs that a command changes those that it removes
abbrev pub removed_of : Command → List ℕ → List ℕ
removed_of c uids = if removes c then uids else []

-- the rows are of these UIDs, and each has a GUID
pub record AreGuidsOf (uids : List ℕ) (rows : List GuidRow) : Type 0 where
  pub beside : map (λ row. row.uid) rows ≡ uids
  pub guids : All (λ row. IsGuid row.guid) rows

-- the GUID of the first row of a UID, sixteen zero bytes where there is none
abbrev pub guid_from : List GuidRow → ℕ → List ℕ
guid_from [] uid = no_guid
guid_from (row ∷ rows) uid = if nat_eq row.uid uid then row.guid else guid_from rows uid
