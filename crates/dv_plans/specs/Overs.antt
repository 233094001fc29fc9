-- A command over a chain's mailbox: its group, and the limit that it meets first.
use Rattle.std.specs.Prelude.{ℕ, true, List, Option, Result}
use Rattle.dv_model.specs.declared.types.Command.{Command}
use Rattle.dv_model.specs.declared.types.Group.{Group}
use Rattle.dv_model.specs.declared.types.Reply.{Reply}
use Rattle.dv_model.specs.Sessions.{group_of, limit_of}
use Rattle.dv_model.specs.Views.{View}
use Rattle.dv_groups.specs.Groups.{HasSizes}
use Rattle.dv_chain.specs.declared.chain.Chain.{Chain}
use Rattle.dv_files.specs.Texts.{place_of}
use Rattle.dv_plans.specs.declared.fault.StoreFault.{StoreFault}
use Rattle.dv_plans.specs.Limits.{Decides, IsWritten}

-- the group that it writes there
abbrev pub group_over : Command → View → Chain → (ℕ → List ℕ) → Group
group_over c view chain guid = group_of c view chain.live.mailbox guid

-- the limit that it meets there first, where a long log is rotated
abbrev pub limit_over : Command → View → Chain → (ℕ → List ℕ) → Option Reply
limit_over c view chain guid =
    limit_of c chain.live.mailbox true (place_of chain) (group_over c view chain guid)

-- what is decided by both, whatever the GUIDs
abbrev pub DecidesOver : {A : Type 0} → Command → View → Chain → Result (Option A) StoreFault
    → Type 0
DecidesOver c view chain result = (guid : ℕ → List ℕ) → HasSizes guid
    → Decides (limit_over c view chain guid) (group_over c view chain guid) result

-- its group is written
abbrev pub IsWrittenOver : Command → View → Chain → Type 0
IsWrittenOver c view chain = (guid : ℕ → List ℕ) → HasSizes guid
    → IsWritten (limit_over c view chain guid) (group_over c view chain guid)
