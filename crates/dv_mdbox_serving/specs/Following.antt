-- A storage that stands behind some calls. The records take what a shelf shows.
use Rattle.std.specs.Prelude.{◌≡◌, ℕ, ◌+◌, List, [], ◌∷◌, flat_map, is_some, length, Option, Some, if◌then◌else◌, ⊤}
use Rattle.dv_shelf.specs.Sees.{SeesFolder}
use Rattle.dv_chain.specs.Rest.{Last, Nothing, Owed, Pending}
use Rattle.dv_maps.specs.Laws.{IsMap}
use Rattle.dv_maps.specs.Storages.{Storage, storage_of}
use Rattle.dv_maps.specs.Texts.{Messages}
use Rattle.dv_playing.specs.Laws.{RiseFrom}
use Rattle.dv_mdbox.specs.States.{IsAtRest, State}
use Rattle.dv_mdbox_lines.specs.declared.answers.Answer.{Answer}
use Rattle.dv_mdbox_lines.specs.declared.answers.Answer.TheVariants as answer
use Rattle.dv_mdbox_lines.specs.Playing.{MayGo, Tried, behind, done_id}
use Rattle.dv_mdbox_lines.specs.Scripts.{Call, Purge}
use Rattle.dv_mdbox_serving.specs.Places.{IsLastCut, MayMake}

-- ---- what is owed

-- the group that is owed is that of the last call that was cut off
abbrev pub IsOwedBehind : Storage → List Tried → Messages → Owed → Type 0
IsOwedBehind start calls messages Nothing = ⊤
IsOwedBehind start calls messages (Last log after) = ⊤
IsOwedBehind start calls messages (Pending text after) =
    IsMap after
    × ((cut : Tried) × IsLastCut calls cut
    × MayMake cut.call cut.answer (behind start calls) (storage_of messages after))

-- ---- failures

-- the count that a failure of the disk tells
abbrev pub failure_of : Option Answer → List ℕ
failure_of (Some (answer.Disk faults)) = faults ∷ []
failure_of told = []

-- those of calls in turn
abbrev pub failures_of : List Tried → List ℕ
failures_of calls = flat_map (λ call. failure_of call.answer) calls

-- ---- groups

-- a call that is done writes one group, and a purge one for each file that it rewrites
abbrev pub HasGroups : Call → Option Answer → ℕ → Type 0
HasGroups Purge told n = ⊤
HasGroups call told n = n ≡ (if is_some (done_id told) then 1 else 0)

-- so many groups of calls in turn
abbrev pub HaveGroups : List Tried → ℕ → Type 0
HaveGroups [] n = n ≡ 0
HaveGroups (call ∷ more) n =
    (one : ℕ) × (rest : ℕ) × HasGroups call.call call.answer one × HaveGroups more rest
    × (n ≡ one + rest)

-- ---- a storage

module _ {S C : Type 0} where
  -- It is at rest with the storage behind these calls, and what is owed is of them.
  pub record Keeps (sees : SeesFolder S) (start : Storage) (calls : List Tried) (store : State S C)
      : Type 0 where
    pub messages : Messages
    pub debt : Owed
    pub rests : IsAtRest sees messages debt store
    pub storage : storage_of messages store.chain.live.mailbox ≡ behind start calls
    pub owed : IsOwedBehind start calls messages debt

  -- The calls are answered by the storage's rules, and those that the disk failed tell counts that
  -- rise up to this one.
  pub record Follows (sees : SeesFolder S) (start : Storage) (base : ℕ) (calls : List Tried)
      (store : State S C) : Type 0 where
    pub may : MayGo start calls
    pub failures : RiseFrom base (failures_of calls) (sees.fault_count store.shelf)
    pub keeps : Keeps sees start calls store
    pub groups : HaveGroups calls (length store.entries)
