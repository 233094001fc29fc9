-- What a write of a session does under the lock. The records take what a shelf shows.
use Rattle.std.specs.Prelude.{ℕ, Result}
use mathlib.Core.List.{IsPrefix}
use Rattle.dv_model.specs.declared.types.Command.{Command}
use Rattle.dv_model.specs.Journals.{Log}
use Rattle.dv_shelf.specs.Folders.{Folder}
use Rattle.dv_shelf.specs.Sees.{SeesFolder, SeesTime}
use Rattle.dv_logfile.specs.Settling.{StaysSettled}
use Rattle.dv_plans.specs.declared.fault.StoreFault.{StoreFault}
use Rattle.dv_plans.specs.Faults.{HasStoreCause}
use Rattle.dv_member.specs.Members.{Member, notes_of}
use Rattle.dv_shared.specs.declared.written.Written.{Written}
use Rattle.dv_shared.specs.Committing.{CommitsKept, given}
use Rattle.dv_shared.specs.Holding.{Holds}
use Rattle.dv_shared.specs.Kept.{Kept, notes_in}
use Rattle.dv_shared.specs.Owing.{MovesDebt, OwesSome}
use Rattle.dv_shared.specs.Writing.{HasOutcome}

-- what was kept before a commit and behind it, and what came of it
pub record Commit (S C : Type 0) : Type 0 where
  pub before : Kept S C
  pub behind : Kept S C
  pub came : Result Written StoreFault

module _ {S C : Type 0} where
  -- A session's command was committed, behind all that the session had seen: what that leaves of
  -- notes and tries, and what is told of it, over any shelf; which answer it is; which write's group
  -- the store owed, and owes behind it; why the disk failed; and that a settled folder is settled
  -- again, where no failure was counted.
  pub record IsCommitOf (sees : SeesFolder S) (times : SeesTime C) (start : Log) (honest : Type 0)
      (s : Member) (c : Command) (k : Commit S C) : Type 0 where
    pub begins : IsPrefix (notes_of s) (notes_in k.before)
    pub value : CommitsKept honest times.tells start
        (given s.number c s.follower.state.view k.before (times.upcoming k.before.store.clock))
        k.before k.behind k.came
    pub outcome : honest → HasOutcome start s.number s.follower.state c
        k.before.store.chain.live.mailbox (notes_in k.before) (notes_in k.behind) k.came
    pub owed : honest → OwesSome sees times.tells start k.before
    pub owes : honest → MovesDebt sees times.tells start
        (given s.number c s.follower.state.view k.before (times.upcoming k.before.store.clock))
        k.before k.behind k.came
    pub cause : HasStoreCause (sees.fault_count k.before.store.shelf)
        (sees.fault_count k.behind.store.shelf) k.came
    pub settled : sees.tells → StaysSettled sees k.before.store.shelf k.behind.store.shelf

  -- what is kept holds before it and behind it
  abbrev pub HoldsBoth : SeesFolder S → SeesTime C → Log → ℕ → (ℕ → Folder → Type 0) → Type 0
      → Commit S C → Type 0
  HoldsBoth sees times start moment past honest k =
      Holds sees times.tells start moment past honest k.before
      × Holds sees times.tells start moment past honest k.behind
