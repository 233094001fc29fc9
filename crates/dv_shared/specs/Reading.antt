-- What is read under the lock.
use Rattle.std.specs.Prelude.{◌≡◌, ◌+◌, false, Result, Err}
use Rattle.dv_member.specs.Members.{Member}
use Rattle.dv_plans.specs.declared.fault.StoreFault.{StoreFault}
use Rattle.dv_plans.specs.declared.fault.StoreFault.TheVariants as fault
use Rattle.dv_shared.specs.Kept.{Kept, Locked}
use Rattle.dv_store.specs.Rest.{IsLookedAt}

module _ {S C : Type 0} where
  -- the store was only looked at, and all else is as before
  pub record IsReadFrom (old new : Kept S C) : Type 0 where
    pub store : IsLookedAt old.store new.store
    pub now : new ≡ record old { store = new.store }

  -- the pass for who publishes was given away
  abbrev pub without_pass : Locked S C → Locked S C
  without_pass l =
      record l { kept = record l.kept { feed = record l.kept.feed { pass = false } } }

-- the session counts a failure of the disk
abbrev pub read_refused : {A : Type 0} → Result A StoreFault → Member → Member
read_refused (Err (fault.Disk faults)) s = record s { refused = s.refused + 1 }
read_refused result s = s
