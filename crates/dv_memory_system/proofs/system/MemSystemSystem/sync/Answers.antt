use Rattle.std.proofs.Common.{◌≡◌, OnOk, OnErr, [], true, false, refl, subst, sym, ◌∙◌}
use Rattle.dv_system.specs.declared.system.Entry.{Entry}
use Rattle.dv_system.specs.Entries.{synced_at, doubted_at}
use Rattle.dv_system.specs.Disks.{changed, IsUnchangedOr}
use Rattle.dv_memory_system.specs.Steps.{disk_after, synced_so}
use Rattle.dv_memory_system.proofs.Moments.{elapsed, stays_same}
use Rattle.dv_memory_system.proofs.Standing.{still_same, stands_still}
use Rattle.dv_memory_system.proofs.Writing.{no_place, not_synced, now_synced, one_place}
use Rattle.dv_memory_system.proofs.system.MemSystemSystem.sync.Goals as goal

pub returns-in-Some-clause-ok : goal.returns-in-Some-clause-ok
returns-in-Some-clause-ok c = λ told held e stood.
    let new = c.sync_there.new.self.steps in
    subst (λ (x : Entry). OnOk c.sync_there.result (disk_after new ≡ changed synced_at (disk_after c.args.self.now.steps) x))
    (one_place _ c.in-Some.entry e (sym c.place.ensures ∙ c.in-Some.is) stood) (now_synced c.in-Some.entry c.args.self.now.steps new c.sync_there.result c.sync_there.ensures.ok)

pub returns-in-Some-clause-err : goal.returns-in-Some-clause-err
returns-in-Some-clause-err c = λ told held e stood.
    let new = c.sync_there.new.self.steps in
    subst (λ (x : Entry). OnErr c.sync_there.result (IsUnchangedOr (disk_after c.args.self.now.steps) (changed doubted_at (disk_after c.args.self.now.steps) x) (disk_after new)))
    (one_place _ c.in-Some.entry e (sym c.place.ensures ∙ c.in-Some.is) stood) (not_synced c.in-Some.entry c.args.self.now.steps new c.sync_there.result c.sync_there.ensures.err)

pub returns-in-Some-clause-open : goal.returns-in-Some-clause-open
returns-in-Some-clause-open c = λ told held file e.
    let failed = synced_so c.in-Some.entry false in
    stands_still file e c.args.self.now.steps c.sync_there.new.self.steps (synced_so c.in-Some.entry true) failed failed [] refl refl refl c.sync_there.result c.sync_there.ensures.ok c.sync_there.ensures.err

pub returns-in-Some-clause-time : goal.returns-in-Some-clause-time
returns-in-Some-clause-time c = λ told held.
    let failed = synced_so c.in-Some.entry false in
    elapsed (synced_so c.in-Some.entry true) failed failed [] c.args.self.now.steps c.sync_there.new.self.steps c.sync_there.result c.sync_there.ensures.ok c.sync_there.ensures.err

pub returns-in-None-clause-ok : goal.returns-in-None-clause-ok
returns-in-None-clause-ok c = λ told held e stood. absurd (no_place _ e (sym c.place.ensures ∙ c.in-None.is) stood)

pub returns-in-None-clause-err : goal.returns-in-None-clause-err
returns-in-None-clause-err c = λ told held e stood. absurd (no_place _ e (sym c.place.ensures ∙ c.in-None.is) stood)

pub returns-in-None-clause-open : goal.returns-in-None-clause-open
returns-in-None-clause-open c = λ told held file e. still_same file e c.args.self.now.steps c.look.new.self.steps c.look.ensures.steps

pub returns-in-None-clause-time : goal.returns-in-None-clause-time
returns-in-None-clause-time c = λ told held. stays_same c.args.self.now.steps c.look.new.self.steps c.look.ensures.steps
