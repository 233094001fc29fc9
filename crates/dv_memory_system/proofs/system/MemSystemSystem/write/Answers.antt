use Rattle.std.proofs.Common.{◌≡◌, OnOk, OnErr, inl, length, ap, subst, sym, ◌∙◌}
use Rattle.dv_system.specs.declared.system.Entry.{Entry}
use Rattle.dv_system.specs.Entries.{written_at}
use Rattle.dv_system.specs.Disks.{changed}
use Rattle.dv_memory_system.specs.Steps.{disk_after, IsWrittenPart}
use Rattle.dv_memory_system.proofs.Moments.{stays_same}
use Rattle.dv_memory_system.proofs.Standing.{on_err, still_same}
use Rattle.dv_memory_system.proofs.Writing.{no_place, not_none, not_some, one_place}
use Rattle.dv_memory_system.proofs.system.MemSystemSystem.write.Goals as goal

pub returns-then-is_empty-clause-empty : goal.returns-then-is_empty-clause-empty
returns-then-is_empty-clause-empty c = λ told held none. ap disk_after c.look.ensures.steps

pub returns-then-is_empty-clause-ok : goal.returns-then-is_empty-clause-ok
returns-then-is_empty-clause-ok c = λ told held some e stood. absurd (not_some c.args.bytes.now (sym c.is_empty.ensures ∙ c.if-is_empty.true) some)

pub returns-then-is_empty-clause-err : goal.returns-then-is_empty-clause-err
returns-then-is_empty-clause-err c = λ told held e stood. on_err c.look.result (inl (ap disk_after c.look.ensures.steps))

pub returns-then-is_empty-clause-open : goal.returns-then-is_empty-clause-open
returns-then-is_empty-clause-open c = λ told held file e. still_same file e c.args.self.now.steps c.look.new.self.steps c.look.ensures.steps

pub returns-then-is_empty-clause-time : goal.returns-then-is_empty-clause-time
returns-then-is_empty-clause-time c = λ told held. stays_same c.args.self.now.steps c.look.new.self.steps c.look.ensures.steps

pub returns-in-Some-clause-empty : goal.returns-in-Some-clause-empty
returns-in-Some-clause-empty c = λ told held none. absurd (not_none c.args.bytes.now (sym c.is_empty.ensures ∙ c.if-is_empty.false) none)

pub returns-in-None-clause-empty : goal.returns-in-None-clause-empty
returns-in-None-clause-empty c = λ told held none. ap disk_after c.look-in-None.ensures.steps

pub returns-in-Some-clause-ok : goal.returns-in-Some-clause-ok
returns-in-Some-clause-ok c = λ told held some e stood.
    let bytes = c.args.bytes.now in
    subst (λ (x : Entry). OnOk c.write_there.result (disk_after c.write_there.new.self.steps ≡ changed (written_at c.args.at (length bytes) bytes) (disk_after c.args.self.now.steps) x))
    (one_place _ c.in-Some.entry e (sym c.place.ensures ∙ c.in-Some.is) stood) c.write_there.ensures.ok

pub returns-in-Some-clause-err : goal.returns-in-Some-clause-err
returns-in-Some-clause-err c = λ told held e stood.
    subst (λ (x : Entry). OnErr c.write_there.result (IsWrittenPart c.args.at c.args.bytes.now x (disk_after c.args.self.now.steps) (disk_after c.write_there.new.self.steps)))
    (one_place _ c.in-Some.entry e (sym c.place.ensures ∙ c.in-Some.is) stood) c.write_there.ensures.err

pub returns-in-None-clause-ok : goal.returns-in-None-clause-ok
returns-in-None-clause-ok c = λ told held some e stood. absurd (no_place _ e (sym c.place.ensures ∙ c.in-None.is) stood)

pub returns-in-None-clause-err : goal.returns-in-None-clause-err
returns-in-None-clause-err c = λ told held e stood. absurd (no_place _ e (sym c.place.ensures ∙ c.in-None.is) stood)

pub returns-in-None-clause-open : goal.returns-in-None-clause-open
returns-in-None-clause-open c = λ told held file e. still_same file e c.args.self.now.steps c.look-in-None.new.self.steps c.look-in-None.ensures.steps

pub returns-in-None-clause-time : goal.returns-in-None-clause-time
returns-in-None-clause-time c = λ told held. stays_same c.args.self.now.steps c.look-in-None.new.self.steps c.look-in-None.ensures.steps
