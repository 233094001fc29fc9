use Rattle.dv_memory_system.proofs.state.States.temporary_changed.Goals as goal

pub returns : goal.returns
returns c = λ disk name are.
    record { here = are.here; temporary = c.in_ok-temporary.ensures disk.temporary are.temporary }
