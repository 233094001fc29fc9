-- What a hold of the lock leaves of a session that isn't told.
use Rattle.std.specs.Prelude.{Option, Some, None, false, is_some}
use Rattle.std.proofs.Common.{◌≡◌, true, ℕ, ◌+◌, List, Result, Ok, Err, refl, sym, ap, subst, arith}
use Rattle.dv_answer.specs.Following.{Follower}
use Rattle.dv_front.specs.declared.notes.Note.{Note}
use Rattle.dv_keeper.specs.Turns.{IsAsBeforeBut, LeavesReader, LeavesWriter}
use Rattle.dv_member.specs.Calls.{IsAsBefore}
use Rattle.dv_member.specs.Members.{Member}
use Rattle.dv_model.specs.Sessions.{State}
use Rattle.dv_plans.specs.declared.fault.StoreFault.{StoreFault}
use Rattle.dv_plans.specs.declared.fault.StoreFault.TheVariants as fault
use Rattle.dv_shared.specs.declared.written.Written.{Written}
use Rattle.dv_pop3.specs.Clients.{KeepsOn}
use Rattle.dv_pop3.specs.Findings.{IsHeld}

-- no failure more
held_same : (old new : Member) → IsAsBefore (record old { refused = old.refused }) new → IsHeld old new
held_same old new before =
    let same : old.refused ≡ old.refused + 0 = omega arith in
    record { failures = 0; few = omega arith; is = subst (λ (n : ℕ). IsAsBefore (record old { refused = n }) new) same before }

-- at most one
pub held_but : {A : Type 0} (came : Result A StoreFault) (old new : Member) → IsAsBeforeBut came old new → IsHeld old new
held_but (Ok x) old new before = held_same old new before
held_but (Err (fault.Disk n)) old new before = record { failures = 1; few = omega arith; is = before }
held_but (Err fault.NoMemory) old new before = held_same old new before
held_but (Err fault.UidsUsedUp) old new before = held_same old new before
held_but (Err (fault.TooLong bytes)) old new before = held_same old new before

-- ---- a reading

pub reader_stays : {A E : Type 0} (notes : List Note) (came : Result A StoreFault) (old new : Member) (result : Result (Unit {0}) E) → LeavesReader notes came old new result → (new.number ≡ old.number) × (new.spent ≡ old.spent)
reader_stays notes (Ok x) old new (Ok done) leaves = (ap (λ (s : Member). s.number) leaves.1.now, ap (λ (s : Member). s.spent) leaves.1.now)
reader_stays notes (Ok x) old new (Err e) leaves = (ap (λ (s : Member). s.number) leaves.now, ap (λ (s : Member). s.spent) leaves.now)
reader_stays notes (Err (fault.Disk n)) old new (Ok done) leaves = (ap (λ (s : Member). s.number) leaves.now, ap (λ (s : Member). s.spent) leaves.now)
reader_stays notes (Err (fault.Disk n)) old new (Err e) leaves = (ap (λ (s : Member). s.number) leaves.now, ap (λ (s : Member). s.spent) leaves.now)
reader_stays notes (Err fault.NoMemory) old new (Ok done) leaves = absurd leaves
reader_stays notes (Err fault.NoMemory) old new (Err e) leaves = (ap (λ (s : Member). s.number) leaves.now, ap (λ (s : Member). s.spent) leaves.now)
reader_stays notes (Err fault.UidsUsedUp) old new (Ok done) leaves = absurd leaves
reader_stays notes (Err fault.UidsUsedUp) old new (Err e) leaves = (ap (λ (s : Member). s.number) leaves.now, ap (λ (s : Member). s.spent) leaves.now)
reader_stays notes (Err (fault.TooLong bytes)) old new (Ok done) leaves = absurd leaves
reader_stays notes (Err (fault.TooLong bytes)) old new (Err e) leaves = (ap (λ (s : Member). s.number) leaves.now, ap (λ (s : Member). s.spent) leaves.now)

pub reader_fresh : {A E : Type 0} (notes : List Note) (came : Result A StoreFault) (old new : Member) (result : Result (Unit {0}) E) → LeavesReader notes came old new result → new.spent ≡ old.spent
reader_fresh notes came old new result leaves = (reader_stays notes came old new result leaves).1

pub reader_held : {A E : Type 0} (notes : List Note) (came : Result A StoreFault) (old new : Member) (e : E) → LeavesReader notes came old new (Err e) → IsHeld old new
reader_held notes (Ok x) old new e leaves = held_but (Ok x) old new leaves
reader_held {A = A} notes (Err (fault.Disk n)) old new e leaves = held_but {A = A} (Err (fault.Disk n)) old new leaves
reader_held {A = A} notes (Err fault.NoMemory) old new e leaves = held_but {A = A} (Err fault.NoMemory) old new leaves
reader_held {A = A} notes (Err fault.UidsUsedUp) old new e leaves = held_but {A = A} (Err fault.UidsUsedUp) old new leaves
reader_held {A = A} notes (Err (fault.TooLong bytes)) old new e leaves = held_but {A = A} (Err (fault.TooLong bytes)) old new leaves

-- ---- a write

-- where it is answered
pub writer_fresh : (notes now : List Note) (came : Result Written StoreFault) (old new : Member) → LeavesWriter notes now came old new (Ok tt) → new.spent ≡ old.spent
writer_fresh notes now (Ok w) old new leaves = ap (λ (s : Member). s.spent) leaves.1.now
writer_fresh notes now (Err e) old new leaves = ap (λ (s : Member). s.spent) leaves.1.now

pub held_follower : (old new : Member) → IsHeld old new → new.follower ≡ old.follower
held_follower old new held = ap (λ (s : Member). s.follower) held.is.now

-- a session that nothing was asked of
pub held_itself : (s : Member) → IsAsBefore s s → IsHeld s s
held_itself s before = held_same s s before

-- it is told of no less
pub held_later : (old new : Member) → IsHeld old new → old.follower.state.selected ≡ true → KeepsOn old.follower.state new.follower.state
held_later old new held selected =
    subst (λ (f : Follower). KeepsOn old.follower.state f.state) (sym (held_follower old new held)) (record { selected = selected; next_uid = omega arith })

pub held_wrote : (old new : Member) → IsHeld old new → new.wrote ≡ old.wrote
held_wrote old new held = ap (λ (s : Member). s.wrote) held.is.now

pub later_itself : (x : State) → x.selected ≡ true → KeepsOn x x
later_itself x selected = record { selected = selected; next_uid = omega arith }

-- ---- a session that refuses nothing

pub none_of : {A : Type 0} (o : Option A) → is_some o ≡ false → o ≡ None
none_of None e = refl
none_of (Some x) e = absurd cc
