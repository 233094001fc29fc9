-- A session that wrote nothing, and was refused nothing.
use Rattle.std.proofs.Common.{◌≡◌, inl, inr, ℕ, ◌+◌, false, List, Result, Ok, Err, refl, ap, subst, sym, ◌∙◌, arith}
use Rattle.dv_model.specs.declared.memory.NoMemory.{NoMemory}
use Rattle.dv_model.specs.declared.types.Reply.{Reply}
use Rattle.dv_model.specs.Journals.{Log}
use Rattle.dv_front.specs.declared.notes.Note.{Note}
use Rattle.dv_keeper.specs.Selecting.{HasSelected, LeavesSelected}
use Rattle.dv_keeper.specs.Sessions.{HasRejoined}
use Rattle.dv_member.specs.Calls.{IsAsBefore}
use Rattle.dv_member.specs.Members.{Member}
use Rattle.dv_plans.specs.declared.fault.StoreFault.{StoreFault}
use Rattle.dv_pop3.specs.declared.entering.PopFault.TheVariants as fault
use Rattle.dv_pop3.specs.Findings.{IsHeld}
use Rattle.dv_pop3.specs.Logins.{IsQuiet, IsUnlisted}
use Rattle.dv_pop3.proofs.Keeping.{reader_fresh, reader_held}

-- ---- by what it became

pub quiet_self : (s : Member) → s.spent ≡ false → IsQuiet s s
quiet_self s fresh = record { number = refl; wrote = refl; refused = refl; fresh = fresh }

quiet_by : (old new x : Member) → new ≡ x → IsQuiet old x → IsQuiet old new
quiet_by old new x is quiet = subst (IsQuiet old) (sym is) quiet

quiet_before : (old new : Member) → IsAsBefore old new → old.spent ≡ false → IsQuiet old new
quiet_before old new before fresh = quiet_by old new _ before.now (record { number = refl; wrote = refl; refused = refl; fresh = fresh })

quiet_rejoined : (old new : Member) → HasRejoined old new → old.spent ≡ false → IsQuiet old new
quiet_rejoined old new rejoined fresh = quiet_by old new _ rejoined.now (record { number = refl; wrote = refl; refused = refl; fresh = fresh })

-- ---- one after another

pub quiet_more : (a b c : Member) → IsQuiet a b → IsQuiet b c → IsQuiet a c
quiet_more a b c one two = record {
  number = two.number ∙ one.number;
  wrote = two.wrote ∙ one.wrote;
  refused = two.refused ∙ one.refused;
  fresh = two.fresh;
}

pub quiet_selected : (start : Log) (count : ℕ) (notes : List Note) (lines : List Reply) (old new : Member) → HasSelected start count notes lines old new → old.spent ≡ false → IsQuiet old new
quiet_selected start count notes lines old new selected fresh =
    let caught = quiet_rejoined old selected.caught selected.joined fresh in
    quiet_more old selected.caught new caught (quiet_by selected.caught new _ selected.now (record { number = refl; wrote = refl; refused = refl; fresh = caught.fresh }))

module _ (count : ℕ) where
  pub quiet_unlisted : (old new : Member) → IsQuiet old new → IsUnlisted count fault.NoMemory old new
  quiet_unlisted old new quiet = (0, omega arith, quiet.refused ∙ omega arith, quiet.wrote, quiet.fresh)

  held_unlisted : (a b c : Member) → IsQuiet a b → IsHeld b c → c.spent ≡ false → IsUnlisted count fault.NoMemory a c
  held_unlisted a b c quiet held fresh = (
    held.failures,
    held.few,
    ap (λ (s : Member). s.refused) held.is.now ∙ ap (λ (k : ℕ). k + held.failures) quiet.refused,
    ap (λ (s : Member). s.wrote) held.is.now ∙ quiet.wrote,
    fresh,
  )

  -- ---- a SELECT and a reading

  module _ {A : Type 0} (start : Log) (notes : List Note) (came : Result A StoreFault) (old new : Member) (fresh : old.spent ≡ false) where
    pub left_unlisted : (e : NoMemory) → LeavesSelected start count notes came old new (Err e) → IsUnlisted count fault.NoMemory old new
    left_unlisted e (inl before) = quiet_unlisted old new (quiet_before old new before fresh)
    left_unlisted e (inr (inl caught)) = quiet_unlisted old new (quiet_rejoined old new caught.0 fresh)
    left_unlisted e (inr (inr left)) =
        let quiet = quiet_selected start count notes left.lines old left.shown left.selected fresh in
        held_unlisted old left.shown new quiet (reader_held notes came left.shown new e left.reads) (reader_fresh notes came left.shown new (Err e) left.reads ∙ quiet.fresh)

    pub left_fresh : (result : Result (Unit {0}) NoMemory) → LeavesSelected start count notes came old new result → new.spent ≡ false
    left_fresh (Ok done) left =
        let quiet = quiet_selected start count notes left.lines old left.shown left.selected fresh in
        reader_fresh {E = NoMemory} notes came left.shown new (Ok done) left.reads ∙ quiet.fresh
    left_fresh (Err e) left = (left_unlisted e left).4
