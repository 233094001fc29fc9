-- A failure of the disk is told only where its count rose.
use Rattle.std.proofs.Common.{◌≡◌, ℕ, ◌≤◌, false, List, [], ◌∷◌, Result, Ok, Err, refl, sym, ◌∙◌, ap, subst}
use Rattle.std.specs.Prelude.{IfOk, OnOk}
use Rattle.std.proofs.lemmas.Result.{on_ok_weaker}
use Rattle.dv_model.specs.declared.types.Command.{Command}
use Rattle.dv_model.specs.declared.types.Mailbox.{Mailbox}
use Rattle.dv_model.specs.declared.types.Mark.{Mark}
use Rattle.dv_model.specs.declared.types.Reply.{Reply}
use Rattle.dv_model.specs.declared.types.Reply.TheVariants as reply
use Rattle.dv_model.specs.Counts.{RoseBy}
use Rattle.dv_model.specs.Journals.{Mail}
use Rattle.dv_model.specs.Sessions.{Answer, State, answer}
use Rattle.dv_model.specs.Transcripts.{is_unavailable, unavailable_count}
use Rattle.dv_plans.specs.declared.fault.StoreFault.{StoreFault}
use Rattle.dv_plans.specs.declared.fault.StoreFault.TheVariants as fault
use Rattle.dv_plans.specs.Faults.{HasStoreCause}
use Rattle.dv_store.specs.Faults.{IsFailure}
use Rattle.dv_answer.specs.Answers.{IsAnswered}
use Rattle.dv_serving.specs.Lines.{IsFaultLine, fault_lines}
use Rattle.dv_serving.specs.Faults.{HasFailures}
use Rattle.dv_serving.specs.Taking.{Takes, given}
use Rattle.dv_serving.proofs.Counting.{AreAvailable, answer_available, counts_none, one_available, rose_none}
use Rattle.dv_serving.proofs.Taken.{always, given_answer, given_has}

abbrev failed_with : (A : Type 0) → StoreFault → Result A StoreFault
failed_with A f = Err f

pub disk_of : {A : Type 0} (f : StoreFault) (count : ℕ) → f ≡ fault.Disk count → failed_with A f ≡ failed_with A (fault.Disk count)
disk_of {A} f count e = ap (failed_with A) e

-- where the disk's failure left no lines, its own line alone is there
pub fault_alone : {R E : Type 0} (with : R → List Reply → R) (old mid new : R) (f : StoreFault) (result : Result (Unit {0}) E) → IsFailure f → ((count : ℕ) → f ≡ fault.Disk count → mid ≡ old)
    → OnOk result ((new ≡ with mid (fault_lines f)) × IsFaultLine f (fault_lines f)) → OnOk result ((new ≡ with old (fault_lines f)) × IsFaultLine f (fault_lines f))
fault_alone with old mid new (fault.Disk count) (Ok done) failure back is = (is.0 ∙ ap (λ x. with x (fault_lines (fault.Disk count))) (back count refl), is.1)
fault_alone with old mid new fault.NoMemory (Ok done) failure back is = absurd is.1
fault_alone with old mid new fault.UidsUsedUp (Ok done) failure back is = absurd failure
fault_alone with old mid new (fault.TooLong bytes) (Ok done) failure back is = absurd failure
fault_alone with old mid new f (Err e) failure back is = tt

module _ (before now : ℕ) where
  -- lines that tell of none
  pub available_failures : (lines : List Reply) → before ≤ now → AreAvailable lines → (before ≤ now) × RoseBy (unavailable_count (lines ∷ [])) before now
  available_failures lines later available = (later, subst (λ (n : ℕ). RoseBy n before now) (sym (counts_none lines available)) (rose_none before now later))

  -- one line that isn't one
  pub line_failures : {E : Type 0} (line : Reply) (result : Result (List Reply) E) → before ≤ now → is_unavailable line ≡ false → IfOk result (λ lines. lines ≡ line ∷ []) → HasFailures before now result
  line_failures line (Ok lines) later available is =
      available_failures lines later (subst AreAvailable (sym is) (one_available line available))
  line_failures line (Err e) later available is = later

  -- the line of a fault
  pub fault_failures : {A E : Type 0} (f : StoreFault) (result : Result (List Reply) E) → HasStoreCause {A = A} before now (Err f) → IfOk result (IsFaultLine f) → HasFailures before now result
  fault_failures (fault.Disk faults) (Ok lines) cause is =
      (cause.later, subst (λ (rs : List Reply). RoseBy (unavailable_count (rs ∷ [])) before now) (sym is) cause.rose.1)
  fault_failures fault.UidsUsedUp (Ok lines) cause is = line_failures {E = Unit {0}} reply.UidsUsedUp (Ok lines) cause.later refl is
  fault_failures (fault.TooLong bytes) (Ok lines) cause is = line_failures {E = Unit {0}} (reply.TooLong bytes) (Ok lines) cause.later refl is
  fault_failures fault.NoMemory (Ok lines) cause is = absurd is
  fault_failures f (Err e) cause is = cause.later

  -- an answer by the rules
  told_failures : {E : Type 0} (result : Result (List Reply) E) (next : State) (mail : ℕ → Mail) (x : State) (c : Command) (met : Mailbox) (q : ℕ) (m : Mailbox) (mark : Mark) → before ≤ now
      → IfOk result (λ replies. record { replies = replies; next = next } ≡ answer mail x c met q m mark) → HasFailures before now result
  told_failures (Ok replies) next mail x c met q m mark later is =
      available_failures replies later (subst AreAvailable (sym (ap (λ (a : Answer). a.replies) is)) (answer_available mail x c met q m mark))
  told_failures (Err e) next mail x c met q m mark later is = later

  -- the same, where the lines were taken
  module _ {E R : Type 0} (with : R → List Reply → R) (said said_now : R) (result : Result (Unit {0}) E) where
    pub taken_line : (line : Reply) → before ≤ now → is_unavailable line ≡ false → OnOk result (said_now ≡ with said (line ∷ [])) → Takes with said said_now result (λ told. HasFailures before now told)
    taken_line line later available is = record {
      replies = line ∷ [];
      taken = is;
      holds = line_failures line (given (line ∷ []) result) later available (given_has (λ lines. lines ≡ line ∷ []) (line ∷ []) result (always result refl));
    }

    pub taken_fault : {A : Type 0} (f : StoreFault) → HasStoreCause {A = A} before now (Err f) → OnOk result ((said_now ≡ with said (fault_lines f)) × IsFaultLine f (fault_lines f)) → Takes with said said_now result (λ told. HasFailures before now told)
    taken_fault f cause is = record {
      replies = fault_lines f;
      taken = on_ok_weaker result (λ (x : (said_now ≡ with said (fault_lines f)) × IsFaultLine f (fault_lines f)). x.0) is;
      holds = fault_failures f (given (fault_lines f) result) cause (given_has (IsFaultLine f) (fault_lines f) result (on_ok_weaker result (λ (x : (said_now ≡ with said (fault_lines f)) × IsFaultLine f (fault_lines f)). x.1) is));
    }

    -- an answer by the rules
    pub taken_answer : (next : State) (mail : ℕ → Mail) (x : State) (c : Command) (met : Mailbox) (q : ℕ) (m : Mailbox) (mark : Mark) → before ≤ now
        → OnOk result (IsAnswered with said said_now next (answer mail x c met q m mark)) → Takes with said said_now result (λ told. HasFailures before now told)
    taken_answer next mail x c met q m mark later both =
        let a = answer mail x c met q m mark in
        record {
          replies = a.replies;
          taken = on_ok_weaker result (λ (b : IsAnswered with said said_now next a). b.0) both;
          holds = told_failures (given a.replies result) next mail x c met q m mark later (given_answer _ a next result both);
        }
