-- What comes before a write's own files: a repair, and a rotation.
use Rattle.std.proofs.Common.{◌≡◌, ◌≢◌, ◌⊎◌, inl, inr, ⊎_elim, ℕ, List, Option, Some, None, Result, Ok, Err, OnOk, OnErr, refl, sym, ◌∙◌, ap, subst}
use Rattle.std.specs.Prelude.{IfSome}
use Rattle.dv_model.specs.Journals.{Log}
use Rattle.dv_shelf.specs.declared.shelf.Name.{Name}
use Rattle.dv_shelf.specs.declared.shelf.Name.TheVariants as name
use Rattle.dv_shelf.specs.Crashes.{LeavesOnly}
use Rattle.dv_shelf.specs.Folders.{Folder}
use Rattle.dv_shelf.proofs.FolderLemmas.{with_else, with_here}
use Rattle.dv_shelf.proofs.Moments.{joined, weaker}
use Rattle.dv_logfile.specs.declared.commit.LogFile.{LogFile}
use Rattle.dv_chain.specs.declared.chain.Chain.{Chain}
use Rattle.dv_files.specs.declared.texts.Turn.{Turn}
use Rattle.dv_files.specs.Leavings.{IsBeforeLast, IsPut, with_index, with_new, with_old}
use Rattle.dv_files.specs.Texts.{turned}
use Rattle.dv_files.proofs.Replacing.{puts_either}
use Rattle.dv_writing.specs.Debts.{Debt, Fits, Last, MayGive, Nothing, Stands, debt_of}
use Rattle.dv_writing.specs.Repairing.{IsOwing, Repairs, RepairsFiles, RepairsQuietly}
use Rattle.dv_writing.specs.Turning.{TurnsFiles, TurnsOver, TurnsOverQuietly}
use Rattle.dv_writing.proofs.Kept.{KeepsMessages, beside_log, beside_put, of_log}
use Rattle.dv_writing.specs.Ways.{IsLeftOnWay, IsOfLog, KeepsBeside, KeepsMails, MakesWay, MakesWayIn, MakesWayQuietly, MayGiveOn, healed, held, repaired}
use Rattle.dv_writing.proofs.Ready.{gives_now, repaired_is}
use Rattle.dv_shelf.specs.Sees.{SeesFolder}

-- ---- the chain

kept_turn : (turn : Turn) (left : Option Turn) → IfSome left (λ t. t ≡ turn) → (left ≡ None) ⊎ (left ≡ Some turn)
kept_turn turn None kept = inl refl
kept_turn turn (Some t) kept = inr (ap (λ (k : Turn). Some k) kept)

module _ (owed left : Option Turn) (chain mid : Chain) where
  -- the repair failed
  pub way_failed : {T U E F : Type 0} (e : E) (f : F) (turn : Option Turn) → Repairs owed left chain mid {T = T} {E = E} (Err e) → MakesWay owed left turn chain mid {T = U} {E = F} (Err f)
  way_failed e f turn repairs = record {
    ok = tt;
    failed = inl repairs.failed;
    owing = repairs.owing;
  }

  -- no turn was made
  pub way_paid : {T U E F : Type 0} (x : T) (y : U) → IsOwing chain owed → Repairs owed left chain mid {T = T} {E = E} (Ok x) → MakesWay owed left None chain mid {T = U} {E = F} (Ok y)
  way_paid x y owing repairs = record {
    ok = (repaired_is x owed left chain mid owing repairs, repairs.paid.1);
    failed = tt;
    owing = repairs.owing;
  }

  -- the log was rotated, or that failed
  pub way_turned : {T U E F : Type 0} (x : T) (turn : Turn) (behind : Option Turn) (next : Chain) (result : Result U F) → IsOwing chain owed → Repairs owed left chain mid {T = T} {E = E} (Ok x) → TurnsOver turn behind mid next result → MakesWay owed behind (Some turn) chain next result
  way_turned {U = U} {F = F} x turn behind next result owing repairs turns = by_result result turns
    where
      is : mid ≡ repaired owed chain
      is = repaired_is x owed left chain mid owing repairs

      owes : IsOwing mid None
      owes = subst (IsOwing mid) repairs.paid.1 repairs.owing

      by_result : (r : Result U F) → TurnsOver turn behind mid next r → MakesWay owed behind (Some turn) chain next r
      by_result (Ok y) over = record {
        ok = (over.chain ∙ ap turned is, over.paid);
        failed = tt;
        owing = over.owing owes repairs.paid.0;
      }
      by_result (Err f) over = record {
        ok = tt;
        failed = inr (over.chain ∙ is, refl, kept_turn turn behind over.kept);
        owing = over.owing owes repairs.paid.0;
      }

-- ---- the files

-- what a replace leaves of another file
put_else : (file n : Name) (text : List ℕ) (old new : Folder) → n ≢ file → IsPut file text old new → new n ≡ old n
put_else file n text old new other put =
    ⊎_elim (λ is. ap (λ (f : Folder). f n) is) (λ is. ap (λ (f : Folder). f n) is ∙ with_else old file (Some text) n other) put

not_log : (turn : Option Turn) (n : Name) → (IsOfLog turn n → ⊥) → n ≢ name.Log
not_log turn name.Log other = λ e. other tt
not_log turn n other = λ e. cc

repair_beside : {T E : Type 0} (owed turn : Option Turn) (log : LogFile) (result : Result T E) (old new : Folder) → RepairsFiles owed log result old new → KeepsBeside turn old new
repair_beside None turn log result old new heals n other = heals.others n (not_log turn n other)
repair_beside (Some made) turn log result old new puts n other = put_else name.Log n made.new old new (not_log turn n other) (puts_either name.Log made.new result old new puts)

old_beside : (turn : Turn) (old : Folder) → KeepsBeside (Some turn) old (with_old turn old)
old_beside turn old name.Index other = absurd (other refl)
old_beside turn old name.Log2 other = absurd (other refl)
old_beside turn old n other = with_else (with_index turn old) name.Log2 (Some turn.old) n (λ e. cc) ∙ with_else old name.Index (Some turn.index) n (λ e. cc)

first_beside : (turn : Turn) (old new : Folder) → IsBeforeLast turn old new → KeepsBeside (Some turn) old new
first_beside turn old new step name.Index other = absurd (other refl)
first_beside turn old new step name.Log2 other = absurd (other refl)
first_beside turn old new step n other =
    ⊎_elim (λ is. ap (λ (f : Folder). f n) is)
    (λ more. ⊎_elim (λ is. ap (λ (f : Folder). f n) is ∙ with_else old name.Index (Some turn.index) n (λ e. cc)) (λ is. ap (λ (f : Folder). f n) is ∙ old_beside turn old n other) more) step

new_beside : (turn : Turn) (old new : Folder) → new ≡ with_new turn old → KeepsBeside (Some turn) old new
new_beside turn old new is n other =
    ap (λ (f : Folder). f n) is ∙ with_else (with_old turn old) name.Log (Some turn.new) n (not_log (Some turn) n other) ∙ old_beside turn old n other

turn_beside : {T E : Type 0} (turn : Turn) (left : Option Turn) (result : Result T E) (old new : Folder) → TurnsFiles turn left result old new → KeepsBeside (Some turn) old new
turn_beside turn None (Ok x) old new is = new_beside turn old new is
turn_beside turn (Some kept) (Ok x) old new is = new_beside turn old new is
turn_beside turn None (Err e) old new some = first_beside turn old new some
turn_beside turn (Some kept) (Err e) old new put =
    λ n other. put_else name.Log n turn.new (with_old turn old) new (not_log (Some turn) n other) put ∙ old_beside turn old n other

new_log : {T E : Type 0} (turn : Turn) (left : Option Turn) (result : Result T E) (old new : Folder) → TurnsFiles turn left result old new → OnOk result (new name.Log ≡ Some turn.new)
new_log turn None (Ok x) old new is = ap (λ (f : Folder). f name.Log) is ∙ with_here (with_old turn old) name.Log (Some turn.new)
new_log turn (Some kept) (Ok x) old new is = ap (λ (f : Folder). f name.Log) is ∙ with_here (with_old turn old) name.Log (Some turn.new)
new_log turn left (Err e) old new some = tt

-- the repair failed
pub failed_in : {T U E F : Type 0} (result : Result T E) (f : F) (owed turn : Option Turn) (log : LogFile) (old new : Folder) → RepairsFiles owed log result old new → MakesWayIn turn {T = U} {E = F} (Err f) old new
failed_in result f owed turn log old new repairs = record { others = repair_beside owed turn log result old new repairs; turned = tt }

-- no turn was made
pub paid_in : {T U E F : Type 0} (result : Result T E) (y : U) (owed : Option Turn) (log : LogFile) (old new : Folder) → RepairsFiles owed log result old new → MakesWayIn None {T = U} {E = F} (Ok y) old new
paid_in result y owed log old new repairs = record { others = repair_beside owed None log result old new repairs; turned = tt }

-- the log was rotated, or that failed
pub turned_in : {T U E F : Type 0} (owed : Option Turn) (log : LogFile) (first : Result T E) (turn : Turn) (left : Option Turn) (result : Result U F) (old mid new : Folder)
    → RepairsFiles owed log first old mid → TurnsFiles turn left result mid new → MakesWayIn (Some turn) result old new
turned_in owed log first turn left result old mid new repairs turns = record {
  others = λ n other. turn_beside turn left result mid new turns n other ∙ repair_beside owed (Some turn) log first old mid repairs n other;
  turned = new_log turn left result mid new turns;
}

mails_of : (old new : Folder) → KeepsMessages old new → KeepsMails old new
mails_of old new keeps = record { cache = keeps.cache; mails = keeps.mail }

repair_messages : {T E : Type 0} (owed : Option Turn) (log : LogFile) (result : Result T E) (old new : Folder) → RepairsFiles owed log result old new → KeepsMessages old new
repair_messages None log result old new heals = beside_log old new heals.others
repair_messages (Some turn) log result old new puts = beside_put name.Log turn.new old new of_log (puts_either name.Log turn.new result old new puts)

pub repair_mails : {T E : Type 0} (owed : Option Turn) (log : LogFile) (result : Result T E) (old new : Folder) → RepairsFiles owed log result old new → KeepsMails old new
repair_mails owed log result old new repairs = mails_of old new (repair_messages owed log result old new repairs)

-- ---- what a crash leaves

-- a rotation failed
left_turned : (owed left : Option Turn) (turn : Turn) (chain next : Chain) (debt : Debt) → next ≡ repaired owed chain → IfSome left (λ t. t ≡ turn) → IsLeftOnWay owed left (Some turn) chain next debt (debt_of left)
left_turned owed None turn chain next debt paid kept = inr (inl (paid, refl, refl, refl))
left_turned owed (Some t) turn chain next debt paid kept = inr (inr (paid, refl, ap (λ (k : Turn). Some k) kept, ap (λ (k : Turn). Last k.new) kept))

fits_behind : (left : Option Turn) → Fits left (debt_of left)
fits_behind None = tt
fits_behind (Some turn) = refl

module _ {S : Type 0} (sees : SeesFolder S) (log : Log) (debt : Debt) (chain mid : Chain) (old between : S) where
  since_repair : {T E : Type 0} (turn : Option Turn) (result : Result T E) → RepairsQuietly sees log debt chain mid result old between → LeavesOnly sees old between (MayGiveOn log debt turn chain)
  since_repair turn result quiet = weaker sees old between (MayGive log debt chain) (MayGiveOn log debt turn chain) quiet.since (λ c gives. inl gives)

  pub quiet_failed : {T U E F : Type 0} (e : E) (f : F) (owed left turn : Option Turn) → (mid ≡ chain) × (left ≡ owed) → Fits owed debt → RepairsQuietly sees log debt chain mid {T = T} {E = E} (Err e) old between
      → MakesWayQuietly sees log debt turn (held old chain owed) (held between mid left) {T = U} {E = F} (Err f)
  quiet_failed e f owed left turn same fits quiet = record {
    since = since_repair turn (Err e) quiet;
    ok = tt;
    err = (debt, inl (same.0, same.1, refl), subst (λ (o : Option Turn). Fits o debt) (sym same.1) fits, quiet.err);
  }

  pub quiet_paid : {T U E F : Type 0} (x : T) (y : U) (owed left : Option Turn) → RepairsQuietly sees log debt chain mid {T = T} {E = E} (Ok x) old between → MakesWayQuietly sees log debt None (held old chain owed) (held between mid left) {T = U} {E = F} (Ok y)
  quiet_paid x y owed left quiet = record { since = since_repair None (Ok x) quiet; ok = quiet.ok; err = tt }

  pub quiet_turned : {T U E F : Type 0} (x : T) (owed : Option Turn) (turn : Turn) (left : Option Turn) (next : Chain) (new : S) (result : Result U F) → owed ≡ None → mid ≡ repaired owed chain → TurnsOver turn left mid next result
      → RepairsQuietly sees log debt chain mid {T = T} {E = E} (Ok x) old between → TurnsOverQuietly sees log turn left mid next between new
      → MakesWayQuietly sees log debt (Some turn) (held old chain owed) (held new next left) result
  quiet_turned {U = U} {F = F} x owed turn left next new result none paid over quiet turns = record {
    since = joined sees old between new (MayGiveOn log debt (Some turn) chain) (since_repair (Some turn) (Ok x) quiet)
        (weaker sees between new (MayGive log (Last turn.new) mid) (MayGiveOn log debt (Some turn) chain) turns.since gives);
    ok = ok_by result over.paid;
    err = err_by result over;
  }
    where
      is : mid ≡ healed chain
      is = paid ∙ ap (λ (o : Option Turn). repaired o chain) none

      gives : (c : Folder) → MayGive log (Last turn.new) mid c → MayGiveOn log debt (Some turn) chain c
      gives c found = ⊎_elim (λ here. inl (gives_now log debt chain c here)) (λ there. inr (refl, there)) (subst (λ (k : Chain). MayGive log (Last turn.new) k c) is found)

      ok_by : (r : Result U F) → OnOk r (left ≡ None) → OnOk r (Stands sees log Nothing next new)
      ok_by (Ok y) none = subst (λ (o : Option Turn). Stands sees log (debt_of o) next new) none turns.stands
      ok_by (Err f) none = tt

      err_by : (r : Result U F) → TurnsOver turn left mid next r → OnErr r ((now : Debt) × IsLeftOnWay owed left (Some turn) chain next debt now × Fits left now × Stands sees log now next new)
      err_by (Ok y) behind = tt
      err_by (Err f) behind = (debt_of left, left_turned owed left turn chain next debt (behind.chain ∙ paid) behind.kept, fits_behind left, turns.stands)
