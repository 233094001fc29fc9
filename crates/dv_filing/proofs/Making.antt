-- What comes before a write's own files: a repair, and a rotation.
use Rattle.std.proofs.Common.{◌≡◌, inl, inr, ⊎_elim, ℕ, List, Option, Some, None, Result, Ok, Err, OnOk, OnErr, refl, sym, ◌∙◌, ap, subst}
use Rattle.dv_model.specs.declared.types.Mailbox.{Mailbox}
use Rattle.dv_shelf.specs.Crashes.{LeavesOnly}
use Rattle.dv_shelf.specs.Folders.{Folder}
use Rattle.dv_shelf.specs.Sees.{SeesFolder}
use Rattle.dv_shelf.proofs.Moments.{joined, weaker}
use Rattle.dv_chain.specs.declared.chain.Chain.{Chain}
use Rattle.dv_chain.specs.Rest.{Last, Nothing, Owed}
use Rattle.dv_files.specs.declared.texts.Turn.{Turn}
use Rattle.dv_files.specs.Texts.{Advances}
use Rattle.dv_writing.specs.Turning.{TurnsOver}
use Rattle.dv_writing.specs.Ways.{healed, held, repaired}
use Rattle.dv_filing.specs.Standing.{Fits, MayGive, PaysQuietly, Stands, TurnsQuietly, owed_of}
use Rattle.dv_filing.specs.Ways.{IsOwedOnWay, MakesWayQuietly, MayGiveOn}
use Rattle.dv_filing.proofs.Resting.{gives_now}
use Rattle.dv_maps.specs.Texts.{Messages}

-- a rotation keeps the map
pub advanced_live : {T E : Type 0} (old new : Chain) (result : Result T E) → Advances old new result → new.live ≡ old.live
advanced_live old new (Ok x) is = ap (λ (k : Chain). k.live) is
advanced_live old new (Err e) is = ap (λ (k : Chain). k.live) is

fits_behind : (left : Option Turn) (m n : Mailbox) → n ≡ m → Fits left n (owed_of left m)
fits_behind None m n same = tt
fits_behind (Some turn) m n same = (refl, sym same)

owed_behind : (left : Option Turn) (owed : Owed) (m : Mailbox) → IsOwedOnWay owed m (owed_of left m)
owed_behind None owed m = inr (inl refl)
owed_behind (Some turn) owed m = inr (inr (turn.new, refl))

module _ {S : Type 0} (sees : SeesFolder S) (messages : Messages) (debt : Owed) (chain mid : Chain) (old between : S) where
  since_repair : {T E : Type 0} (turn : Option Turn) (result : Result T E) → PaysQuietly sees messages debt chain mid result old between → LeavesOnly sees old between (MayGiveOn messages debt turn chain)
  since_repair turn result quiet = weaker sees old between (MayGive messages debt chain) (MayGiveOn messages debt turn chain) quiet.since (λ c gives. inl gives)

  -- the repair failed
  pub quiet_failed : {T U E F : Type 0} (e : E) (f : F) (owed left turn : Option Turn) → (mid ≡ chain) × (left ≡ owed) → Fits owed chain.live.mailbox debt → PaysQuietly sees messages debt chain mid {T = T} {E = E} (Err e) old between
      → MakesWayQuietly sees messages debt turn (held old chain owed) (held between mid left) {T = U} {E = F} (Err f)
  quiet_failed e f owed left turn same fits quiet = record {
    since = since_repair turn (Err e) quiet;
    ok = tt;
    err = (debt, inl refl, subst (λ (o : Option Turn). Fits o mid.live.mailbox debt) (sym same.1) (subst (λ (k : Chain). Fits owed k.live.mailbox debt) (sym same.0) fits), quiet.err);
  }

  -- no turn was made
  pub quiet_paid : {T U E F : Type 0} (x : T) (y : U) (owed left : Option Turn) → PaysQuietly sees messages debt chain mid {T = T} {E = E} (Ok x) old between → MakesWayQuietly sees messages debt None (held old chain owed) (held between mid left) {T = U} {E = F} (Ok y)
  quiet_paid x y owed left quiet = record { since = since_repair None (Ok x) quiet; ok = quiet.ok; err = tt }

  -- the log was rotated, or that failed
  pub quiet_turned : {T U E F : Type 0} (x : T) (owed : Option Turn) (turn : Turn) (left : Option Turn) (next : Chain) (new : S) (result : Result U F) → owed ≡ None → mid ≡ repaired owed chain → next.live ≡ mid.live → TurnsOver turn left mid next result
      → PaysQuietly sees messages debt chain mid {T = T} {E = E} (Ok x) old between → TurnsQuietly sees messages turn left mid next between new
      → MakesWayQuietly sees messages debt (Some turn) (held old chain owed) (held new next left) result
  quiet_turned {U = U} {F = F} x owed turn left next new result none paid live over quiet turns = record {
    since = joined sees old between new (MayGiveOn messages debt (Some turn) chain) (since_repair (Some turn) (Ok x) quiet)
        (weaker sees between new (MayGive messages (Last turn.new mid.live.mailbox) mid) (MayGiveOn messages debt (Some turn) chain) turns.since gives);
    ok = ok_by result over.paid;
    err = err_by result;
  }
    where
      is : mid ≡ healed chain
      is = paid ∙ ap (λ (o : Option Turn). repaired o chain) none

      same : mid.live.mailbox ≡ chain.live.mailbox
      same = λ i. (is i).live.mailbox

      gives : (c : Folder) → MayGive messages (Last turn.new mid.live.mailbox) mid c → MayGiveOn messages debt (Some turn) chain c
      gives c found =
          ⊎_elim (λ here. inl (gives_now messages debt chain c here)) (λ there. inr (refl, there))
          (subst (λ (k : Chain). MayGive messages (Last turn.new k.live.mailbox) k c) is found)

      ok_by : (r : Result U F) → OnOk r (left ≡ None) → OnOk r (Stands sees messages Nothing next new)
      ok_by (Ok y) none = subst (λ (o : Option Turn). Stands sees messages (owed_of o mid.live.mailbox) next new) none turns.stands
      ok_by (Err f) none = tt

      err_by : (r : Result U F) → OnErr r ((now : Owed) × IsOwedOnWay debt chain.live.mailbox now × Fits left next.live.mailbox now × Stands sees messages now next new)
      err_by (Ok y) = tt
      err_by (Err f) = (
        owed_of left mid.live.mailbox,
        subst (λ (k : Mailbox). IsOwedOnWay debt k (owed_of left mid.live.mailbox)) same (owed_behind left debt mid.live.mailbox),
        fits_behind left mid.live.mailbox next.live.mailbox (λ i. (live i).mailbox),
        turns.stands,
      )
