-- A save goes by its message.
use Rattle.std.proofs.Common.{◌≡◌, ℕ, List, Option, Result, Ok, Err, ap, subst, sym}
use Rattle.std.specs.Prelude.{IsSomeAnd}
use Rattle.dv_model.specs.declared.types.Record.{Record}
use Rattle.dv_shelf.specs.Folders.{counted}
use Rattle.dv_shelf.specs.Sees.{SeesFolder}
use Rattle.dv_plans.specs.Counts.{CountsReads}
use Rattle.dv_maps.specs.declared.place.Place.{Place}
use Rattle.dv_mdbox.specs.declared.tails.Tail.{Tail}
use Rattle.dv_mdbox.specs.States.{State}
use Rattle.dv_mdbox.specs.Tails.{IsEndBehind, IsTail, KeepsEndBehind}
use Rattle.dv_mdbox.specs.Writes.{GoesByMessage, KeepsBeside, WritesGroup}
use Rattle.dv_mdbox.proofs.Ending.{end_known}

module _ {S C : Type 0} (sees : SeesFolder S) (old new : State S C) where
  -- nothing was written
  pub goes_nowhere : {T E : Type 0} (e : E) → sees.mail_reads new.shelf ≡ sees.mail_reads old.shelf → new.tail ≡ old.tail → GoesByMessage sees old new {T = T} {E = E} (Err e)
  goes_nowhere e reads tail = record { mail_reads = ap (λ (n : ℕ). counted n 0) reads; known = tt; kept = tail }

  module _ {A B T E : Type 0} (tail : Option Tail) where
    -- the group was written, and the end of the last file is that of the text
    pub goes_done : (place : Place) (records : List Record) → KeepsEndBehind old.chain.live.mailbox records tail → IsEndBehind old.chain.live.mailbox place tail → (x : A) (y : T) → WritesGroup records old new {T = A} {E = B} (Ok x) → KeepsBeside sees tail old new {T = A} {E = B} (Ok x)
        → GoesByMessage sees old new {T = T} {E = E} (Ok y)
    goes_done place records keeps behind x y writes beside = record {
      mail_reads = beside.mail_reads;
      known = λ is.
          let m = new.chain.live.mailbox in
          subst (λ (t : Option Tail). IsSomeAnd t (IsTail m m.rows)) (sym beside.ok) (end_known old.chain.live.mailbox m place tail behind (keeps m writes.map) is);
      kept = tt;
    }

    -- or that failed
    pub goes_failed : (e : B) (f : E) → KeepsBeside sees tail old new {T = A} {E = B} (Err e) → GoesByMessage sees old new {T = T} {E = E} (Err f)
    goes_failed e f beside = record { mail_reads = beside.mail_reads; known = tt; kept = beside.err }

  -- the clock says nothing of it
  pub goes_clocked : (clock : C) {T E : Type 0} (result : Result T E) → GoesByMessage sees (record old { clock = clock }) new result → GoesByMessage sees old new result
  goes_clocked clock result goes = record { mail_reads = goes.mail_reads; known = goes.known; kept = goes.kept }

  -- nor does a look at the folder
  pub goes_looked : (shelf : S) → sees.mail_reads shelf ≡ sees.mail_reads old.shelf → {T E : Type 0} (result : Result T E) → GoesByMessage sees (record old { shelf = shelf }) new result → GoesByMessage sees old new result
  goes_looked shelf reads result goes = record {
    mail_reads = subst (λ (n : ℕ). CountsReads 0 n (sees.mail_reads new.shelf)) reads goes.mail_reads;
    known = goes.known;
    kept = goes.kept;
  }
