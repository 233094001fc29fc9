-- What the write of a heal comes to.
use Rattle.std.proofs.Common.{◌≡◌, ℕ, true, false, ◌+◌, ◌≤◌, List, [], ◌∷◌, length, Result, Ok, Err, IsErr, sym, ◌∙◌, ap, subst}
use Rattle.dv_shelf.specs.declared.shelf.Name.TheVariants.{Log}
use Rattle.dv_shelf.specs.Crashes.{LeavesOnly}
use Rattle.dv_shelf.specs.Folders.{Folder, contents}
use Rattle.dv_shelf.proofs.Moments.{started}
use Rattle.dv_logfile.specs.declared.commit.Debt.{Debt}
use Rattle.dv_logfile.specs.declared.commit.Debt.TheVariants as debt
use Rattle.dv_logfile.specs.declared.commit.LogFile.{LogFile}
use Rattle.dv_logfile.specs.Layout.{IsGroupText, longest_log}
use Rattle.dv_logfile.specs.Gates.{FromOneOf, IsStaged}
use Rattle.dv_logfile.specs.Reading.{IsAtRest, ReadsLeft}
use Rattle.dv_logfile.specs.Commits.{WritesSynced, ReadsHealed}
use Rattle.dv_shelf.proofs.Moments.{weaker}
use Rattle.dv_logfile.proofs.Reading.{reads_none, heal_either, heal_reads, heal_shut, owed_long, group_stays, staged_reads}
use Rattle.dv_shelf.specs.Sees.{SeesFolder}

-- with the debt that is owed
owed_rest : (d : Debt) (e : ℕ) (text : List ℕ) (images : Folder → Type 0) → d ≡ debt.Gate → IsAtRest d e text images → IsAtRest debt.Gate e text images
owed_rest d e text images due rest = subst (λ (k : Debt). IsAtRest k e text images) due rest

module _ {S : Type 0} {sees : SeesFolder S} (text : List ℕ) (group : IsGroupText text) (log : LogFile) where
  -- nothing was owed
  pub nothing_read : {E : Type 0} (s : S) (due : log.debt ≡ debt.None) → IsAtRest log.debt log.end text (sees.may_leave s) → ((c : Folder) → sees.left_since s (sees.moment s) c → sees.may_leave s c)
      → ReadsHealed sees text log log {T = Unit {0}} {E = E} (Ok tt) s s
  nothing_read s due rest now =
      let shut = subst (λ (d : Debt). IsAtRest d log.end text (sees.may_leave s)) due rest in
      record {
        since = λ owed. let never : debt.None ≡ debt.Gate = sym due ∙ owed in cc;
        rest = rest;
        reading = λ room. started sees s (FromOneOf (sees.may_leave s) (ReadsLeft log.debt log.end text))
            (λ c left. (c, now c left, subst (λ (d : Debt). ReadsLeft d log.end text c c) (sym due) (reads_none c log.end (shut c (now c left)))));
        reads_old = λ room c left. (c, left, reads_none c log.end (shut c left));
      }

  module _ {s0 s2 : S} {U F : Type 0} (due : log.debt ≡ debt.Gate) (rest : IsAtRest log.debt log.end text (sees.may_leave s0)) where
    module _ {result : Result U F} (write : WritesSynced sees log.end (0 ∷ []) result s0 s2) where
      heal_since : LeavesOnly sees s0 s2 (FromOneOf (sees.may_leave s0) (λ d c. IsStaged d log.end text c))
      heal_since = weaker sees s0 s2 _ (FromOneOf (sees.may_leave s0) (λ d f. IsStaged d log.end text f)) write.since (heal_either log.end text group (sees.may_leave s0) (owed_rest log.debt log.end text (sees.may_leave s0) due rest))

      heal_reading : log.end + length text ≤ longest_log → LeavesOnly sees s0 s2 (FromOneOf (sees.may_leave s0) (ReadsLeft log.debt log.end text))
      heal_reading room = subst (λ (d : Debt). LeavesOnly sees s0 s2 (FromOneOf (sees.may_leave s0) (ReadsLeft d log.end text))) (sym due)
          (weaker sees s0 s2 _ _ heal_since (staged_reads log.end text group room (sees.may_leave s0) (owed_long log.end text (sees.may_leave s0) (owed_rest log.debt log.end text (sees.may_leave s0) due rest))))

    -- the write or its sync failed
    pub healing_failed : {T E : Type 0} {f : F} (result : Result T E) → WritesSynced sees log.end (0 ∷ []) {T = U} (Err f) s0 s2
        → IsErr result → ReadsHealed sees text log log result s0 s2
    healing_failed (Ok done) write never = let no : false ≡ true = never in cc
    healing_failed (Err fault) write never = record { since = λ is. heal_since write; rest = still; reading = heal_reading write; reads_old = λ room. tt }
      where
        still : IsAtRest log.debt log.end text (sees.may_leave s2)
        still = subst (λ (d : Debt). IsAtRest d log.end text (sees.may_leave s2)) (sym due)
            (λ c left. let from = heal_either log.end text group (sees.may_leave s0) (owed_rest log.debt log.end text (sees.may_leave s0) due rest) c (write.crash c left) in group_stays from.0 c log.end text from.2 (owed_rest log.debt log.end text (sees.may_leave s0) due rest from.0 from.1).0)

    pub healed : {done : U} (write : WritesSynced sees log.end (0 ∷ []) {E = F} (Ok done) s0 s2)
        → ReadsHealed sees text log (record log { debt = debt.None }) {E = F} (Ok done) s0 s2
    healed write =
        let there = ap (λ (F : Folder). F Log) write.ok in
        record {
          since = λ is. heal_since write;
          rest = λ c left. heal_shut c log.end (contents (sees.files s0) Log) (write.durable c left ∙ there);
          reading = heal_reading write;
          reads_old = λ room. heal_reads log.end text (contents (sees.files s0) Log) group room (sees.may_leave s0) (sees.may_leave s2) (owed_rest log.debt log.end text (sees.may_leave s0) due rest) write.crash (λ c left. write.durable c left ∙ there);
        }
