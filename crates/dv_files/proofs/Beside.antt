-- A chain rests whatever its folder's message files are.
use Rattle.std.proofs.Common.{◌≡◌, ◌≢◌, inl, inr, ⊎_elim, ℕ, true, false, Bool, ◌||◌, List, [], ◌∷◌, ◌++◌, take, cond, Option, Some, None, refl, sym, ◌∙◌, ap, subst}
use Rattle.std.specs.Prelude.{unwrap_or}
use Rattle.dv_shelf.specs.declared.shelf.Name.{Name}
use Rattle.dv_shelf.specs.declared.shelf.Name.TheVariants as name
use Rattle.dv_shelf.specs.Folders.{Folder, contents, has_name, same_name, with_file}
use Rattle.dv_shelf.proofs.FolderLemmas.{same_is, with_else}
use Rattle.dv_shelf.proofs.Moments.{weaker}
use Rattle.dv_logfile.specs.Gates.{FromOneOf}
use Rattle.dv_logfile.specs.Layout.{Begins, closing}
use Rattle.dv_logfile.specs.Reading.{HasGroup, HasShutGate}
use Rattle.dv_openings.specs.Numbers.{OpensAs}
use Rattle.dv_openings.specs.Openings.{Found, IfGood, IsFound, IsIndex}
use Rattle.dv_logfile.specs.Scans.{IsScanned}
use Rattle.dv_chain.specs.declared.chain.Chain.{Chain}
use Rattle.dv_chain.specs.Rest.{Holds, HoldsAlone, IsResting, Last, Nothing, Owed, Pending, Rests, StandsOn, cut_at}
use Rattle.dv_chain.proofs.Named.{same_named}
use Rattle.dv_files.specs.Leavings.{IsPut, Leaves}
use Rattle.dv_files.specs.Resting.{KeepsRest}
use Rattle.dv_files.specs.Writing.{IsSwept, mail_names}
use Rattle.dv_shelf.specs.Sees.{SeesFolder}

-- ---- folders that differ in message files alone

-- the index and the logs are as before
pub record KeepsIndex (old new : Folder) : Type 0 where
  pub index : new name.Index ≡ old name.Index
  pub log : new name.Log ≡ old name.Log
  pub log2 : new name.Log2 ≡ old name.Log2

file_beside : (old new : Folder) (uid : ℕ) (file : Option (List ℕ)) → new ≡ with_file old (name.Mail uid) file → KeepsIndex old new
file_beside old new uid file is =
    let at : (n : Name) → n ≢ name.Mail uid → new n ≡ old n = λ n other. ap (λ (f : Folder). f n) is ∙ with_else old (name.Mail uid) file n other in
    record { index = at name.Index (λ e. cc); log = at name.Log (λ e. cc); log2 = at name.Log2 (λ e. cc) }

pub put_beside : (uid : ℕ) (text : List ℕ) (old new : Folder) → IsPut (name.Mail uid) text old new → KeepsIndex old new
put_beside uid text old new put =
    ⊎_elim (λ same. record { index = ap (λ (f : Folder). f name.Index) same; log = ap (λ (f : Folder). f name.Log) same; log2 = ap (λ (f : Folder). f name.Log2) same })
    (λ there. file_beside old new uid (Some text) there) put

pub none_named : (n : Name) → ((uid : ℕ) → name.Mail uid ≢ n) → (uids : List ℕ) → has_name (mail_names uids) n ≡ false
none_named n other [] = refl
none_named n other (uid ∷ uids) = ap (λ (b : Bool). b || has_name (mail_names uids) n) (by_name (same_name (name.Mail uid) n) refl) ∙ none_named n other uids
  where
    by_name : (b : Bool) → same_name (name.Mail uid) n ≡ b → b ≡ false
    by_name true same = absurd (other uid (same_is (name.Mail uid) n same))
    by_name false away = refl

pub swept_beside : (uids : List ℕ) (old new : Folder) → IsSwept uids old new → KeepsIndex old new
swept_beside uids old new is =
    let at : (n : Name) → ((uid : ℕ) → name.Mail uid ≢ n) → new n ≡ old n = λ n other.
    ap (λ (f : Folder). f n) is ∙ ap (λ (b : Bool). cond b None (old n)) (none_named n other uids) in
    record { index = at name.Index (λ uid e. cc); log = at name.Log (λ uid e. cc); log2 = at name.Log2 (λ uid e. cc) }

-- ---- what is found, and what rests

found_beside : (old new : Folder) (f : Found) → KeepsIndex old new → IsFound old f → IsFound new f
found_beside old new f same is = record {
  log = is.log;
  rotated = is.rotated;
  index = is.index;
  log_file = subst (λ (o : Option (List ℕ)). IsScanned o is.log) (sym same.log) is.log_file;
  rotated_file = subst (λ (o : Option (List ℕ)). IfGood is.log (IsScanned o is.rotated)) (sym same.log2) is.rotated_file;
  index_file = subst (λ (o : Option (List ℕ)). IfGood is.log (IsIndex o is.index)) (sym same.index) is.index_file;
  is = is.is;
}

module _ (chain : Chain) (old new : Folder) (same : KeepsIndex old new) where
  text_beside : contents old name.Log ≡ contents new name.Log
  text_beside = ap (λ (o : Option (List ℕ)). unwrap_or o []) (sym same.log)

  stands_beside : StandsOn old chain → StandsOn new chain
  stands_beside stands = record {
    header = stands.header;
    records = stands.records;
    begins = subst (λ (b : List ℕ). Begins stands.header stands.records chain.log.end b) text_beside stands.begins;
    seq = stands.seq;
    count = stands.count;
    indexid = stands.indexid;
    number = stands.number;
  }

  holds_beside : Holds chain old → Holds chain new
  holds_beside holds = record {
    stands = stands_beside holds.stands;
    opens = found_beside (cut_at chain.log.end old) (cut_at chain.log.end new) _
        (record { index = same.index; log = ap (λ (b : List ℕ). Some (take chain.log.end b ++ closing)) (sym text_beside); log2 = same.log2 }) holds.opens;
  }

  alone_beside : HoldsAlone chain old → HoldsAlone chain new
  alone_beside alone = (holds_beside alone.0, subst (λ (b : List ℕ). HasShutGate chain.log.end b) text_beside alone.1)

  named_beside : (number : ℕ) (o n : Folder) (f : Found) → KeepsIndex o n → OpensAs o number f → OpensAs n number f
  named_beside number o n f index is = record { found = found_beside o n f index is.found; named = same_named o n index.log number is.named }

  pub resting_beside : (owed : Owed) → IsResting owed chain old → IsResting owed chain new
  resting_beside Nothing alone = alone_beside alone
  resting_beside (Pending text after) rest = (holds_beside rest.0, subst (λ (b : List ℕ). HasGroup chain.log.end text b) text_beside rest.1)
  resting_beside (Last log after) rest = (
    ⊎_elim (λ alone. inl (alone_beside alone)) (λ there. inr (same.log ∙ there)) rest.0,
    named_beside chain.indexid (with_file old name.Log (Some log)) (with_file new name.Log (Some log)) _ (record { index = same.index; log = refl; log2 = same.log2 }) rest.1,
  )

-- ---- a call

pub rests_beside : {S : Type 0} (sees : SeesFolder S) (old new : S) (behind at_any : Folder → Folder → Type 0) (owed : Owed) (chain : Chain)
    → ((d c : Folder) → behind d c → KeepsIndex d c) → ((d c : Folder) → at_any d c → KeepsIndex d c) → Leaves sees behind at_any old new → Rests sees owed chain old
    → KeepsRest sees owed chain old new
rests_beside sees old new behind at_any owed chain late early leaves rests = record {
  rests = record {
    bounds = rests.bounds;
    owes = rests.owes;
    each = λ c left.
        let from = leaves.crash c left in
        resting_beside chain from.0 c (late from.0 c from.2) owed (rests.each from.0 from.1);
  };
  since = weaker sees old new (FromOneOf (sees.may_leave old) at_any) (IsResting owed chain) leaves.since (λ c from. resting_beside chain from.0 c (early from.0 c from.2) owed (rests.each from.0 from.1));
}
