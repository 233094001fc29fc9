-- A run may begin from a folder that one left before its first line.
use Rattle.std.proofs.Common.{◌≡◌, ⊎_elim, ℕ, ◌<◌, ◌^◌, List, Option, Some, sym, ◌∙◌, ap, subst, arith}
use Rattle.dv_shelf.specs.declared.shelf.Name.TheVariants as name
use Rattle.dv_shelf.specs.Folders.{Folder, IsNew}
use Rattle.dv_shelf.proofs.FolderLemmas.{with_else, with_here}
use Rattle.dv_logfile.specs.Scans.{Good, IsScanned}
use Rattle.dv_openings.specs.Numbers.{HasIndexid}
use Rattle.dv_openings.specs.Openings.{Finds, IsFound}
use Rattle.dv_openings.specs.Rebuilds.{stamp_of}
use Rattle.dv_openings.specs.TrueCaches.{HasTrueCache}
use Rattle.dv_openings.proofs.Numbers.{mailbox_one, named_one}
use Rattle.dv_chain.specs.Creations.{IsOldOrCreated, created, first_log, first_mailbox}
use Rattle.dv_chain.specs.Openings.{IsQuiet}
use Rattle.dv_chain.proofs.Created.{first_file, first_found, first_scanned}
use Rattle.dv_writing.proofs.Kept.{kept_same, same_messages}
use Rattle.dv_serving.specs.NextRuns.{IsTrueFolder}
use Rattle.dv_beginning.specs.Starts.{first_mark, log_from, new_log}
use Rattle.dv_beginning.proofs.Starting.{keeps_itself, keeps_none, quiet_messages}

-- a folder without a log has no mailbox
pub new_true : (c : Folder) → IsNew c → IsTrueFolder c
new_true c new = λ indexid m mark named found. absurd (subst (λ (file : Option (List ℕ)). IsScanned file (Good named.log)) new.log named.scanned)

-- one that opens to the same, with the same cache and messages
pub quiet_true : (old c : Folder) → IsTrueFolder old → IsQuiet old c → IsTrueFolder c
quiet_true old c is_true quiet = λ indexid m mark named found.
    let cache = is_true indexid m mark ((quiet.named indexid).1 named) ((quiet.opens (Finds m mark)).1 found) in
    (kept_same (log_from indexid m mark old) m old c (same_messages m old c (quiet_messages old c quiet)) (keeps_itself indexid m mark old cache)).cache

-- a mailbox that was made
created_log : (old c : Folder) (now : ℕ) → c ≡ created old now → c name.Log ≡ Some (first_log (stamp_of now))
created_log old c now put = ap (λ (d : Folder). d name.Log) put ∙ with_here old name.Log (Some (first_log (stamp_of now)))

pub created_named : (old c : Folder) (now : ℕ) → stamp_of now < 2 ^ 32 → c ≡ created old now → HasIndexid c (stamp_of now)
created_named old c now small put = λ indexid named.
    let n = stamp_of now in
    let file = first_file n (omega arith) small in
    named_one c indexid n named (record {
      log = file.0;
      scanned = first_scanned n (omega arith) small c (created_log old c now put);
      is = sym (ap (λ h. h.indexid) file.1.header);
    })

-- it has no message
created_true : (old c : Folder) (now : ℕ) → stamp_of now < 2 ^ 32 → IsNew old → c ≡ created old now → IsTrueFolder c
created_true old c now small new put = λ indexid m mark named found.
    let n = stamp_of now in
    let at : (other : _) → (other ≡ name.Log → ⊥) → c other ≡ old other = λ other apart. ap (λ (d : Folder). d other) put ∙ with_else old name.Log (Some (first_log n)) other apart in
    let first : IsFound c (Finds (first_mailbox n) first_mark) = first_found n (omega arith) small c (created_log old c now put) (at name.Index (λ e. cc) ∙ new.index) (at name.Log2 (λ e. cc) ∙ new.log2) in
    let same : first_mailbox n ≡ m = mailbox_one c (first_mailbox n) m first_mark mark first found in
    subst (HasTrueCache c indexid) same (keeps_none (record (new_log now old) { indexid = indexid }) n c).cache

-- what is left of a folder that is made is that, or as it was
pub made_true : (old c : Folder) (now : ℕ) → stamp_of now < 2 ^ 32 → IsNew old → IsOldOrCreated old now c → IsTrueFolder c
made_true old c now small new either = ⊎_elim (λ same. new_true c (subst IsNew (sym same) new)) (created_true old c now small new) either
