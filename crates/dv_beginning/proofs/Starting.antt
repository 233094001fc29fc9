-- The log that a run starts from.
use Rattle.std.proofs.Common.{◌≡◌, ⊎_elim, ℕ, ◌+◌, zero, suc, true, [], Contains, refl, sym, ap, subst, arith}
use Rattle.std.specs.Prelude.{IsSome}
use Rattle.std.proofs.Math.Path.{fun_ext}
use Rattle.std.proofs.lemmas.List.Elements.{All-nil}
use Rattle.dv_model.specs.declared.types.Mailbox.{Mailbox}
use Rattle.dv_model.specs.declared.types.Mark.{Mark}
use Rattle.dv_model.specs.declared.types.Row.{Row}
use Rattle.dv_model.specs.Journals.{HasResets, IsEntry, IsSound, IsU32, Log, at}
use Rattle.dv_model.specs.Mailboxes.{IsValid}
use Rattle.dv_shelf.specs.declared.shelf.Name.TheVariants as name
use Rattle.dv_shelf.specs.Clocks.{behind}
use Rattle.dv_shelf.specs.Folders.{Folder}
use Rattle.dv_openings.specs.Numbers.{IsNamed}
use Rattle.dv_openings.specs.Openings.{Finds, IsFound}
use Rattle.dv_openings.specs.TrueCaches.{HasTrueCache}
use Rattle.dv_openings.proofs.Numbers.{named_one}
use Rattle.dv_chain.specs.declared.chain.Chain.{Chain}
use Rattle.dv_chain.specs.Creations.{first_mailbox}
use Rattle.dv_chain.specs.Openings.{IsQuiet}
use Rattle.dv_writing.specs.Keeping.{Gives, Keeps}
use Rattle.dv_writing.proofs.Kept.{KeepsMessages, kept_same, same_messages}
use Rattle.dv_serving.specs.NextRuns.{IsTrueFolder}
use Rattle.dv_beginning.specs.Starts.{IsOpened, Starts, log_from, new_log}
use Rattle.dv_beginning.proofs.GuidFiles.{guid_read}

-- ---- a clock's readings

pub behind_none : (clock : ℕ → ℕ) → clock ≡ behind clock 0
behind_none clock = fun_ext (λ k. ap clock (same k))
  where
    same : (k : ℕ) → k ≡ 0 + k
    same k = omega arith

pub behind_both : (clock : ℕ → ℕ) (n m : ℕ) → behind (behind clock n) m ≡ behind clock (n + m)
behind_both clock n m = fun_ext (λ k. ap clock (same k))
  where
    same : (k : ℕ) → n + (m + k) ≡ n + m + k
    same k = omega arith

-- ---- it is sound, has no entry and rotates

-- a chain's mailbox is valid, and its numbers are those of their types
pub record IsTyped (chain : Chain) : Type 0 where
  pub valid : IsValid chain.live.mailbox
  pub resets : HasResets chain.live.mailbox
  pub place : IsU32 chain.log.file_seq × IsU32 chain.log.end
  pub indexid : IsU32 chain.indexid

pub sound_from : (indexid : ℕ) (m : Mailbox) (mark : Mark) (folder : Folder) → IsValid m → HasResets m → IsU32 mark.file_seq × IsU32 mark.offset → IsU32 indexid → IsSound (log_from indexid m mark folder)
sound_from indexid m mark folder valid resets place number = record {
  start = (valid, resets);
  start_mark = place;
  indexid = number;
  guids = λ uid. guid_read (folder (name.Mail uid));
  entries = All-nil IsEntry;
  mailboxes = λ k le. none_behind k;
}
  where
    none_behind : (k : ℕ) → IsSome (at (log_from indexid m mark folder) k)
    none_behind zero = refl
    none_behind (suc k) = refl

pub record IsBare (log : Log) : Type 0 where
  pub rotates : log.rotates ≡ true
  pub entries : log.entries ≡ []

bare_from : (indexid : ℕ) (m : Mailbox) (mark : Mark) (folder : Folder) (log : Log) → log ≡ log_from indexid m mark folder → IsBare log
bare_from indexid m mark folder log is = record { rotates = ap (λ (l : Log). l.rotates) is; entries = ap (λ (l : Log). l.entries) is }

pub start_bare : (clock : ℕ → ℕ) (folder : Folder) (start : Log) (used : ℕ) → Starts clock folder start used → IsBare start
start_bare clock folder start used =
    ⊎_elim (λ opened. bare_from opened.0.indexid opened.0.mailbox opened.0.mark folder start opened.0.is)
    (λ new. bare_from (new_log (clock 0) folder).indexid (new_log (clock 0) folder).start (new_log (clock 0) folder).start_mark folder start new.1)

-- ---- what a folder gives

pub quiet_messages : (old c : Folder) → IsQuiet old c → KeepsMessages old c
quiet_messages old c quiet = record { cache = quiet.others name.Cache (λ e. cc); mail = λ uid. quiet.others (name.Mail uid) (λ e. cc) }

pub quiet_same : (old c : Folder) → c ≡ old → IsQuiet old c
quiet_same old c is = record {
  opens = λ f. (λ found. subst (λ (d : Folder). IsFound d f) (sym is) found, λ found. subst (λ (d : Folder). IsFound d f) is found);
  named = λ indexid. (λ named. subst (λ (d : Folder). IsNamed d indexid) (sym is) named, λ named. subst (λ (d : Folder). IsNamed d indexid) is named);
  others = λ n other. ap (λ (d : Folder). d n) is;
}

-- messages of the folder itself, and a cache that is true
pub keeps_itself : (indexid : ℕ) (m : Mailbox) (mark : Mark) (folder : Folder) → HasTrueCache folder indexid m → Keeps (log_from indexid m mark folder) m folder
keeps_itself indexid m mark folder cache = record { messages = λ row has. record { held = refl; named = refl }; cache = cache }

pub gives_quiet : (indexid : ℕ) (m : Mailbox) (mark : Mark) (folder c : Folder) → IsNamed folder indexid → IsFound folder (Finds m mark) → HasTrueCache folder indexid m → IsQuiet folder c → Gives (log_from indexid m mark folder) m mark c
gives_quiet indexid m mark folder c named found cache quiet = record {
  opens = (quiet.opens (Finds m mark)).0 found;
  named = λ n other. named_one c n indexid other ((quiet.named indexid).0 named);
  keeps = kept_same (log_from indexid m mark folder) m folder c (same_messages m folder c (quiet_messages folder c quiet)) (keeps_itself indexid m mark folder cache);
}

-- the folder from which a run starts gives its log
pub opened_gives : (folder : Folder) (start : Log) → IsOpened folder start → IsTrueFolder folder → Gives start start.start start.start_mark folder
opened_gives folder start opened is_true =
    subst (λ (log : Log). Gives log log.start log.start_mark folder) (sym opened.is)
    (gives_quiet opened.indexid opened.mailbox opened.mark folder folder opened.named opened.found (is_true opened.indexid opened.mailbox opened.mark opened.named opened.found) (quiet_same folder folder refl))

-- a mailbox without rows is kept in every folder
pub keeps_none : (log : Log) (n : ℕ) (c : Folder) → Keeps log (first_mailbox n) c
keeps_none log n c = record { messages = λ row has. absurd (none row has); cache = λ row cached has found. absurd (none row has) }
  where
    none : (row : Row) → Contains (first_mailbox n).rows row → ⊥
    none row has = omega (arith, has.1)
