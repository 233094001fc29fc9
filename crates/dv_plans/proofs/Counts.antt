-- Reads of message files, one call behind the other.
use Rattle.std.proofs.Common.{◌≡◌, ℕ, zero, suc, ◌≤◌, ◌&&◌, List, length, Result, Ok, Err, refl, ◌∙◌, ap, arith}
use Rattle.std.specs.Prelude.{count_by, not}
use Rattle.dv_model.specs.declared.types.Command.{Command}
use Rattle.dv_model.specs.declared.types.Command.TheVariants as command
use Rattle.dv_model.specs.declared.types.Mailbox.{Mailbox}
use Rattle.dv_model.specs.Sessions.{has_uid}
use Rattle.dv_shelf.specs.Folders.{Folder, counted}
use Rattle.dv_shelf.specs.Sees.{SeesFolder}
use Rattle.dv_chain.specs.declared.chain.Chain.{Chain}
use Rattle.dv_lookups.specs.Checks.{row_uids}
use Rattle.dv_lookups.specs.Commands.{SparesEach}
use Rattle.dv_plans.specs.Befores.{ReadsFor, reads_of}
use Rattle.dv_plans.specs.Guids.{removed_of}
use Rattle.dv_files.specs.Reading.{after_reads}
use Rattle.dv_plans.specs.Counts.{CountsMails, CountsReads, CountsUpTo}

-- nothing was called
pub none_counted : (n : ℕ) → CountsReads 0 n n
none_counted n = refl

-- a read of another file
pub none_read : (before now : ℕ) → now ≡ counted before 0 → CountsReads 0 before now
none_read before now is = omega (arith, is)

-- no more than none
pub few_counted : (most before now : ℕ) → CountsReads 0 before now → CountsUpTo most before now
few_counted most before now none = (0, omega arith, none)

pub all_counted : (n before now : ℕ) → CountsReads n before now → CountsUpTo n before now
all_counted n before now all = (n, omega arith, all)

-- none behind some
pub reads_then : (n before mid now : ℕ) → CountsReads n before mid → CountsReads 0 mid now → CountsReads n before now
reads_then n before mid now some none = omega (arith, some, none)

-- at most some, and then none
pub upto_then : (n before mid now : ℕ) → CountsUpTo n before mid → CountsReads 0 mid now → CountsUpTo n before now
upto_then n before mid now some none = (some.0, some.1, reads_then some.0 before mid now some.2 none)

-- none of what is spared, and then none
pub spares_then : (folder : Folder) (indexid : ℕ) (m : Mailbox) (uids : List ℕ) (before mid now : ℕ) → SparesEach folder indexid m uids before mid → CountsReads 0 mid now → SparesEach folder indexid m uids before now
spares_then folder indexid m uids before mid now spares none spared are = upto_then (count_by (λ uid. not (spared uid) && has_uid m uid) uids) before mid now (spares spared are) none

counts_of : (before n : ℕ) → counted (after_reads before n) 0 ≡ counted before n
counts_of before zero = refl
counts_of before (suc n) = let so_far = counts_of before n in omega (arith, so_far)

pub reads_counted : (n before now : ℕ) → now ≡ after_reads before n → CountsReads n before now
reads_counted n before now is = ap (λ (k : ℕ). counted k 0) is ∙ counts_of before n

pub some_counted : (n before now : ℕ) → ((k : ℕ) × (k ≤ n) × (now ≡ after_reads before k)) → CountsUpTo n before now
some_counted n before now (k, less, is) = (k, less, reads_counted k before now is)

-- ---- a command

pub most_counted : {T E : Type 0} (n before now : ℕ) (r : Result T E) → CountsMails n before now r → CountsUpTo n before now
most_counted n before now (Ok x) all = all_counted n before now all
most_counted n before now (Err e) some = some

-- a command that is no CHECK
pub reads_other : (c : Command) (m : Mailbox) (uids : List ℕ) → (c ≡ command.Check → ⊥) → reads_of c m uids ≡ length (removed_of c uids)
reads_other command.Check m uids other = absurd (other refl)
reads_other c m uids other = refl

module _ {S : Type 0} (sees : SeesFolder S) (c : Command) (chain : Chain) (uids : List ℕ) where
  -- none is read any more
  pub reads_also : (old mid new : S) (P Q : ℕ → ℕ → ℕ → Type 0) → CountsReads 0 (sees.mail_reads mid) (sees.mail_reads new)
      → ((n before : ℕ) → P n before (sees.mail_reads mid) → Q n before (sees.mail_reads new)) → ReadsFor sees c chain uids old mid P → ReadsFor sees c chain uids old new Q
  reads_also old mid new P Q none step did = record {
    most = upto_then (reads_of c chain.live.mailbox uids) (sees.mail_reads old) (sees.mail_reads mid) (sees.mail_reads new) did.most none;
    spares = λ told is. spares_then (sees.files old) chain.indexid chain.live.mailbox (row_uids chain.live.mailbox) (sees.mail_reads old) (sees.mail_reads mid) (sees.mail_reads new) (did.spares told is) none;
    other = λ no. step (reads_of c chain.live.mailbox uids) (sees.mail_reads old) (did.other no);
  }

  -- none is read at all
  pub reads_none : (old new : S) (Q : ℕ → ℕ → ℕ → Type 0) → CountsReads 0 (sees.mail_reads old) (sees.mail_reads new) → ((n : ℕ) → Q n (sees.mail_reads old) (sees.mail_reads new)) → ReadsFor sees c chain uids old new Q
  reads_none old new Q none is = record {
    most = few_counted (reads_of c chain.live.mailbox uids) (sees.mail_reads old) (sees.mail_reads new) none;
    spares = λ told is spared are. few_counted (count_by (λ uid. not (spared uid) && has_uid chain.live.mailbox uid) (row_uids chain.live.mailbox)) (sees.mail_reads old) (sees.mail_reads new) none;
    other = λ no. is (reads_of c chain.live.mailbox uids);
  }
