-- How often message files are read.
use Rattle.std.proofs.Common.{◌≡◌, ℕ, Bool, true, false, Some, None, sym, ◌∙◌, ap, subst, arith}
use Rattle.dv_shelf.specs.Folders.{counted}
use Rattle.std.proofs.lemmas.Option.{same_Some}
use Rattle.dv_model.specs.declared.types.Mailbox.{Mailbox}
use Rattle.dv_model.specs.declared.types.Row.{Row}
use Rattle.dv_model.specs.Sessions.{has_uid}
use Rattle.dv_openings.specs.TrueCaches.{look_of}
use Rattle.dv_lookups.specs.declared.cache_file.CacheFile.{CacheFile}
use Rattle.dv_lookups.specs.Kept.{CountsReads, CountsUpTo, Economy, is_read, row_of}
use Rattle.dv_lookups.proofs.Rows.{found_in}
use Rattle.dv_shelf.specs.Sees.{SeesFolder}

pub none_read : (before now : ℕ) → now ≡ counted before 0 → CountsReads 0 before now
none_read before now is = omega (arith, is)

pub same_read : (before now : ℕ) → now ≡ before → CountsReads 0 before now
same_read before now is = ap (λ (k : ℕ). counted k 0) is

pub one_read : (before mid now : ℕ) → CountsReads 0 before mid → now ≡ counted mid 1 → CountsReads 1 before now
one_read before mid now none is = omega (arith, none, is)

pub none_upto : (most before now : ℕ) → CountsReads 0 before now → CountsUpTo most before now
none_upto most before now none = (0, omega arith, none)

pub one_upto : (before mid now : ℕ) → CountsReads 0 before mid → now ≡ counted mid 1 → CountsUpTo 1 before now
one_upto before mid now none is = (1, omega arith, one_read before mid now none is)

-- the economy of a look at a row that the mailbox has
pub economy_of : {S : Type 0} (sees : SeesFolder S) (m : Mailbox) (row : Row) (kept : Bool) (before now : CacheFile) (old new : S) → row_of m row.uid ≡ Some row
    → CountsUpTo 1 (sees.mail_reads old) (sees.mail_reads new) → (is_read before ≡ true → now ≡ before) → (kept ≡ false → now ≡ before) → (look_of m row ≡ None → now ≡ before)
    → Economy sees m row.uid kept before now old new
economy_of sees m row kept before now old new is most again aside placed = record {
  most = most;
  gone = λ lacks.
      let has : has_uid m row.uid ≡ true = (found_in row.uid m.rows row is).some in
      absurd cc;
  again = again;
  aside = aside;
  placed = λ r here none. placed (subst (λ (x : Row). look_of m x ≡ None) (same_Some r row (sym here ∙ is)) none);
}
