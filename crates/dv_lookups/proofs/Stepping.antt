-- One UID more of those that a command looks at.
use Rattle.std.proofs.Common.{◌≡◌, ℕ, ◌+◌, ◌<◌, ◌≤◌, Bool, true, false, ◌&&◌, cond, List, length, get_or, take, refl, sym, ◌∙◌, ap, subst, arith}
use Rattle.std.specs.Prelude.{count_by, not}
use Rattle.std.proofs.lemmas.Bool.{false≢true}
use Rattle.std.proofs.lemmas.List.Sums.{count_by_more_no, count_by_more_yes, sum_by-take-le}
use Rattle.dv_model.specs.declared.types.Command.{Command}
use Rattle.dv_model.specs.declared.types.Mailbox.{Mailbox}
use Rattle.dv_model.specs.Sessions.{has_uid}
use Rattle.dv_model.specs.Views.{View}
use Rattle.dv_shelf.specs.Folders.{Folder}
use Rattle.dv_shelf.specs.Sees.{SeesFolder}
use Rattle.dv_shelf.proofs.Moments.{started}
use Rattle.dv_chain.specs.declared.chain.Chain.{Chain}
use Rattle.dv_chain.specs.Openings.{OnlyLooks}
use Rattle.dv_chain.proofs.Shelves.{looked_both}
use Rattle.dv_responses.specs.declared.asking.Asked.{Asked}
use Rattle.dv_responses.specs.Asked.{Asks}
use Rattle.dv_lookups.specs.declared.cache_file.CacheFile.{CacheFile}
use Rattle.dv_lookups.specs.Commands.{AskedStands, ReadsBut, uids_read}
use Rattle.dv_lookups.specs.Kept.{CountsReads, CountsUpTo, Economy, IsFileOf, IsSpared, Spares, can_stand, is_read}
use Rattle.dv_lookups.specs.Lookups.{KnowsCache, LooksUp, ReadsFor}
use Rattle.dv_lookups.proofs.Economies.{none_upto, same_read}

-- ---- reads

reads_both : (a b before mid now : ℕ) → CountsReads a before mid → CountsReads b mid now → CountsReads (a + b) before now
reads_both a b before mid now one two = omega (arith, one, two)

upto_more : (n before mid now : ℕ) → CountsUpTo n before mid → CountsUpTo 1 mid now → CountsUpTo (n + 1) before now
upto_more n before mid now one two = (one.0 + two.0, omega (arith, one.1, two.1), reads_both one.0 two.0 before mid now one.2 two.2)

upto_same : (n before mid now : ℕ) → CountsUpTo n before mid → CountsReads 0 mid now → CountsUpTo n before now
upto_same n before mid now one two =
    let none : one.0 + 0 ≡ one.0 = omega arith in
    (one.0, one.1, subst (λ (k : ℕ). CountsReads k before now) none (reads_both one.0 0 before mid now one.2 two))

-- a wider bound
pub upto_wider : (n k before now : ℕ) → n ≤ k → CountsUpTo n before now → CountsUpTo k before now
upto_wider n k before now le one = (one.0, omega (arith, one.1, le), one.2)

-- message files are read of rows that the mailbox has, and that aren't spared
module _ (spared : ℕ → Bool) (m : Mailbox) (uids : List ℕ) (i before : ℕ) where
  abbrev test : ℕ → Bool
  test u = not (spared u) && has_uid m u

  reads_more : (mid now : ℕ) → i < length uids → ReadsBut spared m (take i uids) before mid → CountsUpTo 1 mid now
      → (has_uid m (get_or uids i 0) ≡ false → CountsReads 0 mid now) → (spared (get_or uids i 0) ≡ true → CountsReads 0 mid now)
      → ReadsBut spared m (take (i + 1) uids) before now
  reads_more mid now less so_far one gone none = by_test (spared uid) (has_uid m uid) refl refl
    where
      uid : ℕ
      uid = get_or uids i 0

      stays : test uid ≡ false → CountsReads 0 mid now → ReadsBut spared m (take (i + 1) uids) before now
      stays fails still =
          let same : count_by test (take (i + 1) uids) ≡ count_by test (take i uids) = count_by_more_no test uids i 0 less fails in
          subst (λ (n : ℕ). CountsUpTo n before now) (sym same) (upto_same (count_by test (take i uids)) before mid now so_far still)

      by_test : (s h : Bool) → spared uid ≡ s → has_uid m uid ≡ h → ReadsBut spared m (take (i + 1) uids) before now
      by_test true h is has = stays (ap (λ (b : Bool). not b && has_uid m uid) is) (none is)
      by_test false false is has = stays (ap (λ (b : Bool). not b && has_uid m uid) is ∙ has) (gone has)
      by_test false true is has =
          let more : count_by test (take (i + 1) uids) ≡ count_by test (take i uids) + 1 = count_by_more_yes test uids i 0 less (ap (λ (b : Bool). not b && has_uid m uid) is ∙ has) in
          subst (λ (n : ℕ). CountsUpTo n before now) (sym more) (upto_more (count_by test (take i uids)) before mid now so_far one)

  -- those of the first are no more than all
  reads_wider : (now : ℕ) → ReadsBut spared m (take i uids) before now → ReadsBut spared m uids before now
  reads_wider now so_far = upto_wider (count_by test (take i uids)) (count_by test uids) before now (sum_by-take-le (λ u. cond (test u) 1 0) uids i) so_far

-- ---- looks

module _ {S : Type 0} (sees : SeesFolder S) (chain : Chain) where
  -- where nothing was called
  pub looks_none : (Stands : Bool → Type 0) (uids : List ℕ) (file : CacheFile) (old : S) → (sees.tells → (c : Folder) → sees.left_since old (sees.moment old) c → sees.may_leave old c) → LooksUp sees chain Stands uids file file old old
  looks_none Stands uids file old only =
      let none = same_read (sees.mail_reads old) (sees.mail_reads old) refl in
      record {
        file = λ told is. is;
        again = λ read. refl;
        aside = λ no. refl;
        looks = λ told. record { same = refl; crash = λ c left. left; since = started sees old (sees.may_leave old) (only told) };
        most = none_upto (count_by (has_uid chain.live.mailbox) uids) (sees.mail_reads old) (sees.mail_reads old) none;
        spares = λ told is can spared are. none_upto (count_by (λ uid. not (spared uid) && has_uid chain.live.mailbox uid) uids) (sees.mail_reads old) (sees.mail_reads old) none;
      }

  -- what is asked of the messages is what the command asks of them
  pub reads_for : (c : Command) (view : View) (asked : Asked) (before now : CacheFile) (old new : S) → Asks c asked → LooksUp sees chain (AskedStands asked) (uids_read c view) before now old new → ReadsFor sees chain c view before now old new
  reads_for c view asked before now old new asks did = record {
    file = did.file;
    again = did.again;
    aside = λ no. did.aside (no asked asks);
    looks = did.looks;
    most = did.most;
    spares = λ told is can. did.spares told is (can asked asks);
  }

  -- what is known of the cache file is known behind looks
  pub knows_still : (Stands : Bool → Type 0) (uids : List ℕ) (before now : CacheFile) (old new : S) → LooksUp sees chain Stands uids before now old new → sees.tells → KnowsCache (sees.files old) chain before → KnowsCache (sees.files new) chain now
  knows_still Stands uids before now old new did told knows =
      subst (λ (f : Folder). KnowsCache f chain now) (sym (did.looks told).same) (record { file = did.file told knows.file; is_true = knows.is_true })

  module _ (asked : Asked) (uids : List ℕ) (i : ℕ) where
    -- the UIDs before this place
    abbrev pub LooksTo : CacheFile → CacheFile → S → S → Type 0
    LooksTo = LooksUp sees chain (AskedStands asked) (take i uids)

    -- that are no more than all
    pub looks_all : (before now : CacheFile) (old new : S) → LooksTo before now old new → LooksUp sees chain (AskedStands asked) uids before now old new
    looks_all before now old new did = record {
      file = did.file;
      again = did.again;
      aside = did.aside;
      looks = did.looks;
      most = reads_wider (λ uid. false) chain.live.mailbox uids i (sees.mail_reads old) (sees.mail_reads new) did.most;
      spares = λ told is can spared are. reads_wider spared chain.live.mailbox uids i (sees.mail_reads old) (sees.mail_reads new) (did.spares told is can spared are);
    }

  module _ (asked : Asked) (uids : List ℕ) (i : ℕ) (less : i < length uids) (start mid now : S) (file between after : CacheFile) where
    -- the row at this place is found in the cache file
    abbrev pub Spared : ℕ → Type 0
    Spared uid = sees.tells → IsFileOf (sees.files mid) between → can_stand asked ≡ true → IsSpared (sees.files mid) chain.indexid chain.live.mailbox uid → Spares sees between mid now

    -- one look more
    pub looks_more : (uid : ℕ) → uid ≡ get_or uids i 0 → LooksTo asked uids i file between start mid → (sees.tells → OnlyLooks sees mid now)
        → (sees.tells → IsFileOf (sees.files mid) between → IsFileOf (sees.files mid) after) → Economy sees chain.live.mailbox uid (can_stand asked) between after mid now → Spared uid
        → LooksTo asked uids (i + 1) file after start now
    looks_more uid at so_far looks kept economy spares = record {
      file = λ told is. subst (λ (f : Folder). IsFileOf f after) (still told) (kept told (here told is));
      again = λ read.
          let same : between ≡ file = so_far.again read in
          did.again (ap is_read same ∙ read) ∙ same;
      aside = λ no. did.aside no ∙ so_far.aside no;
      looks = λ told. looked_both sees start mid now (so_far.looks told) (looks told);
      most = reads_more (λ u. false) m uids i before (sees.mail_reads mid) (sees.mail_reads now) less so_far.most did.most gone (λ no. absurd (false≢true no));
      spares = λ told is can spared are.
          reads_more spared m uids i before (sees.mail_reads mid) (sees.mail_reads now) less (so_far.spares told is can spared are) did.most gone
          (λ yes. (near told (here told is) can (subst (λ (f : Folder). IsSpared f chain.indexid m (get_or uids i 0)) (sym (still told)) (are (get_or uids i 0) yes))).none);
    }
      where
        m : Mailbox
        m = chain.live.mailbox

        before : ℕ
        before = sees.mail_reads start

        still : sees.tells → sees.files mid ≡ sees.files start
        still told = (so_far.looks told).same

        here : sees.tells → IsFileOf (sees.files start) file → IsFileOf (sees.files mid) between
        here told is = subst (λ (f : Folder). IsFileOf f between) (sym (still told)) (so_far.file told is)

        did : Economy sees m (get_or uids i 0) (can_stand asked) between after mid now
        did = subst (λ (u : ℕ). Economy sees m u (can_stand asked) between after mid now) at economy

        near : Spared (get_or uids i 0)
        near = subst Spared at spares

        gone : has_uid m (get_or uids i 0) ≡ false → CountsReads 0 (sees.mail_reads mid) (sees.mail_reads now)
        gone lacks = same_read (sees.mail_reads mid) (sees.mail_reads now) (ap sees.mail_reads (did.gone lacks))
