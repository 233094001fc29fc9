-- A store at rest, put together from its chain's being so and from the files that stay.
use Rattle.std.proofs.Common.{◌≡◌, inl, inr, ⊎_elim, ℕ, sym, ◌∙◌, subst}
use Rattle.dv_model.specs.declared.types.Mailbox.{Mailbox}
use Rattle.dv_model.specs.declared.types.Mark.{Mark}
use Rattle.dv_model.specs.Journals.{Log}
use Rattle.dv_shelf.specs.Crashes.{Follows, LeavesOnly}
use Rattle.dv_shelf.specs.Folders.{Folder}
use Rattle.dv_logfile.specs.Gates.{FromOneOf}
use Rattle.dv_openings.specs.Numbers.{HasIndexid, OpensAs}
use Rattle.dv_openings.specs.Openings.{Finds}
use Rattle.dv_chain.specs.declared.chain.Chain.{Chain}
use Rattle.dv_chain.specs.Rest.{Rests, next_mark}
use Rattle.dv_writing.specs.Opening.{MayOpen, mark_behind}
use Rattle.dv_files.specs.Texts.{place_of}
use Rattle.dv_writing.proofs.Opened.{may_open}
use Rattle.dv_writing.specs.Debts.{Debt, IsOwedOf, KeepsOwed, Last, MayGive, Nothing, Pending, Stands, owed_of}
use Rattle.dv_writing.specs.Keeping.{Gives, Keeps}
use Rattle.dv_writing.specs.Laws.{RestGives, SameMessages}
use Rattle.dv_writing.proofs.Kept.{KeepsMessages, kept_same, same_messages}
use Rattle.dv_shelf.specs.Sees.{SeesFolder}

-- ---- what a folder gives

pub gives_as : (log : Log) (m : Mailbox) (mark : Mark) (chain : Chain) (c : Folder) → log.indexid ≡ chain.indexid → OpensAs c chain.indexid (Finds m mark) → Keeps log m c → Gives log m mark c
gives_as log m mark chain c same opens keeps = record { opens = opens.found; named = subst (HasIndexid c) (sym same) opens.named; keeps = keeps }

-- it opens so, and keeps what is to be kept
pub gives_so : (log : Log) (debt : Debt) (chain : Chain) (c : Folder) → log.indexid ≡ chain.indexid → IsOwedOf log debt → MayOpen (owed_of chain.live.mailbox debt) chain c → Keeps log chain.live.mailbox c → KeepsOwed debt c → MayGive log debt chain c
gives_so log Nothing chain c named of opens keeps owed = gives_as log chain.live.mailbox (place_of chain) chain c named opens keeps
gives_so log (Pending text after written) chain c named of opens keeps owed =
    ⊎_elim (λ found. inl (gives_as log chain.live.mailbox (place_of chain) chain c named found keeps)) (λ found. inr (gives_as written after (mark_behind text chain) chain c (of ∙ named) found owed)) opens
gives_so log (Last new) chain c named of opens keeps owed =
    ⊎_elim (λ found. inl (gives_as log chain.live.mailbox (place_of chain) chain c named found keeps)) (λ found. inr (gives_as log chain.live.mailbox (next_mark chain) chain c named found keeps)) opens

pub rests_give : {S : Type 0} (sees : SeesFolder S) → RestGives sees
rests_give sees log debt chain shelf c stands left =
    let owed = owed_of chain.live.mailbox debt in
    gives_so log debt chain c stands.named stands.written (may_open owed chain c stands.rests.owes (stands.rests.each c left)) (stands.keeps c left) (stands.owed c left)

-- ---- steps that leave what is kept

-- a step leaves the files by which a mailbox is kept, and that with what is owed
pub record LeavesKept (m : Mailbox) (debt : Debt) (step : Folder → Folder → Type 0) : Type 0 where
  pub same : (d c : Folder) → step d c → SameMessages m d c
  pub owed : (d c : Folder) → step d c → KeepsOwed debt d → KeepsOwed debt c

-- where nothing is owed
pub leaves_rows : (m : Mailbox) (step : Folder → Folder → Type 0) → ((d c : Folder) → step d c → SameMessages m d c) → LeavesKept m Nothing step
leaves_rows m step same = record { same = same; owed = λ d c is owed. tt }

-- where no message file is another
pub leaves_messages : (m : Mailbox) (debt : Debt) (step : Folder → Folder → Type 0) → ((d c : Folder) → step d c → KeepsMessages d c) → LeavesKept m debt step
leaves_messages m debt step same = record { same = λ d c is. same_messages m d c (same d c is); owed = λ d c is. by_debt debt d c (same d c is) }
  where
    by_debt : (x : Debt) (d c : Folder) → KeepsMessages d c → KeepsOwed x d → KeepsOwed x c
    by_debt Nothing d c is owed = tt
    by_debt (Pending text after written) d c is owed = kept_same written after d c (same_messages after d c is) owed
    by_debt (Last new) d c is owed = tt

-- ---- what a crash leaves at any moment

module _ {S : Type 0} (sees : SeesFolder S) where
  -- two statements at once
  pub both_only : (old new : S) (P Q R : Folder → Type 0) → LeavesOnly sees old new P → LeavesOnly sees old new Q → ((c : Folder) → P c → Q c → R c) → LeavesOnly sees old new R
  both_only old new P Q R one other both = record {
    later = one.later;
    each = λ c left. both c (one.each c left) (other.each c left);
    before = λ t c le left. ⊎_elim inl (λ p. ⊎_elim inl (λ q. inr (both c p q)) (other.before t c le left)) (one.before t c le left);
  }

  -- what a crash may leave behind a call comes by the step by which it comes at any moment of it
  pub follows_since : (old new : S) (step : Folder → Folder → Type 0) → ((c : Folder) → sees.may_leave new c → sees.left_since new (sees.moment old) c) → LeavesOnly sees old new (FromOneOf (sees.may_leave old) step)
      → Follows step (sees.may_leave old) (sees.may_leave new)
  follows_since old new step now since c left = since.each c (now c left)

-- ---- a call

module _ {S : Type 0} (sees : SeesFolder S) (log : Log) (debt : Debt) (chain : Chain) (old : S) (stands : Stands sees log debt chain old) (step : Folder → Folder → Type 0) (kept : LeavesKept chain.live.mailbox debt step)
    (given : Debt) (of : IsOwedOf log debt → IsOwedOf log given) (owes : (c : Folder) → KeepsOwed debt c → KeepsOwed given c) where
  still_keeps : (d c : Folder) → sees.may_leave old d → step d c → Keeps log chain.live.mailbox c
  still_keeps d c left is = kept_same log chain.live.mailbox d c (kept.same d c is) (stands.keeps d left)

  still_owed : (d c : Folder) → sees.may_leave old d → step d c → KeepsOwed given c
  still_owed d c left is = owes c (kept.owed d c is (stands.owed d left))

  -- behind it the store is at rest, whose chain is so
  pub stands_then : (next : Chain) (new : S) → next.live.mailbox ≡ chain.live.mailbox → next.indexid ≡ chain.indexid → Rests sees (owed_of next.live.mailbox given) next new → Follows step (sees.may_leave old) (sees.may_leave new) → Stands sees log given next new
  stands_then next new mailbox indexid rests follows = record {
    named = stands.named ∙ sym indexid;
    written = of stands.written;
    rests = rests;
    keeps = λ c left.
        let from = follows c left in
        subst (λ (m : Mailbox). Keeps log m c) (sym mailbox) (still_keeps from.0 c from.1 from.2);
    owed = λ c left.
        let from = follows c left in
        still_owed from.0 c from.1 from.2;
  }

  -- at any moment of it a crash leaves a folder that gives what it opens to
  pub gives_since : (new : S) → LeavesOnly sees old new (FromOneOf (sees.may_leave old) step) → LeavesOnly sees old new (MayOpen (owed_of chain.live.mailbox given) chain)
      → LeavesOnly sees old new (MayGive log given chain)
  gives_since new since opens =
      both_only sees old new (FromOneOf (sees.may_leave old) step) (MayOpen (owed_of chain.live.mailbox given) chain) (MayGive log given chain) since opens
      (λ c from found. gives_so log given chain c stands.named (of stands.written) found (still_keeps from.0 c from.1 from.2) (still_owed from.0 c from.1 from.2))
