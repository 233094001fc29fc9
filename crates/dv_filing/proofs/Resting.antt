-- A storage at rest, put together from its chain's being so and from the files that stay.
use Rattle.std.proofs.Common.{◌≡◌, inl, inr, ⊎_elim, ℕ, List, Option, sym, ◌∙◌, ap, subst}
use Rattle.std.proofs.lemmas.List.Elements.{All-weaker}
use Rattle.dv_model.specs.declared.types.Mailbox.{Mailbox}
use Rattle.dv_shelf.specs.declared.shelf.Name.TheVariants as name
use Rattle.dv_shelf.specs.Crashes.{Follows, LeavesOnly}
use Rattle.dv_shelf.specs.Folders.{Folder}
use Rattle.dv_shelf.specs.Sees.{SeesFolder}
use Rattle.dv_logfile.specs.Gates.{FromOneOf}
use Rattle.dv_chain.specs.declared.chain.Chain.{Chain}
use Rattle.dv_chain.specs.Rest.{Last, Nothing, Owed, Pending, Rests}
use Rattle.dv_writing.specs.Opening.{MayOpen}
use Rattle.dv_writing.proofs.Kept.{KeepsMessages}
use Rattle.dv_writing.proofs.Opened.{may_open}
use Rattle.dv_writing.proofs.Resting.{both_only}
use Rattle.dv_filing.specs.Standing.{Gives, KeepsOwed, MayGive, Stands}
use Rattle.dv_maps.specs.Maps.{row_place}
use Rattle.dv_maps.specs.Texts.{HasText, KeepsTexts, Messages, text_in}

-- ---- texts stay where the files do

pub texts_same : (messages : Messages) (m : Mailbox) (d c : Folder) → ((file : ℕ) → c (name.Mail file) ≡ d (name.Mail file)) → KeepsTexts messages m d → KeepsTexts messages m c
texts_same messages m d c same keeps =
    All-weaker (HasText messages m d) (HasText messages m c)
    (λ row has some message is. ap (λ (o : Option (List ℕ)). text_in o (row_place m row)) (same (row_place m row).file) ∙ has some message is) m.rows keeps

pub owed_same : (messages : Messages) (owed : Owed) (d c : Folder) → ((file : ℕ) → c (name.Mail file) ≡ d (name.Mail file)) → KeepsOwed messages owed d → KeepsOwed messages owed c
owed_same messages Nothing d c same keeps = tt
owed_same messages (Pending text after) d c same keeps = texts_same messages after d c same keeps
owed_same messages (Last log after) d c same keeps = texts_same messages after d c same keeps

-- ---- what a folder gives

-- it opens so, and keeps what is to be kept
pub gives_so : (messages : Messages) (owed : Owed) (chain : Chain) (c : Folder) → MayOpen owed chain c → KeepsTexts messages chain.live.mailbox c → KeepsOwed messages owed c → MayGive messages owed chain c
gives_so messages Nothing chain c opens keeps owed = record { opens = opens; keeps = keeps }
gives_so messages (Pending text after) chain c opens keeps owed = ⊎_elim (λ found. inl (record { opens = found; keeps = keeps })) (λ found. inr (record { opens = found; keeps = owed })) opens
gives_so messages (Last log after) chain c opens keeps owed = ⊎_elim (λ found. inl (record { opens = found; keeps = keeps })) (λ found. inr (record { opens = found; keeps = owed })) opens

pub rests_give : {S : Type 0} (sees : SeesFolder S) (messages : Messages) (owed : Owed) (chain : Chain) (shelf : S) (c : Folder) → Stands sees messages owed chain shelf → sees.may_leave shelf c → MayGive messages owed chain c
rests_give sees messages owed chain shelf c stands left = gives_so messages owed chain c (may_open owed chain c stands.rests.owes (stands.rests.each c left)) (stands.keeps c left) (stands.pending c left)

-- at the chain's place
pub gives_now : (messages : Messages) (owed : Owed) (chain : Chain) (c : Folder) → MayGive messages Nothing chain c → MayGive messages owed chain c
gives_now messages Nothing chain c gives = gives
gives_now messages (Pending text after) chain c gives = inl gives
gives_now messages (Last log after) chain c gives = inl gives

-- ---- a call

module _ {S : Type 0} (sees : SeesFolder S) (messages : Messages) (owed : Owed) (chain : Chain) (old : S) (stands : Stands sees messages owed chain old) (step : Folder → Folder → Type 0)
    (same : (d c : Folder) → step d c → KeepsMessages d c) (given : Owed) (owes : (c : Folder) → KeepsTexts messages chain.live.mailbox c → KeepsOwed messages owed c → KeepsOwed messages given c) where
  still_keeps : (d c : Folder) → sees.may_leave old d → step d c → KeepsTexts messages chain.live.mailbox c
  still_keeps d c left is = texts_same messages chain.live.mailbox d c (same d c is).mail (stands.keeps d left)

  still_owed : (d c : Folder) → sees.may_leave old d → step d c → KeepsOwed messages given c
  still_owed d c left is = owes c (still_keeps d c left is) (owed_same messages owed d c (same d c is).mail (stands.pending d left))

  -- behind it the storage is at rest, whose chain is so
  pub stands_then : (next : Chain) (new : S) → next.live.mailbox ≡ chain.live.mailbox → Rests sees given next new → Follows step (sees.may_leave old) (sees.may_leave new) → Stands sees messages given next new
  stands_then next new mailbox rests follows = record {
    rests = rests;
    keeps = λ c left.
        let from = follows c left in
        subst (λ (m : Mailbox). KeepsTexts messages m c) (sym mailbox) (still_keeps from.0 c from.1 from.2);
    pending = λ c left.
        let from = follows c left in
        still_owed from.0 c from.1 from.2;
  }

  -- at any moment of it a crash leaves a folder that gives what it opens to
  pub gives_since : (new : S) → LeavesOnly sees old new (FromOneOf (sees.may_leave old) step) → LeavesOnly sees old new (MayOpen given chain) → LeavesOnly sees old new (MayGive messages given chain)
  gives_since new since opens =
      both_only sees old new (FromOneOf (sees.may_leave old) step) (MayOpen given chain) (MayGive messages given chain) since opens
      (λ c from found. gives_so messages given chain c found (still_keeps from.0 c from.1 from.2) (still_owed from.0 c from.1 from.2))
