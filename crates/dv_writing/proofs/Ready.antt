-- The chain behind what is owed and due, and what its place gives.
use Rattle.std.proofs.Common.{◌≡◌, inl, inr, ⊎_elim, ◌<◌, Option, Some, None, Ok, refl, sym, ◌∙◌, ap, subst}
use Rattle.std.specs.Prelude.{IsSome}
use Rattle.dv_model.specs.Journals.{Log}
use Rattle.dv_shelf.specs.Folders.{Folder}
use Rattle.dv_logfile.specs.declared.commit.Debt.TheVariants as log_debt
use Rattle.dv_chain.specs.declared.chain.Chain.{Chain}
use Rattle.dv_chain.specs.Rest.{next_mark}
use Rattle.dv_writing.specs.Commits.{HealsChain}
use Rattle.dv_files.specs.declared.texts.Turn.{Turn}
use Rattle.dv_files.specs.Texts.{IsTurnOf, place_of, turned}
use Rattle.dv_writing.specs.Debts.{Debt, Fits, Last, MayGive, Nothing, Pending}
use Rattle.dv_writing.specs.Keeping.{Gives}
use Rattle.dv_writing.specs.Repairing.{IsOwing, Repairs}
use Rattle.dv_writing.specs.Ways.{IsDue, MayGiveOn, StopsOnWay, healed, ready, repaired}

-- ---- the chain

module _ (chain : Chain) where
  pub same_live : (owed turn : Option Turn) → (ready owed turn chain).live ≡ chain.live
  same_live None None = refl
  same_live None (Some t) = refl
  same_live (Some o) None = refl
  same_live (Some o) (Some t) = refl

  pub same_indexid : (owed turn : Option Turn) → (ready owed turn chain).indexid ≡ chain.indexid
  same_indexid None None = refl
  same_indexid None (Some t) = refl
  same_indexid (Some o) None = refl
  same_indexid (Some o) (Some t) = refl

  pub no_debt : (owed turn : Option Turn) → (ready owed turn chain).log.debt ≡ log_debt.None
  no_debt None None = refl
  no_debt None (Some t) = refl
  no_debt (Some o) None = refl
  no_debt (Some o) (Some t) = refl

healed_is : {T E : Type 0} (x : T) (chain next : Chain) → HealsChain chain next {T = T} {E = E} (Ok x) → next ≡ healed chain
healed_is x chain next heals = λ i. record {
  live = heals.live i;
  log = record { file_seq = heals.log.0 i; end = heals.log.1 i; count = heals.log.2 i; debt = heals.debt i };
  indexid = heals.file.0 i;
  records = heals.file.1 i;
}

healed_same : (chain : Chain) → chain.log.debt ≡ log_debt.None → chain ≡ healed chain
healed_same chain none = λ i. record chain { log = record chain.log { debt = none i } }

-- behind a repair
pub repaired_is : {T E : Type 0} (x : T) (owed left : Option Turn) (chain next : Chain) → IsOwing chain owed → Repairs owed left chain next {T = T} {E = E} (Ok x) → next ≡ repaired owed chain
repaired_is x None left chain next owing repairs = healed_is x chain next repairs.chain
repaired_is x (Some turn) left chain next owing repairs = repairs.chain ∙ ap turned (healed_same chain owing.owed.debt)

pub repaired_live : (owed : Option Turn) (chain : Chain) → (repaired owed chain).live ≡ chain.live
repaired_live None chain = refl
repaired_live (Some turn) chain = refl

pub repaired_indexid : (owed : Option Turn) (chain : Chain) → (repaired owed chain).indexid ≡ chain.indexid
repaired_indexid None chain = refl
repaired_indexid (Some turn) chain = refl

-- no turn is owed where one is due
pub due_none : (owed turn : Option Turn) (chain : Chain) → IsDue owed chain turn → IsSome turn → owed ≡ None
due_none owed None chain due some = absurd cc
due_none owed (Some turn) chain due some = due.2

-- so what is repaired there is at its place
pub paid_place : (owed turn : Option Turn) (chain next : Chain) → IsDue owed chain turn → IsSome turn → next ≡ repaired owed chain → place_of next ≡ place_of chain
paid_place owed turn chain next due some is = ap place_of (is ∙ ap (λ (o : Option Turn). repaired o chain) (due_none owed turn chain due some))

-- a chain that stopped on the way is at its place
pub stopped_place : (owed left turn : Option Turn) (chain next : Chain) → IsDue owed chain turn → StopsOnWay owed left turn chain next → place_of next ≡ place_of chain
stopped_place owed left turn chain next due = ⊎_elim (λ same. ap place_of same.0) (λ paid. paid_place owed turn chain next due paid.1 paid.0)

-- a turn that was made before is one of the chain behind it
pub due_room : {T E : Type 0} (x : T) (owed left : Option Turn) (turn : Turn) (chain next : Chain) → IsOwing chain owed → Repairs owed left chain next {T = T} {E = E} (Ok x) → IsDue owed chain (Some turn) → next.log.file_seq < 4294967295
due_room x owed left turn chain next owing repairs due =
    let is : next ≡ healed chain = repaired_is x owed left chain next owing repairs ∙ ap (λ (o : Option Turn). repaired o chain) due.2 in
    subst (λ (k : Chain). k.log.file_seq < 4294967295) (sym is) due.1

pub due_turn : {T E : Type 0} (x : T) (owed left : Option Turn) (turn : Turn) (chain next : Chain) → IsOwing chain owed → Repairs owed left chain next {T = T} {E = E} (Ok x) → IsDue owed chain (Some turn) → IsTurnOf next turn
due_turn x owed left turn chain next owing repairs due =
    let is : next ≡ healed chain = repaired_is x owed left chain next owing repairs ∙ ap (λ (o : Option Turn). repaired o chain) due.2 in
    let turns = due.0 in
    subst (λ (k : Chain). IsTurnOf k turn) (sym is) (record { index = turns.index; now = turns.now; small = turns.small; new = turns.new })

-- ---- what a folder gives

pub gives_now : (log : Log) (debt : Debt) (chain : Chain) (c : Folder) → Gives log chain.live.mailbox (place_of chain) c → MayGive log debt chain c
gives_now log Nothing chain c gives = gives
gives_now log (Pending text after written) chain c gives = inl gives
gives_now log (Last new) chain c gives = inl gives

last_gives : (log : Log) (debt : Debt) (turn : Turn) (chain : Chain) (c : Folder) → Fits (Some turn) debt → Gives log chain.live.mailbox (next_mark chain) c → MayGive log debt chain c
last_gives log Nothing turn chain c fits gives = absurd fits
last_gives log (Pending text after written) turn chain c fits gives = absurd fits
last_gives log (Last new) turn chain c fits gives = inr gives

-- at the ready chain's place
ready_gives : (log : Log) (debt : Debt) (owed turn : Option Turn) (chain : Chain) (c : Folder) → IsDue owed chain turn → Fits owed debt → Gives log (ready owed turn chain).live.mailbox (place_of (ready owed turn chain)) c → MayGiveOn log debt turn chain c
ready_gives log debt None None chain c due fits gives = inl (gives_now log debt chain c gives)
ready_gives log debt None (Some turn) chain c due fits gives = inr (refl, gives)
ready_gives log debt (Some owed) None chain c due fits gives = inl (last_gives log debt owed chain c fits gives)
ready_gives log debt (Some owed) (Some turn) chain c due fits gives = absurd (let no : Some owed ≡ None = due.2 in cc)

pub gives_ready : (log : Log) (debt : Debt) (owed turn : Option Turn) (chain mid : Chain) (c : Folder) → mid ≡ ready owed turn chain → IsDue owed chain turn → Fits owed debt → Gives log mid.live.mailbox (place_of mid) c → MayGiveOn log debt turn chain c
gives_ready log debt owed turn chain mid c is due fits gives = ready_gives log debt owed turn chain c due fits (subst (λ (k : Chain). Gives log k.live.mailbox (place_of k) c) is gives)
