-- What a receipt says of a mailbox's rows, and of the clock.
use Rattle.std.proofs.Common.{◌≡◌, ◌⊎◌, inr, ⊎_elim, ℕ, ◌+◌, ◌≤◌, Bool, true, false, List, [], ◌∷◌, Contains, Option, Result, Ok, Err, ◌∙◌, ap, arith}
use Rattle.std.proofs.Math.Path.{fun_ext}
use Rattle.dv_model.specs.declared.types.Command.{Command}
use Rattle.dv_model.specs.declared.types.Record.{Record}
use Rattle.dv_model.specs.Mailboxes.{IsValid}
use Rattle.dv_model.specs.Sessions.{is_append}
use Rattle.dv_model.specs.Views.{View}
use Rattle.dv_shelf.specs.Clocks.{behind}
use Rattle.dv_chain.specs.declared.chain.Chain.{Chain}
use Rattle.dv_files.specs.declared.texts.Turn.{Turn}
use Rattle.dv_answer.specs.Following.{Leads}
use Rattle.dv_answer.proofs.Keeping.{records_lead, stay_leads}
use Rattle.dv_plans.specs.declared.fault.StoreFault.{StoreFault}
use Rattle.dv_plans.specs.declared.fault.StoreFault.TheVariants as fault
use Rattle.dv_plans.specs.Begins.{count_of, readings_of, turns}
use Rattle.dv_store.specs.declared.receipt.Receipt.{Receipt}
use Rattle.dv_store.specs.Commits.{IsReceipt, TakesFor, TakesReadings}
use Rattle.dv_serving.specs.Readings.{TakesUpTo}

-- ---- the rows

none_in : (uid : ℕ) → Contains [] uid → ⊥
none_in uid has = let less = has.1 in absurd (omega (arith, less))

pub receipt_leads : (c : Command) (view : View) (owed : Option Turn) (old new : Chain) (receipt : Receipt) → IsValid old.live.mailbox → IsValid new.live.mailbox → IsReceipt c view owed old new receipt
    → Leads old.live.mailbox new.live.mailbox receipt.touched
receipt_leads c view owed old new receipt valid now_valid is =
    records_lead old.live.mailbox old.live.mailbox new.live.mailbox receipt.group.records [] receipt.touched valid now_valid (stay_leads old.live.mailbox valid) is.gives
    (λ uid. (λ has. inr ((is.touched uid).0 has), λ either. ⊎_elim (λ none. absurd (none_in uid none)) (λ differs. (is.touched uid).1 differs) either))

-- ---- the clock

one_at_most : (b : Bool) → count_of b ≤ 1
one_at_most true = omega arith
one_at_most false = omega arith

few_readings : (c : Command) (owed : Option Turn) (chain : Chain) → readings_of c owed chain ≤ 2
few_readings c owed chain = let turning = one_at_most (turns owed chain) in let appending = one_at_most (is_append c) in omega (arith, turning, appending)

at_zero : (k : ℕ) → k ≡ 0 + k
at_zero k = omega arith

pub none_taken : (old new : ℕ → ℕ) → new ≡ old → TakesUpTo 2 old new
none_taken old new same = (0, omega arith, same ∙ (λ i k. old (at_zero k i)))

pub few_taken : (c : Command) (owed : Option Turn) (chain : Chain) (old new : ℕ → ℕ) (result : Result Receipt StoreFault) → TakesReadings (readings_of c owed chain) old new result → TakesUpTo 2 old new
few_taken c owed chain old new result = by_result result
  where
    n : ℕ
    n = readings_of c owed chain

    all : new ≡ behind old n → TakesUpTo 2 old new
    all takes = (n, few_readings c owed chain, takes)

    either : (new ≡ old) ⊎ (new ≡ behind old n) → TakesUpTo 2 old new
    either = ⊎_elim (none_taken old new) all

    by_records : (rs : List Record) → TakesFor n old new rs → TakesUpTo 2 old new
    by_records [] takes = none_taken old new takes
    by_records (r ∷ rs) takes = all takes

    by_result : (r : Result Receipt StoreFault) → TakesReadings n old new r → TakesUpTo 2 old new
    by_result (Ok receipt) takes = by_records receipt.group.records takes
    by_result (Err (fault.Disk faults)) takes = all takes
    by_result (Err fault.UidsUsedUp) takes = either takes
    by_result (Err (fault.TooLong bytes)) takes = either takes
    by_result (Err fault.NoMemory) takes = either takes

pub takes_none : (upcoming : ℕ → ℕ) → TakesUpTo 0 upcoming upcoming
takes_none upcoming = (0, omega arith, fun_ext (λ k. ap upcoming (omega arith)))

pub takes_more : (m n most : ℕ) (old mid new : ℕ → ℕ) → TakesUpTo m old mid → TakesUpTo n mid new → m + n ≤ most → TakesUpTo most old new
takes_more m n most old mid new first second less = (
  first.0 + second.0,
  omega (arith, first.1, second.1, less),
  fun_ext (λ k. ap (λ (f : ℕ → ℕ). f k) second.2 ∙ ap (λ (f : ℕ → ℕ). f (second.0 + k)) first.2 ∙ ap old (omega arith)),
)
