-- The groups that calls write.
use Rattle.std.proofs.Common.{◌≡◌, ℕ, ◌+◌, ◌-◌, ◌<◌, Bool, true, false, List, [], ◌∷◌, ◌++◌, length, map, Option, None, is_some, Result, Ok, Err, refl, sym, ◌∙◌, ap, subst, append_assoc}
use Rattle.std.proofs.lemmas.List.{append-nil, length-map, map-append}
use Rattle.dv_model.specs.declared.types.Mailbox.{Mailbox}
use Rattle.dv_model.specs.declared.types.Mark.{Mark}
use Rattle.dv_model.specs.declared.types.Record.{Record}
use Rattle.dv_shelf.specs.Sees.{SeesFolder}
use Rattle.dv_maps.specs.Groups.{count_records}
use Rattle.dv_mdbox.specs.declared.fault.StorageFault.{StorageFault}
use Rattle.dv_mdbox.specs.declared.fault.StorageFault.TheVariants as fault
use Rattle.dv_mdbox.specs.declared.got.Got.{Got}
use Rattle.dv_mdbox.specs.declared.got.Got.TheVariants as got
use Rattle.dv_mdbox.specs.Answers.{ChangesCount, IsReferenced, OnRefused}
use Rattle.dv_mdbox.specs.Purging.{NoneGoneFrom, PurgesMap}
use Rattle.dv_mdbox.specs.States.{IsLookedAt, State, mark_from}
use Rattle.dv_mdbox.specs.Writes.{SavesGroup, WritesGroup, entry_of}
use Rattle.dv_mdbox.proofs.Marked.{marks_both}
use Rattle.dv_mdbox_lines.specs.Playing.{Tried, done_id}
use Rattle.dv_mdbox_lines.specs.Scripts.{Call, Copy, Drop, Get, Purge, Save}
use Rattle.dv_mdbox_serving.specs.Calls.{counted_answer, fault_answer, purged_answer, read_answer, saved_answer}
use Rattle.dv_mdbox_serving.specs.Groups.{IfPurged, IsGroupOf, Logs, LogsCall, LogsCalls, WriteGroups, WritesGroups, WritesOne}
use Rattle.dv_mdbox_serving.proofs.Counted.{fault_id}

-- ---- one group, or none

module _ {S C : Type 0} (call : Call) (old new : State S C) where
  abbrev LogsOne : Bool → Type 0
  LogsOne done = Logs (λ m groups after. WritesOne m call done groups after) old new

  pub logs_done : (records : List Record) → IsGroupOf old.chain.live.mailbox call records → {T E : Type 0} (x : T) → WritesGroup records old new {T = T} {E = E} (Ok x) → LogsOne true
  logs_done records is x writes = record { groups = records ∷ []; writes = (records, is, writes.map, refl); entries = writes.entries; mark = writes.mark.1 }

  pub logs_none : new.chain.live.mailbox ≡ old.chain.live.mailbox → new.entries ≡ old.entries → new.mark ≡ old.mark → LogsOne false
  logs_none map entries mark = record { groups = []; writes = (refl, map); entries = entries ∙ sym (append-nil old.entries); mark = mark }

  pub logs_kept : (records : List Record) {T E : Type 0} (e : E) → WritesGroup records old new {T = T} {E = E} (Err e) → LogsOne false
  logs_kept records e writes = logs_none writes.kept.0 writes.kept.1 writes.kept.2

  pub logs_same : new ≡ old → LogsOne false
  logs_same same = logs_none (λ i. (same i).chain.live.mailbox) (λ i. (same i).entries) (λ i. (same i).mark)

  pub logs_looked : IsLookedAt old new → LogsOne false
  logs_looked is = logs_none (λ i. (is.chain i).live.mailbox) is.entries is.mark

  -- a fault is no call that is done
  pub logs_fault : (e : StorageFault) → LogsOne false → LogsOne (is_some (done_id (fault_answer e)))
  logs_fault e logs = subst (λ (id : Option ℕ). LogsOne (is_some id)) (sym (fault_id e)) logs

-- ---- each call

module _ {S C : Type 0} (old new : State S C) where
  abbrev m : Mailbox
  m = old.chain.live.mailbox

  pub save_logs : (sees : SeesFolder S) (message : List ℕ) (result : Result ℕ StorageFault) → SavesGroup sees old new result → LogsCall (Save message) (saved_answer result) old new
  save_logs sees message (Ok id) value = logs_done (Save message) old new _ (value.0, refl) id value.1
  save_logs sees message (Err e) value = logs_fault (Save message) old new e (logs_kept (Save message) old new _ e value.1)

  -- a change of a count
  module _ (call : Call) (id most : ℕ) (change : ℕ → ℕ) (is : (count : ℕ) → IsReferenced m id (λ n. n ≡ count) → IsGroupOf m call (count_records id (change count))) where
    counts_kept : (e : StorageFault) → IsReferenced m id (λ n. n < most) → ((count : ℕ) → IsReferenced m id (λ n. n ≡ count) → WritesGroup (count_records id (change count)) old new {T = Unit {0}} (Err e)) → LogsOne call old new false
    counts_kept e there value = logs_kept call old new _ e (value there.0.count (there.0, there.1, refl))

    counts_fault : (e : StorageFault) → ChangesCount m old.chain id most {A = Unit {0}} (Err e) → OnRefused {A = Unit {0}} (Err e) (new ≡ old)
        → ((count : ℕ) → IsReferenced m id (λ n. n ≡ count) → WritesGroup (count_records id (change count)) old new {T = Unit {0}} (Err e)) → LogsOne call old new false
    counts_fault fault.NoMemory answers refused value = counts_kept fault.NoMemory answers.0 value
    counts_fault (fault.Disk faults) answers refused value = counts_kept (fault.Disk faults) answers.0 value
    counts_fault fault.None answers refused value = logs_same call old new refused
    counts_fault fault.Full answers refused value = logs_same call old new refused
    counts_fault fault.Ids answers refused value = logs_same call old new refused
    counts_fault fault.Files answers refused value = logs_same call old new refused
    counts_fault (fault.TooLong bytes) answers refused value = logs_same call old new refused

    pub count_logs : (result : Result (Unit {0}) StorageFault) → ChangesCount m old.chain id most result → OnRefused result (new ≡ old) → ((count : ℕ) → IsReferenced m id (λ n. n ≡ count) → WritesGroup (count_records id (change count)) old new result)
        → Logs (λ m groups after. WritesOne m call (is_some (done_id (counted_answer id result))) groups after) old new
    count_logs (Ok x) answers refused value =
        let there = answers.0 in
        let same : IsReferenced m id (λ n. n ≡ there.0.count) = (there.0, there.1, refl) in
        logs_done call old new _ (is there.0.count same) x (value there.0.count same)
    count_logs (Err e) answers refused value = logs_fault call old new e (counts_fault e answers refused value)

  pub copy_is : (id count : ℕ) → IsReferenced m id (λ n. n ≡ count) → IsGroupOf m (Copy id) (count_records id (count + 1))
  copy_is id count there = (count, there, refl)

  pub drop_is : (id count : ℕ) → IsReferenced m id (λ n. n ≡ count) → IsGroupOf m (Drop id) (count_records id (count - 1))
  drop_is id count there = (count, there, refl)

  pub get_logs : (id : ℕ) (result : Result Got StorageFault) → IsLookedAt old new → LogsCall (Get id) (read_answer result) old new
  get_logs id (Ok (got.Held bytes)) looked = logs_looked (Get id) old new looked
  get_logs id (Ok got.Damaged) looked = logs_looked (Get id) old new looked
  get_logs id (Err e) looked = logs_fault (Get id) old new e (logs_looked (Get id) old new looked)

  -- a purge that failed says nothing of what is left
  purge_failed : (P : Type 0) (e : StorageFault) → IfPurged (fault_answer e) P
  purge_failed P fault.NoMemory = tt
  purge_failed P (fault.Disk faults) = tt
  purge_failed P fault.None = tt
  purge_failed P fault.Full = tt
  purge_failed P fault.Ids = tt
  purge_failed P fault.Files = tt
  purge_failed P (fault.TooLong bytes) = tt

  pub purge_logs : (result : Result ℕ StorageFault) → PurgesMap None old new result → LogsCall Purge (purged_answer result) old new
  purge_logs (Ok n) value = record { groups = value.2.groups; writes = (value.0, value.1, value.2.goes, value.3); entries = value.2.entries; mark = value.2.mark }
  purge_logs (Err e) value = record {
    groups = value.2.groups;
    writes = (value.0, value.1, value.2.goes, purge_failed (NoneGoneFrom new.chain.live.mailbox value.1) e);
    entries = value.2.entries;
    mark = value.2.mark;
  }

-- ---- calls in turn

write_more : (calls : List Tried) (t : Tried) (m mid after : Mailbox) (one two : List (List Record)) → WriteGroups m calls one mid → WritesGroups mid t.call t.answer two after → WriteGroups m (calls ++ t ∷ []) (one ++ two) after
write_more [] t m mid after one two first second = (
  two,
  [],
  after,
  subst (λ (k : Mailbox). WritesGroups k t.call t.answer two after) first.1 second,
  (refl, refl),
  ap (λ (gs : List (List Record)). gs ++ two) first.0 ∙ sym (append-nil two),
)
write_more (c ∷ calls) t m mid after one two (here, rest, next, writes, others, sum) second = (
  here,
  rest ++ two,
  next,
  writes,
  write_more calls t next mid after rest two others second,
  ap (λ (gs : List (List Record)). gs ++ two) sum ∙ append_assoc here rest two,
)

module _ {S C : Type 0} where
  pub logs_no_call : (old : State S C) → LogsCalls [] old old
  logs_no_call old = record { groups = []; writes = (refl, refl); entries = sym (append-nil old.entries); mark = refl }

  -- one call more
  pub logs_more : (calls : List Tried) (t : Tried) (old mid new : State S C) → LogsCalls calls old mid → LogsCall t.call t.answer mid new → LogsCalls (calls ++ t ∷ []) old new
  logs_more calls t old mid new one two = record {
    groups = one.groups ++ two.groups;
    writes = write_more calls t old.chain.live.mailbox mid.chain.live.mailbox new.chain.live.mailbox one.groups two.groups one.writes two.writes;
    entries = two.entries ∙ ap (λ es. es ++ map entry_of two.groups) one.entries ∙ append_assoc old.entries (map entry_of one.groups) (map entry_of two.groups) ∙ ap (λ es. old.entries ++ es) (sym (map-append entry_of one.groups two.groups));
    mark = two.mark ∙ ap (λ (mark : Mark). mark_from mark (map entry_of two.groups)) one.mark ∙ marks_both old.mark (map entry_of one.groups) (map entry_of two.groups) ∙ ap (mark_from old.mark) (sym (map-append entry_of one.groups two.groups));
  }

  -- so many groups, where there was none before
  pub logs_count : (calls : List Tried) (old new : State S C) → old.entries ≡ [] → (logs : LogsCalls calls old new) → length new.entries ≡ length logs.groups
  logs_count calls old new none logs = ap length (logs.entries ∙ ap (λ es. es ++ map entry_of logs.groups) none) ∙ length-map logs.groups entry_of
