-- What a reader of a message file answers.
use Rattle.std.specs.Prelude.{◌≡◌, ◌^◌, ◌<◌, ℕ, List, [], length, slice_index, map, Some, Result, Ok, Err}
use Rattle.std.specs.Borrow.{Bor}
use Rattle.dv_model.specs.Fields.{physical_size, virtual_size}
use Rattle.dv_dbox.specs.BoxTexts.{BoxContent}
use Rattle.dv_dbox.specs.BoxTexts.{BoxFault as Broken, BadHeader as HeaderBroken, BadMessageHeader as MessageHeaderBroken, BadSize as SizeBroken, BadEnd as EndBroken, BadMetadata as MetadataBroken}
use Rattle.dv_dbox.specs.declared.fault.BoxEnd.{BoxEnd}
use Rattle.dv_dbox.specs.declared.fault.BoxEnd.TheVariants as ends
use Rattle.dv_dbox.specs.declared.fault.BoxFault.{BoxFault}
use Rattle.dv_dbox.specs.declared.fault.BoxFault.TheVariants as faults
use Rattle.dv_dbox.specs.declared.message.Message.{Message}

-- the texts that slices hold
abbrev pub texts : List (Bor (List ℕ)) → List (List ℕ)
texts slices = map (λ slice. slice.now) slices

-- the message as the format has it
abbrev pub content_of : Message → BoxContent
content_of m =
    record { stamp = m.stamp; bytes = m.bytes; guid = m.guid; received = m.received; physical = m.physical; virtual_size = m.virtual_size; others = m.others }

-- the message that a written file holds
abbrev pub written_content : ℕ → List ℕ → ℕ → List ℕ → BoxContent
written_content stamp guid received message =
    record { stamp = stamp; bytes = message; guid = Some guid; received = Some received; physical = Some (physical_size message); virtual_size = Some (virtual_size message); others = [] }

-- what a file is written of: times of 32 bits, a GUID of sixteen bytes, and a message that a slice
-- can hold
pub record IsWritable (stamp : ℕ) (guid : List ℕ) (received : ℕ) (message : List ℕ) : Type 0 where
  pub made : stamp < 2 ^ 32
  pub came : received < 2 ^ 32
  pub sixteen : length guid ≡ 16
  pub bytes : (i : ℕ) → slice_index guid i < 256
  pub short : length message < 2 ^ 63

-- the fault as the format names it
abbrev pub broken : BoxFault → Broken
broken faults.BadHeader = HeaderBroken
broken faults.BadMessageHeader = MessageHeaderBroken
broken faults.BadSize = SizeBroken
broken faults.BadEnd = EndBroken
broken faults.BadMetadata = MetadataBroken

-- the answer, seen by view, is what the format says
abbrev pub Reads : {X Y : Type 0} → (X → Y) → Result X BoxFault → Result Y Broken → Type 0
Reads view (Ok x) read = read ≡ Ok (view x)
Reads view (Err fault) read = read ≡ Err (broken fault)

-- the same, unless memory ran out
abbrev pub Fails : {Y : Type 0} → BoxEnd → Result Y Broken → Type 0
Fails ends.NoMemory read = Unit {0}
Fails (ends.Fault fault) read = read ≡ Err (broken fault)

-- the answer of a reader that takes memory, seen by view
abbrev pub Gives : {X Y : Type 0} → (X → Y) → Result X BoxEnd → Result Y Broken → Type 0
Gives view (Ok x) read = read ≡ Ok (view x)
Gives view (Err end) read = Fails end read
