-- What records leave of a mailbox: a valid one, whose numbers go on.
use Rattle.std.specs.Prelude.{◌≡◌, ◌⊎◌, ℕ, ◌-◌, ◌+◌, ◌^◌, ◌<◌, ◌≤◌, ◌&&◌, nat_le, min, Bool, true, List, ◌++◌, map, filter, fold, All, Any, Contains, IfSome, Some, None, if◌then◌else◌}
use Rattle.dv_model.specs.declared.types.Body.{Body}
use Rattle.dv_model.specs.declared.types.Body.TheVariants.{Append, FlagUpdate, HeaderUpdate, KeywordUpdate}
use Rattle.dv_model.specs.declared.types.Change.{Change}
use Rattle.dv_model.specs.declared.types.Mailbox.{Mailbox}
use Rattle.dv_model.specs.declared.types.Record.{Record}
use Rattle.dv_model.specs.declared.types.Row.{Row}
use Rattle.dv_model.specs.Effects.{after_record, applied, header_number, is_as_before, stamped, stamped_row, with_bits, with_higher}
use Rattle.dv_model.specs.Laws.{Follows}
use Rattle.dv_model.specs.Mailboxes.{IsValid, last_modseq}
use Rattle.dv_model.specs.Names.{IsName}
use Rattle.dv_model.specs.Spelling.{IsRecord}
use Rattle.dv_model.specs.Views.{View, row_of}

-- ---- a mailbox stays valid

-- each part of a header update has bytes
abbrev pub HasBytes : Body → Type 0
HasBytes (HeaderUpdate parts) = All (λ part. All (λ b. b < 256) part.bytes) parts
HasBytes body = Unit {0}

-- new UIDs are below the largest number, a UIDNEXT has 32 bits, and a keyword is a name
abbrev pub IsInRange : Body → Type 0
IsInRange (Append rows) = All (λ row. row.uid < 2 ^ 32 - 1) rows
IsInRange (HeaderUpdate parts) = All (λ part. IfSome (header_number part 28) (λ n. n < 2 ^ 32)) parts
IsInRange (KeywordUpdate how name pairs) = IsName name
IsInRange body = Unit {0}

-- a record that has a spelling in bytes leaves a valid mailbox of a valid one
abbrev pub RecordKeepsValid : Type 0
RecordKeepsValid = (m n : Mailbox) (r : Record) → IsValid m → IsRecord r → HasBytes r.body → after_record m r ≡ Some n → IsValid n

-- so do records in turn
abbrev pub RecordsKeepValid : Type 0
RecordsKeepValid = (m n : Mailbox) (rs : List Record) → IsValid m → All IsRecord rs → All (λ r. HasBytes r.body) rs → applied m rs ≡ Some n → IsValid n

-- what has a spelling in bytes is in range
abbrev pub RecordIsInRange : Type 0
RecordIsInRange = (r : Record) → IsRecord r → HasBytes r.body → IsInRange r.body

-- to be in range is enough
abbrev pub RangeKeepsValid : Type 0
RangeKeepsValid = (m n : Mailbox) (r : Record) → IsValid m → IsInRange r.body → after_record m r ≡ Some n → IsValid n

-- also for records in turn
abbrev pub RangesKeepValid : Type 0
RangesKeepValid = (m n : Mailbox) (rs : List Record) → IsValid m → All (λ r. IsInRange r.body) rs → applied m rs ≡ Some n → IsValid n

-- ---- a row is compared with itself alone

-- a row that was the old one, with this modification sequence unless it is as before
abbrev pub restamped : ℕ → Row → Row → Row
restamped n old row = if is_as_before row old then row else record row { modseq = n }

-- of rows with distinct UIDs only the one that has the row's UID counts
abbrev pub StampedByItself : Type 0
StampedByItself = (m : Mailbox) (n : ℕ) (old row : Row) → IsValid m → Contains m.rows old → row.uid ≡ old.uid → stamped_row m.rows n row ≡ restamped n old row

-- where each row is changed and keeps its UID, one pass over the rows stamps them
abbrev pub StampedByRows : Type 0
StampedByRows = (m n : Mailbox) (change : Row → Row) → IsValid m → ((row : Row) → (change row).uid ≡ row.uid) → n.rows ≡ map change m.rows
    → stamped m.rows n ≡ record n { rows = map (λ row. restamped n.highest row (change row)) m.rows }

-- where each row keeps its UID, its system flags and its keywords, all rows stay as they are
abbrev pub StampedAlike : Type 0
StampedAlike = (m n : Mailbox) (change : Row → Row) → ((row : Row) → is_as_before (change row) row ≡ true) → n.rows ≡ map change m.rows → stamped m.rows n ≡ n

-- where rows leave, the others stay as they are
abbrev pub StampedWithout : Type 0
StampedWithout = (m n : Mailbox) (test : Row → Bool) → n.rows ≡ filter test m.rows → stamped m.rows n ≡ n

-- where rows are new, the others stay as they are
abbrev pub StampedWithMore : Type 0
StampedWithMore = (m n : Mailbox) (more : List Row) → IsValid m → All (λ row. m.next_uid ≤ row.uid) more → n.rows ≡ m.rows ++ more
    → stamped m.rows n ≡ record n { rows = m.rows ++ map (λ (row : Row). record row { modseq = n.highest }) more }

-- the flags of a row that the range has change
abbrev pub changed_flags : Row → Change → Row
changed_flags row change = if nat_le change.first row.uid && nat_le row.uid change.last then record row { flags = with_bits change.add change.remove row.flags } else row

-- a flag update in one pass over the rows
abbrev pub FlagsByRows : Type 0
FlagsByRows = (m : Mailbox) (top : ℕ) (changes : List Change) → IsValid m
    → after_record m (record { top = top; body = FlagUpdate changes })
    ≡ Some (record (with_higher m) { rows = map (λ row. restamped (with_higher m).highest row (fold changed_flags row changes)) m.rows })

-- ---- numbers rise, and none comes back

-- as a row before, with its modification sequence, or with this one
abbrev pub IsStamped : List Row → ℕ → Row → Type 0
IsStamped before n row = Any (λ old. (is_as_before row old ≡ true) × (row.modseq ≡ old.modseq)) before ⊎ (row.modseq ≡ n)

-- a record's modification sequence is the next; each row is as before or has that one, and none has a higher one
pub record RisesTo (m n : Mailbox) : Type 0 where
  pub next_uid : m.next_uid ≤ n.next_uid
  pub highest : n.highest ≡ min (m.highest + 1) last_modseq
  pub rows : All (IsStamped m.rows n.highest) n.rows
  pub up_to : All (λ row. row.modseq ≤ n.highest) n.rows

-- neither number falls, and no row was changed after the mailbox
pub record NeverFalls (m n : Mailbox) : Type 0 where
  pub next_uid : m.next_uid ≤ n.next_uid
  pub highest : m.highest ≤ n.highest
  pub rows : All (λ row. row.modseq ≤ n.highest) n.rows

-- under a record the numbers go on
abbrev pub RecordRises : Type 0
RecordRises = (m n : Mailbox) (r : Record) → IsValid m → after_record m r ≡ Some n → RisesTo m n

-- under records in turn no number falls
abbrev pub RecordsNeverFall : Type 0
RecordsNeverFall = (m n : Mailbox) (rs : List Record) → IsValid m → applied m rs ≡ Some n → NeverFalls m n

-- a UID that was given out and has no row has none after a record
abbrev pub NoneReturns : Type 0
NoneReturns = (m n : Mailbox) (r : Record) (uid : ℕ) → after_record m r ≡ Some n → uid < m.next_uid → row_of m uid ≡ None → row_of n uid ≡ None

-- nor after records in turn
abbrev pub NoneReturnsInTurn : Type 0
NoneReturnsInTurn = (m n : Mailbox) (rs : List Record) (uid : ℕ) → applied m rs ≡ Some n → uid < m.next_uid → row_of m uid ≡ None → row_of n uid ≡ None

-- ---- a keyword keeps its place

-- the later table has the names of the former in their places, and maybe more behind them
abbrev pub GrowsTo : List (List ℕ) → List (List ℕ) → Type 0
GrowsTo names later = (more : List (List ℕ)) × (later ≡ names ++ more)

-- under a record the table of keywords grows at its end alone
abbrev pub KeywordsStay : Type 0
KeywordsStay = (m n : Mailbox) (r : Record) → after_record m r ≡ Some n → GrowsTo m.keywords n.keywords

-- so it does under records in turn
abbrev pub KeywordsStayInTurn : Type 0
KeywordsStayInTurn = (m n : Mailbox) (rs : List Record) → applied m rs ≡ Some n → GrowsTo m.keywords n.keywords

-- a mailbox that followed a view follows it behind further records
abbrev pub FollowingStays : Type 0
FollowingStays = (before m n : Mailbox) (view : View) (rs : List Record) → Follows before view m → All (λ r. IsInRange r.body) rs → applied m rs ≡ Some n → Follows before view n
