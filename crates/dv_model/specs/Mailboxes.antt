-- What a valid mailbox is (Dovecot's index files; RFC 3501, section 2.3.1.1; RFC 7162, section 3.1).
use Rattle.std.specs.Prelude.{◌≡◌, ◌≢◌, ℕ, ◌-◌, ◌^◌, ◌<◌, ◌≤◌, List, length, map, sum_by, All, AllPairs, codes, IfSome, IsSomeAnd, slice_get, [], None}
use Rattle.std.specs.List.Sorted.{IsStrictlyIncreasing}
use Rattle.dv_model.specs.declared.types.Extension.{Extension}
use Rattle.dv_model.specs.declared.types.Mailbox.{Mailbox}
use Rattle.dv_model.specs.declared.types.Row.{Row}
use Rattle.dv_model.specs.Names.{IsName}

-- the largest modification sequence: a positive number of 63 bits (RFC 7162, section 7, mod-sequence-value)
abbrev pub last_modseq : ℕ
last_modseq = 2 ^ 63 - 1

-- a row of this mailbox: its UID was given out, its keywords are in the table, it has a part of each extension, and
-- its last change isn't later than the mailbox's
pub record IsRowOf (m : Mailbox) (row : Row) : Type 0 where
  pub uid : (1 ≤ row.uid) × (row.uid < m.next_uid)
  pub keywords : IsStrictlyIncreasing row.keywords × All (λ k. k < length m.keywords) row.keywords
  pub parts : map length row.parts ≡ map (λ e. e.record_size) m.extensions
  pub modseq : (1 ≤ row.modseq) × (row.modseq ≤ m.highest)

-- at most 16 extensions, 1,024 bytes of a row and 65,536 of a header; each has a name of its own, which isn't `keywords`
pub record AreExtensions (es : List Extension) : Type 0 where
  pub count : length es ≤ 16
  pub record_sizes : sum_by (λ e. e.record_size) es ≤ 1024
  pub headers : All (λ e. length e.header ≤ 65536) es
  pub names : All (λ e. (1 ≤ length e.name) × (length e.name ≤ 255) × (e.name ≢ codes "keywords")) es
  pub distinct : AllPairs (λ a b. a.name ≢ b.name) es

-- UIDs are assigned in a strictly ascending fashion (RFC 3501, section 2.3.1.1) and are below the UIDNEXT, keyword names
-- are distinct, each row has one part for each extension, and no row was changed after the mailbox
pub record IsValid (m : Mailbox) : Type 0 where
  pub next_uid : (1 ≤ m.next_uid) × (m.next_uid < 2 ^ 32)
  pub rising : IsStrictlyIncreasing (map (λ row. row.uid) m.rows)
  pub rows : All (IsRowOf m) m.rows
  pub names : All IsName m.keywords × AllPairs (λ a b. a ≢ b) m.keywords
  pub extensions : AreExtensions m.extensions
  pub current : IfSome m.current (λ c. IsSomeAnd (slice_get m.extensions c.extension) (λ e. c.size ≤ e.record_size))
  pub highest : (1 ≤ m.highest) × (m.highest ≤ last_modseq)

-- a mailbox that never had a message
abbrev pub empty_mailbox : ℕ → Mailbox
empty_mailbox validity = record { uid_validity = validity; next_uid = 1; rows = []; keywords = []; extensions = []; current = None; highest = 1 }
