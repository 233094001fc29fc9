-- What is made ready of records before it is shown.
use Rattle.std.specs.Prelude.{◌≡◌, ◌↔◌, ℕ, ◌<◌, ◌≤◌, true, ⊤, List, [], ◌∷◌, ◌++◌, All, Contains, Some, count_by, get_or, length, nat_le, take}
use Rattle.std.specs.List.{list_all}
use Rattle.std.specs.List.Sorted.{IsStrictlyIncreasing}
use Rattle.dv_ext.specs.Quiet.{is_quiet}
use Rattle.dv_model.specs.declared.types.Body.{Body}
use Rattle.dv_model.specs.declared.types.Body.TheVariants.{Expunge, ExpungeGuid, FlagUpdate, ExtIntro, ExtReset, ExtRecordUpdate}
use Rattle.dv_model.specs.declared.types.Extension.{Extension}
use Rattle.dv_model.specs.declared.types.Mailbox.{Mailbox}
use Rattle.dv_model.specs.declared.types.Record.{Record}
use Rattle.dv_model.specs.Effects.{applied}
use Rattle.dv_model.specs.Fresh.{IsTouched}
use Rattle.dv_model.specs.Mailboxes.{IsValid}
use Rattle.dv_model.specs.Spelling.{IsRecord}
use Rattle.dv_portion.specs.Portions.{portion, rest}
use Rattle.dv_rows.specs.Parted.{HasUid, is_parted}
use Rattle.dv_portion.specs.Surveys.{AreAllNamed}
use Rattle.dv_validity.specs.Laws.{IsInRange}
use Rattle.dv_apply.specs.Bodies.{Refused, refused_row}
use Rattle.dv_apply.specs.declared.share.Made.{Made}
use Rattle.dv_apply.specs.declared.share.Light.{Light}
use Rattle.dv_apply.specs.declared.share.Share.{Share}
use Rattle.dv_apply.specs.declared.share.Way.{Way}
use Rattle.dv_apply.specs.declared.share.Way.TheVariants as way
use Rattle.dv_apply.specs.States.{Held}

-- this row is refused: the first such of a record, in the mailbox that the records before it leave
abbrev pub IsRefused : Mailbox → List Record → Refused → Type 0
IsRefused m rs refused = (k : ℕ) × (d : Record) × (n : Mailbox) × (k < length rs) × (applied m (take k rs) ≡ Some n) × (refused_row n (get_or rs k d).body ≡ Some refused)

-- the mailbox of a share's rows alone, with these keyword names
abbrev pub alone : List (List ℕ) → Share → Mailbox
alone names s = record {
  uid_validity = s.uid_validity;
  next_uid = s.next_uid;
  rows = s.rows.rows;
  keywords = names;
  extensions = s.extensions.extensions;
  current = s.extensions.current;
  highest = s.highest;
}

-- the UIDs, which rise, of rows, among them each that records may change
pub record AreChangeable (m : Mailbox) (rs : List Record) (uids : List ℕ) : Type 0 where
  pub rising : IsStrictlyIncreasing uids
  pub only : All (HasUid m.rows) uids
  pub named : All (λ r. IsInRange r.body) rs → AreAllNamed (length rs) m rs m.rows uids

-- ---- a share of the rows

-- the rows with these UIDs, and the new ones, become the share's; so many are new, and these UIDs are touched
pub record Part : Type 0 where
  pub uids : List ℕ
  pub share : Share
  pub appended : ℕ
  pub touched : List ℕ

-- what stands so
abbrev pub part_of : Made → Part
part_of m = record { uids = m.uids.items; share = m.share; appended = m.appended; touched = m.touched }

-- it makes this mailbox of the live one, without memory
pub record PutsShare (live : Held) (p : Part) (after : Mailbox) : Type 0 where
  pub valid : IsValid after
  pub rising : IsStrictlyIncreasing p.uids
  pub named : All (HasUid live.mailbox.rows) p.uids
  pub names : p.share.names ≤ length live.hidden
  pub portion : portion (is_parted p.uids live.mailbox.next_uid) after ≡ alone (live.mailbox.keywords ++ take p.share.names live.hidden) p.share
  pub rest : rest (is_parted p.uids live.mailbox.next_uid) after.rows ≡ rest (is_parted p.uids live.mailbox.next_uid) live.mailbox.rows
  pub appended : count_by (λ row. nat_le live.mailbox.next_uid row.uid) p.share.rows.rows ≡ p.appended
  pub spare : p.appended ≤ live.spare
  pub touched : (uid : ℕ) → Contains p.touched uid ↔ IsTouched live.mailbox after uid

-- ---- records that take no memory

-- removes rows, or changes flags, or parts of rows to others of the same sizes
abbrev pub IsLight : Body → Type 0
IsLight (Expunge pairs) = ⊤
IsLight (ExpungeGuid rows) = ⊤
IsLight (FlagUpdate changes) = ⊤
IsLight (ExtReset reset_id preserve) = ⊤
IsLight (ExtRecordUpdate bytes) = ⊤
IsLight body = ⊥

-- so does the first record, or it introduces extensions that stay as they are
abbrev pub IsLightFirst : List Extension → Body → Type 0
IsLightFirst es (ExtIntro intros) = list_all (is_quiet es) intros ≡ true
IsLightFirst es body = IsLight body

abbrev pub AreLight : List Extension → List Record → Type 0
AreLight es [] = ⊤
AreLight es (r ∷ rs) = IsLightFirst es r.body × All (λ later. IsLight later.body) rs

-- they make this mailbox of the live one, where they are applied to its rows
pub record AppliesLight (live : Held) (light : Light) (after : Mailbox) : Type 0 where
  pub each : AreLight live.mailbox.extensions light.records
  pub records : All IsRecord light.records
  pub gives : applied live.mailbox light.records ≡ Some after
  pub touched : (uid : ℕ) → Contains light.touched uid ↔ IsTouched live.mailbox after uid

-- ---- either

-- what is made ready
abbrev pub Ready : Type 0
Ready = Way

-- how many rows are new
abbrev pub appended_by : Way → ℕ
appended_by (way.Share made) = made.appended
appended_by (way.Records light) = 0

-- the UIDs that are touched
abbrev pub touched_of : Way → List ℕ
touched_of (way.Share made) = made.touched
touched_of (way.Records light) = light.touched

-- it makes this mailbox of the live one, without memory
abbrev pub Makes : Held → Way → Mailbox → Type 0
Makes live (way.Share made) after = PutsShare live (part_of made) after
Makes live (way.Records light) after = AppliesLight live light after

-- it was made from the live mailbox, which hasn't changed since
abbrev pub IsPrepared : Held → Way → Type 0
IsPrepared live p = (after : Mailbox) × Makes live p after
