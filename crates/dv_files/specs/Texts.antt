-- The texts of a rotation of a chain's log, and the chain behind it.
use Rattle.std.specs.Prelude.{◌≡◌, ℕ, ◌+◌, ◌-◌, ◌^◌, ◌<◌, List, [], ◌++◌, length, replicate, take, Result, Ok, Err}
use Rattle.dv_model.specs.declared.types.Mark.{Mark}
use Rattle.dv_model.specs.Journals.{header_size}
use Rattle.dv_shelf.specs.declared.shelf.Name.TheVariants as name
use Rattle.dv_shelf.specs.Folders.{Folder, contents}
use Rattle.dv_logfile.specs.declared.header.LogHeader.{LogHeader}
use Rattle.dv_logfile.specs.Layout.{closing, log_text}
use Rattle.dv_formats.specs.Snapshots.{IsSnapshot}
use Rattle.dv_openings.specs.Rebuilds.{stamp_of}
use Rattle.dv_chain.specs.declared.chain.Chain.{Chain}
use Rattle.dv_files.specs.declared.texts.Turn.{Turn}

-- a chain's place: its file, and the end of its records there
abbrev pub place_of : Chain → Mark
place_of chain = record { file_seq = chain.log.file_seq; offset = chain.log.end }

-- the snapshot of the chain's mailbox at its place
abbrev pub IsSnapshotOf : Chain → List ℕ → Type 0
IsSnapshotOf chain text = IsSnapshot 2 chain.live.mailbox chain.indexid (place_of chain) text

-- a log up to a place, with zero bytes where it ends before that, and closed there
abbrev pub closed_at : ℕ → List ℕ → List ℕ
closed_at end log = take end log ++ replicate (end - length log) 0 ++ closing

-- The header of the file behind the chain's, which is made at this reading of the clock: it names
-- the chain's file and its end, and begins with the mailbox's highest modification sequence.
abbrev pub next_header : Chain → ℕ → LogHeader
next_header chain now = record {
  major_version = 1;
  minor_version = 3;
  hdr_size = 40;
  indexid = chain.indexid;
  file_seq = chain.log.file_seq + 1;
  prev_file_seq = chain.log.file_seq;
  prev_file_offset = chain.log.end;
  create_stamp = stamp_of now;
  initial_modseq = chain.live.mailbox.highest;
  compat_flags = 1;
}

-- that file, without a record
abbrev pub next_log : Chain → ℕ → List ℕ
next_log chain now = log_text (next_header chain now) []

-- the turn is of the chain's mailbox and place: its snapshot, and the file behind the chain's
pub record IsTurnOf (chain : Chain) (turn : Turn) : Type 0 where
  pub index : IsSnapshotOf chain turn.index
  pub now : ℕ
  pub small : now < 2 ^ 32
  pub new : turn.new ≡ next_log chain now

-- its old log is the folder's, closed at the chain's end
abbrev pub ClosesLog : Chain → Turn → Folder → Type 0
ClosesLog chain turn folder =
    turn.old ≡ closed_at chain.log.end (contents folder name.Log)

-- ---- the chain

-- the same mailbox on the next file, which has no record yet
abbrev pub turned : Chain → Chain
turned chain = record chain {
  log = record chain.log {
    file_seq = chain.log.file_seq + 1;
    end = header_size;
    count = 0;
  };
  records = chain.live.mailbox.highest;
}

-- behind Ok the chain stands on the next file; an error leaves it as it was
abbrev pub Advances : Chain → Chain → {T E : Type 0} → Result T E → Type 0
Advances old new (Ok x) = new ≡ turned old
Advances old new (Err e) = new ≡ old
