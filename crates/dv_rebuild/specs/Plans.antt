-- The new log, made ready.
use Rattle.std.specs.Prelude.{◌≡◌, ℕ, ◌^◌, ◌<◌, ◌≤◌, List, All, Option, Some, None, is_some, nat_le, if◌then◌else◌}
use Rattle.dv_model.specs.declared.types.Mailbox.{Mailbox}
use Rattle.dv_model.specs.declared.types.Record.{Record}
use Rattle.dv_model.specs.Mailboxes.{IsValid}
use Rattle.dv_model.specs.Spelling.{IsRecord}
use Rattle.dv_logfile.specs.declared.header.LogHeader.{LogHeader}
use Rattle.dv_logfile.specs.Layout.{IsGoodHeader, last_end, log_end, log_text, new_header}
use Rattle.dv_logfile.specs.Scans.{GoodLog, IsScanned, Scanned}
use Rattle.dv_openings.specs.Openings.{IsIndex, Snapshot}
use Rattle.dv_openings.specs.Rebuilds.{IsHeaderIn, new_indexid, stamp_of, used_indexids}
use Rattle.dv_openings.specs.Salvages.{IsLogFront, Salvaged, rebuilt_records, salvaged_in}
use Rattle.dv_rebuild.specs.declared.planning.NewLog.{NewLog}
use Rattle.dv_rebuild.specs.declared.reading.Texts.{Texts}
use Rattle.dv_rebuild.specs.declared.reporting.Sources.{Sources}
use Rattle.dv_rebuild.specs.declared.sourcing.Which.{Which}
use Rattle.dv_rebuild.specs.Reports.{remains_of}
use Rattle.dv_rebuild.specs.Sources.{sources_in}

-- the header of a rebuilt log
abbrev pub header_of : ℕ → ℕ → ℕ → LogHeader
header_of indexid stamp highest =
    record (new_header indexid) { create_stamp = stamp; initial_modseq = highest }

-- the text of a log of these records; none where they don't end in time
abbrev pub text_in_time : LogHeader → List Record → Option (List ℕ)
text_in_time h records = if nat_le (log_end records) last_end then Some (log_text h records) else None

-- the indexids of a log, of the header in a rotated log's bytes, and of a snapshot
pub record AreUsed (log : Option GoodLog) (rotated : Option (List ℕ)) (index : Option Snapshot)
    (used : List ℕ) : Type 0 where
  pub header : Option LogHeader
  pub there : IsHeaderIn rotated header
  pub are : used ≡ used_indexids log header index

-- which of the files have a text
abbrev pub there_in : Texts → Which
there_in texts = record {
  log = is_some texts.log;
  rotated = is_some texts.rotated;
  index = is_some texts.index;
}

-- what is salvaged of these texts, the indexids that they have, and what came of each
pub record Salvages (texts : Texts) (salvaged : Salvaged) (used : List ℕ) (sources : Sources)
    : Type 0 where
  pub log : Option GoodLog
  pub rotated : Scanned
  pub index : Option Snapshot
  pub log_file : IsLogFront texts.log log
  pub rotated_file : IsScanned texts.rotated rotated
  pub index_file : IsIndex texts.index index
  pub is : salvaged ≡ salvaged_in log rotated index
  pub used_are : AreUsed log texts.rotated index used
  pub sources_are : sources ≡ sources_in (there_in texts) log rotated index

-- a mailbox that records leave: its numbers are ones that a log may have
pub record HasLogNumbers (m : Mailbox) : Type 0 where
  pub valid : IsValid m
  pub small : m.uid_validity < 2 ^ 32

-- The new log of a folder whose files have these texts, with these UIDs, by a clock's reading. It
-- is a good one, and ends in time.
pub record IsPlan (texts : Texts) (kept : List ℕ) (now : ℕ) (plan : NewLog) : Type 0 where
  pub salvaged : Salvaged
  pub used : List ℕ
  pub sources : Sources
  pub salvages : Salvages texts salvaged used sources
  pub named : plan.indexid ≡ new_indexid used now
  pub text : plan.text ≡ log_text (header_of plan.indexid (stamp_of now) salvaged.mailbox.highest) (rebuilt_records salvaged kept plan.indexid)
  pub remains : plan.remains ≡ remains_of sources salvaged kept plan.indexid
  pub fits : log_end (rebuilt_records salvaged kept plan.indexid) ≤ last_end
  pub good : IsGoodHeader (header_of plan.indexid (stamp_of now) salvaged.mailbox.highest)
  pub records : All IsRecord (rebuilt_records salvaged kept plan.indexid)
  pub left : HasLogNumbers salvaged.mailbox

-- the records of the new log don't end in time
pub record IsTooLong (texts : Texts) (kept : List ℕ) (now : ℕ) : Type 0 where
  pub salvaged : Salvaged
  pub used : List ℕ
  pub sources : Sources
  pub salvages : Salvages texts salvaged used sources
  pub long : last_end < log_end (rebuilt_records salvaged kept (new_indexid used now))

-- the new log; there is none only where it would be too long
abbrev pub Plans : Texts → List ℕ → ℕ → Option NewLog → Type 0
Plans texts kept now (Some plan) = IsPlan texts kept now plan
Plans texts kept now None = IsTooLong texts kept now
