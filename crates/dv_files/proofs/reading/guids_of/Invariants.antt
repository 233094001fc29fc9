use Rattle.std.proofs.Common.{◌≡◌, map, take}
use Rattle.std.specs.Prelude.{All}
use Rattle.dv_model.specs.declared.types.GuidRow.{GuidRow}
use Rattle.dv_model.specs.Journals.{IsGuid}
use Rattle.dv_chain.specs.Openings.{OnlyLooks}
use Rattle.dv_files.specs.Reading.{after_reads, guid_rows}
use Rattle.dv_files.proofs.reading.guids_of.Given as goal

abbrev pub invariant-loop-uid : goal.invariant-loop-uid
invariant-loop-uid g l = record {
  beside : map (λ (row : GuidRow). row.uid) l.rows ≡ take l.uid-index l.uids;
  guids : All (λ (row : GuidRow). IsGuid row.guid) l.rows;
  rows : g.S.Shelf.sees.tells → l.rows ≡ guid_rows (g.S.Shelf.sees.files l.initial.shelf) (take l.uid-index l.uids);
  looks : g.S.Shelf.sees.tells → OnlyLooks g.S.Shelf.sees l.initial.shelf l.shelf;
  mail_reads : g.S.Shelf.sees.mail_reads l.shelf ≡ after_reads (g.S.Shelf.sees.mail_reads l.initial.shelf) l.uid-index;
  faults : g.S.Shelf.sees.fault_count l.shelf ≡ g.S.Shelf.sees.fault_count l.initial.shelf;
}
