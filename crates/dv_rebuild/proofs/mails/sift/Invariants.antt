use Rattle.std.proofs.Common.{◌≡◌, take}
use Rattle.std.specs.Prelude.{All}
use Rattle.dv_model.specs.Spelling.{IsUid}
use Rattle.dv_openings.specs.Rebuilds.{kept_of, skipped_of}
use Rattle.dv_chain.specs.Openings.{OnlyLooks}
use Rattle.dv_rebuild.specs.Reports.{skips_of}
use Rattle.dv_rebuild.proofs.mails.sift.Given as goal

abbrev pub invariant-loop-n : goal.invariant-loop-n
invariant-loop-n g l = record {
  kept : g.S.Shelf.sees.tells → l.sifted.kept ≡ kept_of (g.S.Shelf.sees.files l.initial.shelf) (take l.n-index l.numbers);
  skipped : g.S.Shelf.sees.tells → l.sifted.skipped ≡ skipped_of (g.S.Shelf.sees.files l.initial.shelf) (take l.n-index l.numbers);
  skips : g.S.Shelf.sees.tells → l.sifted.skips ≡ take 100 (skips_of (g.S.Shelf.sees.files l.initial.shelf) (take l.n-index l.numbers));
  uids : All IsUid l.sifted.kept;
  looks : g.S.Shelf.sees.tells → OnlyLooks g.S.Shelf.sees l.initial.shelf l.shelf;
  faults : g.S.Shelf.sees.fault_count l.shelf ≡ g.S.Shelf.sees.fault_count l.initial.shelf;
}
