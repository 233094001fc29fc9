use Rattle.std.proofs.Common.{◌≡◌, ◌∙◌, ℕ, ap, get_or}
use Rattle.dv_shelf.specs.Folders.{Folder}
use Rattle.dv_chain.proofs.Shelves.{looked_both}
use Rattle.dv_rebuild.specs.Reports.{skip_cause}
use Rattle.dv_rebuild.proofs.Sifted.{kept_more, skipped_more, skips_more, uids_more}
use Rattle.dv_rebuild.proofs.mails.sift.Goals as goal

pub returns-in_err-cause-clause-looks : goal.returns-in_err-cause-clause-looks
returns-in_err-cause-clause-looks g c = λ tells.
    let S = g.S.Shelf in
    looked_both S.sees c.args.shelf.now c.loop-n.shelf c.skip_cause.new.shelf (c.loop-n.invariant.looks tells) (c.skip_cause.ensures.looks tells)

pub returns-in-Err-clause-looks : goal.returns-in-Err-clause-looks
returns-in-Err-clause-looks g c = λ tells.
    let S = g.S.Shelf in
    looked_both S.sees c.args.shelf.now c.loop-n.shelf c.skip_cause.new.shelf (c.loop-n.invariant.looks tells) (c.skip_cause.ensures.looks tells)

pub loop-n-preserved : goal.loop-n-preserved
loop-n-preserved g c =
    let S = g.S.Shelf in
    let old = c.args.shelf.now in
    let mid = c.loop-n.shelf in
    let new = c.skip_cause.new.shelf in
    let numbers = c.args.numbers.now in
    let i = c.loop-n.n-index in
    let n : ℕ = get_or numbers i 0 in
    let less = c.loop-n-test.true in
    let why = c.in_ok-cause.cause in
    let was = c.loop-n.invariant in
    let adds = c.in-Ok.ensures in
    let is : S.sees.tells → why ≡ skip_cause (S.sees.files old) n = λ tells.
    c.in_ok-cause.ensures.is tells ∙ ap (λ (f : Folder). skip_cause f n) (was.looks tells).same in
    record {
      kept = λ tells. kept_more (S.sees.files old) numbers i less why c.loop-n.sifted c.add.new.sifted (is tells) adds (was.kept tells);
      skipped = λ tells. skipped_more (S.sees.files old) numbers i less why c.loop-n.sifted c.add.new.sifted (is tells) adds (was.skipped tells);
      skips = λ tells. skips_more (S.sees.files old) numbers i less why c.loop-n.sifted c.add.new.sifted (is tells) adds (was.skips tells);
      uids = uids_more n why c.loop-n.sifted c.add.new.sifted adds c.in_ok-cause.ensures.uid was.uids;
      looks = λ tells. looked_both S.sees old mid new (was.looks tells) (c.in_ok-cause.ensures.looks tells);
      faults = c.in_ok-cause.ensures.cause.same (λ e. cc) ∙ was.faults;
    }
