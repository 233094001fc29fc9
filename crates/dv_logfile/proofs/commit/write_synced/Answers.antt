use Rattle.std.proofs.Common.{◌≡◌, length, true, false, Result, Ok, Err, IsErr, OnOk, OnErr, ◌∙◌}
use Rattle.dv_shelf.specs.declared.shelf.Name.TheVariants.{Log}
use Rattle.dv_shelf.specs.Folders.{Folder, ChangesOnly, TornFile}
use Rattle.dv_shelf.proofs.Moments.{goes_on}
use Rattle.dv_logfile.specs.Gates.{FromOneOf}
use Rattle.dv_logfile.proofs.Gate.{written_once, written_torn}
use Rattle.dv_logfile.proofs.commit.write_synced.Goals as goal

on_ok : {T E : Type 0} (r : Result T E) {P : Type 0} → P → OnOk r P
on_ok (Ok done) is = is
on_ok (Err fault) is = tt

on_err : {T E : Type 0} (r : Result T E) {P : Type 0} → P → OnErr r P
on_err (Ok done) is = tt
on_err (Err fault) is = is

no_ok : {T E : Type 0} (P : Type 0) (r : Result T E) → IsErr r → OnOk r P
no_ok P (Ok done) never = let no : false ≡ true = never in cc
no_ok P (Err fault) never = tt

pub returns-in_err-write_at-clause-writes : goal.returns-in_err-write_at-clause-writes
returns-in_err-write_at-clause-writes g c = λ tells.
    let S = g.S.Shelf in
    let s0 = c.args.shelf.now in
    record {
      ok = no_ok _ c.from_residual.result c.from_residual.ensures.0;
      err = on_err c.from_residual.result (c.in_err-write_at.ensures.err tells);
      durable = no_ok _ c.from_residual.result c.from_residual.ensures.0;
      crash = c.write_at.ensures.crash tells;
      since = written_once S.sees s0 c.write_at.new.self c.args.at (length c.args.bytes.now)
          (λ f left. g.met.S.Shelf.only_now s0 f tells left) (c.write_at.ensures.time tells) (c.write_at.ensures.crash tells);
    }

pub returns-clause-writes : goal.returns-clause-writes
returns-clause-writes g c = λ tells.
    let S = g.S.Shelf in
    let s0 = c.args.shelf.now in
    let s2 = c.sync.new.self in
    let bytes = c.args.bytes.now in
    let step : Folder → Folder → Type 0 = ChangesOnly Log (TornFile c.args.at (length bytes)) in
    let wrote = c.sync.ensures.files tells ∙ c.in_ok-write_at.ensures.ok tells in
    let first = written_once S.sees s0 c.write_at.new.self c.args.at (length bytes)
    (λ f left. g.met.S.Shelf.only_now s0 f tells left) (c.write_at.ensures.time tells) (c.write_at.ensures.crash tells) in
    let crash : (f : Folder) → S.sees.may_leave s2 f → FromOneOf (S.sees.may_leave s0) step f = λ f left. c.write_at.ensures.crash tells f (c.sync.ensures.crash tells f left) in
    record {
      ok = on_ok c.sync.result wrote;
      err = on_err c.sync.result (written_torn (S.sees.files s0) (S.sees.files s2) c.args.at bytes wrote);
      durable = c.sync.ensures.durable tells;
      crash = crash;
      since = goes_on S.sees s0 c.write_at.new.self s2 (FromOneOf (S.sees.may_leave s0) step) (S.sees.may_leave s2) first (c.sync.ensures.time tells) crash;
    }
