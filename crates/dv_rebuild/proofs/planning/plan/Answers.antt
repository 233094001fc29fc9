use Rattle.std.proofs.Common.{◌∙◌, ◌<◌, List, ℕ, ap, arith, subst, sym}
use Rattle.dv_logfile.specs.Layout.{last_end, log_end, log_text}
use Rattle.dv_openings.specs.Rebuilds.{new_indexid, stamp_of}
use Rattle.dv_openings.specs.Salvages.{rebuilt_records}
use Rattle.dv_rebuild.specs.Plans.{header_of}
use Rattle.dv_rebuild.specs.Walks.{salvaged_of}
use Rattle.dv_rebuild.proofs.Plans.{ends_in_time, ends_late}
use Rattle.dv_rebuild.proofs.Written.{good_header}
use Rattle.dv_rebuild.proofs.planning.plan.Goals as goal

pub returns-in_default : goal.returns-in_default
returns-in_default c =
    let s = salvaged_of c.in_ok-salvage.salvage in
    let indexid = c.new_indexid-indexid.result in
    let named = c.new_indexid-indexid.ensures.is ∙ ap (λ (l : List ℕ). new_indexid l c.args.now) c.as_slice.ensures in
    record {
      salvaged = s;
      used = c.in_ok-salvage.used;
      sources = c.in_ok-salvage.sources;
      salvages = c.in_ok-salvage.ensures;
      long = subst (λ (n : ℕ). last_end < log_end (rebuilt_records s c.args.kept.now n)) named
          (ends_late (header_of indexid c.max.result s.mailbox.highest) (rebuilt_records s c.args.kept.now indexid) (sym c.in_default.is ∙ c.in_ok-made.ensures.text));
    }

pub returns : goal.returns
returns c =
    let s = salvaged_of c.in_ok-salvage.salvage in
    let indexid = c.new_indexid-indexid.result in
    let rs = rebuilt_records s c.args.kept.now indexid in
    let made = c.in_ok-made.ensures in
    let left = made.left in
    let ends = ends_in_time (header_of indexid c.max.result s.mailbox.highest) rs c.in-Some.text (sym c.in-Some.is ∙ made.text) in
    record {
      salvaged = s;
      used = c.in_ok-salvage.used;
      sources = c.in_ok-salvage.sources;
      salvages = c.in_ok-salvage.ensures;
      named = c.new_indexid-indexid.ensures.is ∙ ap (λ (l : List ℕ). new_indexid l c.args.now) c.as_slice.ensures;
      text = ends.0 ∙ ap (λ (n : ℕ). log_text (header_of indexid n s.mailbox.highest) rs) c.max.ensures;
      remains = c.in_ok-remains.ensures;
      fits = ends.1;
      good = good_header indexid (stamp_of c.args.now) s.mailbox.highest c.new_indexid-indexid.ensures.some (omega (arith, c.new_indexid-indexid.type_inv)) (omega (arith, c.ranges.now.fits)) (omega (arith, left.valid.highest.1));
      records = made.records;
      left = left;
    }
