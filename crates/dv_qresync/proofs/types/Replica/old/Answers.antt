use Rattle.std.proofs.Common.{◌≡◌, ◌-◌, ◌∷◌, ℕ, List, ◌∙◌, ap, arith, drop, get_or, length, map, refl, sym}
use Rattle.std.specs.Prelude.{reverse}
use Rattle.std.proofs.lemmas.List.{drop_all}
use Rattle.dv_model.specs.declared.types.Pair.{Pair}
use Rattle.dv_model.specs.declared.types.Span.{Span}
use Rattle.dv_model.specs.Sessions.{ranges_of, with_uid}
use Rattle.dv_qresync.specs.declared.types.Cached.{Cached}
use Rattle.dv_qresync.specs.declared.types.Old.{Old}
use Rattle.dv_qresync.specs.Replicas.{span_of}
use Rattle.dv_qresync.proofs.Gathered.{one_put}
use Rattle.dv_qresync.proofs.Rows.{taken_back}
use Rattle.dv_qresync.proofs.types.Replica.old.Goals as goal

abbrev uids_in : List Cached → List ℕ
uids_in rows = map (λ (row : Cached). row.uid) rows

abbrev with_set : ℕ → ℕ → List Span → Old
with_set validity highest set = record { uid_validity = validity; modseq = highest; uids = set }

pub loop-left-init : goal.loop-left-init
loop-left-init c =
    let rows : List Cached = c.as_slice-rows.result.now in
    record { inside = omega arith; ranges = ap reverse c.new-ranges.ensures.items ∙ sym (ap (λ (cs : List Cached). ranges_of (uids_in cs)) (drop_all (length rows) rows (omega arith))) }

pub loop-left-preserved : goal.loop-left-preserved
loop-left-preserved c =
    let rows : List Cached = c.as_slice-rows.result.now in
    let left = c.loop-left.left in
    let x : Cached = c.index-rows-left.result in
    let y : Cached = get_or rows (left - 1) x in
    record {
      inside = omega (arith, c.loop-left.invariant.inside);
      ranges =
          c.in_ok-put_before.ensures
          ∙ one_put y.uid (reverse c.loop-left.ranges.items)
          ∙ ap (with_uid y.uid) c.loop-left.invariant.ranges
          ∙ ap (λ (z : Cached). ranges_of (uids_in (z ∷ drop left rows))) (sym c.index-rows-left.is)
          ∙ ap (λ (cs : List Cached). ranges_of (uids_in cs)) (taken_back rows left x (drop left rows) (omega (arith, c.loop-left-test.true)) c.loop-left.invariant.inside c.index-rows-left.is refl);
    }

pub returns : goal.returns
returns c =
    let rows : List Cached = c.as_slice-rows.result.now in
    let none : c.loop-left.left ≡ 0 = omega (arith, c.loop-left-test.false) in
    ap (with_set c.args.self.now.uid_validity c.args.self.now.highest)
    (c.in_ok-set_of.ensures
    ∙ ap (λ (ps : List Pair). map span_of ps) (c.loop-left.invariant.ranges ∙ ap (λ n. ranges_of (uids_in (drop n rows))) none ∙ ap (λ (cs : List Cached). ranges_of (uids_in cs)) c.as_slice-rows.ensures))
