use Rattle.std.proofs.Common.{◌≡◌, ℕ, ◌+◌, ◌-◌, ◌≤◌, ◌∙◌, ◌++◌, ◌∷◌, [], List, length, map, min, take, drop, refl, sym, ap, arith, append-nil, length-drop}
use Rattle.std.specs.Prelude.{flat_map}
use Rattle.std.specs.List.{enumerate_from}
use Rattle.std.proofs.lemmas.List.{drop-drop}
use Rattle.std.proofs.lemmas.List.FromFn.{length-enumerate_from}
use Rattle.dv_model.specs.declared.types.Body.TheVariants as body
use Rattle.dv_model.specs.declared.types.Record.{Record}
use Rattle.dv_model.specs.declared.types.Row.{Row}
use Rattle.dv_model.specs.Sessions.{internal_record, offset_row, pieces}
use Rattle.dv_groups.proofs.Parted.{pieces-front, pieces-more, pieces-none}
use Rattle.dv_groups.proofs.checks.add_offsets.Goals as goal

update : List (ℕ × Row) → Record
update rows = internal_record (body.ExtRecordUpdate (flat_map offset_row rows))

pub loop-from-preserved : goal.loop-from-preserved
unfolding update
loop-from-preserved c =
    let all : List (ℕ × Row) = enumerate_from 0 c.args.live.now.mailbox.rows in
    let from = c.loop-from.from in
    let n = c.min.result in
    let back : List (ℕ × Row) = drop from all in
    let long : length back ≡ length c.args.live.now.mailbox.rows - from = omega (arith, length-drop from all, length-enumerate_from 0 c.args.live.now.mailbox.rows) in
    let fits : n ≡ min (length back) 65536 = omega (arith, long, c.min.ensures, c.count-count.ensures) in
    let some : 1 ≤ length back = omega (arith, long, c.loop-from-test.true, c.count-count.ensures) in
    let cut : pieces back ≡ take n back ∷ pieces (drop (from + n) all) =
    pieces-front back (take n back) (drop n back) n some fits refl refl ∙ ap (λ xs. take n back ∷ pieces xs) (drop-drop n from all) in
    let width : from + n - from ≡ n = omega arith in
    let pushed : c.push.new.self ≡ c.loop-from.records ++ update (take n back) ∷ [] =
    c.in_ok-push.ensures.ok ∙ ap (λ r. c.loop-from.records ++ r ∷ []) (c.internal.ensures
    ∙ ap (λ bytes. internal_record (body.ExtRecordUpdate bytes)) (c.in_ok-bytes.ensures ∙ ap (λ k. flat_map offset_row (take k back)) width)) in
    record {
      so_far = pieces-more update (c.args.records.now ++ map update (pieces all)) c.loop-from.records c.push.new.self back (take n back) (drop (from + n) all) c.loop-from.invariant.so_far cut pushed;
      inside = omega (arith, fits, long, some);
    }

pub returns : goal.returns
returns c =
    let rows = c.args.live.now.mailbox.rows in
    let none = pieces-none (enumerate_from 0 rows) c.loop-from.from (omega (arith, c.loop-from-test.false, c.count-count.ensures, length-enumerate_from 0 rows)) in
    sym (c.loop-from.invariant.so_far ∙ ap (λ ps. c.loop-from.records ++ map (λ rows. internal_record (body.ExtRecordUpdate (flat_map offset_row rows))) ps) none ∙ append-nil c.loop-from.records)
