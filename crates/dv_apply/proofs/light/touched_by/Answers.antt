use Rattle.std.proofs.Common.{◌≡◌, ◌↔◌, ℕ, List, ◌++◌, length, drop, ap, sym, ◌∙◌, subst}
use Rattle.std.specs.Prelude.{Contains}
use Rattle.std.specs.List.Sorted.{IsStrictlyIncreasing}
use Rattle.std.proofs.lemmas.Bool.{eqb-true}
use Rattle.std.proofs.lemmas.List.{take-append-drop}
use Rattle.dv_model.specs.Effects.{applied}
use Rattle.dv_model.specs.Fresh.{IsTouched}
use Rattle.dv_apply.proofs.Lending.{bad_by}
use Rattle.dv_apply.proofs.Lightness.{empty_of, found_all, found_more, rises_first, rises_later}
use Rattle.dv_apply.specs.Preparing.{IsRefused}
use Rattle.dv_apply.specs.States.{Kept, mailbox_of}
use Rattle.dv_apply.proofs.light.touched_by.Goals as goal

pub touched_among-requires-clause-rising : goal.touched_among-requires-clause-rising
touched_among-requires-clause-rising c = subst IsStrictlyIncreasing (sym c.split_at.ensures.front) (rises_first c.min.result c.loop-rest.rest.now c.loop-rest.invariant.rising)

pub loop-rest-preserved : goal.loop-rest-preserved
loop-rest-preserved c =
    let m = mailbox_of c.args.state.now in
    let rs = c.args.records.now in
    let rest = c.loop-rest.rest.now in
    let some = c.split_at.result.0.now in
    let others = c.split_at.result.1.now in
    let same = ap (λ (k : Kept). k.mailbox) c.loop-rest.invariant.is in
    let split : rest ≡ some ++ others =
    sym (take-append-drop c.min.result rest) ∙ ap (λ xs. xs ++ drop c.min.result rest) (sym c.split_at.ensures.front) ∙ ap (λ xs. some ++ xs) (sym c.split_at.ensures.back) in
    record {
      is = c.touched_among.ensures.is ∙ c.loop-rest.invariant.is;
      kept = c.touched_among.ensures.kept;
      rising = subst IsStrictlyIncreasing (sym c.split_at.ensures.back) (rises_later c.min.result rest c.loop-rest.invariant.rising);
      some = c.loop-rest.invariant.some;
      found = λ after is uid.
          let told : Contains c.in-Ok.more uid ↔ (Contains some uid × IsTouched m after uid) =
          subst (λ x. Contains c.in-Ok.more uid ↔ (Contains some uid × IsTouched x after uid)) same (c.in-Ok.ensures.touched after (ap (λ x. applied x rs) same ∙ is) uid) in
          found_more (IsTouched m after uid) c.loop-rest.touched c.in-Ok.more c.in_ok-touched.touched some others rest c.args.uids.now uid split told (c.in_ok-touched.ensures.all uid) (c.loop-rest.invariant.found after is uid);
    }

pub returns-in-Err-clause-bad : goal.returns-in-Err-clause-bad
returns-in-Err-clause-bad c =
    bad_by (List ℕ) c.touched_among.result c.in-Err.e _ _ c.in-Err.is c.touched_among.ensures.bad
    (λ x. subst (λ m. IsRefused m c.args.records.now x) (ap (λ (k : Kept). k.mailbox) c.loop-rest.invariant.is))

pub returns-clause-touched : goal.returns-clause-touched
returns-clause-touched c = λ after is uid.
    found_all (IsTouched (mailbox_of c.args.state.now) after uid) c.loop-rest.touched c.loop-rest.rest.now c.args.uids.now uid (empty_of c.loop-rest.rest.now (eqb-true (length c.loop-rest.rest.now) 0 (sym c.is_empty.ensures ∙ c.loop-rest-test.false))) (c.loop-rest.invariant.found after is uid)
