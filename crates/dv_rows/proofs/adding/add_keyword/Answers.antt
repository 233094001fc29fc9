use Rattle.std.proofs.Common.{ℕ, subst, sym, ◌∙◌}
use Rattle.std.specs.Prelude.{Contains}
use Rattle.dv_model.specs.declared.types.Pair.{Pair}
use Rattle.dv_rows.proofs.GivenPlaces.{named_added, named_only, some_added}
use Rattle.dv_rows.proofs.PartChanges.{ok_then}
use Rattle.dv_rows.proofs.PutBack.{written_back}
use Rattle.dv_rows.specs.Parted.{IsNamed, is_among}
use Rattle.dv_rows.proofs.adding.add_keyword.Goals as goal

pub returns-clause-ok : goal.returns-clause-ok
returns-clause-ok c =
    let rows = c.args.rows.now.items in
    let n = c.args.modseq in
    let k = c.args.place in
    let uids = c.deref-2.result.now in
    let pairs = c.args.pairs.now in
    let named : (uid : ℕ) → IsNamed (λ (p : Pair). p.first) (λ (p : Pair). p.last) pairs rows uid → Contains uids uid = λ uid is.
    subst (λ us. Contains us uid) (sym c.deref-2.ensures.value)
    (c.in_ok-name_ranges.ensures.named uid (subst (λ rs. IsNamed (λ (p : Pair). p.first) (λ (p : Pair). p.last) pairs rs uid) (sym c.deref.ensures.value) is)) in
    let only : (uid : ℕ) → Contains uids uid → IsNamed (λ (p : Pair). p.first) (λ (p : Pair). p.last) pairs rows uid = λ uid has.
    subst (λ rs. IsNamed (λ (p : Pair). p.first) (λ (p : Pair). p.last) pairs rs uid) c.deref.ensures.value
    (named_only uid c.new-uids.result.items c.new-uids.ensures.items _ (c.in_ok-name_ranges.ensures.only uid (subst (λ us. Contains us uid) c.deref-2.ensures.value has))) in
    ok_then c.add_to.result _ _ c.add_to.ensures.ok (λ is.
    written_back (some_added n k (is_among uids)) rows c.as_mut_slice.result.now c.add_to.new.rows c.args.rows.now.len c.as_mut_slice.ensures.value c.as_mut_slice.ensures.len is
    ∙ named_added n k pairs uids rows named only)
