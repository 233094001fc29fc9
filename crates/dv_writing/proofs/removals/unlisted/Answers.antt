use Rattle.std.proofs.Common.{◌≡◌, ℕ, List, ap, subst, sym, ◌∙◌}
use Rattle.std.specs.Prelude.{Contains}
use Rattle.std.specs.List.Sorted.{IsStrictlyIncreasing}
use Rattle.dv_writing.specs.Removals.{uids_in}
use Rattle.dv_writing.proofs.Listing.{uids_from, uids_to}
use Rattle.dv_writing.proofs.removals.unlisted.Goals as goal

pub returns : goal.returns
returns c =
    let m = c.args.live.now.mailbox in
    let names = c.args.names.now in
    let made = c.from_vec.ensures in
    let before : c.into_vec-uids.result.items ≡ uids_in m names = c.into_vec-uids.ensures ∙ c.in_ok-gone_uids.ensures ∙ ap (uids_in m) c.as_slice.ensures in
    record {
      rising = subst IsStrictlyIncreasing (sym made) c.sort_uids.ensures.rising;
      are = λ uid. (
        λ has. uids_from m names uid (subst (λ (l : List ℕ). Contains l uid) before ((c.sort_uids.ensures.same uid).0 (subst (λ (l : List ℕ). Contains l uid) made has))),
        λ is. subst (λ (l : List ℕ). Contains l uid) (sym made) ((c.sort_uids.ensures.same uid).1 (subst (λ (l : List ℕ). Contains l uid) (sym before) (uids_to m names uid is))),
      );
    }
