use Rattle.std.proofs.Common.{◌≡◌, eqb, subst, sym}
use Rattle.std.specs.Prelude.{Contains}
use Rattle.std.specs.List.{dedup}
use Rattle.std.specs.List.Sorted.{IsStrictlyIncreasing}
use Rattle.std.proofs.lemmas.List.Elements.{All-contains, All-contains_itself}
use Rattle.std.proofs.lemmas.List.Filters.{dedup_is}
use Rattle.std.proofs.lemmas.List.Kept.{Contains-dedup_nat, Contains-from_dedup}
use Rattle.std.proofs.lemmas.List.Sorted.{All-permutation, Contains-permutation}
use Rattle.std.proofs.lemmas.Map.Keys.{IsStrictlyIncreasing-dedup}
use Rattle.dv_rows.proofs.naming.sort_uids.Goals as goal

pub returns-clause-rising : goal.returns-clause-rising
returns-clause-rising c =
    let sorted = c.sort_unstable.new.self.items in
    let left : c.dedup.new.self.items ≡ dedup eqb sorted = dedup_is eqb sorted c.dedup.new.self.items c.dedup.ensures.filtered in
    subst IsStrictlyIncreasing (sym left) (IsStrictlyIncreasing-dedup sorted c.sort_unstable.ensures.sorted)

pub returns-clause-same : goal.returns-clause-same
returns-clause-same c =
    let old = c.args.uids.now.items in
    let sorted = c.sort_unstable.new.self.items in
    let left : c.dedup.new.self.items ≡ dedup eqb sorted = dedup_is eqb sorted c.dedup.new.self.items c.dedup.ensures.filtered in
    λ uid. (
      λ there. All-contains (Contains old) sorted uid (All-permutation (Contains old) old sorted c.sort_unstable.ensures.permutation (All-contains_itself old))
          (Contains-from_dedup eqb sorted uid (subst (λ l. Contains l uid) left there)),
      λ there. subst (λ l. Contains l uid) (sym left) (Contains-dedup_nat sorted uid (Contains-permutation old sorted uid c.sort_unstable.ensures.permutation there)),
    )
