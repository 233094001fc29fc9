use Rattle.std.proofs.Common.{ℕ, [], List, arith, get_or, subst}
use Rattle.std.specs.Prelude.{Contains}
use Rattle.std.proofs.lemmas.List.Elements.{Contains-get_or}
use Rattle.dv_rows.specs.Parted.{HasUid}
use Rattle.dv_rows.proofs.Named.{either}
use Rattle.dv_tests_mailbox.proofs.rows.named_by.Goals as goal

none_there : (A : Type 0) (u : ℕ) → Contains {X = ℕ} [] u → A
none_there A u (k, h, at) = absurd (omega (arith, h))

pub returns-clause-named : goal.returns-clause-named
returns-clause-named g c = λ k d h.
    let sorted : List ℕ = c.sort_uids.new.uids.items in
    let u : ℕ = get_or sorted k d in
    either _ _ _ (c.in_ok-name_uids.ensures.only u ((c.sort_uids.ensures.same u).0 (Contains-get_or sorted k d h)))
    (λ old. none_there (HasUid c.args.rows.now.rows u) u (subst (λ l. Contains l u) c.new-uids.ensures.items old)) (λ both. both.0)
