-- Replies that were taken in turn.
use Rattle.std.proofs.Common.{◌≡◌, ◌∙◌, ◌++◌, [], List, ap, sym}
use Rattle.dv_model.specs.declared.types.Reply.{Reply}
use Rattle.dv_view.specs.Taken.{HasTaken}

module _ {R : Type 0} (with : R → List Reply → R) where
  -- none were
  pub taken_none : ((x : R) → with x [] ≡ x) → (old new : R) → new ≡ old → HasTaken with old new
  taken_none none old new same = record { told = []; is = same ∙ sym (none old) }

  -- some, and then some more
  pub taken_more : ((x : R) (a b : List Reply) → with (with x a) b ≡ with x (a ++ b)) → (old mid new : R)
      → HasTaken with old mid → HasTaken with mid new → HasTaken with old new
  taken_more more old mid new first last = record {
    told = first.told ++ last.told;
    is = last.is ∙ ap (λ x. with x last.told) first.is ∙ more old first.told last.told;
  }
