-- Sessions that were just made aren't spent.
use Rattle.std.proofs.Common.{◌≡◌, ◌+◌, ℕ, false, List, [], ◌∷◌, ap}
use Rattle.std.specs.Prelude.{All}
use Rattle.std.proofs.lemmas.List.Elements.{All-cons, All-nil}
use Rattle.dv_keeper.specs.Sessions.{AreNewSessions}
use Rattle.dv_member.specs.Members.{Member}
use Rattle.dv_model.specs.Journals.{Log}

pub new_are_fresh : (start : Log) (number : ℕ) (ss : List Member) → AreNewSessions start number ss → All (λ (s : Member). s.spent ≡ false) ss
new_are_fresh start number [] new = All-nil (λ (s : Member). s.spent ≡ false)
new_are_fresh start number (s ∷ ss) new =
    All-cons (λ (s : Member). s.spent ≡ false) s ss (ap (λ (m : Member). m.spent) new.0.is) (new_are_fresh start (number + 1) ss new.1)
