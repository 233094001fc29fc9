use Rattle.std.proofs.Common.{◌⊎◌, ℕ, List, ap, subst, sym}
use Rattle.std.specs.Prelude.{◌↔◌, Contains}
use Rattle.dv_answer.specs.Following.{Follower, IsAbreast}
use Rattle.dv_answer.proofs.Keeping.{touch_tracks}
use Rattle.dv_answer.proofs.session.Session.touch.Goals as goal

pub returns-clause-touched : goal.returns-clause-touched
returns-clause-touched c = λ selected.
    subst (λ (ts : List ℕ). (uid : ℕ) → Contains c.in_ok-self-inside.field-0 uid ↔ (Contains ts uid ⊎ Contains c.args.touched.now uid)) (ap (λ (f : Follower). f.touched) c.self.view_is) c.in_ok-self-inside.ensures.all

pub returns-clause-abreast : goal.returns-clause-abreast
returns-clause-abreast c = λ old new abreast leads selected.
    touch_tracks old new c.self.inside.view c.self.inside.touched c.args.touched.now c.in_ok-self-inside.field-0 (subst (IsAbreast old) (sym c.self.view_is) abreast selected) leads c.in_ok-self-inside.ensures.rising c.in_ok-self-inside.ensures.all
