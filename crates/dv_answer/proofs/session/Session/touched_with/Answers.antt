use Rattle.std.proofs.Common.{◌⊎◌, ℕ, List, Result, Ok, Err, ap, subst, sym}
use Rattle.std.specs.Prelude.{◌↔◌, Contains, IfOk}
use Rattle.std.specs.List.Sorted.{IsStrictlyIncreasing}
use Rattle.dv_model.specs.declared.types.Mailbox.{Mailbox}
use Rattle.dv_answer.specs.Following.{Follower, IsAbreast, Leads, Tracks}
use Rattle.dv_answer.proofs.Keeping.{touch_tracks}
use Rattle.dv_answer.proofs.session.Session.touched_with.Goals as goal

by_both : {A E : Type 0} (r : Result A E) (P Q R : A → Type 0) → ((x : A) → P x → Q x → R x) → IfOk r P → IfOk r Q → IfOk r R
by_both (Ok x) P Q R f p q = f x p q
by_both (Err e) P Q R f p q = tt

pub returns : goal.returns
returns c =
    let f = c.args.self.now in
    by_both c.with.result (λ all. (uid : ℕ) → Contains all uid ↔ (Contains c.self.inside.touched uid ⊎ Contains c.args.touched.now uid)) IsStrictlyIncreasing
    (λ all. (old new : Mailbox) → IsAbreast old f → Leads old new c.args.touched.now → IsAbreast new record { state = f.state; touched = all })
    (λ all is rising old new abreast leads selected.
    let tracks : Tracks old c.self.inside.view c.self.inside.touched = subst (λ (x : Follower). Tracks old x.state.view x.touched) (sym c.self.view_is) (abreast selected) in
    subst (λ (x : Follower). Tracks new x.state.view all) c.self.view_is (touch_tracks old new c.self.inside.view c.self.inside.touched c.args.touched.now all tracks leads rising is))
    c.with.ensures.all c.with.ensures.rising
