use Rattle.std.proofs.Common.{◌≡◌, ◌⊎◌, List, ℕ, subst, sym}
use Rattle.std.specs.Prelude.{Contains, IfOk, OnErr}
use Rattle.dv_maildrop.specs.declared.types.Found.{Found}
use Rattle.dv_maildrop.specs.Answers.{found_answer}
use Rattle.dv_pop3.specs.Clients.{Client}
use Rattle.dv_pop3.specs.Findings.{IsFound, IsHeld}
use Rattle.dv_pop3.proofs.Asking.{listed_given, listing_later}
use Rattle.dv_pop3.proofs.client.Pop.answer_message.Goals as goal

pub invariant_of-self : goal.invariant_of-self
invariant_of-self g c h =
    let row = c.args.row in
    let x = c.self.inside.session.follower.state in
    let listed = subst (λ (p : Client). Contains p.maildrop.rows row) (sym c.self.view_is) c.requires.listed in
    listing_later c.self.inside.maildrop.rows x c.retrieve.new.s.follower.state (c.self.invariant h) (c.retrieve.ensures.later h (listed_given c.self.inside.maildrop.rows x row (c.self.invariant h) listed))

pub returns-clause-found : goal.returns-clause-found
returns-clause-found g c h =
    let k = g.K.Keeping in
    let row = c.args.row in
    let x = c.self.inside.session.follower.state in
    let listed = subst (λ (p : Client). Contains p.maildrop.rows row) (sym c.self.view_is) c.requires.listed in
    subst (λ (p : Client). IfOk c.retrieve.result (λ (text : List ℕ). (f : Found) × (text ≡ found_answer row f) × IsFound k.start k.count row.uid f p.session c.retrieve.new.s)) c.self.view_is
    (c.retrieve.ensures.found h (listed_given c.self.inside.maildrop.rows x row (c.self.invariant h) listed))

pub returns-clause-left : goal.returns-clause-left
returns-clause-left g c h =
    let k = g.K.Keeping in
    let row = c.args.row in
    let x = c.self.inside.session.follower.state in
    let listed = subst (λ (p : Client). Contains p.maildrop.rows row) (sym c.self.view_is) c.requires.listed in
    subst (λ (p : Client). OnErr c.retrieve.result (IsHeld p.session c.retrieve.new.s ⊎ ((f : Found) × IsFound k.start k.count row.uid f p.session c.retrieve.new.s))) c.self.view_is
    (c.retrieve.ensures.left h (listed_given c.self.inside.maildrop.rows x row (c.self.invariant h) listed))
