use Rattle.std.proofs.Common.{◌∙◌, subst, sym, ap}
use Rattle.dv_answer.specs.Following.{Follower}
use Rattle.dv_keeper.specs.Turns.{LeavesEntry}
use Rattle.dv_maildrop.specs.declared.types.Removal.{Removal}
use Rattle.dv_model.specs.declared.types.Command.{Command}
use Rattle.dv_model.specs.declared.types.Command.TheVariants.{UidRemove}
use Rattle.dv_shared.specs.Kept.{notes_in}
use Rattle.dv_pop3.specs.Clients.{KeepsOn}
use Rattle.dv_pop3.specs.Findings.{Removes}
use Rattle.dv_pop3.proofs.Keeping.{later_itself, writer_fresh}
use Rattle.dv_pop3.proofs.Removed.{came_of, taken_removes, unanswered, unanswered_follower}
use Rattle.dv_pop3.proofs.removing.remove.Goals as goal

pub returns-in-Ok-clause-removed : goal.returns-in-Ok-clause-removed
returns-in-Ok-clause-removed g c h m set listing =
    let k = g.K.Keeping in
    let old = c.args.s.now in
    let new = c.write.new.s in
    let commit = c.in-Ok.ensures.commit in
    let fresh = writer_fresh (notes_in commit.0.before) (notes_in commit.0.behind) commit.0.came old new commit.3 ∙ c.requires.fresh in
    let removed = taken_removes k.start k.count m old new c.number.ensures.session c.number-in-Ok.ensures.session c.requires.fresh fresh c.write.ensures.begins listing (UidRemove c.args.set) (ap UidRemove set) c.new-replies.result c.write.new.replies c.new-replies.ensures c.in-Ok.field-0 (c.in-Ok.ensures.turn h) in
    subst (λ (r : Removal). Removes k.start k.count m r old new) (sym (c.removal_by.ensures ∙ ap came_of c.as_slice.ensures)) removed.removes

pub returns-in-Ok-clause-later : goal.returns-in-Ok-clause-later
returns-in-Ok-clause-later g c h m set listing =
    let k = g.K.Keeping in
    let old = c.args.s.now in
    let new = c.write.new.s in
    let commit = c.in-Ok.ensures.commit in
    let fresh = writer_fresh (notes_in commit.0.before) (notes_in commit.0.behind) commit.0.came old new commit.3 ∙ c.requires.fresh in
    let removed = taken_removes k.start k.count m old new c.number.ensures.session c.number-in-Ok.ensures.session c.requires.fresh fresh c.write.ensures.begins listing (UidRemove c.args.set) (ap UidRemove set) c.new-replies.result c.write.new.replies c.new-replies.ensures c.in-Ok.field-0 (c.in-Ok.ensures.turn h) in
    removed.later

pub returns-clause-left : goal.returns-clause-left
returns-clause-left g c h m set listing =
    let k = g.K.Keeping in
    let commit = c.in-Err.ensures.commit in
    unanswered k.start m (notes_in commit.0.before) (notes_in commit.0.behind) commit.0.came c.args.s.now c.write.new.s c.in-Err.field-0 commit.3
    (subst (λ (d : Command). LeavesEntry k.start d c.args.s.now c.write.new.s c.in-Err.field-0) (ap UidRemove set) (c.in-Err.ensures.entry h))

pub returns-clause-later : goal.returns-clause-later
returns-clause-later g c h m set listing =
    let commit = c.in-Err.ensures.commit in
    subst (λ (f : Follower). KeepsOn c.args.s.now.follower.state f.state) (sym (unanswered_follower (notes_in commit.0.before) (notes_in commit.0.behind) commit.0.came c.args.s.now c.write.new.s c.in-Err.field-0 commit.3)) (later_itself c.args.s.now.follower.state listing.selected)
