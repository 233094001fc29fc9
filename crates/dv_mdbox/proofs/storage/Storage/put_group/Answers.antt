use Rattle.std.proofs.Common.{◌∙◌, ◌≤◌, ◌<◌, ◌⊎◌, refl, ap, subst, arith}
use Rattle.std.proofs.lemmas.Bool.{MatchBool-at_false, MatchBool-at_true}
use Rattle.std.proofs.lemmas.Result.{err_from_is_err_and}
use Rattle.dv_model.specs.Sessions.{group_limit}
use Rattle.dv_chain.specs.Rest.{Nothing}
use Rattle.dv_mdbox.specs.Answers.{HasRoom, IsFull}
use Rattle.dv_mdbox.specs.Purging.{HasRoomAt, LacksRoomAt, group_size}
use Rattle.dv_mdbox.proofs.Marked.{found_room, has_at, lacks_at}
use Rattle.dv_mdbox.proofs.Thinning.{later_stays, takes_none}
use Rattle.dv_mdbox.proofs.Written.{group_clocked, group_kept, quiet_clocked}
use Rattle.dv_mdbox.proofs.storage.Storage.put_group.Goals as goal

pub write-requires-clause-group : goal.write-requires-clause-group
write-requires-clause-group g c =
    let spelled = rw (← c.self.view_is) at c.requires.spelled in
    let size = c.in_ok-size.ensures in
    let fits = MatchBool-at_false ((group_limit < c.in_ok-size.size) ⊎ IsFull c.self.inside.chain c.in_ok-size.size) ((c.in_ok-size.size ≤ group_limit) × HasRoom c.self.inside.chain c.in_ok-size.size) c.if-lacks_room.false c.lacks_room.ensures in
    let short = fits.0 in
    record {
      some = c.requires.some;
      are = record { spelled = spelled.spelled; applies = spelled.applies; bytes = refl };
      short = omega (arith, size, short);
      fits = subst (HasRoom c.self.inside.chain) c.in_ok-size.ensures fits.1;
    }

-- ---- nothing was written

pub returns-in_err-size-clause-value : goal.returns-in_err-size-clause-value
returns-in_err-size-clause-value g c = rw (← c.self.view_is) (
    let p = err_from_is_err_and c.from_residual.result c.from_residual.ensures.1 in
    rw p.1 (group_kept _ _ _ p.0 refl refl refl refl))

pub returns-in_err-size-clause-gives : goal.returns-in_err-size-clause-gives
returns-in_err-size-clause-gives g c = rw (← c.self.view_is) (λ tells.
    let p = err_from_is_err_and c.from_residual.result c.from_residual.ensures.1 in
    rw p.1 (later_stays g.S.Shelf.sees c.args.records c.args.files _ (λ f left. g.met.S.Shelf.only_now c.self.inside.shelf f tells left) p.0))

pub returns-in_err-size-clause-clock : goal.returns-in_err-size-clause-clock
returns-in_err-size-clause-clock g c = rw (← c.self.view_is) (λ tells. takes_none (g.C.Clock.sees.upcoming c.self.inside.clock))

pub returns-then-lacks_room-clause-value : goal.returns-then-lacks_room-clause-value
returns-then-lacks_room-clause-value g c = rw (← c.self.view_is) (group_kept _ _ _ _ refl refl refl refl)

pub returns-then-lacks_room-clause-gives : goal.returns-then-lacks_room-clause-gives
returns-then-lacks_room-clause-gives g c = rw (← c.self.view_is) (λ tells. later_stays g.S.Shelf.sees c.args.records c.args.files _ (λ f left. g.met.S.Shelf.only_now c.self.inside.shelf f tells left) _)

pub returns-then-lacks_room-clause-clock : goal.returns-then-lacks_room-clause-clock
returns-then-lacks_room-clause-clock g c = rw (← c.self.view_is) (λ tells. takes_none (g.C.Clock.sees.upcoming c.self.inside.clock))

pub returns-then-lacks_room-clause-room : goal.returns-then-lacks_room-clause-room
returns-then-lacks_room-clause-room g c = rw (← c.self.view_is) (
    let old = c.self.inside in
    let lacks = MatchBool-at_true ((group_limit < c.in_ok-size.size) ⊎ IsFull old.chain c.in_ok-size.size) ((c.in_ok-size.size ≤ group_limit) × HasRoom old.chain c.in_ok-size.size) c.if-lacks_room.true c.lacks_room.ensures in
    (c.in_ok-size.ensures, subst (LacksRoomAt old.mark) c.in_ok-size.ensures (lacks_at old.mark old.owed old.chain c.in_ok-size.size c.self.invariant.1 lacks)))

-- ---- the group

pub returns-clause-value : goal.returns-clause-value
returns-clause-value g c = rw (← c.self.view_is) (group_clocked _ _ c.write.new.self c.turn_time-time.new.clock c.write.result c.write.ensures.value)

pub returns-clause-gives : goal.returns-clause-gives
returns-clause-gives g c = rw (← c.self.view_is) (λ tells messages after rest gives through.
    let done = c.write.ensures.gives tells messages messages Nothing after rest.fits rest.stands gives through in
    (_, (quiet_clocked g.S.Shelf.sees messages messages Nothing after _ _ c.write.new.self c.turn_time-time.new.clock c.write.result done.0, done.1)))

pub returns-clause-room : goal.returns-clause-room
returns-clause-room g c = rw (← c.self.view_is) (
    let old = c.self.inside in
    let fits = MatchBool-at_false ((group_limit < c.in_ok-size.size) ⊎ IsFull old.chain c.in_ok-size.size) ((c.in_ok-size.size ≤ group_limit) × HasRoom old.chain c.in_ok-size.size) c.if-lacks_room.false c.lacks_room.ensures in
    let room = subst (HasRoomAt old.mark) c.in_ok-size.ensures (has_at old.mark old.owed old.chain c.in_ok-size.size c.self.invariant.1 fits) in
    found_room old.mark (group_size c.args.records) c.write.result room c.write.ensures.err)

pub returns-clause-clock : goal.returns-clause-clock
returns-clause-clock g c = rw (← c.self.view_is) (λ tells. (_, ap g.C.Clock.sees.upcoming c.write.ensures.beside.clock ∙ c.turn_time-time.ensures.clock tells))
