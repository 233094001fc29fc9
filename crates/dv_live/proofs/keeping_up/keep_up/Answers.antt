use Rattle.std.proofs.Common.{◌≡◌, ◌∙◌, List, ap, subst, sym, ℕ}
use Rattle.dv_model.specs.declared.types.Fresh.{Fresh}
use Rattle.dv_answer.specs.Following.{fresh_of}
use Rattle.dv_live.specs.Groups.{Followed}
use Rattle.dv_live.specs.Keeping.{MayFollow}
use Rattle.dv_live.specs.Laws.{IsOf}
use Rattle.dv_live.proofs.Searched.{on_ok, same_key, touched_are_followed}
use Rattle.dv_live.proofs.keeping_up.keep_up.Goals as goal

pub follow-requires : goal.follow-requires
follow-requires c =
    let m = c.args.live.now.mailbox in
    let kept = c.args.saved.now in
    let touched = c.args.touched.now in
    let fresh_is : c.in_ok-fresh.fresh ≡ fresh_of m touched = c.in_ok-fresh.ensures ∙ ap (fresh_of m) c.uids.ensures.is in
    subst (λ (fs : List Fresh). MayFollow kept fs c.names.result.now.names) (sym fresh_is)
    (subst (λ (ns : List (List ℕ)). MayFollow kept (fresh_of m touched) ns) (sym c.names.ensures) (touched_are_followed kept kept m touched c.requires c.uids.ensures.rising).0)

pub returns-clause-key : goal.returns-clause-key
returns-clause-key c = same_key c.follow.result c.args.saved.now c.follow.new.self c.in_ok-fresh.fresh c.names.result.now.names c.follow.ensures.ok c.follow.ensures.err

pub returns-clause-kept : goal.returns-clause-kept
returns-clause-kept c =
    let m = c.args.live.now.mailbox in
    let kept = c.args.saved.now in
    let new = c.follow.new.self in
    let touched = c.args.touched.now in
    let fresh_is : c.in_ok-fresh.fresh ≡ fresh_of m touched = c.in_ok-fresh.ensures ∙ ap (fresh_of m) c.uids.ensures.is in
    on_ok c.follow.result (Followed kept new c.in_ok-fresh.fresh c.names.result.now.names) (IsOf new m)
    (λ followed. (touched_are_followed kept new m touched c.requires c.uids.ensures.rising).1
    (subst (λ (fs : List Fresh). Followed kept new fs m.keywords) fresh_is (subst (λ (ns : List (List ℕ)). Followed kept new c.in_ok-fresh.fresh ns) c.names.ensures followed)))
    c.follow.ensures.ok
