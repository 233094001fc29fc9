use Rattle.std.proofs.Common.{◌≡◌, ◌<◌, ◌-◌, ◌∷◌, [], ◌∙◌, true, false, get_or, take, ap, sym, arith, rules}
use Rattle.dv_model.specs.declared.types.Reply.TheVariants as reply
use Rattle.dv_model.specs.declared.types.Shown.{Shown}
use Rattle.dv_model.proofs.Clients.{shows}
use Rattle.dv_view.specs.Tells.{removals_of}
use Rattle.dv_view.proofs.Numbers.{removed_more}
use Rattle.dv_view.proofs.TakenMore.{taken_more}
use Rattle.dv_view.proofs.replies.add_removals.Goals as goal
use Rattle.dv_view.proofs.replies.add_removals.Goals.{then-not-shows+in_ok-take, else-not-shows}

pub loop-number-preserved : goal.loop-number-preserved
loop-number-preserved g c =
    let with = g.R.Replies.with in
    let new = c.args.new.now in
    let old = c.args.old.now in
    let k = c.loop-number.number in
    let said = c.loop-number.said in
    let rest = removals_of new (take (k - 1) old) in
    let s = c.index-old-number.result in
    let uid : (get_or old (k - 1) s).uid ≡ s.uid = ap (λ (t : Shown). t.uid) (sym c.index-old-number.is) in
    let some : 0 < k = omega (arith, c.loop-number-test.true) in
    elim c.if-not-shows.branch [
      | then-not-shows+in_ok-take w ↦
          let here : shows new s.uid ≡ false = search rules in
          let is : shows new (get_or old (k - 1) s).uid ≡ false = ap (shows new) uid ∙ here in
          record {
            inside = omega (arith, c.loop-number.invariant.inside);
            taken = taken_more with g.met.R.Replies.more c.args.said.now said c.if-not-shows.said c.loop-number.invariant.taken (record { told = reply.Expunge k ∷ []; is = w.said-is ∙ w.in_ok-take.ensures.ok });
            said = ap (λ x. with x rest) (w.said-is ∙ w.in_ok-take.ensures.ok)
                ∙ g.met.R.Replies.more said (reply.Expunge k ∷ []) rest
                ∙ ap (with said) (sym (removed_more new old k s false some c.loop-number.invariant.inside is)) ∙ c.loop-number.invariant.said;
          }
      | else-not-shows w ↦
          let here : shows new s.uid ≡ true = search rules in
          let is : shows new (get_or old (k - 1) s).uid ≡ true = ap (shows new) uid ∙ here in
          record {
            inside = omega (arith, c.loop-number.invariant.inside);
            taken = record { told = c.loop-number.invariant.taken.told; is = w.said-is ∙ c.loop-number.invariant.taken.is };
            said = ap (λ x. with x rest) w.said-is
                ∙ ap (with said) (sym (removed_more new old k s true some c.loop-number.invariant.inside is)) ∙ c.loop-number.invariant.said;
          }
    ]
