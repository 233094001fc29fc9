use Rattle.std.proofs.Common.{◌≡◌, ◌∙◌, ◌++◌, List, ℕ, ap, drop, length, map, rules, subst, sym, true}
use Rattle.dv_live.specs.Keeping.{KeptSearch}
use Rattle.dv_live.specs.Steadiness.{steady}
use Rattle.dv_live.specs.Turning.{turned, verdict_of}
use Rattle.dv_live.proofs.Following.{follows_by, kept_on, names_on}
use Rattle.dv_live.proofs.saved.Saved.follow.Goals as goal

pub invariant_of-self-2 : goal.invariant_of-self-2
invariant_of-self-2 c =
    let inside = c.self.inside in
    let made = rw (c.as_slice.ensures, c.as_slice-2.ensures, c.names.ensures.is) at (c.in_ok-uids.ensures.uids inside.key c.self.invariant.ready c.self.invariant.steady) in
    kept_on inside.key inside.sought inside.uids c.put.new.uids (map (verdict_of inside.key c.args.names.now.names) c.args.fresh.now) c.self.invariant (c.put.ensures ∙ made)

pub returns-clause-ok : goal.returns-clause-ok
returns-clause-ok c =
    let inside = c.self.inside in
    let old = c.args.self.now in
    let fresh = c.args.fresh.now in
    let names = c.args.names.now.names in
    let known : List (List ℕ) = inside.names.items in
    let made = rw (c.as_slice.ensures, c.as_slice-2.ensures, c.names.ensures.is) at (c.in_ok-uids.ensures.uids inside.key c.self.invariant.ready c.self.invariant.steady) in
    let long : c.len.result ≡ length inside.names.items = search rules in
    let more = rw c.names.ensures.is at c.in_ok-uids.ensures.names in
    let begins : names ≡ known ++ c.requires.more = c.requires.begins ∙ ap (λ (k : KeptSearch). k.names ++ c.requires.more) (sym c.self.view_is) in
    follows_by old fresh names inside.key c.put.new.uids c.append.new.self.items
    (subst (λ (k : KeptSearch). steady k.key ≡ true) c.self.view_is c.self.invariant.steady)
    c.requires
    (ap (λ (k : KeptSearch). k.key) c.self.view_is)
    (subst (λ (k : KeptSearch). c.put.new.uids ≡ turned k.uids (map (verdict_of k.key names) fresh)) c.self.view_is (c.put.ensures ∙ made))
    (c.in_ok-append.ensures.items ∙ ap (λ ns. known ++ ns) (more ∙ ap (λ n. drop n names) long) ∙ names_on known names c.requires.more begins)
