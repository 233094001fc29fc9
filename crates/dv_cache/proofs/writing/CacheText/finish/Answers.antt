use Rattle.std.proofs.Common.{◌≡◌, ◌+◌, ◌*◌, ◌∙◌, length, ap, arith}
use Rattle.dv_cache.specs.Begun.{Begun}
use Rattle.dv_cache.proofs.Places.{two_more, whole_text}
use Rattle.dv_cache.proofs.writing.CacheText.finish.Goals as goal

pub returns : goal.returns
returns c = λ rows is few.
    let inside = c.self.inside in
    let first : inside.first ≡ 32 + 16 * length rows = ap (λ (b : Begun). b.first) (c.self.view_is ∙ is) in
    whole_text c.args.indexid c.args.seq inside.first _ _ inside.entries inside.texts c.extend-2.new.self rows (c.self.view_is ∙ is)
    (omega (arith, first, few)) (omega (arith, c.len.ensures, c.self.invariant.1))
    (two_more _ inside.entries inside.texts c.in_ok-text.text c.as_slice.result.now c.as_slice-2.result.now c.extend.new.self c.extend-2.new.self c.in_ok-text.ensures c.as_slice.ensures c.as_slice-2.ensures c.in_ok-extend.ensures.ok c.in_ok-extend-2.ensures.ok)
