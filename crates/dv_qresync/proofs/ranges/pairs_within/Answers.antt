use Rattle.std.proofs.Common.{◌≡◌, ◌<◌, ◌≤◌, ◌+◌, ◌∙◌, ℕ, List, ap, arith, get_or, length, subst, sym, take}
use Rattle.std.specs.Prelude.{All, max, min}
use Rattle.std.proofs.lemmas.List.{get_or_default, take_all}
use Rattle.std.proofs.lemmas.List.Elements.{All-push}
use Rattle.dv_model.specs.declared.types.End.TheVariants.{Number}
use Rattle.dv_model.specs.declared.types.Pair.{Pair}
use Rattle.dv_model.specs.declared.types.Span.{Span}
use Rattle.dv_model.specs.Effects.{is_in_pairs}
use Rattle.dv_model.specs.Sets.{end_value, is_in_set}
use Rattle.dv_qresync.specs.Ranges.{IsWithin}
use Rattle.dv_qresync.proofs.Gathered.{clipped_more, clipped_none, high_end, low_end, one}
use Rattle.dv_qresync.proofs.ranges.pairs_within.Goals as goal
use Rattle.dv_qresync.proofs.ranges.pairs_within.Goals.{then-first-last+in_ok-push, else-first-last}

abbrev blank : Span
blank = record { from = Number 0; to = Number 0 }

pub loop-span-preserved : goal.loop-span-preserved
loop-span-preserved c =
    let star = c.args.star in
    let set : List Span = c.args.set.now in
    let i = c.loop-span.span-index in
    let less : i < length set = c.loop-span-test.true in
    let pairs : List Pair = c.loop-span.pairs.items in
    let from : c.end_value-from.result ≡ end_value star (get_or set i blank).from = c.end_value-from.ensures ∙ ap (λ (s : Span). end_value star s.from) (get_or_default set i _ blank less) in
    let to : c.end_value-to.result ≡ end_value star (get_or set i blank).to = c.end_value-to.ensures ∙ ap (λ (s : Span). end_value star s.to) (get_or_default set i _ blank less) in
    let first : c.max-first.result ≡ max (low_end star (get_or set i blank)) 1 =
    c.max-first.ensures ∙ ap (λ n. max n 1) (c.min.ensures ∙ ap (λ n. min n c.end_value-to.result) from ∙ ap (λ n. min (end_value star (get_or set i blank).from) n) to) in
    let last : c.min-last.result ≡ min (high_end star (get_or set i blank)) star =
    c.min-last.ensures ∙ ap (λ n. min n star) (c.max.ensures ∙ ap (λ n. max n c.end_value-to.result) from ∙ ap (λ n. max (end_value star (get_or set i blank).from) n) to) in
    elim c.if-first-last.branch [
      | then-first-last+in_ok-push w ↦
          let le : c.max-first.result ≤ c.min-last.result = omega (arith, w.if-first-last.true) in
          rw w.pairs-is (record {
            within = subst (All (IsWithin star)) (sym w.in_ok-push.ensures.items) (All-push (IsWithin star) pairs (one c.max-first.result c.min-last.result) c.loop-span.invariant.within (omega (arith, c.max-first.ensures), le, omega (arith, c.min-last.ensures)));
            same = subst (λ (ps : List Pair). (n : ℕ) → 1 ≤ n → n ≤ star → is_in_pairs ps n ≡ is_in_set star (take (i + 1) set) n) (sym w.in_ok-push.ensures.items)
                (clipped_more star set i blank pairs (one c.max-first.result c.min-last.result) less first last c.loop-span.invariant.same);
          })
      | else-first-last w ↦
          let none : min (high_end star (get_or set i blank)) star < max (low_end star (get_or set i blank)) 1 = subst (λ n. n < max (low_end star (get_or set i blank)) 1) last (subst (λ n. c.min-last.result < n) first (omega (arith, w.if-first-last.false))) in
          rw w.pairs-is (record { within = c.loop-span.invariant.within; same = clipped_none star set i blank pairs less none c.loop-span.invariant.same })
    ]

pub returns-clause-same : goal.returns-clause-same
returns-clause-same c = λ n low high. c.loop-span.invariant.same n low high ∙ ap (λ (set : List Span). is_in_set c.args.star set n) (take_all c.loop-span.span-index c.args.set.now c.loop-span-test.false)
