use Rattle.std.proofs.Common.{◌≡◌, ◌≤◌, ◌-◌, ◌∙◌, [], ℕ, List, rules, subst, sym}
use Rattle.std.specs.Prelude.{All}
use Rattle.dv_model.specs.declared.types.Mailbox.{Mailbox}
use Rattle.dv_model.specs.declared.types.Pair.{Pair}
use Rattle.dv_model.specs.declared.types.Span.{Span}
use Rattle.dv_model.specs.Effects.{is_in_pairs}
use Rattle.dv_model.specs.Sets.{is_in_set}
use Rattle.dv_qresync.specs.Ranges.{IsWithin}
use Rattle.dv_qresync.proofs.Gathered.{Leaves, leaves_end, leaves_last, leaves_more, leaves_start}
use Rattle.dv_qresync.proofs.ranges.gone_ranges.Goals as goal

pub loop-pair-init : goal.loop-pair-init
loop-pair-init c =
    let m : Mailbox = c.args.live.now.mailbox in
    let pairs : List Pair = c.in_ok-pairs.pairs.items in
    let within : All (IsWithin (m.next_uid - 1)) pairs = subst (λ n. All (IsWithin (n - 1)) pairs) c.next_uid.ensures.is c.in_ok-pairs.ensures.within in
    subst (λ (rs : List Pair). Leaves m pairs pairs c.count-place.result rs) (sym c.new-ranges.ensures.items) (leaves_start m pairs c.count-place.result c.in_ok-pairs.ensures.apart within c.count-place.ensures)

pub put_free-requires-clause-range : goal.put_free-requires-clause-range
put_free-requires-clause-range c =
    (leaves_last c.args.live.now.mailbox c.in_ok-pairs.pairs.items c.loop-pair.pairs.items c.pop.new.self.items c.in-Some.pair c.loop-pair.place c.loop-pair.ranges.items c.loop-pair.invariant c.in-Some.ensures.items).0

pub put_free-requires-clause-behind : goal.put_free-requires-clause-behind
put_free-requires-clause-behind c =
    (leaves_last c.args.live.now.mailbox c.in_ok-pairs.pairs.items c.loop-pair.pairs.items c.pop.new.self.items c.in-Some.pair c.loop-pair.place c.loop-pair.ranges.items c.loop-pair.invariant c.in-Some.ensures.items).1

pub loop-pair-preserved : goal.loop-pair-preserved
loop-pair-preserved c =
    leaves_more c.args.live.now.mailbox c.in_ok-pairs.pairs.items c.loop-pair.pairs.items c.pop.new.self.items c.in-Some.pair c.loop-pair.place c.in_ok-place.place c.loop-pair.ranges.items c.put_free.new.ranges.items c.loop-pair.invariant c.in-Some.ensures.items
    c.in_ok-place.ensures.place c.in_ok-place.ensures.behind c.in_ok-place.ensures.free

pub returns : goal.returns
returns c =
    let m : Mailbox = c.args.live.now.mailbox in
    let pairs : List Pair = c.in_ok-pairs.pairs.items in
    let known : List Span = c.args.known.now in
    let within : All (IsWithin (m.next_uid - 1)) pairs = subst (λ n. All (IsWithin (n - 1)) pairs) c.next_uid.ensures.is c.in_ok-pairs.ensures.within in
    let same : (n : ℕ) → 1 ≤ n → n ≤ m.next_uid - 1 → is_in_pairs pairs n ≡ is_in_set (m.next_uid - 1) known n =
    subst (λ (set : List Span). (n : ℕ) → 1 ≤ n → n ≤ m.next_uid - 1 → is_in_pairs pairs n ≡ is_in_set (m.next_uid - 1) set n) c.as_slice.ensures
    (subst (λ s. (n : ℕ) → 1 ≤ n → n ≤ s - 1 → is_in_pairs pairs n ≡ is_in_set (s - 1) c.as_slice.result.now n) c.next_uid.ensures.is c.in_ok-pairs.ensures.same) in
    let none : c.loop-pair.pairs.items ≡ [] = search rules in
    c.from_vec.ensures ∙ c.reverse.ensures.items ∙ leaves_end m pairs known c.loop-pair.pairs.items c.loop-pair.place c.loop-pair.ranges.items c.loop-pair.invariant none c.in_ok-pairs.ensures.apart within same
