use Rattle.std.proofs.Common.{◌≡◌, ◌∙◌, ◌+◌, ◌<◌, ◌≤◌, ◌++◌, [], ◌∷◌, List, ap, arith, cond, get_or, length, rules, subst, sym, take, true, vec_len, ℕ}
use Rattle.std.proofs.lemmas.Bool.{lt-leb}
use Rattle.std.specs.Prelude.{count_by, nat_le}
use Rattle.std.proofs.lemmas.Bool.Decides.{nat_tests}
use Rattle.std.proofs.lemmas.Iterator.Adapters.{YieldsList-from_vec}
use Rattle.std.proofs.lemmas.Iterator.Consumers.{YieldsList-end, YieldsList-turn}
use Rattle.std.proofs.lemmas.List.{length_push}
use Rattle.std.proofs.lemmas.List.Sums.{count_by_more_no, count_by_more_yes, sum_by-take-drop}
use Rattle.dv_model.specs.declared.types.Row.{Row}
use Rattle.dv_rows.specs.Kept.{AreRows}
use Rattle.dv_rows.proofs.PutParts.{IsPart, IsPutTo, put_above, put_adds, put_ends, put_replaces, put_starts}
use Rattle.dv_rows.proofs.rows.Rows.put_part.Goals as goal

is_over : (b u : ℕ) → b ≤ u → nat_le b u ≡ true
is_over b u h = grind (arith, nat_tests)

-- so many of the part's rows are new
abbrev counted : ℕ → List Row → ℕ
counted bound rows = count_by (λ row. nat_le bound row.uid) rows

some_left : (bound : ℕ) (part : List Row) (i : ℕ) (row : Row) → i < length part → row ≡ get_or part i row → bound ≤ row.uid → counted bound (take i part) + 1 ≤ counted bound part
some_left bound part i row less here over =
    let more : counted bound (take (i + 1) part) ≡ counted bound (take i part) + 1 = count_by_more_yes (λ (r : Row). nat_le bound r.uid) part i row less (ap (λ (r : Row). nat_le bound r.uid) (sym here) ∙ is_over bound row.uid over) in
    let all = sum_by-take-drop (λ (r : Row). cond (nat_le bound r.uid) 1 0) part (i + 1) in
    omega arith

pub loop-row-init : goal.loop-row-init
loop-row-init c =
    let part : IsPart c.args.uids.now c.args.bound c.args.part.rows c.args.self.now.rows = record {
      are = subst AreRows c.into_list.ensures.is c.into_list.ensures.rows;
      named = c.requires.named;
      below = c.requires.below;
      parted = c.requires.parted;
    } in
    record {
      put = subst (IsPutTo c.args.uids.now c.args.bound c.args.part.rows c.args.self.now.rows 0) (sym c.remove_missing.ensures.rows)
          (put_starts c.args.uids.now c.args.bound c.args.part.rows c.args.self.now.rows part (subst AreRows c.remove_missing.ensures.rows c.remove_missing.ensures.are));
      room = let kept = c.remove_missing.ensures.room in omega arith;
    }

pub loop-row-preserved-then-row-bound : goal.loop-row-preserved-then-row-bound
loop-row-preserved-then-row-bound c =
    let part : IsPart c.args.uids.now c.args.bound c.args.part.rows c.args.self.now.rows = record {
      are = subst AreRows c.into_list.ensures.is c.into_list.ensures.rows;
      named = c.requires.named;
      below = c.requires.below;
      parted = c.requires.parted;
    } in
    let all : c.into_vec-row-items.result.items ≡ c.args.part.rows = c.into_vec-row-items.ensures ∙ c.into_list.ensures.is in
    let many : length c.into_vec-row-items.result.items ≡ vec_len c.into_vec-row-items.result = search rules in
    let first = c.into_iter-row-iterator.ensures.into_iter_gives in
    let turn = YieldsList-turn (YieldsList-from_vec {s = c.into_iter-row-iterator.result} c.args.part.rows (first.0 ∙ all) (first.1 ∙ sym many ∙ ap length all)) c.loop-row.yielded c.loop-row.row-iterator c.loop-row.yielded_by c.next.result c.next.new.self c.in-Some.row c.in-Some.is c.next.ensures.steps in
    let i = length c.loop-row.yielded in
    let row : Row = c.in-Some.row in
    let next : length (c.loop-row.yielded ++ row ∷ []) ≡ i + 1 = length_push c.loop-row.yielded row in
    let same : counted c.args.bound (take (i + 1) c.args.part.rows) ≡ counted c.args.bound (take i c.args.part.rows) =
    count_by_more_no (λ (r : Row). nat_le c.args.bound r.uid) c.args.part.rows i row turn.0 (ap (λ (r : Row). nat_le c.args.bound r.uid) (sym turn.1) ∙ lt-leb c.args.bound row.uid c.if-row-bound.true) in
    let room : c.args.self.now.room ≡ c.loop-row.self.room + counted c.args.bound (take i c.args.part.rows) = c.loop-row.invariant.room in
    record {
      put = subst (λ n. IsPutTo c.args.uids.now c.args.bound c.args.part.rows c.args.self.now.rows n c.replace.new.self.rows) (sym next)
          (subst (IsPutTo c.args.uids.now c.args.bound c.args.part.rows c.args.self.now.rows (i + 1)) (sym c.replace.ensures.rows)
          (put_replaces c.args.uids.now c.args.bound c.args.part.rows c.args.self.now.rows part i c.loop-row.self.rows row c.loop-row.invariant.put turn.0 turn.1 c.if-row-bound.true));
      room = subst (λ n. c.args.self.now.room ≡ c.replace.new.self.room + counted c.args.bound (take n c.args.part.rows)) (sym next) (let kept = c.replace.ensures.room in omega arith);
    }

pub push-requires-clause-above : goal.push-requires-clause-above
push-requires-clause-above c =
    let part : IsPart c.args.uids.now c.args.bound c.args.part.rows c.args.self.now.rows = record {
      are = subst AreRows c.into_list.ensures.is c.into_list.ensures.rows;
      named = c.requires.named;
      below = c.requires.below;
      parted = c.requires.parted;
    } in
    let all : c.into_vec-row-items.result.items ≡ c.args.part.rows = c.into_vec-row-items.ensures ∙ c.into_list.ensures.is in
    let many : length c.into_vec-row-items.result.items ≡ vec_len c.into_vec-row-items.result = search rules in
    let first = c.into_iter-row-iterator.ensures.into_iter_gives in
    let turn = YieldsList-turn (YieldsList-from_vec {s = c.into_iter-row-iterator.result} c.args.part.rows (first.0 ∙ all) (first.1 ∙ sym many ∙ ap length all)) c.loop-row.yielded c.loop-row.row-iterator c.loop-row.yielded_by c.next.result c.next.new.self c.in-Some.row c.in-Some.is c.next.ensures.steps in
    put_above c.args.uids.now c.args.bound c.args.part.rows c.args.self.now.rows part (length c.loop-row.yielded) c.loop-row.self.rows c.in-Some.row c.loop-row.invariant.put turn.0 turn.1 c.if-row-bound.false

pub push-requires-clause-room : goal.push-requires-clause-room
push-requires-clause-room c =
    let all : c.into_vec-row-items.result.items ≡ c.args.part.rows = c.into_vec-row-items.ensures ∙ c.into_list.ensures.is in
    let many : length c.into_vec-row-items.result.items ≡ vec_len c.into_vec-row-items.result = search rules in
    let first = c.into_iter-row-iterator.ensures.into_iter_gives in
    let turn = YieldsList-turn (YieldsList-from_vec {s = c.into_iter-row-iterator.result} c.args.part.rows (first.0 ∙ all) (first.1 ∙ sym many ∙ ap length all)) c.loop-row.yielded c.loop-row.row-iterator c.loop-row.yielded_by c.next.result c.next.new.self c.in-Some.row c.in-Some.is c.next.ensures.steps in
    let i = length c.loop-row.yielded in
    let left = some_left c.args.bound c.args.part.rows i c.in-Some.row turn.0 turn.1 c.if-row-bound.false in
    let room : c.args.self.now.room ≡ c.loop-row.self.room + counted c.args.bound (take i c.args.part.rows) = c.loop-row.invariant.room in
    let most : counted c.args.bound c.args.part.rows ≤ c.args.self.now.room = c.requires.room in
    omega arith

pub loop-row-preserved : goal.loop-row-preserved
loop-row-preserved c =
    let part : IsPart c.args.uids.now c.args.bound c.args.part.rows c.args.self.now.rows = record {
      are = subst AreRows c.into_list.ensures.is c.into_list.ensures.rows;
      named = c.requires.named;
      below = c.requires.below;
      parted = c.requires.parted;
    } in
    let all : c.into_vec-row-items.result.items ≡ c.args.part.rows = c.into_vec-row-items.ensures ∙ c.into_list.ensures.is in
    let many : length c.into_vec-row-items.result.items ≡ vec_len c.into_vec-row-items.result = search rules in
    let first = c.into_iter-row-iterator.ensures.into_iter_gives in
    let turn = YieldsList-turn (YieldsList-from_vec {s = c.into_iter-row-iterator.result} c.args.part.rows (first.0 ∙ all) (first.1 ∙ sym many ∙ ap length all)) c.loop-row.yielded c.loop-row.row-iterator c.loop-row.yielded_by c.next.result c.next.new.self c.in-Some.row c.in-Some.is c.next.ensures.steps in
    let i = length c.loop-row.yielded in
    let row : Row = c.in-Some.row in
    let next : length (c.loop-row.yielded ++ row ∷ []) ≡ i + 1 = length_push c.loop-row.yielded row in
    let more : counted c.args.bound (take (i + 1) c.args.part.rows) ≡ counted c.args.bound (take i c.args.part.rows) + 1 =
    count_by_more_yes (λ (r : Row). nat_le c.args.bound r.uid) c.args.part.rows i row turn.0 (ap (λ (r : Row). nat_le c.args.bound r.uid) (sym turn.1) ∙ is_over c.args.bound row.uid c.if-row-bound.false) in
    let room : c.args.self.now.room ≡ c.loop-row.self.room + counted c.args.bound (take i c.args.part.rows) = c.loop-row.invariant.room in
    record {
      put = subst (λ n. IsPutTo c.args.uids.now c.args.bound c.args.part.rows c.args.self.now.rows n c.push.new.self.rows) (sym next)
          (subst (IsPutTo c.args.uids.now c.args.bound c.args.part.rows c.args.self.now.rows (i + 1)) (sym c.push.ensures.rows)
          (put_adds c.args.uids.now c.args.bound c.args.part.rows c.args.self.now.rows part i c.loop-row.self.rows row c.loop-row.invariant.put turn.0 turn.1 c.if-row-bound.false));
      room = subst (λ n. c.args.self.now.room ≡ c.push.new.self.room + counted c.args.bound (take n c.args.part.rows)) (sym next) (let used = c.push.ensures.room in omega arith);
    }

pub returns-clause-part : goal.returns-clause-part
returns-clause-part c =
    let all : c.into_vec-row-items.result.items ≡ c.args.part.rows = c.into_vec-row-items.ensures ∙ c.into_list.ensures.is in
    let many : length c.into_vec-row-items.result.items ≡ vec_len c.into_vec-row-items.result = search rules in
    let first = c.into_iter-row-iterator.ensures.into_iter_gives in
    let end = YieldsList-end (YieldsList-from_vec {s = c.into_iter-row-iterator.result} c.args.part.rows (first.0 ∙ all) (first.1 ∙ sym many ∙ ap length all)) c.loop-row.yielded c.loop-row.row-iterator c.loop-row.yielded_by c.next.result c.next.new.self c.in-None.is c.next.ensures.steps in
    put_ends c.args.uids.now c.args.bound c.args.part.rows c.args.self.now.rows (length c.loop-row.yielded) c.loop-row.self.rows c.loop-row.invariant.put (omega (arith, end.1))
