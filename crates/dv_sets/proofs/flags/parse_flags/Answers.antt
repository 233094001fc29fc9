use Rattle.std.proofs.Common.{◌≡◌, ◌<◌, [], List, ℕ, Ok, length, rules, ap, sym, subst}
use Rattle.dv_formats.specs.Scripts.{AreFlags, IsFlag}
use Rattle.dv_sets.proofs.Known.{knows_none}
use Rattle.dv_sets.proofs.Words.{IsReadTo, bad_word, empty_flags, end_bad, end_every, end_only, flags_are_one, last_one, one_more, starts}
use Rattle.dv_sets.proofs.flags.parse_flags.Goals as goal

pub returns-then-is_empty-clause-every : goal.returns-then-is_empty-clause-every
returns-then-is_empty-clause-every c = λ none.
    let empty : length c.in-Some.words.now ≡ 0 = search rules in
    absurd (none 0 [] (empty_flags c.args.b.now c.in-Some.words.now c.in-Some.ensures empty))

pub returns-then-is_empty-clause-found : goal.returns-then-is_empty-clause-found
returns-then-is_empty-clause-found c =
    let empty : length c.in-Some.words.now ≡ 0 = search rules in
    subst (λ k. AreFlags 0 k c.args.b.now) (sym c.new-keywords.ensures) (empty_flags c.args.b.now c.in-Some.words.now c.in-Some.ensures empty)

pub returns-then-is_empty-clause-only : goal.returns-then-is_empty-clause-only
returns-then-is_empty-clause-only c = λ flags keywords is.
    let empty : length c.in-Some.words.now ≡ 0 = search rules in
    ap Ok (flags_are_one 0 flags c.new-keywords.result keywords c.args.b.now (subst (λ k. AreFlags 0 k c.args.b.now) (sym c.new-keywords.ensures) (empty_flags c.args.b.now c.in-Some.words.now c.in-Some.ensures empty)) is)

pub each_word-init : goal.each_word-init
each_word-init c =
    let some : 0 < length c.in-Some.words.now = search rules in
    record {
      read = subst (λ k. IsReadTo c.args.b.now 0 k c.in-Some.words.now) (sym c.new-keywords.ensures) (starts c.args.b.now c.in-Some.words.now c.in-Some.ensures some);
      known = knows_none _ _ c.new-known.ensures.empty c.new-keywords.ensures;
    }

pub returns-in-Err-clause-only : goal.returns-in-Err-clause-only
returns-in-Err-clause-only c = λ flags keywords is.
    end_only _ (IsFlag c.cut.result.0.now → ⊥) c.in-Err.end (Ok (flags, keywords)) (λ none. bad_word c.args.b.now c.each_word.flags c.each_word.keywords c.each_word.text.now c.cut.result.0.now c.cut.result.1 c.each_word.invariant.read c.cut.ensures.front c.cut.ensures.parts none flags keywords is) c.in-Err.ensures.bad

pub returns-in-Err-clause-bad : goal.returns-in-Err-clause-bad
returns-in-Err-clause-bad c =
    end_bad (ℕ × List (List ℕ)) (IsFlag c.cut.result.0.now → ⊥) ((flags : ℕ) (keywords : List (List ℕ)) → AreFlags flags keywords c.args.b.now → ⊥) c.in-Err.end (bad_word c.args.b.now c.each_word.flags c.each_word.keywords c.each_word.text.now c.cut.result.0.now c.cut.result.1 c.each_word.invariant.read c.cut.ensures.front c.cut.ensures.parts) c.in-Err.ensures.bad

pub returns-in-Err-clause-every : goal.returns-in-Err-clause-every
returns-in-Err-clause-every c = λ none. end_every _ c.in-Err.end

pub returns-in_default-behind-clause-found : goal.returns-in_default-behind-clause-found
returns-in_default-behind-clause-found c =
    let parts = rw c.in_default-behind.is at c.cut.ensures.parts in
    last_one c.args.b.now c.each_word.flags c.in-Ok.more c.each_word.keywords c.add_flag.new.keywords c.each_word.text.now c.cut.result.0.now c.each_word.invariant.read c.cut.ensures.front parts c.in-Ok.ensures.ok

pub returns-in_default-behind-clause-only : goal.returns-in_default-behind-clause-only
returns-in_default-behind-clause-only c = λ flags keywords is.
    let parts = rw c.in_default-behind.is at c.cut.ensures.parts in
    ap Ok (flags_are_one c.in-Ok.more flags c.add_flag.new.keywords keywords c.args.b.now (last_one c.args.b.now c.each_word.flags c.in-Ok.more c.each_word.keywords c.add_flag.new.keywords c.each_word.text.now c.cut.result.0.now c.each_word.invariant.read c.cut.ensures.front parts c.in-Ok.ensures.ok) is)

pub returns-in_default-behind-clause-every : goal.returns-in_default-behind-clause-every
returns-in_default-behind-clause-every c = λ none.
    let parts = rw c.in_default-behind.is at c.cut.ensures.parts in
    absurd (none c.in-Ok.more c.add_flag.new.keywords (last_one c.args.b.now c.each_word.flags c.in-Ok.more c.each_word.keywords c.add_flag.new.keywords c.each_word.text.now c.cut.result.0.now c.each_word.invariant.read c.cut.ensures.front parts c.in-Ok.ensures.ok))

pub each_word-preserved : goal.each_word-preserved
each_word-preserved c =
    let parts = rw c.in-Some-behind.is at c.cut.ensures.parts in
    record {
      read = one_more c.args.b.now c.each_word.flags c.in-Ok.more c.each_word.keywords c.add_flag.new.keywords c.each_word.text.now c.cut.result.0.now c.in-Some-behind.rest.now c.each_word.invariant.read c.cut.ensures.front parts c.in-Ok.ensures.ok;
      known = c.in-Ok.ensures.known;
    }
