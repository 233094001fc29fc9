use Rattle.std.proofs.Common.{◌≡◌, ◌∙◌, ap, sym, rules, subst, not, All, List, map, take, ℕ, Some, IfOk, true, ◌+◌}
use Rattle.std.specs.List.{list_all, list_any}
use Rattle.std.specs.Option.{option_copied}
use Rattle.std.proofs.lemmas.List.{take_all}
use Rattle.dv_model.specs.declared.types.Key.TheVariants as key
use Rattle.dv_model.specs.Searches.{meets}
use Rattle.dv_model.specs.Sets.{is_in_set}
use Rattle.dv_search.specs.Facts.{AreKnown, candidate_of, has_name}
use Rattle.dv_search.proofs.Meeting.{Answers, AnswersAll, met-Not, met-Keyword, met-Uid, met-first, met-second, met-And, met-not-all, met-more}
use Rattle.dv_sets.specs.Joined.{AreApart}
use Rattle.dv_search.specs.Prepared.{HasApart}
use Rattle.dv_search.proofs.Ready.{apart-And, apart-Not, apart-Uid, apart-first, apart-second}
use Rattle.dv_search.proofs.keys.+meets.Goals as goal

pub meets-returns-in_ok-meets-in-Not : goal.meets-returns-in_ok-meets-in-Not
meets-returns-in_ok-meets-in-Not t c = λ apart.
    let facts = option_copied c.args.c.now.facts in
    let is : c.args.k.now ≡ key.Not c.get.result.now = search rules in
    let met = met-Not facts c.args.c.now c.get.result.now c.in_ok-meets-in-Not.field-0 (c.in_ok-meets-in-Not.ensures (apart-Not c.get.result.now (subst HasApart is apart))) in
    subst (λ k. Answers facts c.args.c.now k (not c.in_ok-meets-in-Not.field-0)) (sym is) met

pub meets-returns-then-branch : goal.meets-returns-then-branch
meets-returns-then-branch t c = λ apart.
    let facts = option_copied c.args.c.now.facts in
    let is : c.args.k.now ≡ key.Or c.get-in-Or.result.now c.in-Or.other = search rules in
    let met = met-first facts c.args.c.now c.get-in-Or.result.now c.in-Or.other c.in_ok-meets-in-Or.field-0 c.if-branch.true (c.in_ok-meets-in-Or.ensures (apart-first c.get-in-Or.result.now c.in-Or.other (subst HasApart is apart))) in
    subst (λ k. Answers facts c.args.c.now k c.in_ok-meets-in-Or.field-0) (sym is) met

pub meets-returns-in_ok-meets-in-Or-2 : goal.meets-returns-in_ok-meets-in-Or-2
meets-returns-in_ok-meets-in-Or-2 t c = λ apart.
    let facts = option_copied c.args.c.now.facts in
    let is : c.args.k.now ≡ key.Or c.get-in-Or.result.now c.get-else-branch.result.now = search rules in
    let met = met-second facts c.args.c.now c.get-in-Or.result.now c.get-else-branch.result.now c.in_ok-meets-in-Or.field-0 c.in_ok-meets-in-Or-2.field-0 c.if-branch.false (c.in_ok-meets-in-Or.ensures (apart-first c.get-in-Or.result.now c.get-else-branch.result.now (subst HasApart is apart))) (c.in_ok-meets-in-Or-2.ensures (apart-second c.get-in-Or.result.now c.get-else-branch.result.now (subst HasApart is apart))) in
    subst (λ k. Answers facts c.args.c.now k c.in_ok-meets-in-Or-2.field-0) (sym is) met

pub meets-returns-in-And : goal.meets-returns-in-And
meets-returns-in-And t c = λ apart.
    let facts = option_copied c.args.c.now.facts in
    let is : c.args.k.now ≡ key.And c.in-And.keys = search rules in
    let met = met-And facts c.args.c.now c.in-And.keys c.meets_all.result (c.meets_all.ensures (apart-And c.in-And.keys (subst HasApart is apart))) in
    subst (λ k. (message : List ℕ) → AreKnown k (Some message) facts → IfOk c.meets_all.result (λ met. met ≡ meets k (candidate_of c.args.c.now message))) (sym is) met

pub meets_all-returns-then-not-branch : goal.meets_all-returns-then-not-branch
meets_all-returns-then-not-branch t c = λ apart.
    let here : HasApart c.key-item.result = subst HasApart (sym c.key-item.is) (subst (All HasApart) (sym c.as_slice-key-items.ensures) apart c.loop-key.key-index c.key-item.result c.loop-key-test.true) in
    let facts = option_copied c.args.c.now.facts in
    let items = c.as_slice-key-items.result.now in
    let unmet = met-not-all facts c.args.c.now items c.loop-key.key-index c.key-item.result c.in_ok-meets.field-0 c.loop-key-test.true c.key-item.is c.if-not-branch.true (c.in_ok-meets.ensures here) in
    λ message known. sym c.if-not-branch.true ∙ subst (λ ks. AnswersAll facts c.args.c.now ks ks c.in_ok-meets.field-0) c.as_slice-key-items.ensures unmet message known

pub meets_all-loop-key-preserved : goal.meets_all-loop-key-preserved
meets_all-loop-key-preserved t c = λ apart.
    let here : HasApart c.key-item.result = subst HasApart (sym c.key-item.is) (subst (All HasApart) (sym c.as_slice-key-items.ensures) apart c.loop-key.key-index c.key-item.result c.loop-key-test.true) in
    let facts = option_copied c.args.c.now.facts in
    let items = c.as_slice-key-items.result.now in
    let i = c.loop-key.key-index in
    let before : AnswersAll facts c.args.c.now c.args.keys.now (take i items) true = λ message known. sym (c.loop-key.invariant apart message known) in
    let more = met-more facts c.args.c.now items i c.key-item.result c.in_ok-meets.field-0 c.loop-key-test.true c.key-item.is c.if-not-branch.false (c.in_ok-meets.ensures here) (subst (λ ks. AnswersAll facts c.args.c.now ks (take i items) true) (sym c.as_slice-key-items.ensures) before) in
    λ message known. sym (subst (λ ks. AnswersAll facts c.args.c.now ks (take (i + 1) items) true) c.as_slice-key-items.ensures more message known)

pub meets_all-returns : goal.meets_all-returns
meets_all-returns t c =
    let a = candidate_of c.args.c.now in
    let items = c.as_slice-key-items.result.now in
    λ apart message known.
    sym (c.loop-key.invariant apart message known) ∙ ap (λ ks. list_all (λ met. met (a message)) (map meets ks)) (take_all c.loop-key.key-index items c.loop-key-test.false ∙ c.as_slice-key-items.ensures)

pub meets-returns-in-Keyword : goal.meets-returns-in-Keyword
meets-returns-in-Keyword t c = λ apart.
    let facts = option_copied c.args.c.now.facts in
    let is : c.args.k.now ≡ key.Keyword c.in-Keyword.name = search rules in
    let found : c.has_keyword.result ≡ list_any (has_name c.args.c.now.names.now c.in-Keyword.name) c.args.c.now.shown.now.keywords = search rules in
    subst (λ k. Answers facts c.args.c.now k c.has_keyword.result) (sym is) (met-Keyword facts c.args.c.now c.in-Keyword.name c.has_keyword.result found)

pub meets-returns-in-Uid : goal.meets-returns-in-Uid
meets-returns-in-Uid t c = λ apart.
    let facts = option_copied c.args.c.now.facts in
    let set = c.in-Uid.set in
    let is : c.args.k.now ≡ key.Uid set = search rules in
    let tried = c.is_in_joined.ensures (subst AreApart (sym c.as_slice-in-Uid.ensures) (apart-Uid set (subst HasApart is apart))) 0 in
    let met = met-Uid facts c.args.c.now set c.is_in_joined.result (tried ∙ ap (λ s. is_in_set 0 s c.args.c.now.shown.now.uid) c.as_slice-in-Uid.ensures) in
    subst (λ k. Answers facts c.args.c.now k c.is_in_joined.result) (sym is) met
