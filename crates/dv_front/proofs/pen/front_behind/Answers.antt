use Rattle.std.proofs.Common.{◌≡◌, ℕ, ◌^◌, ◌<◌, ◌∷◌, [], replicate, sym, ap, subst, ◌∙◌, add-one, rules}
use Rattle.std.proofs.lemmas.List.{length-replicate}
use Rattle.dv_front.specs.Notes.{AreGood}
use Rattle.dv_front.specs.Rule.{IsKept}
use Rattle.dv_front.specs.Steps.{first_view, generation_by}
use Rattle.dv_front.proofs.Steps.{begins, shares, room_by}
use Rattle.dv_front.proofs.pen.front_behind.Goals as goal

pub of_words-requires : goal.of_words-requires
of_words-requires c =
    let zeros = c.in_ok-zeros.ensures in
    let row : c.as_slice.result.now ≡ 0 ∷ replicate c.args.words 0 = c.as_slice.ensures.value ∙ zeros.items_if_clones_equal (λ y e. e) ∙ ap (λ (n : ℕ). replicate n 0) (add-one c.args.words) in
    let room : c.from.result ≡ c.args.words = search rules in
    let size : generation_by c.from.result c.args.before ≡ generation_by c.args.words c.args.before = ap (λ (n : ℕ). generation_by n c.args.before) room in
    let g = generation_by c.from.result c.args.before in
    subst (λ ws. IsKept g ws (first_view g ∷ [])) (sym row) (begins g (replicate c.args.words 0)
    (length-replicate c.args.words 0 ∙ sym (room_by c.from.result c.args.before ∙ room))
    (subst (λ n. n < 2 ^ 32) (sym (room_by c.from.result c.args.before ∙ room)) (search rules)) (subst (λ x. AreGood x []) (sym size) c.requires.good))

pub split_seat-second-requires : goal.split_seat-second-requires
split_seat-second-requires c = (search rules, search rules, shares _ _ _ (search rules))
