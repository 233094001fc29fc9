use Rattle.std.proofs.Common.{◌≡◌, ◌<◌, ◌^◌, ◌%◌, ◌/◌, ◌*◌, ◌+◌, length, get_or, set, ap, subst, sym, ◌∙◌, arith, refl}
use Rattle.std.proofs.lemmas.Grind.{get_or_default_zero}
use Rattle.dv_index.proofs.Bitmaps.{AreWords, shifted, word_room, words_done, words_step}
use Rattle.dv_index.proofs.rows.words_of.Goals as goal

pub overflow_add-index_mut : goal.overflow_add-index_mut
overflow_add-index_mut c =
    let k = get_or c.args.places.now c.loop-place.place-index 0 in
    let inside : k < 32 * c.args.count = c.requires.below c.loop-place.place-index 0 c.loop-place-test.true in
    let low : k / 32 < c.args.count = omega (arith, inside) in
    let value : c.index_mut.result.now ≡ get_or c.loop-place.words.items (k / 32) 0 = c.index_mut.ensures.value ∙ get_or_default_zero c.loop-place.words.items (k / 32) _ (omega (arith, low, c.loop-place.invariant.size)) in
    let before = c.loop-place.invariant.each (k / 32) low in
    let room = word_room c.args.places.now c.loop-place.place-index k c.requires.rising c.loop-place-test.true refl in
    let bit = shifted k in
    omega (arith, value, before, room, bit)

pub returns : goal.returns
returns c =
    let end : c.loop-place.place-index ≡ length c.args.places.now = omega arith in
    words_done c.args.places.now c.loop-place.words.items c.args.count (subst (λ i. AreWords c.args.places.now i c.args.count c.loop-place.words.items) end c.loop-place.invariant)

pub loop-place-preserved : goal.loop-place-preserved
loop-place-preserved c =
    let k = get_or c.args.places.now c.loop-place.place-index 0 in
    let inside : k < 32 * c.args.count = c.requires.below c.loop-place.place-index 0 c.loop-place-test.true in
    let low : k / 32 < length c.loop-place.words.items = omega (arith, inside, c.loop-place.invariant.size) in
    let value : c.index_mut.result.now ≡ get_or c.loop-place.words.items (k / 32) 0 = c.index_mut.ensures.value ∙ get_or_default_zero c.loop-place.words.items (k / 32) _ low in
    let same : get_or c.loop-place.words.items (k / 32) 0 + 2 ^ (k % 32) ≡ c.index_mut.result.now + 1 * 2 ^ (k % 32) % 4294967296 = ap (λ x. x + 2 ^ (k % 32)) (sym value) ∙ ap (λ x. c.index_mut.result.now + x) (sym (shifted k)) in
    subst (λ x. AreWords c.args.places.now (c.loop-place.place-index + 1) c.args.count (set c.loop-place.words.items (k / 32) x)) same
    (words_step c.args.places.now c.loop-place.words.items c.loop-place.place-index k c.args.count c.loop-place-test.true refl inside c.loop-place.invariant)
