use Rattle.std.proofs.Common.{◌≡◌, ◌∙◌, ◌++◌, ℕ, List, ap, drop, subst, sym}
use Rattle.dv_front.specs.Notes.{text_of}
use Rattle.dv_generations.specs.Feeds.{Feed, IsShown}
use Rattle.dv_member.proofs.Arriving.{next_batch, next_words}
use Rattle.dv_member.proofs.reaching.next_pass.Goals as goal

pub add_words-requires : goal.add_words-requires
add_words-requires g c =
    let start = g.K.Keeping.start in
    let count = g.K.Keeping.count in
    let takes = c.in_ok-take_all.ensures.ok in
    let p = c.take_all.new.pass in
    let shown : IsShown start count c.args.feed.now c.args.number p = subst (λ (f : Feed). IsShown start count f c.args.number p) c.pass_of.ensures.same takes.shown in
    let text : text_of p.notes ≡ c.take_all.new.words =
    sym (takes.words ∙ ap (λ (ws : List ℕ). ws ++ drop c.in_ok-pass.pass.taken (text_of p.notes)) c.new-words.ensures ∙ ap (λ (n : ℕ). drop n (text_of p.notes)) c.in_ok-pass.ensures.fresh.0) in
    next_words start count c.args.feed.now c.args.number c.args.from p c.take_all.new.words c.args.batch.now c.requires.start shown text c.requires.batch

pub returns-clause-batch : goal.returns-clause-batch
returns-clause-batch g c =
    let start = g.K.Keeping.start in
    let count = g.K.Keeping.count in
    let takes = c.in_ok-take_all.ensures.ok in
    let p = c.take_all.new.pass in
    let shown : IsShown start count c.args.feed.now c.args.number p = subst (λ (f : Feed). IsShown start count f c.args.number p) c.pass_of.ensures.same takes.shown in
    let text : text_of p.notes ≡ c.take_all.new.words =
    sym (takes.words ∙ ap (λ (ws : List ℕ). ws ++ drop c.in_ok-pass.pass.taken (text_of p.notes)) c.new-words.ensures ∙ ap (λ (n : ℕ). drop n (text_of p.notes)) c.in_ok-pass.ensures.fresh.0) in
    next_batch start count c.args.feed.now c.args.number c.args.from p c.take_all.new.words c.args.batch.now c.requires.start shown text c.requires.batch c.add_words.new.batch c.in_ok-add_words.ensures
