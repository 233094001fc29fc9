use Rattle.std.proofs.Common.{◌≡◌, ◌+◌, ◌/◌, ◌++◌, ◌∷◌, [], length, sym, ap, ◌∙◌, arith}
use Rattle.dv_formats.specs.Feeds.{words_of}
use Rattle.dv_front.specs.Ends.{PenView}
use Rattle.dv_front.specs.Notes.{text_of}
use Rattle.dv_feed.specs.Publishing.{with_words}
use Rattle.dv_feed.proofs.Put.{group_long, group_published, group_text_is, put_group, text_words}
use Rattle.dv_feed.proofs.publishing.publish_group.Goals as goal

pub publish-requires-clause-put : goal.publish-requires-clause-put
publish-requires-clause-put g c =
    let all = put_group c.args.pen.now c.put_word.new.pen c.put_word-2.new.pen c.put_text.new.pen c.args.author (length c.args.text.now / 4) (words_of (length c.args.text.now / 4) c.args.text.now) c.put_word.ensures c.put_word-2.ensures c.put_text.ensures in
    omega (arith, group_long c.args.pen.now c.put_text.new.pen c.args.author c.args.text.now all, c.words_put-at.ensures.put.0)

pub publish-requires-clause-text : goal.publish-requires-clause-text
publish-requires-clause-text g c =
    let all = put_group c.args.pen.now c.put_word.new.pen c.put_word-2.new.pen c.put_text.new.pen c.args.author (length c.args.text.now / 4) (words_of (length c.args.text.now / 4) c.args.text.now) c.put_word.ensures c.put_word-2.ensures c.put_text.ensures in
    let named : c.put_text.new.pen ≡ with_words c.args.pen.now (text_words g.J.NamesNote.note.entry.author c.args.text.now) = all ∙ ap (λ a. with_words c.args.pen.now (text_words a c.args.text.now)) (sym c.requires.author) in
    group_text_is c.args.pen.now c.put_text.new.pen _ c.args.text.now g.J.NamesNote.note named (ap (λ n. n + 2 + length c.args.text.now / 4) c.words_put-at.ensures.put.0) c.requires.all c.requires.text
    ∙ ap (λ (p : PenView). text_of (p.notes ++ g.J.NamesNote.note ∷ [])) (sym all)

pub returns : goal.returns
returns g c =
    let all = put_group c.args.pen.now c.put_word.new.pen c.put_word-2.new.pen c.put_text.new.pen c.args.author (length c.args.text.now / 4) (words_of (length c.args.text.now / 4) c.args.text.now) c.put_word.ensures c.put_word-2.ensures c.put_text.ensures in
    let named : c.put_text.new.pen ≡ with_words c.args.pen.now (text_words g.J.NamesNote.note.entry.author c.args.text.now) = all ∙ ap (λ a. with_words c.args.pen.now (text_words a c.args.text.now)) (sym c.requires.author) in
    group_published c.args.pen.now c.put_text.new.pen c.publish.new.pen c.args.text.now g.J.NamesNote.note named c.publish.ensures c.requires.text
