use Rattle.std.proofs.Common.{◌≡◌, ◌∙◌, ◌+◌, ◌++◌, List, ap, arith, length, rules}
use Rattle.std.proofs.lemmas.List.{length-map}
use Rattle.dv_model.specs.declared.types.Entry.{Entry}
use Rattle.dv_validity.proofs.Logs.{records_of}
use Rattle.dv_front.specs.declared.notes.Note.{Note}
use Rattle.dv_feed.proofs.Marks.{words_are_feed}
use Rattle.dv_member.proofs.Batching.{entries_one}
use Rattle.dv_member.proofs.batch.add_words.Goals as goal

pub groups_of-requires : goal.groups_of-requires
groups_of-requires c = words_are_feed c.args.batch.now.mark c.args.words.now c.requires

pub returns : goal.returns
returns c = λ part good text.
    let one = entries_one c.in_ok-entries.entries part c.args.words.now c.in_ok-entries.ensures.0 c.in_ok-entries.ensures.1 good text in
    let long : c.len.result ≡ length part = c.len.ensures ∙ ap length one ∙ length-map part (λ (n : Note). n.entry) in
    let sum : c.in-Some.seen ≡ c.args.batch.now.seen + c.len.result = search rules in (
      c.in_ok-add_records.ensures ∙ ap (λ (es : List Entry). c.args.batch.now.records.items ++ records_of es) one,
      c.mark_behind_words-batch.ensures _ good text,
      omega (arith, sum, long),
    )
