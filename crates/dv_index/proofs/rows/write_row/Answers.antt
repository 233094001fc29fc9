use Rattle.std.proofs.Common.{ap, ◌∙◌, ◌++◌}
use Rattle.std.proofs.lemmas.Result.{on_ok_weaker}
use Rattle.std.specs.Prelude.{◌≡◌, length, map}
use Rattle.std.specs.Int.{w32, to_le_bytes}
use Rattle.std.specs.List.{flat_map, range_with_len}
use Rattle.dv_formats.specs.Snapshots.{filled, keyword_word, keyword_words}
use Rattle.dv_index.proofs.Bitmaps.{words_bytes}
use Rattle.dv_index.proofs.Texts.{row_written}
use Rattle.dv_index.proofs.rows.write_row.Goals as goal

pub returns-clause-text : goal.returns-clause-text
returns-clause-text c =
    let words : c.deref.result.now ≡ map (keyword_word c.args.row.now.keywords) (range_with_len 0 (keyword_words (length c.args.m.now.keywords))) = c.deref.ensures.value ∙ c.in_ok-words.ensures ∙ ap (λ ps. map (keyword_word ps) (range_with_len 0 c.keyword_words-count.result)) c.as_slice.ensures ∙ ap (λ n. map (keyword_word c.args.row.now.keywords) (range_with_len 0 n)) (c.keyword_words-count.ensures ∙ ap keyword_words c.len.ensures) in
    on_ok_weaker c.write_parts.result
    (λ e. row_written c.args.m.now c.args.row.now c.args.out.now c.extend.new.self c.write_words.new.out c.write_parts.new.out (c.in_ok-extend.ensures.ok ∙ ap (λ t. c.args.out.now ++ t) c.row_front.ensures.text)
    (c.in_ok-write_words.ensures.text ∙ ap (λ t. c.extend.new.self ++ flat_map (to_le_bytes w32) t) words ∙ ap (λ t. c.extend.new.self ++ t) (words_bytes (length c.args.m.now.keywords) c.args.row.now.keywords))
    (e ∙ ap (λ t. c.write_words.new.out ++ flat_map filled t) c.as_slice-2.ensures)) c.write_parts.ensures.text
