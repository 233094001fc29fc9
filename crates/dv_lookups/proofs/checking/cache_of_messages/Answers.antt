use Rattle.std.proofs.Common.{◌≡◌, ◌+◌, ◌*◌, ◌∙◌, ℕ, length, ap, arith, sym}
use Rattle.std.proofs.lemmas.List.{length-map}
use Rattle.dv_model.specs.declared.types.Row.{Row}
use Rattle.dv_cache.specs.Begun.{begun}
use Rattle.dv_cache.specs.Caches.{cache_text, first_place}
use Rattle.dv_files.specs.Reading.{mail_at}
use Rattle.dv_lookups.specs.Checks.{IsCacheText, held_row, held_rows}
use Rattle.dv_lookups.proofs.Holding.{is_text}
use Rattle.dv_lookups.proofs.Rows.{if_in_memory, if_ok}
use Rattle.dv_lookups.proofs.checking.cache_of_messages.Goals as goal

pub returns-clause-text : goal.returns-clause-text
returns-clause-text g c = λ told true_cache mail are.
    let folder = g.S.Shelf.sees.files c.args.shelf.now in
    let m = c.args.chain.now.live.mailbox in
    let indexid = c.args.chain.now.indexid in
    let seq = c.args.seq in
    let wide = c.text_of.ensures.wide in
    let held = held_rows (mail_at folder) m.rows in
    let count : length held ≡ length m.rows = length-map m.rows (λ (row : Row). held_row (mail_at folder) row.uid) in
    let begins : c.in_ok-text.text ≡ begun (first_place held) held =
    c.in_ok-text.ensures.rows told true_cache ∙ ap (λ (n : ℕ). begun (32 + 16 * n) held) (sym count) in
    if_in_memory (IsCacheText indexid seq mail m) c.text_of.result c.in_memory.result c.in_memory.ensures
    (if_ok (λ text. text ≡ cache_text indexid seq held) (IsCacheText indexid seq mail m) c.text_of.result
    (λ text is. is_text folder m mail are indexid seq text wide.0 wide.1 c.next_uid-next_uid.ensures.valid c.requires.few is)
    (c.text_of.ensures.text held begins (omega (arith, count, c.requires.few))))
