use Rattle.std.proofs.Common.{rules, ◌≡◌, ◌∙◌, ◌+◌, ◌++◌, ℕ, ap, get_or, sym, take}
use Rattle.std.proofs.lemmas.Result.{err_from_is_err_and}
use Rattle.dv_model.specs.declared.types.Shown.{Shown}
use Rattle.dv_shelf.specs.Folders.{Folder}
use Rattle.dv_responses.specs.Rows.{row_at, rows_at}
use Rattle.dv_lookups.specs.Commands.{AskedStands}
use Rattle.dv_lookups.specs.Founds.{mail_of}
use Rattle.dv_lookups.specs.Reads.{damaged_of, line_of, lines_of, uids_of}
use Rattle.dv_lookups.proofs.RowSteps.{all_rows, all_uids, damage_more, flat_more, row_is, row_less, uid_is, uid_less}
use Rattle.dv_lookups.proofs.Stepping.{knows_still, looks_all, looks_more}
use Rattle.dv_lookups.proofs.cache_file.CacheFile.fetch_rows.Goals as goal

pub loop-number-preserved : goal.loop-number-preserved
loop-number-preserved g c =
    let S = g.S.Shelf in
    let with = g.R.Replies.with in
    let folder = S.sees.files c.args.shelf.now in
    let chain = c.args.chain.now in
    let m = chain.live.mailbox in
    let items = c.args.items.now in
    let rows = c.args.rows.now in
    let numbers = c.args.numbers.now in
    let all = rows_at rows numbers in
    let uids = uids_of all in
    let i = c.loop-number.number-index in
    let n = get_or numbers i 0 in
    let less = c.loop-number-test.true in
    let s = c.row_at-s.result.now in
    let inv = c.loop-number.invariant in
    let did = c.fetch_row.ensures in
    let same : s ≡ row_at rows n = c.row_at-s.ensures in
    let uid : s.uid ≡ get_or uids i 0 = ap (λ (x : Shown). x.uid) same ∙ sym (uid_is rows numbers i less) in
    let still : S.sees.tells → S.sees.files c.loop-number.shelf ≡ folder = λ told. (inv.looks.looks told).same in
    let knows = knows_still S.sees chain (AskedStands c.args.asked.now) (take i uids) c.args.self.now c.loop-number.self c.args.shelf.now c.loop-number.shelf inv.looks in
    let each = λ (row : ℕ × Shown). line_of m items row (mail_of folder m row.1.uid) in
    record {
      lines = λ told known.
          let before = lines_of folder m items (take i all) in
          c.in_ok-fetch_row.ensures.line told (knows told known)
          ∙ ap (λ (f : Folder). with c.loop-number.lines (line_of m items (n, s) (mail_of f m s.uid))) (still told)
          ∙ ap (λ x. with x (each (n, s))) (inv.lines told known)
          ∙ g.met.R.Replies.more c.args.lines.now before (each (n, s))
          ∙ ap (λ (s : Shown). with c.args.lines.now (before ++ each (n, s))) same
          ∙ ap (λ (row : ℕ × Shown). with c.args.lines.now (before ++ each row)) (sym (row_is rows numbers i less))
          ∙ ap (with c.args.lines.now) (sym (flat_more each all i (n, row_at rows n) (row_less rows numbers i less)));
      damaged = λ told known.
          damage_more folder (S.sees.files c.loop-number.shelf) m uids i s.uid c.loop-number.damaged c.fetch_row.new.damaged (uid_less rows numbers i less) uid (still told) (inv.damaged told known)
          (c.in_ok-fetch_row.ensures.damaged told (knows told known));
      looks = looks_more S.sees chain c.args.asked.now uids i (uid_less rows numbers i less) c.args.shelf.now c.loop-number.shelf c.fetch_row.new.shelf c.args.self.now c.loop-number.self c.fetch_row.new.self
          s.uid uid inv.looks did.looks did.file did.economy did.spares;
      faults = search rules;
    }

pub returns-in_err-fetch_row-clause-replies : goal.returns-in_err-fetch_row-clause-replies
returns-in_err-fetch_row-clause-replies g c = λ told known.
    let S = g.S.Shelf in
    let all = rows_at c.args.rows.now c.args.numbers.now in
    let p = err_from_is_err_and c.from_residual.result c.from_residual.ensures.1 in
    rw (p.1)
    (record {
      told = lines_of (S.sees.files c.args.shelf.now) c.args.chain.now.live.mailbox c.args.items.now (take c.loop-number.number-index all);
      is = c.in_err-fetch_row.ensures.err ∙ c.loop-number.invariant.lines told known;
    })

pub returns-in_err-fetch_row-clause-looks : goal.returns-in_err-fetch_row-clause-looks
returns-in_err-fetch_row-clause-looks g c =
    let S = g.S.Shelf in
    let chain = c.args.chain.now in
    let asked = c.args.asked.now in
    let rows = c.args.rows.now in
    let numbers = c.args.numbers.now in
    let uids = uids_of (rows_at rows numbers) in
    let i = c.loop-number.number-index in
    let less = c.loop-number-test.true in
    let did = c.fetch_row.ensures in
    let uid = ap (λ (x : Shown). x.uid) c.row_at-s.ensures ∙ sym (uid_is rows numbers i less) in
    looks_all S.sees chain asked uids (i + 1) c.args.self.now c.fetch_row.new.self c.args.shelf.now c.fetch_row.new.shelf
    (looks_more S.sees chain asked uids i (uid_less rows numbers i less) c.args.shelf.now c.loop-number.shelf c.fetch_row.new.shelf c.args.self.now c.loop-number.self c.fetch_row.new.self
    c.row_at-s.result.now.uid uid c.loop-number.invariant.looks did.looks did.file did.economy did.spares)

pub returns-clause-found : goal.returns-clause-found
returns-clause-found g c = λ told known.
    let folder = g.S.Shelf.sees.files c.args.shelf.now in
    let m = c.args.chain.now.live.mailbox in
    let rows = c.args.rows.now in
    let numbers = c.args.numbers.now in
    let i = c.loop-number.number-index in
    let inv = c.loop-number.invariant in (
      inv.lines told known ∙ ap (λ rs. g.R.Replies.with c.args.lines.now (lines_of folder m c.args.items.now rs)) (all_rows rows numbers i c.loop-number-test.false),
      inv.damaged told known ∙ ap (damaged_of folder m) (all_uids rows numbers i c.loop-number-test.false),
    )

pub returns-clause-looks : goal.returns-clause-looks
returns-clause-looks g c =
    looks_all g.S.Shelf.sees c.args.chain.now c.args.asked.now (uids_of (rows_at c.args.rows.now c.args.numbers.now)) c.loop-number.number-index c.args.self.now c.loop-number.self c.args.shelf.now c.loop-number.shelf
    c.loop-number.invariant.looks
