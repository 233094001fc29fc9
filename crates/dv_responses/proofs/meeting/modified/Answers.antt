use Rattle.std.proofs.Common.{◌≡◌, ◌∙◌, ◌++◌, ◌∷◌, [], ℕ, Bool, cond, get_or, map, take, sym, ap}
use Rattle.std.specs.Prelude.{filter, nat_lt}
use Rattle.std.proofs.lemmas.List.{append-nil, get_or_default}
use Rattle.dv_model.specs.declared.types.Shown.{Shown}
use Rattle.dv_model.specs.Sessions.{has_row, number_of}
use Rattle.dv_responses.proofs.Lines.{kept_more}
use Rattle.dv_responses.specs.Rows.{row_at, rows_at}
use Rattle.dv_responses.proofs.meeting.modified.Goals as goal
use Rattle.dv_responses.proofs.meeting.modified.Goals.{then-is_later+in_ok-push, else-is_later}

pub loop-number-preserved : goal.loop-number-preserved
loop-number-preserved c =
    let m = c.args.live.now.mailbox in
    let rows = c.args.rows.now in
    let numbers = c.args.numbers.now in
    let by_uid = c.args.by_uid in
    let i = c.loop-number.number-index in
    let n = get_or numbers i 0 in
    let s = c.row_at-s.result.now in
    let less = c.loop-number-test.true in
    let is : n ≡ get_or numbers i n = get_or_default numbers i 0 n less in
    let p : ℕ × Shown → Bool = λ row. has_row m (λ r. nat_lt c.args.since r.modseq) row.1.uid in
    let before = map (number_of by_uid) (filter p (rows_at rows (take i numbers))) in
    let same : s ≡ row_at rows n = c.row_at-s.ensures in
    let tried : p (n, row_at rows n) ≡ c.is_later.result = ap (λ (s : Shown). p (n, s)) (sym same) ∙ sym c.is_later.ensures in
    let more = kept_more p by_uid rows numbers i n less is in
    elim c.if-is_later.branch [
      | then-is_later+in_ok-push w ↦
          w.kept-is ∙ w.in_ok-push.ensures.ok ∙ ap (λ t. t ++ w.number_of.result ∷ []) c.loop-number.invariant
          ∙ ap (λ x. before ++ x ∷ []) (w.number_of.ensures ∙ ap (λ (s : Shown). number_of by_uid (n, s)) same)
          ∙ ap (λ b. before ++ cond b (number_of by_uid (n, row_at rows n) ∷ []) []) (sym (tried ∙ w.if-is_later.true)) ∙ sym more
      | else-is_later w ↦
          w.kept-is ∙ c.loop-number.invariant ∙ sym (append-nil before)
          ∙ ap (λ b. before ++ cond b (number_of by_uid (n, row_at rows n) ∷ []) []) (sym (tried ∙ w.if-is_later.false)) ∙ sym more
    ]
