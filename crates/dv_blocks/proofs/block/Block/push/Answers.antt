use Rattle.std.proofs.Common.{◌∙◌, ◌++◌, ◌∷◌, [], List, ℕ, ap}
use Rattle.dv_blocks.specs.Cells.{Cell, Cells, Strings, beside}
use Rattle.dv_blocks.proofs.Sides.{are, pushed, rows_of, same_columns, viewed}
use Rattle.dv_blocks.proofs.block.Block.push.Goals as goal

abbrev row_of : ℕ → ℕ → ℕ → ℕ → List ℕ → Cell
row_of uid flags modseq words part = record { uid = uid; flags = flags; modseq = modseq; words = words; part = part }

pub invariant_of-self-2 : goal.invariant_of-self-2
invariant_of-self-2 c =
    let b = c.self.inside in
    let cells = beside b.uids.items b.flags.items b.modseqs.items b.words.items b.parts.items in
    let row = row_of c.args.uid c.args.flags c.args.modseq c.args.words c.args.part.now in
    are _ _ _ _ _ (cells ++ row ∷ [])
    (same_columns _ _ _ _ _ _ _ _ _ _ (cells ++ row ∷ []) (c.push_reserved.ensures.items ∙ ap (λ l. l ++ c.args.uid ∷ []) c.reserve.ensures.uids)
    (c.push_reserved-2.ensures.items ∙ ap (λ l. l ++ c.args.flags ∷ []) c.reserve.ensures.flags) (c.push_reserved-3.ensures.items ∙ ap (λ l. l ++ c.args.modseq ∷ []) c.reserve.ensures.modseqs)
    (c.push_reserved-4.ensures.items ∙ ap (λ l. l ++ c.args.words ∷ []) c.reserve.ensures.words) (ap (λ (s : Strings). s.items) c.in_ok-push.ensures.ok)
    (pushed b.uids.items b.flags.items b.modseqs.items b.words.items b.parts.items cells row c.self.invariant))

pub returns-clause-ok : goal.returns-clause-ok
returns-clause-ok c =
    let b = c.self.inside in
    let cells = beside b.uids.items b.flags.items b.modseqs.items b.words.items b.parts.items in
    let row = row_of c.args.uid c.args.flags c.args.modseq c.args.words c.args.part.now in
    viewed c.push.new.self.width b.parts.width _ _ _ _ _ (cells ++ row ∷ []) (ap (λ (s : Strings). s.width) c.in_ok-push.ensures.ok)
    (same_columns _ _ _ _ _ _ _ _ _ _ (cells ++ row ∷ []) (c.push_reserved.ensures.items ∙ ap (λ l. l ++ c.args.uid ∷ []) c.reserve.ensures.uids)
    (c.push_reserved-2.ensures.items ∙ ap (λ l. l ++ c.args.flags ∷ []) c.reserve.ensures.flags) (c.push_reserved-3.ensures.items ∙ ap (λ l. l ++ c.args.modseq ∷ []) c.reserve.ensures.modseqs)
    (c.push_reserved-4.ensures.items ∙ ap (λ l. l ++ c.args.words ∷ []) c.reserve.ensures.words) (ap (λ (s : Strings). s.items) c.in_ok-push.ensures.ok)
    (pushed b.uids.items b.flags.items b.modseqs.items b.words.items b.parts.items cells row c.self.invariant))
    ∙ ap (λ (s : Cells). rows_of s.width (s.cells ++ row ∷ [])) c.self.view_is
