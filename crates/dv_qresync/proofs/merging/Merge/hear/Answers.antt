use Rattle.std.proofs.Common.{◌≡◌, ◌<◌, ℕ, List, ◌∙◌, ap, not, sym, subst}
use Rattle.std.specs.Prelude.{All, filter}
use Rattle.std.proofs.lemmas.List.Elements.{All-filter}
use Rattle.dv_model.specs.declared.types.Pair.{Pair}
use Rattle.dv_model.specs.declared.types.Span.{Span}
use Rattle.dv_model.specs.Effects.{is_in_pairs}
use Rattle.dv_model.specs.Sets.{is_in_set}
use Rattle.dv_qresync.specs.declared.types.Cached.{Cached}
use Rattle.dv_qresync.specs.Merging.{merged}
use Rattle.dv_qresync.specs.Replicas.{heard}
use Rattle.dv_qresync.proofs.Merged.{taken_out, with_rows}
use Rattle.dv_qresync.proofs.merging.Merge.hear.Goals as goal

abbrev kept : List Span → List Cached → List Cached
kept set rows = filter (λ (row : Cached). not (is_in_set 0 set row.uid)) rows

pub returns-in_ok-set-in-Vanished-clause-is : goal.returns-in_ok-set-in-Vanished-clause-is
returns-in_ok-set-in-Vanished-clause-is c =
    let before : List Cached = c.args.self.now.before.items in
    let after : List Cached = c.args.self.now.after.items in
    let set : List Span = c.in_ok-set-in-Vanished.set in
    let pairs : List Pair = c.in-Vanished.pairs in
    let same : (star uid : ℕ) → is_in_set star set uid ≡ is_in_pairs pairs uid = λ star uid. c.in_ok-set-in-Vanished.ensures.same star uid ∙ ap (λ (ps : List Pair). is_in_pairs ps uid) c.as_slice.ensures in
    ap (with_rows c.args.self.now.uid_validity c.args.self.now.highest)
    (taken_out set pairs before after c.remove.new.rows.items c.remove-in-Vanished.new.rows.items same
    (c.remove.ensures ∙ ap (λ (s : List Span). kept s before) c.as_slice-in-Vanished.ensures)
    (c.remove-in-Vanished.ensures ∙ ap (λ (s : List Span). kept s after) c.as_slice-in-Vanished-2.ensures))
    ∙ ap (heard (merged c.args.self.now)) (sym c.in-Vanished.is)

pub returns-in_ok-set-in-Vanished-clause-at : goal.returns-in_ok-set-in-Vanished-clause-at
returns-in_ok-set-in-Vanished-clause-at c =
    let low : Cached → Type 0 = λ row. row.uid < c.args.self.now.bound in
    subst (All low) (sym c.remove.ensures) (All-filter (λ (row : Cached). not (is_in_set 0 c.as_slice-in-Vanished.result.now row.uid)) low c.args.self.now.before.items c.requires)
