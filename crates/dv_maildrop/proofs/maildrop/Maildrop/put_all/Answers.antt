use Rattle.std.proofs.Common.{◌≡◌, ℕ, [], ◌++◌, Bool, not, List, ◌∙◌, ap, append_assoc}
use Rattle.std.proofs.lemmas.Result.{IfOk-weaker}
use Rattle.dv_maildrop.specs.declared.types.Listed.{Listed}
use Rattle.dv_maildrop.specs.Answers.{last_line, ok, rows_text}
use Rattle.dv_maildrop.specs.Counts.{chosen}
use Rattle.dv_maildrop.specs.Maildrops.{Transaction, unmarked}
use Rattle.dv_maildrop.proofs.Kept.{unmarked_are}
use Rattle.dv_maildrop.proofs.maildrop.Maildrop.put_all.Goals as goal

three_parts : (old one two three head rows tail : List ℕ) → one ≡ old ++ head → two ≡ one ++ rows → three ≡ two ++ tail → three ≡ old ++ (head ++ rows ++ tail)
three_parts old one two three head rows tail e f g =
    g ∙ ap (λ (t : List ℕ). t ++ tail) (f ∙ ap (λ (t : List ℕ). t ++ rows) e ∙ append_assoc old head rows) ∙ append_assoc old (head ++ rows) tail

pub returns-clause-ok : goal.returns-clause-ok
returns-clause-ok c =
    let m : Transaction = record { uid_validity = c.self.inside.uid_validity; rows = c.self.inside.rows; marked = c.self.inside.marked.items; ended = c.self.inside.ended } in
    let rows : List Listed = c.as_slice.result.now in
    let flags : List Bool = c.self.inside.flags.items in
    let is : chosen not 1 rows c.deref.result.now ≡ unmarked c.args.self.now =
    ap (λ (fs : List Bool). chosen not 1 rows fs) c.deref.ensures.value
    ∙ ap (λ (rs : List Listed). chosen not 1 rs flags) c.as_slice.ensures
    ∙ unmarked_are m flags c.self.inside.count c.self.inside.octets c.self.inside.whole c.self.invariant
    ∙ ap unmarked c.self.view_is in
    let listed = c.in_ok-put_rows.ensures.ok ∙ ap (λ (rs : List (ℕ × Listed)). c.put_ok.new.text ++ rows_text c.args.listing rs) is in
    IfOk-weaker c.put_last_line.result _ _
    (λ done last. three_parts c.args.text.now c.put_ok.new.text c.put_rows.new.text _ (ok []) (rows_text c.args.listing (unmarked c.args.self.now)) last_line c.in_ok-put_ok.ensures.ok listed last)
    c.put_last_line.ensures.ok
