use Rattle.std.proofs.Common.{◌≡◌, ◌∙◌, ◌++◌, ◌∷◌, [], ap, arith, drop, sym, take, true, false}
use Rattle.std.specs.Prelude.{nat_le, nat_lt}
use Rattle.std.proofs.lemmas.Bool.Decides.{nat_tests}
use Rattle.std.proofs.lemmas.List.{append_assoc, take-append-drop}
use Rattle.dv_view.proofs.Renewing.{renewed_by_none}
use Rattle.dv_view.proofs.following.put.Goals as goal

pub returns-else-s-next_uid-clause-items : goal.returns-else-s-next_uid-clause-items
returns-else-s-next_uid-clause-items c =
    let rows = c.args.rows.now.items in
    let count = c.args.count in
    let s = c.args.s in
    let low : nat_lt s.uid c.args.next_uid ≡ false = grind (arith, nat_tests, c.if-s-next_uid.false) in
    let high : nat_le c.args.next_uid s.uid ≡ true = grind (arith, nat_tests, c.if-s-next_uid.false) in
    rw (low, high) (
    c.push_reserved.ensures.items
    ∙ ap (λ rs. rs ++ s ∷ []) (sym (take-append-drop count rows))
    ∙ append_assoc (take count rows) (drop count rows) (s ∷ [])
    ∙ ap (λ rs. rs ++ (drop count rows ++ s ∷ [])) (sym (renewed_by_none (take count rows))))
