use Rattle.std.proofs.Common.{◌+◌, ◌∙◌, List, ℕ, ap, arith, get_or, length, subst, sym, take}
use Rattle.dv_rebuild.specs.Keywords.{AreUids, Notes}
use Rattle.dv_rebuild.proofs.Noted.{uids_noted, uids_passed, written_back}
use Rattle.dv_rebuild.proofs.keywords.uids_by_keyword.Goals as goal
use Rattle.dv_rebuild.proofs.keywords.uids_by_keyword.Goals.{in-Some+in_ok-note, in_default}

pub loop-uid-preserved : goal.loop-uid-preserved
loop-uid-preserved c =
    let m = c.args.live.now.mailbox in
    let kept = c.args.kept.now in
    let i = c.loop-uid.uid-index in
    let uid = get_or kept i 0 in
    let lists = c.loop-uid.lists.items in
    let less = c.loop-uid-test.true in
    let was = c.loop-uid.invariant in
    elim c.match-position.branch [
      | in-Some+in_ok-note w ↦
          (let notes = subst (λ (places : List ℕ). Notes uid places w.deref_mut.result.now w.note.new.lists) w.as_slice.ensures w.in_ok-note.ensures in
          let noted = subst (λ (old : List (List ℕ)). Notes uid w.row.result.now.keywords old w.note.new.lists) w.deref_mut.ensures.value notes in
          let are = uids_noted m kept i w.in-Some.at w.row.result.now lists w.note.new.lists less (sym c.position.ensures ∙ w.in-Some.is) w.row.ensures was noted in
          let back = written_back c.loop-uid.lists.len w.note.new.lists lists noted.many (omega (arith, w.deref_mut.ensures.len, ap length w.deref_mut.ensures.value)) in
          subst (λ v. AreUids m (take (i + 1) kept) v.items) (sym w.lists-is) (subst (AreUids m (take (i + 1) kept)) (sym back) are))
      | in_default w ↦ subst (λ v. AreUids m (take (i + 1) kept) v.items) (sym w.lists-is) (uids_passed m kept i lists less (sym c.position.ensures ∙ w.in_default.is) was)
    ]
