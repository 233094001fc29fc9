use Rattle.std.proofs.Common.{◌∙◌, ◌+◌, Bool, take, arith, subst, sym}
use Rattle.std.specs.Prelude.{MatchBool}
use Rattle.dv_maps.specs.Purges.{all_mapped}
use Rattle.dv_mdbox.specs.Gathering.{AreOrphans}
use Rattle.dv_mdbox.specs.Purging.{IsNamed}
use Rattle.dv_mdbox.proofs.Orphaned.{all_names, named_step, orphan_step, other_step}
use Rattle.dv_mdbox.proofs.gathering.unnamed.Goals as goal
use Rattle.dv_mdbox.proofs.gathering.unnamed.Goals.{in-Some+then-not-is_named+in_ok-push, in-Some+else-not-is_named, in_default}

pub loop-name-preserved : goal.loop-name-preserved
loop-name-preserved c = λ m table_is.
    let names = c.args.names.now in
    let i = c.loop-name.name-index in
    let files = c.loop-name.files.items in
    let less = c.loop-name-test.true in
    let was = c.loop-name.invariant m table_is in
    elim c.match-number_of.branch [
      | in-Some+then-not-is_named+in_ok-push w ↦
          let file = w.in-Some.file in
          let away : IsNamed m file → ⊥ = subst (λ (b : Bool). MatchBool b (IsNamed m file) (IsNamed m file → ⊥)) w.if-not-is_named.true (w.is_named.ensures (all_mapped m) table_is) in
          rw w.files-is (subst (AreOrphans m (take (i + 1) names)) (sym w.in_ok-push.ensures.items) (orphan_step m names i _ files less was file (sym w.in-Some.is ∙ c.number_of.ensures) away))
      | in-Some+else-not-is_named w ↦
          let file = w.in-Some.file in
          let named : IsNamed m file = subst (λ (b : Bool). MatchBool b (IsNamed m file) (IsNamed m file → ⊥)) w.if-not-is_named.false (w.is_named.ensures (all_mapped m) table_is) in
          rw w.files-is (named_step m names i _ files less was file (sym w.in-Some.is ∙ c.number_of.ensures) named)
      | in_default w ↦ rw w.files-is (other_step m names i _ files less was (sym w.in_default.is ∙ c.number_of.ensures))
    ]

pub returns : goal.returns
returns c = λ m table_is. all_names m c.args.names.now c.loop-name.name-index c.loop-name.files.items (omega (arith, c.loop-name-test.false)) (c.loop-name.invariant m table_is)
