use Rattle.std.proofs.Common.{◌∙◌, ◌+◌, List, ap, sym, take}
use Rattle.dv_interleavings.specs.Worlds.{World, happens}
use Rattle.dv_world.specs.declared.event.Event.{Event as Given}
use Rattle.dv_world.specs.Promising.{world_behind}
use Rattle.dv_world.specs.Shapes.{event_of, world_of}
use Rattle.dv_world.proofs.Promised.{alike, crash, heard, no_less, numbers, once, ordered, spoken, world_more}
use Rattle.dv_world.proofs.world.run_events.Goals as goal

pub loop-e-preserved : goal.loop-e-preserved
loop-e-preserved c =
    let items = c.as_slice-e-items.result.now in
    let i = c.loop-e.e-index in
    let e = c.e-item.result in
    record {
      is = c.in_ok-step.ensures.ok
          ∙ ap (λ (w : World). happens w (event_of e)) c.loop-e.invariant.is
          ∙ ap (λ (es : List Given). happens (world_behind (take i es)) (event_of e)) (sym c.as_slice-e-items.ensures)
          ∙ sym (world_more items i e c.loop-e-test.true c.e-item.is)
          ∙ ap (λ (es : List Given). world_behind (take (i + 1) es)) c.as_slice-e-items.ensures;
      stands = c.step.ensures.stands;
    }

pub returns-clause-spoken : goal.returns-clause-spoken
returns-clause-spoken c = spoken (world_of c.loop-e.world) c.loop-e.invariant.stands

pub returns-clause-ordered : goal.returns-clause-ordered
returns-clause-ordered c = ordered (world_of c.loop-e.world) c.loop-e.invariant.stands

pub returns-clause-no_less : goal.returns-clause-no_less
returns-clause-no_less c = no_less (world_of c.loop-e.world) c.loop-e.invariant.stands

pub returns-clause-once : goal.returns-clause-once
returns-clause-once c = once (world_of c.loop-e.world) c.loop-e.invariant.stands

pub returns-clause-alike : goal.returns-clause-alike
returns-clause-alike c = alike (world_of c.loop-e.world) c.loop-e.invariant.stands

pub returns-clause-heard : goal.returns-clause-heard
returns-clause-heard c = heard (world_of c.loop-e.world) c.loop-e.invariant.stands

pub returns-clause-numbers : goal.returns-clause-numbers
returns-clause-numbers c = numbers (world_of c.loop-e.world) c.loop-e.invariant.stands

pub returns-clause-crash : goal.returns-clause-crash
returns-clause-crash c = crash (world_of c.loop-e.world) c.loop-e.invariant.stands
