use Rattle.dv_streams.proofs.Parts.{next_leaves}
use Rattle.dv_streams.proofs.mem_calls.Events.next_event.Goals as goal

pub returns : goal.returns
returns c = next_leaves c.args.self.now.listed c.args.self.now.next c.get-event.result.now c.get-event.ensures
