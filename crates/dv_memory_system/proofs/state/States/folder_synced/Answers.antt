use Rattle.dv_memory_system.proofs.Shown.{folder_shown}
use Rattle.dv_memory_system.proofs.state.States.folder_synced.Goals as goal

pub returns : goal.returns
returns c = λ disk name bytes are. folder_shown c.args.is_done bytes name disk c.args.self c.folder_synced-here.result are (c.folder_synced-here.ensures (disk.named name) are.here)
