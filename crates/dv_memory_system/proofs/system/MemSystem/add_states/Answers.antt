use Rattle.std.proofs.Common.{inl}
use Rattle.dv_memory_system.proofs.system.MemSystem.add_states.Goals as goal

pub add_image-requires : goal.add_image-requires
add_image-requires c = inl c.requires.first.read

pub add_image-requires-2 : goal.add_image-requires-2
add_image-requires-2 c = inl c.requires.first.synced

pub add_image-requires-3 : goal.add_image-requires-3
add_image-requires-3 c = inl c.requires.first.torn

pub loop-file-init : goal.loop-file-init
loop-file-init c = λ are. c.in_ok-add_image-3.ensures (c.in_ok-add_image-2.ensures (c.in_ok-add_image.ensures are))

pub loop-file-preserved : goal.loop-file-preserved
loop-file-preserved c = λ are. c.in_ok-add_image-4.ensures (c.loop-file.invariant are)
