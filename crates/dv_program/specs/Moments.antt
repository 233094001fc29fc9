-- What a run is given, before it and behind it.
use Rattle.dv_shelf.specs.Sees.{SeesFolder, SeesOutput, SeesScript, SeesTime}
use Rattle.dv_cli.specs.Causes.{Counts, counts_of}

-- what the objects of a run show
pub record Outside (S I O C : Type 0) : Type 1 where
  pub folder : SeesFolder S
  pub script : SeesScript I
  pub output : SeesOutput O
  pub clock : SeesTime C

-- the objects at one time
pub record Moment (S I O C : Type 0) : Type 0 where
  pub shelf : S
  pub script : I
  pub out : O
  pub clock : C

module _ {S I O C : Type 0} where
  abbrev pub outside_of : SeesFolder S → SeesScript I → SeesOutput O → SeesTime C → Outside S I O C
  outside_of folder script output clock =
      record { folder = folder; script = script; output = output; clock = clock }

  abbrev pub moment_of : S → I → O → C → Moment S I O C
  moment_of shelf script out clock =
      record { shelf = shelf; script = script; out = out; clock = clock }

  -- how often each has failed
  abbrev pub counts_at : Outside S I O C → Moment S I O C → Counts
  counts_at sees m =
      counts_of (sees.folder.fault_count m.shelf) (sees.script.fault_count m.script)
      (sees.output.fault_count m.out)
