-- What is found in a folder is told.
use Rattle.dv_shelf.specs.Folders.{Folder}
use Rattle.dv_cli.specs.declared.ending.End.{End}
use Rattle.dv_cli.specs.declared.ending.End.TheVariants as end
use Rattle.dv_cli.specs.Causes.{EndsServing, TellsFaults}
use Rattle.dv_beginning.specs.Causes.{HasFault}

-- lines that are served were opened
pub served_told : (folder : Folder) (e : End) → EndsServing e → (HasFault folder → ⊥)
    → TellsFaults folder e
served_told folder (end.Answered mark groups loaded) ends none = none
served_told folder (end.Rebuilt kept skipped) ends none = absurd ends
served_told folder end.Usage ends none = tt
served_told folder (end.Unopened f) ends none = absurd ends
served_told folder end.NoMemory ends none = tt
served_told folder (end.Script s) ends none = absurd ends
served_told folder (end.Source faults) ends none = absurd ends
served_told folder end.Sink ends none = tt
