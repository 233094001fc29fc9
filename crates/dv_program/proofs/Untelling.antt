-- Where nothing is told, standard error takes nothing.
use Rattle.std.proofs.Common.{◌≡◌, inl, ℕ, List, append-nil, refl, sym}
use Rattle.std.specs.Prelude.{Option}
use Rattle.dv_shelf.specs.Sees.{SeesOutput}
use Rattle.dv_notices.specs.declared.telling.Told.{Told}
use Rattle.dv_notices.specs.declared.telling.Told.TheVariants as telling
use Rattle.dv_program.specs.Obeying.{SaysOf, TellsErrors}
use Rattle.dv_cli.specs.declared.words.Task.{Task}

pub says_nothing : (told : Told) (status : ℕ) (taken : List ℕ) (count : ℕ) → (status ≡ 1 → ⊥) → SaysOf told status taken taken count count
says_nothing told status taken count other = record {
  usage = λ one. absurd (other one);
  said = telling.Nothing;
  of = Rattle.std.proofs.Common.inr refl;
  text = λ not. inl (sym (append-nil taken));
}

pub tells_nothing : {E : Type 0} (sees : SeesOutput E) (t : Option Task) (status : ℕ) (errors : E) → (status ≡ 1 → ⊥) → TellsErrors sees t status errors errors
tells_nothing sees t status errors other = record {
  told = telling.Nothing;
  by = tt;
  says = λ tells. says_nothing telling.Nothing status (sees.taken errors) (sees.fault_count errors) other;
  quiet = λ not none. refl;
}
