-- The front of a keyword update: what is done, and the name.
use Rattle.std.proofs.Common.{ℕ, ◌+◌, List, length, Err, refl}
use Rattle.dv_model.specs.declared.types.How.{How}
use Rattle.dv_model.specs.declared.types.Pair.{Pair}
use Rattle.dv_model.specs.Spelling.{IsKeywordUpdate, padded}
use Rattle.dv_records.specs.declared.fault.DecodeEnd.{DecodeEnd}
use Rattle.dv_records.specs.declared.fault.DecodeEnd.TheVariants.{Fault, NoMemory}
use Rattle.dv_records.specs.Faults.{IsBodyOf}
use Rattle.dv_records.specs.Fronts.{Reads, IsKeywordFront}
use Rattle.dv_records.proofs.Codes.{of_keyword_update}

pub front_of : (how : How) (name : List ℕ) (pairs : List Pair) (b : List ℕ)
    → IsKeywordUpdate how name pairs b → IsKeywordFront how name (padded (4 + length name)) b
front_of how name pairs b is = record { taken = refl; long = is.size; modify_type = is.modify_type; fields = is.fields; keyword = is.keyword }

pub front_fails : (b : List ℕ) (e : DecodeEnd)
    → Reads (λ (x : How × List ℕ × ℕ). IsKeywordFront x.0 x.1 x.2 b) (Err e)
    → Reads (IsBodyOf 0x400 b) (Err e)
front_fails b NoMemory fails = tt
front_fails b (Fault f) fails = (fails.0, λ body is. let k = of_keyword_update b body is in fails.1 (k.0, k.1, padded (4 + length k.1)) (front_of k.0 k.1 k.2 b k.4))
