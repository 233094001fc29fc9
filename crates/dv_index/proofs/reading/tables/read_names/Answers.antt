use Rattle.std.proofs.Common.{◌^◌, ◌<◌, ℕ, List, length, arith, refl}
use Rattle.std.specs.List.{flat_map}
use Rattle.dv_formats.specs.Snapshots.{keyword_text}
use Rattle.dv_keywords.specs.Tables.{IsTableAt}
use Rattle.dv_index.proofs.Headers.{table_of}
use Rattle.dv_index.proofs.reading.tables.read_names.Goals as goal

pub returns-in-Err-Bad-clause-check : goal.returns-in-Err-Bad-clause-check
returns-in-Err-Bad-clause-check c =
    let small : c.args.count < 2 ^ 32 = omega arith in
    let none : (names : List (List ℕ)) (n : ℕ) → IsTableAt c.args.count names n c.args.b.now → ⊥ = rw c.in-Err-Bad.field-0-is at c.in-Err-Bad.ensures.bad in
    rw c.failed.ensures (refl, λ names rest are. none names (length (flat_map keyword_text names)) (table_of c.args.count names rest c.args.b.now small are))
