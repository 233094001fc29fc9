-- A payload has room for its items.
use Rattle.std.proofs.Common.{◌≡◌, ℕ, ◌+◌, ◌*◌, ◌≤◌, List, [], ◌∷◌, ◌++◌, length, take, drop, ap, arith}
use Rattle.std.specs.Prelude.{All, flat_map}
use Rattle.std.proofs.lemmas.List.{length-append, length-drop, length-take}
use Rattle.dv_model.specs.declared.types.Change.{Change}
use Rattle.dv_model.specs.declared.types.GuidRow.{GuidRow}
use Rattle.dv_model.specs.declared.types.How.{How}
use Rattle.dv_model.specs.declared.types.NewRow.{NewRow}
use Rattle.dv_model.specs.declared.types.Pair.{Pair}
use Rattle.dv_model.specs.declared.types.Record.{Record}
use Rattle.dv_model.specs.Spelling.{ArePairs, AreNewRows, AreChanges, AreGuidRows, InTurn, IsChange, IsGuidRow, IsKeywordUpdate, IsNewRow, IsPair, IsPayload, IsRecord, padded, payload_text, written}
use Rattle.dv_records.proofs.InTurn.{IsSized}
use Rattle.dv_records.proofs.Payloads.{sized_changes, sized_guid_rows, sized_new_rows, sized_pairs}

-- items of one size, one behind another
turn_length : {A : Type 0} (c : ℕ) (Is : A → List ℕ → Type 0) → IsSized (λ (x : A). c) Is → (xs : List A) (b : List ℕ) → InTurn (λ (x : A). c) Is xs b → length b ≡ length xs * c
turn_length c Is sizes [] b is = omega (arith, ap length is)
turn_length c Is sizes (x ∷ xs) b is =
    let front : length (take c b) ≡ c = sizes.sized x _ is.0 in
    let rest : length (drop c b) ≡ length xs * c = turn_length c Is sizes xs _ is.1 in
    omega (arith, length-take c b, length-drop c b)

pub pairs_fit : (pairs : List Pair) (b : List ℕ) → ArePairs pairs b → length pairs * 8 ≤ length b
pairs_fit pairs b is = omega (arith, turn_length 8 IsPair sized_pairs pairs b is)

pub new_rows_fit : (rows : List NewRow) (b : List ℕ) → AreNewRows rows b → length rows * 8 ≤ length b
new_rows_fit rows b is = omega (arith, turn_length 8 IsNewRow sized_new_rows rows b is)

pub changes_fit : (changes : List Change) (b : List ℕ) → AreChanges changes b → length changes * 12 ≤ length b
changes_fit changes b is = omega (arith, turn_length 12 IsChange sized_changes changes b is)

pub guid_rows_fit : (rows : List GuidRow) (b : List ℕ) → AreGuidRows rows b → length rows * 20 ≤ length b
guid_rows_fit rows b is = omega (arith, turn_length 20 IsGuidRow sized_guid_rows rows b is)

pub keyword_fits : (how : How) (name : List ℕ) (pairs : List Pair) (b : List ℕ) → IsKeywordUpdate how name pairs b → length pairs * 8 ≤ length b
keyword_fits how name pairs b is = omega (arith, pairs_fit pairs _ is.ranges, length-drop (padded (4 + length name)) b)
