-- What has a spelling in bytes is in range.
use Rattle.std.proofs.Common.{ℕ, ◌-◌, ◌^◌, ◌<◌, List, [], ◌∷◌, drop}
use Rattle.std.specs.Prelude.{All}
use Rattle.std.proofs.lemmas.List.Elements.{All-cons, All-nil, All-weaker}
use Rattle.dv_model.specs.declared.types.Body.{Body}
use Rattle.dv_model.specs.declared.types.Body.TheVariants.{Append, HeaderUpdate, KeywordUpdate}
use Rattle.dv_model.specs.declared.types.NewRow.{NewRow}
use Rattle.dv_model.specs.declared.types.Part.{Part}
use Rattle.dv_model.specs.declared.types.Record.{Record}
use Rattle.dv_model.specs.Spelling.{AreNewRows, IsPayload, IsRecord, written}
use Rattle.dv_validity.proofs.Headers.{IsPartInRange, header_number_below}
use Rattle.dv_validity.specs.Laws.{HasBytes, IsInRange}

rows_in_range : (rows : List NewRow) (b : List ℕ) → AreNewRows rows b → All (λ row. row.uid < 2 ^ 32 - 1) rows
rows_in_range [] b are = All-nil (λ (row : NewRow). row.uid < 2 ^ 32 - 1)
rows_in_range (row ∷ rows) b are = All-cons (λ (row : NewRow). row.uid < 2 ^ 32 - 1) row rows are.0.uid.1 (rows_in_range rows (drop 8 b) are.1)

body_in_range : (body : Body) (b : List ℕ) → IsPayload body b → HasBytes body → IsInRange body
body_in_range (Append rows) b is bytes = rows_in_range rows b is
body_in_range (HeaderUpdate parts) b is bytes =
    All-weaker (λ (part : Part). All (λ x. x < 256) part.bytes) IsPartInRange (λ part each. header_number_below part 28 each) parts bytes
body_in_range (KeywordUpdate how name pairs) b is bytes = is.keyword
body_in_range body b is bytes = tt

pub record_in_range : (r : Record) → IsRecord r → HasBytes r.body → IsInRange r.body
record_in_range r is bytes = body_in_range r.body (drop 8 (written r)) is.spells.payload bytes
