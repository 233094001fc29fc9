use Rattle.std.proofs.Common.{◌≡◌, ◌%◌, ◌^◌, ◌∙◌, sym, false, arith}
use Rattle.std.proofs.lemmas.Result.{err_from_is_err_and}
use Rattle.dv_records.specs.Faults.{lacks_guard}
use Rattle.dv_records.proofs.Places.{IsHead, found, payload_fails}
use Rattle.dv_records.proofs.decoding.read_record.Goals as goal

pub returns-in_err-body-clause-fault : goal.returns-in_err-body-clause-fault
returns-in_err-body-clause-fault c =
    let p = err_from_is_err_and c.from_residual-in_err-body.result c.from_residual-in_err-body.ensures.1 in
    let s = c.in_ok-size.ensures in
    let head : IsHead c.args.bytes.now c.u32_at-kind.result c.in_ok-size.size = record { kind_is = c.u32_at-kind.ensures; not_closed = s.0; fine = s.1; size_is = s.2 } in
    let guarded : lacks_guard (c.u32_at-kind.result % 2 ^ 28) ≡ false = sym c.lacks_guard.ensures ∙ c.if-lacks_guard.false in
    rw (p.1, p.2) (payload_fails c.args.bytes.now c.u32_at-kind.result c.in_ok-size.size c.in_err-body.field-0.0 head guarded c.in_err-body.ensures)

pub returns-clause-found : goal.returns-clause-found
returns-clause-found c =
    let s = c.in_ok-size.ensures in
    let head : IsHead c.args.bytes.now c.u32_at-kind.result c.in_ok-size.size = record { kind_is = c.u32_at-kind.ensures; not_closed = s.0; fine = s.1; size_is = s.2 } in
    found c.args.bytes.now c.u32_at-kind.result c.in_ok-size.size c.in_ok-body.body (λ i. omega (arith, c.type_inv.bytes i)) head c.in_ok-body.ensures
