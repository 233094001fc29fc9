use Rattle.std.proofs.Common.{◌≡◌, ◌-◌, ◌/◌, ◌%◌, ◌^◌, ◌∙◌, false, drop, take, refl, sym, arith}
use Rattle.dv_model.specs.declared.types.Record.{Record}
use Rattle.dv_records.specs.declared.fault.DecodeEnd.TheVariants.{Fault}
use Rattle.dv_records.specs.declared.fault.RecordFault.TheVariants.{BadPayload}
use Rattle.dv_records.specs.Faults.{IsBodyOf, lacks_guard}
use Rattle.dv_records.proofs.Checked.{not_told, told}
use Rattle.dv_records.proofs.Places.{IsHead, found, payload_fails}
use Rattle.dv_records.proofs.Written.{is_record}
use Rattle.dv_records.proofs.checking.check_record.Goals as goal

pub returns-then-not-is_body-clause-fault : goal.returns-then-not-is_body-clause-fault
returns-then-not-is_body-clause-fault c =
    let s = c.in_ok-size.ensures in
    let head : IsHead c.args.bytes.now c.u32_at-code.result c.in_ok-size.size = record { kind_is = c.u32_at-code.ensures; not_closed = s.0; fine = s.1; size_is = s.2 } in
    let guarded : lacks_guard (c.u32_at-code.result % 2 ^ 28) ≡ false = sym c.lacks_guard.ensures ∙ c.if-lacks_guard.false in
    payload_fails c.args.bytes.now c.u32_at-code.result c.in_ok-size.size (Fault BadPayload) head guarded (refl, not_told _ c.is_body.result c.is_body.ensures c.if-not-is_body.true)

pub returns-clause-found : goal.returns-clause-found
returns-clause-found c =
    let s = c.in_ok-size.ensures in
    let kind = c.u32_at-code.result in
    let size = c.in_ok-size.size in
    let head : IsHead c.args.bytes.now kind size = record { kind_is = c.u32_at-code.ensures; not_closed = s.0; fine = s.1; size_is = s.2 } in
    let body = told (IsBodyOf (kind % 2 ^ 28) (take (size - 8) (drop 8 c.args.bytes.now))) c.is_body.result c.is_body.ensures c.if-not-is_body.false in
    let there = found c.args.bytes.now kind size body.0 (λ i. omega (arith, c.type_inv.bytes i)) head body.1 in
    let r : Record = record { top = kind / 2 ^ 28; body = body.0 } in
    (r, there, is_record r (take size c.args.bytes.now) there.1)
