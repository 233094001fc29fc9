use Rattle.std.proofs.Common.{arith, subst}
use Rattle.dv_model.specs.declared.types.Body.{Body}
use Rattle.dv_model.specs.Spelling.{IsPayload}
use Rattle.dv_records.proofs.Rooms.{changes_fit, guid_rows_fit, keyword_fits, new_rows_fit, pairs_fit}
use Rattle.dv_records.proofs.encoding.payload_room.Goals as goal

pub returns-in-Expunge : goal.returns-in-Expunge
returns-in-Expunge c = λ b is.
    let fit = pairs_fit c.in-Expunge.pairs b (subst (λ (body : Body). IsPayload body b) c.in-Expunge.is is) in
    omega (arith, fit, c.len.ensures, c.saturating_mul.ensures)

pub returns-in-Append : goal.returns-in-Append
returns-in-Append c = λ b is.
    let fit = new_rows_fit c.in-Append.rows b (subst (λ (body : Body). IsPayload body b) c.in-Append.is is) in
    omega (arith, fit, c.len-in-Append.ensures, c.saturating_mul-in-Append.ensures)

pub returns-in-FlagUpdate : goal.returns-in-FlagUpdate
returns-in-FlagUpdate c = λ b is.
    let fit = changes_fit c.in-FlagUpdate.changes b (subst (λ (body : Body). IsPayload body b) c.in-FlagUpdate.is is) in
    omega (arith, fit, c.len-in-FlagUpdate.ensures, c.saturating_mul-in-FlagUpdate.ensures)

pub returns-in-KeywordUpdate : goal.returns-in-KeywordUpdate
returns-in-KeywordUpdate c = λ b is.
    let fit = keyword_fits c.in-KeywordUpdate.how c.in-KeywordUpdate.name c.in-KeywordUpdate.pairs b (subst (λ (body : Body). IsPayload body b) c.in-KeywordUpdate.is is) in
    omega (arith, fit, c.len-in-KeywordUpdate.ensures, c.saturating_mul-in-KeywordUpdate.ensures)

pub returns-in-KeywordReset : goal.returns-in-KeywordReset
returns-in-KeywordReset c = λ b is.
    let fit = pairs_fit c.in-KeywordReset.pairs b (subst (λ (body : Body). IsPayload body b) c.in-KeywordReset.is is) in
    omega (arith, fit, c.len-in-KeywordReset.ensures, c.saturating_mul-in-KeywordReset.ensures)

pub returns-in-ExpungeGuid : goal.returns-in-ExpungeGuid
returns-in-ExpungeGuid c = λ b is.
    let fit = guid_rows_fit c.in-ExpungeGuid.rows b (subst (λ (body : Body). IsPayload body b) c.in-ExpungeGuid.is is) in
    omega (arith, fit, c.len-in-ExpungeGuid.ensures, c.saturating_mul-in-ExpungeGuid.ensures)
