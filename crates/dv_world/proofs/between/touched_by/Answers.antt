use Rattle.std.proofs.Common.{◌≡◌, ◌∙◌, ◌⊎◌, inl, inr, ℕ, ◌+◌, List, [], Some, ap, arith, length, refl, subst, sym}
use Rattle.std.specs.Prelude.{◌↔◌, Contains, slice_get}
use Rattle.std.proofs.lemmas.Option.{same_Some, slice_get_read, slice_get_within}
use Rattle.dv_model.specs.declared.types.Mailbox.{Mailbox}
use Rattle.dv_model.specs.Fresh.{IsTouched}
use Rattle.dv_model.specs.Journals.{at}
use Rattle.dv_validity.proofs.Logs.{entry_leads, some_at, valid_at}
use Rattle.dv_answer.specs.Following.{Leads}
use Rattle.dv_answer.proofs.Keeping.{records_lead, stay_leads}
use Rattle.dv_world.proofs.Entries.{either_so}
use Rattle.dv_world.proofs.between.touched_by.Goals as goal

pub loop-one-init : goal.loop-one-init
loop-one-init c = λ log from old new sound are was is.
    let here : from + 0 ≡ from = omega arith in
    let same : new ≡ old = same_Some new old (sym is ∙ ap (at log) here ∙ was) in
    subst (λ (t : List ℕ). Leads old new t) (sym c.empty-touched.ensures) (subst (λ (m : Mailbox). Leads old m []) (sym same) (stay_leads old (valid_at log sound from old was)))

pub loop-one-preserved : goal.loop-one-preserved
loop-one-preserved c = λ log from old new sound are was is.
    let i = c.loop-one.one-index in
    let one = c.one-item.result in
    let there : slice_get c.args.logged.now i ≡ Some one = slice_get_read c.args.logged.now (length c.args.logged.now) i one refl c.loop-one-test.true c.one-item.is in
    let entry = are i one there in
    let within = slice_get_within log.entries (from + i) one.entry entry.1 in
    let mid = some_at log sound (from + i) (omega (arith, within)) in
    let next : from + i + 1 ≡ from + (i + 1) = omega arith in
    let behind : at log (from + i + 1) ≡ Some new = ap (at log) next ∙ is in
    let applies = entry_leads log sound (from + i) mid.0 new one.entry mid.1 entry.1 behind in
    records_lead old mid.0 new one.entry.group.records c.loop-one.touched c.in_ok-touched.touched (valid_at log sound (from + i) mid.0 mid.1) (valid_at log sound (from + i + 1) new behind)
    (c.loop-one.invariant log from old mid.0 sound are was mid.1) applies
    (λ uid. either_so (Contains c.in_ok-touched.touched uid) (Contains c.loop-one.touched uid) (Contains one.touched uid) (IsTouched mid.0 new uid) (c.in_ok-touched.ensures.all uid) (entry.0.touched mid.0 new mid.1 behind uid))

pub returns : goal.returns
returns c = λ log from old new sound are was is.
    let last : from + c.loop-one.one-index ≡ from + length c.args.logged.now = omega (arith, c.loop-one-test.false, c.loop-one.auto.one-index-end) in
    c.loop-one.invariant log from old new sound are was (ap (at log) last ∙ is)
