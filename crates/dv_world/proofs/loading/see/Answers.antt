use Rattle.std.proofs.Common.{◌≡◌, ◌∙◌, ◌+◌, List, Option, Some, ap, length, subst, sym}
use Rattle.std.specs.Prelude.{All, IsSomeAnd}
use Rattle.dv_model.specs.declared.types.Mailbox.{Mailbox}
use Rattle.dv_model.specs.declared.types.Record.{Record}
use Rattle.dv_model.specs.Effects.{applied}
use Rattle.dv_model.specs.Spelling.{IsRecord}
use Rattle.dv_validity.proofs.Logs.{some_at}
use Rattle.dv_answer.specs.Following.{IsAbreast}
use Rattle.dv_apply.specs.Preparing.{Makes}
use Rattle.dv_world.proofs.Entries.{goes, records_good, records_of, within}
use Rattle.dv_world.proofs.loading.see.Goals as goal

pub ready-requires : goal.ready-requires
ready-requires c =
    let logged = c.args.logged.now in
    let rs : c.deref.result.now ≡ records_of logged = c.deref.ensures.value ∙ c.in_ok-records.ensures in
    subst (All IsRecord) (sym rs) (records_good c.requires.0 c.requires.1 c.args.seat.now.seen logged c.requires.3)

pub returns-clause-live : goal.returns-clause-live
returns-clause-live c = λ log sound seat are.
    let logged = c.args.logged.now in
    let from = c.args.seat.now.seen in
    let m = c.args.seat.now.live.mailbox in
    let rs : c.deref.result.now ≡ records_of logged = c.deref.ensures.value ∙ c.in_ok-records.ensures in
    let last = some_at log sound (from + length logged) (within log sound from logged are seat.inside) in
    let goes_on = goes log sound from logged m last.0 are seat.live last.1 in
    let made = subst (λ (o : Option Mailbox). IsSomeAnd o (Makes c.ready.new.live c.in_ok-prepared.prepared)) (ap (applied m) rs ∙ goes_on) c.in_ok-prepared.ensures.ok in
    let behind : c.complete.new.self.mailbox ≡ last.0 = c.complete.ensures.is last.0 made in
    let abreast = c.in_ok-touch.ensures.abreast m last.0 seat.abreast (c.in_ok-touched.ensures log from m last.0 sound are seat.live last.1) in
    (last.1 ∙ ap Some (sym behind), subst (λ (x : Mailbox). IsAbreast x c.touch.new.self) (sym behind) abreast)
