use Rattle.std.proofs.Common.{◌≢◌, ◌^◌, ◌<◌, List, ℕ, Option, Some, None, Ok, Err, inl, inr, sym, ap, subst}
use Rattle.std.specs.Prelude.{All, IfSome}
use Rattle.std.proofs.lemmas.Result.{err_from_is_err_and}
use Rattle.dv_model.specs.Journals.{Damaged}
use Rattle.dv_shelf.specs.declared.shelf.Name.TheVariants as name
use Rattle.dv_shelf.specs.Folders.{Folder}
use Rattle.dv_logfile.proofs.Settling.{looked_settled, settled_then}
use Rattle.dv_chain.specs.declared.chain.Chain.{Chain}
use Rattle.dv_chain.specs.Rest.{Nothing}
use Rattle.dv_maps.specs.declared.mapped.Mapped.{Mapped}
use Rattle.dv_maps.specs.Purges.{StandsIn, size_of}
use Rattle.dv_maps.specs.Texts.{text_in}
use Rattle.dv_mdbox.specs.Answers.{IsFailure}
use Rattle.dv_mdbox.specs.Gathering.{AreRowsOf, Gathers}
use Rattle.dv_mdbox.specs.Purging.{FitsKnown, IsTakenAway, TakesSome}
use Rattle.dv_mdbox.proofs.Finished.{on_ok}
use Rattle.dv_mdbox.proofs.Gathered.{IsInside, all_inside}
use Rattle.dv_mdbox.proofs.Moved.{fit_of, fits_known, passed_over, passes_known, stand_there}
use Rattle.dv_mdbox.proofs.Stepping as stepping
use Rattle.dv_mdbox.proofs.Thinning.{quiet_looked, quiet_then, takes_none}
use Rattle.dv_mdbox.proofs.storage.Storage.move_texts.Goals as goal

pub put_texts-requires-clause-rows : goal.put_texts-requires-clause-rows
put_texts-requires-clause-rows g c = subst (λ (k : Chain). AreRowsOf k.live.mailbox c.args.file c.args.rows) (sym c.in_ok-found.ensures.stays.chain) c.requires.rows

pub put_texts-requires-clause-short : goal.put_texts-requires-clause-short
put_texts-requires-clause-short g c = subst (λ (o : Option (List ℕ)). IfSome o (λ texts. size_of c.args.rows.kept.items < 2 ^ 32)) c.in-Some.is c.in_ok-found.ensures.short

-- ---- the file wasn't read

pub returns-in_err-found-clause-value : goal.returns-in_err-found-clause-value
returns-in_err-found-clause-value g c = λ from known next knows.
    let old = c.args.self.now in
    let new = c.file_texts.new.self in
    let p = err_from_is_err_and c.from_residual.result c.from_residual.ensures.1 in
    rw p.1 (stepping.takes_failed known from c.args.file old new (stepping.none_looked known from old new c.in_err-found.ensures.stays) p.0 (subst IsFailure (sym p.2) c.in_err-found.ensures.err))

pub returns-in_err-found-clause-gives : goal.returns-in_err-found-clause-gives
returns-in_err-found-clause-gives g c = λ tells messages rest.
    let stays = c.in_err-found.ensures.stays in
    let p = err_from_is_err_and c.from_residual.result c.from_residual.ensures.1 in
    rw p.1 (quiet_looked g.S.Shelf.sees messages c.thinnings_are.ensures c.args.self.now c.file_texts.new.self (c.in_err-found.ensures.looks tells) stays.chain stays.owed rest (Err p.0), tt)

pub returns-in_err-found-clause-settled : goal.returns-in_err-found-clause-settled
returns-in_err-found-clause-settled g c = λ tells.
    let looks = c.in_err-found.ensures.looks tells in
    looked_settled g.S.Shelf.sees c.args.self.now.shelf c.file_texts.new.self.shelf looks.same looks.crash

pub returns-in_err-found-clause-clock : goal.returns-in_err-found-clause-clock
returns-in_err-found-clause-clock g c = λ tells. subst (λ clock. TakesSome (g.C.Clock.sees.upcoming c.args.self.now.clock) (g.C.Clock.sees.upcoming clock)) (sym c.in_err-found.ensures.stays.clock) (takes_none (g.C.Clock.sees.upcoming c.args.self.now.clock))

-- ---- it is passed over

pub returns-in-None-clause-value : goal.returns-in-None-clause-value
returns-in-None-clause-value g c = λ from known next knows.
    let S = g.S.Shelf in
    let old = c.args.self.now in
    let Found = λ (o : Option (List ℕ)). S.sees.tells → Gathers (S.sees.files old.shelf (name.Mail c.args.file)) c.args.rows.kept.items o in
    let over = passes_known S.sees old c.args.file c.args.rows.kept.items c.requires.rows.kept known (subst Found c.in-None.is c.in_ok-found.ensures.found) knows in
    stepping.passed_over known from c.args.file old c.file_texts.new.self next over c.in_ok-found.ensures.stays

pub returns-in-None-clause-gives : goal.returns-in-None-clause-gives
returns-in-None-clause-gives g c = λ tells messages rest.
    let S = g.S.Shelf in
    let old = c.args.self.now in
    let m = old.chain.live.mailbox in
    let file = c.args.file in
    let stays = c.in_ok-found.ensures.stays in
    let looks = c.in_ok-found.ensures.looks tells in
    let found = subst (λ (o : Option (List ℕ)). Gathers (S.sees.files old.shelf (name.Mail file)) c.args.rows.kept.items o) c.in-None.is (c.in_ok-found.ensures.found tells) in
    let here = subst (λ (rs : List Mapped). Gathers (S.sees.files old.shelf (name.Mail file)) rs None) c.requires.rows.kept found in (
      quiet_looked S.sees messages c.thinnings_are.ensures old c.file_texts.new.self looks stays.chain stays.owed rest (Ok tt),
      inl (passed_over m (S.sees.files old.shelf) file here, λ i. (stays.chain i).live.mailbox, looks.same),
    )

pub returns-in-None-clause-settled : goal.returns-in-None-clause-settled
returns-in-None-clause-settled g c = λ tells.
    let looks = c.in_ok-found.ensures.looks tells in
    looked_settled g.S.Shelf.sees c.args.self.now.shelf c.file_texts.new.self.shelf looks.same looks.crash

pub returns-in-None-clause-clock : goal.returns-in-None-clause-clock
returns-in-None-clause-clock g c = λ tells. subst (λ clock. TakesSome (g.C.Clock.sees.upcoming c.args.self.now.clock) (g.C.Clock.sees.upcoming clock)) (sym c.in_ok-found.ensures.stays.clock) (takes_none (g.C.Clock.sees.upcoming c.args.self.now.clock))

-- ---- it is rewritten

pub returns-in-Some-clause-value : goal.returns-in-Some-clause-value
returns-in-Some-clause-value g c = λ from known next knows.
    let S = g.S.Shelf in
    let old = c.args.self.now in
    let mid = c.file_texts.new.self in
    let file = c.args.file in
    let rows = c.args.rows.kept.items in
    let stays = c.in_ok-found.ensures.stays in
    let Found = λ (o : Option (List ℕ)). S.sees.tells → Gathers (S.sees.files old.shelf (name.Mail file)) rows o in
    let short = subst (λ (o : Option (List ℕ)). IfSome o (λ texts. size_of rows < 2 ^ 32)) c.in-Some.is c.in_ok-found.ensures.short in
    let fits = fits_known S.sees old file rows c.requires.rows.kept known c.in-Some.texts short (subst Found c.in-Some.is c.in_ok-found.ensures.found) knows in
    stepping.takes_looked known from file old mid c.put_texts.new.self stays c.put_texts.result
    (c.put_texts.ensures.value from known (stepping.next_looked old mid stays from file next) (subst (λ (k : Chain). FitsKnown known k.live.mailbox file) (sym stays.chain) fits))

pub returns-in-Some-clause-gives : goal.returns-in-Some-clause-gives
returns-in-Some-clause-gives g c = λ tells messages rest.
    let S = g.S.Shelf in
    let old = c.args.self.now in
    let mid = c.file_texts.new.self in
    let new = c.put_texts.new.self in
    let m = old.chain.live.mailbox in
    let file = c.args.file in
    let laws = c.thinnings_are.ensures in
    let stays = c.in_ok-found.ensures.stays in
    let looks = c.in_ok-found.ensures.looks tells in
    let kept = c.requires.rows.kept in
    let found = subst (λ (o : Option (List ℕ)). Gathers (S.sees.files old.shelf (name.Mail file)) c.args.rows.kept.items o) c.in-Some.is (c.in_ok-found.ensures.found tells) in
    let one = quiet_looked S.sees messages laws old mid looks stays.chain stays.owed rest {T = Unit {0}} {E = Unit {0}} (Ok tt) in
    let here = subst (λ (rs : List Mapped). Gathers (S.sees.files old.shelf (name.Mail file)) rs (Some c.in-Some.texts)) kept found in
    let whole = subst (λ (o : Option (List ℕ)). All (λ (r : Mapped). text_in o r.place ≢ Damaged) c.args.rows.kept.items) found.1 found.3 in
    let inside = subst (All (IsInside found.0)) kept (all_inside found.0 c.args.rows.kept.items whole) in
    let keeps = rest.stands.keeps (S.sees.files old.shelf) (g.met.S.Shelf.leaves_files old.shelf tells) in
    let stands = subst (All (StandsIn messages found.0)) (sym kept) (stand_there messages m (S.sees.files old.shelf) file found.0 found.1 keeps inside) in
    let two = c.put_texts.ensures.gives tells messages found.0 one.ok found.2 stands in (
      quiet_then S.sees messages laws Nothing old mid new tt one (ap (λ (k : Chain). k.indexid) stays.chain) c.put_texts.result two.0,
      on_ok c.put_texts.result
          (λ away.
          inr (
            fit_of m (S.sees.files old.shelf) file c.in-Some.texts here,
            subst (λ (k : Chain). IsTakenAway file (S.sees.files old.shelf) (S.sees.files new.shelf) k.live.mailbox new.chain.live.mailbox) stays.chain
                (subst (λ (f : Folder). IsTakenAway file f (S.sees.files new.shelf) mid.chain.live.mailbox new.chain.live.mailbox) looks.same away),
          )) two.1,
    )

pub returns-in-Some-clause-settled : goal.returns-in-Some-clause-settled
returns-in-Some-clause-settled g c = λ tells.
    let S = g.S.Shelf in
    let looks = c.in_ok-found.ensures.looks tells in
    settled_then S.sees c.args.self.now.shelf c.file_texts.new.self.shelf c.put_texts.new.self.shelf c.in_ok-found.ensures.cause.later c.put_texts.ensures.cause.later
    (looked_settled S.sees c.args.self.now.shelf c.file_texts.new.self.shelf looks.same looks.crash) (c.put_texts.ensures.settled tells)

pub returns-in-Some-clause-clock : goal.returns-in-Some-clause-clock
returns-in-Some-clause-clock g c = λ tells. subst (λ clock. TakesSome (g.C.Clock.sees.upcoming clock) (g.C.Clock.sees.upcoming c.put_texts.new.self.clock)) c.in_ok-found.ensures.stays.clock (c.put_texts.ensures.clock tells)
