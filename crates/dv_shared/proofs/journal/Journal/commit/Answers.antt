use Rattle.std.proofs.Common.{◌∙◌, ◌/◌, ◌-◌, ◌^◌, ℕ, List, Ok, ap, arith, length, refl, subst, sym}
use Rattle.std.specs.Prelude.{min}
use Rattle.std.proofs.lemmas.Result.{err_from_is_err_and}
use Rattle.dv_front.specs.declared.notes.Note.{Note}
use Rattle.dv_generations.specs.Feeds.{Feed, Fits, journal}
use Rattle.dv_groups.specs.Groups.{HasSizes}
use Rattle.dv_notes.specs.Logs.{AreNotesOf}
use Rattle.dv_store.specs.States.{State}
use Rattle.dv_tries.specs.Commits.{notes_behind}
use Rattle.dv_shared.specs.Committing.{KeepsWords}
use Rattle.dv_shared.specs.Journals.{kept_of}
use Rattle.dv_shared.proofs.Committed.{early_owes, early_since, good_ok, holds_err, holds_ok, looks_ok, noted_now, outcome_err, outcome_ok, owes_err, owes_ok, same_notes, since_err, since_ok, tried_now, value_ok}
use Rattle.dv_shared.proofs.Numbers.{min_low}
use Rattle.dv_shared.proofs.journal.Journal.commit.Goals as goal

pub returns-then-self-clause-since : goal.returns-then-self-clause-since
returns-then-self-clause-since g c h =
    let k = g.K.Keeping in
    let old = kept_of c.args.self.now in
    early_since g.S.Shelf.sees g.C.Clock.sees.tells k.start k.moment k.past k.honest old c.requires.holds c.args.author c.args.c.now c.args.view.now c.requires.may.0 (g.C.Clock.sees.upcoming old.store.clock)
    (λ d left. g.met.S.Shelf.only_now old.store.shelf d (c.requires.holds.folder h).told left) (journal old.feed) h

pub returns-in_err-next-clause-since : goal.returns-in_err-next-clause-since
returns-in_err-next-clause-since g c h =
    let k = g.K.Keeping in
    let old = kept_of c.args.self.now in
    early_since g.S.Shelf.sees g.C.Clock.sees.tells k.start k.moment k.past k.honest old c.requires.holds c.args.author c.args.c.now c.args.view.now c.requires.may.0 (g.C.Clock.sees.upcoming old.store.clock)
    (λ d left. g.met.S.Shelf.only_now old.store.shelf d (c.requires.holds.folder h).told left) (journal c.make_room.new.feed) h

pub returns-then-self-clause-owes : goal.returns-then-self-clause-owes
returns-then-self-clause-owes g c h =
    let k = g.K.Keeping in
    let old = kept_of c.args.self.now in
    early_owes g.S.Shelf.sees g.C.Clock.sees.tells k.start k.moment k.past k.honest old c.requires.holds c.args.author c.args.c.now c.args.view.now c.requires.may.0 (g.C.Clock.sees.upcoming old.store.clock)
    old.feed (record { parts = refl; left = refl; words = refl })

pub returns-in_err-next-clause-owes : goal.returns-in_err-next-clause-owes
returns-in_err-next-clause-owes g c h =
    let k = g.K.Keeping in
    let old = kept_of c.args.self.now in
    let p = err_from_is_err_and c.from_residual.result c.from_residual.ensures.1 in
    rw (p.1, p.2)
    (early_owes g.S.Shelf.sees g.C.Clock.sees.tells k.start k.moment k.past k.honest old c.requires.holds c.args.author c.args.c.now c.args.view.now c.requires.may.0 (g.C.Clock.sees.upcoming old.store.clock)
    c.make_room.new.feed c.make_room.ensures.words)

pub note_receipt-requires-clause-good : goal.note_receipt-requires-clause-good
note_receipt-requires-clause-good g c =
    let k = g.K.Keeping in
    let old = kept_of c.args.self.now in
    let e = c.in-Ok.ensures in
    let good =
    good_ok g.S.Shelf.sees g.C.Clock.sees.tells k.start k.moment k.past k.honest old c.requires.holds c.args.author c.args.c.now c.args.view.now c.requires.may.0 (g.C.Clock.sees.upcoming old.store.clock)
    c.commit_command.new.self c.in-Ok.receipt e.value (λ tells. record { value = e.value; gives = e.gives tells; looks = e.looks tells }) c.bounds.ensures.place in
    subst (λ (ns : List Note). AreNotesOf k.start (notes_behind k.start ns c.args.author c.args.c.now c.of-before.result.value (Ok c.in-Ok.receipt))) (sym (same_notes old.feed c.make_room.new.feed c.in_ok-next.ensures.words))
    (subst (λ (s : State g.row.S.Denot g.row.C.Denot). AreNotesOf k.start (notes_behind k.start (journal old.feed) c.args.author c.args.c.now s (Ok c.in-Ok.receipt))) (sym c.of-before.ensures) good)

pub note_receipt-requires-clause-fits : goal.note_receipt-requires-clause-fits
note_receipt-requires-clause-fits g c =
    let receipt = c.in-Ok.receipt in
    let ok = c.in-Ok.ensures.value.ok in
    let sizes : HasSizes ok.guid = λ uid. (ok.guids uid).size in
    let long = ok.size ok.guid sizes in
    subst (λ (n : ℕ). Fits (n / 4) c.make_room.new.feed c.in_ok-next.next)
    (ap (λ (n : ℕ). min n (2 ^ 64 - 1)) (sym long) ∙ min_low (length receipt.text) (2 ^ 64 - 1) (omega (arith, c.bounds.ensures.text)))
    (c.in_ok-next.ensures.fits ok.guid sizes)

pub returns-in-Ok-clause-holds : goal.returns-in-Ok-clause-holds
returns-in-Ok-clause-holds g c =
    let k = g.K.Keeping in
    let old = kept_of c.args.self.now in
    let e = c.in-Ok.ensures in
    let noted = noted_now old c.args.author c.args.c.now c.of-before.result.value c.of-before.ensures k.start c.make_room.new.feed c.note_receipt.new.feed c.in-Ok.receipt c.in_ok-next.ensures.words c.note_receipt.ensures.notes in
    holds_ok g.S.Shelf.sees g.C.Clock.sees.tells k.start k.moment k.past k.honest old c.requires.holds c.args.author c.args.c.now c.args.view.now c.requires.may.0 (g.C.Clock.sees.upcoming old.store.clock)
    c.commit_command.new.self c.in-Ok.receipt e.value (λ tells. record { value = e.value; gives = e.gives tells; looks = e.looks tells }) c.bounds.ensures.place c.note_receipt.new.feed c.note_receipt.new.count noted c.note_receipt.ensures.count

pub returns-in-Ok-clause-value : goal.returns-in-Ok-clause-value
returns-in-Ok-clause-value g c =
    let k = g.K.Keeping in
    let old = kept_of c.args.self.now in
    let e = c.in-Ok.ensures in
    let noted = noted_now old c.args.author c.args.c.now c.of-before.result.value c.of-before.ensures k.start c.make_room.new.feed c.note_receipt.new.feed c.in-Ok.receipt c.in_ok-next.ensures.words c.note_receipt.ensures.notes in
    value_ok g.S.Shelf.sees g.C.Clock.sees.tells k.start k.moment k.past k.honest old c.requires.holds c.args.author c.args.c.now c.args.view.now c.requires.may.0 (g.C.Clock.sees.upcoming old.store.clock)
    c.commit_command.new.self c.in-Ok.receipt e.value (λ tells. record { value = e.value; gives = e.gives tells; looks = e.looks tells }) c.bounds.ensures.place c.note_receipt.new.feed c.note_receipt.new.count noted c.note_receipt.result c.note_receipt.ensures.written
    (λ none. subst (λ (f : Feed). KeepsWords old.feed f) (sym (c.note_receipt.ensures.same none)) c.in_ok-next.ensures.words) c.note_receipt.ensures.pass

pub returns-in-Ok-clause-outcome : goal.returns-in-Ok-clause-outcome
returns-in-Ok-clause-outcome g c =
    let k = g.K.Keeping in
    let old = kept_of c.args.self.now in
    let e = c.in-Ok.ensures in
    let noted = noted_now old c.args.author c.args.c.now c.of-before.result.value c.of-before.ensures k.start c.make_room.new.feed c.note_receipt.new.feed c.in-Ok.receipt c.in_ok-next.ensures.words c.note_receipt.ensures.notes in
    outcome_ok g.S.Shelf.sees g.C.Clock.sees.tells k.start k.moment k.past k.honest old c.requires.holds c.args.author c.args.c.now c.args.view.now c.requires.may.0 (g.C.Clock.sees.upcoming old.store.clock)
    c.commit_command.new.self c.in-Ok.receipt e.value (λ tells. record { value = e.value; gives = e.gives tells; looks = e.looks tells }) c.bounds.ensures.place c.note_receipt.new.feed c.note_receipt.new.count noted c.note_receipt.result

pub returns-in-Ok-clause-looks : goal.returns-in-Ok-clause-looks
returns-in-Ok-clause-looks g c =
    let k = g.K.Keeping in
    let old = kept_of c.args.self.now in
    let e = c.in-Ok.ensures in
    let noted = noted_now old c.args.author c.args.c.now c.of-before.result.value c.of-before.ensures k.start c.make_room.new.feed c.note_receipt.new.feed c.in-Ok.receipt c.in_ok-next.ensures.words c.note_receipt.ensures.notes in
    looks_ok g.S.Shelf.sees g.C.Clock.sees.tells k.start k.moment k.past k.honest old c.requires.holds c.args.author c.args.c.now c.args.view.now c.requires.may.0 (g.C.Clock.sees.upcoming old.store.clock)
    c.commit_command.new.self c.in-Ok.receipt e.value (λ tells. record { value = e.value; gives = e.gives tells; looks = e.looks tells }) c.bounds.ensures.place c.note_receipt.new.feed c.note_receipt.new.count noted

pub returns-in-Ok-clause-since : goal.returns-in-Ok-clause-since
returns-in-Ok-clause-since g c =
    let k = g.K.Keeping in
    let old = kept_of c.args.self.now in
    let e = c.in-Ok.ensures in
    let noted = noted_now old c.args.author c.args.c.now c.of-before.result.value c.of-before.ensures k.start c.make_room.new.feed c.note_receipt.new.feed c.in-Ok.receipt c.in_ok-next.ensures.words c.note_receipt.ensures.notes in
    since_ok g.S.Shelf.sees g.C.Clock.sees.tells k.start k.moment k.past k.honest old c.requires.holds c.args.author c.args.c.now c.args.view.now c.requires.may.0 (g.C.Clock.sees.upcoming old.store.clock)
    c.commit_command.new.self c.in-Ok.receipt e.value (λ tells. record { value = e.value; gives = e.gives tells; looks = e.looks tells }) c.bounds.ensures.place c.note_receipt.new.feed c.note_receipt.new.count noted

pub returns-in-Ok-clause-owes : goal.returns-in-Ok-clause-owes
returns-in-Ok-clause-owes g c h =
    let k = g.K.Keeping in
    let old = kept_of c.args.self.now in
    let e = c.in-Ok.ensures in
    let noted = noted_now old c.args.author c.args.c.now c.of-before.result.value c.of-before.ensures k.start c.make_room.new.feed c.note_receipt.new.feed c.in-Ok.receipt c.in_ok-next.ensures.words c.note_receipt.ensures.notes in
    owes_ok g.S.Shelf.sees g.C.Clock.sees.tells k.start k.moment k.past k.honest old c.requires.holds c.args.author c.args.c.now c.args.view.now c.requires.may.0 (g.C.Clock.sees.upcoming old.store.clock)
    c.commit_command.new.self c.in-Ok.receipt e.value (λ tells. record { value = e.value; gives = e.gives tells; looks = e.looks tells }) c.bounds.ensures.place c.note_receipt.new.feed c.note_receipt.new.count noted c.note_receipt.result h c.note_receipt.ensures.count

pub returns-in-Err-clause-holds : goal.returns-in-Err-clause-holds
returns-in-Err-clause-holds g c =
    let k = g.K.Keeping in
    let old = kept_of c.args.self.now in
    let e = c.in-Err.ensures in
    let tried = tried_now old c.args.author c.args.c.now c.of-before.result.value c.of-before.ensures c.args.view.now g.C.Clock.sees.upcoming c.note_fault.new.tries c.in-Err.fault c.requires.holds.counted c.note_fault.ensures in
    holds_err g.S.Shelf.sees g.C.Clock.sees.tells k.start k.moment k.past k.honest old c.requires.holds c.args.author c.args.c.now c.args.view.now c.requires.may.0 (g.C.Clock.sees.upcoming old.store.clock)
    c.commit_command.new.self c.in-Err.fault e.value (λ tells. record { value = e.value; gives = e.gives tells; looks = e.looks tells }) c.make_room.new.feed c.in_ok-next.ensures.words c.note_fault.new.tries tried

pub returns-in-Err-clause-outcome : goal.returns-in-Err-clause-outcome
returns-in-Err-clause-outcome g c h =
    let k = g.K.Keeping in
    let old = kept_of c.args.self.now in
    let e = c.in-Err.ensures in
    let tried = tried_now old c.args.author c.args.c.now c.of-before.result.value c.of-before.ensures c.args.view.now g.C.Clock.sees.upcoming c.note_fault.new.tries c.in-Err.fault c.requires.holds.counted c.note_fault.ensures in
    outcome_err g.S.Shelf.sees g.C.Clock.sees.tells k.start k.moment k.past k.honest old c.requires.holds c.args.author c.args.c.now c.args.view.now c.requires.may.0 (g.C.Clock.sees.upcoming old.store.clock)
    c.commit_command.new.self c.in-Err.fault e.value (λ tells. record { value = e.value; gives = e.gives tells; looks = e.looks tells }) c.make_room.new.feed c.in_ok-next.ensures.words c.note_fault.new.tries tried

pub returns-in-Err-clause-since : goal.returns-in-Err-clause-since
returns-in-Err-clause-since g c =
    let k = g.K.Keeping in
    let old = kept_of c.args.self.now in
    let e = c.in-Err.ensures in
    let tried = tried_now old c.args.author c.args.c.now c.of-before.result.value c.of-before.ensures c.args.view.now g.C.Clock.sees.upcoming c.note_fault.new.tries c.in-Err.fault c.requires.holds.counted c.note_fault.ensures in
    since_err g.S.Shelf.sees g.C.Clock.sees.tells k.start k.moment k.past k.honest old c.requires.holds c.args.author c.args.c.now c.args.view.now c.requires.may.0 (g.C.Clock.sees.upcoming old.store.clock)
    c.commit_command.new.self c.in-Err.fault e.value (λ tells. record { value = e.value; gives = e.gives tells; looks = e.looks tells }) c.make_room.new.feed c.in_ok-next.ensures.words c.note_fault.new.tries tried

pub returns-in-Err-clause-owes : goal.returns-in-Err-clause-owes
returns-in-Err-clause-owes g c h =
    let k = g.K.Keeping in
    let old = kept_of c.args.self.now in
    let e = c.in-Err.ensures in
    let tried = tried_now old c.args.author c.args.c.now c.of-before.result.value c.of-before.ensures c.args.view.now g.C.Clock.sees.upcoming c.note_fault.new.tries c.in-Err.fault c.requires.holds.counted c.note_fault.ensures in
    owes_err g.S.Shelf.sees g.C.Clock.sees.tells k.start k.moment k.past k.honest old c.requires.holds c.args.author c.args.c.now c.args.view.now c.requires.may.0 (g.C.Clock.sees.upcoming old.store.clock)
    c.commit_command.new.self c.in-Err.fault e.value (λ tells. record { value = e.value; gives = e.gives tells; looks = e.looks tells }) c.make_room.new.feed c.in_ok-next.ensures.words c.note_fault.new.tries tried h
