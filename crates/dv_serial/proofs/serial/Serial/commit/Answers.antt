use Rattle.std.proofs.Common.{◌+◌, inl, inr, ℕ, List, Err, Ok, refl, ◌∙◌, ap}
use Rattle.std.proofs.lemmas.List.{get_or_read}
use Rattle.std.proofs.lemmas.Result.{err_from_is_err_and}
use Rattle.dv_answer.specs.Following.{Follower, new_follower}
use Rattle.dv_shelf.specs.Folders.{Folder}
use Rattle.dv_serial.proofs.Answered.{entry_others, fails, fails_others, not_both, writes_entry, writes_none}
use Rattle.dv_serving.proofs.Committing.{some_there}
use Rattle.dv_serving.proofs.Led.{few_taken, receipt_leads}
use Rattle.dv_serial.proofs.Further.{reads_one}
use Rattle.dv_serial.proofs.Growing.{none_given}
use Rattle.dv_serial.proofs.serial.Serial.commit.Goals.{then-not-is_empty, else-not-is_empty}
use Rattle.dv_serial.proofs.serial.Serial.commit.Goals as goal

pub returns-in_err-receipt-clause-commits : goal.returns-in_err-receipt-clause-commits
returns-in_err-receipt-clause-commits g c =
    let p = err_from_is_err_and c.from_residual.result c.from_residual.ensures.1 in
    let less = rw (← c.self.view_is) at c.requires.allowed.seat in
    let own = rw (← c.self.view_is) at c.requires.allowed.allowed in
    let seen = c.view.ensures ∙ ap (λ (f : Follower). f.state.view) (get_or_read c.self.inside.seats.items c.args.at _ less c.index.ensures new_follower) in
    rw (← c.self.view_is, p.1, p.2) (λ tells origin attempts small follows.
    let S = g.S.Shelf in
    let did = c.in_err-receipt.ensures in
    let dated = did.gives tells in
    reads_one S.sees g.C.Clock.sees origin.clock origin.start origin.base _ attempts _ follows dated.at dated.small dated.clock (λ next following reading. (
      fails S.sees g.C.Clock.sees next origin.start origin.base _ attempts _ following c.args.at (c.args.at + 1) c.args.c.now refl less small c.requires.allowed.servable c.requires.write own dated.at reading
          c.view.result.now seen c.commit_command.new.self (did.settled tells) c.in_err-receipt.field-0.0 did.value did.idle (did.looks tells) dated.is (λ reads. (did.clock reads).0),
      fails_others S.sees g.C.Clock.sees next origin.start origin.base _ attempts _ following c.args.at (c.args.at + 1) c.args.c.now refl less small c.requires.allowed.servable c.requires.write own dated.at reading
          c.view.result.now seen c.commit_command.new.self (List ℕ) c.in_err-receipt.field-0.0 did.value dated.is (did.looks tells),
    )))

pub returns-in_err-receipt-clause-readings : goal.returns-in_err-receipt-clause-readings
returns-in_err-receipt-clause-readings g c = rw (← c.self.view_is) (λ reads.
    let upcoming = g.C.Clock.sees.upcoming in
    few_taken c.args.c.now c.self.inside.store.owed c.self.inside.store.chain (upcoming c.self.inside.store.clock) (upcoming c.commit_command.new.self.clock) (Err c.in_err-receipt.field-0.0) ((c.in_err-receipt.ensures.clock reads).0))

pub returns-clause-commits : goal.returns-clause-commits
returns-clause-commits g c =
    let less = rw (← c.self.view_is) at c.requires.allowed.seat in
    let own = rw (← c.self.view_is) at c.requires.allowed.allowed in
    let seen = c.view.ensures ∙ ap (λ (f : Follower). f.state.view) (get_or_read c.self.inside.seats.items c.args.at _ less c.index.ensures new_follower) in
    let valid = rw c.live.ensures at c.next_uid-before.ensures.valid in
    let now_valid = rw c.live-2.ensures at c.next_uid-next.ensures.valid in
    let did = c.in_ok-receipt.ensures in
    let receipt = c.in_ok-receipt.receipt in
    let new = c.commit_command.new.self in
    let leads = receipt_leads c.args.c.now c.view.result.now c.self.inside.store.owed c.self.inside.store.chain new.chain receipt valid now_valid did.value.ok in
    rw (← c.self.view_is) (λ tells origin attempts small follows.
    let S = g.S.Shelf in
    let dated = did.gives tells in
    elim c.if-not-is_empty.branch [
      | then-not-is_empty w ↦ rw w.self-is (reads_one S.sees g.C.Clock.sees origin.clock origin.start origin.base _ attempts _ follows dated.at dated.small dated.clock (λ next following reading. (
        writes_entry S.sees g.C.Clock.sees next origin.start origin.base _ attempts _ following c.args.at (c.args.at + 1) c.args.c.now refl less small c.requires.allowed.servable c.requires.write own dated.at reading
            c.view.result.now seen new receipt did.value dated.is (λ reads. (did.clock reads).0) leads (did.settled tells) (λ none. not_both c.is_empty.result (c.is_empty.ensures.1 none) w.if-not-is_empty.true) (c.self.inside.groups + 1) refl,
        entry_others S.sees g.C.Clock.sees next origin.start origin.base _ attempts _ following c.args.at (c.args.at + 1) c.args.c.now refl less small c.requires.allowed.servable c.requires.write own dated.at reading
            c.view.result.now seen new receipt did.value dated.is (λ reads. (did.clock reads).0) leads (λ none. not_both c.is_empty.result (c.is_empty.ensures.1 none) w.if-not-is_empty.true),
      )))
      | else-not-is_empty w ↦ rw w.self-is (reads_one S.sees g.C.Clock.sees origin.clock origin.start origin.base _ attempts _ follows dated.at dated.small dated.clock (λ next following reading. (
        writes_none S.sees g.C.Clock.sees next origin.start origin.base _ attempts _ following c.args.at (c.args.at + 1) c.args.c.now refl less small c.requires.allowed.servable c.requires.write own dated.at reading
            c.view.result.now seen new receipt did.value dated.is (λ reads. (did.clock reads).0) leads (did.settled tells) (c.is_empty.ensures.0 w.if-not-is_empty.false) (did.looks tells),
        (λ n none. ap (λ (f : Folder). f n) (did.looks tells (c.is_empty.ensures.0 w.if-not-is_empty.false)).same),
      )))
    ])

pub returns-clause-leads : goal.returns-clause-leads
returns-clause-leads g c =
    let valid = rw c.live.ensures at c.next_uid-before.ensures.valid in
    let now_valid = rw c.live-2.ensures at c.next_uid-next.ensures.valid in
    let leads = receipt_leads c.args.c.now c.view.result.now c.self.inside.store.owed c.self.inside.store.chain c.commit_command.new.self.chain c.in_ok-receipt.receipt valid now_valid c.in_ok-receipt.ensures.value.ok in
    rw (← c.self.view_is) (elim c.if-not-is_empty.branch [
      | then-not-is_empty w ↦ rw w.self-is leads
      | else-not-is_empty w ↦ rw w.self-is leads
    ])

pub returns-clause-readings : goal.returns-clause-readings
returns-clause-readings g c = rw (← c.self.view_is) (λ reads.
    let upcoming = g.C.Clock.sees.upcoming in
    let few = few_taken c.args.c.now c.self.inside.store.owed c.self.inside.store.chain (upcoming c.self.inside.store.clock) (upcoming c.commit_command.new.self.clock) (Ok c.in_ok-receipt.receipt) ((c.in_ok-receipt.ensures.clock reads).0) in
    elim c.if-not-is_empty.branch [
      | then-not-is_empty w ↦ rw w.self-is few
      | else-not-is_empty w ↦ rw w.self-is few
    ])

pub returns-in_err-receipt-clause-wrote : goal.returns-in_err-receipt-clause-wrote
returns-in_err-receipt-clause-wrote g c =
    let p = err_from_is_err_and c.from_residual.result c.from_residual.ensures.1 in
    rw (← c.self.view_is, p.1) (record { mailbox = c.in_err-receipt.ensures.value.failed; groups = refl })

pub returns-clause-wrote : goal.returns-clause-wrote
returns-clause-wrote g c =
    let valid = rw c.live.ensures at c.next_uid-before.ensures.valid in
    let now_valid = rw c.live-2.ensures at c.next_uid-next.ensures.valid in
    let old = c.self.inside.store.chain in
    let new = c.commit_command.new.self.chain in
    let receipt = c.in_ok-receipt.receipt in
    let is = c.in_ok-receipt.ensures.value.ok in
    let leads = receipt_leads c.args.c.now c.view.result.now c.self.inside.store.owed old new receipt valid now_valid is in
    rw (← c.self.view_is) (elim c.if-not-is_empty.branch [
      | then-not-is_empty w ↦ rw w.self-is (inr (record {
        records = receipt.group.records;
        some = some_there receipt.group.records (λ none. not_both c.is_empty.result (c.is_empty.ensures.1 none) w.if-not-is_empty.true);
        gives = is.gives;
        leads = leads;
        groups = refl;
      }))
      | else-not-is_empty w ↦ rw w.self-is (inl (record {
        mailbox = none_given old.live.mailbox new.live.mailbox receipt.group.records (c.is_empty.ensures.0 w.if-not-is_empty.false) is.gives;
        groups = refl;
      }))
    ])
