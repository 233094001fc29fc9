use Rattle.std.proofs.Common.{List, ℕ, Ok, sym, ap, subst}
use Rattle.dv_shelf.specs.Folders.{Folder, Lists}
use Rattle.dv_logfile.proofs.Settling.{looked_settled, settled_then}
use Rattle.dv_chain.specs.declared.chain.Chain.{Chain}
use Rattle.dv_filing.specs.Clearing.{Needs}
use Rattle.dv_files.specs.Writing.{IsSwept}
use Rattle.dv_mdbox.specs.Purging.{AllNamed, IsNamed}
use Rattle.dv_mdbox.proofs.Finished.{looked_both, on_ok}
use Rattle.dv_mdbox.proofs.Orphaned.{named_kept, none_unnamed, orphans_spared}
use Rattle.dv_mdbox.proofs.Thinning.{quiet_looked, quiet_then}
use Rattle.dv_mdbox.proofs.storage.Storage.clear_orphans.Goals as goal

pub returns-in_err-names-clause-gives : goal.returns-in_err-names-clause-gives
returns-in_err-names-clause-gives g c = λ tells messages rest.
    let stays = c.in_err-names.ensures.stays in
    quiet_looked g.S.Shelf.sees messages c.thinnings_are.ensures c.args.self.now c.list_files.new.self (c.in_err-names.ensures.looks tells) stays.chain stays.owed rest c.from_residual.result

pub returns-in_err-names-clause-settled : goal.returns-in_err-names-clause-settled
returns-in_err-names-clause-settled g c = λ tells.
    let looks = c.in_err-names.ensures.looks tells in
    looked_settled g.S.Shelf.sees c.args.self.now.shelf c.list_files.new.self.shelf looks.same looks.crash

pub returns-in_err-files-clause-gives : goal.returns-in_err-files-clause-gives
returns-in_err-files-clause-gives g c = λ tells messages rest.
    let stays = c.in_ok-names.ensures.stays in
    quiet_looked g.S.Shelf.sees messages c.thinnings_are.ensures c.args.self.now c.list_files.new.self (c.in_ok-names.ensures.looks tells) stays.chain stays.owed rest c.from_residual-in_err-files.result

pub returns-in_err-files-clause-settled : goal.returns-in_err-files-clause-settled
returns-in_err-files-clause-settled g c = λ tells.
    let looks = c.in_ok-names.ensures.looks tells in
    looked_settled g.S.Shelf.sees c.args.self.now.shelf c.list_files.new.self.shelf looks.same looks.crash

pub returns-clause-stays : goal.returns-clause-stays
returns-clause-stays g c = looked_both c.args.self.now c.list_files.new.self c.clear_files.new.self c.in_ok-names.ensures.stays c.clear_files.ensures.stays

pub returns-clause-named : goal.returns-clause-named
returns-clause-named g c = λ tells.
    let S = g.S.Shelf in
    let stays = c.in_ok-names.ensures.stays in
    let old = c.args.self.now in
    let mid = c.list_files.new.self in
    let new = c.clear_files.new.self in
    let looks = c.in_ok-names.ensures.looks tells in
    on_ok c.clear_files.result
    (λ gone.
    subst (λ (k : Chain). AllNamed (S.sees.files new.shelf) k.live.mailbox) stays.chain
    (none_unnamed mid.chain.live.mailbox c.as_slice.result.now c.in_ok-files.files.items (S.sees.files old.shelf) (S.sees.files new.shelf) (subst (Lists (S.sees.files old.shelf)) (sym c.as_slice.ensures) (c.in_ok-names.ensures.found tells)) c.in_ok-files.ensures
    (subst (λ (l : List ℕ). IsSwept l (S.sees.files old.shelf) (S.sees.files new.shelf)) c.as_slice-2.ensures.value (subst (λ (f : Folder). IsSwept c.as_slice-2.result.now f (S.sees.files new.shelf)) looks.same gone)))) (c.clear_files.ensures.gone tells)

pub returns-clause-kept : goal.returns-clause-kept
returns-clause-kept g c = λ tells.
    let S = g.S.Shelf in
    let stays = c.in_ok-names.ensures.stays in
    let old = c.args.self.now in
    let mid = c.list_files.new.self in
    let new = c.clear_files.new.self in
    let looks = c.in_ok-names.ensures.looks tells in
    on_ok c.clear_files.result
    (λ gone file named.
    named_kept mid.chain.live.mailbox c.as_slice.result.now c.in_ok-files.files.items (S.sees.files old.shelf) (S.sees.files new.shelf) c.in_ok-files.ensures
    (subst (λ (l : List ℕ). IsSwept l (S.sees.files old.shelf) (S.sees.files new.shelf)) c.as_slice-2.ensures.value (subst (λ (f : Folder). IsSwept c.as_slice-2.result.now f (S.sees.files new.shelf)) looks.same gone)) file
    (subst (λ (k : Chain). IsNamed k.live.mailbox file) (sym stays.chain) named)) (c.clear_files.ensures.gone tells)

pub returns-clause-gives : goal.returns-clause-gives
returns-clause-gives g c = λ tells messages rest.
    let S = g.S.Shelf in
    let laws = c.thinnings_are.ensures in
    let stays = c.in_ok-names.ensures.stays in
    let old = c.args.self.now in
    let mid = c.list_files.new.self in
    let one = quiet_looked S.sees messages laws old mid (c.in_ok-names.ensures.looks tells) stays.chain stays.owed rest {T = Unit {0}} {E = Unit {0}} (Ok tt) in
    quiet_then S.sees messages laws _ old mid c.clear_files.new.self tt one (ap (λ (k : Chain). k.indexid) stays.chain) c.clear_files.result
    (c.clear_files.ensures.gives tells messages (subst (λ (l : List ℕ). Needs mid.chain.live.mailbox l → ⊥) (sym c.as_slice-2.ensures.value) (orphans_spared mid.chain.live.mailbox c.as_slice.result.now c.in_ok-files.files.items c.in_ok-files.ensures)) one.ok)

pub returns-clause-settled : goal.returns-clause-settled
returns-clause-settled g c = λ tells.
    let S = g.S.Shelf in
    let looks = c.in_ok-names.ensures.looks tells in
    settled_then S.sees c.args.self.now.shelf c.list_files.new.self.shelf c.clear_files.new.self.shelf c.in_ok-names.ensures.cause.later c.clear_files.ensures.cause.later
    (looked_settled S.sees c.args.self.now.shelf c.list_files.new.self.shelf looks.same looks.crash) (c.clear_files.ensures.settled tells)
