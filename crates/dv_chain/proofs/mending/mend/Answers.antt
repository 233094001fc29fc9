use Rattle.std.proofs.Common.{◌≡◌, ◌⊎◌, ◌∙◌, ◌++◌, ◌||◌, true, List, ℕ, Some, ap, sym, subst, take, length, nat_eq, nat_le, ◌≤◌}
use Rattle.std.specs.Prelude.{slice_index}
use Rattle.dv_shelf.specs.Crashes.{LeavesOnly}
use Rattle.dv_shelf.specs.Folders.{with_file}
use Rattle.dv_shelf.specs.declared.shelf.Name.TheVariants.{Log}
use Rattle.dv_logfile.specs.Layout.{closing}
use Rattle.dv_openings.specs.Openings.{mended}
use Rattle.dv_chain.specs.declared.file.File.{File}
use Rattle.dv_chain.proofs.Mended.{open_end}
use Rattle.dv_chain.proofs.Shelves.{either_put, replaced_since}
use Rattle.dv_chain.proofs.mending.mend.Goals as goal

-- the text that replaces the log
text_is : (log : File) (front text bytes : List ℕ) (open_gate : (nat_le (length log.bytes) log.end || nat_eq (slice_index log.bytes log.end) 0x80) ≡ true)
    → log.end ≤ length log.bytes → front ≡ log.bytes → text ≡ take log.end front ++ closing → bytes ≡ text → bytes ≡ mended log.bytes log.end
text_is log front text bytes open_gate inside one two three =
    three ∙ two ∙ ap (λ (l : List ℕ). take log.end l ++ closing) one ∙ sym (open_end log inside open_gate)

pub returns-in-Ok-clause-since : goal.returns-in-Ok-clause-since
returns-in-Ok-clause-since g c = λ tells here settled.
    let S = g.S.Shelf in
    let log = c.args.log.now in
    let same = text_is log c.as_slice.result.now c.in_ok-text.text c.as_slice-2.result.now (sym c.is_open.ensures ∙ c.if-not-is_open.false) c.requires c.as_slice.ensures c.in_ok-text.ensures.ok c.as_slice-2.ensures in
    let old = S.sees.files c.args.shelf.now in
    subst (λ (t : List ℕ). LeavesOnly S.sees c.args.shelf.now c.replace.new.self (λ f. (f ≡ old) ⊎ (f ≡ with_file old Log (Some t)))) same
    (replaced_since S.sees c.args.shelf.now c.replace.new.self (Some c.as_slice-2.result.now) (λ f left. g.met.S.Shelf.only_now c.args.shelf.now f tells left) settled (c.replace.ensures.time tells) (c.replace.ensures.crash tells))

pub returns-clause-files : goal.returns-clause-files
returns-clause-files g c = λ tells here.
    let S = g.S.Shelf in
    let log = c.args.log.now in
    let same = text_is log c.as_slice.result.now c.in_ok-text.text c.as_slice-2.result.now (sym c.is_open.ensures ∙ c.if-not-is_open.false) c.requires c.as_slice.ensures c.in_ok-text.ensures.ok c.as_slice-2.ensures in
    let old = S.sees.files c.args.shelf.now in
    subst (λ (t : List ℕ). (S.sees.files c.replace.new.self ≡ old) ⊎ (S.sees.files c.replace.new.self ≡ with_file old Log (Some t))) same
    (either_put old (S.sees.files c.replace.new.self) (Some c.as_slice-2.result.now) (c.in-Err.ensures.err tells))

pub returns-clause-since : goal.returns-clause-since
returns-clause-since g c = λ tells here settled.
    let S = g.S.Shelf in
    let log = c.args.log.now in
    let same = text_is log c.as_slice.result.now c.in_ok-text.text c.as_slice-2.result.now (sym c.is_open.ensures ∙ c.if-not-is_open.false) c.requires c.as_slice.ensures c.in_ok-text.ensures.ok c.as_slice-2.ensures in
    let old = S.sees.files c.args.shelf.now in
    subst (λ (t : List ℕ). LeavesOnly S.sees c.args.shelf.now c.replace.new.self (λ f. (f ≡ old) ⊎ (f ≡ with_file old Log (Some t)))) same
    (replaced_since S.sees c.args.shelf.now c.replace.new.self (Some c.as_slice-2.result.now) (λ f left. g.met.S.Shelf.only_now c.args.shelf.now f tells left) settled (c.replace.ensures.time tells) (c.replace.ensures.crash tells))
