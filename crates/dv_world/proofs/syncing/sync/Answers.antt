use Rattle.std.proofs.Common.{◌≡◌, ◌∙◌, ℕ, List, None, Option, Some, ap, refl, rules, sym}
use Rattle.std.specs.Global.{Vec}
use Rattle.std.specs.Prelude.{position, slice_get}
use Rattle.std.specs.Vec.{with_item}
use Rattle.dv_world.specs.declared.kept.Kept.{Kept}
use Rattle.dv_world.specs.declared.kept.Seat.{Seat}
use Rattle.dv_world.proofs.Adds.{added_of}
use Rattle.dv_world.proofs.Found.{is_of, there_is}
use Rattle.dv_world.proofs.Syncs.{author_there, kept_synced, running_is, world_synced}
use Rattle.dv_world.proofs.syncing.sync.Goals as goal

pub returns-in_default-place_of-clause-ok : goal.returns-in_default-place_of-clause-ok
returns-in_default-place_of-clause-ok c =
    let k = c.args.kept.now in
    let mid = c.add_entry.new.kept in
    let run = running_is k.pending c.in-Some.author (sym c.running_author.ensures ∙ c.in-Some.is) in
    let added = added_of k run.0 mid c.in_ok-wrote.wrote run.1 c.in_ok-wrote.ensures.ok in
    let none : c.place_of.result ≡ None = search rules in
    let nowhere : position (is_of run.0.author) k.seats.items ≡ None =
    ap (λ (n : ℕ). position (is_of n) k.seats.items) run.3 ∙ ap (λ (v : Vec Seat). position (is_of c.in-Some.author) v.items) (sym added.seats)
    ∙ ap (position (is_of c.in-Some.author)) (sym c.deref.ensures.value) ∙ sym c.place_of.ensures ∙ none in
    absurd (author_there k c.requires run.0 run.1 nowhere)

pub returns-in_default-place_of-clause-kept : goal.returns-in_default-place_of-clause-kept
returns-in_default-place_of-clause-kept c =
    let k = c.args.kept.now in
    let mid = c.add_entry.new.kept in
    let run = running_is k.pending c.in-Some.author (sym c.running_author.ensures ∙ c.in-Some.is) in
    let added = added_of k run.0 mid c.in_ok-wrote.wrote run.1 c.in_ok-wrote.ensures.ok in
    let none : c.place_of.result ≡ None = search rules in
    let nowhere : position (is_of run.0.author) k.seats.items ≡ None =
    ap (λ (n : ℕ). position (is_of n) k.seats.items) run.3 ∙ ap (λ (v : Vec Seat). position (is_of c.in-Some.author) v.items) (sym added.seats)
    ∙ ap (position (is_of c.in-Some.author)) (sym c.deref.ensures.value) ∙ sym c.place_of.ensures ∙ none in
    absurd (author_there k c.requires run.0 run.1 nowhere)

pub returns-in-Some-place_of-clause-ok : goal.returns-in-Some-place_of-clause-ok
returns-in-Some-place_of-clause-ok c =
    let k = c.args.kept.now in
    let mid = c.add_entry.new.kept in
    let place = c.in-Some-place_of.at in
    let seat = c.index_mut.result.now in
    let wrote = c.in_ok-wrote.wrote in
    let run = running_is k.pending c.in-Some.author (sym c.running_author.ensures ∙ c.in-Some.is) in
    let p = run.0 in
    let added = added_of k p mid wrote run.1 c.in_ok-wrote.ensures.ok in
    let at : position (is_of c.in-Some.author) mid.seats.items ≡ Some place = ap (position (is_of c.in-Some.author)) (sym c.deref.ensures.value) ∙ sym c.place_of.ensures ∙ c.in-Some-place_of.is in
    let found : position (is_of p.author) k.seats.items ≡ Some place =
    ap (λ (n : ℕ). position (is_of n) k.seats.items) run.3 ∙ ap (λ (v : Vec Seat). position (is_of c.in-Some.author) v.items) (sym added.seats) ∙ at in
    let there : slice_get k.seats.items place ≡ Some seat =
    ap (λ (v : Vec Seat). slice_get v.items place) (sym added.seats) ∙ there_is mid.seats.items c.in-Some.author place seat at c.index_mut.ensures.value in
    world_synced k c.requires p run.1 run.2 mid wrote added place seat found there (record mid { seats = with_item mid.seats place (record seat { wrote = wrote }) }) refl refl refl refl refl refl refl

pub returns-in-Some-place_of-clause-kept : goal.returns-in-Some-place_of-clause-kept
returns-in-Some-place_of-clause-kept c =
    let k = c.args.kept.now in
    let mid = c.add_entry.new.kept in
    let place = c.in-Some-place_of.at in
    let seat = c.index_mut.result.now in
    let wrote = c.in_ok-wrote.wrote in
    let run = running_is k.pending c.in-Some.author (sym c.running_author.ensures ∙ c.in-Some.is) in
    let p = run.0 in
    let added = added_of k p mid wrote run.1 c.in_ok-wrote.ensures.ok in
    let at : position (is_of c.in-Some.author) mid.seats.items ≡ Some place = ap (position (is_of c.in-Some.author)) (sym c.deref.ensures.value) ∙ sym c.place_of.ensures ∙ c.in-Some-place_of.is in
    let found : position (is_of p.author) k.seats.items ≡ Some place =
    ap (λ (n : ℕ). position (is_of n) k.seats.items) run.3 ∙ ap (λ (v : Vec Seat). position (is_of c.in-Some.author) v.items) (sym added.seats) ∙ at in
    let there : slice_get k.seats.items place ≡ Some seat =
    ap (λ (v : Vec Seat). slice_get v.items place) (sym added.seats) ∙ there_is mid.seats.items c.in-Some.author place seat at c.index_mut.ensures.value in
    kept_synced k c.requires p run.1 run.2 mid wrote added place seat found there (record mid { seats = with_item mid.seats place (record seat { wrote = wrote }) }) refl refl refl refl refl refl refl
