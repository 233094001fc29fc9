use Rattle.std.proofs.Common.{rules, vec_len, ◌≡◌, ◌∙◌, ℕ, Some, ap, length, refl, sym}
use Rattle.std.specs.Prelude.{slice_get, slice_set}
use Rattle.std.proofs.lemmas.Option.{same_Some, slice_get_read}
use Rattle.dv_world.specs.declared.kept.Seat.{Seat}
use Rattle.dv_world.proofs.writing.take_made.Goals as goal

pub returns-clause-stays : goal.returns-clause-stays
returns-clause-stays c = record { log = refl; logged = refl; published = refl; front = refl; end = refl }

pub returns-clause-done : goal.returns-clause-done
returns-clause-done c = λ none. (
  c.halt.ensures,
  λ seat there.
      let seats = c.args.kept.now.seats.items in
      let now = c.index_mut.result.now in
      let made = c.args.made in
      let many : length c.args.kept.now.logged.items ≡ vec_len c.args.kept.now.logged = search rules in
      let same : now ≡ seat = same_Some now seat (sym (slice_get_read seats (length seats) c.args.at now refl c.requires c.index_mut.ensures.value) ∙ there) in
      ap (λ (n : ℕ). slice_set seats c.args.at (record now { wrote = Some (record { place = n; met = n; command = made.command; taken = made.taken }) })) (c.len-place.ensures ∙ sym many)
      ∙ ap (λ (s : Seat). slice_set seats c.args.at (record s { wrote = Some (record { place = length c.args.kept.now.logged.items; met = length c.args.kept.now.logged.items; command = made.command; taken = made.taken }) })) same,
)
