use Rattle.std.proofs.Common.{◌≡◌, ◌+◌, ◌∙◌, sym, ap, refl, length, arith}
use Rattle.dv_generations.specs.Feeds.{Feed, journal, with_spare}
use Rattle.dv_generations.proofs.generations.Generations.ready.Goals as goal

pub returns-in-Ok-make_room : goal.returns-in-Ok-make_room
returns-in-Ok-make_room g c =
    let ok : c.make_room.new.self ≡ with_spare c.args.self.now = c.in-Ok-make_room.ensures.ok in
    let spare = ap (λ (f : Feed). f.spare) ok in
    let left = ap (λ (f : Feed). f.left) c.self.view_is in
    let words = ap (λ (f : Feed). f.words) c.self.view_is in
    let behind = c.in-Ok-table_behind.ensures in
    record {
      stays = ok;
      fits = (((behind.0.0 ∙ ap journal (sym ok), behind.0.1 ∙ ap (λ (f : Feed). length f.parts + 1) (sym ok)), omega (arith, spare)), omega (arith, behind.1, c.max.ensures));
      needed = λ is. omega (arith, left, c.words_left.ensures, c.if-needed-words_left.false);
      size = omega (arith, words, behind.1, c.max.ensures);
      err = tt;
    }

pub returns-in-Err : goal.returns-in-Err
returns-in-Err g c = record { stays = tt; fits = tt; needed = tt; size = tt; err = c.in-Err.ensures.err }

pub returns-in_default : goal.returns-in_default
returns-in_default g c = record { stays = tt; fits = tt; needed = tt; size = tt; err = refl }
