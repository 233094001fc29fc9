use Rattle.std.proofs.Common.{◌≡◌, ◌∙◌, List, None, ap, map, refl}
use Rattle.dv_apply.specs.States.{Held}
use Rattle.dv_model.specs.declared.types.Mailbox.{Mailbox}
use Rattle.dv_world.specs.declared.kept.Kept.{Kept}
use Rattle.dv_world.specs.Shapes.{stored_of}
use Rattle.dv_world.proofs.Begins.{begins_kept, world_begun}
use Rattle.dv_world.proofs.world.kept_of.Goals as goal

pub returns-clause-kept : goal.returns-clause-kept
returns-clause-kept c =
    let made : Kept = record {
      alloc = c.args.alloc;
      start = c.args.start;
      start_mark = c.args.mark;
      indexid = c.args.indexid;
      stored = c.into_vec.result;
      logged = c.new.result;
      pending = None;
      published = 0;
      front = c.in_ok-front.front;
      end = c.in_ok-end.end;
      seats = c.new-2.result;
    } in
    begins_kept c.args.start c.args.indexid c.args.mark (map stored_of c.args.mail) c.requires made
    (world_begun c.args.start c.args.indexid c.args.mark c.args.mail c.into_vec.result.items c.new.result.items c.new-2.result.items c.into_vec.ensures c.new.ensures.items c.new-2.ensures.items)
    c.new.ensures.items refl (ap (λ (h : Held). h.mailbox) c.in_ok-front.ensures ∙ c.in_ok-copy.ensures) (ap (λ (h : Held). h.mailbox) c.in_ok-end.ensures ∙ c.in_ok-copy-2.ensures) refl c.new-2.ensures.items
