use Rattle.std.proofs.Common.{◌≡◌, ◌/◌, ◌++◌, ◌∷◌, [], ◌∙◌, sym, ap, subst, length, List}
use Rattle.std.specs.Prelude.{is_some, IfSome}
use Rattle.atomic_table.specs.Seated.{TableId}
use Rattle.dv_front.specs.Ends.{PassView, PenView}
use Rattle.dv_front.specs.declared.notes.Note.{Note}
use Rattle.dv_generations.specs.Feeds.{Feed, journal, origin_of, published, turned}
use Rattle.dv_generations.proofs.Turning.{entry_long, good_on, newest_link, published_journal, published_on, published_view, turned_journal}
use Rattle.dv_generations.proofs.generations.Generations.publish.Goals as goal
use Rattle.dv_generations.proofs.generations.Generations.publish.Goals.{in-Some, in-None}

pub publish_group-requires-clause-good : goal.publish_group-requires-clause-good
publish_group-requires-clause-good g c =
    let is : c.match-next.self ≡ turned c.args.self.now c.args.next = elim c.match-next.branch [
      | in-Some w ↦ w.self-is ∙ w.turn.ensures ∙ ap (turned c.args.self.now) (sym w.in-Some.is)
      | in-None w ↦ w.self-is ∙ ap (turned c.args.self.now) (sym w.in-None.is)
    ] in
    let all = ap journal (c.self.view_is ∙ is) ∙ turned_journal c.args.self.now c.args.next in
    good_on (origin_of g.K.Keeping.start) g.K.Keeping.count c.self.inside.older.items c.self.inside.newest c.self.inside.roll.items c.self.invariant.0 g.J.NamesNote.note (journal c.args.self.now) all c.requires.good

pub publish_group-requires-clause-all : goal.publish_group-requires-clause-all
publish_group-requires-clause-all g c =
    (newest_link (origin_of g.K.Keeping.start) g.K.Keeping.count c.self.inside.older.items c.self.inside.newest c.self.inside.roll.items c.self.invariant.0).1.put

pub invariant_of-self : goal.invariant_of-self
invariant_of-self g c = (
  published_on (origin_of g.K.Keeping.start) g.K.Keeping.count c.self.inside.older.items c.self.inside.newest c.self.inside.roll.items c.self.invariant.0 g.J.NamesNote.note c.publish_group.new.pen c.publish_group.ensures,
  c.self.invariant.1,
  c.self.invariant.2,
  c.self.invariant.3,
  subst (λ (t : TableId). IfSome c.self.inside.pass (λ (p : PassView). p.table ≡ t)) (sym (ap (λ (p : PenView). p.table) c.publish_group.ensures)) c.self.invariant.4,
)

pub returns-clause-feed : goal.returns-clause-feed
returns-clause-feed g c =
    let is : c.match-next.self ≡ turned c.args.self.now c.args.next = elim c.match-next.branch [
      | in-Some w ↦ w.self-is ∙ w.turn.ensures ∙ ap (turned c.args.self.now) (sym w.in-Some.is)
      | in-None w ↦ w.self-is ∙ ap (turned c.args.self.now) (sym w.in-None.is)
    ] in
    let long = entry_long g.J.NamesNote.note c.args.text.now c.requires.text in
    published_view (origin_of g.K.Keeping.start) g.K.Keeping.count c.self.inside.older.items c.self.inside.newest c.self.inside.roll.items c.self.invariant.0 g.J.NamesNote.note c.publish_group.new.pen
    (length c.args.text.now / 4) c.self.inside.spare c.self.inside.words (is_some c.self.inside.pass) c.publish_group.ensures long
    ∙ ap (λ (f : Feed). published (length c.args.text.now / 4) g.J.NamesNote.note f) (c.self.view_is ∙ is)

pub returns-clause-journal : goal.returns-clause-journal
returns-clause-journal g c =
    let is : c.match-next.self ≡ turned c.args.self.now c.args.next = elim c.match-next.branch [
      | in-Some w ↦ w.self-is ∙ w.turn.ensures ∙ ap (turned c.args.self.now) (sym w.in-Some.is)
      | in-None w ↦ w.self-is ∙ ap (turned c.args.self.now) (sym w.in-None.is)
    ] in
    let all = ap journal (c.self.view_is ∙ is) ∙ turned_journal c.args.self.now c.args.next in
    published_journal (origin_of g.K.Keeping.start) g.K.Keeping.count c.self.inside.older.items c.self.inside.newest c.self.inside.roll.items c.self.invariant.0 g.J.NamesNote.note c.publish_group.new.pen c.publish_group.ensures
    ∙ ap (λ (l : List Note). l ++ g.J.NamesNote.note ∷ []) all
