use Rattle.std.proofs.Common.{◌≡◌, ◌∷◌, ◌++◌, ◌∙◌, [], List, ap, rules, subst}
use Rattle.dv_keeper.specs.Closing.{Settles}
use Rattle.dv_member.specs.Members.{Member}
use Rattle.dv_serving.specs.Outputs.{output_of}
use Rattle.dv_threads.proofs.Closing.{count_later}
use Rattle.dv_pop3_serving.proofs.Closing.{concluded, end_caused, new_one, none_before}
use Rattle.dv_pop3_serving.proofs.session.serve_session.Goals as goal

pub returns-clause-serves : goal.returns-clause-serves
returns-clause-serves g c = λ h.
    let S = g.S.Shelf in
    let O = g.O.Sink in
    let start = g.K.Keeping.start in
    let count = g.K.Keeping.count in
    let honest = g.K.Keeping.honest in
    let first = c.in-Some.session in
    let front = c.pop.new.self.items in
    let is : c.args.sessions.items ≡ front ++ first ∷ [] = search rules in
    let none : front ≡ [] = none_before front c.args.sessions.items first c.requires.one is in
    let last = c.serve-last.result.0 in
    let handed : c.push_reserved.new.self.items ≡ last ∷ [] = search rules in
    let closed = c.close-store.ensures in
    let k = closed.0 in
    let settles : Settles S.sees count 1 1 (last ∷ []) k =
    subst (λ (ss : List Member). Settles S.sees count 1 1 ss k) handed
    (subst (λ n. Settles S.sees count 1 n c.push_reserved.new.self.items k) c.requires.ledgers.1
    (subst (λ n. Settles S.sees count n g.M.Ledger.parts c.push_reserved.new.self.items k) c.requires.ledgers.0 closed.4)) in
    concluded S.sees g.C.Clock.sees.tells start g.K.Keeping.moment g.K.Keeping.past honest k closed.3 h (λ tells. c.folder_laws.ensures.files k.store.shelf tells) count (closed.6 h) c.args.lines (output_of O.sees c.args.out.now c.serve-last.new.out)
    first last (new_one start c.args.sessions.items front first c.requires.new c.requires.one is) c.serve-last.result.1 (c.serve-last.ensures.served h) settles
    c.conclude.result.end c.close-store.result.0.mark c.close-store.result.1 c.conclude.result.shelf (ap (λ s. s.end) c.conclude.ensures) (ap (λ s. s.mark) closed.1) closed.2 (ap (λ s. s.shelf) c.conclude.ensures ∙ ap (λ s. s.shelf) closed.1)

pub returns-clause-cause : goal.returns-clause-cause
returns-clause-cause g c = rw c.conclude.ensures (end_caused (g.O.Sink.sees.fault_count c.args.out.now) (g.O.Sink.sees.fault_count c.serve-last.new.out) c.serve-last.result.1 c.close-store.result.0.mark c.close-store.result.1 c.serve-last.ensures.cause)

pub returns-clause-later : goal.returns-clause-later
returns-clause-later g c =
    let closed = c.close-store.ensures in
    let k = closed.0 in
    let now = ap (λ s. s.shelf) c.conclude.ensures ∙ ap (λ s. s.shelf) closed.1 in
    (rw now (count_later _ g.K.Keeping.count (g.S.Shelf.sees.fault_count k.store.shelf) c.requires.ledgers.2 closed.4.tries), c.serve-last.ensures.later)
