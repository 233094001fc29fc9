use Rattle.std.proofs.Common.{◌≡◌, ◌∙◌, [], ap, arith, refl, rules, length}
use Rattle.dv_member.specs.declared.mirror.Mirror.{Mirror}
use Rattle.dv_member.specs.Batches.{Gathers}
use Rattle.dv_member.specs.Inside.{all_of}
use Rattle.dv_member.specs.Reaching.{LeadsTo}
use Rattle.dv_member.proofs.Arriving.{member_at_end, reader_on, ready_mirror}
use Rattle.dv_member.proofs.Batching.{gathered_records, leads_to, own_batch, own_words}
use Rattle.dv_member.proofs.Members.{known_good}
use Rattle.dv_member.proofs.Seen.{all_seen, all_taken}
use Rattle.dv_member.proofs.refreshing.see_words.Goals as goal

pub returns-then-is_empty-clause-seen : goal.returns-then-is_empty-clause-seen
returns-then-is_empty-clause-seen g c =
    let r = c.args.r.now in
    let m = c.args.m.now in
    let member = c.requires.member in
    let rest = all_taken r.words r.pass m.seen c.requires.all (member.follows refl).took in
    let none : r.words ≡ [] = search rules in
    all_seen r.pass m.seen member.within (rest ∙ none)

pub add_words-requires : goal.add_words-requires
add_words-requires g c =
    let r = c.args.r.now in
    let m = c.args.m.now in
    let member = c.requires.member in
    let follows = member.follows refl in
    own_words g.K.Keeping.start r.pass r.words m c.new_batch-batch.result (known_good r m member) follows.mirror (all_taken r.words r.pass m.seen c.requires.all follows.took)
    c.new_batch-batch.ensures.0 c.new_batch-batch.ensures.1 c.new_batch-batch.ensures.2

pub make_ready-requires : goal.make_ready-requires
make_ready-requires g c =
    let r = c.args.r.now in
    let m = c.args.m.now in
    let member = c.requires.member in
    let follows = member.follows refl in
    let gathers : Gathers g.K.Keeping.start m.seen (all_of r.pass) c.add_words.new.batch =
    own_batch g.K.Keeping.start r.pass r.words m c.new_batch-batch.result (known_good r m member) follows.mirror (all_taken r.words r.pass m.seen c.requires.all follows.took)
    c.new_batch-batch.ensures.0 c.new_batch-batch.ensures.1 c.new_batch-batch.ensures.2 c.add_words.new.batch c.in_ok-add_words.ensures in
    gathered_records g.K.Keeping.start m.seen (all_of r.pass) c.add_words.new.batch (known_good r m member) gathers

pub show-requires : goal.show-requires
show-requires g c =
    let r = c.args.r.now in
    let m = c.args.m.now in
    let member = c.requires.member in
    let follows = member.follows refl in
    let gathers : Gathers g.K.Keeping.start m.seen (all_of r.pass) c.add_words.new.batch =
    own_batch g.K.Keeping.start r.pass r.words m c.new_batch-batch.result (known_good r m member) follows.mirror (all_taken r.words r.pass m.seen c.requires.all follows.took)
    c.new_batch-batch.ensures.0 c.new_batch-batch.ensures.1 c.new_batch-batch.ensures.2 c.add_words.new.batch c.in_ok-add_words.ensures in
    let leads : LeadsTo g.K.Keeping.start (all_of r.pass) c.make_ready.new.m c.in_ok-ready.ready =
    leads_to g.K.Keeping.start (all_of r.pass) m c.make_ready.new.m c.add_words.new.batch c.in_ok-ready.ready (known_good r m member) follows.mirror.live gathers c.make_ready.ensures.mailbox
    c.in_ok-ready.ensures.ends.0 c.in_ok-ready.ensures.ends.1 c.in_ok-ready.ensures.leads in
    (leads.after, leads.leads.makes)

pub returns-clause-member : goal.returns-clause-member
returns-clause-member g c =
    let r = c.args.r.now in
    let m = c.args.m.now in
    let member = c.requires.member in
    let follows = member.follows refl in
    let gathers : Gathers g.K.Keeping.start m.seen (all_of r.pass) c.add_words.new.batch =
    own_batch g.K.Keeping.start r.pass r.words m c.new_batch-batch.result (known_good r m member) follows.mirror (all_taken r.words r.pass m.seen c.requires.all follows.took)
    c.new_batch-batch.ensures.0 c.new_batch-batch.ensures.1 c.new_batch-batch.ensures.2 c.add_words.new.batch c.in_ok-add_words.ensures in
    let leads : LeadsTo g.K.Keeping.start (all_of r.pass) c.make_ready.new.m c.in_ok-ready.ready =
    leads_to g.K.Keeping.start (all_of r.pass) m c.make_ready.new.m c.add_words.new.batch c.in_ok-ready.ready (known_good r m member) follows.mirror.live gathers c.make_ready.ensures.mailbox
    c.in_ok-ready.ensures.ends.0 c.in_ok-ready.ensures.ends.1 c.in_ok-ready.ensures.leads in
    member_at_end (record r { words = c.new.result }) c.show.new.m member.start_is (reader_on r c.new.result member.reader) c.new.ensures c.requires.all
    (ready_mirror g.K.Keeping.start (all_of r.pass) m c.make_ready.new.m c.show.new.m c.in_ok-ready.ready leads follows.mirror c.make_ready.ensures.same c.make_ready.ensures.mailbox
    (c.show.ensures.live leads.after leads.leads.makes) c.show.ensures.rest)

pub returns-clause-seen : goal.returns-clause-seen
returns-clause-seen g c =
    let r = c.args.r.now in
    let m = c.args.m.now in
    let member = c.requires.member in
    let follows = member.follows refl in
    let gathers : Gathers g.K.Keeping.start m.seen (all_of r.pass) c.add_words.new.batch =
    own_batch g.K.Keeping.start r.pass r.words m c.new_batch-batch.result (known_good r m member) follows.mirror (all_taken r.words r.pass m.seen c.requires.all follows.took)
    c.new_batch-batch.ensures.0 c.new_batch-batch.ensures.1 c.new_batch-batch.ensures.2 c.add_words.new.batch c.in_ok-add_words.ensures in
    ap (λ (x : Mirror). x.seen) c.show.ensures.rest ∙ c.in_ok-ready.ensures.ends.1 ∙ gathers.seen

pub returns-clause-state : goal.returns-clause-state
returns-clause-state g c =
    let r = c.args.r.now in
    let m = c.args.m.now in
    let member = c.requires.member in
    let follows = member.follows refl in
    let gathers : Gathers g.K.Keeping.start m.seen (all_of r.pass) c.add_words.new.batch =
    own_batch g.K.Keeping.start r.pass r.words m c.new_batch-batch.result (known_good r m member) follows.mirror (all_taken r.words r.pass m.seen c.requires.all follows.took)
    c.new_batch-batch.ensures.0 c.new_batch-batch.ensures.1 c.new_batch-batch.ensures.2 c.add_words.new.batch c.in_ok-add_words.ensures in
    let seen : c.show.new.m.seen ≡ length (all_of r.pass) = ap (λ (x : Mirror). x.seen) c.show.ensures.rest ∙ c.in_ok-ready.ensures.ends.1 ∙ gathers.seen in
    (ap (λ (x : Mirror). x.session.state) c.show.ensures.rest ∙ ap (λ (x : Mirror). x.session.state) c.make_ready.ensures.same, omega (arith, seen, member.within))
