use Rattle.std.proofs.Common.{◌≡◌, ◌∙◌, ℕ, List, ap, length, refl, subst, sym, take}
use Rattle.dv_front.specs.declared.notes.Note.{Note}
use Rattle.dv_notes.specs.Logs.{mailbox_behind}
use Rattle.dv_generations.specs.Feeds.{Feed, front_of, journal}
use Rattle.dv_member.specs.Batches.{Gathers}
use Rattle.dv_member.specs.Inside.{all_of}
use Rattle.dv_member.specs.Reaching.{Arrives, IsLast, Knows, arrived}
use Rattle.dv_member.proofs.Arriving.{arrives_on, first_seen, journal_good, last_arrives, leaf_on, own_failed, own_member, own_rest}
use Rattle.dv_member.proofs.Batching.{gathered_records, leads_to, own_batch, own_words}
use Rattle.dv_member.proofs.Members.{known_good, member_kept}
use Rattle.dv_member.proofs.reaching.reach.Goals as goal

pub returns-in_err-take_all-clause-member : goal.returns-in_err-take_all-clause-member
returns-in_err-take_all-clause-member g c =
    own_failed c.args.r.now c.args.m.now c.take_all.new.pass c.take_all.new.leaf c.take_all.new.words c.requires.member c.take_all.ensures.grows c.take_all.ensures.leaf c.take_all.ensures.table
    c.in_err-take_all.ensures.err.0 c.in_err-take_all.ensures.err.1

pub add_words-requires : goal.add_words-requires
add_words-requires g c =
    let r = c.args.r.now in
    let m = c.args.m.now in
    let p = c.take_all.new.pass in
    let words = c.take_all.new.words in
    let now = record r { pass = p; leaf = c.take_all.new.leaf; words = words } in
    let takes = c.in_ok-take_all.ensures.ok in
    let member = own_member r m p c.take_all.new.leaf words c.requires.member c.take_all.ensures.grows c.take_all.ensures.leaf c.take_all.ensures.table takes in
    let rest = own_rest r m p c.take_all.new.leaf words c.requires.member c.take_all.ensures.grows c.take_all.ensures.leaf c.take_all.ensures.table takes in
    own_words g.K.Keeping.start p words m c.new_batch-batch.result (known_good now m member) (member.follows refl).mirror rest c.new_batch-batch.ensures.0 c.new_batch-batch.ensures.1 c.new_batch-batch.ensures.2

pub returns-in_err-add_words-clause-member : goal.returns-in_err-add_words-clause-member
returns-in_err-add_words-clause-member g c =
    own_member c.args.r.now c.args.m.now c.take_all.new.pass c.take_all.new.leaf c.take_all.new.words c.requires.member c.take_all.ensures.grows c.take_all.ensures.leaf c.take_all.ensures.table c.in_ok-take_all.ensures.ok

pub follow_on-requires-clause-batch : goal.follow_on-requires-clause-batch
follow_on-requires-clause-batch g c =
    let r = c.args.r.now in
    let m = c.args.m.now in
    let p = c.take_all.new.pass in
    let words = c.take_all.new.words in
    let start = g.K.Keeping.start in
    let count = g.K.Keeping.count in
    let feed = c.args.feed.now in
    let takes = c.in_ok-take_all.ensures.ok in
    let e = c.take_all.ensures in
    let now = record r { pass = p; leaf = c.take_all.new.leaf; words = words } in
    let member = own_member r m p c.take_all.new.leaf words c.requires.member e.grows e.leaf e.table takes in
    let rest = own_rest r m p c.take_all.new.leaf words c.requires.member e.grows e.leaf e.table takes in
    let batch : Gathers start m.seen (all_of p) c.add_words.new.batch =
    own_batch start p words m c.new_batch-batch.result (known_good now m member) (member.follows refl).mirror rest c.new_batch-batch.ensures.0 c.new_batch-batch.ensures.1 c.new_batch-batch.ensures.2 c.add_words.new.batch
    c.in_ok-add_words.ensures in
    subst (λ (f : Feed). Gathers start m.seen (front_of f r.generation) c.add_words.new.batch) (sym e.feed) (subst (λ (l : List Note). Gathers start m.seen l c.add_words.new.batch) takes.shown.whole batch)

pub returns-in_err-pass-clause-member : goal.returns-in_err-pass-clause-member
returns-in_err-pass-clause-member g c =
    let r = c.args.r.now in
    let m = c.args.m.now in
    let p = c.take_all.new.pass in
    let words = c.take_all.new.words in
    let start = g.K.Keeping.start in
    let count = g.K.Keeping.count in
    let feed = c.args.feed.now in
    let takes = c.in_ok-take_all.ensures.ok in
    let e = c.take_all.ensures in
    let now = record r { pass = p; leaf = c.take_all.new.leaf; words = words } in
    let member = own_member r m p c.take_all.new.leaf words c.requires.member e.grows e.leaf e.table takes in
    let rest = own_rest r m p c.take_all.new.leaf words c.requires.member e.grows e.leaf e.table takes in
    let batch : Gathers start m.seen (all_of p) c.add_words.new.batch =
    own_batch start p words m c.new_batch-batch.result (known_good now m member) (member.follows refl).mirror rest c.new_batch-batch.ensures.0 c.new_batch-batch.ensures.1 c.new_batch-batch.ensures.2 c.add_words.new.batch
    c.in_ok-add_words.ensures in
    let later = record now { leaf = c.follow_on.new.leaf } in
    let knows = subst (λ (f : Feed). Knows g.K.Keeping.roll f c.take_all.new.leaf c.follow_on.new.leaf) e.feed c.follow_on.ensures.leaf in
    let last_member = leaf_on now m c.follow_on.new.leaf member knows in
    last_member

pub make_ready-requires : goal.make_ready-requires
make_ready-requires g c =
    let r = c.args.r.now in
    let m = c.args.m.now in
    let p = c.take_all.new.pass in
    let words = c.take_all.new.words in
    let start = g.K.Keeping.start in
    let count = g.K.Keeping.count in
    let feed = c.args.feed.now in
    let takes = c.in_ok-take_all.ensures.ok in
    let e = c.take_all.ensures in
    let now = record r { pass = p; leaf = c.take_all.new.leaf; words = words } in
    let member = own_member r m p c.take_all.new.leaf words c.requires.member e.grows e.leaf e.table takes in
    let rest = own_rest r m p c.take_all.new.leaf words c.requires.member e.grows e.leaf e.table takes in
    let batch : Gathers start m.seen (all_of p) c.add_words.new.batch =
    own_batch start p words m c.new_batch-batch.result (known_good now m member) (member.follows refl).mirror rest c.new_batch-batch.ensures.0 c.new_batch-batch.ensures.1 c.new_batch-batch.ensures.2 c.add_words.new.batch
    c.in_ok-add_words.ensures in
    let later = record now { leaf = c.follow_on.new.leaf } in
    let knows = subst (λ (f : Feed). Knows g.K.Keeping.roll f c.take_all.new.leaf c.follow_on.new.leaf) e.feed c.follow_on.ensures.leaf in
    let last_member = leaf_on now m c.follow_on.new.leaf member knows in
    let own : Arrives start count feed r.generation c.follow_on.new.leaf p = arrives_on start count feed r.generation c.take_all.new.leaf c.follow_on.new.leaf p knows.begins record { shown = takes.shown; taken = takes.taken; named = e.table } in
    let last : IsLast start count feed r.generation (length feed.parts) c.follow_on.new.leaf c.in_ok-pass.pass =
    subst (λ (f : Feed). IsLast start count f r.generation (length f.parts) c.follow_on.new.leaf c.in_ok-pass.pass) e.feed c.in_ok-pass.ensures.pass in
    let whole = subst (λ (f : Feed). Gathers start m.seen (journal f) c.follow_on.new.batch) e.feed c.in_ok-pass.ensures.batch in
    let good = journal_good start count feed (length feed.parts) c.follow_on.new.leaf (arrived later (length feed.parts) c.in_ok-pass.pass).pass member.start_is refl
    (last_arrives start count feed later (length feed.parts) c.in_ok-pass.pass own last) in
    gathered_records start m.seen (journal feed) c.follow_on.new.batch good whole

pub returns-in_err-ready-clause-member : goal.returns-in_err-ready-clause-member
returns-in_err-ready-clause-member g c =
    let r = c.args.r.now in
    let m = c.args.m.now in
    let p = c.take_all.new.pass in
    let words = c.take_all.new.words in
    let start = g.K.Keeping.start in
    let count = g.K.Keeping.count in
    let feed = c.args.feed.now in
    let takes = c.in_ok-take_all.ensures.ok in
    let e = c.take_all.ensures in
    let now = record r { pass = p; leaf = c.take_all.new.leaf; words = words } in
    let member = own_member r m p c.take_all.new.leaf words c.requires.member e.grows e.leaf e.table takes in
    let rest = own_rest r m p c.take_all.new.leaf words c.requires.member e.grows e.leaf e.table takes in
    let batch : Gathers start m.seen (all_of p) c.add_words.new.batch =
    own_batch start p words m c.new_batch-batch.result (known_good now m member) (member.follows refl).mirror rest c.new_batch-batch.ensures.0 c.new_batch-batch.ensures.1 c.new_batch-batch.ensures.2 c.add_words.new.batch
    c.in_ok-add_words.ensures in
    let later = record now { leaf = c.follow_on.new.leaf } in
    let knows = subst (λ (f : Feed). Knows g.K.Keeping.roll f c.take_all.new.leaf c.follow_on.new.leaf) e.feed c.follow_on.ensures.leaf in
    let last_member = leaf_on now m c.follow_on.new.leaf member knows in
    member_kept later m c.make_ready.new.m c.make_ready.ensures.same c.make_ready.ensures.mailbox last_member

pub returns-clause-member : goal.returns-clause-member
returns-clause-member g c =
    let r = c.args.r.now in
    let m = c.args.m.now in
    let p = c.take_all.new.pass in
    let words = c.take_all.new.words in
    let start = g.K.Keeping.start in
    let count = g.K.Keeping.count in
    let feed = c.args.feed.now in
    let takes = c.in_ok-take_all.ensures.ok in
    let e = c.take_all.ensures in
    let now = record r { pass = p; leaf = c.take_all.new.leaf; words = words } in
    let member = own_member r m p c.take_all.new.leaf words c.requires.member e.grows e.leaf e.table takes in
    let rest = own_rest r m p c.take_all.new.leaf words c.requires.member e.grows e.leaf e.table takes in
    let batch : Gathers start m.seen (all_of p) c.add_words.new.batch =
    own_batch start p words m c.new_batch-batch.result (known_good now m member) (member.follows refl).mirror rest c.new_batch-batch.ensures.0 c.new_batch-batch.ensures.1 c.new_batch-batch.ensures.2 c.add_words.new.batch
    c.in_ok-add_words.ensures in
    let later = record now { leaf = c.follow_on.new.leaf } in
    let knows = subst (λ (f : Feed). Knows g.K.Keeping.roll f c.take_all.new.leaf c.follow_on.new.leaf) e.feed c.follow_on.ensures.leaf in
    let last_member = leaf_on now m c.follow_on.new.leaf member knows in
    member_kept later m c.make_ready.new.m c.make_ready.ensures.same c.make_ready.ensures.mailbox last_member

pub returns-clause-reached : goal.returns-clause-reached
returns-clause-reached g c =
    let r = c.args.r.now in
    let m = c.args.m.now in
    let p = c.take_all.new.pass in
    let words = c.take_all.new.words in
    let start = g.K.Keeping.start in
    let count = g.K.Keeping.count in
    let feed = c.args.feed.now in
    let takes = c.in_ok-take_all.ensures.ok in
    let e = c.take_all.ensures in
    let now = record r { pass = p; leaf = c.take_all.new.leaf; words = words } in
    let member = own_member r m p c.take_all.new.leaf words c.requires.member e.grows e.leaf e.table takes in
    let rest = own_rest r m p c.take_all.new.leaf words c.requires.member e.grows e.leaf e.table takes in
    let batch : Gathers start m.seen (all_of p) c.add_words.new.batch =
    own_batch start p words m c.new_batch-batch.result (known_good now m member) (member.follows refl).mirror rest c.new_batch-batch.ensures.0 c.new_batch-batch.ensures.1 c.new_batch-batch.ensures.2 c.add_words.new.batch
    c.in_ok-add_words.ensures in
    let later = record now { leaf = c.follow_on.new.leaf } in
    let knows = subst (λ (f : Feed). Knows g.K.Keeping.roll f c.take_all.new.leaf c.follow_on.new.leaf) e.feed c.follow_on.ensures.leaf in
    let last_member = leaf_on now m c.follow_on.new.leaf member knows in
    let own : Arrives start count feed r.generation c.follow_on.new.leaf p = arrives_on start count feed r.generation c.take_all.new.leaf c.follow_on.new.leaf p knows.begins record { shown = takes.shown; taken = takes.taken; named = e.table } in
    let last : IsLast start count feed r.generation (length feed.parts) c.follow_on.new.leaf c.in_ok-pass.pass =
    subst (λ (f : Feed). IsLast start count f r.generation (length f.parts) c.follow_on.new.leaf c.in_ok-pass.pass) e.feed c.in_ok-pass.ensures.pass in
    let whole = subst (λ (f : Feed). Gathers start m.seen (journal f) c.follow_on.new.batch) e.feed c.in_ok-pass.ensures.batch in
    let good = journal_good start count feed (length feed.parts) c.follow_on.new.leaf (arrived later (length feed.parts) c.in_ok-pass.pass).pass member.start_is refl
    (last_arrives start count feed later (length feed.parts) c.in_ok-pass.pass own last) in
    let count_is : c.count.result ≡ length feed.parts = c.count.ensures ∙ ap (λ (f : Feed). length f.parts) (c.follow_on.ensures.feed ∙ e.feed) in
    let seen : take m.seen (journal feed) ≡ take m.seen (all_of p) = first_seen later m (journal feed) last_member takes.shown.seen in
    let live = ap (mailbox_behind start.start) seen ∙ (last_member.follows refl).mirror.live in
    record {
      own = own;
      newest = count_is;
      last = subst (λ (n : ℕ). IsLast start count feed r.generation n c.follow_on.new.leaf c.in_ok-pass.pass) (sym count_is) last;
      ends = leads_to start (journal feed) m c.make_ready.new.m c.follow_on.new.batch c.in_ok-ready.ready good live whole c.make_ready.ensures.mailbox c.in_ok-ready.ensures.ends.0 c.in_ok-ready.ensures.ends.1
          c.in_ok-ready.ensures.leads;
    }
