-- Jobs are made of the parts of a script, run, and handed in.
use Rattle.std.proofs.Common.{◌≡◌, ◌∙◌, inl, inr, ⊎_elim, ℕ, suc, ◌+◌, ◌<◌, ◌≤◌, Bool, true, false, List, [], ◌∷◌, ◌++◌, length, map, take, refl, sym, ap, subst, arith, append_assoc, append-nil, length-append}
use Rattle.std.specs.Prelude.{All, ◌&&◌, reverse}
use Rattle.std.proofs.lemmas.List.{length-map, length-reverse, map-append, reverse-append, reverse-reverse, take-append-le}
use Rattle.std.proofs.lemmas.List.Elements.{All-cons, All-head, All-nil, All-tail}
use Rattle.std.proofs.Math.Seq.{take-append-add, take-append_seam}
use Rattle.dv_model.specs.declared.types.Command.{Command}
use Rattle.dv_model.specs.declared.types.Reply.{Reply}
use Rattle.dv_model.specs.Journals.{Log}
use Rattle.dv_serving.specs.Outputs.{Output}
use Rattle.dv_serving.specs.Servable.{IsServable}
use Rattle.dv_serving.proofs.Counting.{rose_more, rose_none, rose_since}
use Rattle.dv_keeper.specs.Sessions.{AreNewSessions, IsNewSession}
use Rattle.dv_parts.specs.declared.parts.Part.{Part}
use Rattle.dv_parts.specs.Interleaving.{commands_by_part}
use Rattle.dv_parts.specs.Texts.{transcript_text, transcripts_text}
use Rattle.dv_parts.proofs.Texts.{transcripts_go_on}
use Rattle.dv_member.specs.Members.{Member, log_seen}
use Rattle.dv_stories.specs.Stories.{Story}
use Rattle.dv_runner.specs.Runs.{HasRun, HaveRun, progress_of}
use Rattle.dv_runner.specs.Works.{IsReady, Work}
use Rattle.dv_threads.specs.Jobs.{FailsMore, FailsSo, AllAnsweredAs, AnsweredAs, AreJobsOf, AreShort, AreWhole, HasServed, HaveServed, HandsIn, IsJobOf, WritesMore, WritesText}
use Rattle.dv_threads.specs.Sessions.{HasTold, HaveTold}

-- ---- the last of a reversed list is the first

pub record IsFirst {X : Type 0} (all left : List X) (x : X) : Type 0 where
  pub rest : List X
  pub is : all ≡ x ∷ rest
  pub left_is : left ≡ reverse rest

pub popped : {X : Type 0} (all left : List X) (x : X) → reverse all ≡ left ++ x ∷ [] → IsFirst all left x
popped all left x e = record {
  rest = reverse left;
  is = sym (reverse-reverse all) ∙ ap reverse e ∙ reverse-append left (x ∷ []);
  left_is = sym (reverse-reverse left);
}

-- ---- jobs of parts

pub jobs_more : (start : Log) (first : ℕ) (parts : List Part) (jobs : List Work) (p : Part) (j : Work) → AreJobsOf start first parts jobs → IsJobOf start (first + length jobs) p j → AreJobsOf start first (parts ++ p ∷ []) (jobs ++ j ∷ [])
jobs_more start first [] [] p j are is = (subst (λ (n : ℕ). IsJobOf start n p j) (omega arith) is, tt)
jobs_more start first (q ∷ parts) (k ∷ jobs) p j are is =
    let same : first + length (k ∷ jobs) ≡ first + 1 + length jobs = omega arith in
    (are.0, jobs_more start (first + 1) parts jobs p j are.1 (subst (λ (n : ℕ). IsJobOf start n p j) same is))
jobs_more start first [] (k ∷ jobs) p j are is = absurd are
jobs_more start first (q ∷ parts) [] p j are is = absurd are

-- ---- their run

answered_as : (b whole : Bool) (answered asked : ℕ) → whole ≡ b → (whole ≡ true → answered ≡ asked) → (whole ≡ false → answered < asked) → AnsweredAs b answered asked
answered_as true whole answered asked is all few = all is
answered_as false whole answered asked is all few = few is

module _ (start : Log) (count : ℕ) (honest : Type 0) where
  run_one : (number : ℕ) (p : Part) (old new : Work) → IsJobOf start number p old → HasRun start count honest old new → honest → HasServed start count number p new
  run_one number p old new job run h =
      let t = run.told h in
      let s = t.transcript in
      record {
        replies = t.replies;
        told = record {
          progress = progress_of new.session t.replies;
          story =
              subst (λ (cs : List Command). Story (log_seen start new.session) count number cs t.replies (progress_of new.session t.replies)) job.commands
              (subst (λ (n : ℕ). Story (log_seen start new.session) count n old.commands t.replies (progress_of new.session t.replies)) (run.number ∙ job.number_is) s.story);
          wrote = refl;
          refused = s.failures;
        };
        text = s.text ∙ ap (λ name. transcript_text name t.replies) (t.name ∙ job.name);
        whole =
            subst (λ (n : ℕ). AnsweredAs new.whole (length t.replies) n) (ap length job.commands)
            (answered_as new.whole new.whole (length t.replies) (length old.commands) refl (λ is. t.many ∙ (run.whole is).0) (λ is. omega (arith, t.many, run.short is)));
      }

  pub have_served : (first : ℕ) (parts : List Part) (olds news : List Work) → AreJobsOf start first parts olds → HaveRun start count honest olds news → HaveServed start count honest first parts news
  have_served first [] [] [] are run = tt
  have_served first (p ∷ parts) (old ∷ olds) (new ∷ news) are run = (run_one first p old new are.0 run.0, have_served (first + 1) parts olds news are.1 run.1)
  have_served first [] [] (new ∷ news) are run = absurd run
  have_served first [] (old ∷ olds) news are run = absurd are
  have_served first (p ∷ parts) [] news are run = absurd are
  have_served first (p ∷ parts) (old ∷ olds) [] are run = absurd run

-- ---- handed in

told_more : (start : Log) (count first : ℕ) (asks : List (List Command)) (replies : List (List (List Reply))) (sessions : List Member) (ask : List Command) (told : List (List Reply)) (s : Member)
    → HaveTold start count first asks replies sessions → HasTold start count (first + length sessions) ask told s → HaveTold start count first (asks ++ ask ∷ []) (replies ++ told ∷ []) (sessions ++ s ∷ [])
told_more start count first [] [] [] ask told s have has = (subst (λ (n : ℕ). HasTold start count n ask told s) (omega arith) has, tt)
told_more start count first (a ∷ asks) (r ∷ replies) (t ∷ sessions) ask told s have has =
    let same : first + length (t ∷ sessions) ≡ first + 1 + length sessions = omega arith in
    (have.0, told_more start count (first + 1) asks replies sessions ask told s have.1 (subst (λ (n : ℕ). HasTold start count n ask told s) same has))
told_more start count first [] [] (t ∷ sessions) ask told s have has = absurd have
told_more start count first [] (r ∷ replies) [] ask told s have has = absurd have
told_more start count first [] (r ∷ replies) (t ∷ sessions) ask told s have has = absurd have
told_more start count first (a ∷ asks) [] [] ask told s have has = absurd have
told_more start count first (a ∷ asks) [] (t ∷ sessions) ask told s have has = absurd have
told_more start count first (a ∷ asks) (r ∷ replies) [] ask told s have has = absurd have

-- as many of each
pub record AreAsMany (asks : List (List Command)) (replies : List (List (List Reply))) (sessions : List Member) : Type 0 where
  pub told : length replies ≡ length asks
  pub sessions_are : length sessions ≡ length asks

pub as_many : (start : Log) (count first : ℕ) (asks : List (List Command)) (replies : List (List (List Reply))) (sessions : List Member) → HaveTold start count first asks replies sessions → AreAsMany asks replies sessions
as_many start count first [] [] [] have = record { told = refl; sessions_are = refl }
as_many start count first (a ∷ asks) (r ∷ replies) (t ∷ sessions) have = let rest = as_many start count (first + 1) asks replies sessions have.1 in record { told = ap suc rest.told; sessions_are = ap suc rest.sessions_are }
as_many start count first [] [] (t ∷ sessions) have = absurd have
as_many start count first [] (r ∷ replies) [] have = absurd have
as_many start count first [] (r ∷ replies) (t ∷ sessions) have = absurd have
as_many start count first (a ∷ asks) [] [] have = absurd have
as_many start count first (a ∷ asks) [] (t ∷ sessions) have = absurd have
as_many start count first (a ∷ asks) (r ∷ replies) [] have = absurd have

whole_more : (asks : List (List Command)) (replies : List (List (List Reply))) (ask : List Command) (told : List (List Reply)) → AreWhole asks replies → length told ≡ length ask → AreWhole (asks ++ ask ∷ []) (replies ++ told ∷ [])
whole_more [] [] ask told are is = (is, tt)
whole_more (a ∷ asks) (r ∷ replies) ask told are is = (are.0, whole_more asks replies ask told are.1 is)
whole_more [] (r ∷ replies) ask told are is = absurd are
whole_more (a ∷ asks) [] ask told are is = absurd are

short_last : (asks : List (List Command)) (replies : List (List (List Reply))) (ask : List Command) (told : List (List Reply)) → length replies ≡ length asks → length told < length ask → AreShort (asks ++ ask ∷ []) (replies ++ told ∷ [])
short_last [] [] ask told even less = inl less
short_last (a ∷ asks) (r ∷ replies) ask told even less = inr (short_last asks replies ask told (omega (arith, even)) less)
short_last [] (r ∷ replies) ask told even less = absurd (omega (arith, even))
short_last (a ∷ asks) [] ask told even less = absurd (omega (arith, even))

short_more : (asks more : List (List Command)) (replies others : List (List (List Reply))) → AreShort asks replies → AreShort (asks ++ more) (replies ++ others)
short_more [] more replies others short = absurd short
short_more (a ∷ asks) more [] others short = absurd short
short_more (a ∷ asks) more (r ∷ replies) others short = ⊎_elim inl (λ later. inr (short_more asks more replies others later)) short

answered_more : (so_far whole : Bool) (asks : List (List Command)) (replies : List (List (List Reply))) (ask : List Command) (told : List (List Reply)) → length replies ≡ length asks → AllAnsweredAs so_far asks replies → AnsweredAs whole (length told) (length ask)
    → AllAnsweredAs (so_far && whole) (asks ++ ask ∷ []) (replies ++ told ∷ [])
answered_more true true asks replies ask told even are is = whole_more asks replies ask told are is
answered_more true false asks replies ask told even are is = short_last asks replies ask told even is
answered_more false true asks replies ask told even are is = short_more asks (ask ∷ []) replies (told ∷ []) are
answered_more false false asks replies ask told even are is = short_more asks (ask ∷ []) replies (told ∷ []) are

text_more : (so_far failed : Bool) (text more old mid new : List ℕ) → WritesText so_far text old mid → WritesMore so_far failed more mid new → WritesText failed (text ++ more) old new
text_more true true text more old mid new wrote again = (wrote.0, omega (arith, wrote.1, length-append text more), again.1 ∙ wrote.2 ∙ ap (λ (t : List ℕ). old ++ t) (sym (take-append-le wrote.0 text more wrote.1)))
text_more true false text more old mid new wrote again = absurd (let e = again.0 in cc)
text_more false false text more old mid new wrote again = again ∙ ap (λ (t : List ℕ). t ++ more) wrote ∙ append_assoc old text more
text_more false true text more old mid new wrote again = (
  length text + again.0,
  omega (arith, again.1, length-append text more),
  again.2 ∙ ap (λ (t : List ℕ). t ++ take again.0 more) wrote ∙ append_assoc old text (take again.0 more) ∙ ap (λ (t : List ℕ). old ++ t) (sym (take-append-add text more again.0)),
)

one_text : (name : List ℕ) (told : List (List Reply)) → transcripts_text (name ∷ []) (told ∷ []) ≡ transcript_text name told
one_text name told = append-nil (transcript_text name told)

module _ (start : Log) (count : ℕ) (honest : Type 0) (parts : List Part) (sessions : List Member) (so_far failed_before : Bool) (out : Output) where
  pub handed_more : (p : Part) (j : Work) (failed : Bool) (now : List ℕ) → HandsIn start count honest parts sessions so_far failed_before out → (honest → HasServed start count (1 + length sessions) p j)
      → (out.told → WritesMore failed_before failed j.replies.text out.taken_now now) → HandsIn start count honest (parts ++ p ∷ []) (sessions ++ j.session ∷ []) (so_far && j.whole) failed (record out { taken_now = now })
  handed_more p j failed now hands served wrote = record {
    many = length-append sessions (j.session ∷ []) ∙ omega (arith, hands.many, length-append parts (p ∷ []));
    handed = λ h.
        let before = hands.handed h in
        let one = served h in
        let asks : List (List Command) = commands_by_part parts in
        let all : asks ++ p.commands ∷ [] ≡ commands_by_part (parts ++ p ∷ []) = sym (map-append (λ (q : Part). q.commands) parts (p ∷ [])) in
        let names = sym (map-append (λ (q : Part). q.name) parts (p ∷ [])) in
        let many = as_many start count 1 asks before.replies sessions before.told in
        let replies : List (List (List Reply)) = before.replies ++ one.replies ∷ [] in
        let name_count : length before.replies ≡ length (map (λ (q : Part). q.name) parts) = omega (arith, many.told, length-map parts (λ (q : Part). q.commands), length-map parts (λ (q : Part). q.name)) in
        let text : transcripts_text (map (λ (q : Part). q.name) parts) before.replies ++ j.replies.text ≡ transcripts_text (map (λ (q : Part). q.name) (parts ++ p ∷ [])) replies =
        ap (λ (t : List ℕ). transcripts_text (map (λ (q : Part). q.name) parts) before.replies ++ t) (one.text ∙ sym (one_text p.name one.replies))
        ∙ sym (transcripts_go_on (map (λ (q : Part). q.name) parts) (p.name ∷ []) before.replies (one.replies ∷ []) name_count)
        ∙ ap (λ ns. transcripts_text ns replies) names in
        record {
          replies = replies;
          told = subst (λ (cs : List (List Command)). HaveTold start count 1 cs replies (sessions ++ j.session ∷ [])) all (told_more start count 1 asks before.replies sessions p.commands one.replies j.session before.told one.told);
          answered = subst (λ (cs : List (List Command)). AllAnsweredAs (so_far && j.whole) cs replies) all (answered_more so_far j.whole asks before.replies p.commands one.replies many.told before.answered one.whole);
          output = λ told.
              subst (λ (t : List ℕ). WritesText failed t out.taken now) text
              (text_more failed_before failed (transcripts_text (map (λ (q : Part). q.name) parts) before.replies) j.replies.text out.taken out.taken_now now (before.output told) (wrote told));
        };
  }

-- none yet
pub handed_none : (start : Log) (count : ℕ) (honest told : Type 0) (taken : List ℕ) → HandsIn start count honest [] [] true false (record { told = told; taken = taken; taken_now = taken })
handed_none start count honest told taken = record { many = refl; handed = λ h. record { replies = []; told = tt; answered = tt; output = λ tells. sym (append-nil taken) } }

-- ---- jobs while they are handed in

-- these are left, the last first, and the others were handed in
pub record Handing (start : Log) (count : ℕ) (honest : Type 0) (parts : List Part) (sessions : List Member) (jobs : List Work) (whole failed : Bool) (out : Output) : Type 0 where
  pub done : List Part
  pub left : List Part
  pub others : List Work
  pub all_is : done ++ left ≡ parts
  pub jobs_is : jobs ≡ reverse others
  pub served : HaveServed start count honest (1 + length sessions) left others
  pub hands : HandsIn start count honest done sessions whole failed out

module _ (start : Log) (count : ℕ) (honest : Type 0) (parts : List Part) where
  pub handing_first : (jobs : List Work) (told : Type 0) (taken : List ℕ) → HaveServed start count honest 1 parts jobs → Handing start count honest parts [] (reverse jobs) true false (record { told = told; taken = taken; taken_now = taken })
  handing_first jobs told taken served = record { done = []; left = parts; others = jobs; all_is = refl; jobs_is = refl; served = served; hands = handed_none start count honest told taken }

  pub handing_more : (sessions : List Member) (jobs now : List Work) (j : Work) (whole failed_before failed : Bool) (out : Output) (taken : List ℕ) → Handing start count honest parts sessions jobs whole failed_before out → jobs ≡ now ++ j ∷ []
      → (out.told → WritesMore failed_before failed j.replies.text out.taken_now taken) → Handing start count honest parts (sessions ++ j.session ∷ []) now (whole && j.whole) failed (record out { taken_now = taken })
  handing_more sessions jobs now j whole failed_before failed out taken so_far is wrote =
      let first = popped so_far.others now j (sym so_far.jobs_is ∙ is) in
      by_left so_far.left so_far.all_is first.rest (subst (λ (js : List Work). HaveServed start count honest (1 + length sessions) so_far.left js) first.is so_far.served) first.left_is
    where
      by_left : (left : List Part) → so_far.done ++ left ≡ parts → (rest : List Work) → HaveServed start count honest (1 + length sessions) left (j ∷ rest) → now ≡ reverse rest
          → Handing start count honest parts (sessions ++ j.session ∷ []) now (whole && j.whole) failed (record out { taken_now = taken })
      by_left [] all_is rest served left_is = absurd served
      by_left (p ∷ left) all_is rest served left_is = record {
        done = so_far.done ++ p ∷ [];
        left = left;
        others = rest;
        all_is = append_assoc so_far.done (p ∷ []) left ∙ all_is;
        jobs_is = left_is;
        served = subst (λ (n : ℕ). HaveServed start count honest n left rest) (omega (arith, length-append sessions (j.session ∷ []))) served.1;
        hands = handed_more start count honest so_far.done sessions whole failed_before out p j failed taken so_far.hands served.0 wrote;
      }

  pub handing_last : (sessions : List Member) (jobs : List Work) (whole failed : Bool) (out : Output) → Handing start count honest parts sessions jobs whole failed out → jobs ≡ [] → HandsIn start count honest parts sessions whole failed out
  handing_last sessions jobs whole failed out so_far none = by_others so_far.others (sym so_far.jobs_is ∙ none) so_far.left so_far.all_is so_far.served
    where
      by_others : (others : List Work) → reverse others ≡ [] → (left : List Part) → so_far.done ++ left ≡ parts → HaveServed start count honest (1 + length sessions) left others → HandsIn start count honest parts sessions whole failed out
      by_others [] empty [] all_is served = subst (λ (ps : List Part). HandsIn start count honest ps sessions whole failed out) (sym (append-nil so_far.done) ∙ all_is) so_far.hands
      by_others [] empty (p ∷ left) all_is served = absurd served
      by_others (o ∷ others) empty left all_is served = absurd (omega (arith, ap length empty, length-reverse (o ∷ others)))

-- ---- jobs while they are made

-- of these parts and sessions, the last first, jobs are to be made yet
pub record Making (start : Log) (all : List Part) (room : ℕ) (sessions : List Member) (parts : List Part) (jobs : List Work) : Type 0 where
  pub done : List Part
  pub left : List Part
  pub others : List Member
  pub all_is : done ++ left ≡ all
  pub parts_are : parts ≡ reverse left
  pub sessions_are : sessions ≡ reverse others
  pub even : length others ≡ length left
  pub new : AreNewSessions start (1 + length jobs) others
  pub servable : All (λ (p : Part). All IsServable p.commands) left
  pub made : AreJobsOf start 1 done jobs
  pub fits : length jobs + length left ≤ room

pub making_first : (start : Log) (all : List Part) (room : ℕ) (sessions : List Member) → length sessions ≡ length all → length all ≤ room → AreNewSessions start 1 sessions → All (λ (p : Part). All IsServable p.commands) all → Making start all room (reverse sessions) (reverse all) []
making_first start all room sessions even fits new servable = record { done = []; left = all; others = sessions; all_is = refl; parts_are = refl; sessions_are = refl; even = even; new = new; servable = servable; made = tt; fits = omega (arith, fits) }

-- the next part, with the session of its number
pub record NextMade (start : Log) (all : List Part) (room : ℕ) (sessions_now : List Member) (parts_now : List Part) (jobs : List Work) (p : Part) (s : Member) : Type 0 where
  pub new : IsNewSession start s.number s
  pub servable : All IsServable p.commands
  pub fits : length jobs < room
  pub more : (j : Work) → j.session ≡ s → j.commands ≡ p.commands → j.replies.session ≡ p.name → IsReady start j → Making start all room sessions_now parts_now (jobs ++ j ∷ [])

module _ (start : Log) (all : List Part) (room : ℕ) (sessions : List Member) (parts : List Part) (jobs : List Work) (making : Making start all room sessions parts jobs) where
  pub some_left : (parts_now : List Part) (p : Part) → parts ≡ parts_now ++ p ∷ [] → 0 < length sessions
  some_left parts_now p is =
      let first = popped making.left parts_now p (sym making.parts_are ∙ is) in
      omega (arith, ap length making.sessions_are, length-reverse making.others, making.even, ap length first.is)

  pub next_made : (sessions_now : List Member) (parts_now : List Part) (p : Part) (s : Member) → parts ≡ parts_now ++ p ∷ [] → sessions ≡ sessions_now ++ s ∷ [] → NextMade start all room sessions_now parts_now jobs p s
  next_made sessions_now parts_now p s parts_is sessions_is =
      let part = popped making.left parts_now p (sym making.parts_are ∙ parts_is) in
      let session = popped making.others sessions_now s (sym making.sessions_are ∙ sessions_is) in
      let new : AreNewSessions start (1 + length jobs) (s ∷ session.rest) = subst (λ (ss : List Member). AreNewSessions start (1 + length jobs) ss) session.is making.new in
      let number : s.number ≡ 1 + length jobs = ap (λ (x : Member). x.number) new.0.is in
      let servable : All (λ (q : Part). All IsServable q.commands) (p ∷ part.rest) = subst (λ (ps : List Part). All (λ (q : Part). All IsServable q.commands) ps) part.is making.servable in
      record {
        new = subst (λ (n : ℕ). IsNewSession start n s) (sym number) new.0;
        servable = All-head (λ (q : Part). All IsServable q.commands) p part.rest servable;
        fits = omega (arith, making.fits, ap length part.is);
        more = λ j session_is commands name ready. record {
          done = making.done ++ p ∷ [];
          left = part.rest;
          others = session.rest;
          all_is = append_assoc making.done (p ∷ []) part.rest ∙ ap (λ (ps : List Part). making.done ++ ps) (sym part.is) ∙ making.all_is;
          parts_are = part.left_is;
          sessions_are = session.left_is;
          even = omega (arith, making.even, ap length part.is, ap length session.is);
          new = subst (λ (n : ℕ). AreNewSessions start n session.rest) (omega (arith, length-append jobs (j ∷ []))) new.1;
          servable = All-tail (λ (q : Part). All IsServable q.commands) p part.rest servable;
          made = jobs_more start 1 making.done jobs p j making.made (record { ready = ready; number_is = ap (λ (x : Member). x.number) session_is ∙ number; commands = commands; name = name });
          fits = omega (arith, making.fits, ap length part.is, length-append jobs (j ∷ []));
        };
      }

  pub all_made : parts ≡ [] → AreJobsOf start 1 all jobs
  all_made none = by_left making.left (sym making.parts_are ∙ none) making.all_is
    where
      by_left : (left : List Part) → reverse left ≡ [] → making.done ++ left ≡ all → AreJobsOf start 1 all jobs
      by_left [] empty all_is = subst (λ (ps : List Part). AreJobsOf start 1 ps jobs) (sym (append-nil making.done) ∙ all_is) making.made
      by_left (p ∷ left) empty all_is = absurd (omega (arith, ap length empty, length-reverse (p ∷ left)))

-- ---- as many jobs

pub jobs_ready : (start : Log) (first : ℕ) (parts : List Part) (jobs : List Work) → AreJobsOf start first parts jobs → All (IsReady start) jobs
jobs_ready start first [] [] are = All-nil (IsReady start)
jobs_ready start first (p ∷ parts) (j ∷ jobs) are = All-cons (IsReady start) j jobs are.0.ready (jobs_ready start (first + 1) parts jobs are.1)
jobs_ready start first [] (j ∷ jobs) are = absurd are
jobs_ready start first (p ∷ parts) [] are = absurd are

pub jobs_many : (start : Log) (first : ℕ) (parts : List Part) (jobs : List Work) → AreJobsOf start first parts jobs → length jobs ≡ length parts
jobs_many start first [] [] are = refl
jobs_many start first (p ∷ parts) (j ∷ jobs) are = ap suc (jobs_many start (first + 1) parts jobs are.1)
jobs_many start first [] (j ∷ jobs) are = absurd are
jobs_many start first (p ∷ parts) [] are = absurd are

pub run_many : (start : Log) (count : ℕ) (honest : Type 0) (olds news : List Work) → HaveRun start count honest olds news → length news ≡ length olds
run_many start count honest [] [] run = refl
run_many start count honest (old ∷ olds) (new ∷ news) run = ap suc (run_many start count honest olds news run.1)
run_many start count honest [] (new ∷ news) run = absurd run
run_many start count honest (old ∷ olds) [] run = absurd run

-- what was written to a slice of all of a list is the list
pub written_back : {X : Type 0} (n : ℕ) (new rest : List X) → n ≡ length new → take n (new ++ rest) ≡ new
written_back n new rest e = ap (λ k. take k (new ++ rest)) e ∙ take-append_seam new rest

-- an output that failed still has a count that rose
pub fails_on : (before_failed failed : Bool) (first mid now : ℕ) → first ≤ mid → FailsSo before_failed first mid → FailsMore before_failed failed mid now → FailsSo failed first now
fails_on true failed first mid now later rose more = subst (λ (b : Bool). FailsSo b first now) (sym more.0) (rose_more 1 first mid now rose more.1)
fails_on false true first mid now later rose more = rose_since 0 first mid now (rose_none first mid later) more
fails_on false false first mid now later rose more = tt
