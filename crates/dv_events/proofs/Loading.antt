-- Sessions are opened, and load what is published.
use Rattle.std.proofs.Common.{◌≡◌, ◌∙◌, ℕ, ◌+◌, ◌<◌, ◌≤◌, Bool, false, List, [], ◌∷◌, ◌++◌, length, Some, None, ap, append-nil, arith, refl, subst, sym}
use Rattle.std.specs.Prelude.{◌≢◌, ◌^◌, All, map}
use Rattle.std.proofs.lemmas.Bool.{le-leb}
use Rattle.std.proofs.lemmas.List.Elements.{All-cons, All-head, All-nil, All-tail}
use mathlib.Core.List.{IsPrefix}
use Rattle.dv_model.specs.declared.types.Entry.{Entry}
use Rattle.dv_model.specs.Journals.{IsU32, Log}
use Rattle.dv_model.specs.Sessions.{new_session}
use Rattle.dv_interleavings.specs.Worlds.{World, Session, loaded_number, only_log}
use Rattle.dv_promises.specs.Standing.{Stands}
use Rattle.dv_promises.proofs.Ending.{alone}
use Rattle.dv_promises.proofs.Holding.{holds}
use Rattle.dv_schedules.specs.Calls.{Make, Refresh, all_called, made, made_session}
use Rattle.dv_schedules.proofs.Calls.{make_opens}
use Rattle.dv_front.specs.declared.notes.Note.{Note}
use Rattle.dv_front.proofs.Prefixes.{prefix_self, prefix_whole}
use Rattle.dv_front.specs.Rolls.{ListingView}
use Rattle.dv_notes.specs.Logs.{log_of}
use Rattle.dv_tries.specs.Tries.{Try}
use Rattle.dv_member.specs.Calls.{IsAsBefore}
use Rattle.dv_member.specs.Members.{IsSession, Member, notes_of}
use Rattle.dv_keeper.specs.Sessions.{AreNewSessions, IsNewSession}
use Rattle.dv_events.specs.Worlds.{AreOthers, Conversation, History, IsAtWorld, IsIn, IsUnanswered, CallsLead, PromisesHold}
use Rattle.dv_events.specs.Loads.{FailedRefreshStays, GatherLoads, MadeSessionsOpen, NothingHappens, RefreshLoads, RejoinLoads, seen_by}
use Rattle.dv_events.proofs.Stepping.{Answers, IsOf, lead, mine, none, none_more, steps_loaded, stands_on, steps_none, with}

-- ---- the beginning

new_is_in : (start : Log) (n number : ℕ) (s : Member) → start.entries ≡ [] → IsU32 n → 1 ≤ number → number ≤ n → IsNewSession start number s → IsIn [] (made start n) (with s [])
new_is_in start n number s fresh many low high is =
    let nothing : length start.entries ≡ 0 = ap (λ (es : List Entry). length es) fresh in
    let number_is : s.number ≡ number = ap (λ (x : Member). x.number) is.is in
    let one = le-leb 1 number low in
    let other = le-leb number n high in
    let there : (made start n).sessions number ≡ Some (made_session (length start.entries)) = rw (one, other) refl in
    let short : IsU32 number = small (2 ^ 32) many in
    record {
      number = subst IsU32 (sym number_is) short;
      begins = subst (λ (ns : List Note). IsPrefix ns []) (sym is.nothing) (prefix_self []);
      session = made_session (length start.entries);
      lives = ap (made start n).sessions number_is ∙ there;
      state = ap (λ (k : ℕ). record new_session { told = k }) nothing ∙ sym (ap (λ (x : Member). x.follower.state) is.is);
      seen = nothing ∙ sym (ap (λ (x : Member). x.seen) is.is);
      answers = refl;
      wrote = subst (λ (b : Bool). IsUnanswered b (length start.entries) None) (sym (ap (λ (x : Member). x.spent) is.is)) refl;
    }
  where
    small : (limit : ℕ) → n < limit → number < limit
    small limit less = omega (arith, less, high)

new_are_in : (start : Log) (n number : ℕ) (ss : List Member) → start.entries ≡ [] → IsU32 n → 1 ≤ number → number + length ss ≤ n + 1 → AreNewSessions start number ss → All (IsIn [] (made start n)) (map (λ s. with s []) ss)
new_are_in start n number [] fresh many low high are = All-nil (IsIn [] (made start n))
new_are_in start n number (s ∷ ss) fresh many low high are =
    All-cons (IsIn [] (made start n)) (with s []) (map (λ s. with s []) ss) (new_is_in start n number s fresh many low (omega (arith, high)) are.0) (new_are_in start n (number + 1) ss fresh many (omega arith) (omega (arith, high)) are.1)

pub sessions_open : MadeSessionsOpen
sessions_open start ss is many are =
    let nothing : length start.entries ≡ 0 = ap (λ (es : List Entry). length es) is.fresh in
    let entries : start.entries ≡ start.entries ++ [] = sym (append-nil start.entries) in
    let log_is : start ≡ log_of start [] = (λ i. record start { entries = entries i }) in
    let stands : Stands (made start (length ss)) = subst Stands (make_opens start (length ss)) (stands_on (only_log start) (Make (length ss)) tt (alone start is.sound)) in
    subst (λ (w : World). IsAtWorld start (record { notes = []; tries = [] }) (map (λ s. with s []) ss) w) (sym (make_opens start (length ss)))
    (record {
      stands = stands;
      notes_are = record { sound = is.sound; fresh = is.fresh; good = tt };
      log = log_is;
      published = nothing;
      pending = tt;
      sessions = new_are_in start (length ss) 1 ss is.fresh many (omega arith) (omega arith) are;
    })

-- ---- loads

-- a session whose state stays sees all that the world has published
pub loaded_in : (start : Log) (count : ℕ) (old new : Member) (h : History) → IsSession start count new → old.spent ≡ false → new.spent ≡ false → new.number ≡ old.number → new.follower.state ≡ old.follower.state → notes_of new ≡ h.notes
    → (w : World) (answers : Answers) (rest : List Conversation) → AreOthers old rest → IsAtWorld start h (with old answers ∷ rest) w → IsAtWorld start h (with new answers ∷ rest) (all_called w (Refresh old.number ∷ []))
loaded_in start count old new h session fresh fresh_now number state notes w answers rest others is_at =
    let one = mine start h old answers rest others w is_at in
    let nothing = none start h old answers rest others w is_at fresh in
    let many : length h.notes ≡ new.seen = ap (λ (ns : List Note). length ns) (sym notes) ∙ session.seen in
    let seen : loaded_number w.published one.session.wrote ≡ new.seen = ap (loaded_number w.published) nothing ∙ is_at.published ∙ many in
    let after : Session = record one.session { seen = loaded_number w.published one.session.wrote } in
    lead start h old answers rest others w is_at h (all_called w (Refresh old.number ∷ [])) (with new answers) after (prefix_self h.notes)
    (steps_loaded start h w w old.number one.session (steps_none start h old answers rest others w is_at)) (stands_on w (Refresh old.number) tt is_at.stands) number
    (record {
      begins = subst (λ (ns : List Note). IsPrefix ns h.notes) (sym notes) (prefix_self h.notes);
      state = one.state ∙ sym state;
      seen = seen;
      answers = one.answers;
      wrote = subst (λ (b : Bool). IsUnanswered b after.seen after.wrote) (sym fresh_now) nothing;
    })

loads : (start : Log) (count : ℕ) (old new : Member) (tries : List Try) → IsSession start count new → old.spent ≡ false → new.spent ≡ false → new.number ≡ old.number → new.follower.state ≡ old.follower.state
    → CallsLead start (Refresh old.number ∷ []) (seen_by new tries) (seen_by new tries) old new []
loads start count old new tries session fresh fresh_now number state w answers rest others is_at =
    none_more start (seen_by new tries) new answers rest (all_called w (Refresh old.number ∷ []))
    (loaded_in start count old new (seen_by new tries) session fresh fresh_now number state refl w answers rest others is_at)

pub refresh_loads : RefreshLoads
refresh_loads start count taken old new tries session fresh is =
    loads start count old new tries session fresh (ap (λ (x : Member). x.spent) is ∙ fresh) (ap (λ (x : Member). x.number) is) (ap (λ (x : Member). x.follower.state) is)

pub rejoin_loads : RejoinLoads
rejoin_loads start count old new tries session fresh is =
    loads start count old new tries session fresh (ap (λ (x : Member). x.spent) is.now ∙ fresh) (ap (λ (x : Member). x.number) is.now) (ap (λ (x : Member). x.follower.state) is.now)

-- two sessions are named in either order
swapped : (start : Log) (h : History) (x y : Conversation) (rest : List Conversation) (w : World) → IsAtWorld start h (x ∷ y ∷ rest) w → IsAtWorld start h (y ∷ x ∷ rest) w
swapped start h x y rest w is =
    let more = All-tail (IsIn h.notes w) x (y ∷ rest) is.sessions in
    record {
      stands = is.stands;
      notes_are = is.notes_are;
      log = is.log;
      published = is.published;
      pending = is.pending;
      sessions = All-cons (IsIn h.notes w) y (x ∷ rest) (All-head (IsIn h.notes w) y rest more)
          (All-cons (IsIn h.notes w) x rest (All-head (IsIn h.notes w) x (y ∷ rest) is.sessions) (All-tail (IsIn h.notes w) y rest more));
    }

pub gather_loads : GatherLoads
gather_loads start count a b a' b' tries w xs ys rest session session' fresh joined same differ others others' is_at =
    let h : History = seen_by a' tries in
    let number : a'.number ≡ a.number = ap (λ (x : Member). x.number) joined.0.now in
    let number' : b'.number ≡ b.number = ap (λ (x : Member). x.number) joined.1.now in
    let v : World = all_called w (Refresh a.number ∷ []) in
    let first : IsAtWorld start h (with a' xs ∷ with b ys ∷ rest) v =
    loaded_in start count a a' h session fresh.0 (ap (λ (x : Member). x.spent) joined.0.now ∙ fresh.0) number (ap (λ (x : Member). x.follower.state) joined.0.now) refl w xs (with b ys ∷ rest)
    (All-cons (λ (x : Conversation). x.session.number ≢ a.number) (with b ys) rest differ others) is_at in
    let apart : a'.number ≢ b.number = (λ e. differ (sym e ∙ number)) in
    let second : IsAtWorld start h (with b' ys ∷ with a' xs ∷ rest) (all_called v (Refresh b.number ∷ [])) =
    loaded_in start count b b' h session' fresh.1 (ap (λ (x : Member). x.spent) joined.1.now ∙ fresh.1) number' (ap (λ (x : Member). x.follower.state) joined.1.now) (sym same) v ys (with a' xs ∷ rest)
    (All-cons (λ (x : Conversation). x.session.number ≢ b.number) (with a' xs) rest apart others') (swapped start h (with a' xs) (with b ys) rest v first) in
    swapped start h (with b' ys) (with a' xs) rest (all_called v (Refresh b.number ∷ [])) second

-- ---- no event

-- a session with what it had seen, in a world where nothing happens to it
pub same_of : (notes : List Note) (w : World) (refused : ℕ) (old new : Member) (answers : Answers) (is : IsIn notes w (with old answers)) → IsAsBefore (record old { refused = refused }) new → IsOf notes (with new answers) is.session
same_of notes w refused old new answers is same = record {
  begins = subst (λ (ns : List Note). IsPrefix ns notes) (sym same.notes) is.begins;
  state = is.state ∙ sym (ap (λ (x : Member). x.follower.state) same.now);
  seen = is.seen ∙ sym (ap (λ (x : Member). x.seen) same.now);
  answers = is.answers;
  wrote = subst (λ (b : Bool). IsUnanswered b is.session.seen is.session.wrote) (sym (ap (λ (x : Member). x.spent) same.now)) is.wrote;
}

pub nothing_happens : NothingHappens
nothing_happens start refused old new h same w answers rest others is_at =
    let one = mine start h old answers rest others w is_at in
    none_more start h new answers rest w
    (lead start h old answers rest others w is_at h w (with new answers) one.session (prefix_self h.notes) (steps_none start h old answers rest others w is_at) is_at.stands (ap (λ (x : Member). x.number) same.now)
    (same_of h.notes w refused old new answers one same))

pub failed_refresh_stays : FailedRefreshStays
failed_refresh_stays start count old new h session session_now begins is =
    let few : length (notes_of new) ≤ length (notes_of old) = omega (arith, session.seen, session_now.seen, ap (λ (x : Member). x.seen) is) in
    let tables : new.tables ≡ old.tables = ap (λ (x : Member). x.tables) is in
    nothing_happens start old.refused old new h
    (record {
      now = is ∙ ap (λ (t : ListingView). record old { front = new.front; tables = t }) (sym tables);
      notes = sym (prefix_whole (notes_of old) (notes_of new) begins few);
      tables = subst (λ (t : ListingView). IsPrefix old.tables.items t.items) (sym tables) (prefix_self old.tables.items);
    })

-- ---- what holds there

pub promises_hold : PromisesHold
promises_hold start h all w is = holds w is.stands
