-- A pending entry is made durable.
use Rattle.std.proofs.Common.{◌≡◌, ◌⊎◌, inl, inr, ℕ, ◌+◌, ◌-◌, ◌≤◌, Bool, true, false, cond, List, [], ◌∷◌, ◌++◌, length, Option, Some, None, refl, sym, ◌∙◌, ap, subst, arith}
use Rattle.std.specs.Prelude.{IfSome, IsSome, slice_get}
use Rattle.std.proofs.lemmas.List.{length_push}
use Rattle.std.proofs.lemmas.List.Elements.{All-cons, All-nil}
use Rattle.std.proofs.lemmas.Option.{none-some, same_Some, slice_get_within}
use Rattle.dv_model.specs.declared.types.Entry.{Entry}
use Rattle.dv_model.specs.declared.types.Group.{Group}
use Rattle.dv_model.specs.Effects.{applied}
use Rattle.dv_model.specs.Journals.{Log, IsSound, IsEntry, at, mark_of}
use Rattle.dv_model.specs.Sessions.{State, group_of}
use Rattle.dv_model.specs.Transcripts.{IsOwn, Turn, WroteEntry, refused_at}
use Rattle.dv_model.proofs.Speaking.{one_of_either, one_or_last}
use Rattle.dv_interleavings.specs.Worlds.{World, Session, Pending, Wrote, with_session, with_entry, with_wrote, synced, length_of, happens, Sync}
use Rattle.dv_promises.specs.Standing.{HasAuthor, IsLive, IsTried, IsWaiting, IsWriting, Stands}
use Rattle.dv_validity.proofs.Going.{same_refusal}
use Rattle.dv_validity.proofs.Logs.{Extends, at_seam, resets_at, valid_at, written_group, written_message, written_sound}
use Rattle.dv_promises.proofs.Going.{live_on, story_on}
use Rattle.dv_validity.proofs.Entries.{group_is_entry}
use Rattle.dv_validity.proofs.Groups.{group_applies, uid_left}
use Rattle.dv_promises.proofs.Logs.{last_extends, with_entry_is, with_last}
use Rattle.dv_promises.proofs.Small.{absent_with, each_with}
use Rattle.dv_promises.proofs.Writing.{not_waiting}

pub value_of : {X : Type 0} (P : X → Type 0) (o : Option X) (x : X) → o ≡ Some x → IfSome o P → P x
value_of P None x e is = absurd (none-some x e)
value_of P (Some y) x e is = subst P (same_Some y x e) is

-- ---- the longer log

module _ (log : Log) (sound : IsSound log) (p : Pending) (start : ℕ) (turns : List Turn) (last : State) (wrote : Option Wrote) (tried : IsTried log start turns last wrote p) where
  abbrev more : Log
  more = with_last log p tried.attempt.mailbox

  pub on : Extends log (with_last log p tried.attempt.mailbox)
  on = last_extends log p tried.attempt.mailbox sound tried.attempt.is_there

  last_entry : IsEntry (record { author = p.author; group = p.group })
  last_entry =
      subst (λ (g : Group). IsEntry (record { author = p.author; group = g })) (sym tried.attempt.group)
      (group_is_entry p.command tried.state.view tried.attempt.mailbox log.guid p.author tried.attempt.good
      (valid_at log sound (length log.entries) tried.attempt.mailbox tried.attempt.is_there) (resets_at log sound (length log.entries) tried.attempt.mailbox tried.attempt.is_there) sound.guids tried.attempt.number
      (uid_left tried.state p.command tried.attempt.mailbox log.rotates (mark_of log (length log.entries)) log.guid (valid_at log sound (length log.entries) tried.attempt.mailbox tried.attempt.is_there) tried.attempt.allowed)
      (subst (λ (g : Group). 1 ≤ length g.records) tried.attempt.group tried.attempt.some))

  pub sound_more : IsSound (with_last log p tried.attempt.mailbox)
  sound_more =
      written_sound log sound p.author p.command p.received p.group tried.attempt.mailbox tried.attempt.is_there last_entry
      (subst (λ (g : Group). IsSome (applied tried.attempt.mailbox g.records)) (sym tried.attempt.group) (group_applies p.command tried.state.view tried.attempt.mailbox log.guid tried.attempt.good))

  -- the entries of others are as before
  pub own_back : (s : ℕ) → (p.author ≡ s → ⊥) → (from k : ℕ) → IsOwn (with_last log p tried.attempt.mailbox) s from k → IsOwn log s from k
  own_back s other from k own =
      elim (one_of_either (λ (e : Entry). e.author ≡ s → ⊥) log.entries (record { author = p.author; group = p.group } ∷ []) k own.entry
      (All-cons (λ (e : Entry). e.author ≡ s → ⊥) (record { author = p.author; group = p.group }) [] other (All-nil (λ (e : Entry). e.author ≡ s → ⊥))) own.is) [
        | inl there ↦ record { later = own.later; entry = own.entry; is = there; by = own.by }
        | inr differs ↦ absurd (differs own.by)
      ]

-- ---- the author's session

-- its entry is the last, and waits for its answer
module _ (log : Log) (sound : IsSound log) (p : Pending) (published : ℕ) (pending : Option Pending) (session : Session) (live : IsLive log published pending p.author session)
    (tried : IsTried log live.story.start live.story.turns session.state session.wrote p) (runs : p.running ≡ true) (met place : ℕ) (is_met : met ≡ length log.entries) (is_place : place ≡ length log.entries + 1) (all : published ≤ length log.entries) where
  abbrev longer : Log
  longer = with_last log p tried.attempt.mailbox

  goes_on : Extends log (with_last log p tried.attempt.mailbox)
  goes_on = last_extends log p tried.attempt.mailbox sound tried.attempt.is_there

  many : length (log.entries ++ record { author = p.author; group = p.group } ∷ []) ≡ length log.entries + 1
  many = omega (arith, length_push log.entries (record { author = p.author; group = p.group }))

  author_writing : IsWriting (with_last log p tried.attempt.mailbox) p.author session.state (record { place = place; met = met; command = p.command })
  author_writing =
      let same : session.state ≡ tried.state = (tried.running runs).0 in
      let view : session.state.view ≡ tried.state.view = ap (λ (x : State). x.view) same in
      let group : p.group ≡ group_of p.command session.state.view tried.attempt.mailbox (with_last log p tried.attempt.mailbox).guid =
      tried.attempt.group ∙ ap (λ v. group_of p.command v tried.attempt.mailbox log.guid) (sym view) ∙ written_group log sound p.author p.command p.received p.group tried.attempt.mailbox tried.attempt.is_there session.state.view in
      let told : session.state.told ≤ length log.entries = subst (λ (x : State). x.told ≤ length log.entries) (sym same) tried.attempt.told in
      record {
        before = tried.attempt.mailbox;
        was_there = ap (at (with_last log p tried.attempt.mailbox)) is_met ∙ goes_on.same_at (length log.entries) (omega arith) ∙ tried.attempt.is_there;
        allowed =
            ap (λ (k : ℕ). refused_at (with_last log p tried.attempt.mailbox) k session.state p.command tried.attempt.mailbox) is_met
            ∙ same_refusal log (with_last log p tried.attempt.mailbox) goes_on (length log.entries) tried.attempt.mailbox session.state p.command None (omega arith) tried.attempt.is_there
            (ap (λ (x : State). refused_at log (length log.entries) x p.command tried.attempt.mailbox) same ∙ tried.attempt.allowed);
        wrote = inl (record {
          behind = omega arith;
          some = subst (λ (g : Group). 1 ≤ length g.records) group tried.attempt.some;
          entry =
              ap (slice_get (log.entries ++ record { author = p.author; group = p.group } ∷ [])) is_met
              ∙ at_seam log.entries (record { author = p.author; group = p.group })
              ∙ ap (λ (g : Group). Some (record { author = p.author; group = g })) group;
          message = written_message log sound p.author p.command p.received p.group tried.attempt.mailbox tried.attempt.is_there;
        });
        told = omega arith;
        there = let all = many in omega arith;
        last = λ j own.
            let within = slice_get_within (log.entries ++ record { author = p.author; group = p.group } ∷ []) j own.entry own.is in
            let all = many in
            let from = own.later in
            omega arith;
      }

  author_live : IsLive (with_last log p tried.attempt.mailbox) published None p.author (record session { wrote = Some (record { place = place; met = met; command = p.command }) })
  author_live = record {
    told = live.told;
    seen = live.seen;
    story = story_on log (with_last log p tried.attempt.mailbox) goes_on p.author session.state session.answers live.story;
    ledger = λ k own. by_place k own (one_or_last log.entries (record { author = p.author; group = p.group }) k own.entry own.is);
    wrote = author_writing;
    loaded = let high = live.seen in omega arith;
    pending = tt;
  }
    where
      by_place : (k : ℕ) (own : IsOwn (with_last log p tried.attempt.mailbox) p.author live.story.start k) → (slice_get log.entries k ≡ Some own.entry) ⊎ (k ≡ length log.entries)
          → WroteEntry live.story.turns k ⊎ IsWaiting (Some (record { place = place; met = met; command = p.command })) k
      by_place k own (inl there) =
          inl (not_waiting live.story.turns session.wrote k (tried.running runs).1 (live.ledger k (record { later = own.later; entry = own.entry; is = there; by = own.by })))
      by_place k own (inr last) = inr (omega arith, omega arith)

-- ---- the world behind it

module _ (w : World) (stands : Stands w) (p : Pending) (session : Session) (is : w.pending ≡ Some p) (runs : p.running ≡ true) (there : w.sessions p.author ≡ Some session) where
  abbrev pub live : IsLive w.log w.published w.pending p.author session
  live = stands.each p.author session there

  abbrev pub tried : IsTried w.log live.story.start live.story.turns session.state session.wrote p
  tried = value_of (λ (q : Pending). q.author ≡ p.author → IsTried w.log live.story.start live.story.turns session.state session.wrote q) w.pending p is live.pending refl

  abbrev pub behind : World
  behind = record w { log = with_last w.log p tried.attempt.mailbox; pending = None }

  abbrev pub write : Wrote
  write = record { place = length_of behind; met = length_of behind - 1; command = p.command }

  stands_behind : Stands (with_session behind p.author (Some (record session { wrote = Some write })))
  stands_behind =
      let sound = stands.sound in
      let more = sound_more w.log sound p live.story.start live.story.turns session.state session.wrote tried in
      let all = many w.log sound p w.published w.pending session live tried runs (length w.log.entries) (length w.log.entries + 1) refl refl stands.published in
      record {
        sound = more;
        published = omega (arith, stands.published, all);
        each = each_with behind p.author _ None behind.log
            (author_live w.log sound p w.published w.pending session live tried runs (length_of behind - 1) (length_of behind) (omega (arith, all)) (omega (arith, all)) stands.published)
            (λ t other differs is_there.
            live_on w.log behind.log (on w.log sound p live.story.start live.story.turns session.state session.wrote tried) t (own_back w.log sound p live.story.start live.story.turns session.state session.wrote tried t differs)
            w.published w.pending other (stands.each t other is_there));
        absent = λ t k gone own.
            let none = absent_with behind p.author _ t gone in
            stands.absent t k none
            (own_back w.log sound p live.story.start live.story.turns session.state session.wrote tried t (λ same. absurd (none-some session (sym none ∙ ap w.sessions (sym same) ∙ there))) w.published k own);
        author = tt;
      }

  synced_is : (P : World → Type 0) → P (with_session behind p.author (Some (record session { wrote = Some write }))) → P (synced w)
  synced_is P holds = rw (is, runs, with_entry_is w.log p tried.attempt.mailbox tried.attempt.is_there, there) holds

-- what holds of the world as it was and of that with the entry holds of the world behind
pub synced_by : (w : World) (stands : Stands w) (P : World → Type 0) → P w
    → ((p : Pending) (session : Session) (is : w.pending ≡ Some p) (runs : p.running ≡ true) (there : w.sessions p.author ≡ Some session)
    → P (with_session (behind w stands p session is runs there) p.author (Some (record session { wrote = Some (write w stands p session is runs there) }))))
    → P (synced w)
synced_by w stands P stays durable = by_pending w.pending refl
  where
    by_one : Option Pending → World
    by_one None = w
    by_one (Some q) = cond q.running (with_wrote (record w { log = with_entry w.log q; pending = None }) q) w

    by_author : (p : Pending) → w.pending ≡ Some p → p.running ≡ true → HasAuthor w p → P (synced w)
    by_author p is runs author = synced_is w stands p author.0 is runs author.1 P (durable p author.0 is runs author.1)

    by_running : (p : Pending) → w.pending ≡ Some p → (b : Bool) → p.running ≡ b → P (synced w)
    by_running p is true runs = by_author p is runs (value_of (HasAuthor w) w.pending p is stands.author)
    by_running p is false stopped = subst P (sym (ap by_one is ∙ ap (λ (b : Bool). cond b (with_wrote (record w { log = with_entry w.log p; pending = None }) p) w) stopped)) stays

    by_pending : (o : Option Pending) → w.pending ≡ o → P (synced w)
    by_pending None is = subst P (sym (ap by_one is)) stays
    by_pending (Some p) is = by_running p is p.running refl

pub syncs : (w : World) → Stands w → Stands (happens w Sync)
syncs w stands = synced_by w stands Stands stands (λ p session is runs there. stands_behind w stands p session is runs there)
