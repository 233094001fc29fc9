-- The pending entry is added to the log.
use Rattle.std.proofs.Common.{◌≡◌, inl, inr, ℕ, ◌+◌, ◌≤◌, ◌<◌, Bool, true, false, cond, List, [], ◌∷◌, ◌++◌, length, map, nat_eq, Option, Some, None, refl, sym, ◌∙◌, ap, subst, arith, length-append}
use Rattle.std.specs.Prelude.{All, IfSome, IsSome, Contains, ◌↔◌, option_map, slice_get}
use Rattle.std.specs.Option.{option_and_then}
use Rattle.std.proofs.Math.Path.{fun_ext}
use Rattle.std.proofs.lemmas.Bool.Decides.{nat_tests}
use Rattle.std.proofs.lemmas.List.{length-map, length_push, map-append}
use Rattle.std.proofs.lemmas.Option.{none-some, same_Some, slice_get_within}
use Rattle.dv_model.specs.declared.types.Command.{Command}
use Rattle.dv_model.specs.declared.types.Command.TheVariants as command
use Rattle.dv_model.specs.declared.types.Entry.{Entry}
use Rattle.dv_model.specs.declared.types.Mailbox.{Mailbox}
use Rattle.dv_model.specs.declared.types.Record.{Record}
use Rattle.dv_model.specs.Effects.{applied}
use Rattle.dv_model.specs.Fresh.{IsTouched}
use Rattle.dv_model.specs.Journals.{IsEntry, IsSound, Log, Mail, Held, at, mark_of, mark_behind, new_guid}
use Rattle.dv_model.specs.Spelling.{IsRecord}
use Rattle.dv_model.specs.Transcripts.{with_message, with_written}
use Rattle.dv_model.proofs.Speaking.{one_of, one_or_last}
use Rattle.dv_model.proofs.Transcripts.{at_end, mark_end}
use Rattle.dv_validity.proofs.Logs.{Extends, at_seam, some_at}
use Rattle.dv_interleavings.specs.Worlds.{Pending as ModelPending, Stored, guid_of, mail_of}
use Rattle.dv_promises.specs.Standing.{HasAuthor, IsLive, IsTried, Stands}
use Rattle.dv_promises.proofs.Ending.{tried_of}
use Rattle.dv_promises.proofs.Logs.{last_extends, with_last}
use Rattle.dv_promises.proofs.Syncing.{sound_more, value_of}
use Rattle.dv_world.specs.declared.kept.Kept.{Kept}
use Rattle.dv_world.specs.declared.kept.Logged.{Logged}
use Rattle.dv_world.specs.declared.kept.Pending.{Pending}
use Rattle.dv_world.specs.declared.kept.Wrote.{Wrote}
use Rattle.dv_world.specs.Adding.{AddsBy, AddsEntry, IsAdded, stored_by, stored_for, stored_with}
use Rattle.dv_world.specs.Keeping.{IsKept, IsLogged, IsPending, kept_log}
use Rattle.dv_world.specs.Shapes.{kept_world, log_of, pending_of, plain_of, seated, stored_of}

module _ (k : Kept) (kept : IsKept k) (p : Pending) (is : k.pending ≡ Some p) where
  abbrev given : ModelPending
  given = pending_of p

  author : HasAuthor (kept_world k) given
  author = value_of (HasAuthor (kept_world k)) (option_map pending_of k.pending) given (ap (option_map pending_of) is) kept.stands.author

  abbrev live : IsLive (kept_log k) k.published (option_map pending_of k.pending) given.author author.0
  live = kept.stands.each given.author author.0 author.1

  tried : IsTried (kept_log k) live.story.start live.story.turns author.0.state author.0.wrote given
  tried = tried_of (kept_world k) kept.stands given (ap (option_map pending_of) is) author

  ends : length (kept_log k).entries ≡ length k.logged.items
  ends = length-map k.logged.items (λ (l : Logged). l.entry)

  pub end_is : at (kept_log k) (length (kept_log k).entries) ≡ Some k.end.mailbox
  end_is = ap (at (kept_log k)) ends ∙ kept.end

  same_end : tried.attempt.mailbox ≡ k.end.mailbox
  same_end = same_Some tried.attempt.mailbox k.end.mailbox (sym tried.attempt.is_there ∙ end_is)

  -- the log with it
  abbrev pub more : Log
  more = with_written (kept_log k) p.author p.command p.received p.group k.end.mailbox

  pub more_sound : IsSound more
  more_sound =
      subst (λ (m : Mailbox). IsSound (with_last (kept_log k) given m)) same_end
      (sound_more (kept_log k) kept.stands.sound given live.story.start live.story.turns author.0.state author.0.wrote tried)

  pub extends : Extends (kept_log k) more
  extends = last_extends (kept_log k) given k.end.mailbox kept.stands.sound end_is

  abbrev entry : Entry
  entry = record { author = p.author; group = p.group }

  pub records_good : All IsRecord p.group.records
  records_good = (one_of IsEntry ((kept_log k).entries ++ entry ∷ []) (length (kept_log k).entries) entry more_sound.entries (at_seam (kept_log k).entries entry)).records

  pub applies : at more (length (kept_log k).entries + 1) ≡ applied k.end.mailbox p.group.records
  applies = at_end (kept_log k) entry ∙ ap (option_and_then (λ m. applied m p.group.records)) end_is

  turned : (m n : ℕ) → nat_eq m n ≡ nat_eq n m
  turned m n = grind (arith, nat_tests)

  mail_with : (c : Command) → mail_of (map stored_of (stored_with (stored_for k.indexid k.end.mailbox c p.received) k.stored.items)) ≡ (with_message (kept_log k) c p.received k.end.mailbox).mail
  mail_with (command.Append flags keywords message) = fun_ext (λ uid. by_test uid (nat_eq k.end.mailbox.next_uid uid) refl)
    where
      by_test : (uid : ℕ) (b : Bool) → nat_eq k.end.mailbox.next_uid uid ≡ b
          → mail_of (map stored_of ((k.end.mailbox.next_uid, Some message, new_guid k.indexid k.end.mailbox.uid_validity k.end.mailbox.next_uid p.received) ∷ k.stored.items)) uid
          ≡ cond (nat_eq uid k.end.mailbox.next_uid) (Held message) (mail_of (map stored_of k.stored.items) uid)
      by_test uid true e = let other : nat_eq uid k.end.mailbox.next_uid ≡ true = turned uid k.end.mailbox.next_uid ∙ e in rw (e, other) refl
      by_test uid false e = let other : nat_eq uid k.end.mailbox.next_uid ≡ false = turned uid k.end.mailbox.next_uid ∙ e in rw (e, other) refl
  mail_with c = refl

  guid_with : (c : Command) → guid_of (map stored_of (stored_with (stored_for k.indexid k.end.mailbox c p.received) k.stored.items)) ≡ (with_message (kept_log k) c p.received k.end.mailbox).guid
  guid_with (command.Append flags keywords message) = fun_ext (λ uid. by_test uid (nat_eq k.end.mailbox.next_uid uid) refl)
    where
      by_test : (uid : ℕ) (b : Bool) → nat_eq k.end.mailbox.next_uid uid ≡ b
          → guid_of (map stored_of ((k.end.mailbox.next_uid, Some message, new_guid k.indexid k.end.mailbox.uid_validity k.end.mailbox.next_uid p.received) ∷ k.stored.items)) uid
          ≡ cond (nat_eq uid k.end.mailbox.next_uid) (new_guid k.indexid k.end.mailbox.uid_validity k.end.mailbox.next_uid p.received) (guid_of (map stored_of k.stored.items) uid)
      by_test uid true e = let other : nat_eq uid k.end.mailbox.next_uid ≡ true = turned uid k.end.mailbox.next_uid ∙ e in rw (e, other) refl
      by_test uid false e = let other : nat_eq uid k.end.mailbox.next_uid ≡ false = turned uid k.end.mailbox.next_uid ∙ e in rw (e, other) refl
  guid_with c = refl

  abbrev log_with : List Entry → (ℕ → Mail) → (ℕ → List ℕ) → Log
  log_with entries mail guid = record (kept_log k) { entries = entries; mail = mail; guid = guid }

  pub log_is : (logged : List Logged) (l : Logged) (stored : List (ℕ × Option (List ℕ) × List ℕ)) → logged ≡ k.logged.items ++ l ∷ [] → l.entry ≡ entry
      → stored ≡ stored_with (stored_by k.indexid k.end.mailbox p) k.stored.items
      → log_with (map (λ l. l.entry) logged) (mail_of (map stored_of stored)) (guid_of (map stored_of stored)) ≡ more
  log_is logged l stored longer one kept =
      ap (λ (es : List Entry). log_with es (mail_of (map stored_of stored)) (guid_of (map stored_of stored)))
      (ap (map (λ (l : Logged). l.entry)) longer ∙ map-append (λ (l : Logged). l.entry) k.logged.items (l ∷ []) ∙ ap (λ (e : Entry). (kept_log k).entries ++ e ∷ []) one)
      ∙ ap (λ (f : ℕ → Mail). log_with ((kept_log k).entries ++ entry ∷ []) f (guid_of (map stored_of stored)))
      (ap (λ (xs : List (ℕ × Option (List ℕ) × List ℕ)). mail_of (map stored_of xs)) kept ∙ mail_with p.command)
      ∙ ap (λ (g : ℕ → List ℕ). log_with ((kept_log k).entries ++ entry ∷ []) (with_message (kept_log k) p.command p.received k.end.mailbox).mail g)
      (ap (λ (xs : List (ℕ × Option (List ℕ) × List ℕ)). guid_of (map stored_of xs)) kept ∙ guid_with p.command)

  -- what is known of entries
  pub logged_more : (l : Logged) (after : Mailbox) → l.behind ≡ p.behind → applied k.end.mailbox p.group.records ≡ Some after
      → ((uid : ℕ) → Contains l.touched uid ↔ IsTouched k.end.mailbox after uid)
      → (j : ℕ) (one : Logged) → slice_get (k.logged.items ++ l ∷ []) j ≡ Some one → IsLogged more j one
  logged_more l after behind is_after touched j one there = elim (one_or_last k.logged.items l j one there) [
    | inl old ↦ kept_one old (kept.logged j one old)
    | inr last ↦ subst (λ (n : ℕ). IsLogged more n one) (sym last) (new_one (same_Some l one (sym (at_seam k.logged.items l) ∙ ap (slice_get (k.logged.items ++ l ∷ [])) (sym last) ∙ there)))
  ]
    where
      kept_one : slice_get k.logged.items j ≡ Some one → IsLogged (kept_log k) j one → IsLogged more j one
      kept_one old was =
          let within = slice_get_within k.logged.items j one old in
          let next : j + 1 ≤ length (kept_log k).entries = omega (arith, ends) in
          let here : j ≤ length (kept_log k).entries = omega (arith, ends) in
          record {
            mark = extends.same_mark (j + 1) next ∙ was.mark;
            touched = λ old new was_there is_there. was.touched old new (sym (extends.same_at j here) ∙ was_there) (sym (extends.same_at (j + 1) next) ∙ is_there);
          }

      new_one : l ≡ one → IsLogged more (length k.logged.items) one
      new_one same = subst (λ (x : Logged). IsLogged more (length k.logged.items) x) same (subst (λ (n : ℕ). IsLogged more n l) ends (record {
        mark = mark_end (kept_log k) entry ∙ (value_of (IsPending (kept_log k) k.end.mailbox (map seated k.seats.items)) k.pending p is kept.pending).behind ∙ sym behind;
        touched = λ old new was_there is_there uid.
            let first : k.end.mailbox ≡ old = same_Some k.end.mailbox old (sym end_is ∙ sym (extends.same_at (length (kept_log k).entries) (omega arith)) ∙ was_there) in
            let second : after ≡ new = same_Some after new (sym is_after ∙ sym applies ∙ is_there) in
            subst (λ (m : Mailbox). Contains l.touched uid ↔ IsTouched old m uid) second (subst (λ (m : Mailbox). Contains l.touched uid ↔ IsTouched m after uid) first (touched uid));
      }))

  pub added_some : (after : Mailbox) × (applied k.end.mailbox p.group.records ≡ Some after)
  added_some =
      let last = some_at more more_sound (length (kept_log k).entries + 1) (omega (arith, length_push (kept_log k).entries entry)) in
      (last.0, sym applies ∙ last.1)

  -- the mailbox behind it
  pub added_applies : (mid : Kept) (wrote : Option Wrote) → IsAdded k p mid wrote → applied k.end.mailbox p.group.records ≡ Some mid.end.mailbox
  added_applies mid wrote added =
      let number : length (kept_log k).entries + 1 ≡ length mid.logged.items = omega (arith, ends, added.longer) in
      sym applies ∙ ap (at more) number ∙ ap (λ (g : Log). at g (length mid.logged.items)) (sym added.log) ∙ added.end

  -- it is added so
  pub added_is : (new : Kept) (l : Logged) (after : Mailbox) → kept_log new ≡ log_with (map (λ (l : Logged). l.entry) new.logged.items) (mail_of (map stored_of new.stored.items)) (guid_of (map stored_of new.stored.items))
      → new.logged.items ≡ k.logged.items ++ l ∷ [] → l.entry ≡ entry → l.behind ≡ p.behind → new.stored.items ≡ stored_with (stored_by k.indexid k.end.mailbox p) k.stored.items
      → applied k.end.mailbox p.group.records ≡ Some after → new.end.mailbox ≡ after → ((uid : ℕ) → Contains l.touched uid ↔ IsTouched k.end.mailbox after uid)
      → new.pending ≡ None → new.published ≡ k.published → new.front ≡ k.front → new.seats ≡ k.seats
      → (write : Option Wrote) → write ≡ Some (record { place = length k.logged.items + 1; met = length k.logged.items; command = p.command; taken = p.taken })
      → IsAdded k p new write
  added_is new l after parts logged one behind stored is_after end touched pending published front seats write wrote =
      let log : kept_log new ≡ more = parts ∙ log_is new.logged.items l new.stored.items logged one stored in
      let longer : length new.logged.items ≡ length k.logged.items + 1 = ap length logged ∙ omega (arith, length_push k.logged.items l) in
      let number : length new.logged.items ≡ length (kept_log k).entries + 1 = omega (arith, longer, ends) in
      record {
        log = log;
        pending = pending;
        published = published;
        front = front;
        seats = seats;
        longer = longer;
        end = ap (λ (g : Log). at g (length new.logged.items)) log ∙ ap (at more) number ∙ applies ∙ is_after ∙ ap Some (sym end);
        logged = λ j one there. subst (λ (g : Log). IsLogged g j one) (sym log) (logged_more l after behind is_after touched j one (ap (λ (xs : List Logged). slice_get xs j) (sym logged) ∙ there));
        wrote = wrote;
      }

-- where an entry is pending
pub adds_some : (k : Kept) (p : Pending) (new : Kept) (write : Option Wrote) → k.pending ≡ Some p → IsAdded k p new write → AddsEntry k new write
adds_some k p new write is added = subst (AddsBy k new write) (sym is) added

pub added_of : (k : Kept) (p : Pending) (new : Kept) (write : Option Wrote) → k.pending ≡ Some p → AddsEntry k new write → IsAdded k p new write
added_of k p new write is adds = subst (AddsBy k new write) is adds
