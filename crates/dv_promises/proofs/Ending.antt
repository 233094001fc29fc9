-- The program ends; events in turn.
use Rattle.std.proofs.Common.{◌≡◌, ℕ, zero, suc, ◌+◌, ◌^◌, ◌<◌, Bool, true, false, cond, List, [], ◌∷◌, nat_eq, Option, Some, None, refl, sym, ◌∙◌, ap, subst, arith}
use Rattle.std.specs.Prelude.{All, IsSome, find, option_map, replicate, unwrap_or}
use Rattle.std.proofs.lemmas.List.Elements.{All-head, All-nil, All-replicate, All-tail}
use Rattle.std.proofs.lemmas.Option.{none-some}
use Rattle.dv_model.specs.declared.types.Mailbox.{Mailbox}
use Rattle.dv_model.specs.declared.types.Mark.{Mark}
use Rattle.dv_model.specs.Journals.{Log, IsSound, IsEntry, IsGuid, at}
use Rattle.dv_interleavings.specs.Worlds.{World, Pending, Event, Open, Write, Sync, Heal, Publish, Load, Tell, Crash, Stored, all_happen, crashed, happens, length_of, mail_of, guid_of, new_world, only_log, with_entry}
use Rattle.dv_promises.specs.Standing.{HasAuthor, IsGoodEvent, IsStart, IsTried, Stands}
use Rattle.dv_promises.proofs.Logs.{with_entry_is, with_last}
use Rattle.dv_promises.proofs.Small.{healed, loads, none_past, opens, published}
use Rattle.dv_promises.proofs.Syncing.{syncs, value_of, sound_more}
use Rattle.dv_promises.proofs.Telling.{tells}
use Rattle.dv_promises.proofs.Writing.{writes}

-- a log without sessions
pub alone : (log : Log) → IsSound log → Stands (only_log log)
alone log sound = record {
  sound = sound;
  published = omega arith;
  each = λ s session is. absurd (none-some session is);
  absent = λ s k none own. none_past log s k own;
  author = tt;
}

-- the story of the pending entry
pub tried_of : (w : World) → (stands : Stands w) → (p : Pending) → w.pending ≡ Some p → (author : HasAuthor w p)
    → IsTried w.log (stands.each p.author author.0 author.1).story.start (stands.each p.author author.0 author.1).story.turns author.0.state author.0.wrote p
tried_of w stands p is author =
    let live = stands.each p.author author.0 author.1 in value_of (λ (q : Pending). q.author ≡ p.author → IsTried w.log live.story.start live.story.turns author.0.state author.0.wrote q) w.pending p is live.pending refl

abbrev by_pending : World → ℕ → Option Pending → World
by_pending w n None = w
by_pending w n (Some p) = cond (nat_eq n (length_of w + 1)) (only_log (with_entry w.log p)) w

-- how a crash leaves the world, by how many entries stay
pub crash_all : (w : World) (n : ℕ) → nat_eq n (length_of w) ≡ true → crashed w n ≡ only_log w.log
crash_all w n same = rw same refl

pub crash_none : (w : World) (n : ℕ) → nat_eq n (length_of w) ≡ false → w.pending ≡ None → crashed w n ≡ w
crash_none w n less is = ap (λ (b : Bool). cond b (only_log w.log) (by_pending w n w.pending)) less ∙ ap (by_pending w n) is

pub crash_some : (w : World) (n : ℕ) (p : Pending) → nat_eq n (length_of w) ≡ false → w.pending ≡ Some p → crashed w n ≡ cond (nat_eq n (length_of w + 1)) (only_log (with_entry w.log p)) w
crash_some w n p less is = ap (λ (b : Bool). cond b (only_log w.log) (by_pending w n w.pending)) less ∙ ap (by_pending w n) is

pub crashes : (w : World) (n : ℕ) → Stands w → Stands (happens w (Crash n))
crashes w n stands = by_number (nat_eq n (length_of w)) refl
  where
    with_more : (p : Pending) → w.pending ≡ Some p → HasAuthor w p → Stands (only_log (with_entry w.log p))
    with_more p is author =
        let live = stands.each p.author author.0 author.1 in
        let tried = tried_of w stands p is author in
        subst (λ log. Stands (only_log log)) (sym (with_entry_is w.log p tried.attempt.mailbox tried.attempt.is_there))
        (alone (with_last w.log p tried.attempt.mailbox) (sound_more w.log stands.sound p live.story.start live.story.turns author.0.state author.0.wrote tried))

    by_more : (p : Pending) → w.pending ≡ Some p → (b : Bool) → Stands (cond b (only_log (with_entry w.log p)) w)
    by_more p is true = with_more p is (value_of (HasAuthor w) w.pending p is stands.author)
    by_more p is false = stands

    by_entry : nat_eq n (length_of w) ≡ false → (o : Option Pending) → w.pending ≡ o → Stands (crashed w n)
    by_entry less None is = subst Stands (sym (crash_none w n less is)) stands
    by_entry less (Some p) is = subst Stands (sym (crash_some w n p less is)) (by_more p is (nat_eq n (length_of w + 1)))

    by_number : (b : Bool) → nat_eq n (length_of w) ≡ b → Stands (crashed w n)
    by_number true same = subst Stands (sym (crash_all w n same)) (alone w.log stands.sound)
    by_number false less = by_entry less w.pending refl

-- ---- any event

pub keeps : (w : World) (event : Event) → Stands w → IsGoodEvent event → Stands (happens w event)
keeps w (Open s) stands good = opens w s stands
keeps w (Write s c received) stands good = writes w s c received stands good.0 good.1
keeps w Sync stands good = syncs w stands
keeps w Heal stands good = healed w stands
keeps w Publish stands good = published w stands
keeps w (Load s) stands good = loads w s stands
keeps w (Tell s c) stands good = tells w s c stands
keeps w (Crash n) stands good = crashes w n stands

pub all_keep : (w : World) (events : List Event) → Stands w → All IsGoodEvent events → Stands (all_happen w events)
all_keep w [] stands good = stands
all_keep w (event ∷ events) stands good = all_keep (happens w event) events (keeps w event stands (All-head IsGoodEvent event events good)) (All-tail IsGoodEvent event events good)

-- each stored message's GUID is one, and the rest are zeros
stored_guid : (stored : List Stored) → All (λ s. IsGuid s.guid) stored → (uid : ℕ) → IsGuid (guid_of stored uid)
stored_guid [] each uid = record { size = refl; bytes = All-replicate (λ b. b < 2 ^ 8) 16 0 (omega arith) }
stored_guid (s ∷ stored) each uid = by_test (nat_eq s.uid uid) (stored_guid stored (All-tail (λ (s : Stored). IsGuid s.guid) s stored each) uid)
  where
    by_test : (b : Bool) → IsGuid (guid_of stored uid)
        → IsGuid (unwrap_or (option_map (λ (s : Stored). s.guid) (cond b (Some s) (find (λ (s : Stored). nat_eq s.uid uid) stored))) (replicate 16 0))
    by_test true rest = All-head (λ (s : Stored). IsGuid s.guid) s stored each
    by_test false rest = rest

pub begins : (start : Mailbox) (indexid : ℕ) (mark : Mark) (stored : List Stored) → IsStart start indexid mark stored → Stands (new_world start indexid mark stored)
begins start indexid mark stored is =
    alone (record { start = start; start_mark = mark; rotates = true; entries = []; indexid = indexid; mail = mail_of stored; guid = guid_of stored })
    (record {
      start = is.mailbox;
      start_mark = (is.numbers.1, is.numbers.2);
      indexid = is.numbers.0;
      guids = stored_guid stored is.guids;
      entries = All-nil IsEntry;
      mailboxes = λ k le. none k;
    })
  where
    none : (k : ℕ) → IsSome (at (record { start = start; start_mark = mark; rotates = true; entries = []; indexid = indexid; mail = mail_of stored; guid = guid_of stored }) k)
    none zero = refl
    none (suc k) = refl
