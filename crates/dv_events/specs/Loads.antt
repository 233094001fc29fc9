-- Sessions are opened, and load what is published.
use Rattle.std.specs.Prelude.{◌≡◌, ◌≢◌, ℕ, false, List, [], ◌∷◌, length, map}
use mathlib.Core.List.{IsPrefix}
use Rattle.dv_model.specs.declared.types.Command.{Command}
use Rattle.dv_model.specs.declared.types.Reply.{Reply}
use Rattle.dv_model.specs.Journals.{IsU32, Log}
use Rattle.dv_interleavings.specs.Worlds.{World, only_log}
use Rattle.dv_schedules.specs.Calls.{Gather, Make, Refresh, all_called}
use Rattle.dv_feed.specs.declared.taking.Taken.{Taken}
use Rattle.dv_tries.specs.Tries.{Try}
use Rattle.dv_member.specs.Calls.{IsAsBefore, refreshed}
use Rattle.dv_member.specs.Members.{IsSession, IsStart, Member, notes_of}
use Rattle.dv_keeper.specs.Sessions.{AreNewSessions, HasJoined, HasRejoined}
use Rattle.dv_events.specs.Worlds.{AreOthers, Conversation, History, IsAtWorld, CallsLead}

-- ---- the beginning

-- the sessions that a keeper is made with open in the world of its start
abbrev pub MadeSessionsOpen : Type 0
MadeSessionsOpen = (start : Log) (made : List Member)
    → IsStart start → IsU32 (length made) → AreNewSessions start 1 made
    → IsAtWorld start (record { notes = []; tries = [] })
    (map (λ s. record { session = s; answers = [] }) made)
    (all_called (only_log start) (Make (length made) ∷ []))

-- ---- loads

-- a world in which what the session sees then is all that is published
abbrev pub seen_by : Member → List Try → History
seen_by s tries = record { notes = notes_of s; tries = tries }

-- one load of the number of words
abbrev pub RefreshLoads : Type 0
RefreshLoads = (start : Log) (count : ℕ) (taken : Taken) (old new : Member) (tries : List Try)
    → IsSession start count new → old.spent ≡ false → new ≡ refreshed taken old new
    → CallsLead start (Refresh old.number ∷ []) (seen_by new tries) (seen_by new tries) old new []

-- a session comes to the newest table
abbrev pub RejoinLoads : Type 0
RejoinLoads = (start : Log) (count : ℕ) (old new : Member) (tries : List Try)
    → IsSession start count new → old.spent ≡ false → HasRejoined old new
    → CallsLead start (Refresh old.number ∷ []) (seen_by new tries) (seen_by new tries) old new []

-- two sessions load in one hold of the lock
abbrev pub GatherLoads : Type 0
GatherLoads = (start : Log) (count : ℕ) (a b a' b' : Member) (tries : List Try)
    (w : World) (xs ys : List (Command × List Reply)) (rest : List Conversation)
    → IsSession start count a' → IsSession start count b'
    → (a.spent ≡ false) × (b.spent ≡ false) → HasJoined a a' × HasJoined b b'
    → notes_of a' ≡ notes_of b'
    → b.number ≢ a.number → AreOthers a rest → AreOthers b rest
    → IsAtWorld start (seen_by a' tries)
    (record { session = a; answers = xs } ∷ record { session = b; answers = ys } ∷ rest) w
    → IsAtWorld start (seen_by a' tries)
    (record { session = a'; answers = xs } ∷ record { session = b'; answers = ys } ∷ rest)
    (all_called w (Gather a.number b.number ∷ []))

-- ---- no event

-- A session that is as before, but for what it knows of the words and perhaps a failure that it
-- counts, did nothing: want of memory, and a reading that the disk failed.
abbrev pub NothingHappens : Type 0
NothingHappens = (start : Log) (refused : ℕ) (old new : Member) (h : History)
    → IsAsBefore (record old { refused = refused }) new → CallsLead start [] h h old new []

-- So it is with a refresh that found no memory: the session knows of more words, and sees none.
abbrev pub FailedRefreshStays : Type 0
FailedRefreshStays = (start : Log) (count : ℕ) (old new : Member) (h : History)
    → IsSession start count old → IsSession start count new
    → IsPrefix (notes_of old) (notes_of new) → new ≡ record old { front = new.front }
    → CallsLead start [] h h old new []
