-- What a session was shown of a mailbox, and what it is told when that moves on.
use Rattle.std.specs.Prelude.{ℕ, zero, suc, ◌+◌, ◌-◌, ◌%◌, Bool, not, ◌&&◌, List, [], ◌∷◌, ◌++◌, length, map, reverse, filter, find, fold, take, drop, replicate, Option, unwrap_or, option_map, slice_get, slice_set, nat_eq, nat_le, bytes_eq, if◌then◌else◌}
use Rattle.std.specs.List.{list_any, list_all}
use Rattle.dv_model.specs.declared.types.Mailbox.{Mailbox}
use Rattle.dv_model.specs.declared.types.Reply.{Reply}
use Rattle.dv_model.specs.declared.types.Reply.TheVariants as reply
use Rattle.dv_model.specs.declared.types.Row.{Row}
use Rattle.dv_model.specs.declared.types.Shown.{Shown}
use Rattle.dv_model.specs.declared.types.Step.{Step}
use Rattle.dv_model.specs.declared.types.Step.TheVariants.{Held, Full}
use Rattle.dv_model.specs.declared.types.Value.{Value}
use Rattle.dv_model.specs.declared.types.Value.TheVariants as value

-- the rows that a session knows, by message number, and the UIDNEXT up to which it was told
pub record View : Type 0 where
  pub rows : List Shown
  pub next_uid : ℕ

-- nothing was shown yet
abbrev pub empty_view : View
empty_view = record { rows = []; next_uid = 1 }

-- a row without what a session isn't shown: the three high flag bits and the extensions' parts
abbrev pub shown : Row → Shown
shown row = record { uid = row.uid; flags = row.flags % 32; keywords = row.keywords; modseq = row.modseq }

-- the mailbox's row of a UID
abbrev pub row_of : Mailbox → ℕ → Option Row
row_of m uid = find (λ row. nat_eq row.uid uid) m.rows

-- Held: no row leaves, new ones follow, since an EXPUNGE must not be sent while responding to a FETCH, STORE, or SEARCH
-- command (RFC 3501, section 7.4.1). Full: the rows as they are.
abbrev pub moved : Step → View → Mailbox → View
moved Held view m = record {
  rows = map (λ s. unwrap_or (option_map shown (row_of m s.uid)) s) view.rows ++ map shown (filter (λ row. nat_le view.next_uid row.uid) m.rows);
  next_uid = m.next_uid;
}
moved Full view m = record { rows = map shown m.rows; next_uid = m.next_uid }

-- the view has a row of this UID
abbrev pub shows_uid : View → ℕ → Bool
shows_uid view uid = list_any (λ s. nat_eq s.uid uid) view.rows

-- the numbers, counted from k, of the rows that pass a test
abbrev pub numbers : (Shown → Bool) → ℕ → List Shown → List (ℕ × Shown)
numbers test k [] = []
numbers test k (s ∷ rows) = if test s then (k, s) ∷ numbers test (k + 1) rows else numbers test (k + 1) rows

-- the row is as it was shown
abbrev pub same_row : Shown → Shown → Bool
same_row a b = nat_eq a.uid b.uid && nat_eq a.flags b.flags && bytes_eq a.keywords b.keywords

-- the names of a row's keywords, from the mailbox's table
abbrev pub names_of : Mailbox → List ℕ → List (List ℕ)
names_of m places = map (λ k. unwrap_or (slice_get m.keywords k) []) places

-- one EXPUNGE for each row that left, from the highest number down: the message sequence number for each successive
-- message is immediately decremented by 1 (RFC 3501, section 7.4.1)
abbrev pub removals : View → View → List Reply
removals old new = map (λ row. reply.Expunge row.0) (reverse (numbers (λ s. not (shows_uid new s.uid)) 1 old.rows))

-- one EXISTS, where some rows are new: it reports the number of messages in the mailbox (RFC 3501, section 7.3.1)
abbrev pub growth : View → View → List Reply
growth old new = if list_all (λ s. shows_uid old s.uid) new.rows then [] else reply.Exists (length new.rows) ∷ []

-- one FETCH with the flags for each row that is new or changed, by rising number (RFC 3501, section 7.4.2)
abbrev pub changes : Mailbox → View → View → List Reply
changes m old new =
    map (λ row. reply.Fetch row.0 row.1.uid (value.Flags row.1.flags (names_of m row.1.keywords) ∷ [])) (numbers (λ s. not (list_any (same_row s) old.rows)) 1 new.rows)

-- what left from the highest number down, the new number of rows where some are new, and each row that is new or changed
abbrev pub said : Mailbox → View → View → List Reply
said m old new = removals old new ++ growth old new ++ changes m old new

-- ---- a client that listens

-- a message as a client knows it
pub record Known : Type 0 where
  pub uid : ℕ
  pub flags : ℕ
  pub keywords : List (List ℕ)

-- a message of which nothing is known yet
abbrev pub unknown : Known
unknown = record { uid = 0; flags = 0; keywords = [] }

-- the row of this number, counted from 1, is set
abbrev pub with_number : List Known → ℕ → Known → List Known
with_number rows zero row = rows
with_number rows (suc k) row = slice_set rows k row

-- the first FLAGS of a FETCH
abbrev pub with_values : List Known → ℕ → ℕ → List Value → List Known
with_values rows k uid [] = rows
with_values rows k uid (value.Flags flags keywords ∷ values) = with_number rows k (record { uid = uid; flags = flags; keywords = keywords })
with_values rows k uid (v ∷ values) = with_values rows k uid values

-- EXPUNGE lowers the numbers behind (RFC 3501, section 7.4.1), EXISTS says how many there are (section 7.3.1), FETCH what one is like (section 7.4.2)
abbrev pub heard : List Known → Reply → List Known
heard rows (reply.Expunge k) = take (k - 1) rows ++ drop k rows
heard rows (reply.Exists n) = take n rows ++ replicate (n - length rows) unknown
heard rows (reply.Fetch k uid values) = with_values rows k uid values
heard rows r = rows

-- what a client knows after these replies
abbrev pub all_heard : List Known → List Reply → List Known
all_heard rows replies = fold heard rows replies

-- a row as a client knows it
abbrev pub known_row : Mailbox → Shown → Known
known_row m s = record { uid = s.uid; flags = s.flags; keywords = names_of m s.keywords }

-- a client that knows what the view shows, its keywords read in this mailbox's table
abbrev pub known_of : Mailbox → View → List Known
known_of m view = map (known_row m) view.rows
