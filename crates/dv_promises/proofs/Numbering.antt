-- Each message number keeps its UID until an EXPUNGE is heard or a SELECT begins.
use Rattle.std.proofs.Common.{◌≡◌, ◌≢◌, ℕ, zero, suc, ◌+◌, ◌-◌, ◌≤◌, Bool, true, false, cond, not, List, [], ◌∷◌, ◌++◌, length, Option, Some, None, refl, sym, ◌∙◌, ap, subst, arith}
use Rattle.std.specs.Prelude.{All, filter, flat_map, fold, map, replicate, reverse, slice_get, slice_set}
use Rattle.std.specs.List.{enumerate_from, list_all, list_any}
use Rattle.std.proofs.lemmas.Bool.{and_parts}
use Rattle.std.proofs.lemmas.List.{append_assoc, length-map, take_all}
use Rattle.std.proofs.lemmas.List.Elements.{All-filter, All-head, All-tail}
use Rattle.std.proofs.lemmas.List.Sums.{fold-append}
use Rattle.std.proofs.lemmas.Option.{none-some, same_Some}
use Rattle.dv_model.specs.declared.types.Command.{Command}
use Rattle.dv_model.specs.declared.types.Command.TheVariants as command
use Rattle.dv_model.specs.declared.types.Item.{Item}
use Rattle.dv_model.specs.declared.types.Mailbox.{Mailbox}
use Rattle.dv_model.specs.declared.types.Mark.{Mark}
use Rattle.dv_model.specs.declared.types.Reply.{Reply}
use Rattle.dv_model.specs.declared.types.Reply.TheVariants as reply
use Rattle.dv_model.specs.declared.types.Shown.{Shown}
use Rattle.dv_model.specs.declared.types.Step.{Step}
use Rattle.dv_model.specs.declared.types.Step.TheVariants.{Held, Full}
use Rattle.dv_model.specs.declared.types.Value.{Value}
use Rattle.dv_model.specs.declared.types.Value.TheVariants as value
use Rattle.dv_model.specs.Journals.{Mail}
use Rattle.dv_model.specs.Laws.{Follows, IsReadIn}
use Rattle.dv_model.specs.Sessions.{data_of, ending_of, fetch_lines, message_in, reads_message, value_of}
use Rattle.dv_model.specs.Sets.{named}
use Rattle.dv_model.specs.Views.{Known, View, all_heard, changes, empty_view, growth, heard, known_of, known_row, moved, names_of, numbers, removals, said, same_row, shows_uid, unknown, with_number}
use Rattle.dv_model.proofs.Clients.{Aligned, In, Moves, after_removals, aligned_short, full_moves, held_moves, kept_rows, lined_up}
use Rattle.dv_interleavings.specs.Promises.{Heard, Hears, all_known, keeps_numbers, knows}
use Rattle.dv_promises.proofs.Hearing.{StandsAt, data_known, ending_heard, named_stand, numbered_stand}

-- ---- numbers that keep their UIDs

-- each number keeps its UID
abbrev pub KeepsUids : List Known → List Known → Type 0
KeepsUids rows later = (k : ℕ) (row : Known) → slice_get rows k ≡ Some row → row.uid ≢ 0 → (after : Known) × (slice_get later k ≡ Some after) × (after.uid ≡ row.uid)

pub keeps_itself : (rows : List Known) → KeepsUids rows rows
keeps_itself rows k row is some = (row, is, refl)

keeps_on : (rows between later : List Known) → KeepsUids rows between → KeepsUids between later → KeepsUids rows later
keeps_on rows between later first second k row is some =
    let one = first k row is some in
    let other = second k one.0 one.1 (λ none. some (sym one.2 ∙ none)) in
    (other.0, other.1, other.2 ∙ one.2)

-- ---- step by step

-- each of these that isn't a SELECT or an EXPUNGE keeps the numbers where it comes
abbrev pub AreSteady : List Known → List Heard → Type 0
AreSteady rows [] = Unit {0}
AreSteady rows (h ∷ hs) = (keeps_numbers h ≡ true → KeepsUids rows (knows rows h)) × AreSteady (knows rows h) hs

pub steady_then : (rows : List Known) (one other : List Heard) → AreSteady rows one → AreSteady (fold knows rows one) other → AreSteady rows (one ++ other)
steady_then rows [] other first then = then
steady_then rows (h ∷ one) other first then = (first.0, steady_then (knows rows h) one other first.1 then)

steady_behind : (rows : List Known) (before hs : List Heard) → AreSteady rows (before ++ hs) → AreSteady (fold knows rows before) hs
steady_behind rows [] hs steady = steady
steady_behind rows (h ∷ before) hs steady = steady_behind (knows rows h) before hs steady.1

steady_keeps : (rows : List Known) (between behind : List Heard) → AreSteady rows (between ++ behind) → list_all keeps_numbers between ≡ true → KeepsUids rows (fold knows rows between)
steady_keeps rows [] behind steady all = keeps_itself rows
steady_keeps rows (h ∷ between) behind steady all =
    let both = and_parts (keeps_numbers h) (list_all keeps_numbers between) all in
    keeps_on rows (knows rows h) (fold knows (knows rows h) between) (steady.0 both.0) (steady_keeps (knows rows h) between behind steady.1 both.1)

-- from any moment on
pub steady_stay : (all before between behind : List Heard) → AreSteady [] all → all ≡ before ++ between ++ behind → list_all keeps_numbers between ≡ true
    → KeepsUids (all_known before) (all_known (before ++ between))
steady_stay all before between behind steady is keeps =
    subst (KeepsUids (all_known before)) (sym (fold-append knows [] before between))
    (steady_keeps (all_known before) between behind (steady_behind [] before (between ++ behind) (subst (AreSteady []) (is ∙ append_assoc before between behind) steady)) keeps)

-- ---- replies

pub known_heard : (rows : List Known) (replies : List Reply) → fold knows rows (map Hears replies) ≡ all_heard rows replies
known_heard rows [] = refl
known_heard rows (r ∷ replies) = known_heard (heard rows r) replies

-- the same of replies
abbrev pub Steady : List Known → List Reply → Type 0
Steady rows [] = Unit {0}
Steady rows (r ∷ replies) = (keeps_numbers (Hears r) ≡ true → KeepsUids rows (heard rows r)) × Steady (heard rows r) replies

pub steady_replies : (rows : List Known) (replies : List Reply) → Steady rows replies → AreSteady rows (map Hears replies)
steady_replies rows [] steady = tt
steady_replies rows (r ∷ replies) steady = (steady.0, steady_replies (heard rows r) replies steady.1)

replies_then : (rows : List Known) (one other : List Reply) → Steady rows one → Steady (all_heard rows one) other → Steady rows (one ++ other)
replies_then rows [] other first then = then
replies_then rows (r ∷ one) other first then = (first.0, replies_then (heard rows r) one other first.1 then)

-- ---- rows whose UIDs are those of a view

-- the same, row by row
abbrev Keeps : List Known → List Known → Type 0
Keeps [] later = Unit {0}
Keeps (row ∷ rows) [] = ⊥
Keeps (row ∷ rows) (after ∷ later) = (row.uid ≢ 0 → after.uid ≡ row.uid) × Keeps rows later

keeps_uids : (rows later : List Known) → Keeps rows later → KeepsUids rows later
keeps_uids [] later keeps zero row is some = absurd (none-some row is)
keeps_uids [] later keeps (suc k) row is some = absurd (none-some row is)
keeps_uids (old ∷ rows) [] keeps k row is some = absurd keeps
keeps_uids (old ∷ rows) (after ∷ later) keeps zero row is some =
    let same : old.uid ≡ row.uid = ap (λ (r : Known). r.uid) (same_Some old row is) in (after, refl, keeps.0 (λ none. some (sym same ∙ none)) ∙ same)
keeps_uids (old ∷ rows) (after ∷ later) keeps (suc k) row is some = keeps_uids rows later keeps.1 k row is some

keeps_same : (rows : List Known) → Keeps rows rows
keeps_same [] = tt
keeps_same (row ∷ rows) = (λ some. refl, keeps_same rows)

keeps_more : (rows more : List Known) → Keeps rows (rows ++ more)
keeps_more [] more = tt
keeps_more (row ∷ rows) more = (λ some. refl, keeps_more rows more)

-- a row whose UID is known has that of the view at its number
abbrev Fits : List Shown → List Known → Type 0
Fits shown [] = Unit {0}
Fits [] (row ∷ rows) = (row.uid ≡ 0) × Fits [] rows
Fits (s ∷ shown) (row ∷ rows) = (row.uid ≢ 0 → s.uid ≡ row.uid) × Fits shown rows

known_fits : (m : Mailbox) (shown : List Shown) → Fits shown (map (known_row m) shown)
known_fits m [] = tt
known_fits m (s ∷ shown) = (λ some. refl, known_fits m shown)

-- ---- a FETCH

-- it keeps the numbers, and its row fits
record IsFitting (shown : List Shown) (rows later : List Known) : Type 0 where
  keeps : Keeps rows later
  fits : Fits shown later

set_fits : (shown : List Shown) (rows : List Known) (k : ℕ) (new : Known) (s : Shown) → Fits shown rows → slice_get shown k ≡ Some s → s.uid ≡ new.uid → IsFitting shown rows (slice_set rows k new)
set_fits shown [] k new s fits is same = record { keeps = tt; fits = tt }
set_fits [] (row ∷ rows) zero new s fits is same = absurd (none-some s is)
set_fits [] (row ∷ rows) (suc k) new s fits is same = absurd (none-some s is)
set_fits (first ∷ shown) (row ∷ rows) zero new s fits is same =
    let one : first.uid ≡ new.uid = ap (λ (s : Shown). s.uid) (same_Some first s is) ∙ same in
    record { keeps = (λ some. sym one ∙ fits.0 some, keeps_same rows); fits = (λ some. one, fits.1) }
set_fits (first ∷ shown) (row ∷ rows) (suc k) new s fits is same =
    let rest = set_fits shown rows k new s fits.1 is same in record { keeps = (λ some. refl, rest.keeps); fits = (fits.0, rest.fits) }

number_fits : (shown : List Shown) (rows : List Known) (row : ℕ × Shown) (new : Known) → Fits shown rows → StandsAt shown row → row.1.uid ≡ new.uid → IsFitting shown rows (with_number rows row.0 new)
number_fits shown rows (zero, s) new fits stands same = record { keeps = keeps_same rows; fits = fits }
number_fits shown rows (suc k, s) new fits stands same =
    let e : suc k - 1 ≡ k = omega arith in set_fits shown rows k new s fits (subst (λ n. slice_get shown n ≡ Some s) e stands.is) same

fetch_fits : (shown : List Shown) (rows : List Known) (row : ℕ × Shown) (values : List Value) → Fits shown rows → StandsAt shown row → IsFitting shown rows (heard rows (reply.Fetch row.0 row.1.uid values))
fetch_fits shown rows row [] fits stands = record { keeps = keeps_same rows; fits = fits }
fetch_fits shown rows row (value.Flags flags keywords ∷ values) fits stands = number_fits shown rows row (record { uid = row.1.uid; flags = flags; keywords = keywords }) fits stands refl
fetch_fits shown rows row (value.Size n ∷ values) fits stands = fetch_fits shown rows row values fits stands
fetch_fits shown rows row (value.Body bytes ∷ values) fits stands = fetch_fits shown rows row values fits stands
fetch_fits shown rows row (value.Field name text ∷ values) fits stands = fetch_fits shown rows row values fits stands
fetch_fits shown rows row (value.Modseq n ∷ values) fits stands = fetch_fits shown rows row values fits stands

-- FETCHes of rows that stand
fetches_steady : (shown : List Shown) (values : ℕ × Shown → List Value) (rows : List Known) (told : List (ℕ × Shown)) → Fits shown rows → All (StandsAt shown) told
    → Steady rows (map (λ row. reply.Fetch row.0 row.1.uid (values row)) told)
fetches_steady shown values rows [] fits stand = tt
fetches_steady shown values rows (row ∷ told) fits stand =
    let one = fetch_fits shown rows row (values row) fits (All-head (StandsAt shown) row told stand) in
    let later : List Known = heard rows (reply.Fetch row.0 row.1.uid (values row)) in
    (λ e. keeps_uids rows later one.keeps, fetches_steady shown values later told one.fits (All-tail (StandsAt shown) row told stand))

-- ---- data lines

-- they are steady, and the rows fit behind them
record AreFitting (shown : List Shown) (rows : List Known) (replies : List Reply) : Type 0 where
  steady : Steady rows replies
  fits : Fits shown (all_heard rows replies)

line_steady : (mail : ℕ → Mail) (m : Mailbox) (view : View) (items : List Item) (rows : List Known) (row : ℕ × Shown) → Fits view.rows rows → StandsAt view.rows row
    → AreFitting view.rows rows (fetch_lines mail m items row)
line_steady mail m view items rows row fits stands = by_test (list_any reads_message items) refl (message_in mail m row.1.uid) refl
  where
    one : (message : List ℕ) → AreFitting view.rows rows (reply.Fetch row.0 row.1.uid (map (value_of m row.1 message) items) ∷ [])
    one message =
        let values : List Value = map (value_of m row.1 message) items in
        let is = fetch_fits view.rows rows row values fits stands in
        record { steady = (λ e. keeps_uids rows (heard rows (reply.Fetch row.0 row.1.uid values)) is.keeps, tt); fits = is.fits }

    by_test : (b : Bool) → list_any reads_message items ≡ b → (o : Option (List ℕ)) → message_in mail m row.1.uid ≡ o → AreFitting view.rows rows (fetch_lines mail m items row)
    by_test false reads o is = rw reads (one [])
    by_test true reads None is = rw (reads, is) (record { steady = tt; fits = fits })
    by_test true reads (Some message) is = rw (reads, is) (one message)

lines_steady : (mail : ℕ → Mail) (m : Mailbox) (view : View) (items : List Item) (rows : List Known) (told : List (ℕ × Shown)) → Fits view.rows rows → All (StandsAt view.rows) told
    → Steady rows (flat_map (fetch_lines mail m items) told)
lines_steady mail m view items rows [] fits stand = tt
lines_steady mail m view items rows (row ∷ told) fits stand =
    let one = line_steady mail m view items rows row fits (All-head (StandsAt view.rows) row told stand) in
    replies_then rows (fetch_lines mail m items row) (flat_map (fetch_lines mail m items) told) one.steady
    (lines_steady mail m view items (all_heard rows (fetch_lines mail m items row)) told one.fits (All-tail (StandsAt view.rows) row told stand))

data_steady : (mail : ℕ → Mail) (c : Command) (before m : Mailbox) (view : View) → Steady (known_of before view) (data_of mail c view m)
data_steady mail (command.Fetch by_uid set items) before m view =
    lines_steady mail m view items (known_of before view) (named by_uid set view) (known_fits before view.rows) (named_stand by_uid set view)
data_steady mail (command.Search by_uid key) before m view = (λ e. keeps_itself (known_of before view), tt)
data_steady mail c before m view = tt

-- ---- what is said of a move

expunges_steady : (rows : List Known) (left : List (ℕ × Shown)) → Steady rows (map (λ row. reply.Expunge row.0) left)
expunges_steady rows [] = tt
expunges_steady rows (row ∷ left) = (λ e. absurd cc, expunges_steady (heard rows (reply.Expunge row.0)) left)

unknown_fits : (shown : List Shown) (n : ℕ) → Fits shown (replicate n unknown)
unknown_fits shown zero = tt
unknown_fits [] (suc n) = (refl, unknown_fits [] n)
unknown_fits (s ∷ shown) (suc n) = (λ some. absurd (some refl), unknown_fits shown n)

more_fits : (shown : List Shown) (rows : List Known) (n : ℕ) → Fits shown rows → Fits shown (rows ++ replicate n unknown)
more_fits shown [] n fits = unknown_fits shown n
more_fits [] (row ∷ rows) n fits = (fits.0, more_fits [] rows n fits.1)
more_fits (s ∷ shown) (row ∷ rows) n fits = (fits.0, more_fits shown rows n fits.1)

exists_fits : (shown : List Shown) (rows : List Known) (n : ℕ) → length rows ≤ n → Fits shown rows → IsFitting shown rows (heard rows (reply.Exists n))
exists_fits shown rows n le fits =
    subst (λ (front : List Known). IsFitting shown rows (front ++ replicate (n - length rows) unknown)) (sym (take_all n rows le))
    (record { keeps = keeps_more rows (replicate (n - length rows) unknown); fits = more_fits shown rows (n - length rows) fits })

numbers_kept : (p : Shown → Bool) (k : ℕ) (rows : List Shown) → numbers p k rows ≡ filter (λ (row : ℕ × Shown). p row.1) (enumerate_from k rows)
numbers_kept p k [] = refl
numbers_kept p k (s ∷ rows) = ap (λ (rest : List (ℕ × Shown)). cond (p s) ((k, s) ∷ rest) rest) (numbers_kept p (k + 1) rows)

changes_steady : (m : Mailbox) (old new : View) (rows : List Known) → Fits new.rows rows → Steady rows (changes m old new)
changes_steady m old new rows fits =
    let test : Shown → Bool = λ s. not (list_any (same_row s) old.rows) in
    fetches_steady new.rows (λ row. value.Flags row.1.flags (names_of m row.1.keywords) ∷ []) rows (numbers test 1 new.rows) fits
    (subst (All (StandsAt new.rows)) (sym (numbers_kept test 1 new.rows)) (All-filter (λ (row : ℕ × Shown). test row.1) (StandsAt new.rows) (enumerate_from 1 new.rows) (numbered_stand new)))

aligned_fits : (Is : Shown → Type 0) (b : ℕ) (m : Mailbox) (kept new : List Shown) → Aligned Is b kept new → Fits new (map (known_row m) kept)
aligned_fits Is b m [] new a = tt
aligned_fits Is b m (k ∷ kept) [] a = absurd a
aligned_fits Is b m (k ∷ kept) (s ∷ new) a = (λ some. sym a.1, aligned_fits Is b m kept new a.2)

growth_steady : (old new : View) (rows : List Known) → length rows ≤ length new.rows → Fits new.rows rows → AreFitting new.rows rows (growth old new)
growth_steady old new rows le fits = by_test (list_all (λ s. shows_uid old s.uid) new.rows)
  where
    by_test : (b : Bool) → AreFitting new.rows rows (cond b [] (reply.Exists (length new.rows) ∷ []))
    by_test true = record { steady = tt; fits = fits }
    by_test false =
        let one = exists_fits new.rows rows (length new.rows) le fits in
        record { steady = (λ e. keeps_uids rows (heard rows (reply.Exists (length new.rows))) one.keeps, tt); fits = one.fits }

module _ (before m : Mailbox) (view : View) (read : IsReadIn before view) (more : List (List ℕ)) (table : m.keywords ≡ before.keywords ++ more) (new : View) (moves : Moves view new.rows) where
  abbrev kept : List Shown
  kept = kept_rows before m view read more table new.rows new.next_uid moves

  said_steady : Steady (known_of before view) (said m view new)
  said_steady =
      let line = lined_up before m view read more table new.rows new.next_uid moves in
      let behind = after_removals before m view read more table new.rows new.next_uid moves in
      let rows : List Known = map (known_row before) kept in
      let short : length rows ≤ length new.rows = omega (arith, aligned_short (In before m view read more table) view.next_uid kept new.rows line, length-map kept (known_row before)) in
      let grown = growth_steady view new rows short (aligned_fits (In before m view read more table) view.next_uid before kept new.rows line) in
      subst (Steady (known_of before view)) (sym (append_assoc (removals view new) (growth view new) (changes m view new)))
      (replies_then (known_of before view) (removals view new) (growth view new ++ changes m view new)
      (expunges_steady (known_of before view) (reverse (numbers (λ s. not (shows_uid new s.uid)) 1 view.rows)))
      (subst (λ known. Steady known (growth view new ++ changes m view new)) (sym behind)
      (replies_then rows (growth view new) (changes m view new) grown.steady (changes_steady m view new (all_heard rows (growth view new)) grown.fits))))

-- ---- an answer

ending_steady : (mail : ℕ → Mail) (c : Command) (v : View) (met m : Mailbox) (mark : Mark) (rows : List Known) → Steady rows (ending_of mail c v met m mark ∷ [])
ending_steady mail c v met m mark rows = (λ e. subst (KeepsUids rows) (sym (ending_heard mail c v met m mark rows)) (keeps_itself rows), tt)

moves_of : (step : Step) (before m : Mailbox) (view : View) → IsReadIn before view → Follows before view m → Moves view (moved step view m).rows
moves_of Held before m view read follows = held_moves before m view read follows
moves_of Full before m view read follows = full_moves before m view follows

pub answer_steady : (mail : ℕ → Mail) (c : Command) (step : Step) (before met m : Mailbox) (view : View) (mark : Mark) → IsReadIn before view → Follows before view m
    → Steady (known_of before view) (data_of mail c view m ++ said m view (moved step view m) ++ ending_of mail c view met m mark ∷ [])
answer_steady mail c step before met m view mark read follows =
    let lines : List Reply = data_of mail c view m in
    let told : List Reply = said m view (moved step view m) in
    let client : List Known = known_of before view in
    let same : all_heard client lines ≡ client = data_known before m view read follows.more follows.names mail c in
    replies_then client (lines ++ told) (ending_of mail c view met m mark ∷ [])
    (replies_then client lines told (data_steady mail c before m view)
    (subst (λ known. Steady known told) (sym same) (said_steady before m view read follows.more follows.names (moved step view m) (moves_of step before m view read follows))))
    (ending_steady mail c view met m mark (all_heard client (lines ++ told)))

pub select_steady : (mail : ℕ → Mail) (met m : Mailbox) (view : View) (mark : Mark)
    → Steady [] (reply.Exists (length view.rows) ∷ reply.Validity m.uid_validity ∷ reply.NextUid m.next_uid ∷ (changes m empty_view view ++ ending_of mail command.Select empty_view met m mark ∷ []))
select_steady mail met m view mark =
    let one = exists_fits view.rows [] (length view.rows) (omega arith) tt in
    let rows : List Known = heard [] (reply.Exists (length view.rows)) in
    let last : List Reply = ending_of mail command.Select empty_view met m mark ∷ [] in (
      λ e. keeps_uids [] rows one.keeps,
      (
        λ e. keeps_itself rows,
        (
          λ e. keeps_itself rows,
          replies_then rows (changes m empty_view view) last (changes_steady m empty_view view rows one.fits)
              (ending_steady mail command.Select empty_view met m mark (all_heard rows (changes m empty_view view))),
        ),
      ),
    )
