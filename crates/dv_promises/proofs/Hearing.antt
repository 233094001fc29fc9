-- What a client knows after it hears an answer.
use Rattle.std.proofs.Common.{◌≡◌, ℕ, zero, suc, ◌+◌, ◌-◌, ◌<◌, ◌≤◌, Bool, true, false, List, [], ◌∷◌, ◌++◌, length, Option, Some, None, refl, sym, ◌∙◌, ap, subst, arith, length-append}
use Rattle.std.specs.Prelude.{All, flat_map, fold, map, option_map, replicate, slice_get, slice_set, take}
use Rattle.std.specs.List.{enumerate_from, list_any}
use Rattle.std.proofs.lemmas.List.{append_assoc, length-replicate, length-take, length_push}
use Rattle.std.proofs.lemmas.List.Elements.{All-cons, All-filter, All-head, All-tail}
use Rattle.std.proofs.lemmas.List.Sums.{fold-append}
use Rattle.std.proofs.lemmas.Option.{slice_get-map}
use Rattle.dv_model.specs.declared.types.Command.{Command}
use Rattle.dv_model.specs.declared.types.Command.TheVariants as command
use Rattle.dv_model.specs.declared.types.Item.{Item}
use Rattle.dv_model.specs.declared.types.Item.TheVariants as item
use Rattle.dv_model.specs.declared.types.Mailbox.{Mailbox}
use Rattle.dv_model.specs.declared.types.Mark.{Mark}
use Rattle.dv_model.specs.declared.types.Reply.TheVariants as reply
use Rattle.dv_model.specs.declared.types.Shown.{Shown}
use Rattle.dv_model.specs.declared.types.Span.{Span}
use Rattle.dv_model.specs.Journals.{Mail}
use Rattle.dv_model.specs.Laws.{IsReadIn}
use Rattle.dv_model.specs.Sessions.{data_of, damaged_uid, ending_of, fetch_lines, gone_uid, message_in, reads_message, value_of}
use Rattle.dv_model.specs.Sets.{is_in_set, largest_uid, named, numbered}
use Rattle.dv_model.specs.Views.{Known, View, all_heard, changes, empty_view, heard, known_of, known_row, names_of, unknown, with_number, with_values}
use Rattle.dv_model.specs.Appends.{all_fetches}
use Rattle.dv_model.proofs.Appends.{changes_anew}
use Rattle.dv_model.proofs.Clients.{each_of_all, names_same}
use Rattle.dv_model.proofs.Speaking.{one_of}

-- ---- rows by their numbers

-- the row stands at its number
pub record StandsAt (rows : List Shown) (row : ℕ × Shown) : Type 0 where
  pub number : 1 ≤ row.0
  pub is : slice_get rows (row.0 - 1) ≡ Some row.1

-- in a list behind so many others
stand_from : (front rest : List Shown) → All (StandsAt (front ++ rest)) (enumerate_from (length front + 1) rest)
stand_from front [] = λ k d h. absurd (omega (arith, h))
stand_from front (s ∷ rest) =
    All-cons (StandsAt (front ++ s ∷ rest)) (length front + 1, s) (enumerate_from (length front + 1 + 1) rest)
    (record { number = omega arith; is = here (length front + 1 - 1) (omega arith) })
    (subst (λ rows. All (StandsAt rows) (enumerate_from (length front + 1 + 1) rest)) (append_assoc front (s ∷ []) rest)
    (subst (λ n. All (StandsAt ((front ++ s ∷ []) ++ rest)) (enumerate_from n rest)) (omega (arith, length_push front s)) (stand_from (front ++ s ∷ []) rest)))
  where
    at_front : (xs : List Shown) → slice_get (xs ++ s ∷ rest) (length xs) ≡ Some s
    at_front [] = refl
    at_front (x ∷ xs) = at_front xs

    here : (n : ℕ) → n ≡ length front → slice_get (front ++ s ∷ rest) n ≡ Some s
    here n is = ap (slice_get (front ++ s ∷ rest)) is ∙ at_front front

pub numbered_stand : (view : View) → All (StandsAt view.rows) (numbered view)
numbered_stand view = subst (λ n. All (StandsAt view.rows) (enumerate_from n view.rows)) (omega arith) (stand_from [] view.rows)

pub named_stand : (by_uid : Bool) (set : List Span) (view : View) → All (StandsAt view.rows) (named by_uid set view)
named_stand true set view = All-filter (λ (row : ℕ × Shown). is_in_set (largest_uid view) set row.1.uid) (StandsAt view.rows) (numbered view) (numbered_stand view)
named_stand false set view = All-filter (λ (row : ℕ × Shown). is_in_set (length view.rows) set row.0) (StandsAt view.rows) (numbered view) (numbered_stand view)

-- ---- data lines say what the client knows

set_same : {X : Type 0} (xs : List X) (k : ℕ) (x : X) → slice_get xs k ≡ Some x → slice_set xs k x ≡ xs
set_same [] zero x is = refl
set_same [] (suc k) x is = refl
set_same (y ∷ xs) zero x is = let e : y ≡ x = cc in ap (λ z. z ∷ xs) (sym e)
set_same (y ∷ xs) (suc k) x is = ap (λ zs. y ∷ zs) (set_same xs k x is)

number_same : (rows : List Known) (k : ℕ) (row : Known) → 1 ≤ k → slice_get rows (k - 1) ≡ Some row → with_number rows k row ≡ rows
number_same rows zero row le is = absurd (omega (arith, le))
number_same rows (suc k) row le is = let e : suc k - 1 ≡ k = omega arith in set_same rows k row (subst (λ n. slice_get rows n ≡ Some row) e is)

module _ (before m : Mailbox) (view : View) (read : IsReadIn before view) (more : List (List ℕ)) (table : m.keywords ≡ before.keywords ++ more) where
  -- the row as it is told, by the later table
  known_there : (row : ℕ × Shown) → StandsAt view.rows row → slice_get (known_of before view) (row.0 - 1) ≡ Some (record { uid = row.1.uid; flags = row.1.flags; keywords = names_of m row.1.keywords })
  known_there row stands =
      let places : All (λ k. k < length before.keywords) row.1.keywords = one_of (λ (s : Shown). All (λ k. k < length before.keywords) s.keywords) view.rows (row.0 - 1) row.1 read.keywords stands.is in
      slice_get-map (known_row before) view.rows (row.0 - 1)
      ∙ ap (option_map (known_row before)) stands.is
      ∙ ap (λ names. Some (record { uid = row.1.uid; flags = row.1.flags; keywords = names })) (names_same before m more table row.1.keywords (each_of_all (λ k. k < length before.keywords) row.1.keywords places))

  values_known : (row : ℕ × Shown) → StandsAt view.rows row → (message : List ℕ) (items : List Item) → with_values (known_of before view) row.0 row.1.uid (map (value_of m row.1 message) items) ≡ known_of before view
  values_known row stands message [] = refl
  values_known row stands message (item.Flags ∷ items) = number_same (known_of before view) row.0 _ stands.number (known_there row stands)
  values_known row stands message (item.Size ∷ items) = values_known row stands message items
  values_known row stands message (item.Body ∷ items) = values_known row stands message items
  values_known row stands message (item.Field name ∷ items) = values_known row stands message items
  values_known row stands message (item.Modseq ∷ items) = values_known row stands message items

  lines_known : (mail : ℕ → Mail) (items : List Item) (row : ℕ × Shown) → StandsAt view.rows row → all_heard (known_of before view) (fetch_lines mail m items row) ≡ known_of before view
  lines_known mail items row stands = by_test (list_any reads_message items) refl (message_in mail m row.1.uid) refl
    where
      by_test : (b : Bool) → list_any reads_message items ≡ b → (o : Option (List ℕ)) → message_in mail m row.1.uid ≡ o → all_heard (known_of before view) (fetch_lines mail m items row) ≡ known_of before view
      by_test false reads o is = rw reads (values_known row stands [] items)
      by_test true reads None is = rw (reads, is) refl
      by_test true reads (Some message) is = rw (reads, is) (values_known row stands message items)

  all_lines : (mail : ℕ → Mail) (items : List Item) (rows : List (ℕ × Shown)) → All (StandsAt view.rows) rows → all_heard (known_of before view) (flat_map (fetch_lines mail m items) rows) ≡ known_of before view
  all_lines mail items [] stand = refl
  all_lines mail items (row ∷ rows) stand =
      fold-append heard (known_of before view) (fetch_lines mail m items row) (flat_map (fetch_lines mail m items) rows)
      ∙ ap (λ known. fold heard known (flat_map (fetch_lines mail m items) rows)) (lines_known mail items row (All-head (StandsAt view.rows) row rows stand))
      ∙ all_lines mail items rows (All-tail (StandsAt view.rows) row rows stand)

  pub data_known : (mail : ℕ → Mail) (c : Command) → all_heard (known_of before view) (data_of mail c view m) ≡ known_of before view
  data_known mail (command.Fetch by_uid set items) = all_lines mail items (named by_uid set view) (named_stand by_uid set view)
  data_known mail (command.Search by_uid key) = refl
  data_known mail c = refl

-- ---- the last line says nothing of rows

pub ending_heard : (mail : ℕ → Mail) (c : Command) (v : View) (met m : Mailbox) (mark : Mark) (rows : List Known) → heard rows (ending_of mail c v met m mark) ≡ rows
ending_heard mail c v met m mark rows = by_gone (gone_uid c v m) refl (damaged_uid mail c v m) refl
  where
    by_gone : (o : Option ℕ) → gone_uid c v m ≡ o → (d : Option ℕ) → damaged_uid mail c v m ≡ d → heard rows (ending_of mail c v met m mark) ≡ rows
    by_gone (Some uid) is d one = rw is refl
    by_gone None is (Some uid) one = rw (is, one) refl
    by_gone None is None one = rw (is, one) refl

-- ---- SELECT says each row anew

set_behind : (front : List Known) (y : Known) (ys : List Known) (z : Known) (k : ℕ) → k ≡ length front + 1 → with_number (front ++ y ∷ ys) k z ≡ front ++ z ∷ ys
set_behind front y ys z k is = let e : k ≡ suc (length front) = omega arith in ap (λ n. with_number (front ++ y ∷ ys) n z) e ∙ behind front
  where
    behind : (xs : List Known) → slice_set (xs ++ y ∷ ys) (length xs) z ≡ xs ++ z ∷ ys
    behind [] = refl
    behind (x ∷ xs) = ap (λ zs. x ∷ zs) (behind xs)

fetches_heard : (k : ℕ) (m : Mailbox) (front cs : List Known) (rows : List Shown) → k ≡ length front + 1 → length cs ≡ length rows → all_heard (front ++ cs) (all_fetches m k rows) ≡ front ++ map (known_row m) rows
fetches_heard k m front [] [] is many = refl
fetches_heard k m front [] (s ∷ rows) is many = absurd (omega (arith, many))
fetches_heard k m front (c ∷ cs) [] is many = absurd (omega (arith, many))
fetches_heard k m front (c ∷ cs) (s ∷ rows) is many =
    ap (λ known. fold heard known (all_fetches m (k + 1) rows)) (set_behind front c cs (known_row m s) k is)
    ∙ ap (λ known. fold heard known (all_fetches m (k + 1) rows)) (sym (append_assoc front (known_row m s ∷ []) cs))
    ∙ fetches_heard (k + 1) m (front ++ known_row m s ∷ []) cs rows (omega (arith, is, length_push front (known_row m s))) (omega (arith, many))
    ∙ append_assoc front (known_row m s ∷ []) (map (known_row m) rows)

pub select_heard : (m : Mailbox) (view : View) (client : List Known)
    → all_heard client (reply.Exists (length view.rows) ∷ reply.Validity m.uid_validity ∷ reply.NextUid m.next_uid ∷ changes m empty_view view) ≡ known_of m view
select_heard m view client =
    let n : ℕ = length view.rows in
    let rows : List Known = take n client ++ replicate (n - length client) unknown in
    let many : length rows ≡ n = omega (arith, length-append (take n client) (replicate (n - length client) unknown), length-take n client, length-replicate (n - length client) unknown) in
    ap (all_heard rows) (changes_anew m view) ∙ fetches_heard 1 m [] rows view.rows refl many
