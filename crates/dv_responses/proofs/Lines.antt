-- The lines of a FETCH, row by row.
use Rattle.std.proofs.Common.{◌≡◌, ℕ, ◌+◌, ◌<◌, Bool, true, false, cond, List, [], ◌∷◌, ◌++◌, length, get_or, take, map, Option, Some, None, refl, sym, ◌∙◌, ap, subst, arith}
use Rattle.std.specs.Prelude.{All, filter, flat_map}
use Rattle.std.specs.List.{list_any}
use Rattle.std.proofs.lemmas.Grind.{flat_map-append}
use Rattle.std.proofs.lemmas.List.Elements.{filter-append}
use Rattle.std.proofs.lemmas.List.{append-nil, get_or-map, length-map, map-append, take_more}
use Rattle.dv_model.specs.declared.types.Command.TheVariants as command
use Rattle.dv_model.specs.declared.types.Item.{Item}
use Rattle.dv_model.specs.declared.types.Mailbox.{Mailbox}
use Rattle.dv_model.specs.declared.types.Shown.{Shown}
use Rattle.dv_model.specs.declared.types.Span.{Span}
use Rattle.dv_model.specs.Journals.{Mail}
use Rattle.dv_model.specs.Sessions.{fetch_lines, message_in, number_of, reads_message, uids_looked_at}
use Rattle.dv_model.specs.Sets.{named}
use Rattle.dv_model.specs.Views.{View}
use Rattle.dv_search.specs.declared.facts.MailFacts.{MailFacts}
use Rattle.dv_search.specs.Facts.{facts_of}
use Rattle.dv_responses.proofs.Items.{nothing_read}
use Rattle.dv_responses.specs.Fetched.{AreFetched, lines_from, no_facts}
use Rattle.dv_responses.specs.Rows.{row_at, rows_at}
use Rattle.dv_responses.specs.Supplied.{AreSupplied, DescribesItems, Supplies}

module _ (mail : ℕ → Mail) (m : Mailbox) (items : List Item) where
  -- the message as a line needs it
  abbrev pub message_for : ℕ → Option (List ℕ)
  message_for uid = cond (list_any reads_message items) (message_in mail m uid) (Some [])

  -- the line of a row
  pub line_is : (row : ℕ × Shown) → lines_from m items row (message_for row.1.uid) ≡ fetch_lines mail m items row
  line_is row = by_test (list_any reads_message items) refl
    where
      by_message : (o : Option (List ℕ)) → message_in mail m row.1.uid ≡ o → list_any reads_message items ≡ true → lines_from m items row o ≡ fetch_lines mail m items row
      by_message None is reads = rw (reads, is) refl
      by_message (Some message) is reads = rw (reads, is) refl

      by_test : (b : Bool) → list_any reads_message items ≡ b → lines_from m items row (cond b (message_in mail m row.1.uid) (Some [])) ≡ fetch_lines mail m items row
      by_test true reads = by_message (message_in mail m row.1.uid) refl reads
      by_test false none = rw none refl

  module _ (facts : List MailFacts) (rows : List Shown) (numbers : List ℕ) (known : AreFetched mail m items facts (rows_at rows numbers)) where
    -- what is known of the message of a row
    pub row_known : (i n : ℕ) (uid : ℕ) → i < length numbers → n ≡ get_or numbers i n → uid ≡ (row_at rows n).uid
        → Supplies (DescribesItems items) (message_for uid) (cond (list_any reads_message items) (facts_of facts uid) (Some no_facts))
    row_known i n uid less is same = by_test (list_any reads_message items) refl
      where
        by_test : (b : Bool) → list_any reads_message items ≡ b → Supplies (DescribesItems items) (cond b (message_in mail m uid) (Some [])) (cond b (facts_of facts uid) (Some no_facts))
        by_test true reads =
            let long : length (rows_at rows numbers) ≡ length numbers = length-map numbers (λ (number : ℕ). (number, row_at rows number)) in
            let there = known reads i (n, row_at rows n) (omega (arith, long, less)) in
            let here : get_or (rows_at rows numbers) i (n, row_at rows n) ≡ (n, row_at rows n) = get_or-map (λ (number : ℕ). (number, row_at rows number)) numbers i n (n, row_at rows n) less ∙ ap (λ (number : ℕ). (number, row_at rows number)) (sym is) in
            let all = subst (λ (row : ℕ × Shown). Supplies (DescribesItems items) (message_in mail m row.1.uid) (facts_of facts row.1.uid)) here there in
            subst (λ u. Supplies (DescribesItems items) (message_in mail m u) (facts_of facts u)) (sym same) all
        by_test false none = nothing_read items none

  -- one row more
  pub lines_more : (rows : List Shown) (numbers : List ℕ) (i n : ℕ) → i < length numbers → n ≡ get_or numbers i n
      → flat_map (fetch_lines mail m items) (rows_at rows (take (i + 1) numbers)) ≡ flat_map (fetch_lines mail m items) (rows_at rows (take i numbers)) ++ fetch_lines mail m items (n, row_at rows n)
  lines_more rows numbers i n less is =
      let f = fetch_lines mail m items in
      let at : ℕ → ℕ × Shown = λ number. (number, row_at rows number) in
      ap (λ ns. flat_map f (rows_at rows ns)) (take_more numbers i n less ∙ ap (λ k. take i numbers ++ k ∷ []) (sym is)) ∙ ap (flat_map f) (map-append (λ (number : ℕ). (number, row_at rows number)) (take i numbers) (n ∷ [])) ∙ flat_map-append f (rows_at rows (take i numbers)) ((n, row_at rows n) ∷ []) ∙ ap (λ t. flat_map f (rows_at rows (take i numbers)) ++ t) (append-nil (f (n, row_at rows n)))

-- ---- from what is supplied

-- the messages of the rows that a FETCH names
pub fetched : (mail : ℕ → Mail) (by_uid : Bool) (set : List Span) (items : List Item) (view : View) (m : Mailbox) (facts : List MailFacts)
    → AreSupplied mail (command.Fetch by_uid set items) view m facts → AreFetched mail m items facts (named by_uid set view)
fetched mail by_uid set items view m facts supplied = λ reads i d less.
    let rows = named by_uid set view in
    let looked : uids_looked_at (command.Fetch by_uid set items) view ≡ map (λ (row : ℕ × Shown). row.1.uid) rows = ap (λ b. map (λ (row : ℕ × Shown). row.1.uid) (cond b rows [])) reads in
    let all : All (λ uid. Supplies (DescribesItems items) (message_in mail m uid) (facts_of facts uid)) (map (λ (row : ℕ × Shown). row.1.uid) rows) = subst (All (λ uid. Supplies (DescribesItems items) (message_in mail m uid) (facts_of facts uid))) looked (supplied reads) in
    let long : length (map (λ (row : ℕ × Shown). row.1.uid) rows) ≡ length rows = length-map rows (λ (row : ℕ × Shown). row.1.uid) in
    subst (λ uid. Supplies (DescribesItems items) (message_in mail m uid) (facts_of facts uid)) (get_or-map (λ (row : ℕ × Shown). row.1.uid) rows i d 0 less) (all i 0 (omega (arith, long, less)))

-- ---- rows that are kept

one_kept : (by_uid : Bool) (row : ℕ × Shown) (b : Bool) → map (number_of by_uid) (cond b (row ∷ []) []) ≡ cond b (number_of by_uid row ∷ []) []
one_kept by_uid row true = refl
one_kept by_uid row false = refl

pub kept_more : (p : ℕ × Shown → Bool) (by_uid : Bool) (rows : List Shown) (numbers : List ℕ) (i n : ℕ) → i < length numbers → n ≡ get_or numbers i n
    → map (number_of by_uid) (filter p (rows_at rows (take (i + 1) numbers))) ≡ map (number_of by_uid) (filter p (rows_at rows (take i numbers))) ++ cond (p (n, row_at rows n)) (number_of by_uid (n, row_at rows n) ∷ []) []
kept_more p by_uid rows numbers i n less is =
    ap (λ ns. map (number_of by_uid) (filter p (rows_at rows ns))) (take_more numbers i n less ∙ ap (λ k. take i numbers ++ k ∷ []) (sym is)) ∙ ap (λ rs. map (number_of by_uid) (filter p rs)) (map-append (λ (number : ℕ). (number, row_at rows number)) (take i numbers) (n ∷ [])) ∙ ap (map (number_of by_uid)) (filter-append p (rows_at rows (take i numbers)) ((n, row_at rows n) ∷ [])) ∙ map-append (number_of by_uid) (filter p (rows_at rows (take i numbers))) (cond (p (n, row_at rows n)) ((n, row_at rows n) ∷ []) []) ∙ ap (λ t. map (number_of by_uid) (filter p (rows_at rows (take i numbers))) ++ t) (one_kept by_uid (n, row_at rows n) (p (n, row_at rows n)))
