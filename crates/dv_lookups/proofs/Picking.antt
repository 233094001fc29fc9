-- What a search picks of a row, by what was found of its message.
use Rattle.std.proofs.Common.{◌≡◌, ℕ, ◌+◌, ◌<◌, ◌≤◌, Bool, true, false, cond, List, [], ◌∷◌, ◌++◌, length, get_or, take, map, Option, Some, None, refl, sym, ◌∙◌, ap, subst, arith}
use Rattle.std.specs.Prelude.{filter}
use Rattle.std.proofs.lemmas.List.{get_or-map, length-map, map-append, take_all, take_more}
use Rattle.std.proofs.lemmas.List.Elements.{filter-append}
use Rattle.std.proofs.lemmas.List.FromFn.{get_or-enumerate_from, length-enumerate_from}
use Rattle.dv_model.specs.declared.types.Command.TheVariants as command
use Rattle.dv_model.specs.declared.types.Key.{Key}
use Rattle.dv_model.specs.declared.types.Mailbox.{Mailbox}
use Rattle.dv_model.specs.declared.types.Shown.{Shown}
use Rattle.dv_model.specs.Journals.{Mail, Held, Damaged}
use Rattle.dv_model.specs.Sessions.{candidate, number_of}
use Rattle.dv_model.specs.Sets.{numbered}
use Rattle.dv_model.specs.Views.{View}
use Rattle.dv_shelf.specs.Folders.{Folder}
use Rattle.dv_search.specs.declared.facts.MailFacts.{MailFacts}
use Rattle.dv_search.specs.Facts.{AreKnown, Describes, is_found}
use Rattle.dv_responses.specs.Asked.{SearchAsks}
use Rattle.dv_responses.specs.Supplied.{facts_from}
use Rattle.dv_responses.specs.declared.asking.Asked.{Asked}
use Rattle.dv_lookups.specs.declared.found.FactsFound.TheVariants as facts
use Rattle.dv_lookups.specs.Founds.{facts_found, mail_of}
use Rattle.dv_lookups.specs.Reads.{held_in, numbers_found, uids_of}
use Rattle.dv_lookups.proofs.Supplying.{describes}

-- ---- what is known of its message

module _ (k : Key) (asked : Asked) (asks : SearchAsks k asked) (uid : ℕ) where
  pub known_some : (mail : Option Mail) (f : MailFacts) → facts.Known f ≡ facts_found asked uid mail → AreKnown k (held_in mail) (Some f)
  known_some None f is needed = absurd (cc)
  known_some (Some Damaged) f is needed = absurd (cc)
  known_some (Some (Held message)) f is needed =
      let same : f ≡ facts_from asked uid message = cc in
      subst (Describes k message) (sym same) (describes (command.Search false k) asked uid message asks)

  pub known_gone : (mail : Option Mail) → facts.Gone ≡ facts_found asked uid mail → AreKnown k (held_in mail) None
  known_gone None is needed = tt
  known_gone (Some Damaged) is needed = tt
  known_gone (Some (Held message)) is needed = absurd (cc)

  pub known_damaged : (mail : Option Mail) → facts.Damaged ≡ facts_found asked uid mail → AreKnown k (held_in mail) None
  known_damaged None is needed = tt
  known_damaged (Some Damaged) is needed = tt
  known_damaged (Some (Held message)) is needed = absurd (cc)

-- ---- one row more

one_kept : (by_uid : Bool) (row : ℕ × Shown) (b : Bool) → map (number_of by_uid) (cond b (row ∷ []) []) ≡ cond b (number_of by_uid row ∷ []) []
one_kept by_uid row true = refl
one_kept by_uid row false = refl

-- a row that is found has its number there
abbrev pub number_in : Folder → Mailbox → Key → View → Bool → ℕ × Shown → List ℕ
number_in folder m k view by_uid row = cond (is_found k (candidate view m row.1) (held_in (mail_of folder m row.1.uid))) (number_of by_uid row ∷ []) []

pub numbers_more : (folder : Folder) (m : Mailbox) (k : Key) (view : View) (by_uid : Bool) (rows : List (ℕ × Shown)) (i : ℕ) (d : ℕ × Shown) → i < length rows
    → numbers_found folder m k view by_uid (take (i + 1) rows) ≡ numbers_found folder m k view by_uid (take i rows) ++ number_in folder m k view by_uid (get_or rows i d)
numbers_more folder m k view by_uid rows i d less =
    let finds : ℕ × Shown → Bool = λ row. is_found k (candidate view m row.1) (held_in (mail_of folder m row.1.uid)) in
    let row = get_or rows i d in
    let before = take i rows in
    ap (λ rs. map (number_of by_uid) (filter finds rs)) (take_more rows i d less)
    ∙ ap (map (number_of by_uid)) (filter-append finds before (row ∷ []))
    ∙ map-append (number_of by_uid) (filter finds before) (cond (finds row) (row ∷ []) [])
    ∙ ap (λ t. map (number_of by_uid) (filter finds before) ++ t) (one_kept by_uid row (finds row))

module _ (view : View) (i : ℕ) (less : i < length view.rows) where
  pub numbered_less : i < length (numbered view)
  numbered_less = let long = length-enumerate_from 1 view.rows in omega (arith, long, less)

  pub numbered_is : (s : Shown) → s ≡ get_or view.rows i s → get_or (numbered view) i (i + 1, s) ≡ (i + 1, s)
  numbered_is s is =
      let number : 1 + i ≡ i + 1 = omega arith in
      get_or-enumerate_from 1 view.rows i (i + 1, s) less ∙ ap (λ (n : ℕ). (n, get_or view.rows i s)) number ∙ ap (λ (x : Shown). (i + 1, x)) (sym is)

  pub numbered_uid_less : i < length (uids_of (numbered view))
  numbered_uid_less = let long = length-map (numbered view) (λ (row : ℕ × Shown). row.1.uid) in let inside = numbered_less in omega (arith, long, inside)

  pub numbered_uid : (s : Shown) → s ≡ get_or view.rows i s → get_or (uids_of (numbered view)) i 0 ≡ s.uid
  numbered_uid s is = get_or-map (λ (row : ℕ × Shown). row.1.uid) (numbered view) i (i + 1, s) 0 numbered_less ∙ ap (λ (row : ℕ × Shown). row.1.uid) (numbered_is s is)

-- ---- all rows

module _ (view : View) (i : ℕ) (done : length view.rows ≤ i) where
  pub all_numbered : take i (numbered view) ≡ numbered view
  all_numbered = let long = length-enumerate_from 1 view.rows in take_all i (numbered view) (omega (arith, done, long))

  pub all_numbered_uids : take i (uids_of (numbered view)) ≡ uids_of (numbered view)
  all_numbered_uids =
      let long = length-enumerate_from 1 view.rows in
      let same = length-map (numbered view) (λ (row : ℕ × Shown). row.1.uid) in
      take_all i (uids_of (numbered view)) (omega (arith, done, long, same))
