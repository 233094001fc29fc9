-- What is kept of a mailbox is the answer of a UID SEARCH, behind each group too.
use Rattle.std.proofs.Common.{◌≡◌, inl, inr, ℕ, ◌+◌, Bool, true, false, cond, List, [], ◌∷◌, ◌++◌, length, map, filter, Option, None, Some, refl, sym, ap, subst, ◌∙◌, arith}
use Rattle.std.specs.Prelude.{Contains, Err, IfSome, Ok, OnErr, OnOk, Result}
use Rattle.std.specs.List.{AllByRecursion, enumerate_from}
use Rattle.std.proofs.lemmas.List.Elements.{All-weaker}
use Rattle.dv_model.specs.declared.types.Fresh.{Fresh}
use Rattle.dv_model.specs.declared.types.Key.{Key}
use Rattle.dv_model.specs.declared.types.Mailbox.{Mailbox}
use Rattle.dv_model.specs.declared.types.Reply.TheVariants as reply
use Rattle.dv_model.specs.declared.types.Shown.{Shown}
use Rattle.dv_model.specs.declared.types.Step.TheVariants.{Full}
use Rattle.dv_model.specs.Fresh.{AreFresh, IsFreshRow}
use Rattle.dv_model.specs.Journals.{Mail}
use Rattle.dv_model.specs.Mailboxes.{IsValid}
use Rattle.dv_model.specs.Searches.{meets, needs_mail}
use Rattle.dv_model.specs.Sessions.{candidate, is_found, number_of}
use Rattle.dv_model.specs.Views.{View, empty_view, moved, shown}
use Rattle.dv_model.proofs.Clients.{filter_same}
use Rattle.dv_validity.proofs.Numbers.{records_keep}
use Rattle.dv_view.proofs.Moving.{all_of_each}
use Rattle.dv_answer.specs.Following.{Tracks, fresh_of}
use Rattle.dv_answer.proofs.Keeping.{select_tracks, touch_tracks}
use Rattle.dv_answer.proofs.Tracking.{tracked_fresh}
use Rattle.dv_search.specs.Stars.{row_in}
use Rattle.dv_live.specs.Groups.{AreTurns, Followed, Turn}
use Rattle.dv_live.specs.Keeping.{Agrees, IsPlaced, KeptSearch, found_uids, largest_of}
use Rattle.dv_live.specs.Laws.{GroupsBecome, IsOf, IsSearched, KeptIsSearched, TouchedAreFollowed, TurnsAreSearched}
use Rattle.dv_live.specs.Steadiness.{steady}
use Rattle.dv_live.proofs.Found.{reads_none}

-- ---- the answer of a UID SEARCH

numbered_uids : (q : Shown → Bool) (k : ℕ) (rows : List Shown) → map (number_of true) (filter (λ (row : ℕ × Shown). q row.1) (enumerate_from k rows)) ≡ map (λ s. s.uid) (filter q rows)
numbered_uids q k [] = refl
numbered_uids q k (s ∷ rows) = by_test (q s) (numbered_uids q (k + 1) rows)
  where
    by_test : (b : Bool) → map (number_of true) (filter (λ (row : ℕ × Shown). q row.1) (enumerate_from (k + 1) rows)) ≡ map (λ (t : Shown). t.uid) (filter q rows)
        → map (number_of true) (cond b ((k, s) ∷ filter (λ (row : ℕ × Shown). q row.1) (enumerate_from (k + 1) rows)) (filter (λ (row : ℕ × Shown). q row.1) (enumerate_from (k + 1) rows)))
        ≡ map (λ (t : Shown). t.uid) (cond b (s ∷ filter q rows) (filter q rows))
    by_test true rest = ap (λ us. s.uid ∷ us) rest
    by_test false rest = rest

found_without_mail : (mail : ℕ → Mail) (view : View) (m : Mailbox) (key : Key) (s : Shown) → needs_mail key ≡ false → is_found mail view m key s ≡ meets key (candidate view m s [])
found_without_mail mail view m key s e = rw e refl

each : {X : Type 0} (P : X → Type 0) → ((x : X) → P x) → (xs : List X) → AllByRecursion P xs
each P all [] = tt
each P all (x ∷ xs) = (all x, each P all xs)

pub kept_is_searched : KeptIsSearched
kept_is_searched kept m steady is mail =
    let view : View = moved Full empty_view m in
    let key = kept.key in
    let rows : List Shown = map shown m.rows in
    let same : map (λ s. s.uid) (filter (is_found mail view m key) rows) ≡ kept.uids =
    ap (map (λ s. s.uid)) (filter_same (is_found mail view m key) (λ s. meets key (row_in m.keywords (largest_of rows) s)) rows
    (each (λ (s : Shown). is_found mail view m key s ≡ meets key (row_in m.keywords (largest_of rows) s)) (λ s. found_without_mail mail view m key s (reads_none key steady)) rows))
    ∙ ap (λ ns. found_uids key ns rows) (sym is.names) ∙ sym is.agrees.uids in
    ap (λ us. reply.Search us ∷ []) (numbered_uids (is_found mail view m key) 1 rows ∙ same)

-- ---- a group

nothing_in : {A : Type 0} (u : ℕ) → Contains [] u → A
nothing_in u (k, less, at) = absurd (omega (arith, less))

pub touched_are_followed : TouchedAreFollowed
touched_are_followed kept new m touched became rising =
    let before = became.before in
    let leads = became.leads in
    let view : View = moved Full empty_view before in
    let tracks : Tracks m view touched = touch_tracks before m view [] touched touched (select_tracks before became.valid) leads rising
    (λ u. (λ there. inr there, λ there. elim there [ inl none ↦ nothing_in u none | inr more ↦ more ])) in
    let fresh : AreFresh view m.next_uid (length m.keywords) (fresh_of m touched) = tracked_fresh m view touched tracks leads.valid in (
      record {
        given = record {
          rising = fresh.rising;
          own = All-weaker (λ (f : Fresh). IfSome f.row (IsFreshRow (length m.keywords) f.uid)) (λ (f : Fresh). IfSome f.row (λ s. s.uid ≡ f.uid)) (λ f row. own f.uid f.row row) (fresh_of m touched) fresh.rows;
        };
        placed = All-weaker (λ (f : Fresh). IfSome f.row (IsFreshRow (length m.keywords) f.uid)) (λ (f : Fresh). IfSome f.row (IsPlaced (length m.keywords))) (λ f row. placed f.uid f.row row) (fresh_of m touched) fresh.rows;
        more = became.more;
        begins = became.table ∙ ap (λ ns. ns ++ became.more) (sym became.is.names);
      },
      λ followed. record {
        names = followed.names;
        agrees = subst (Agrees new) (sym tracks.rows) (followed.agrees (map shown before.rows) became.is.agrees);
      },
    )
  where
    own : (uid : ℕ) (o : Option Shown) → IfSome o (IsFreshRow (length m.keywords) uid) → IfSome o (λ s. s.uid ≡ uid)
    own uid None row = tt
    own uid (Some s) row = row.is

    placed : (uid : ℕ) (o : Option Shown) → IfSome o (IsFreshRow (length m.keywords) uid) → IfSome o (IsPlaced (length m.keywords))
    placed uid None row = tt
    placed uid (Some s) row = row.keywords.1

pub groups_become : GroupsBecome
groups_become kept before m records touched is valid applied leads =
    let grows = (records_keep before m records applied).table in
    record { before = before; valid = valid; is = is; leads = leads; more = grows.0; table = grows.1 }

-- ---- groups

each_searched : (key : Key) (kept : KeptSearch) (m : Mailbox) (turns : List Turn) → kept.key ≡ key → steady key ≡ true → IsValid m → IsOf kept m → AreTurns m kept turns
    → AllByRecursion (λ (turn : Turn). IsSearched key turn.kept.uids turn.mailbox) turns
each_searched key kept m [] same steady valid is are = tt
each_searched key kept m (turn ∷ turns) same steady_key valid is are =
    let one = are.0 in
    let step = touched_are_followed kept turn.kept turn.mailbox turn.touched (groups_become kept m turn.mailbox turn.group.records turn.touched is valid one.applied one.leads) one.rising in
    let followed : Followed kept turn.kept (fresh_of turn.mailbox turn.touched) turn.mailbox.keywords = one.follows step.0 in
    let next : IsOf turn.kept turn.mailbox = step.1 followed in
    let now : turn.kept.key ≡ key = followed.key ∙ same in
    let searched : IsSearched turn.kept.key turn.kept.uids turn.mailbox = kept_is_searched turn.kept turn.mailbox (ap steady now ∙ steady_key) next in
    (subst (λ k. IsSearched k turn.kept.uids turn.mailbox) now searched, each_searched key turn.kept turn.mailbox turns now steady_key one.leads.valid next are.1)

pub turns_are_searched : TurnsAreSearched
turns_are_searched kept m turns steady valid is are =
    all_of_each (λ (turn : Turn). IsSearched kept.key turn.kept.uids turn.mailbox) turns (each_searched kept.key kept m turns refl steady valid is are)

-- ---- what a call leaves

pub on_ok : {T E : Type 0} (r : Result T E) (P Q : Type 0) → (P → Q) → OnOk r P → OnOk r Q
on_ok (Ok x) P Q follows is = follows is
on_ok (Err e) P Q follows is = tt

pub same_key : {T E : Type 0} (r : Result T E) (old new : KeptSearch) (fresh : List Fresh) (names : List (List ℕ)) → OnOk r (Followed old new fresh names) → OnErr r (new ≡ old) → new.key ≡ old.key
same_key (Ok x) old new fresh names is not = is.key
same_key (Err e) old new fresh names is not = ap (λ (k : KeptSearch). k.key) not
