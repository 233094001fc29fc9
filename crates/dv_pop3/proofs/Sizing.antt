-- What the replies to the FETCH of all sizes list.
use Rattle.std.proofs.Common.{◌≡◌, ℕ, ◌+◌, ◌≤◌, Bool, true, false, ◌||◌, List, [], ◌∷◌, ◌++◌, Some, None, Option, map, append_assoc, refl, sym, ap, subst, ◌∙◌, arith}
use Rattle.std.specs.Prelude.{All, cond, filter, flat_map}
use Rattle.std.specs.List.{enumerate_from, list_any}
use Rattle.std.proofs.lemmas.Bool.Decides.{nat_tests}
use Rattle.std.proofs.lemmas.Grind.{flat_map-append}
use Rattle.std.proofs.lemmas.List.{append-nil}
use Rattle.std.proofs.lemmas.List.Elements.{All-head, All-map, All-tail}
use Rattle.std.proofs.lemmas.List.Folds.{flat_map-map}
use Rattle.dv_model.specs.declared.types.Command.TheVariants.{Select}
use Rattle.dv_model.specs.declared.types.Item.TheVariants as item
use Rattle.dv_model.specs.declared.types.Mailbox.{Mailbox}
use Rattle.dv_model.specs.declared.types.Mark.{Mark}
use Rattle.dv_model.specs.declared.types.Reply.{Reply}
use Rattle.dv_model.specs.declared.types.Reply.TheVariants as reply
use Rattle.dv_model.specs.declared.types.Row.{Row}
use Rattle.dv_model.specs.declared.types.Shown.{Shown}
use Rattle.dv_model.specs.declared.types.Step.TheVariants.{Full}
use Rattle.dv_model.specs.Journals.{Mail, Held, Damaged}
use Rattle.dv_model.specs.Sessions.{State, answer, damaged_uid, ending_of, fetch_lines, gone_uid, has_uid}
use Rattle.dv_model.specs.Sets.{is_in_set, largest_uid, named_by_uid}
use Rattle.dv_model.specs.Transcripts.{is_unavailable}
use Rattle.dv_model.specs.Views.{View, changes, empty_view, moved, shown}
use Rattle.dv_maildrop.specs.declared.types.Listed.{Listed}
use Rattle.dv_serving.proofs.Counting.{AreAvailable, answer_available}
use Rattle.dv_pop3.specs.Listings.{all_uids, failure_by, fetch_sizes, listed_in, listing, sized_by, with_one, with_sizes}
use Rattle.dv_pop3.proofs.Moves.{IsSilent, changes_none, lines_heard}

-- what is told of a move has no sizes
silent : IsSilent sized_by
silent = record { expunge = λ n. refl; exists_ = λ n. refl; flags = λ n uid flags names. refl }

-- ---- all messages are asked

abbrev pub IsUid : ℕ → Type 0
IsUid uid = (1 ≤ uid) × (uid ≤ 4294967295)

in_all : (star uid : ℕ) → IsUid uid → is_in_set star (all_uids ∷ []) uid ≡ true
in_all star uid is = let low : 1 ≤ uid = is.0 in let high : uid ≤ 4294967295 = is.1 in grind (arith, nat_tests)

all_numbered : (star k : ℕ) (rows : List Shown) → All (λ (s : Shown). IsUid s.uid) rows → filter (λ row. is_in_set star (all_uids ∷ []) row.1.uid) (enumerate_from k rows) ≡ enumerate_from k rows
all_numbered star k [] all = refl
all_numbered star k (s ∷ rows) all =
    ap (λ (b : Bool). cond b ((k, s) ∷ filter (λ row. is_in_set star (all_uids ∷ []) row.1.uid) (enumerate_from (k + 1) rows)) (filter (λ row. is_in_set star (all_uids ∷ []) row.1.uid) (enumerate_from (k + 1) rows))) (in_all star s.uid (All-head (λ (s : Shown). IsUid s.uid) s rows all))
    ∙ ap (λ (l : List (ℕ × Shown)). (k, s) ∷ l) (all_numbered star (k + 1) rows (All-tail (λ (s : Shown). IsUid s.uid) s rows all))

-- ---- each with its size

module _ (mail : ℕ → Mail) (m : Mailbox) where
  one_sized : (k : ℕ) (s : Shown) → flat_map sized_by (fetch_lines mail m (item.Size ∷ []) (k, s)) ≡ listed_in mail m s.uid
  one_sized k s = by_has (has_uid m s.uid) refl
    where
      by_mail : has_uid m s.uid ≡ true → (o : Mail) → mail s.uid ≡ o → flat_map sized_by (fetch_lines mail m (item.Size ∷ []) (k, s)) ≡ listed_in mail m s.uid
      by_mail has (Held message) is = rw (has, is) refl
      by_mail has Damaged is = rw (has, is) refl

      by_has : (b : Bool) → has_uid m s.uid ≡ b → flat_map sized_by (fetch_lines mail m (item.Size ∷ []) (k, s)) ≡ listed_in mail m s.uid
      by_has false lacks = rw lacks refl
      by_has true has = by_mail has (mail s.uid) refl

  rows_sized : (k : ℕ) (rows : List Shown) → flat_map sized_by (flat_map (fetch_lines mail m (item.Size ∷ [])) (enumerate_from k rows)) ≡ flat_map (λ (s : Shown). listed_in mail m s.uid) rows
  rows_sized k [] = refl
  rows_sized k (s ∷ rows) =
      let rest : List Reply = flat_map (fetch_lines mail m (item.Size ∷ [])) (enumerate_from (k + 1) rows) in
      flat_map-append sized_by (fetch_lines mail m (item.Size ∷ []) (k, s)) rest
      ∙ ap (λ (l : List Listed). l ++ flat_map sized_by rest) (one_sized k s)
      ∙ ap (λ (l : List Listed). listed_in mail m s.uid ++ l) (rows_sized (k + 1) rows)

  -- the last line has none
  last_sized : (x : State) (met : Mailbox) (mark : Mark) → sized_by (ending_of mail fetch_sizes x.view met m mark) ≡ []
  last_sized x met mark = by (gone_uid fetch_sizes x.view m) refl (damaged_uid mail fetch_sizes x.view m) refl
    where
      by : (gone : Option ℕ) → gone_uid fetch_sizes x.view m ≡ gone → (damaged : Option ℕ) → damaged_uid mail fetch_sizes x.view m ≡ damaged → sized_by (ending_of mail fetch_sizes x.view met m mark) ≡ []
      by (Some uid) is damaged is_damaged = rw is refl
      by None is (Some uid) is_damaged = rw (is, is_damaged) refl
      by None is None is_damaged = rw (is, is_damaged) refl

  pub lines_sized : (x : State) (rows : List Row) → x.view.rows ≡ map shown rows → All (λ (row : Row). IsUid row.uid) rows → (met : Mailbox) (q : ℕ) (mark : Mark)
      → flat_map sized_by (answer mail x fetch_sizes met q m mark).replies ≡ listing mail m rows
  lines_sized x rows are uids met q mark =
      let view_uids : All (λ (s : Shown). IsUid s.uid) x.view.rows = subst (All (λ (s : Shown). IsUid s.uid)) (sym are) (shown_uids rows uids) in
      lines_heard sized_by silent mail x (all_uids ∷ []) (item.Size ∷ []) met m q mark
      ∙ ap (λ (l : List Listed). flat_map sized_by (flat_map (fetch_lines mail m (item.Size ∷ [])) (named_by_uid (all_uids ∷ []) x.view)) ++ l) (last_sized x met mark)
      ∙ append-nil (flat_map sized_by (flat_map (fetch_lines mail m (item.Size ∷ [])) (named_by_uid (all_uids ∷ []) x.view)))
      ∙ ap (λ (l : List (ℕ × Shown)). flat_map sized_by (flat_map (fetch_lines mail m (item.Size ∷ [])) l)) (all_numbered (largest_uid x.view) 1 x.view.rows view_uids)
      ∙ rows_sized 1 x.view.rows
      ∙ ap (flat_map (λ (s : Shown). listed_in mail m s.uid)) are
      ∙ flat_map-map (λ (s : Shown). listed_in mail m s.uid) shown rows
    where
      shown_uids : (rows : List Row) → All (λ (row : Row). IsUid row.uid) rows → All (λ (s : Shown). IsUid s.uid) (map shown rows)
      shown_uids rows all = All-map (λ (s : Shown). IsUid s.uid) shown rows all

-- ---- as it is taken

fails_not : (r : Reply) → is_unavailable r ≡ false → failure_by r ≡ None
fails_not (reply.Unavailable faults) is = absurd cc
fails_not (reply.Exists n) is = refl
fails_not (reply.Expunge n) is = refl
fails_not (reply.Fetch number uid values) is = refl
fails_not (reply.Search numbers) is = refl
fails_not (reply.Validity n) is = refl
fails_not (reply.NextUid n) is = refl
fails_not (reply.Done word mark appended modified) is = refl
fails_not (reply.Gone uid mark modified) is = refl
fails_not (reply.Damaged uid mark) is = refl
fails_not reply.UidsUsedUp is = refl
fails_not (reply.TooLong bytes) is = refl
fails_not reply.NotSelected is = refl
fails_not (reply.NoMessage n) is = refl

-- where no line tells a failure of the disk, all that they list is taken
pub all_available : (rows : List Listed) (lines : List Reply) → AreAvailable lines → with_sizes (record { rows = rows; failure = None }) lines ≡ record { rows = rows ++ flat_map sized_by lines; failure = None }
all_available rows [] are = ap (λ (l : List Listed). record { rows = l; failure = None }) (sym (append-nil rows))
all_available rows (r ∷ lines) are = by (is_unavailable r) refl are (λ rest. all_available (rows ++ sized_by r) lines rest)
  where
    by : (b : Bool) → is_unavailable r ≡ b → (is_unavailable r || list_any is_unavailable lines) ≡ false
        → (AreAvailable lines → with_sizes (record { rows = rows ++ sized_by r; failure = None }) lines ≡ record { rows = (rows ++ sized_by r) ++ flat_map sized_by lines; failure = None }) → with_sizes (record { rows = rows; failure = None }) (r ∷ lines) ≡ record { rows = rows ++ (sized_by r ++ flat_map sized_by lines); failure = None }
    by true is any others = absurd (let both : (true || list_any is_unavailable lines) ≡ false = subst (λ (b : Bool). (b || list_any is_unavailable lines) ≡ false) is any in cc)
    by false is any others =
        let rest : list_any is_unavailable lines ≡ false = subst (λ (b : Bool). (b || list_any is_unavailable lines) ≡ false) is any in
        ap (λ (o : Option ℕ). with_sizes (with_one rows r o) lines) (fails_not r is)
        ∙ others rest
        ∙ ap (λ (l : List Listed). record { rows = l; failure = None }) (append_assoc rows (sized_by r) (flat_map sized_by lines))

-- the replies to a SELECT list nothing
module _ (mail : ℕ → Mail) (x : State) (met m : Mailbox) (q : ℕ) (mark : Mark) where
  abbrev select_lines : List Reply
  select_lines = (answer mail x Select met q m mark).replies

  none_listed : flat_map sized_by select_lines ≡ []
  none_listed =
      let new : View = moved Full empty_view m in
      flat_map-append sized_by (changes m empty_view new) (ending_of mail Select empty_view met m mark ∷ [])
      ∙ ap (λ (l : List Listed). l ++ []) (changes_none sized_by silent m empty_view new)

  pub select_unsized : with_sizes (record { rows = []; failure = None }) select_lines ≡ record { rows = []; failure = None }
  select_unsized =
      all_available [] select_lines (answer_available mail x Select met q m mark)
      ∙ ap (λ (l : List Listed). record { rows = l; failure = None }) none_listed
