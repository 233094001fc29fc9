-- What is said of a mailbox's messages goes by the messages that it has.
use Rattle.std.proofs.Common.{◌≡◌, ℕ, ◌<◌, Bool, true, false, cond, not, ◌&&◌, List, [], ◌∷◌, ◌++◌, nat_eq, Option, Some, None, refl, ◌∙◌, ap, subst, arith}
use Rattle.std.specs.Prelude.{All, Any, min, filter, flat_map, map, take}
use Rattle.std.specs.List.{reduce}
use Rattle.std.proofs.lemmas.Bool.{and_parts}
use Rattle.std.proofs.lemmas.Bool.Decides.{nat_tests}
use Rattle.std.proofs.lemmas.List.Elements.{All-filter, All-head, All-map, All-tail, All-take, All-weaker, filter_agree, filter_passes}
use Rattle.std.proofs.lemmas.List.Folds.{Any-from_list_any}
use Rattle.dv_model.specs.declared.types.Body.TheVariants as body
use Rattle.dv_model.specs.declared.types.Command.{Command}
use Rattle.dv_model.specs.declared.types.Command.TheVariants as command
use Rattle.dv_model.specs.declared.types.Group.{Group}
use Rattle.dv_model.specs.declared.types.GuidRow.{GuidRow}
use Rattle.dv_model.specs.declared.types.Item.{Item}
use Rattle.dv_model.specs.declared.types.Key.{Key}
use Rattle.dv_model.specs.declared.types.Mailbox.{Mailbox}
use Rattle.dv_model.specs.declared.types.Mark.{Mark}
use Rattle.dv_model.specs.declared.types.Record.{Record}
use Rattle.dv_model.specs.declared.types.Reply.{Reply}
use Rattle.dv_model.specs.declared.types.Reply.TheVariants as reply
use Rattle.dv_model.specs.declared.types.Row.{Row}
use Rattle.dv_model.specs.declared.types.Shown.{Shown}
use Rattle.dv_model.specs.Journals.{Mail, Held, Damaged}
use Rattle.dv_model.specs.Mailboxes.{IsRowOf, IsValid}
use Rattle.dv_model.specs.Sessions.{State, Answer, answer, group_of, refusal_of, limit_of, missing_number, is_select, is_write, expunges, external_record, pieces, deleted_uids, removed_uids, expunge_limit, is_deleted, has_uid, message_in, fetch_lines, is_found, data_of, damaged_uid, gone_uid, is_damaged, uids_looked_at, reads_mail, ending_of, number_of, told_of, view_before, step_of}
use Rattle.dv_model.specs.Sets.{named, named_by_uid, numbered}
use Rattle.dv_model.specs.Views.{View, moved}

-- two functions of UIDs agree below a number
abbrev pub AgreeBelow : {X : Type 0} → ℕ → (ℕ → X) → (ℕ → X) → Type 0
AgreeBelow n f g = (uid : ℕ) → uid < n → f uid ≡ g uid

-- ---- lists

pub map_same : {X Y : Type 0} (f g : X → Y) (xs : List X) → All (λ x. f x ≡ g x) xs → map f xs ≡ map g xs
map_same f g [] same = refl
map_same f g (x ∷ xs) same = ap (λ y. y ∷ map f xs) (All-head (λ x. f x ≡ g x) x xs same) ∙ ap (λ ys. g x ∷ ys) (map_same f g xs (All-tail (λ x. f x ≡ g x) x xs same))

pub flat_map_same : {X Y : Type 0} (f g : X → List Y) → ((x : X) → f x ≡ g x) → (xs : List X) → flat_map f xs ≡ flat_map g xs
flat_map_same f g same [] = refl
flat_map_same f g same (x ∷ xs) = ap (λ ys. ys ++ flat_map f xs) (same x) ∙ ap (λ ys. g x ++ ys) (flat_map_same f g same xs)

-- ---- the mailbox's UIDs were given out

module _ (m : Mailbox) (valid : IsValid m) where
  rows_below : All (λ row. row.uid < m.next_uid) m.rows
  rows_below = All-weaker (IsRowOf m) (λ row. row.uid < m.next_uid) (λ row is. is.uid.1) m.rows valid.rows

  pub uid_below : (uid : ℕ) → has_uid m uid ≡ true → uid < m.next_uid
  uid_below uid has = of_row (Any-from_list_any (λ row. nat_eq row.uid uid && true) m.rows has)
    where
      of_row : Any (λ row. (nat_eq row.uid uid && true) ≡ true) m.rows → uid < m.next_uid
      of_row (k, row, h, at, same) =
          let e : row.uid ≡ uid = let one = (and_parts (nat_eq row.uid uid) true same).0 in grind (arith, nat_tests) in
          let low : row.uid < m.next_uid = subst (λ (r : Row). r.uid < m.next_uid) at (rows_below k row h) in
          omega arith

  deleted_below : All (λ uid. uid < m.next_uid) (deleted_uids m)
  deleted_below =
      All-map (λ uid. uid < m.next_uid) (λ (row : Row). row.uid) (take expunge_limit (filter is_deleted m.rows))
      (All-take (λ (row : Row). row.uid < m.next_uid) expunge_limit (filter is_deleted m.rows) (All-filter is_deleted (λ (row : Row). row.uid < m.next_uid) m.rows rows_below))

  removed_below : (uids : List ℕ) → All (λ uid. uid < m.next_uid) (filter (has_uid m) uids)
  removed_below uids = All-weaker (λ uid. has_uid m uid ≡ true) (λ uid. uid < m.next_uid) uid_below (filter (has_uid m) uids) (filter_passes (has_uid m) uids)

  -- ---- what a command writes

  module _ (f g : ℕ → List ℕ) (agree : AgreeBelow m.next_uid f g) where
    expunges_agree : (uids : List ℕ) → All (λ uid. uid < m.next_uid) uids → expunges f uids ≡ expunges g uids
    expunges_agree uids below =
        let row : (ℕ → List ℕ) → ℕ → GuidRow = λ guid uid. record { uid = uid; guid = guid uid } in
        ap (λ (rows : List GuidRow). expunges_of rows)
        (map_same (row f) (row g) uids (All-weaker (λ uid. uid < m.next_uid) (λ uid. row f uid ≡ row g uid) (λ uid low. ap (λ (b : List ℕ). record { uid = uid; guid = b }) (agree uid low)) uids below))
      where
        expunges_of : List GuidRow → List Record
        expunges_of rows = map (λ rs. external_record (body.ExpungeGuid rs)) (pieces rows)

    pub group_agree : (c : Command) (v : View) → group_of c v m f ≡ group_of c v m g
    group_agree command.Expunge v = ap (λ (rs : List Record). record { records = rs }) (expunges_agree (deleted_uids m) deleted_below)
    group_agree (command.UidRemove set) v = ap (λ (rs : List Record). record { records = rs }) (expunges_agree (removed_uids set v m) (removed_below (map (λ row. row.1.uid) (named_by_uid set v))))
    group_agree c v = refl

    pub refusal_agree : (x : State) (c : Command) (rotates : Bool) (mark : Mark) → refusal_of x c m rotates mark f ≡ refusal_of x c m rotates mark g
    refusal_agree x c rotates mark = by_number (missing_number c x.view) refl
      where
        by_number : (o : Option ℕ) → missing_number c x.view ≡ o → refusal_of x c m rotates mark f ≡ refusal_of x c m rotates mark g
        by_number (Some n) is = rw is refl
        by_number None is = rw is (ap (λ (grp : Group). cond (not x.selected && not (is_select c)) (Some reply.NotSelected) (cond (is_write c) (limit_of c m rotates mark grp) None)) (group_agree c x.view))

  -- ---- what a command is answered

  module _ (f g : ℕ → Mail) (agree : AgreeBelow m.next_uid f g) where
    message_agree : (uid : ℕ) → message_in f m uid ≡ message_in g m uid
    message_agree uid = by_test (has_uid m uid) refl
      where
        by_mail : (o : Mail) → f uid ≡ o → g uid ≡ o → has_uid m uid ≡ true → message_in f m uid ≡ message_in g m uid
        by_mail (Held message) one other has = rw (has, one, other) refl
        by_mail Damaged one other has = rw (has, one, other) refl

        by_test : (b : Bool) → has_uid m uid ≡ b → message_in f m uid ≡ message_in g m uid
        by_test true has = by_mail (g uid) (agree uid (uid_below uid has)) refl has
        by_test false has = rw has refl

    lines_agree : (items : List Item) (row : ℕ × Shown) → fetch_lines f m items row ≡ fetch_lines g m items row
    lines_agree items row = by_message (message_in g m row.1.uid) (message_agree row.1.uid) refl
      where
        by_message : (o : Option (List ℕ)) → message_in f m row.1.uid ≡ o → message_in g m row.1.uid ≡ o → fetch_lines f m items row ≡ fetch_lines g m items row
        by_message None one other = rw (one, other) refl
        by_message (Some message) one other = rw (one, other) refl

    found_agree : (v : View) (key : Key) (s : Shown) → is_found f v m key s ≡ is_found g v m key s
    found_agree v key s = by_message (message_in g m s.uid) (message_agree s.uid) refl
      where
        by_message : (o : Option (List ℕ)) → message_in f m s.uid ≡ o → message_in g m s.uid ≡ o → is_found f v m key s ≡ is_found g v m key s
        by_message None one other = rw (one, other) refl
        by_message (Some message) one other = rw (one, other) refl

    data_agree : (c : Command) (v : View) → data_of f c v m ≡ data_of g c v m
    data_agree (command.Fetch by_uid set items) v = flat_map_same (fetch_lines f m items) (fetch_lines g m items) (lines_agree items) (named by_uid set v)
    data_agree (command.Search by_uid key) v =
        ap (λ (rows : List (ℕ × Shown)). reply.Search (map (number_of by_uid) rows) ∷ [])
        (filter_agree (λ (row : ℕ × Shown). is_found f v m key row.1) (λ (row : ℕ × Shown). is_found g v m key row.1) (λ row. found_agree v key row.1) (numbered v))
    data_agree c v = refl

    damaged_agree : (c : Command) (v : View) → damaged_uid f c v m ≡ damaged_uid g c v m
    damaged_agree c v =
        ap (λ (uids : List ℕ). cond (reads_mail c) (reduce min uids) None)
        (filter_agree (λ uid. has_uid m uid && is_damaged (f uid)) (λ uid. has_uid m uid && is_damaged (g uid)) (λ uid. by_test uid (has_uid m uid) refl) (uids_looked_at c v))
      where
        by_test : (uid : ℕ) (b : Bool) → has_uid m uid ≡ b → (has_uid m uid && is_damaged (f uid)) ≡ (has_uid m uid && is_damaged (g uid))
        by_test uid true has = ap (λ (mail : Mail). has_uid m uid && is_damaged mail) (agree uid (uid_below uid has))
        by_test uid false has = rw has refl

    ending_agree : (c : Command) (v : View) (met : Mailbox) (mark : Mark) → ending_of f c v met m mark ≡ ending_of g c v met m mark
    ending_agree c v met mark = by_gone (gone_uid c v m) refl (damaged_uid g c v m) (damaged_agree c v) refl
      where
        by_gone : (o : Option ℕ) → gone_uid c v m ≡ o → (d : Option ℕ) → damaged_uid f c v m ≡ d → damaged_uid g c v m ≡ d → ending_of f c v met m mark ≡ ending_of g c v met m mark
        by_gone (Some uid) is d one other = rw is refl
        by_gone None is (Some uid) one other = rw (is, one, other) refl
        by_gone None is None one other = rw (is, one, other) refl

    pub answer_agree : (x : State) (c : Command) (met : Mailbox) (q : ℕ) (mark : Mark) → answer f x c met q m mark ≡ answer g x c met q m mark
    answer_agree x c met q mark =
        let old : View = view_before c x.view in
        let new : View = moved (step_of c) old m in
        let with_lines : List Reply → Reply → Answer = λ lines last. record { replies = lines ++ told_of c m old new ++ last ∷ []; next = record { selected = true; view = new; told = q } } in
        ap (λ lines. with_lines lines (ending_of f c old met m mark)) (data_agree c old) ∙ ap (with_lines (data_of g c old m)) (ending_agree c old met mark)
