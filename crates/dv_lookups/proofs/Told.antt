-- What is taken of messages by their files is what a command is answered.
use Rattle.std.proofs.Common.{◌≡◌, ℕ, Bool, true, false, ◌&&◌, cond, List, [], ◌∷◌, ◌++◌, map, Option, Some, None, refl, sym, ◌∙◌, ap}
use Rattle.std.specs.Prelude.{filter, flat_map}
use Rattle.std.specs.List.{list_any}
use Rattle.dv_model.specs.declared.types.Command.{Command}
use Rattle.dv_model.specs.declared.types.Command.TheVariants as command
use Rattle.dv_model.specs.declared.types.Item.{Item}
use Rattle.dv_model.specs.declared.types.Key.{Key}
use Rattle.dv_model.specs.declared.types.Mailbox.{Mailbox}
use Rattle.dv_model.specs.declared.types.Shown.{Shown}
use Rattle.dv_model.specs.declared.types.Span.{Span}
use Rattle.dv_model.specs.Journals.{Mail, Held, Damaged}
use Rattle.dv_model.specs.Sessions.{candidate, fetch_lines, has_uid, is_damaged, message_in, number_of, reads_mail, reads_message, uids_looked_at}
use Rattle.dv_model.specs.Sets.{named, numbered}
use Rattle.dv_model.specs.Views.{View}
use Rattle.dv_shelf.specs.Folders.{Folder}
use Rattle.dv_files.specs.Reading.{mail_at}
use Rattle.dv_search.specs.Facts.{found_rows, is_found}
use Rattle.dv_responses.specs.Damaged.{damaged_uids}
use Rattle.dv_responses.specs.Fetched.{lines_from}
use Rattle.dv_responses.proofs.Lines.{line_is}
use Rattle.dv_lookups.specs.Commands.{uids_read}
use Rattle.dv_lookups.specs.Founds.{AreMessages, mail_of}
use Rattle.dv_lookups.specs.Reads.{damaged_in, damaged_of, held_in, line_of, lines_of, numbers_found, uids_of}
use Rattle.dv_lookups.proofs.Rows.{mail_gone, mail_same, mail_there, message_same}

line_held : (m : Mailbox) (items : List Item) (row : ℕ × Shown) (o : Option Mail) → line_of m items row o ≡ lines_from m items row (held_in o)
line_held m items row None = refl
line_held m items row (Some Damaged) = refl
line_held m items row (Some (Held message)) = refl

filter_same : {X : Type 0} (p q : X → Bool) → ((x : X) → p x ≡ q x) → (xs : List X) → filter p xs ≡ filter q xs
filter_same p q same [] = refl
filter_same p q same (x ∷ xs) = ap (λ b. cond b (x ∷ filter p xs) (filter p xs)) (same x) ∙ ap (λ t. cond (q x) (x ∷ t) t) (filter_same p q same xs)

flat_same : {X Y : Type 0} (f g : X → List Y) → ((x : X) → f x ≡ g x) → (xs : List X) → flat_map f xs ≡ flat_map g xs
flat_same f g same [] = refl
flat_same f g same (x ∷ xs) = ap (λ t. t ++ flat_map f xs) (same x) ∙ ap (λ t. g x ++ t) (flat_same f g same xs)

-- what is made of those that pass alone
flat_filter : (p : ℕ → Bool) (uids : List ℕ) → flat_map (λ uid. cond (p uid) (uid ∷ []) []) uids ≡ filter p uids
flat_filter p [] = refl
flat_filter p (uid ∷ uids) = by_test (p uid) ∙ ap (λ t. cond (p uid) (uid ∷ t) t) (flat_filter p uids)
  where
    by_test : (b : Bool) → cond b (uid ∷ []) [] ++ flat_map (λ uid. cond (p uid) (uid ∷ []) []) uids ≡ cond b (uid ∷ flat_map (λ uid. cond (p uid) (uid ∷ []) []) uids) (flat_map (λ uid. cond (p uid) (uid ∷ []) []) uids)
    by_test true = refl
    by_test false = refl

module _ (folder : Folder) (m : Mailbox) where
  held_is : (uid : ℕ) → held_in (mail_of folder m uid) ≡ message_in (mail_at folder) m uid
  held_is uid = by_test (has_uid m uid) refl
    where
      by_mail : (o : Mail) → mail_at folder uid ≡ o → has_uid m uid ≡ true → held_in (Some o) ≡ message_in (mail_at folder) m uid
      by_mail (Held message) is has = rw (has, is) refl
      by_mail Damaged is has = rw (has, is) refl

      by_test : (b : Bool) → has_uid m uid ≡ b → held_in (mail_of folder m uid) ≡ message_in (mail_at folder) m uid
      by_test true has = ap held_in (mail_there folder 0 m uid has) ∙ by_mail (mail_at folder uid) refl has
      by_test false lacks = ap held_in (mail_gone folder 0 m uid lacks) ∙ rw (lacks) refl

  module _ (mail : ℕ → Mail) (same : AreMessages folder m mail) where
    pub held_same : (uid : ℕ) → held_in (mail_of folder m uid) ≡ message_in mail m uid
    held_same uid = held_is uid ∙ message_same folder m mail same uid

    pub lines_same : (items : List Item) → list_any reads_message items ≡ true → (rows : List (ℕ × Shown)) → lines_of folder m items rows ≡ flat_map (fetch_lines mail m items) rows
    lines_same items reads rows =
        flat_same (λ row. line_of m items row (mail_of folder m row.1.uid)) (fetch_lines mail m items) (λ row.
        line_held m items row (mail_of folder m row.1.uid) ∙ ap (lines_from m items row) (held_same row.1.uid)
        ∙ ap (λ b. lines_from m items row (cond b (message_in mail m row.1.uid) (Some []))) (sym reads) ∙ line_is mail m items row) rows

    damage_is : (uid : ℕ) → damaged_in uid (mail_of folder m uid) ≡ cond (has_uid m uid && is_damaged (mail uid)) (uid ∷ []) []
    damage_is uid = by_test (has_uid m uid) refl
      where
        by_mail : (o : Mail) → mail uid ≡ o → has_uid m uid ≡ true → damaged_in uid (Some o) ≡ cond (has_uid m uid && is_damaged (mail uid)) (uid ∷ []) []
        by_mail (Held message) is has = rw (has, is) refl
        by_mail Damaged is has = rw (has, is) refl

        by_test : (b : Bool) → has_uid m uid ≡ b → damaged_in uid (mail_of folder m uid) ≡ cond (has_uid m uid && is_damaged (mail uid)) (uid ∷ []) []
        by_test true has = ap (damaged_in uid) (mail_there folder 0 m uid has ∙ ap (λ (o : Mail). Some o) (mail_same folder m mail same uid has)) ∙ by_mail (mail uid) refl has
        by_test false lacks = ap (damaged_in uid) (mail_gone folder 0 m uid lacks) ∙ rw (lacks) refl

    pub damaged_same : (uids : List ℕ) → damaged_of folder m uids ≡ filter (λ uid. has_uid m uid && is_damaged (mail uid)) uids
    damaged_same uids =
        flat_same (λ uid. damaged_in uid (mail_of folder m uid)) (λ uid. cond (has_uid m uid && is_damaged (mail uid)) (uid ∷ []) []) damage_is uids
        ∙ flat_filter (λ uid. has_uid m uid && is_damaged (mail uid)) uids

    -- those of a command that reads messages
    pub damaged_are : (c : Command) (view : View) (uids : List ℕ) → uids ≡ uids_read c view → reads_mail c ≡ true → damaged_of folder m uids ≡ damaged_uids mail c view m
    damaged_are c view uids is reads =
        let damaged : ℕ → Bool = λ uid. has_uid m uid && is_damaged (mail uid) in
        damaged_same uids ∙ ap (filter damaged) (is ∙ ap (λ (b : Bool). cond b (uids_looked_at c view) []) reads)
        ∙ ap (λ (b : Bool). cond b (filter damaged (uids_looked_at c view)) []) (sym reads)

    pub numbers_same : (key : Key) (view : View) (by_uid : Bool) → numbers_found folder m key view by_uid (numbered view) ≡ map (number_of by_uid) (found_rows (message_in mail m) key view m)
    numbers_same key view by_uid =
        ap (map (number_of by_uid)) (filter_same (λ row. is_found key (candidate view m row.1) (held_in (mail_of folder m row.1.uid))) (λ row. is_found key (candidate view m row.1) (message_in mail m row.1.uid))
        (λ row. ap (is_found key (candidate view m row.1)) (held_same row.1.uid)) (numbered view))

-- the UIDs of the rows that a command reads
pub fetch_reads : (by_uid : Bool) (set : List Span) (items : List Item) (view : View) → list_any reads_message items ≡ true → uids_of (named by_uid set view) ≡ uids_read (command.Fetch by_uid set items) view
fetch_reads by_uid set items view reads = rw reads refl

pub search_reads : (by_uid : Bool) (key : Key) (view : View) → reads_mail (command.Search by_uid key) ≡ true → uids_of (numbered view) ≡ uids_read (command.Search by_uid key) view
search_reads by_uid key view reads = rw reads refl
