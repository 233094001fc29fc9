-- What the replies to a UID FETCH of one message say of it.
use Rattle.std.proofs.Common.{◌≡◌, ◌⊎◌, inl, inr, ℕ, Bool, true, false, not, ◌&&◌, List, [], ◌∷◌, ◌++◌, Some, None, filter, map, min, refl, ap, subst, ◌∙◌}
use Rattle.std.specs.Prelude.{flat_map}
use Rattle.std.specs.List.{reduce}
use Rattle.std.specs.List.Sorted.{IsStrictlyIncreasing}
use Rattle.std.proofs.lemmas.List.{append-nil}
use Rattle.dv_model.specs.declared.types.Command.{Command}
use Rattle.dv_model.specs.declared.types.Item.TheVariants as item
use Rattle.dv_model.specs.declared.types.Mailbox.{Mailbox}
use Rattle.dv_model.specs.declared.types.Mark.{Mark}
use Rattle.dv_model.specs.declared.types.Reply.{Reply}
use Rattle.dv_model.specs.declared.types.Shown.{Shown}
use Rattle.dv_model.specs.Journals.{Mail, Held, Damaged}
use Rattle.dv_model.specs.Sessions.{State, answer, damaged_uid, data_of, ending_of, fetch_lines, gone_uid, has_uid, is_damaged}
use Rattle.dv_model.specs.Sets.{named_by_uid}
use Rattle.dv_model.specs.Views.{shows_uid}
use Rattle.dv_maildrop.specs.declared.types.Found.TheVariants as found
use Rattle.dv_maildrop.specs.declared.types.Listed.{Listed}
use Rattle.dv_maildrop.specs.Answers.{found_answer}
use Rattle.dv_maildrop.specs.Maildrops.{uid_span}
use Rattle.dv_pop3.specs.Findings.{found_in}
use Rattle.dv_pop3.specs.Retrievals.{fetch_of, said_by}
use Rattle.dv_pop3.proofs.Moves.{IsSilent, lines_heard}
use Rattle.dv_pop3.proofs.Naming.{IsOne, NamesNone, one_named}

-- what is told of a move says nothing of the message
silent : (row : Listed) → IsSilent (said_by row)
silent row = record { expunge = λ n. refl; exists_ = λ n. refl; flags = λ n uid flags names. refl }

-- ---- the lines of the answer

module _ (row : Listed) (mail : ℕ → Mail) (x : State) (met m : Mailbox) (mark : Mark) (q : ℕ) where
  abbrev c : Command
  c = fetch_of row.uid

  abbrev lines : List Reply
  lines = (answer mail x c met q m mark).replies

  abbrev last : Reply
  last = ending_of mail c x.view met m mark

  say_by : (front : List ℕ) (end : List ℕ) → flat_map (said_by row) (data_of mail c x.view m) ≡ front → said_by row last ≡ end → flat_map (said_by row) lines ≡ front ++ end
  say_by front end first second = lines_heard (said_by row) (silent row) mail x (uid_span row.uid ∷ []) (item.Body ∷ []) met m q mark ∙ ap (λ (l : List ℕ). l ++ said_by row last) first ∙ ap (λ (l : List ℕ). front ++ l) second

  -- ---- a message that the view doesn't show

  nothing_last : (named_by_uid (uid_span row.uid ∷ []) x.view ≡ []) → said_by row last ≡ []
  nothing_last none =
      let gone : gone_uid c x.view m ≡ None = ap (λ (rows : List (ℕ × Shown)). reduce min (filter (λ uid. not (has_uid m uid)) (map (λ r. r.1.uid) rows))) none in
      let damaged : damaged_uid mail c x.view m ≡ None = ap (λ (rows : List (ℕ × Shown)). reduce min (filter (λ uid. has_uid m uid && is_damaged (mail uid)) (map (λ r. r.1.uid) rows))) none in
      rw (gone, damaged) refl

  pub none_says : NamesNone row.uid x.view → flat_map (said_by row) lines ≡ []
  none_says none =
      say_by [] [] (ap (λ (rows : List (ℕ × Shown)). flat_map (said_by row) (flat_map (fetch_lines mail m (item.Body ∷ [])) rows)) none.named) (nothing_last none.named)

  -- ---- one that it shows

  module _ (one : IsOne row.uid (named_by_uid (uid_span row.uid ∷ []) x.view)) where
    abbrev s : Shown
    s = one.row

    data_is : data_of mail c x.view m ≡ fetch_lines mail m (item.Body ∷ []) (one.number, s) ++ []
    data_is = ap (λ (rows : List (ℕ × Shown)). flat_map (fetch_lines mail m (item.Body ∷ [])) rows) one.is

    gone_is : gone_uid c x.view m ≡ reduce min (filter (λ uid. not (has_uid m uid)) (s.uid ∷ []))
    gone_is = ap (λ (rows : List (ℕ × Shown)). reduce min (filter (λ uid. not (has_uid m uid)) (map (λ r. r.1.uid) rows))) one.is

    damaged_is : damaged_uid mail c x.view m ≡ reduce min (filter (λ uid. has_uid m uid && is_damaged (mail uid)) (s.uid ∷ []))
    damaged_is = ap (λ (rows : List (ℕ × Shown)). reduce min (filter (λ uid. has_uid m uid && is_damaged (mail uid)) (map (λ r. r.1.uid) rows))) one.is

    by_gone : has_uid m s.uid ≡ false → flat_map (said_by row) lines ≡ found_answer row (found_in mail m s.uid)
    by_gone lacks =
        let bytes : flat_map (said_by row) (data_of mail c x.view m) ≡ [] = ap (flat_map (said_by row)) data_is ∙ rw lacks refl in
        let gone : gone_uid c x.view m ≡ Some s.uid = gone_is ∙ rw lacks refl in
        let end : said_by row last ≡ found_answer row found.Gone = rw gone refl in
        let is : found_answer row found.Gone ≡ found_answer row (found_in mail m s.uid) = rw lacks refl in
        say_by [] (found_answer row found.Gone) bytes end ∙ is

    by_mail : has_uid m s.uid ≡ true → (o : Mail) → mail s.uid ≡ o → flat_map (said_by row) lines ≡ found_answer row (found_in mail m s.uid)
    by_mail has (Held message) is =
        let bytes : flat_map (said_by row) (data_of mail c x.view m) ≡ found_answer row (found.Held message) = ap (flat_map (said_by row)) data_is ∙ rw (has, is) (append-nil (found_answer row (found.Held message))) in
        let gone : gone_uid c x.view m ≡ None = gone_is ∙ rw has refl in
        let damaged : damaged_uid mail c x.view m ≡ None = damaged_is ∙ rw (has, is) refl in
        let end : said_by row last ≡ [] = rw (gone, damaged) refl in
        let same : found_answer row (found.Held message) ≡ found_answer row (found_in mail m s.uid) = rw (has, is) refl in
        say_by (found_answer row (found.Held message)) [] bytes end ∙ append-nil (found_answer row (found.Held message)) ∙ same
    by_mail has Damaged is =
        let bytes : flat_map (said_by row) (data_of mail c x.view m) ≡ [] = ap (flat_map (said_by row)) data_is ∙ rw (has, is) refl in
        let gone : gone_uid c x.view m ≡ None = gone_is ∙ rw has refl in
        let damaged : damaged_uid mail c x.view m ≡ Some s.uid = damaged_is ∙ rw (has, is) refl in
        let end : said_by row last ≡ found_answer row found.Damaged = rw (gone, damaged) refl in
        let same : found_answer row found.Damaged ≡ found_answer row (found_in mail m s.uid) = rw (has, is) refl in
        say_by [] (found_answer row found.Damaged) bytes end ∙ same

    by_has : (b : Bool) → has_uid m s.uid ≡ b → flat_map (said_by row) lines ≡ found_answer row (found_in mail m s.uid)
    by_has false lacks = by_gone lacks
    by_has true has = by_mail has (mail s.uid) refl

    pub one_says : flat_map (said_by row) lines ≡ found_answer row (found_in mail m row.uid)
    one_says = subst (λ (uid : ℕ). flat_map (said_by row) lines ≡ found_answer row (found_in mail m uid)) one.uid_is (by_has (has_uid m s.uid) refl)

-- nothing, of a message that has left, or what the mailbox has of it
pub record IsTextOf (row : Listed) (mail : ℕ → Mail) (m : Mailbox) (text : List ℕ) : Type 0 where
  pub is : ((text ≡ []) × (found_in mail m row.uid ≡ found.Gone)) ⊎ (text ≡ found_answer row (found_in mail m row.uid))

pub lines_text : (row : Listed) (mail : ℕ → Mail) (x : State) (met m : Mailbox) (mark : Mark) (q : ℕ) → IsStrictlyIncreasing (map (λ (s : Shown). s.uid) x.view.rows)
    → (shows_uid x.view row.uid ≡ false → has_uid m row.uid ≡ false) → IsTextOf row mail m (flat_map (said_by row) (answer mail x (fetch_of row.uid) met q m mark).replies)
lines_text row mail x met m mark q rising stays = by_named (one_named row.uid x.view rising)
  where
    by_named : NamesNone row.uid x.view ⊎ IsOne row.uid (named_by_uid (uid_span row.uid ∷ []) x.view) → IsTextOf row mail m (flat_map (said_by row) (answer mail x (fetch_of row.uid) met q m mark).replies)
    by_named (inl none) =
        let lacks : has_uid m row.uid ≡ false = stays none.hidden in
        record { is = inl (none_says row mail x met m mark q none, rw lacks refl) }
    by_named (inr one) = record { is = inr (one_says row mail x met m mark q one) }
