-- Values of a FETCH that have the message's bytes.
use Rattle.std.specs.Prelude.{◌≡◌, ℕ, Bool, true, false, List, [], ◌∷◌, ◌++◌, map, Option, Some, None, option_map, if◌then◌else◌}
use Rattle.std.specs.List.{list_any}
use Rattle.std.proofs.Common.{◌∙◌, ap, refl, sym}
use Rattle.std.proofs.lemmas.List.{append-nil}
use Rattle.dv_model.specs.declared.types.Item.{Item}
use Rattle.dv_model.specs.declared.types.Item.TheVariants as item
use Rattle.dv_model.specs.declared.types.Mailbox.{Mailbox}
use Rattle.dv_model.specs.declared.types.Reply.{Reply}
use Rattle.dv_model.specs.declared.types.Shown.{Shown}
use Rattle.dv_model.specs.Sessions.{fetch_line, value_of}
use Rattle.dv_maildrop.specs.declared.types.Found.TheVariants as found
use Rattle.dv_maildrop.specs.Answers.{found_answer}
use Rattle.dv_responses.specs.Asked.{is_body}
use Rattle.dv_pop3.specs.Retrievals.{Retrieving, body_in, said_by, text_by, with_replies}

-- the values of a FETCH have the message's bytes where one of its items asks them
pub body_asked : (m : Mailbox) (s : Shown) (message : List ℕ) (items : List Item)
    → body_in (map (value_of m s message) items) ≡ (if list_any is_body items then Some message else None)
body_asked m s message [] = refl
body_asked m s message (item.Flags ∷ items) = body_asked m s message items
body_asked m s message (item.Size ∷ items) = body_asked m s message items
body_asked m s message (item.Body ∷ items) = refl
body_asked m s message (item.Field name ∷ items) = body_asked m s message items
body_asked m s message (item.Modseq ∷ items) = body_asked m s message items

-- ---- a text with the line of a FETCH

module _ (r : Retrieving) (m : Mailbox) (s : Shown) (message : List ℕ) (number : ℕ) (items : List Item) where
  abbrev line : Reply
  line = fetch_line m items (number, s) message

  said_is : (b : Bool) → list_any is_body items ≡ b → said_by r.row line ≡ text_by r.row (option_map (λ body. found.Held body) (if b then Some message else None))
  said_is b is = ap (λ (o : Option (List ℕ)). text_by r.row (option_map (λ body. found.Held body) o)) (body_asked m s message items) ∙ ap (λ (b : Bool). text_by r.row (option_map (λ body. found.Held body) (if b then Some message else None))) is

  -- where no item asks the message's bytes the text stays
  pub unasked_text : list_any is_body items ≡ false → r ≡ with_replies r (line ∷ [])
  unasked_text none =
      let said : said_by r.row line ≡ [] = said_is false none in
      ap (λ (t : List ℕ). record { row = r.row; text = t }) (sym (append-nil r.text) ∙ ap (λ (t : List ℕ). r.text ++ t) (sym (ap (λ (t : List ℕ). t ++ []) said)))

  -- else it has the message
  pub asked_text : (new : Retrieving) → list_any is_body items ≡ true → new ≡ record r { text = r.text ++ found_answer r.row (found.Held message) } → new ≡ with_replies r (line ∷ [])
  asked_text new some is =
      let said : said_by r.row line ≡ found_answer r.row (found.Held message) = said_is true some in
      is ∙ ap (λ (t : List ℕ). record { row = r.row; text = r.text ++ t }) (sym (ap (λ (t : List ℕ). t ++ []) said ∙ append-nil (found_answer r.row (found.Held message))))
