-- The answer to a RETR, by the replies to the FETCH of its message.
use Rattle.std.specs.Prelude.{◌≡◌, ℕ, true, List, [], ◌∷◌, ◌++◌, flat_map, Option, Some, None, option_map}
use Rattle.std.proofs.Common.{◌∙◌, ap, sym, append_assoc}
use Rattle.std.proofs.lemmas.Grind.{flat_map-append}
use Rattle.std.proofs.lemmas.List.{append-nil}
use Rattle.dv_model.specs.declared.types.Command.{Command}
use Rattle.dv_model.specs.declared.types.Command.TheVariants.{Fetch}
use Rattle.dv_model.specs.declared.types.Item.TheVariants as item
use Rattle.dv_model.specs.declared.types.Reply.{Reply}
use Rattle.dv_model.specs.declared.types.Reply.TheVariants as reply
use Rattle.dv_model.specs.declared.types.Value.{Value}
use Rattle.dv_model.specs.declared.types.Value.TheVariants as value
use Rattle.dv_maildrop.specs.declared.types.Found.{Found}
use Rattle.dv_maildrop.specs.declared.types.Found.TheVariants as found
use Rattle.dv_maildrop.specs.declared.types.Listed.{Listed}
use Rattle.dv_maildrop.specs.Answers.{found_answer}
use Rattle.dv_maildrop.specs.Maildrops.{uid_span}

-- a FETCH of the bytes of the message with this UID (RFC 3501, section 6.4.8)
abbrev pub fetch_of : ℕ → Command
fetch_of uid = Fetch true (uid_span uid ∷ []) (item.Body ∷ [])

-- the message's bytes among values
abbrev pub body_in : List Value → Option (List ℕ)
body_in [] = None
body_in (value.Body message ∷ values) = Some message
body_in (v ∷ values) = body_in values

-- what a reply says of the message that was asked; a FETCH without its bytes says nothing of it
abbrev pub found_by : Reply → Option Found
found_by (reply.Fetch number uid values) =
    option_map (λ message. found.Held message) (body_in values)
found_by (reply.Gone uid mark modified) = Some found.Gone
found_by (reply.Damaged uid mark) = Some found.Damaged
found_by (reply.Unavailable faults) = Some (found.Disk faults)
found_by r = None

-- the text of that
abbrev pub text_by : Listed → Option Found → List ℕ
text_by row None = []
text_by row (Some f) = found_answer row f

-- of a reply
abbrev pub said_by : Listed → Reply → List ℕ
said_by row x = text_by row (found_by x)

-- the message that is asked, and a text that ends with what was said of it
pub record Retrieving : Type 0 where
  pub row : Listed
  pub text : List ℕ

-- with what these replies say of it
abbrev pub with_replies : Retrieving → List Reply → Retrieving
with_replies r replies = record { row = r.row; text = r.text ++ flat_map (said_by r.row) replies }

-- no replies leave it as it is
pub none_taken : (r : Retrieving) → with_replies r [] ≡ r
none_taken r = ap (λ (text : List ℕ). record { row = r.row; text = text }) (append-nil r.text)

-- replies behind others are one list of replies
pub more_taken : (r : Retrieving) (a b : List Reply)
    → with_replies (with_replies r a) b ≡ with_replies r (a ++ b)
more_taken r a b =
    let said = said_by r.row in
    let texts : List ℕ = flat_map said a in
    ap (λ (text : List ℕ). record { row = r.row; text = text })
    (append_assoc r.text texts (flat_map said b)
    ∙ ap (λ (behind : List ℕ). r.text ++ behind) (sym (flat_map-append said a b)))
