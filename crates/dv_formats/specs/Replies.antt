-- Which bytes are a session's reply (RFC 3501, section 7), and which replies have a text that is
-- theirs alone.
use Rattle.std.specs.Prelude.{◌≡◌, ℕ, ◌^◌, ◌<◌, List, length, All, Option, Some, None}
use Rattle.dv_model.specs.declared.types.Mark.{Mark}
use Rattle.dv_model.specs.declared.types.Reply.{Reply}
use Rattle.dv_model.specs.declared.types.Reply.TheVariants as reply
use Rattle.dv_model.specs.declared.types.Value.{Value}
use Rattle.dv_model.specs.declared.types.Value.TheVariants as value
use Rattle.dv_model.specs.Names.{IsName}
use Rattle.dv_model.specs.Texts.{line_text}
use Rattle.dv_formats.specs.Scripts.{IsFieldName, IsSession}

-- five system flags, names of keywords and of fields, and numbers of their types
abbrev pub IsValue : Value → Type 0
IsValue (value.Flags flags keywords) = (flags < 32) × All IsName keywords
IsValue (value.Size n) = n < 2 ^ 64
IsValue (value.Body bytes) = length bytes < 2 ^ 64
IsValue (value.Field name (Some bytes)) = IsFieldName name × (length bytes < 2 ^ 64)
IsValue (value.Field name None) = IsFieldName name
IsValue (value.Modseq n) = n < 2 ^ 64

-- a place of the log, in numbers of 32 bits
pub record IsPlace (mark : Mark) : Type 0 where
  pub file_seq : mark.file_seq < 2 ^ 32
  pub offset : mark.offset < 2 ^ 32

-- UIDVALIDITY and UID of an appended message, where they are said
abbrev pub IsGiven : Option (ℕ × ℕ) → Type 0
IsGiven None = Unit {0}
IsGiven (Some given) = (given.0 < 2 ^ 32) × (given.1 < 2 ^ 32)

-- numbers of 32 bits
abbrev pub AreNumbers : List ℕ → Type 0
AreNumbers ns = All (λ n. n < 2 ^ 32) ns

-- a reply whose numbers are of their types, with names and values as above
abbrev pub IsReply : Reply → Type 0
IsReply (reply.Exists n) = n < 2 ^ 32
IsReply (reply.Expunge n) = n < 2 ^ 32
IsReply (reply.Fetch n uid values) = (n < 2 ^ 32) × (uid < 2 ^ 32) × All IsValue values
IsReply (reply.Search ns) = AreNumbers ns
IsReply (reply.Validity n) = n < 2 ^ 32
IsReply (reply.NextUid n) = n < 2 ^ 32
IsReply (reply.Done word mark given modified) = IsPlace mark × IsGiven given × AreNumbers modified
IsReply (reply.Gone uid mark modified) = (uid < 2 ^ 32) × IsPlace mark × AreNumbers modified
IsReply (reply.Damaged uid mark) = (uid < 2 ^ 32) × IsPlace mark
IsReply (reply.Unavailable n) = n < 2 ^ 64
IsReply reply.UidsUsedUp = Unit {0}
IsReply (reply.TooLong n) = n < 2 ^ 64
IsReply reply.NotSelected = Unit {0}
IsReply (reply.NoMessage n) = n < 2 ^ 32

-- the bytes are the line of this reply to the named session
pub record IsReplyLine (session : List ℕ) (r : Reply) (b : List ℕ) : Type 0 where
  pub named : IsSession session
  pub bounded : IsReply r
  pub text : b ≡ line_text session r
