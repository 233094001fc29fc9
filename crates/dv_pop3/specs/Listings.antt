-- The messages of a maildrop with their sizes, and what takes them from the replies to a FETCH.
use Rattle.std.specs.Prelude.{◌≡◌, ℕ, true, List, [], ◌∷◌, ◌++◌, flat_map, fold, Option, None, Some}
use Rattle.std.proofs.Common.{refl, sym}
use Rattle.std.proofs.lemmas.List.Sums.{fold-append}
use Rattle.dv_model.specs.declared.types.Command.{Command}
use Rattle.dv_model.specs.declared.types.Command.TheVariants.{Fetch}
use Rattle.dv_model.specs.declared.types.End.TheVariants.{Number}
use Rattle.dv_model.specs.declared.types.Item.TheVariants as item
use Rattle.dv_model.specs.declared.types.Mailbox.{Mailbox}
use Rattle.dv_model.specs.declared.types.Reply.{Reply}
use Rattle.dv_model.specs.declared.types.Reply.TheVariants as reply
use Rattle.dv_model.specs.declared.types.Row.{Row}
use Rattle.dv_model.specs.declared.types.Span.{Span}
use Rattle.dv_model.specs.declared.types.Value.{Value}
use Rattle.dv_model.specs.declared.types.Value.TheVariants as value
use Rattle.dv_model.specs.Fields.{virtual_size}
use Rattle.dv_model.specs.Journals.{Mail}
use Rattle.dv_model.specs.Sessions.{message_in}
use Rattle.dv_maildrop.specs.declared.types.Listed.{Listed}

-- ---- what is listed

-- a message with its octets, of which each line end has two (RFC 1939, section 11)
abbrev pub listed_as : ℕ → Option (List ℕ) → List Listed
listed_as uid None = []
listed_as uid (Some message) = record { uid = uid; size = virtual_size message } ∷ []

-- where the mailbox has it, and its file is whole
abbrev pub listed_in : (ℕ → Mail) → Mailbox → ℕ → List Listed
listed_in mail m uid = listed_as uid (message_in mail m uid)

-- so are those of these rows
abbrev pub listing : (ℕ → Mail) → Mailbox → List Row → List Listed
listing mail m rows = flat_map (λ row. listed_in mail m row.uid) rows

-- ---- how it is asked

-- all UIDs that a message may have (RFC 3501, section 2.3.1.1)
abbrev pub all_uids : Span
all_uids = record { from = Number 1; to = Number 4294967295 }

-- a FETCH of the sizes of all messages, by their UIDs (RFC 3501, section 6.4.8)
abbrev pub fetch_sizes : Command
fetch_sizes = Fetch true (all_uids ∷ []) (item.Size ∷ [])

-- ---- how it is taken

-- the size among values
abbrev pub size_in : List Value → Option ℕ
size_in [] = None
size_in (value.Size n ∷ values) = Some n
size_in (v ∷ values) = size_in values

-- the message of a FETCH with a size
abbrev pub sized : ℕ → Option ℕ → List Listed
sized uid None = []
sized uid (Some n) = record { uid = uid; size = n } ∷ []

abbrev pub sized_by : Reply → List Listed
sized_by (reply.Fetch number uid values) = sized uid (size_in values)
sized_by r = []

-- the messages so far, or the count of a failure of the disk, behind which no more are taken
pub record Sizing : Type 0 where
  pub rows : List Listed
  pub failure : Option ℕ

abbrev pub failure_by : Reply → Option ℕ
failure_by (reply.Unavailable faults) = Some faults
failure_by r = None

abbrev pub with_one : List Listed → Reply → Option ℕ → Sizing
with_one rows r (Some faults) = record { rows = rows; failure = Some faults }
with_one rows r None = record { rows = rows ++ sized_by r; failure = None }

abbrev pub with_more : List Listed → Option ℕ → Reply → Sizing
with_more rows (Some n) r = record { rows = rows; failure = Some n }
with_more rows None r = with_one rows r (failure_by r)

abbrev pub with_reply : Sizing → Reply → Sizing
with_reply s r = with_more s.rows s.failure r

-- with what these replies say
abbrev pub with_sizes : Sizing → List Reply → Sizing
with_sizes s replies = fold with_reply s replies

-- how many there are, and one more where the disk failed
abbrev pub failures_in : Option ℕ → ℕ
failures_in None = 0
failures_in (Some n) = 1

-- no replies leave it as it is
pub no_sizes : (s : Sizing) → with_sizes s [] ≡ s
no_sizes s = refl

-- replies behind others are one list of replies
pub more_sizes : (s : Sizing) (a b : List Reply)
    → with_sizes (with_sizes s a) b ≡ with_sizes s (a ++ b)
more_sizes s a b = sym (fold-append with_reply s a b)
