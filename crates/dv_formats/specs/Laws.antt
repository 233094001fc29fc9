-- What holds of the texts.
use Rattle.std.specs.Prelude.{◌≡◌, ◌++◌, ℕ, List}
use Rattle.dv_model.specs.declared.types.Mailbox.{Mailbox}
use Rattle.dv_model.specs.declared.types.Mark.{Mark}
use Rattle.dv_model.specs.declared.types.Reply.{Reply}
use Rattle.dv_formats.specs.Replies.{IsReplyLine}
use Rattle.dv_formats.specs.Snapshots.{IsSnapshot}

-- a text is of one snapshot
abbrev pub SnapshotIsOne : Type 0
SnapshotIsOne =
    (version version' : ℕ) (m m' : Mailbox) (indexid indexid' : ℕ) (mark mark' : Mark) (b : List ℕ)
    → IsSnapshot version m indexid mark b
    → IsSnapshot version' m' indexid' mark' b
    → (version ≡ version') × (m ≡ m') × (indexid ≡ indexid') × (mark ≡ mark')

-- no line of a reply begins another, and each is of one session and one reply
abbrev pub ReplyIsOne : Type 0
ReplyIsOne = (session other : List ℕ) (r s : Reply) (b c x y : List ℕ)
    → IsReplyLine session r b
    → IsReplyLine other s c
    → b ++ x ≡ c ++ y
    → (session ≡ other) × (r ≡ s) × (x ≡ y)
