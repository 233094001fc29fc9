-- Which reply begins the bytes.
use Rattle.std.specs.Prelude.{◌≡◌, ℕ, List, ◌++◌, length}
use Rattle.dv_model.specs.declared.types.Reply.{Reply}
use Rattle.dv_formats.specs.Replies.{IsReplyLine}

-- the line of this reply to this session, of so many bytes, begins the bytes
pub record Begins (session : List ℕ) (r : Reply) (size : ℕ) (b : List ℕ) : Type 0 where
  pub line : List ℕ
  pub rest : List ℕ
  pub is : IsReplyLine session r line
  pub text : b ≡ line ++ rest
  pub sized : size ≡ length line
