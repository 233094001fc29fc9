-- Lines of replies, with the replies that they are.
use Rattle.std.proofs.Common.{refl, ℕ, ◌^◌, ◌<◌, [], ◌∷◌, ◌++◌, Some, None, arith}
use Rattle.std.specs.Prelude.{codes}
use Rattle.std.specs.Fmt.{digits}
use Rattle.std.proofs.lemmas.List.Elements.{All-nil}
use Rattle.dv_model.specs.declared.types.Mark.{Mark}
use Rattle.dv_model.specs.declared.types.Reply.TheVariants as reply
use Rattle.dv_model.specs.declared.types.Value.TheVariants as value
use Rattle.dv_model.specs.declared.types.Word.TheVariants as word
use Rattle.dv_model.specs.Names.{IsName}
use Rattle.dv_formats.specs.Replies.{IsReplyLine, IsValue}
use Rattle.dv_examples.proofs.TextRows.{a, all_one, session}

abbrev place : ℕ → Mark
place offset = record { file_seq = 1; offset = offset }

exists_line : IsReplyLine a (reply.Exists 1) (codes "a * 1 EXISTS" ++ 10 ∷ [])
unfolding digits
exists_line = record { named = session; bounded = omega arith; text = refl }

fetch_line : IsReplyLine a (reply.Fetch 1 1 (value.Flags 8 [] ∷ []))
    (codes "a * 1 FETCH (UID 1 FLAGS (\\Seen))" ++ 10 ∷ [])
unfolding digits
fetch_line = record {
  named = session;
  bounded = (omega arith, omega arith, all_one IsValue (value.Flags 8 []) (omega arith, All-nil IsName));
  text = refl;
}

append_line : IsReplyLine a (reply.Done word.Append (place 72) (Some (1000, 1)) [])
    (codes "a OK [APPENDUID 1000 1] [MARK 1:72] APPEND" ++ 10 ∷ [])
unfolding digits
append_line = record {
  named = session;
  bounded = (record { file_seq = omega arith; offset = omega arith }, (omega arith, omega arith), All-nil (λ n. n < 2 ^ 32));
  text = refl;
}

modified_line : IsReplyLine a (reply.Done word.Store (place 92) None (1 ∷ []))
    (codes "a OK [MODIFIED 1] [MARK 1:92] STORE" ++ 10 ∷ [])
unfolding digits
modified_line = record {
  named = session;
  bounded = (record { file_seq = omega arith; offset = omega arith }, tt, all_one (λ n. n < 2 ^ 32) 1 (omega arith));
  text = refl;
}

damaged_line : IsReplyLine a (reply.Damaged 1 (place 72))
    (codes "a NO [CORRUPTION] UID 1 MARK 1:72" ++ 10 ∷ [])
unfolding digits
damaged_line = record { named = session; bounded = (omega arith, record { file_seq = omega arith; offset = omega arith }); text = refl }
