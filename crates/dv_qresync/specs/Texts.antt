-- The texts of what a client with an older state hears (RFC 7162, sections 3.1.2.1, 3.1.4 and 3.2.10.1; RFC 3501, section 7).
use Rattle.std.specs.Prelude.{ℕ, List, [], ◌∷◌, ◌++◌, map, flat_map, codes, decimal}
use Rattle.dv_formats.specs.Printing.{flags_text, set_text}
use Rattle.dv_qresync.specs.declared.types.Answer.{Answer}
use Rattle.dv_qresync.specs.declared.types.Answer.TheVariants.{Stale, Vanished, Highest, Fetch}
use Rattle.dv_qresync.specs.Replicas.{span_of}

-- an answer without its line end
abbrev pub answer_text : Answer → List ℕ
answer_text (Stale validity) = codes "* OK [UIDVALIDITY " ++ decimal validity ++ codes "]"
answer_text (Vanished pairs) = codes "* VANISHED (EARLIER) " ++ set_text (map span_of pairs)
answer_text (Highest n) = codes "* OK [HIGHESTMODSEQ " ++ decimal n ++ codes "]"
answer_text (Fetch number uid flags keywords modseq) =
    codes "* " ++ decimal number ++ codes " FETCH (UID " ++ decimal uid ++ codes " FLAGS " ++ flags_text flags keywords
    ++ codes " MODSEQ (" ++ decimal modseq ++ codes "))"

-- each with a line feed
abbrev pub answers_text : List Answer → List ℕ
answers_text answers = flat_map (λ answer. answer_text answer ++ 10 ∷ []) answers
