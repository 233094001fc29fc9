-- The one text that is written of each set, flag list, key, command and script.
use Rattle.std.specs.Prelude.{ℕ, Bool, true, false, List, [], ◌∷◌, ◌++◌, length, map, flat_map, Option, Some, None, unwrap_or, codes, decimal, nat_eq, if◌then◌else◌}
use Rattle.dv_model.specs.declared.types.Command.{Command}
use Rattle.dv_model.specs.declared.types.Command.TheVariants as command
use Rattle.dv_model.specs.declared.types.End.{End}
use Rattle.dv_model.specs.declared.types.End.TheVariants.{Number, Star}
use Rattle.dv_model.specs.declared.types.Item.{Item}
use Rattle.dv_model.specs.declared.types.Item.TheVariants as item
use Rattle.dv_model.specs.declared.types.Key.{Key, out-Key}
use Rattle.dv_model.specs.declared.types.Key.TheOpen.{Key-F}
use Rattle.dv_model.specs.declared.types.Key.TheFolds.{fold-Key}
use Rattle.dv_model.specs.declared.types.Span.{Span}
use Rattle.dv_model.specs.Texts.{spaced, flag_words}
use Rattle.dv_formats.specs.Scripts.{NamedLine, flag_key, how_text, joined, uid_text}

-- an end of a range
abbrev pub end_text : End → List ℕ
end_text (Number n) = decimal n
end_text Star = codes "*"

-- both ends are one
abbrev pub are_equal : End → End → Bool
are_equal (Number m) (Number n) = nat_eq m n
are_equal Star Star = true
are_equal from to = false

-- equal ends are written once
abbrev pub span_text : Span → List ℕ
span_text span =
    if are_equal span.from span.to then end_text span.from
    else end_text span.from ++ codes ":" ++ end_text span.to

-- a sequence set
abbrev pub set_text : List Span → List ℕ
set_text set = joined (codes ",") (map span_text set)

-- system flags in the order of their bits, and then the keywords as they are kept
abbrev pub flags_text : ℕ → List (List ℕ) → List ℕ
flags_text flags keywords = codes "(" ++ spaced (flag_words flags ++ keywords) ++ codes ")"

-- what a FETCH asks for
abbrev pub item_text : Item → List ℕ
item_text item.Flags = codes "FLAGS"
item_text item.Size = codes "RFC822.SIZE"
item_text item.Body = codes "BODY[]"
item_text (item.Field name) = codes "FIELD " ++ name
item_text item.Modseq = codes "MODSEQ"

-- several keys that stand inside another one are written in parentheses
abbrev pub key_step : Key-F (List ℕ) → List ℕ
key_step Key-F.All = codes "ALL"
key_step (Key-F.Has n) = unwrap_or (flag_key n) []
key_step (Key-F.Lacks n) = codes "UN" ++ unwrap_or (flag_key n) []
key_step (Key-F.Keyword name) = codes "KEYWORD " ++ name
key_step (Key-F.Uid set) = codes "UID " ++ set_text set
key_step (Key-F.Larger n) = codes "LARGER " ++ decimal n
key_step (Key-F.Header name text) = codes "HEADER " ++ name ++ codes " \"" ++ text ++ codes "\""
key_step (Key-F.Not key) = codes "NOT " ++ key
key_step (Key-F.Or one other) = codes "OR " ++ one ++ codes " " ++ other
key_step (Key-F.And keys) = codes "(" ++ spaced keys ++ codes ")"

-- a search key that stands inside another
abbrev pub key_text : Key → List ℕ
key_text = fold-Key (List ℕ) key_step

-- the keys of a SEARCH stand without parentheses
abbrev pub sought_text : Key → List ℕ
sought_text key = by_layer (out-Key key)
  where
    by_layer : Key-F Key → List ℕ
    by_layer (Key-F.And keys) = spaced (map key_text keys)
    by_layer layer = key_text key

-- UNCHANGEDSINCE (RFC 7162, section 3.1.3)
abbrev pub modifier_text : Option ℕ → List ℕ
modifier_text None = []
modifier_text (Some n) = codes "(UNCHANGEDSINCE " ++ decimal n ++ codes ") "

-- a command, with its literal
abbrev pub command_text : Command → List ℕ
command_text command.Select = codes "SELECT"
command_text command.Noop = codes "NOOP"
command_text command.Check = codes "CHECK"
command_text command.Expunge = codes "EXPUNGE"
command_text (command.Append flags keywords message) =
    codes "APPEND " ++ flags_text flags keywords ++ codes " {" ++ decimal (length message)
    ++ codes "}" ++ 10 ∷ message
command_text (command.Fetch by_uid set items) =
    uid_text by_uid ++ codes "FETCH " ++ set_text set ++ codes " (" ++ spaced (map item_text items)
    ++ codes ")"
command_text (command.Store by_uid set how flags keywords since) =
    uid_text by_uid ++ codes "STORE " ++ set_text set ++ codes " " ++ modifier_text since
    ++ how_text how ++ codes " " ++ flags_text flags keywords
command_text (command.Search by_uid key) = uid_text by_uid ++ codes "SEARCH " ++ sought_text key
command_text (command.UidRemove set) = codes "UID REMOVE " ++ set_text set

-- a line with its line feed
abbrev pub line_text : NamedLine → List ℕ
line_text line = line.0 ++ codes " " ++ command_text line.1 ++ 10 ∷ []

-- the whole script
abbrev pub script_text : List NamedLine → List ℕ
script_text lines = flat_map line_text lines
