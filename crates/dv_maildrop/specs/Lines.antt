-- The lines of a POP3 client (RFC 1939, sections 3, 5 and 7), by their grammar and as a function.
use Rattle.std.specs.Prelude.{◌≡◌, ℕ, ◌^◌, ◌<◌, List, ◌++◌, Option, Some, None, codes, decimal, bytes_eq, unwrap_or, if◌then◌else◌}
use Rattle.dv_formats.specs.Parsing.{◌>>=◌, after, number_of}
use Rattle.dv_maildrop.specs.declared.types.PopLine.{PopLine}
use Rattle.dv_maildrop.specs.declared.types.PopLine.TheVariants as line

-- ---- the grammar

-- a keyword in upper case, a space and a number below 2^32 without leading zeros
abbrev pub HasNumber : List ℕ → ℕ → List ℕ → Type 0
HasNumber keyword k b = (k < 2 ^ 32) × (b ≡ keyword ++ codes " " ++ decimal k)

-- a line without its end is of this command
abbrev pub IsPopLine : PopLine → List ℕ → Type 0
IsPopLine line.Stat b = b ≡ codes "STAT"
IsPopLine (line.List None) b = b ≡ codes "LIST"
IsPopLine (line.List (Some k)) b = HasNumber (codes "LIST") k b
IsPopLine (line.Uidl None) b = b ≡ codes "UIDL"
IsPopLine (line.Uidl (Some k)) b = HasNumber (codes "UIDL") k b
IsPopLine (line.Retr k) b = HasNumber (codes "RETR") k b
IsPopLine (line.Dele k) b = HasNumber (codes "DELE") k b
IsPopLine line.Noop b = b ≡ codes "NOOP"
IsPopLine line.Rset b = b ≡ codes "RSET"
IsPopLine line.Quit b = b ≡ codes "QUIT"
IsPopLine line.Bad b = ⊥

-- ---- what is read

-- a command of its keyword alone
abbrev pub plain_line : List ℕ → Option PopLine
plain_line b =
    if bytes_eq b (codes "STAT") then Some line.Stat
    else (if bytes_eq b (codes "LIST") then Some (line.List None)
    else (if bytes_eq b (codes "UIDL") then Some (line.Uidl None)
    else (if bytes_eq b (codes "NOOP") then Some line.Noop
    else (if bytes_eq b (codes "RSET") then Some line.Rset
    else (if bytes_eq b (codes "QUIT") then Some line.Quit else None)))))

-- the number of a message
abbrev pub message_number : List ℕ → Option ℕ
message_number b = number_of (2 ^ 32) b

-- a command with the number that stands behind its keyword
unfoldable pub numbered_line : List ℕ → Option PopLine
numbered_line b = by_list (after (codes "LIST ") b)
  where
    by_dele : Option (List ℕ) → Option PopLine
    by_dele None = None
    by_dele (Some rest) = message_number rest >>= λ k. Some (line.Dele k)

    by_retr : Option (List ℕ) → Option PopLine
    by_retr None = by_dele (after (codes "DELE ") b)
    by_retr (Some rest) = message_number rest >>= λ k. Some (line.Retr k)

    by_uidl : Option (List ℕ) → Option PopLine
    by_uidl None = by_retr (after (codes "RETR ") b)
    by_uidl (Some rest) = message_number rest >>= λ k. Some (line.Uidl (Some k))

    by_list : Option (List ℕ) → Option PopLine
    by_list None = by_uidl (after (codes "UIDL ") b)
    by_list (Some rest) = message_number rest >>= λ k. Some (line.List (Some k))

-- the command of a line without its end
unfoldable pub line_of : List ℕ → PopLine
line_of b = by_plain (plain_line b)
  where
    by_plain : Option PopLine → PopLine
    by_plain (Some line) = line
    by_plain None = unwrap_or (numbered_line b) line.Bad
