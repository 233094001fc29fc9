-- Two whole sessions: both sides of each theorem compute.
use Rattle.std.specs.Prelude.{◌≡◌, refl, ℕ, List, [], ◌∷◌, ◌++◌, codes, false, map, Option, Some, option_map}
use Rattle.std.specs.Fmt.{digits}
use Rattle.dv_formats.specs.Parsing.{number_of}
use Rattle.dv_maildrop.specs.declared.types.Found.TheVariants as found
use Rattle.dv_maildrop.specs.declared.types.PopLine.{PopLine}
use Rattle.dv_maildrop.specs.declared.types.Removal.TheVariants as removal
use Rattle.dv_maildrop.specs.Answers.{Store, answers, greeting}
use Rattle.dv_maildrop.specs.Lines.{line_of, numbered_line}
use Rattle.dv_maildrop.specs.Maildrops.{Transaction}
use Rattle.dv_maildrop.specs.Scripts.{script_commands}

-- one message of five octets
abbrev maildrop : Transaction
maildrop = record { uid_validity = 1000; rows = record { uid = 1; size = 5 } ∷ []; marked = []; ended = false }

-- a store that has this message, and does what it is asked
abbrev store : List ℕ → Store
store message = record { message = λ uid. found.Held message; removal = removal.Done }

-- what is said in a session of these lines
abbrev spoken : List ℕ → List PopLine → List ℕ
spoken message lines = greeting ++ answers maildrop (map (λ line. (store message, line)) lines)

abbrev said : List ℕ → List ℕ → Option (List ℕ)
said message script = option_map (spoken message) (script_commands script)

-- a marked message isn't listed any more, and its mark is not said to be carried out before QUIT
marked_message : said (codes "hello") (codes "STAT\nDELE 1\nLIST\nQUIT\n") ≡ Some (codes "+OK\r\n+OK 1 5\r\n+OK\r\n+OK\r\n.\r\n+OK\r\n")
unfolding digits number_of line_of numbered_line
marked_message = refl

-- a lone line feed is sent as CRLF, a last line is ended, and a leading period is doubled
stuffed_message : said (codes ".a\nb") (codes "RETR 1\nRETR 2\n") ≡ Some (codes "+OK\r\n+OK 5\r\n..a\r\nb\r\n.\r\n-ERR NONE\r\n")
unfolding digits number_of line_of numbered_line
stuffed_message = refl

-- lines behind QUIT aren't answered, and a unique identifier has the UIDVALIDITY
lines_behind_quit : said [] (codes "UIDL\r\nQUIT\r\nNOOP\r\n") ≡ Some (codes "+OK\r\n+OK\r\n1 1000.1\r\n.\r\n+OK\r\n")
unfolding digits number_of line_of numbered_line
lines_behind_quit = refl
