-- A script with its lines, and the log of a new folder with what is found there.
use Rattle.std.proofs.Common.{◌≡◌, inl, inr, refl, ℕ, zero, suc, true, List, [], ◌∷◌, ◌++◌, Some, None, arith}
use Rattle.std.specs.Prelude.{All, codes}
use Rattle.std.specs.Fmt.{digits}
use Rattle.dv_model.specs.declared.types.Command.TheVariants as command
use Rattle.dv_model.specs.Mailboxes.{empty_mailbox}
use Rattle.dv_model.specs.Appends.{validity_record}
use Rattle.dv_model.proofs.Appends.{validity_is_record}
use Rattle.dv_shelf.specs.declared.shelf.Name.TheVariants as name
use Rattle.dv_shelf.specs.Folders.{Folder, no_files, with_file}
use Rattle.dv_logfile.specs.Layout.{IsHeader, closing, log_text, new_header}
use Rattle.dv_formats.specs.Printing.{script_text}
use Rattle.dv_formats.specs.Scripts.{AreFlags, IsAppendStart, IsLiteral, IsPiece, IsScript, IsSession, IsShortLine, NamedLine, Piece, is_session_byte}
use Rattle.dv_logfile.specs.Scans.{Good, GoodLog, IsGood, Missing}
use Rattle.dv_openings.specs.Openings.{Finds, IsFound}

-- ---- a script

abbrev script : List ℕ
script = codes "a SELECT" ++ 10 ∷ codes "a APPEND () {5}" ++ 10 ∷ codes "hello" ++ 10 ∷ []

abbrev pub a : List ℕ
a = codes "a"

abbrev append : NamedLine
append = (a, command.Append 0 [] (codes "hello"))

abbrev pieces : List Piece
pieces =
    record { lines = (a, command.Select) ∷ []; text = codes "a SELECT"; ending = 10 ∷ [] }
    ∷ record { lines = append ∷ []; text = codes "a APPEND () {5}" ++ 10 ∷ codes "hello"; ending = 10 ∷ [] }
    ∷ []

pub all_one : {X : Type 0} (P : X → Type 0) (x : X) → P x → All P (x ∷ [])
all_one P x p zero d below = p
all_one P x p (suc k) d below = absurd (omega (arith, below))

all_two : {X : Type 0} (P : X → Type 0) (x y : X) → P x → P y → All P (x ∷ y ∷ [])
all_two P x y p q zero d below = p
all_two P x y p q (suc zero) d below = q
all_two P x y p q (suc (suc k)) d below = absurd (omega (arith, below))

pub session : IsSession a
session = record { size = (omega arith, omega arith); bytes = all_one (λ n. is_session_byte n ≡ true) 97 refl }

select_line : IsShortLine (a, command.Select) (codes "a SELECT")
select_line = record { session = session; command_text = codes "SELECT"; command = refl; text = refl; size = omega arith }

no_flags : AreFlags 0 [] (codes "()")
no_flags = record { words = []; each = λ k d below. absurd (omega (arith, below)); named = refl; text = refl }

append_start : IsAppendStart 0 [] 5 (codes "APPEND () {5}")
unfolding digits
append_start = record { flags_text = codes "()"; stored = no_flags; below = omega arith; text = refl }

append_line : IsLiteral a 0 [] (codes "hello") (codes "a APPEND () {5}" ++ 10 ∷ codes "hello")
append_line = record {
  start = codes "a APPEND () {5}";
  ending = 10 ∷ [];
  starts = record { named = session; command_text = codes "APPEND () {5}"; command = append_start; text = refl; short = omega arith };
  ends = inl refl;
  text = refl;
}

script_lines : IsScript ((a, command.Select) ∷ append ∷ []) script
script_lines = record {
  size = omega arith;
  pieces = pieces;
  each = all_two IsPiece _ _ (inr (inl ((a, command.Select), refl, select_line))) (inr (inl (append, refl, append_line)));
  ended = (inl refl, inl (inl refl));
  text = refl;
  are = refl;
  sessions = omega arith;
}

-- and this is how they are written
script_written : script_text ((a, command.Select) ∷ append ∷ []) ≡ script
unfolding digits
script_written = refl

-- ---- the log of a new folder

abbrev new_log : List ℕ
new_log = log_text (new_header 1000) (validity_record 1000 ∷ [])

new_log_bytes : new_log
    ≡ (1 ∷ 3 ∷ 0x28 ∷ 0 ∷ 0xe8 ∷ 3 ∷ 0 ∷ 0 ∷ 1 ∷ 0 ∷ 0 ∷ 0 ∷ 0 ∷ 0 ∷ 0 ∷ 0 ∷ 0 ∷ 0 ∷ 0 ∷ 0 ∷ 0xe8 ∷ 3 ∷ 0 ∷ 0 ∷ 1 ∷ 0 ∷ 0 ∷ 0 ∷ 0 ∷ 0 ∷ 0 ∷ 0 ∷ 1 ∷ 0 ∷ 0 ∷ 0 ∷ 0 ∷ 0 ∷ 0 ∷ 0 ∷ [])
    ++ (0x80 ∷ 0x80 ∷ 0x80 ∷ 0x84 ∷ 0x20 ∷ 0 ∷ 0 ∷ 0 ∷ 0x18 ∷ 0 ∷ 4 ∷ 0 ∷ 0xe8 ∷ 3 ∷ 0 ∷ 0 ∷ 0 ∷ 0 ∷ 0 ∷ 0 ∷ [])
new_log_bytes = refl

abbrev new_folder : Folder
new_folder = with_file no_files name.Log (Some new_log)

abbrev new_file : GoodLog
new_file = record { header = new_header 1000; spots = record { place = 40; is = validity_record 1000 } ∷ []; end = 56 }

header_taken : IsHeader (new_header 1000) new_log
header_taken = record { read = refl; size = (omega arith, omega arith); fits = omega arith; version = refl; numbers = (omega arith, omega arith); little_endian = λ e. refl }

good_file : IsGood new_file new_log
good_file = record { taken = header_taken; rest = closing; records = (refl, (_, closing, refl, (validity_is_record 1000).spells, omega arith, (refl, refl))); closed = refl }

found_new : IsFound new_folder (Finds (record (empty_mailbox 1000) { highest = 2 }) (record { file_seq = 1; offset = 56 }))
found_new = record { log = Good new_file; rotated = Missing; index = None; log_file = good_file; rotated_file = tt; index_file = refl; is = refl }
