-- What generated scripts begin with.
use Rattle.std.proofs.Common.{◌≡◌, refl, [], ◌∷◌}
use Rattle.std.specs.Prelude.{codes, replicate, ◌++◌}
use Rattle.std.specs.Fmt.{digits}
use Rattle.dv_model.specs.declared.types.Command.TheVariants as command
use Rattle.dv_formats.specs.Generators.{command_drawn, drawn, generated, next_state}
use Rattle.dv_formats.specs.Printing.{script_text}

first_draw : drawn (next_state 7) ≡ 1059165278
first_draw = refl

first_command : (command_drawn 0 7).0 ≡ command.Noop
first_command = refl

one_command : generated 7 1 1 ≡ (codes "s1", command.Select) ∷ (codes "s1", command.Noop) ∷ []
unfolding digits
one_command = refl

-- APPEND, STORE, FETCH, NOOP and EXPUNGE of three sessions by turns
nine_commands : script_text (generated 7 9 3)
    ≡ (codes "s1 SELECT" ++ 10 ∷ [])
    ++ (codes "s2 SELECT" ++ 10 ∷ [])
    ++ (codes "s3 SELECT" ++ 10 ∷ [])
    ++ (codes "s1 NOOP" ++ 10 ∷ [])
    ++ (codes "s2 EXPUNGE" ++ 10 ∷ [])
    ++ (codes "s3 APPEND () {73}" ++ 10 ∷ [])
    ++ (replicate 73 120 ++ 10 ∷ [])
    ++ (codes "s1 APPEND () {19}" ++ 10 ∷ [])
    ++ (replicate 19 120 ++ 10 ∷ [])
    ++ (codes "s2 APPEND () {64}" ++ 10 ∷ [])
    ++ (replicate 64 120 ++ 10 ∷ [])
    ++ (codes "s3 UID STORE 5:14 -FLAGS (\\Seen)" ++ 10 ∷ [])
    ++ (codes "s1 APPEND () {80}" ++ 10 ∷ [])
    ++ (replicate 80 120 ++ 10 ∷ [])
    ++ (codes "s2 UID FETCH 3:12 (FLAGS)" ++ 10 ∷ [])
    ++ (codes "s3 UID FETCH 4:13 (FLAGS)" ++ 10 ∷ [])
unfolding digits
nine_commands = refl

-- a keyword
keyword_command : script_text (generated 14 1 1) ≡ codes "s1 SELECT" ++ 10 ∷ codes "s1 UID STORE 1:10 +FLAGS (k5)" ++ 10 ∷ []
unfolding digits
keyword_command = refl
