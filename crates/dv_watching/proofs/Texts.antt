-- The text of one line more.
use Rattle.std.proofs.Common.{◌≡◌, ℕ, ◌<◌, List, [], ◌∷◌, ◌++◌, length, get_or, refl, sym, ap, ◌∙◌, arith, append_assoc}
use Rattle.std.proofs.lemmas.List.{append-nil}
use Rattle.dv_model.specs.declared.types.Key.{Key}
use Rattle.dv_model.specs.declared.types.Mailbox.{Mailbox}
use Rattle.dv_formats.specs.Scripts.{NamedLine}
use Rattle.dv_playing.specs.Playing.{Attempt, Play, Step, played, step}
use Rattle.dv_serving.specs.Readings.{AreAlike}
use Rattle.dv_serving.specs.Scripts.{answer_text}
use Rattle.dv_serving.proofs.Alike.{step_alike, used_more}
use Rattle.dv_serving.proofs.Readings.{alike_less}
use Rattle.dv_live.specs.Keeping.{KeptSearch, found_uids}
use Rattle.dv_live.specs.Laws.{IsOf}
use Rattle.dv_model.specs.Views.{shown}
use Rattle.dv_watching.specs.Texts.{found_in, line_text, lines_text, told_behind}
use Rattle.std.specs.Prelude.{map}

-- what is kept of a mailbox is what the key finds in it
pub kept_found : (kept : KeptSearch) (key : Key) (m : Mailbox) → kept.key ≡ key → IsOf kept m → kept.uids ≡ found_in key m
kept_found kept key m same is =
    is.agrees.uids ∙ ap (λ (k : Key). found_uids k kept.names (map shown m.rows)) same ∙ ap (λ ns. found_uids key ns (map shown m.rows)) is.names

module _ (clock : ℕ → ℕ) (key : Key) where
  pub no_lines : (play : Play) (lines : List NamedLine) → lines_text clock key play lines [] ≡ []
  no_lines play [] = refl
  no_lines play (line ∷ lines) = refl

  pub lines_more : (play : Play) (lines : List NamedLine) (attempts : List Attempt) (a : Attempt) (line : NamedLine) → length attempts < length lines → line ≡ get_or lines (length attempts) line
      → lines_text clock key play lines (attempts ++ a ∷ []) ≡ lines_text clock key play lines attempts ++ line_text clock key (played clock play attempts) line a
  lines_more play [] attempts a line less is = absurd (omega (arith, less))
  lines_more play (first ∷ lines) [] a line less is =
      ap (λ t. line_text clock key play first a ++ t) (no_lines (step clock play a).play lines) ∙ append-nil (line_text clock key play first a)
      ∙ ap (λ (l : NamedLine). line_text clock key play l a) (sym is)
  lines_more play (first ∷ lines) (one ∷ attempts) a line less is =
      ap (λ t. line_text clock key play first one ++ t) (lines_more (step clock play one).play lines attempts a line (omega (arith, less)) is)
      ∙ sym (append_assoc (line_text clock key play first one) (lines_text clock key (step clock play one).play lines attempts) (line_text clock key (played clock (step clock play one).play attempts) line a))

-- over readings that are the same as far as they are used the text is the same
pub lines_alike : (one other : ℕ → ℕ) (key : Key) (play : Play) (lines : List NamedLine) (attempts : List Attempt) → AreAlike (played one play attempts).used one other
    → lines_text one key play lines attempts ≡ lines_text other key play lines attempts
lines_alike one other key play lines [] alike = no_lines one key play lines ∙ sym (no_lines other key play lines)
lines_alike one other key play [] (a ∷ attempts) alike = refl
lines_alike one other key play (line ∷ lines) (a ∷ attempts) alike =
    let next : Play = (step one play a).play in
    let first : step one play a ≡ step other play a = step_alike one other play a (alike_less next.used (played one play (a ∷ attempts)).used one other (used_more one next attempts) alike) in
    ap (λ t. line_text one key play line a ++ t) (lines_alike one other key next lines attempts alike)
    ∙ ap (λ (s : Step). (answer_text line s.replies ++ told_behind key play s.play) ++ lines_text other key s.play lines attempts) first
