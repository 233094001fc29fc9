-- The text of a session's replies.
use Rattle.std.specs.Prelude.{◌≡◌, ℕ, List, [], ◌++◌, flat_map}
use Rattle.std.proofs.Common.{◌∙◌, ap, sym, append_assoc}
use Rattle.std.proofs.lemmas.Grind.{flat_map-append}
use Rattle.std.proofs.lemmas.List.{append-nil}
use Rattle.dv_model.specs.declared.types.Reply.{Reply}
use Rattle.dv_model.specs.Texts.{line_text}

-- the session's name, and the lines so far
pub record Lines : Type 0 where
  pub session : List ℕ
  pub text : List ℕ

-- pieces of a text, one behind another
abbrev pub joined : List (List ℕ) → List ℕ
joined pieces = flat_map (λ piece. piece) pieces

-- the lines of these replies behind the ones so far
abbrev pub with_replies : Lines → List Reply → Lines
with_replies t replies = record { session = t.session; text = t.text ++ flat_map (line_text t.session) replies }

-- no replies leave it as it is
pub none_taken : (t : Lines) → with_replies t [] ≡ t
none_taken t = ap (λ (text : List ℕ). record { session = t.session; text = text }) (append-nil t.text)

-- replies behind others are one list of replies
pub more_taken : (t : Lines) (a b : List Reply) → with_replies (with_replies t a) b ≡ with_replies t (a ++ b)
more_taken t a b =
    let line = line_text t.session in
    let texts : List ℕ = flat_map line a in
    ap (λ (text : List ℕ). record { session = t.session; text = text }) (append_assoc t.text texts (flat_map line b) ∙ ap (λ (behind : List ℕ). t.text ++ behind) (sym (flat_map-append line a b)))
