use Rattle.std.proofs.Common.{◌≡◌, List, ℕ, ◌++◌, ap, ◌∙◌, append_assoc}
use Rattle.dv_logfile.proofs.texts.write_header.Goals as goal

-- six pieces, added one after another
six : (o o1 o2 o3 o4 o5 o6 a b c d e f : List ℕ) → o1 ≡ o ++ a → o2 ≡ o1 ++ b → o3 ≡ o2 ++ c → o4 ≡ o3 ++ d → o5 ≡ o4 ++ e → o6 ≡ o5 ++ f → o6 ≡ o ++ (a ++ (b ++ (c ++ (d ++ (e ++ f)))))
six o o1 o2 o3 o4 o5 o6 a b c d e f e1 e2 e3 e4 e5 e6 = rw (e6, e5, e4, e3, e2, e1) (simp append_assoc)

pub returns : goal.returns
returns c =
    six _ c.extend.new.self c.extend-2.new.self c.write_words.new.out c.write_words-2.new.out c.extend-3.new.self c.extend-4.new.self _ _ _ _ _ _ c.in_ok-extend.ensures.ok
    (c.in_ok-extend-2.ensures.ok ∙ ap (λ (l : List ℕ). c.extend.new.self ++ l) c.to_le_bytes.ensures) c.in_ok-write_words.ensures c.in_ok-write_words-2.ensures
    (c.in_ok-extend-3.ensures.ok ∙ ap (λ (l : List ℕ). c.write_words-2.new.out ++ l) c.to_le_bytes-2.ensures) c.in_ok-extend-4.ensures.ok
