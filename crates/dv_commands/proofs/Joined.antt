-- Texts with their parts one behind another.
use Rattle.std.proofs.Common.{◌≡◌, ℕ, List, ◌++◌, ◌∙◌, append_assoc}

pub three : (a b c x : List ℕ) → ((a ++ b) ++ c) ++ x ≡ a ++ (b ++ (c ++ x))
three a b c x = append_assoc (a ++ b) c x ∙ append_assoc a b (c ++ x)

pub four : (a b c d x : List ℕ) → (((a ++ b) ++ c) ++ d) ++ x ≡ a ++ (b ++ (c ++ (d ++ x)))
four a b c d x = append_assoc (a ++ b ++ c) d x ∙ three a b c (d ++ x)

pub five : (a b c d e x : List ℕ) → ((((a ++ b) ++ c) ++ d) ++ e) ++ x ≡ a ++ (b ++ (c ++ (d ++ (e ++ x))))
five a b c d e x = append_assoc (a ++ b ++ c ++ d) e x ∙ four a b c d (e ++ x)

pub six : (a b c d e f x : List ℕ) → (((((a ++ b) ++ c) ++ d) ++ e) ++ f) ++ x ≡ a ++ (b ++ (c ++ (d ++ (e ++ (f ++ x)))))
six a b c d e f x = append_assoc (a ++ b ++ c ++ d ++ e) f x ∙ five a b c d e (f ++ x)

pub seven : (a b c d e f g x : List ℕ) → ((((((a ++ b) ++ c) ++ d) ++ e) ++ f) ++ g) ++ x ≡ a ++ (b ++ (c ++ (d ++ (e ++ (f ++ (g ++ x))))))
seven a b c d e f g x = append_assoc (a ++ b ++ c ++ d ++ e ++ f) g x ∙ six a b c d e f (g ++ x)
