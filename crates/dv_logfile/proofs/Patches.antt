-- Bytes written in two pieces are bytes written at once.
use Rattle.std.proofs.Common.{◌≡◌, ℕ, suc, ◌+◌, ◌-◌, ◌≤◌, Bool, true, false, cond, Option, Some, List, [], ◌∷◌, ◌++◌, length, take, drop, refl, sym, ◌∙◌, ap, subst, arith, append_assoc, length-append, get_or}
use Rattle.std.proofs.lemmas.List.{take_at, take_all, drop_all, append-nil, take-append-drop, length-take}
use Rattle.dv_shelf.specs.declared.shelf.Name.TheVariants.{Log}
use Rattle.dv_shelf.specs.Folders.{Folder, patched, with_file, contents, same_name}

drop_past : (a b : List ℕ) (n : ℕ) → drop (length a + n) (a ++ b) ≡ drop n b
drop_past [] b n = let e : 0 + n ≡ n = omega arith in ap (λ (k : ℕ). drop k b) e
drop_past (x ∷ a) b n = let e : length (x ∷ a) + n ≡ suc (length a + n) = omega arith in ap (λ (k : ℕ). drop k (x ∷ a ++ b)) e ∙ drop_past a b n

pub patched_at : (a b bytes : List ℕ) → patched (a ++ b) (length a) bytes ≡ a ++ bytes ++ drop (length bytes) b
patched_at a b bytes =
    let none : length a - length (a ++ b) ≡ 0 = omega (arith, length-append a b) in
    rw (none, append-nil (a ++ b), take_at a b (length a) refl, drop_past a b (length bytes)) refl

patched_behind : (a b bytes : List ℕ) → patched (a ++ b) (length a + 1) bytes ≡ a ++ get_or b 0 0 ∷ bytes ++ drop (length bytes + 1) b
patched_behind a [] bytes =
    let one : length a + 1 - length a ≡ 1 = omega arith in
    let far : length a + 1 + length bytes ≡ length a + (length bytes + 1) = omega arith in
    let k : length bytes + 1 ≡ suc (length bytes) = omega arith in
    rw (append-nil a, one, take_all (length a + 1) (a ++ 0 ∷ []) (omega (arith, length-append a (0 ∷ []))), drop_all (length a + 1 + length bytes) a (omega arith), k) (simp append_assoc)
patched_behind a (x ∷ b) bytes =
    let none : length a + 1 - length (a ++ x ∷ b) ≡ 0 = omega (arith, length-append a (x ∷ b)) in
    let far : length a + 1 + length bytes ≡ length a + (length bytes + 1) = omega arith in
    let front : take (length a + 1) (a ++ x ∷ b) ≡ a ++ x ∷ [] = ap (λ (l : List ℕ). take (length a + 1) l) (sym (append_assoc a (x ∷ []) b)) ∙ take_at (a ++ x ∷ []) b (length a + 1) (length-append a (x ∷ [])) in
    rw (none, append-nil (a ++ x ∷ b), front, far, drop_past a (x ∷ b) (length bytes + 1)) (simp append_assoc)

pub gate_last : (a b bytes : List ℕ) (g : ℕ) → patched (patched (a ++ b) (length a + 1) bytes) (length a) (g ∷ []) ≡ patched (a ++ b) (length a) (g ∷ bytes)
gate_last a b bytes g =
    let k : length bytes + 1 ≡ suc (length bytes) = omega arith in
    let inner : patched (a ++ b) (length a + 1) bytes ≡ a ++ (get_or b 0 0 ∷ bytes ++ drop (length bytes + 1) b) = patched_behind a b bytes ∙ append_assoc a _ _ in
    ap (λ (l : List ℕ). patched l (length a) (g ∷ [])) inner
    ∙ patched_at a (get_or b 0 0 ∷ bytes ++ drop (length bytes + 1) b) (g ∷ [])
    ∙ rw k (simp append_assoc)
    ∙ sym (patched_at a b (g ∷ bytes))

gate_at : (old bytes : List ℕ) (e g : ℕ) → e ≤ length old → patched (patched old (e + 1) bytes) e (g ∷ []) ≡ patched old e (g ∷ bytes)
gate_at old bytes e g le =
    let a = take e old in
    let long : length a ≡ e = omega (arith, length-take e old) in
    let here : patched (patched old (length a + 1) bytes) (length a) (g ∷ []) ≡ patched old (length a) (g ∷ bytes) =
    subst (λ (o : List ℕ). patched (patched o (length a + 1) bytes) (length a) (g ∷ []) ≡ patched o (length a) (g ∷ bytes)) (take-append-drop e old) (gate_last a (drop e old) bytes g) in
    subst (λ (k : ℕ). patched (patched old (k + 1) bytes) k (g ∷ []) ≡ patched old k (g ∷ bytes)) long here

-- the last of two writes of one file stands
pub written_again : (folder : Folder) (x y : Option (List ℕ)) → with_file (with_file folder Log x) Log y ≡ with_file folder Log y
written_again folder x y i n = last (same_name Log n) (folder n) i
  where
    last : (b : Bool) (z : Option (List ℕ)) → cond b y (cond b x z) ≡ cond b y z
    last true z = refl
    last false z = refl

-- two writes, of all but the first byte and of that byte, are one
pub committed : (F F2 F4 : Folder) (e : ℕ) (text : List ℕ) → e ≤ length (contents F Log) → text ≡ 128 ∷ drop 1 text
    → F2 ≡ with_file F Log (Some (patched (contents F Log) (e + 1) (drop 1 text)))
    → F4 ≡ with_file F2 Log (Some (patched (contents F2 Log) e (128 ∷ []))) → F4 ≡ with_file F Log (Some (patched (contents F Log) e text))
committed F F2 F4 e text le gate first second =
    let old = contents F Log in
    second ∙ ap (λ (G : Folder). with_file G Log (Some (patched (contents G Log) e (128 ∷ [])))) first
    ∙ written_again F (Some (patched old (e + 1) (drop 1 text))) (Some (patched (patched old (e + 1) (drop 1 text)) e (128 ∷ [])))
    ∙ ap (λ (l : List ℕ). with_file F Log (Some l)) (gate_at old (drop 1 text) e 128 le ∙ ap (λ (l : List ℕ). patched old e l) (sym gate))
