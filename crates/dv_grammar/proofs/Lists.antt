-- What is read is of the grammar: lists and items.
use Rattle.std.proofs.Common.{◌≡◌, ℕ, zero, suc, ◌≤◌, Bool, true, false, cond, List, [], ◌∷◌, ◌++◌, length, Option, Some, None, codes, refl, sym, ◌∙◌, ap, subst, arith, append_assoc}
use Rattle.std.specs.List.{AllZip}
use Rattle.std.specs.Str.{bytes_eq}
use Rattle.std.proofs.lemmas.Slice.Eq.{bytes_eq-Decides}
use Rattle.dv_model.specs.declared.types.Item.{Item}
use Rattle.dv_model.specs.declared.types.Item.TheVariants as item
use Rattle.dv_model.specs.Texts.{spaced}
use Rattle.dv_formats.specs.Scripts.{IsItem}
use Rattle.dv_formats.specs.Parsing.{after, before, field_at, from, is_field_name, is_stop, item_at, plain_item, several, with_others}
use Rattle.dv_commands.proofs.Base.{after_is, bind_some, if_some, parted, some_is}
use Rattle.dv_commands.proofs.Names.{field_sound}

-- ---- lists

-- a front of the bytes is a text of what was read
abbrev pub IsFront : {A : Type 0} → (A → List ℕ → Type 0) → List ℕ → A × List ℕ → Type 0
IsFront R b y = (w : List ℕ) × R y.0 w × (b ≡ w ++ y.1)

-- so are several, with a space between two
pub record AreFronts {A : Type 0} (R : A → List ℕ → Type 0) (most : ℕ) (b : List ℕ) (y : List A × List ℕ) : Type 0 where
  pub words : List (List ℕ)
  pub each : AllZip R y.0 words
  pub some : 1 ≤ length y.0
  pub few : length y.0 ≤ most
  pub text : b ≡ spaced words ++ y.1

pub several_sound : {A : Type 0} (R : A → List ℕ → Type 0) (read : List ℕ → Option (A × List ℕ)) → ((b : List ℕ) (y : A × List ℕ) → read b ≡ Some y → IsFront R b y)
    → (most : ℕ) (b : List ℕ) (y : List A × List ℕ) → several read most b ≡ Some y → AreFronts R most b y
unfolding several
several_sound R read law zero b y e = absurd cc
several_sound {A} R read law (suc most) b y e =
    let first = bind_some (read b) (λ first. with_others first (after (codes " ") first.1) (several read most)) y e in
    let is = law b first.0 first.1 in
    by_space (several_sound R read law most) first.0 is (after (codes " ") first.0.1) refl first.2
  where
    joined : (x : A × List ℕ) (w rest : List ℕ) (others : List A × List ℕ) → R x.0 w → b ≡ w ++ x.1 → x.1 ≡ codes " " ++ rest → AreFronts R most rest others
        → AreFronts R (suc most) b (x.0 ∷ others.0, others.1)
    joined x w rest others is text space more = by_words others more.words more.each more.some more.few (text ∙ ap (λ t. w ++ t) (space ∙ ap (λ t. 32 ∷ t) more.text))
      where
        by_words : (o : List A × List ℕ) (ws : List (List ℕ)) → AllZip R o.0 ws → 1 ≤ length o.0 → length o.0 ≤ most → b ≡ w ++ 32 ∷ (spaced ws ++ o.1)
            → AreFronts R (suc most) b (x.0 ∷ o.0, o.1)
        by_words ([], o) ws all some few whole = absurd (omega (arith, some))
        by_words (z ∷ zs, o) [] all some few whole = absurd all
        by_words (z ∷ zs, o) (v ∷ vs) all some few whole = record {
          words = w ∷ v ∷ vs;
          each = (is, all);
          some = omega arith;
          few = omega (arith, few);
          text = whole ∙ sym (append_assoc w (32 ∷ spaced (v ∷ vs)) o);
        }

    by_space : ((b : List ℕ) (y : List A × List ℕ) → several read most b ≡ Some y → AreFronts R most b y) → (x : A × List ℕ) → IsFront R b x → (r : Option (List ℕ)) → after (codes " ") x.1 ≡ r → with_others x r (several read most) ≡ Some y → AreFronts R (suc most) b y
    by_space again x is None none f = subst (AreFronts R (suc most) b) (some_is (x.0 ∷ [], x.1) y f) (record { words = is.0 ∷ []; each = (is.1, tt); some = omega arith; few = omega arith; text = is.2 })
    by_space again x is (Some rest) space f =
        let others = bind_some (several read most rest) (λ others. Some (x.0 ∷ others.0, others.1)) y f in
        subst (AreFronts R (suc most) b) (some_is (x.0 ∷ others.0.0, others.0.1) y others.2)
        (joined x is.0 rest others.0 is.1 is.2 (after_is (codes " ") x.1 rest space) (again rest others.0 others.1))

-- ---- items

plain_sound : (w : List ℕ) (one : Item) → plain_item w ≡ Some one → IsItem one w
plain_sound w one e = by_flags (bytes_eq w (codes "FLAGS")) refl e
  where
    is : (x : Item) (text : List ℕ) → bytes_eq w text ≡ true → Some x ≡ Some one → IsItem x text → (w ≡ text → IsItem x text → IsItem x w) → IsItem one w
    is x text same f item_is go = subst (λ z. IsItem z w) (some_is x one f) (go ((bytes_eq-Decides w text).0 same) item_is)

    by_modseq : (t : Bool) → bytes_eq w (codes "MODSEQ") ≡ t → cond t (Some item.Modseq) None ≡ Some one → IsItem one w
    by_modseq true same f = is item.Modseq (codes "MODSEQ") same f refl (λ p q. p)
    by_modseq false same f = absurd cc

    by_body : (t : Bool) → bytes_eq w (codes "BODY[]") ≡ t → cond t (Some item.Body) (cond (bytes_eq w (codes "MODSEQ")) (Some item.Modseq) None) ≡ Some one → IsItem one w
    by_body true same f = is item.Body (codes "BODY[]") same f refl (λ p q. p)
    by_body false same f = by_modseq (bytes_eq w (codes "MODSEQ")) refl f

    by_size : (t : Bool) → bytes_eq w (codes "RFC822.SIZE") ≡ t → cond t (Some item.Size) (cond (bytes_eq w (codes "BODY[]")) (Some item.Body) (cond (bytes_eq w (codes "MODSEQ")) (Some item.Modseq) None)) ≡ Some one → IsItem one w
    by_size true same f = is item.Size (codes "RFC822.SIZE") same f refl (λ p q. p)
    by_size false same f = by_body (bytes_eq w (codes "BODY[]")) refl f

    by_flags : (t : Bool) → bytes_eq w (codes "FLAGS") ≡ t → cond t (Some item.Flags) (cond (bytes_eq w (codes "RFC822.SIZE")) (Some item.Size) (cond (bytes_eq w (codes "BODY[]")) (Some item.Body) (cond (bytes_eq w (codes "MODSEQ")) (Some item.Modseq) None))) ≡ Some one → IsItem one w
    by_flags true same f = is item.Flags (codes "FLAGS") same f refl (λ p q. p)
    by_flags false same f = by_size (bytes_eq w (codes "RFC822.SIZE")) refl f

pub item_sound : (b : List ℕ) (y : Item × List ℕ) → item_at b ≡ Some y → IsFront IsItem b y
unfolding item_at
item_sound b y e = by_field (after (codes "FIELD ") b) refl
  where
    word : List ℕ
    word = before is_stop b

    named : (rest : List ℕ) → b ≡ codes "FIELD " ++ rest → field_at rest ≡ Some y → IsFront IsItem b y
    named rest text f =
        let name = before is_stop rest in
        let tested = if_some (is_field_name name) (item.Field name, from is_stop rest) y f in
        let whole : b ≡ (codes "FIELD " ++ name) ++ from is_stop rest = text ∙ ap (λ t. codes "FIELD " ++ t) (parted is_stop rest) in
        subst (IsFront IsItem b) tested.1 (codes "FIELD " ++ name, (field_sound name tested.0, refl), whole)

    by_field : (r : Option (List ℕ)) → after (codes "FIELD ") b ≡ r → IsFront IsItem b y
    by_field (Some rest) is = named rest (after_is (codes "FIELD ") b rest is) (sym (rw is refl) ∙ e)
    by_field None is =
        let one = bind_some (plain_item (before is_stop b)) (λ one. Some (one, from is_stop b)) y (sym (rw is refl) ∙ e) in
        subst (IsFront IsItem b) (some_is (one.0, from is_stop b) y one.2) (before is_stop b, plain_sound (before is_stop b) one.0 one.1, parted is_stop b)
