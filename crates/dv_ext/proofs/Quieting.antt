-- An introduction that leaves the extensions as they are.
use Rattle.std.proofs.Common.{◌≡◌, ℕ, zero, suc, ◌-◌, Bool, true, false, cond, not, ◌&&◌, ◌||◌, List, [], ◌∷◌, ◌++◌, Option, None, Some, length, max, replicate, slice_get, nat_eq, nat_le, nat_lt, refl, ap, sym, ◌∙◌, arith}
use Rattle.std.specs.List.{list_all}
use Rattle.std.specs.Prelude.{fold, map}
use Rattle.std.proofs.lemmas.Bool.{leb-true}
use Rattle.std.proofs.lemmas.Bool.Decides.{nat_tests}
use Rattle.std.proofs.lemmas.List.{append-nil}
use Rattle.dv_model.specs.declared.types.Extension.{Extension}
use Rattle.dv_model.specs.declared.types.Intro.{Intro}
use Rattle.dv_model.specs.declared.types.Mailbox.{Mailbox}
use Rattle.dv_model.specs.Effects.{fit, grown_extension, grown_to, introduced, may_be_added, new_extension, reintroduced, with_intro, with_item, with_row_parts, without_current}
use Rattle.dv_model.specs.Mailboxes.{empty_mailbox}
use Rattle.dv_ext.specs.declared.change.PartsChange.TheVariants.{Same}
use Rattle.dv_ext.specs.Changes.{Does}
use Rattle.dv_ext.specs.Quiet.{is_quiet, is_quiet_at}
use Rattle.dv_ext.specs.Sizes.{extensions_behind, leave_parts, sizes_of}
use Rattle.dv_ext.specs.Tables.{Table, with_table}
use Rattle.dv_ext.proofs.Doing.{grown_does}
use Rattle.dv_ext.proofs.Kept.{and_left, and_right}
use Rattle.dv_ext.proofs.Sizing.{sizes_test}

sizes_by : (a b c : Bool) → a ≡ true → b ≡ true → (not (a && b) || c) ≡ true → c ≡ true
sizes_by true true c p q e = e
sizes_by true false c p q e = absurd cc
sizes_by false b c p q e = absurd cc

no_larger : (a b : ℕ) → nat_le b a ≡ true → nat_lt a b ≡ false
no_larger a b e = grind (arith, nat_tests)

-- an extension that is as large stays
same_extension : (e : Extension) (intro : Intro) → nat_le intro.hdr_size (length e.header) ≡ true → nat_le intro.record_size e.record_size ≡ true → grown_extension intro e ≡ e
same_extension e intro header size =
    let none : intro.hdr_size - length e.header ≡ 0 = let h = leb-true intro.hdr_size (length e.header) header in omega arith in
    let most : max e.record_size intro.record_size ≡ e.record_size = let h = leb-true intro.record_size e.record_size size in omega arith in
    ap (λ (n : ℕ). record e { header = e.header ++ replicate n 0; record_size = max e.record_size intro.record_size }) none
    ∙ ap (λ (h : List ℕ). record e { header = h; record_size = max e.record_size intro.record_size }) (append-nil e.header) ∙ ap (λ (n : ℕ). record e { record_size = n }) most

item_stays : {X : Type 0} (change : X → X) (xs : List X) (k : ℕ) (x : X) → slice_get xs k ≡ Some x → change x ≡ x → with_item k change xs ≡ xs
item_stays change [] k x e same = refl
item_stays change (y ∷ xs) zero x e same = let is : y ≡ x = cc in ap (λ z. z ∷ xs) (ap change is ∙ same ∙ sym is)
item_stays change (y ∷ xs) (suc k) x e same = ap (λ ys. y ∷ ys) (item_stays change xs k x e same)

at_place : (m : Mailbox) (k : ℕ) (e : Extension) (intro : Intro) → introduced m.extensions intro ≡ Some k → slice_get m.extensions k ≡ Some e → with_intro m intro ≡ reintroduced m k e intro
at_place m k e intro place there = rw (place, there) refl

quiet_at : (es : List Extension) (k : ℕ) (e : Extension) (intro : Intro) → introduced es intro ≡ Some k → slice_get es k ≡ Some e → is_quiet es intro ≡ true → is_quiet_at es k intro e ≡ true
quiet_at es k e intro place there quiet = rw (place, there) at quiet

pub quiet_does : (t : Table) (k : ℕ) (e : Extension) (intro : Intro) → introduced t.extensions intro ≡ Some k → slice_get t.extensions k ≡ Some e → nat_eq e.reset_id intro.reset_id ≡ true
    → fit (with_item k (grown_extension intro) t.extensions) ≡ true → is_quiet t.extensions intro ≡ true
    → Does (λ m. with_intro m intro) t (record { extensions = t.extensions; current = Some (record { extension = k; size = intro.record_size }) }) Same
quiet_does t k e intro place there same fits quiet m valid =
    let sizes = sizes_by (nat_eq e.reset_id intro.reset_id) (fit (with_item k (grown_extension intro) t.extensions)) (nat_le intro.hdr_size (length e.header) && nat_le intro.record_size e.record_size) same fits (quiet_at t.extensions k e intro place there quiet) in
    let header = and_left (nat_le intro.hdr_size (length e.header)) (nat_le intro.record_size e.record_size) sizes in
    let size = and_right (nat_le intro.hdr_size (length e.header)) (nat_le intro.record_size e.record_size) sizes in
    at_place (with_table t m) k e intro place there
    ∙ grown_does t k e intro false there same fits (sym (no_larger e.record_size intro.record_size size)) m valid
    ∙ ap (λ (es : List Extension). record m { extensions = es; current = Some (record { extension = k; size = intro.record_size }) }) (item_stays (grown_extension intro) t.extensions k e there (same_extension e intro header size))

-- ---- the extensions stay

either_keeps : (m n : Mailbox) (a b : Bool) → ((a ≡ true) → (b ≡ true) → n.extensions ≡ m.extensions) → (cond a (cond b n (without_current m)) (without_current m)).extensions ≡ m.extensions
either_keeps m n true true same = same refl refl
either_keeps m n true false same = refl
either_keeps m n false b same = refl

never_both : (a b : Bool) → not (a && b) ≡ true → a ≡ true → b ≡ true → ⊥
never_both true true e p q = absurd cc
never_both true false e p q = absurd cc
never_both false b e p q = absurd cc

keeps_at : (m : Mailbox) (intro : Intro) (k : ℕ) → introduced m.extensions intro ≡ Some k → (o : Option Extension) → slice_get m.extensions k ≡ o → is_quiet m.extensions intro ≡ true → (with_intro m intro).extensions ≡ m.extensions
keeps_at m intro k place None there quiet = rw (place, there) refl
keeps_at m intro k place (Some e) there quiet =
    let larger : Mailbox = record m {
      rows = map (with_row_parts (with_item k (grown_to intro.record_size))) m.rows;
      extensions = with_item k (grown_extension intro) m.extensions;
      current = Some (record { extension = k; size = intro.record_size });
    } in
    let tested = quiet_at m.extensions k e intro place there quiet in
    rw (place, there) (either_keeps m larger (nat_eq e.reset_id intro.reset_id) (fit (with_item k (grown_extension intro) m.extensions)) (λ same fits.
    let sizes = sizes_by (nat_eq e.reset_id intro.reset_id) (fit (with_item k (grown_extension intro) m.extensions)) (nat_le intro.hdr_size (length e.header) && nat_le intro.record_size e.record_size) same fits tested in
    let header = and_left (nat_le intro.hdr_size (length e.header)) (nat_le intro.record_size e.record_size) sizes in
    let size = and_right (nat_le intro.hdr_size (length e.header)) (nat_le intro.record_size e.record_size) sizes in
    item_stays (grown_extension intro) m.extensions k e there (same_extension e intro header size)))

keeps_by : (m : Mailbox) (intro : Intro) (o : Option ℕ) → introduced m.extensions intro ≡ o → is_quiet m.extensions intro ≡ true → (with_intro m intro).extensions ≡ m.extensions
keeps_by m intro None place quiet =
    let longer : Mailbox = record m {
      rows = map (with_row_parts (λ parts. parts ++ replicate intro.record_size 0 ∷ [])) m.rows;
      extensions = m.extensions ++ new_extension intro ∷ [];
      current = Some (record { extension = length m.extensions; size = intro.record_size });
    } in
    let tested : not (may_be_added intro && fit (m.extensions ++ new_extension intro ∷ [])) ≡ true = rw place at quiet in
    rw place (either_keeps m longer (may_be_added intro) (fit (m.extensions ++ new_extension intro ∷ [])) (λ may fits. absurd (never_both (may_be_added intro) (fit (m.extensions ++ new_extension intro ∷ [])) tested may fits)))
keeps_by m intro (Some k) place quiet = keeps_at m intro k place (slice_get m.extensions k) refl quiet

all_keep : (m : Mailbox) (intros : List Intro) → list_all (is_quiet m.extensions) intros ≡ true → (fold with_intro m intros).extensions ≡ m.extensions
all_keep m [] quiet = refl
all_keep m (intro ∷ intros) quiet =
    let first : (with_intro m intro).extensions ≡ m.extensions = keeps_by m intro (introduced m.extensions intro) refl (and_left (is_quiet m.extensions intro) (list_all (is_quiet m.extensions) intros) quiet) in
    let later = and_right (is_quiet m.extensions intro) (list_all (is_quiet m.extensions) intros) quiet in
    all_keep (with_intro m intro) intros (ap (λ (es : List Extension). list_all (is_quiet es) intros) first ∙ later) ∙ first

-- introductions that leave the extensions leave each row's parts
pub quiet_leaves : (es : List Extension) (intros : List Intro) → list_all (is_quiet es) intros ≡ true → leave_parts es intros ≡ true
quiet_leaves es intros quiet = sizes_test es (extensions_behind es intros) (sym (ap sizes_of (all_keep (record (empty_mailbox 1) { extensions = es }) intros quiet)))
