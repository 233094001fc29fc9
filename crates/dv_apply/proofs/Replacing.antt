-- What is made ready takes its place.
use Rattle.std.proofs.Common.{◌≡◌, ◌↔◌, ◌⊎◌, inl, inr, Option, Some, None, ℕ, ◌+◌, ◌-◌, ◌≤◌, Bool, true, false, cond, List, [], ◌++◌, length, refl, sym, ◌∙◌, ap, subst, arith}
use Rattle.std.specs.Prelude.{All, Contains, IsSomeAnd, filter, not, take}
use Rattle.std.proofs.lemmas.List.Elements.{All-nil, filter_passes}
use Rattle.dv_model.specs.declared.types.Extension.{Extension}
use Rattle.dv_model.specs.declared.types.Mailbox.{Mailbox}
use Rattle.dv_model.specs.declared.types.Row.{Row}
use Rattle.dv_model.specs.Fresh.{IsTouched}
use Rattle.dv_rows.proofs.TwoParts.{same_parts}
use Rattle.dv_rows.specs.Kept.{AreRows}
use Rattle.dv_rows.specs.Parted.{is_parted}
use Rattle.dv_apply.specs.declared.share.Way.{Way}
use Rattle.dv_apply.specs.declared.share.Way.TheVariants as way
use Rattle.dv_apply.specs.Preparing.{Makes, Part, PutsShare, alone, touched_of}
use Rattle.dv_apply.specs.States.{Held, blank_parts}

-- the rows whose UIDs pass, and the others, tell all rows
pub rows_are : (live : Held) (p : Part) (after : Mailbox) (new : List Row) (uids : List ℕ) → PutsShare live p after → AreRows new → uids ≡ p.uids
    → filter (λ row. is_parted uids live.mailbox.next_uid row.uid) new ≡ p.share.rows.rows
    → filter (λ row. not (is_parted uids live.mailbox.next_uid row.uid)) new ≡ filter (λ row. not (is_parted uids live.mailbox.next_uid row.uid)) live.mailbox.rows
    → new ≡ after.rows
rows_are live p after new uids makes are same part others =
    let test : List ℕ → ℕ → Bool = λ us. is_parted us live.mailbox.next_uid in
    same_parts (test p.uids) new after.rows are.rising makes.valid.rising
    (ap (λ (us : List ℕ). filter (λ (row : Row). test us row.uid) new) (sym same) ∙ part ∙ sym (ap (λ (m : Mailbox). m.rows) makes.portion))
    (ap (λ (us : List ℕ). filter (λ (row : Row). not (test us row.uid)) new) (sym same) ∙ others ∙ ap (λ (us : List ℕ). filter (λ (row : Row). not (test us row.uid)) live.mailbox.rows) same ∙ sym makes.rest)

pub mailbox_is : (live : Held) (p : Part) (after : Mailbox) (new : List Row) (names : List (List ℕ)) → PutsShare live p after → new ≡ after.rows → names ≡ live.mailbox.keywords ++ take p.share.names live.hidden
    → record (alone names p.share) { rows = new } ≡ after
mailbox_is live p after new names makes rows named =
    ap (λ (rs : List Row). record (alone names p.share) { rows = rs }) rows ∙ ap (λ (ns : List (List ℕ)). record (alone ns p.share) { rows = after.rows }) named
    ∙ sym (ap (λ (m : Mailbox). record m { rows = after.rows }) makes.portion)

pub parted_pass : (live : Held) (p : Part) (after : Mailbox) (uids : List ℕ) → PutsShare live p after → uids ≡ p.uids → All (λ row. is_parted uids live.mailbox.next_uid row.uid ≡ true) p.share.rows.rows
parted_pass live p after uids makes same =
    subst (λ (us : List ℕ). All (λ (row : Row). is_parted us live.mailbox.next_uid row.uid ≡ true) p.share.rows.rows) (sym same)
    (subst (All (λ (row : Row). is_parted p.uids live.mailbox.next_uid row.uid ≡ true)) (ap (λ (m : Mailbox). m.rows) makes.portion) (filter_passes (λ (row : Row). is_parted p.uids live.mailbox.next_uid row.uid) after.rows))

-- ---- spare rows

pub record HasLeft (es : List Extension) (items : List (List (List ℕ))) (n space : ℕ) : Type 0 where
  pub blank : All (λ parts. parts ≡ blank_parts es) items
  pub blanks : n ≤ length items
  pub room : n ≤ space

pub has_left : (b : Bool) (es fs : List Extension) (items kept : List (List (List ℕ))) (spare appended n room before : ℕ) → All (λ parts. parts ≡ blank_parts es) items → spare ≤ length items → spare ≤ before
    → (b ≡ true → blank_parts fs ≡ blank_parts es) → kept ≡ cond b items [] → n ≡ cond b (spare - appended) 0 → before ≡ room + appended → HasLeft fs kept n room
has_left true es fs items kept spare appended n room before blank many rooms same is left used = record {
  blank = subst (λ (k : List (List (List ℕ))). All (λ parts. parts ≡ blank_parts fs) k) (sym is) (subst (λ (bs : List (List ℕ)). All (λ parts. parts ≡ bs) items) (sym (same refl)) blank);
  blanks = let long : length kept ≡ length items = ap length is in omega arith;
  room = omega arith;
}
has_left false es fs items kept spare appended n room before blank many rooms same is left used = record {
  blank = subst (λ (k : List (List (List ℕ))). All (λ parts. parts ≡ blank_parts fs) k) (sym is) (All-nil (λ (parts : List (List ℕ)). parts ≡ blank_parts fs));
  blanks = omega arith;
  room = omega arith;
}

-- ---- touched UIDs

pub made_touched : (live : Held) (w : Way) (after : Mailbox) (uid : ℕ) → Makes live w after → Contains (touched_of w) uid ↔ IsTouched live.mailbox after uid
made_touched live (way.Share made) after uid makes = makes.touched uid
made_touched live (way.Records light) after uid makes = makes.touched uid

-- those that were made ready are those of the mailbox that is shown
pub way_touched : (o : Option Mailbox) (old new : Mailbox) (live : Held) (w : Way) (uid : ℕ) → IsSomeAnd o (Makes live w) → ((after : Mailbox) → Makes live w after → new ≡ after) → live.mailbox ≡ old
    → Contains (touched_of w) uid ↔ IsTouched old new uid
way_touched None old new live w uid makes is same = absurd makes
way_touched (Some after) old new live w uid makes is same =
    subst (λ (m : Mailbox). Contains (touched_of w) uid ↔ IsTouched m new uid) same (subst (λ (m : Mailbox). Contains (touched_of w) uid ↔ IsTouched live.mailbox m uid) (sym (is after makes)) (made_touched live w after uid makes))

pub either_touched : (A B C D : Type 0) → A ↔ (B ⊎ C) → C ↔ D → A ↔ (B ⊎ D)
either_touched A B C D one two = (λ a. forth (one.0 a), λ e. one.1 (back e))
  where
    forth : B ⊎ C → B ⊎ D
    forth (inl b) = inl b
    forth (inr c) = inr (two.0 c)

    back : B ⊎ D → B ⊎ C
    back (inl b) = inl b
    back (inr d) = inr (two.1 d)
