-- What is made ready of records is what they make of the mailbox.
use Rattle.std.proofs.Common.{◌≡◌, ◌≢◌, ◌⊎◌, inl, inr, ◌↔◌, ℕ, ◌<◌, ◌≤◌, Bool, true, false, List, ◌++◌, length, get_or, nat_eq, nat_le, Option, Some, None, refl, sym, ◌∙◌, ap, subst, arith}
use Rattle.std.proofs.lemmas.Bool.{false_from_ne_true, eqb-true, or_left, or_right, le-leb}
use Rattle.std.specs.Prelude.{All, Contains, IsSomeAnd, count_by, filter, find, map, not, option_map, take, Result, Ok, Err, IfOk}
use Rattle.std.proofs.lemmas.Bool.Decides.{nat_tests}
use Rattle.std.proofs.lemmas.List.{get_or_default}
use Rattle.std.proofs.lemmas.List.Elements.{All-contains_itself, All-filter, All-map, All-weaker, filter_passes}
use Rattle.std.proofs.lemmas.List.Folds.{Any-from_list_any, list_any_at}
use Rattle.dv_model.specs.declared.types.Body.{Body}
use Rattle.dv_model.specs.declared.types.Body.TheVariants.{Append}
use Rattle.dv_model.specs.declared.types.Mailbox.{Mailbox}
use Rattle.dv_model.specs.declared.types.Record.{Record}
use Rattle.dv_model.specs.declared.types.Row.{Row}
use Rattle.dv_model.specs.Effects.{applied}
use Rattle.dv_model.specs.Fresh.{IsTouched}
use Rattle.dv_model.specs.Mailboxes.{IsRowOf, IsValid}
use Rattle.dv_model.specs.Views.{shown}
use Rattle.dv_portion.proofs.Portioned.{records_portion}
use Rattle.dv_portion.proofs.Staying.{rest_stays}
use Rattle.dv_portion.specs.Portions.{AllSpare, HoldsNew, may_change, portion, rest, table_of}
use Rattle.dv_rows.proofs.Named.{has_at}
use Rattle.dv_rows.specs.Parted.{HasUid, is_among, is_parted}
use Rattle.dv_touched.proofs.Leaving.{contained, seen_filtered}
use Rattle.dv_touched.proofs.Told.{uid_found}
use Rattle.dv_touched.specs.Telling.{Differs, shown_in}
use Rattle.dv_validity.proofs.Records.{all_in_range_valid}
use Rattle.dv_validity.specs.Laws.{IsInRange}
use Rattle.dv_apply.proofs.Lending.{above, or_false}
use Rattle.dv_apply.specs.Bodies.{Refused, refused_row}
use Rattle.dv_apply.specs.Preparing.{AreChangeable, IsRefused, Part, PutsShare, alone}
use Rattle.dv_apply.specs.States.{Held}
use Rattle.dv_portion.specs.Surveys.{AreAllNamed}

-- ---- answers

pub if_ok : {A E : Type 0} (r : Result A E) (P Q : A → Type 0) → IfOk r P → ((x : A) → P x → Q x) → IfOk r Q
if_ok (Ok a) P Q is then = then a is
if_ok (Err e) P Q is then = is

-- what is touched among some UIDs, and among others that are those of rows but for some of the first
pub touched_in_either : {All Named Others Touched More OfRows Differing : Type 0} → All ↔ (Touched ⊎ More) → Touched ↔ (Named × Differing) → More ↔ (Others × Differing) → (Others → OfRows) → (OfRows → Named ⊎ Others) → All ↔ ((Named ⊎ OfRows) × Differing)
touched_in_either {All} {Named} {Others} {Touched} {More} {OfRows} {Differing} both touched more of_rows rest = (λ h. from (both.0 h), λ h. both.1 (either h.0 h.1))
  where
    from : Touched ⊎ More → (Named ⊎ OfRows) × Differing
    from (inl t) = let h = touched.0 t in (inl h.0, h.1)
    from (inr t) = let h = more.0 t in (inr (of_rows h.0), h.1)

    other : Named ⊎ Others → Differing → Touched ⊎ More
    other (inl n) d = inl (touched.1 (n, d))
    other (inr o) d = inr (more.1 (o, d))

    either : Named ⊎ OfRows → Differing → Touched ⊎ More
    either (inl n) d = inl (touched.1 (n, d))
    either (inr r) d = other (rest r) d

-- what refuses a record in a portion refuses it in the mailbox
refused_same : (test : ℕ → Bool) (n : Mailbox) (body : Body) → refused_row (portion test n) body ≡ refused_row n body
refused_same test n (Append rows) = refl
refused_same test n body = refl

whole_by : (test : ℕ → Bool) (n : Mailbox) (o : Option Mailbox) → option_map (portion test) o ≡ Some n → (k : Mailbox) × (o ≡ Some k) × (portion test k ≡ n)
whole_by test n None e = absurd cc
whole_by test n (Some k) e = let same : portion test k ≡ n = cc in (k, refl, same)

pub refused_whole : (test : ℕ → Bool) (m : Mailbox) (rs : List Record) (x : Refused) → HoldsNew test m.next_uid → IsRefused (portion test m) rs x → IsRefused m rs x
refused_whole test m rs x new (k, d, n, less, at, is) =
    let (whole, there, same) = whole_by test n (applied m (take k rs)) (sym (records_portion test m (take k rs) new) ∙ at) in
    (k, d, whole, less, there, sym (refused_same test whole (get_or rs k d).body) ∙ ap (λ (y : Mailbox). refused_row y (get_or rs k d).body) same ∙ is)

-- ---- UIDs that are among others

number_itself : (a b : ℕ) → a ≡ b → nat_eq b a ≡ true
number_itself a b e = grind (arith, nat_tests)

-- a UID in the list passes
pub among : (uids : List ℕ) (uid : ℕ) → Contains uids uid → is_among uids uid ≡ true
among uids uid (k, h, at) = list_any_at (nat_eq uid) uids k uid h (number_itself (get_or uids k uid) uid at)

-- and only such
pub among_only : (uids : List ℕ) (uid : ℕ) → is_among uids uid ≡ true → Contains uids uid
among_only uids uid e = let (k, x, h, at, same) = Any-from_list_any (nat_eq uid) uids e in (k, h, get_or_default uids k uid x h ∙ at ∙ sym (eqb-true uid x same))

pub holds_new : (uids : List ℕ) (bound : ℕ) → HoldsNew (is_parted uids bound) bound
holds_new uids bound uid h = or_right (is_among uids uid) (nat_le bound uid) (le-leb bound uid h)

has_row : (rows : List Row) (row : Row) (uid : ℕ) → Contains rows row → row.uid ≡ uid → HasUid rows uid
has_row rows row uid (k, h, at) same = subst (HasUid rows) (ap (λ (r : Row). r.uid) at ∙ same) (has_at rows k row h)

not_true : (b : Bool) → b ≡ true → not b ≡ true → ⊥
not_true true e f = absurd cc
not_true false e f = absurd cc

both_all : {X : Type 0} (P Q : X → Type 0) (xs : List X) → All P xs → All Q xs → All (λ x. P x × Q x) xs
both_all P Q xs one two k d h = (one k d h, two k d h)

-- the other rows may not be changed
pub all_spare : (m : Mailbox) (rs : List Record) (named uids : List ℕ) → AreAllNamed (length rs) m rs m.rows named → ((uid : ℕ) → Contains named uid → Contains uids uid) → AllSpare m rs (rest (is_parted uids m.next_uid) m.rows)
all_spare m rs named uids are kept k d n less at valid =
    let test : ℕ → Bool = is_parted uids m.next_uid in
    All-weaker (λ (row : Row). Contains m.rows row × (not (test row.uid) ≡ true)) (λ (row : Row). may_change (table_of n) (get_or rs k d).body row.uid ≡ false)
    (λ row (there, outside). false_from_ne_true (may_change (table_of n) (get_or rs k d).body row.uid)
    (λ may. not_true (test row.uid) (or_left (is_among uids row.uid) (nat_le m.next_uid row.uid) (among uids row.uid (kept row.uid (are k d n less less at row.uid (has_row m.rows row row.uid there refl) may)))) outside))
    (rest test m.rows)
    (both_all (Contains m.rows) (λ (row : Row). not (test row.uid) ≡ true) (rest test m.rows) (All-filter (λ (row : Row). not (test row.uid)) (Contains m.rows) m.rows (All-contains_itself m.rows)) (filter_passes (λ (row : Row). not (test row.uid)) m.rows))

-- ---- touched UIDs

-- for a UID that passes the portion differs where the mailbox does
pub alike_in : (m n : Mailbox) (uids : List ℕ) (behind : List Row) → behind ≡ filter (λ row. is_parted uids m.next_uid row.uid) n.rows → (uid : ℕ) → is_parted uids m.next_uid uid ≡ true → Differs m.rows behind uid ≡ IsTouched m n uid
alike_in m n uids behind second uid passes =
    let test : ℕ → Bool = is_parted uids m.next_uid in
    ap (λ (rows : List Row). Differs m.rows rows uid) second
    ∙ ap (λ s. shown_in m.rows uid ≢ s) (sym (seen_filtered uid (λ (row : Row). test row.uid) (λ row e. ap test e ∙ passes) n.rows))

module _ (m n : Mailbox) (uids : List ℕ) (behind : List Row) (valid : IsValid m)
    (second : behind ≡ filter (λ row. is_parted uids m.next_uid row.uid) n.rows)
    (others : rest (is_parted uids m.next_uid) n.rows ≡ rest (is_parted uids m.next_uid) m.rows) where
  abbrev test : ℕ → Bool
  test = is_parted uids m.next_uid

  alike : (uid : ℕ) → test uid ≡ true → Differs m.rows behind uid ≡ IsTouched m n uid
  alike uid passes = alike_in m n uids behind second uid passes

  -- for another they don't
  untouched : (uid : ℕ) → test uid ≡ false → IsTouched m n uid → ⊥
  untouched uid fails touched =
      touched
      (seen_filtered uid (λ (row : Row). not (test row.uid)) (λ row e. ap not (ap test e ∙ fails)) m.rows
      ∙ ap (λ (rows : List Row). shown_in rows uid) (sym others)
      ∙ sym (seen_filtered uid (λ (row : Row). not (test row.uid)) (λ row e. ap not (ap test e ∙ fails)) n.rows))

  behind_passes : (uid : ℕ) → HasUid behind uid → test uid ≡ true
  behind_passes uid (k, h, at) =
      let each : All (λ u. test u ≡ true) (map (λ (row : Row). row.uid) behind) = All-map (λ u. test u ≡ true) (λ (row : Row). row.uid) behind (subst (All (λ (row : Row). test row.uid ≡ true)) (sym second) (filter_passes (λ (row : Row). test row.uid) n.rows)) in
      ap test (sym at) ∙ each k uid h

  passes_by : (uid : ℕ) → Contains uids uid ⊎ HasUid behind uid → test uid ≡ true
  passes_by uid (inl is) = or_left (is_among uids uid) (nat_le m.next_uid uid) (among uids uid is)
  passes_by uid (inr is) = behind_passes uid is

  -- one of them has a row of it
  found_by : (uid : ℕ) → test uid ≡ true → Differs m.rows behind uid → (o p : Option Row) → find (λ row. nat_eq row.uid uid) m.rows ≡ o → find (λ row. nat_eq row.uid uid) behind ≡ p → Contains uids uid ⊎ HasUid behind uid
  found_by uid passes differs None None e f = absurd (differs (ap (option_map shown) (e ∙ sym f)))
  found_by uid passes differs o (Some row) e f = inr (has_row behind row uid (contained uid behind row f) (uid_found uid behind row f))
  found_by uid passes differs (Some row) None e f =
      let (k, h, at) = contained uid m.rows row e in
      let is : IsRowOf m (get_or m.rows k row) = valid.rows k row h in
      let same : (get_or m.rows k row).uid ≡ uid = ap (λ (r : Row). r.uid) at ∙ uid_found uid m.rows row e in
      let low : uid < m.next_uid = omega (arith, is.uid.1, same) in
      inl (among_only uids uid (or_false (is_among uids uid) (nat_le m.next_uid uid) (above m.next_uid uid low) ∙ passes))

  touched_by : (uid : ℕ) → IsTouched m n uid → (b : Bool) → test uid ≡ b → (Contains uids uid ⊎ HasUid behind uid) × Differs m.rows behind uid
  touched_by uid touched false e = absurd (untouched uid e touched)
  touched_by uid touched true e =
      let differs : Differs m.rows behind uid = subst (λ (T : Type 0). T) (sym (alike uid e)) touched in
      (found_by uid e differs (find (λ row. nat_eq row.uid uid) m.rows) (find (λ row. nat_eq row.uid uid) behind) refl refl, differs)

  pub touched_are : (uid : ℕ) → ((Contains uids uid ⊎ HasUid behind uid) × Differs m.rows behind uid) ↔ IsTouched m n uid
  touched_are uid = (λ (either, differs). subst (λ (T : Type 0). T) (alike uid (passes_by uid either)) differs, λ touched. touched_by uid touched (test uid) refl)

-- ---- all together

touched_both : (A B C : Type 0) → A ↔ B → B ↔ C → A ↔ C
touched_both A B C one two = (λ a. two.0 (one.0 a), λ c. one.1 (two.1 c))

pub all_named : (rows : List Row) (named uids : List ℕ) → ((uid : ℕ) → Contains uids uid → Contains named uid) → All (HasUid rows) named → All (HasUid rows) uids
all_named rows named uids back each =
    All-weaker (Contains uids) (HasUid rows) (λ uid h. let (k, less, at) = back uid h in subst (HasUid rows) at (each k uid less)) uids (All-contains_itself uids)

-- what was found of the group before and behind
pub record IsFound (m : Mailbox) (rs : List Record) (spare : ℕ) (hidden : List (List ℕ)) (p : Part) : Type 0 where
  pub valid : IsValid m
  pub range : All (λ r. IsInRange r.body) rs
  pub uids : AreChangeable m rs p.uids
  pub names : p.share.names ≤ length hidden
  pub applied : applied (portion (is_parted p.uids m.next_uid) m) rs ≡ Some (alone (m.keywords ++ take p.share.names hidden) p.share)
  pub appended : count_by (λ row. nat_le m.next_uid row.uid) p.share.rows.rows ≡ p.appended
  pub spare_is : p.appended ≤ spare
  pub touched : (uid : ℕ) → Contains p.touched uid ↔ ((Contains p.uids uid ⊎ HasUid p.share.rows.rows uid) × Differs m.rows p.share.rows.rows uid)

makes_by : (m n : Mailbox) (rs : List Record) (spare : ℕ) (hidden : List (List ℕ)) (p : Part) → IsFound m rs spare hidden p
    → applied m rs ≡ Some n → portion (is_parted p.uids m.next_uid) n ≡ alone (m.keywords ++ take p.share.names hidden) p.share → PutsShare (record { mailbox = m; spare = spare; hidden = hidden }) p n
makes_by m n rs spare hidden p is e same =
    let test : ℕ → Bool = is_parted p.uids m.next_uid in
    let new : HoldsNew test m.next_uid = holds_new p.uids m.next_uid in
    let others : rest test n.rows ≡ rest test m.rows = rest_stays test m n rs is.valid is.range new (all_spare m rs p.uids p.uids (is.uids.named is.range) (λ uid h. h)) e in
    record {
      valid = all_in_range_valid m n rs is.valid is.range e;
      rising = is.uids.rising;
      named = is.uids.only;
      names = is.names;
      portion = same;
      rest = others;
      appended = is.appended;
      spare = is.spare_is;
      touched = λ uid.
          touched_both (Contains p.touched uid) ((Contains p.uids uid ⊎ HasUid p.share.rows.rows uid) × Differs m.rows p.share.rows.rows uid) (IsTouched m n uid) (is.touched uid)
          (touched_are m n p.uids p.share.rows.rows is.valid (sym (ap (λ (x : Mailbox). x.rows) same)) others uid);
    }

some_by : (m : Mailbox) (rs : List Record) (spare : ℕ) (hidden : List (List ℕ)) (p : Part) → IsFound m rs spare hidden p
    → (o : Option Mailbox) → applied m rs ≡ o → option_map (portion (is_parted p.uids m.next_uid)) o ≡ Some (alone (m.keywords ++ take p.share.names hidden) p.share)
    → IsSomeAnd o (PutsShare (record { mailbox = m; spare = spare; hidden = hidden }) p)
some_by m rs spare hidden p is None at e = absurd cc
some_by m rs spare hidden p is (Some n) at e = let same : portion (is_parted p.uids m.next_uid) n ≡ alone (m.keywords ++ take p.share.names hidden) p.share = cc in makes_by m n rs spare hidden p is at same

pub ready : (m : Mailbox) (rs : List Record) (live : Held) (p : Part) → IsFound m rs live.spare live.hidden p → live.mailbox ≡ m → IsSomeAnd (applied m rs) (PutsShare live p)
ready m rs live p is same =
    subst (λ (x : Mailbox). IsSomeAnd (applied m rs) (PutsShare (record { mailbox = x; spare = live.spare; hidden = live.hidden }) p)) (sym same)
    (some_by m rs live.spare live.hidden p is (applied m rs) refl (sym (records_portion (is_parted p.uids m.next_uid) m rs (holds_new p.uids m.next_uid)) ∙ is.applied))
