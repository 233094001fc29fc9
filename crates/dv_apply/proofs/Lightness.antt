-- Records that take no memory: what they leave alone, and which UIDs they touch.
use Rattle.std.proofs.Common.{◌≡◌, ◌⊎◌, inl, inr, ◌↔◌, ℕ, zero, suc, ◌+◌, ◌<◌, min, Bool, true, List, [], ◌∷◌, ◌++◌, length, get_or, nat_le, Option, Some, None, refl, sym, ◌∙◌, ap, subst, arith}
use Rattle.std.specs.Prelude.{All, Contains, IsSomeAnd, Result, Ok, Err, OnOk, drop, filter, fold, take, option_map, if◌then◌else◌}
use Rattle.std.specs.List.Sorted.{IsStrictlyIncreasing}
use Rattle.std.proofs.lemmas.Bool.{or_left}
use Rattle.std.proofs.lemmas.List.{get_or-drop, get_or-take, length-drop, length-take}
use Rattle.std.proofs.lemmas.List.Elements.{All-cons, All-filter, All-head, All-map, All-nil, All-tail, All-weaker, Contains-append_cases, Contains-append_left, Contains-append_right, filter_passes}
use Rattle.std.proofs.lemmas.Option.{option_and_then_some}
use Rattle.dv_model.specs.declared.types.Body.{Body}
use Rattle.dv_model.specs.declared.types.Body.TheVariants.{Append, HeaderUpdate, KeywordUpdate, Expunge, ExpungeGuid, FlagUpdate, KeywordReset, ExtIntro, ExtReset, ExtHeaderUpdate, ExtRecordUpdate, Carried}
use Rattle.dv_model.specs.declared.types.Extension.{Extension}
use Rattle.dv_model.specs.declared.types.Mailbox.{Mailbox}
use Rattle.dv_model.specs.declared.types.NewRow.{NewRow}
use Rattle.dv_model.specs.declared.types.Part.{Part}
use Rattle.dv_model.specs.declared.types.Record.{Record}
use Rattle.dv_model.specs.declared.types.Row.{Row}
use Rattle.dv_model.specs.Effects.{after_record, applied, effect, is_in_guid_rows, is_in_pairs, is_request, on_current, with_change, with_higher, with_intro, with_reset, with_updates, without_uids}
use Rattle.dv_model.specs.Fresh.{IsTouched}
use Rattle.dv_model.specs.Mailboxes.{IsRowOf, IsValid}
use Rattle.dv_model.specs.Spelling.{IsRecord}
use Rattle.dv_ext.proofs.Quieting.{quiet_leaves}
use Rattle.dv_ext.proofs.Sizing.{behind_all, sizes_same}
use Rattle.dv_ext.specs.Sizes.{extensions_behind, sizes_of}
use Rattle.dv_portion.proofs.Portioned.{records_portion}
use Rattle.dv_portion.proofs.Staying.{rest_stays}
use Rattle.dv_portion.specs.Portions.{HoldsNew, portion, rest}
use Rattle.dv_rows.specs.Parted.{HasUid, is_among, is_parted}
use Rattle.dv_portion.specs.Surveys.{AreAllNamed}
use Rattle.dv_touched.specs.Telling.{Differs}
use Rattle.dv_validity.proofs.Records.{after_by, all_in_range_valid, by_some}
use Rattle.dv_validity.proofs.Rows.{fold_keeps_any}
use Rattle.dv_validity.specs.Laws.{IsInRange}
use Rattle.dv_apply.proofs.Extending.{reset_stays, updates_stay}
use Rattle.dv_apply.proofs.Lending.{above, or_false}
use Rattle.dv_apply.proofs.Readying.{alike_in, all_named, all_spare, among, among_only, holds_new, touched_are}
use Rattle.dv_apply.proofs.Testing.{plain_next, record_next}
use Rattle.dv_apply.specs.Answers.{OnBadAppend}
use Rattle.dv_apply.specs.declared.fault.ApplyFault.{ApplyFault}
use Rattle.dv_apply.specs.declared.fault.ApplyFault.TheVariants as fault
use Rattle.dv_apply.specs.declared.state.State.{State}
use Rattle.dv_apply.specs.States.{Becomes, Held}
use Rattle.dv_apply.specs.Bodies.{TakesNone, refused_row, spare_after}
use Rattle.dv_apply.specs.declared.share.Share.{Share}
use Rattle.dv_apply.specs.Preparing.{AppliesLight, AreChangeable, AreLight, IsLight, IsLightFirst, alone}

-- ---- a body

pub light_first : (es : List Extension) (body : Body) → IsLight body → IsLightFirst es body
light_first es (ExtIntro intros) is = absurd is
light_first es body is = is

pub light_takes_none : (es : List Extension) (n : ℕ) (body : Body) → IsLightFirst es body → TakesNone es n body
light_takes_none es n (Append rows) is = absurd is
light_takes_none es n (KeywordUpdate how name pairs) is = absurd is
light_takes_none es n (ExtIntro intros) is = is
light_takes_none es n body is = tt

pub light_accepted : (m : Mailbox) (es : List Extension) (body : Body) → IsLightFirst es body → refused_row m body ≡ None
light_accepted m es (Append rows) is = absurd is
light_accepted m es body is = refl

pub light_spare : (es : List Extension) (n : ℕ) (body : Body) → IsLightFirst es body → spare_after es n body ≡ n
light_spare es n (Append rows) is = absurd is
light_spare es n (ExtIntro intros) is = ap (λ b. if b then n else 0) (quiet_leaves es intros is)
light_spare es n body is = refl

light_range : (es : List Extension) (body : Body) → IsLightFirst es body → IsInRange body
light_range es (Append rows) is = absurd is
light_range es (HeaderUpdate parts) is = absurd is
light_range es (KeywordUpdate how name pairs) is = absurd is
light_range es body is = tt

pub light_in_range : (es : List Extension) (rs : List Record) → AreLight es rs → All (λ r. IsInRange r.body) rs
light_in_range es [] is = All-nil (λ (r : Record). IsInRange r.body)
light_in_range es (r ∷ rs) is =
    All-cons (λ (r : Record). IsInRange r.body) r rs (light_range es r.body is.0)
    (All-weaker (λ (r : Record). IsLight r.body) (λ (r : Record). IsInRange r.body) (λ later light. light_range es later.body (light_first es later.body light)) rs is.1)

-- what comes of it, by what a call answers
pub light_done : (r : Result (Unit {0}) ApplyFault) (m : Mailbox) (body : Body) → refused_row m body ≡ None → OnBadAppend r (λ refused. refused_row m body ≡ Some refused) → (r ≡ Err fault.NoMemory → ⊥) → r ≡ Ok tt
light_done (Ok tt) m body none bad memory = refl
light_done (Err (fault.BadAppend uid next_uid)) m body none bad memory = absurd cc
light_done (Err fault.NoMemory) m body none bad memory = absurd (memory refl)

pub light_kept : (r : Result (Unit {0}) ApplyFault) (old new : State) (body : Body) → OnOk r (Becomes old body new) → OnOk r (IsLightFirst old.extensions.extensions body → new.spare ≡ old.spare)
light_kept (Ok u) old new body becomes = λ light. becomes.spare ∙ light_spare old.extensions.extensions old.spare body light
light_kept (Err e) old new body becomes = tt

-- ---- the sizes of rows' parts

effect_sizes : (m n : Mailbox) (body : Body) → IsLightFirst m.extensions body → effect m body ≡ Some n → sizes_of n.extensions ≡ sizes_of m.extensions
effect_sizes m n (Expunge pairs) is e = by_some (λ k. sizes_of k.extensions ≡ sizes_of m.extensions) (without_uids (is_in_pairs pairs) m) n refl e
effect_sizes m n (ExpungeGuid rows) is e = by_some (λ k. sizes_of k.extensions ≡ sizes_of m.extensions) (without_uids (is_in_guid_rows rows) m) n refl e
effect_sizes m n (FlagUpdate changes) is e =
    by_some (λ k. sizes_of k.extensions ≡ sizes_of m.extensions) (fold with_change m changes) n
    (fold_keeps_any (λ (k : Mailbox). sizes_of k.extensions ≡ sizes_of m.extensions) with_change (λ k change same. same) m changes refl) e
effect_sizes m n (ExtIntro intros) is e =
    by_some (λ k. sizes_of k.extensions ≡ sizes_of m.extensions) (fold with_intro m intros) n
    (ap sizes_of (sym (behind_all m intros)) ∙ sym (sizes_same m.extensions (extensions_behind m.extensions intros) (quiet_leaves m.extensions intros is))) e
effect_sizes m n (ExtReset reset_id preserve) is e =
    by_some (λ k. sizes_of k.extensions ≡ sizes_of m.extensions) (on_current m (with_reset reset_id preserve m)) n (reset_stays m reset_id preserve) e
effect_sizes m n (ExtRecordUpdate bytes) is e =
    by_some (λ k. sizes_of k.extensions ≡ sizes_of m.extensions) (on_current m (with_updates bytes m)) n (updates_stay m bytes) e
effect_sizes m n (Append rows) is e = absurd is
effect_sizes m n (HeaderUpdate parts) is e = absurd is
effect_sizes m n (KeywordUpdate how name pairs) is e = absurd is
effect_sizes m n (KeywordReset pairs) is e = absurd is
effect_sizes m n (ExtHeaderUpdate parts) is e = absurd is
effect_sizes m n (Carried code bytes) is e = absurd is

pub record_sizes : (m n : Mailbox) (r : Record) → IsLightFirst m.extensions r.body → after_record m r ≡ Some n → sizes_of n.extensions ≡ sizes_of m.extensions
record_sizes m n r is e =
    after_by (λ k. sizes_of k.extensions ≡ sizes_of m.extensions) m n r refl (λ k done. effect_sizes (with_higher m) k r.body is done) (is_request r) e

-- ---- records in turn

-- each of them is light when its turn comes
pub light_at : (es now : List Extension) (rs : List Record) (i : ℕ) (d : Record) → AreLight es rs → i < length rs → (i ≡ 0 → now ≡ es) → IsLightFirst now (get_or rs i d).body
light_at es now [] i d is h same = absurd (omega arith)
light_at es now (r ∷ rs) zero d is h same = subst (λ (x : List Extension). IsLightFirst x r.body) (sym (same refl)) is.0
light_at es now (r ∷ rs) (suc i) d is h same = light_first now (get_or rs i d).body (is.1 i d (omega arith))

abbrev IsCalm : Record → Type 0
IsCalm r = ((rows : List NewRow) → r.body ≡ Append rows → ⊥) × ((parts : List Part) → r.body ≡ HeaderUpdate parts → ⊥)

calm : (es : List Extension) (r : Record) → IsLightFirst es r.body → IsCalm r
calm es r is = (λ rows e. subst (IsLightFirst es) e is, λ parts e. subst (IsLightFirst es) e is)

all_calm : (es : List Extension) (rs : List Record) → AreLight es rs → All IsCalm rs
all_calm es [] is = All-nil IsCalm
all_calm es (r ∷ rs) is =
    All-cons IsCalm r rs (calm es r is.0) (All-weaker (λ (later : Record). IsLight later.body) IsCalm (λ later light. calm es later (light_first es later.body light)) rs is.1)

one_next : (m n : Mailbox) (r : Record) → IsCalm r → after_record m r ≡ Some n → n.next_uid ≡ m.next_uid
one_next m n r is e =
    subst (λ (o : Option Mailbox). IsSomeAnd o (λ k. k.next_uid ≡ m.next_uid)) e (record_next m r m.next_uid (plain_next (with_higher m) m.next_uid r.body refl is.0 is.1))

calm_next : (m n : Mailbox) (rs : List Record) → All IsCalm rs → applied m rs ≡ Some n → n.next_uid ≡ m.next_uid
calm_next m n [] all e = by_some (λ k. k.next_uid ≡ m.next_uid) m n refl e
calm_next m n (r ∷ rs) all e =
    option_and_then_some (λ k. applied k rs) (after_record m r) n e
    (λ k first later. calm_next k n rs (All-tail IsCalm r rs all) later ∙ one_next m k r (All-head IsCalm r rs all) first)

-- no UID is given out
light_next : (es : List Extension) (m n : Mailbox) (rs : List Record) → AreLight es rs → applied m rs ≡ Some n → n.next_uid ≡ m.next_uid
light_next es m n rs is e = calm_next m n rs (all_calm es rs is) e

-- ---- touched UIDs

of_some : (test : ℕ → Bool) (after : Mailbox) (alone : Mailbox) (o : Option Mailbox) → o ≡ Some after → option_map (portion test) o ≡ Some alone → portion test after ≡ alone
of_some test after alone None e f = absurd cc
of_some test after alone (Some k) e f = let same : k ≡ after = cc in let is : portion test k ≡ alone = cc in ap (portion test) (sym same) ∙ is

both_told : (A B C D : Type 0) → (A ↔ (B × C)) → (B → C ≡ D) → A ↔ (B × D)
both_told A B C D told same =
    (λ a. let both = told.0 a in (both.0, subst (λ (T : Type 0). T) (same both.0) both.1), λ both. told.1 (both.0, subst (λ (T : Type 0). T) (sym (same both.0)) both.1))

-- those of a portion are those of the mailbox
pub touched_apart : (m after : Mailbox) (rs : List Record) (uids : List ℕ) (names : List (List ℕ)) (share : Share) (touched : List ℕ) (uid : ℕ)
    → applied (portion (is_parted uids m.next_uid) m) rs ≡ Some (alone names share) → applied m rs ≡ Some after
    → (Contains touched uid ↔ (Contains uids uid × Differs m.rows share.rows.rows uid)) → Contains touched uid ↔ (Contains uids uid × IsTouched m after uid)
touched_apart m after rs uids names share touched uid apart is told =
    let test : ℕ → Bool = is_parted uids m.next_uid in
    let parts : portion test after ≡ alone names share = of_some test after (alone names share) (applied m rs) is (sym (records_portion test m rs (holds_new uids m.next_uid)) ∙ apart) in
    both_told (Contains touched uid) (Contains uids uid) (Differs m.rows share.rows.rows uid) (IsTouched m after uid) told
    (λ there. alike_in m after uids share.rows.rows (sym (ap (λ (x : Mailbox). x.rows) parts)) uid (passes uid there))
  where
    passes : (u : ℕ) → Contains uids u → is_parted uids m.next_uid u ≡ true
    passes u there = or_left (is_among uids u) (nat_le m.next_uid u) (among uids u there)

-- a row behind them that may be changed has one of the UIDs, since none is new
named_behind : (m n : Mailbox) (uids : List ℕ) (uid : ℕ) → IsValid n → n.next_uid ≡ m.next_uid → HasUid (filter (λ row. is_parted uids m.next_uid row.uid) n.rows) uid → Contains uids uid
named_behind m n uids uid valid next (k, h, at) =
    let test : ℕ → Bool = is_parted uids m.next_uid in
    let behind : List Row = filter (λ row. test row.uid) n.rows in
    let low : uid < m.next_uid =
    subst (λ u. u < m.next_uid) at
    (All-map (λ u. u < m.next_uid) (λ (row : Row). row.uid) behind
    (All-filter (λ (row : Row). test row.uid) (λ (row : Row). row.uid < m.next_uid) n.rows (All-weaker (IsRowOf n) (λ (row : Row). row.uid < m.next_uid) (λ row is. subst (λ b. row.uid < b) next is.uid.1) n.rows valid.rows)) k uid h) in
    let passes : test uid ≡ true = ap test (sym at) ∙ All-map (λ u. test u ≡ true) (λ (row : Row). row.uid) behind (filter_passes (λ (row : Row). test row.uid) n.rows) k uid h in
    among_only uids uid (or_false (is_among uids uid) (nat_le m.next_uid uid) (above m.next_uid uid low) ∙ passes)

-- only UIDs of rows that may be changed are touched
pub touched_named : (m n : Mailbox) (rs : List Record) (uids : List ℕ) (uid : ℕ) → IsValid m → AreLight m.extensions rs → AreChangeable m rs uids → applied m rs ≡ Some n → IsTouched m n uid → Contains uids uid
touched_named m n rs uids uid valid light is e touched =
    let test : ℕ → Bool = is_parted uids m.next_uid in
    let range : All (λ r. IsInRange r.body) rs = light_in_range m.extensions rs light in
    let new : HoldsNew test m.next_uid = holds_new uids m.next_uid in
    let others : rest test n.rows ≡ rest test m.rows = rest_stays test m n rs valid range new (all_spare m rs uids uids (is.named range) (λ u h. h)) e in
    let behind : List Row = filter (λ row. test row.uid) n.rows in
    either_named m n uids uid (all_in_range_valid m n rs valid range e) (light_next m.extensions m n rs light e) ((touched_are m n uids behind valid refl others uid).1 touched).0
  where
    either_named : (m n : Mailbox) (uids : List ℕ) (uid : ℕ) → IsValid n → n.next_uid ≡ m.next_uid → Contains uids uid ⊎ HasUid (filter (λ row. is_parted uids m.next_uid row.uid) n.rows) uid → Contains uids uid
    either_named m n uids uid valid next (inl there) = there
    either_named m n uids uid valid next (inr there) = named_behind m n uids uid valid next there

-- ---- some UIDs after others

-- those that were found, and those of the UIDs to come
abbrev pub IsFoundSoFar : Type 0 → (found rest all : List ℕ) (uid : ℕ) → Type 0
IsFoundSoFar T found rest all uid = (Contains found uid ⊎ (Contains rest uid × T)) ↔ (Contains all uid × T)

none_found : (T : Type 0) (all : List ℕ) (uid : ℕ) → IsFoundSoFar T [] all all uid
none_found T all uid = (λ either. by either, λ both. inr both)
  where
    by : Contains [] uid ⊎ (Contains all uid × T) → Contains all uid × T
    by (inl (k, h, at)) = absurd (omega arith)
    by (inr both) = both

-- the first and the other ones of rising numbers rise
pub rises_first : (n : ℕ) (xs : List ℕ) → IsStrictlyIncreasing xs → IsStrictlyIncreasing (take n xs)
rises_first n xs rising k h =
    let counted : length (take n xs) ≡ min n (length xs) = length-take n xs in
    let short : k + 1 < n = omega (arith, counted, h) in
    let long : k + 1 < length xs = omega (arith, counted, h) in
    let one : get_or (take n xs) k 0 ≡ get_or xs k 0 = get_or-take n xs k 0 (omega arith) in
    let two : get_or (take n xs) (k + 1) 0 ≡ get_or xs (k + 1) 0 = get_or-take n xs (k + 1) 0 short in
    omega (arith, one, two, rising k long)

pub rises_later : (n : ℕ) (xs : List ℕ) → IsStrictlyIncreasing xs → IsStrictlyIncreasing (drop n xs)
rises_later n xs rising k h =
    let long : n + k + 1 < length xs = omega (arith, h, length-drop n xs) in
    let one : get_or (drop n xs) k 0 ≡ get_or xs (n + k) 0 = get_or-drop n xs k 0 in
    let two : get_or (drop n xs) (k + 1) 0 ≡ get_or xs (n + (k + 1)) 0 = get_or-drop n xs (k + 1) 0 in
    let same : get_or xs (n + (k + 1)) 0 ≡ get_or xs (n + k + 1) 0 = ap (λ i. get_or xs i 0) (omega arith) in
    omega (arith, one, two, same, rising (n + k) long)

pub found_first : (T : Type 0) (found all : List ℕ) (uid : ℕ) → found ≡ [] → IsFoundSoFar T found all all uid
found_first T found all uid none = subst (λ xs. IsFoundSoFar T xs all all uid) (sym none) (none_found T all uid)

pub found_more : (T : Type 0) (found more next some others rest all : List ℕ) (uid : ℕ) → rest ≡ some ++ others → (Contains more uid ↔ (Contains some uid × T)) → (Contains next uid ↔ (Contains found uid ⊎ Contains more uid))
    → IsFoundSoFar T found rest all uid → IsFoundSoFar T next others all uid
found_more T found more next some others rest all uid split told with before = (λ either. before.0 (forth either), λ both. back (before.1 both))
  where
    forth : Contains next uid ⊎ (Contains others uid × T) → Contains found uid ⊎ (Contains rest uid × T)
    forth (inl there) = by (with.0 there)
      where
        by : Contains found uid ⊎ Contains more uid → Contains found uid ⊎ (Contains rest uid × T)
        by (inl old) = inl old
        by (inr new) = let both = told.0 new in inr (subst (λ xs. Contains xs uid) (sym split) (Contains-append_left some others uid both.0), both.1)
    forth (inr (there, is)) = inr (subst (λ xs. Contains xs uid) (sym split) (Contains-append_right some others uid there), is)

    back : Contains found uid ⊎ (Contains rest uid × T) → Contains next uid ⊎ (Contains others uid × T)
    back (inl old) = inl (with.1 (inl old))
    back (inr (there, is)) = by (Contains-append_cases some others uid (subst (λ xs. Contains xs uid) split there))
      where
        by : Contains some uid ⊎ Contains others uid → Contains next uid ⊎ (Contains others uid × T)
        by (inl here) = inl (with.1 (inr (told.1 (here, is))))
        by (inr later) = inr (later, is)

pub found_all : (T : Type 0) (found rest all : List ℕ) (uid : ℕ) → rest ≡ [] → IsFoundSoFar T found rest all uid → Contains found uid ↔ (Contains all uid × T)
found_all T found rest all uid none is = (λ there. is.0 (inl there), λ both. by (is.1 both))
  where
    by : Contains found uid ⊎ (Contains rest uid × T) → Contains found uid
    by (inl there) = there
    by (inr (there, t)) = absurd (never (subst (λ xs. Contains xs uid) none there))
      where
        never : Contains [] uid → ⊥
        never (k, h, at) = omega arith

-- a slice that is empty
pub empty_of : (xs : List ℕ) → length xs ≡ 0 → xs ≡ []
empty_of [] e = refl
empty_of (x ∷ xs) e = absurd (omega (arith, e))

-- ---- what is found of the group

pub changeable : (m : Mailbox) (rs : List Record) (named uids : List ℕ) → (All (λ r. IsInRange r.body) rs → AreAllNamed (length rs) m rs m.rows named) → All (HasUid m.rows) named → IsStrictlyIncreasing uids
    → ((uid : ℕ) → Contains uids uid ↔ Contains named uid) → AreChangeable m rs uids
changeable m rs named uids each only rising same = record {
  rising = rising;
  only = all_named m.rows named uids (λ uid h. (same uid).0 h) only;
  named = λ range k d n less short at uid has may. (same uid).1 (each range k d n less short at uid has may);
}

-- copies of the records, and the UIDs that they touch
pub light_made : (m : Mailbox) (live : Held) (rs copied : List Record) (uids touched : List ℕ) (after : Mailbox) → IsValid m → AreLight m.extensions rs → AreChangeable m rs uids → All IsRecord rs → applied m rs ≡ Some after → copied ≡ rs → live.mailbox ≡ m
    → ((uid : ℕ) → Contains touched uid ↔ (Contains uids uid × IsTouched m after uid)) → AppliesLight live (record { records = copied; touched = touched }) after
light_made m live rs copied uids touched after valid light is each e same here told =
    subst (λ (cs : List Record). AppliesLight live (record { records = cs; touched = touched }) after) (sym same)
    (record {
      each = subst (λ (x : Mailbox). AreLight x.extensions rs) (sym here) light;
      records = each;
      gives = ap (λ (x : Mailbox). applied x rs) here ∙ e;
      touched = λ uid.
          subst (λ (x : Mailbox). Contains touched uid ↔ IsTouched x after uid) (sym here)
          ((λ there. ((told uid).0 there).1, λ is_touched. (told uid).1 (touched_named m after rs uids uid valid light is e is_touched, is_touched)));
    })
