-- UIDs that are found, with verdicts on some of them.
use Rattle.std.proofs.Common.{◌≡◌, ℕ, zero, suc, ◌+◌, ◌<◌, ◌≤◌, Bool, true, false, cond, ◌||◌, List, [], ◌∷◌, ◌++◌, map, refl, sym, ap, subst, ◌∙◌, arith, append_assoc, drop, drop-cons, get_or, length, take}
use Rattle.std.specs.Prelude.{nat_eq, nat_lt}
use Rattle.std.specs.List.{AllByRecursion}
use Rattle.std.proofs.lemmas.Bool.{eqb-true, le-ltb, lt-ltb, ltb-false, ltb-true, ne_eqb}
use Rattle.std.proofs.lemmas.List.{append-nil, map-append, take_more}
use Rattle.dv_model.proofs.Clients.{each_append, each_weaker}
use Rattle.dv_live.specs.declared.verdicts.Verdict.{Verdict}
use Rattle.dv_live.specs.Turning.{RiseFrom, behind, has_uid, turned, where_met, with_verdict}
use Rattle.dv_live.proofs.Rising.{behind_rises, none_below, rise_lower}

abbrev pub uids_of : List Verdict → List ℕ
uids_of verdicts = map (λ (v : Verdict). v.uid) verdicts

-- ---- one verdict

pub front_skipped : (front rest : List ℕ) (v : Verdict) → AllByRecursion (λ u. u < v.uid) front → with_verdict (front ++ rest) v ≡ front ++ with_verdict rest v
front_skipped [] rest v low = refl
front_skipped (u ∷ front) rest v low = rw (lt-ltb u v.uid low.0) (ap (λ us. u ∷ us) (front_skipped front rest v low.1))

pub from_here : (us : List ℕ) (v : Verdict) → RiseFrom v.uid us → with_verdict us v ≡ where_met v ++ behind v.uid us
from_here [] v up = sym (append-nil (where_met v))
from_here (u ∷ us) v up = rw (le-ltb u v.uid up.0) refl

met_below : (v : Verdict) → AllByRecursion (λ u. u < v.uid + 1) (where_met v)
met_below v = by_met v.met
  where
    by_met : (b : Bool) → AllByRecursion (λ u. u < v.uid + 1) (cond b (v.uid ∷ []) [])
    by_met true = (omega arith, tt)
    by_met false = tt

-- a verdict that is so already changes nothing
with_same : (n : ℕ) (us : List ℕ) (v : Verdict) → RiseFrom n us → v.met ≡ has_uid us v.uid → with_verdict us v ≡ us
with_same n [] v up e = rw e refl
with_same n (u ∷ us) v up e = by_less (nat_lt u v.uid) refl (with_same (u + 1) us v up.1)
  where
    by_same : (b : Bool) → nat_eq u v.uid ≡ b → v.uid ≤ u → where_met v ++ cond b us (u ∷ us) ≡ u ∷ us
    by_same true t le =
        let met : v.met ≡ true = e ∙ ap (λ b. b || has_uid us v.uid) t in
        rw met (ap (λ w. w ∷ us) (sym (eqb-true u v.uid t)))
    by_same false t le =
        let out : v.met ≡ false = e ∙ ap (λ b. b || has_uid us v.uid) t ∙ none_below (u + 1) v.uid us up.1 (omega (arith, le)) in
        rw out refl

    by_less : (b : Bool) → nat_lt u v.uid ≡ b → (v.met ≡ has_uid us v.uid → with_verdict us v ≡ us)
        → cond b (u ∷ with_verdict us v) (where_met v ++ cond (nat_eq u v.uid) us (u ∷ us)) ≡ u ∷ us
    by_less true t rest =
        let less : u < v.uid = ltb-true u v.uid t in
        ap (λ x. u ∷ x) (rest (e ∙ ap (λ b. b || has_uid us v.uid) (ne_eqb u v.uid (λ f. omega (arith, less, f)))))
    by_less false t rest = by_same (nat_eq u v.uid) refl (ltb-false u v.uid t)

met_rises : (n : ℕ) (v : Verdict) (us : List ℕ) → n ≤ v.uid → RiseFrom (v.uid + 1) us → RiseFrom n (where_met v ++ us)
met_rises n v us le up = by_met v.met
  where
    by_met : (b : Bool) → RiseFrom n (cond b (v.uid ∷ []) [] ++ us)
    by_met true = (le, up)
    by_met false = rise_lower n (v.uid + 1) us (omega (arith, le)) up

with_rises : (n : ℕ) (us : List ℕ) (v : Verdict) → RiseFrom n us → n ≤ v.uid → RiseFrom n (with_verdict us v)
with_rises n [] v up le = subst (RiseFrom n) (append-nil (where_met v)) (met_rises n v [] le tt)
with_rises n (u ∷ us) v up le = by_less (nat_lt u v.uid) refl (with_rises (u + 1) us v up.1)
  where
    by_less : (b : Bool) → nat_lt u v.uid ≡ b → (u + 1 ≤ v.uid → RiseFrom (u + 1) (with_verdict us v))
        → RiseFrom n (cond b (u ∷ with_verdict us v) (where_met v ++ behind v.uid (u ∷ us)))
    by_less true t rest = let less : u < v.uid = ltb-true u v.uid t in (up.0, rest (omega (arith, less)))
    by_less false t rest = met_rises n v (behind v.uid (u ∷ us)) le (behind_rises v.uid (u ∷ us) (ltb-false u v.uid t, up.1))

-- ---- all verdicts

front_stays : (front rest : List ℕ) (vs : List Verdict) (n : ℕ) → AllByRecursion (λ u. u < n) front → RiseFrom n (uids_of vs) → turned (front ++ rest) vs ≡ front ++ turned rest vs
front_stays front rest [] n low up = refl
front_stays front rest (v ∷ vs) n low up =
    let more : n ≤ v.uid = up.0 in
    ap (λ us. turned us vs) (front_skipped front rest v (each_weaker (λ u. u < n) (λ u. u < v.uid) (λ u less. omega (arith, less, more)) front low))
    ∙ front_stays front (with_verdict rest v) vs (v.uid + 1) (each_weaker (λ u. u < n) (λ u. u < v.uid + 1) (λ u less. omega (arith, less, more)) front low) up.1

-- one verdict more is put behind what lies before its UID
pub turned_once : (front from : List ℕ) (v : Verdict) (vs : List Verdict) → AllByRecursion (λ u. u < v.uid) front → RiseFrom v.uid from → RiseFrom (v.uid + 1) (uids_of vs)
    → turned (front ++ from) (v ∷ vs) ≡ (front ++ where_met v) ++ turned (behind v.uid from) vs
turned_once front from v vs low up later =
    ap (λ us. turned us vs) (front_skipped front from v low ∙ ap (λ us. front ++ us) (from_here from v up) ∙ sym (append_assoc front (where_met v) (behind v.uid from)))
    ∙ front_stays (front ++ where_met v) (behind v.uid from) vs (v.uid + 1)
    (each_append (λ u. u < v.uid + 1) front (where_met v) (each_weaker (λ u. u < v.uid) (λ u. u < v.uid + 1) (λ u less. omega (arith, less)) front low) (met_below v)) later

pub turned_same : (us : List ℕ) (vs : List Verdict) → RiseFrom 0 us → AllByRecursion (λ (v : Verdict). v.met ≡ has_uid us v.uid) vs → turned us vs ≡ us
turned_same us [] up all = refl
turned_same us (v ∷ vs) up all = ap (λ xs. turned xs vs) (with_same 0 us v up all.0) ∙ turned_same us vs up all.1

pub turned_rises : (us : List ℕ) (vs : List Verdict) → RiseFrom 0 us → RiseFrom 0 (turned us vs)
turned_rises us [] up = up
turned_rises us (v ∷ vs) up = turned_rises (with_verdict us v) vs (with_rises 0 us v up (omega arith))

-- verdicts from a place on rise
pub rise_drop : (n i : ℕ) (us : List ℕ) → RiseFrom n us → RiseFrom n (drop i us)
rise_drop n zero us up = up
rise_drop n (suc i) [] up = tt
rise_drop n (suc i) (u ∷ us) up = rise_drop n i us (rise_lower n (u + 1) us (let more : n ≤ u = up.0 in omega (arith, more)) up.1)

-- behind a verdict the others rise from its UID on
pub rise_behind : (n i : ℕ) (vs : List Verdict) (d : Verdict) → RiseFrom n (uids_of vs) → i < length vs → RiseFrom ((get_or vs i d).uid + 1) (uids_of (drop (suc i) vs))
rise_behind n i [] d up less = absurd (omega (arith, less))
rise_behind n zero (v ∷ vs) d up less = up.1
rise_behind n (suc i) (v ∷ vs) d up less = rise_behind (v.uid + 1) i vs d up.1 (omega (arith, less))

-- what is added for one verdict
pub added : (made made_now front from rest left : List ℕ) (v : Verdict) (later : List Verdict) → rest ≡ front ++ from → AllByRecursion (λ u. u < v.uid) front → RiseFrom v.uid from
    → made_now ≡ (made ++ front) ++ where_met v → left ≡ behind v.uid from → RiseFrom (v.uid + 1) (uids_of later)
    → made ++ turned rest (v ∷ later) ≡ made_now ++ turned left later
added made made_now front from rest left v later parts low up is left_is above =
    ap (λ us. made ++ turned us (v ∷ later)) parts
    ∙ ap (λ us. made ++ us) (turned_once front from v later low up above)
    ∙ sym (append_assoc made (front ++ where_met v) (turned (behind v.uid from) later))
    ∙ ap (λ us. us ++ turned (behind v.uid from) later) (sym (append_assoc made front (where_met v)) ∙ sym is)
    ∙ ap (λ us. made_now ++ turned us later) (sym left_is)

-- no verdict
abbrev pub none : Verdict
none = record { uid = 0; met = false }

-- one verdict more, at a place
pub once_more : (made made_now rest left us : List ℕ) (vs : List Verdict) (i : ℕ) → i < length vs → RiseFrom 0 (uids_of vs)
    → ((later : List Verdict) → RiseFrom ((get_or vs i none).uid + 1) (uids_of later) → made ++ turned rest (get_or vs i none ∷ later) ≡ made_now ++ turned left later)
    → made ++ turned rest (drop i vs) ≡ turned us vs → made_now ++ turned left (drop (i + 1) vs) ≡ turned us vs
once_more made made_now rest left us vs i less up step so_far =
    let next : i + 1 ≡ suc i = omega arith in
    ap (λ k. made_now ++ turned left (drop k vs)) next
    ∙ sym (step (drop (suc i) vs) (rise_behind 0 i vs none up less))
    ∙ ap (λ ws. made ++ turned rest ws) (sym (drop-cons vs i none less))
    ∙ so_far

-- a verdict of this UID
abbrev pub verdict : ℕ → Bool → Verdict
verdict uid met = record { uid = uid; met = met }

pub same_verdict : (uid : ℕ) (a b : Bool) → a ≡ b → verdict uid a ≡ verdict uid b
same_verdict uid a b e = ap (verdict uid) e

-- what is made of one item more
pub map_more : {X Y : Type 0} (f : X → Y) (xs : List X) (i : ℕ) (x : X) → i < length xs → x ≡ get_or xs i x → map f (take (i + 1) xs) ≡ map f (take i xs) ++ f x ∷ []
map_more f xs i x less is = ap (map f) (take_more xs i x less) ∙ map-append f (take i xs) (get_or xs i x ∷ []) ∙ ap (λ y. map f (take i xs) ++ f y ∷ []) (sym is)
