-- What is read of a log behind the writes of a commit, and of its undoing.
use Rattle.std.proofs.Common.{◌≡◌, ◌⊎◌, inl, inr, ⊎_elim, ℕ, suc, ◌+◌, ◌-◌, ◌<◌, ◌≤◌, true, Some, List, [], ◌∷◌, ◌++◌, length, take, drop, min, lit<, add-zero, refl, sym, ◌∙◌, ap, subst, arith, length-append}
use Rattle.std.specs.List.{slice_index, flat_map}
use Rattle.std.proofs.lemmas.Bool.{cases_eq}
use Rattle.std.proofs.lemmas.List.{drop_more, get_or-take, get_or-drop, get_or-append-add, length-take, length-drop}
use Rattle.dv_model.specs.declared.types.Record.{Record}
use Rattle.dv_model.specs.Spelling.{is_closed, written}
use Rattle.dv_shelf.specs.declared.shelf.Name.TheVariants.{Log}
use Rattle.dv_shelf.specs.Crashes.{Only, Follows}
use Rattle.dv_shelf.specs.Folders.{Folder, contents, patched, ChangesOnly, TornFile}
use Rattle.dv_logfile.specs.Layout.{Begins, IsGroupText, IsLog, Spelled, closing, last_end, longest_log, bytes_at, header_text, log_text, log_end}
use Rattle.dv_logfile.specs.declared.header.LogHeader.{LogHeader}
use Rattle.dv_logfile.specs.declared.commit.Debt.TheVariants as debt
use Rattle.dv_logfile.specs.Gates.{KeepsFront, IsShut, IsStaged, IsOpen, IsBeforeOrAfter, AreLong, FromOneOf}
use Rattle.dv_logfile.specs.Reading.{IsAtRest, HasShutGate, HasGroup, Keeps, ReadsAs, ReadsWith, ReadsEither}
use Rattle.dv_logfile.proofs.Gate.{contents_of, keeps_none, staged_torn, patched_byte}
use Rattle.dv_logfile.proofs.Groups.{group_gate, group_some}
use Rattle.dv_logfile.proofs.Logs.{begins_kept, log_closed, log_grown, closed_by, spelling_of}

-- the byte at a place, and the bytes from it on
pub from_place : (e : ℕ) (log : List ℕ) → e < length log → drop e log ≡ slice_index log e ∷ drop (e + 1) log
from_place e log long = drop_more log e 0 long

pub shut_closed : (e : ℕ) (log : List ℕ) → HasShutGate e log → is_closed (drop e log) ≡ true
shut_closed e log shut = ap is_closed (from_place e log shut.0) ∙ closed_by (slice_index log e) (drop (e + 1) log) shut.1

-- the same single byte at a place
pub byte_same : (e : ℕ) (a b : List ℕ) → bytes_at e 1 a ≡ bytes_at e 1 b → slice_index a e ≡ slice_index b e
byte_same e a b same = byte a ∙ ap (λ (l : List ℕ). slice_index l 0) same ∙ sym (byte b)
  where
    byte : (l : List ℕ) → slice_index l e ≡ slice_index (bytes_at e 1 l) 0
    byte l = sym (get_or-take 1 (drop e l) 0 0 (lit< tt) ∙ get_or-drop e l 0 0 ∙ ap (λ (k : ℕ). slice_index l k) (add-zero e))

pub byte_front : (e : ℕ) (l : List ℕ) → slice_index l e ≡ slice_index (drop e l) 0
byte_front e l = sym (get_or-drop e l 0 0 ∙ ap (λ (k : ℕ). slice_index l k) (add-zero e))

-- behind an open gate stands the whole text
pub group_open : (e : ℕ) (text log : List ℕ) → 1 ≤ length text → text ≡ 128 ∷ drop 1 text → HasGroup e text log → slice_index log e ≡ 128 → bytes_at e (length text) log ≡ text
group_open e text log some first group is =
    let n : length text ≡ suc (length text - 1) = omega arith in
    ap (λ (k : ℕ). take k (drop e log)) n ∙ ap (λ (l : List ℕ). take (suc (length text - 1)) l) (from_place e log group.0) ∙ ap (λ (x : ℕ). x ∷ bytes_at (e + 1) (length text - 1) log) is
    ∙ ap (λ (l : List ℕ). 128 ∷ l) group.1 ∙ sym first

-- behind the text's group the gate is shut
pub group_shut : (e end : ℕ) (front log : List ℕ) → bytes_at e (length (front ++ closing)) log ≡ front ++ closing → end ≡ e + length front → HasShutGate end log
group_shut e end front log there end-is =
    let n = length (front ++ closing) in
    let long : n ≡ length front + 4 = length-append front closing in
    let has : min n (length log - e) ≡ n = sym (length-take n (drop e log) ∙ ap (λ (k : ℕ). min n k) (length-drop e log)) ∙ ap length there in
    let byte : slice_index log end ≡ 0 =
    ap (λ (k : ℕ). slice_index log k) end-is ∙ sym (get_or-drop e log (length front) 0) ∙ sym (get_or-take n (drop e log) (length front) 0 (omega (arith, long))) ∙ ap (λ (l : List ℕ). slice_index l (length front)) there
    ∙ ap (λ (k : ℕ). slice_index (front ++ closing) k) (sym (add-zero (length front))) ∙ get_or-append-add front closing 0 0 in
    (omega (arith, has, long, end-is), λ is. cc)

module _ (d c : Folder) (e most : ℕ) (kept : KeepsFront d e most c) (fits : most ≤ longest_log) where
  pub front_keeps : Keeps e d c
  front_keeps = record {
    front = λ h rs begun. begins_kept h rs e (contents d Log) begun (contents c Log) (ap (λ (l : List ℕ). take e l) (contents_of c kept.log kept.is) ∙ kept.front)
        (omega (arith, ap length (contents_of c kept.log kept.is), kept.no_shorter)) (omega (arith, ap length (contents_of c kept.log kept.is), kept.no_longer, begun.header.fits));
    others = kept.others;
  }

  -- with the gate shut
  pub reads_as : HasShutGate e (contents c Log) → ReadsAs e d c
  reads_as shut = record {
    keeps = front_keeps;
    log = λ h rs begun. log_closed h rs e (contents c Log) (front_keeps.front h rs begun) (shut_closed e (contents c Log) shut);
  }

  -- with the group at e
  pub reads_with : (text : List ℕ) → e + length text ≤ longest_log → bytes_at e (length text) (contents c Log) ≡ text → ReadsWith e text d c
  reads_with text room there = record {
    keeps = front_keeps;
    log = λ h rs gs end begun group end-is. log_grown h rs gs e end (contents c Log) text (front_keeps.front h rs begun) group there end-is (omega (arith, end-is));
  }

-- ---- after the writes of a commit

module _ (d c : Folder) (e : ℕ) (text : List ℕ) where
  pub shut_stays : IsShut d e text c → HasShutGate e (contents d Log) → HasShutGate e (contents c Log)
  shut_stays step shut =
      let is = contents_of c step.kept.log step.kept.is in
      let same : slice_index (contents c Log) e ≡ slice_index (contents d Log) e = ap (λ (l : List ℕ). slice_index l e) is ∙ byte_same e step.kept.log (contents d Log) step.gate in
      (omega (arith, ap length is, step.kept.no_shorter, shut.0), λ open'. shut.1 (sym same ∙ open'))

  pub group_stays : IsStaged d e text c → e < length (contents d Log) → HasGroup e text (contents c Log)
  group_stays step long =
      let is = contents_of c step.kept.log step.kept.is in
      (omega (arith, ap length is, step.kept.no_shorter, long), ap (λ (l : List ℕ). bytes_at (e + 1) (length text - 1) l) is ∙ step.group)

module _ (d c : Folder) (e : ℕ) (text : List ℕ) (room : e + length text ≤ longest_log) where
  pub reads_shut : IsShut d e text c → HasShutGate e (contents d Log) → ReadsAs e d c
  reads_shut step shut = reads_as d c e (e + length text) step.kept room (shut_stays d c e text step shut)

  -- whatever the gate is, the group is read or it isn't
  pub reads_staged : text ≡ 128 ∷ drop 1 text → IsStaged d e text c → e < length (contents d Log) → ReadsEither e text d c
  reads_staged first step long = ⊎_elim opened shut (cases_eq (slice_index (contents c Log) e) 128)
    where
      group : HasGroup e text (contents c Log)
      group = group_stays d c e text step long

      opened : slice_index (contents c Log) e ≡ 128 → ReadsEither e text d c
      opened is = inr (reads_with d c e (e + length text) step.kept room text room
          (group_open e text (contents c Log) (omega (arith, ap length first)) first group is))

      shut : (slice_index (contents c Log) e ≡ 128 → ⊥) → ReadsEither e text d c
      shut other = inl (reads_as d c e (e + length text) step.kept room (group.0, other))

  pub reads_open : IsOpen d e text c → ReadsWith e text d c
  reads_open step =
      let is = contents_of c step.kept.log step.kept.is in
      reads_with d c e (e + length text) step.kept room text room (ap (λ (l : List ℕ). bytes_at e (length text) l) is ∙ step.group)

  pub shut_behind : (end : ℕ) → IsGroupText text → IsOpen d e text c → end + 4 ≡ e + length text → HasShutGate end (contents c Log)
  shut_behind end group step end-is =
      let is = contents_of c step.kept.log step.kept.is in
      let spelled = spelling_of group.records text closing group.spelled in
      let there : bytes_at e (length (spelled.front ++ closing)) (contents c Log) ≡ spelled.front ++ closing =
      subst (λ (l : List ℕ). bytes_at e (length l) (contents c Log) ≡ l) spelled.is (ap (λ (l : List ℕ). bytes_at e (length text) l) is ∙ step.group) in
      group_shut e end spelled.front (contents c Log) there (omega (arith, end-is, ap length spelled.is, length-append spelled.front closing))

-- ---- after the write that undoes a commit

pub heal_torn : (d c : Folder) (e : ℕ) (text : List ℕ) → 1 ≤ length text → HasGroup e text (contents d Log) → ChangesOnly Log (TornFile e 1) d c → IsStaged d e text c
heal_torn d c e text some group step =
    let kept = keeps_none d e (e + length text) group.0 in
    let staged : IsStaged d e text d = record { kept = kept; group = ap (λ (l : List ℕ). bytes_at (e + 1) (length text - 1) l) (sym (contents_of d kept.log kept.is)) ∙ group.1 } in
    staged_torn e text (drop 1 text) some refl d d c group.0 staged step

pub heal_shut : (c : Folder) (e : ℕ) (old : List ℕ) → c Log ≡ Some (patched old e (0 ∷ [])) → HasShutGate e (contents c Log)
heal_shut c e old there =
    let log = patched old e (0 ∷ []) in
    let is : contents c Log ≡ log = contents_of c log there in
    let behind : drop e (contents c Log) ≡ 0 ∷ drop (e + 1) old = ap (λ (l : List ℕ). drop e l) is ∙ patched_byte old e 0 in
    let byte : slice_index (contents c Log) e ≡ 0 = byte_front e (contents c Log) ∙ ap (λ (l : List ℕ). slice_index l 0) behind in
    (omega (arith, ap length behind, length-drop e (contents c Log)), λ open'. cc)

-- nothing was done
pub reads_none : (d : Folder) (e : ℕ) → HasShutGate e (contents d Log) → ReadsAs e d d
reads_none d e shut = record {
  keeps = record { front = λ h rs begun. begun; others = λ n other. refl };
  log = λ h rs begun. log_closed h rs e (contents d Log) begun (shut_closed e (contents d Log) shut);
}

-- ---- in each outcome of a crash

module _ (e : ℕ) (text : List ℕ) (group : IsGroupText text) (room : e + length text ≤ longest_log) (images : Folder → Type 0) where
  staged_either : (d c : Folder) → e < length (contents d Log) → IsStaged d e text c → ReadsEither e text d c
  staged_either d c long step = reads_staged d c e text room (group_gate text group) step long

  pub staged_reads : AreLong e images → (c : Folder) → FromOneOf images (λ d f. IsStaged d e text f) c → FromOneOf images (ReadsEither e text) c
  staged_reads long c from = (from.0, from.1, staged_either from.0 c (long from.0 from.1) from.2)

  pub either_reads : IsAtRest debt.None e text images → (c : Folder) → FromOneOf images (λ d f. IsBeforeOrAfter d e text f) c → FromOneOf images (ReadsEither e text) c
  either_reads rest c from = (from.0, from.1, ⊎_elim (λ shut. inl (reads_shut from.0 c e text room shut (rest from.0 from.1))) (staged_either from.0 c (rest from.0 from.1).0) from.2)

pub rest_long : (e : ℕ) (text : List ℕ) (images : Folder → Type 0) → IsAtRest debt.None e text images → AreLong e images
rest_long e text images rest c left = (rest c left).0

pub owed_long : (e : ℕ) (text : List ℕ) (images : Folder → Type 0) → IsAtRest debt.Gate e text images → AreLong e images
owed_long e text images rest c left = (rest c left).0

pub heal_either : (e : ℕ) (text : List ℕ) → IsGroupText text → (images : Folder → Type 0) → IsAtRest debt.Gate e text images
    → (c : Folder) → FromOneOf images (ChangesOnly Log (TornFile e 1)) c → FromOneOf images (λ d f. IsStaged d e text f) c
heal_either e text group images rest c from = (from.0, from.1, heal_torn from.0 c e text (group_some text group) (rest from.0 from.1) from.2)

-- after a heal that was done
pub heal_reads : (e : ℕ) (text old : List ℕ) → IsGroupText text → e + length text ≤ longest_log → (images now : Folder → Type 0) → IsAtRest debt.Gate e text images
    → Follows (ChangesOnly Log (TornFile e 1)) images now → ((c : Folder) → now c → c Log ≡ Some (patched old e (0 ∷ []))) → Follows (ReadsAs e) images now
heal_reads e text old group room images now rest follows durable c left =
    let from = heal_either e text group images rest c (follows c left) in
    (from.0, from.1, reads_as from.0 c e (e + length text) from.2.kept room (heal_shut c e old (durable c left)))

-- a log that alone could be left is at rest where its gate is shut
pub only_rest : (F : Folder) (e : ℕ) (text : List ℕ) (images : Folder → Type 0) → Only F images → HasShutGate e (contents F Log) → IsAtRest debt.None e text images
only_rest F e text images only shut c left = subst (λ (d : Folder). HasShutGate e (contents d Log)) (sym (only c left)) shut

-- ---- at rest

-- each outcome is a log of the records that it begins with
pub rest_reads : (e : ℕ) (text : List ℕ) (images : Folder → Type 0) → IsAtRest debt.None e text images → (c : Folder) → images c
    → (h : LogHeader) (rs : List Record) → Begins h rs e (contents c Log) → IsLog h rs e (contents c Log)
rest_reads e text images rest c left h rs begun = (reads_none c e (rest c left)).log h rs begun

-- or, where a debt is owed, of those and the group's
pub owed_reads : (e end : ℕ) (text : List ℕ) (images : Folder → Type 0) → IsAtRest debt.Gate e text images → IsGroupText text → end + 4 ≡ e + length text → end ≤ last_end → (c : Folder) → images c
    → (h : LogHeader) (rs gs : List Record) → Begins h rs e (contents c Log) → Spelled gs text closing → IsLog h rs e (contents c Log) ⊎ IsLog h (rs ++ gs) end (contents c Log)
owed_reads e end text images rest group end-is fits c left h rs gs begun spelled = ⊎_elim opened shut (cases_eq (slice_index (contents c Log) e) 128)
  where
    has : HasGroup e text (contents c Log)
    has = rest c left

    opened : slice_index (contents c Log) e ≡ 128 → IsLog h rs e (contents c Log) ⊎ IsLog h (rs ++ gs) end (contents c Log)
    opened is = inr (log_grown h rs gs e end (contents c Log) text begun spelled (group_open e text (contents c Log) (group_some text group) (group_gate text group) has is) end-is fits)

    shut : (slice_index (contents c Log) e ≡ 128 → ⊥) → IsLog h rs e (contents c Log) ⊎ IsLog h (rs ++ gs) end (contents c Log)
    shut other = inl (log_closed h rs e (contents c Log) begun (shut_closed e (contents c Log) (has.0, other)))

-- a log that was written has its gate shut
pub written_gate : (h : LogHeader) (rs : List Record) → HasShutGate (log_end rs) (log_text h rs)
written_gate h rs =
    let front = header_text h ++ flat_map written rs in
    let end : log_end rs ≡ length front = sym (length-append (header_text h) (flat_map written rs)) in
    let byte : slice_index (log_text h rs) (log_end rs) ≡ 0 =
    ap (λ (k : ℕ). slice_index (log_text h rs) k) (end ∙ sym (add-zero (length front))) ∙ get_or-append-add front closing 0 0 in
    (omega (arith, end, length-append front closing), λ is. cc)
