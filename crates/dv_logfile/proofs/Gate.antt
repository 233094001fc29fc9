-- What the writes of a commit leave of a log, one after another.
use Rattle.std.proofs.Common.{◌≡◌, ℕ, suc, ◌+◌, ◌-◌, ◌<◌, ◌≤◌, min, Option, Some, None, List, [], ◌∷◌, ◌++◌, length, take, drop, replicate, refl, sym, ◌∙◌, ap, subst, arith, length-append, append_assoc}
use Rattle.std.specs.Prelude.{unwrap_or}
use Rattle.std.proofs.lemmas.List.{take-take, drop-take, take_at, drop_at, length-take, length-drop, length-replicate}
use Rattle.dv_shelf.specs.declared.shelf.Name.TheVariants.{Log}
use Rattle.dv_shelf.specs.Crashes.{Elapses, Follows, LeavesOnly}
use Rattle.dv_shelf.specs.Folders.{Folder, contents, patched, with_file, ChangesOnly, Torn, TornFile}
use Rattle.dv_shelf.proofs.Moments.{started, goes_on}
use Rattle.dv_shelf.proofs.Torn.{patched_changes}
use Rattle.dv_logfile.specs.Layout.{bytes_at}
use Rattle.dv_logfile.specs.Gates.{FromOneOf, KeepsFront, IsShut, IsStaged, IsOpen}
use Rattle.dv_shelf.specs.Sees.{SeesFolder}

-- ---- lists

-- the same first bytes have the same first bytes
pub take_less : (m n : ℕ) (a b : List ℕ) → m ≤ n → take n a ≡ take n b → take m a ≡ take m b
take_less m n a b le same = sym (take-take m n a le) ∙ ap (λ (l : List ℕ). take m l) same ∙ take-take m n b le

-- the same bytes in front hold the same bytes at a place
pub bytes_less : (at n e : ℕ) (a b : List ℕ) → at + n ≤ e → take e a ≡ take e b → bytes_at at n a ≡ bytes_at at n b
bytes_less at n e a b le same =
    sym (drop-take at n a) ∙ ap (λ (l : List ℕ). drop at l) (take_less (at + n) e a b le same) ∙ drop-take at n b

patched_front : (old : List ℕ) (at : ℕ) → length (take at (old ++ replicate (at - length old) 0)) ≡ at
patched_front old at = omega (arith, length-take at (old ++ replicate (at - length old) 0), length-append old (replicate (at - length old) 0), length-replicate {A = ℕ} (at - length old) 0)

-- the bytes written stand at their place
pub patched_range : (old : List ℕ) (at : ℕ) (bytes : List ℕ) → bytes_at at (length bytes) (patched old at bytes) ≡ bytes
patched_range old at bytes =
    let a = take at (old ++ replicate (at - length old) 0) in
    let rest = drop (at + length bytes) old in
    ap (λ (l : List ℕ). take (length bytes) l) (ap (λ (l : List ℕ). drop at l) (append_assoc a bytes rest) ∙ drop_at a (bytes ++ rest) at (patched_front old at))
    ∙ take_at bytes rest (length bytes) refl

-- what stands behind one byte that is written stays
pub patched_byte : (old : List ℕ) (at b : ℕ) → drop at (patched old at (b ∷ [])) ≡ b ∷ drop (at + 1) old
patched_byte old at b =
    let a = take at (old ++ replicate (at - length old) 0) in
    ap (λ (l : List ℕ). drop at l) (append_assoc a (b ∷ []) (drop (at + 1) old)) ∙ drop_at a (b ∷ drop (at + 1) old) at (patched_front old at)

-- ---- files

torn_log : (old new : Option (List ℕ)) (at n : ℕ) → 0 < length (unwrap_or old []) → TornFile at n old new → (log : List ℕ) × (new ≡ Some log) × Torn at n (unwrap_or old []) log
torn_log None new at n long torn = absurd (omega arith)
torn_log (Some old) (Some new) at n long torn = (new, refl, torn)
torn_log (Some old) None at n long torn = absurd torn

some : (file : Option (List ℕ)) → 0 < length (unwrap_or file []) → file ≡ Some (unwrap_or file [])
some None long = absurd (omega arith)
some (Some log) long = refl

pub contents_of : (folder : Folder) (log : List ℕ) → folder Log ≡ Some log → contents folder Log ≡ log
contents_of folder log is = ap (λ (file : Option (List ℕ)). unwrap_or file []) is

pub keeps_none : (d : Folder) (e most : ℕ) → e < length (contents d Log) → KeepsFront d e most d
keeps_none d e most long = record {
  log = contents d Log;
  is = some (d Log) (omega arith);
  front = refl;
  no_shorter = omega arith;
  no_longer = omega arith;
  others = λ n other. refl;
}

torn_front : (at n m : ℕ) (old new : List ℕ) → Torn at n old new → m ≤ at → m ≤ length old → take m new ≡ take m old
torn_front at n m old new torn le long = take_less m (min at (length old)) new old (omega arith) torn.before

-- a write that did nothing
pub untouched : (folder : Folder) (at n : ℕ) → ChangesOnly Log (TornFile at n) folder folder
untouched folder at n = record { there = same (folder Log); others = λ m other. refl }
  where
    same : (file : Option (List ℕ)) → TornFile at n file file
    same None = tt
    same (Some old) = record { before = refl; behind = refl; no_shorter = omega arith; no_longer = omega arith }

-- a write that was done is one of those that a torn write may be
pub written_torn : (folder now : Folder) (at : ℕ) (bytes : List ℕ) → now ≡ with_file folder Log (Some (patched (contents folder Log) at bytes)) → ChangesOnly Log (TornFile at (length bytes)) folder now
written_torn folder now at bytes wrote = subst (λ (F : Folder). ChangesOnly Log (TornFile at (length bytes)) folder F) (sym wrote) (patched_changes folder Log at bytes)

-- a crash during a write leaves what the write may leave
module _ {S : Type 0} (sees : SeesFolder S) where
  pub written_once : (s0 s1 : S) (at n : ℕ) → ((c : Folder) → sees.left_since s0 (sees.moment s0) c → sees.may_leave s0 c) → Elapses (sees.moment s0) (sees.moment s1) (sees.left_since s0) (sees.left_since s1) (sees.may_leave s1)
      → Follows (ChangesOnly Log (TornFile at n)) (sees.may_leave s0) (sees.may_leave s1) → LeavesOnly sees s0 s1 (FromOneOf (sees.may_leave s0) (ChangesOnly Log (TornFile at n)))
  written_once s0 s1 at n only time crash =
      let P : Folder → Type 0 = FromOneOf (sees.may_leave s0) (ChangesOnly Log (TornFile at n)) in
      goes_on sees s0 s0 s1 P (sees.may_leave s1) (started sees s0 P (λ c left. (c, only c left, untouched c at n))) time crash

-- a write from e on
pub keeps_torn : (d b c : Folder) (e most at n : ℕ) → e < length (contents d Log) → e ≤ at → at + n ≤ most → KeepsFront d e most b → ChangesOnly Log (TornFile at n) b c
    → (kept : KeepsFront d e most c) × Torn at n (contents b Log) kept.log
keeps_torn d b c e most at n long le fits kept step =
    let b-is : contents b Log ≡ kept.log = contents_of b kept.log kept.is in
    let log = torn_log (b Log) (c Log) at n (omega (arith, ap length b-is, kept.no_shorter)) step.there in
    let front : take e log.0 ≡ take e (contents b Log) = torn_front at n e (contents b Log) log.0 log.2 le (omega (arith, ap length b-is, kept.no_shorter)) in
    let here : KeepsFront d e most c = record {
      log = log.0;
      is = log.1;
      front = front ∙ ap (λ (l : List ℕ). take e l) b-is ∙ kept.front;
      no_shorter = omega (arith, ap length b-is, kept.no_shorter, log.2.no_shorter);
      no_longer = omega (arith, ap length b-is, kept.no_longer, log.2.no_longer);
      others = λ m other. step.others m other ∙ kept.others m other;
    } in
    (here, log.2)

-- ---- the two writes of a commit

-- the first write, of all but the first byte, and the second, of that byte
abbrev pub First : ℕ → List ℕ → Folder → Folder → Type 0
First e behind old new = ChangesOnly Log (TornFile (e + 1) (length behind)) old new

abbrev pub Second : ℕ → Folder → Folder → Type 0
Second e old new = ChangesOnly Log (TornFile e 1) old new

module _ (e : ℕ) (text behind : List ℕ) (some_text : 1 ≤ length text) (is : behind ≡ drop 1 text) where
  rest_length : length behind ≡ length text - 1
  rest_length = ap length is ∙ length-drop 1 text

  -- the first write reaches no byte up to the gate
  pub shut_torn : (d c : Folder) → e < length (contents d Log) → First e behind d c → IsShut d e text c
  shut_torn d c long step =
      let torn = keeps_torn d d c e (e + length text) (e + 1) (length behind) long (omega arith) (omega (arith, rest_length)) (keeps_none d e (e + length text) long) step in
      let gate : take (e + 1) torn.0.log ≡ take (e + 1) (contents d Log) = torn_front (e + 1) (length behind) (e + 1) (contents d Log) torn.0.log torn.1 (omega arith) (omega arith) in
      record { kept = torn.0; gate = bytes_less e 1 (e + 1) torn.0.log (contents d Log) (omega arith) gate }

  -- once it is done, the group stands behind the gate
  pub staged_log : (old log : List ℕ) → log ≡ patched old (e + 1) behind → bytes_at (e + 1) (length text - 1) log ≡ drop 1 text
  staged_log old log log-is =
      subst (λ (k : ℕ). bytes_at (e + 1) k log ≡ drop 1 text) rest_length
      (ap (λ (l : List ℕ). bytes_at (e + 1) (length behind) l) log-is ∙ patched_range old (e + 1) behind ∙ is)

  pub staged_first : (d b : Folder) (old : List ℕ) → e < length (contents d Log) → First e behind d b → b Log ≡ Some (patched old (e + 1) behind) → IsStaged d e text b
  staged_first d b old long step there =
      let shut = shut_torn d b long step in
      let log-is : shut.kept.log ≡ patched old (e + 1) behind = sym (contents_of b shut.kept.log shut.kept.is) ∙ contents_of b (patched old (e + 1) behind) there in
      record { kept = shut.kept; group = staged_log old shut.kept.log log-is }

  -- the second write reaches the gate alone
  pub staged_torn : (d b c : Folder) → e < length (contents d Log) → IsStaged d e text b → Second e b c → IsStaged d e text c
  staged_torn d b c long staged step =
      let b-is : contents b Log ≡ staged.kept.log = contents_of b staged.kept.log staged.kept.is in
      let torn = keeps_torn d b c e (e + length text) e 1 long (omega arith) (omega arith) staged.kept step in
      record {
        kept = torn.0;
        group = ap (λ (l : List ℕ). take (length text - 1) l) (torn.1.behind ∙ ap (λ (l : List ℕ). drop (e + 1) l) b-is) ∙ staged.group;
      }

  -- once it is done, the gate is open
  pub opened_log : (old : List ℕ) → text ≡ 128 ∷ drop 1 text → bytes_at (e + 1) (length text - 1) old ≡ drop 1 text → bytes_at e (length text) (patched old e (128 ∷ [])) ≡ text
  opened_log old first group =
      let n : length text ≡ suc (length text - 1) = omega arith in
      subst (λ (k : ℕ). take k (drop e (patched old e (128 ∷ []))) ≡ text) (sym n)
      (ap (λ (l : List ℕ). take (suc (length text - 1)) l) (patched_byte old e 128) ∙ ap (λ (l : List ℕ). 128 ∷ l) group ∙ sym first)

  pub opened_second : (d b c : Folder) (old : List ℕ) → e < length (contents d Log) → text ≡ 128 ∷ drop 1 text → IsStaged d e text b → Second e b c
      → bytes_at (e + 1) (length text - 1) old ≡ drop 1 text → c Log ≡ Some (patched old e (128 ∷ [])) → IsOpen d e text c
  opened_second d b c old long first staged step group there =
      let after = staged_torn d b c long staged step in
      let log-is : after.kept.log ≡ patched old e (128 ∷ []) = sym (contents_of c after.kept.log after.kept.is) ∙ contents_of c (patched old e (128 ∷ [])) there in
      record { kept = after.kept; group = ap (λ (l : List ℕ). bytes_at e (length text) l) log-is ∙ opened_log old first group }
