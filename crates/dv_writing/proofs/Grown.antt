-- A log with a group more opens to the mailbox with the group, whatever index and rotated log stand
-- beside it.
use Rattle.std.proofs.Common.{◌≡◌, ◌⊎◌, ⊎_elim, ◌&&◌, ℕ, ◌+◌, ◌-◌, ◌≤◌, true, false, Bool, min, nat_eq, List, [], ◌∷◌, ◌++◌, length, map, Option, Some, None, refl, sym, ◌∙◌, ap, subst, arith, length-append}
use Rattle.std.specs.Prelude.{if◌then◌else◌, option_and_then}
use Rattle.std.proofs.lemmas.Bool.{cases_eq, eq-eqb, eqb-true, ne_eqb}
use Rattle.std.proofs.lemmas.List.{append-nil}
use Rattle.std.proofs.lemmas.Option.{same_Some}
use Rattle.dv_model.specs.declared.types.Mailbox.{Mailbox}
use Rattle.dv_model.specs.declared.types.Record.{Record}
use Rattle.dv_model.specs.Effects.{after_record, applied}
use Rattle.dv_model.specs.Mailboxes.{empty_mailbox, last_modseq}
use Rattle.dv_shelf.specs.declared.shelf.Name.TheVariants as name
use Rattle.dv_shelf.specs.Folders.{Folder}
use Rattle.dv_logfile.specs.Scans.{BadHeader, BadSpot, Good, GoodLog, IsScanned, Missing, Scanned, Spot}
use Rattle.dv_logfile.proofs.OneScan.{scans_one}
use Rattle.dv_openings.specs.Openings.{Applied, BadIndex, Finds, Found, Gap, Gives, IfGood, IsFound, IsIndex, Refused, Snapshot, applied_from, at_end, before_log, counted, end_mark, file_applied, file_number, first_mark, first_of_three, found_in, from_either, from_index, from_nothing, in_log, in_rotated, joining, number_before, raised, records_from, spots_applied, spots_from, then_file, with_numbers}
use Rattle.dv_chain.proofs.Joins.{index_before, index_gap, index_in_log, index_in_rotated, not_before, not_in_first, not_in_log, not_next, not_there, nothing_alone, nothing_first, nothing_second, nothing_third, there_before, there_in_log, there_in_rotated}
use Rattle.dv_chain.proofs.Spots.{spots_then}

-- ---- a log that has grown

-- the group begins where the records end
abbrev pub BeginsAt : ℕ → List Spot → Type 0
BeginsAt end [] = ⊥
BeginsAt end (spot ∷ spots) = spot.place ≡ end

module _ (log : GoodLog) (more : List Spot) (upto : ℕ) where
  -- the log with these records behind its end
  abbrev pub grown : GoodLog
  grown = record { header = log.header; spots = log.spots ++ more; end = upto }

  -- what stands before its first record
  abbrev start : Mailbox
  start = empty_mailbox log.header.indexid

  abbrev started : Snapshot → Mailbox
  started s = with_numbers s (file_number log.header)

  -- a result with the records behind it
  abbrev pub Goes : Applied → Applied → Type 0
  Goes old new = (m : Mailbox) → old ≡ Gives m → new ≡ spots_applied m more

  goes_none : (old : Applied) (place : ℕ) → old ≡ Refused place → (new : Applied) → Goes old new
  goes_none old place is new m e =
      let no : Refused place ≡ Gives m = sym is ∙ e in
      absurd cc

  all_go : (m : Mailbox) → Goes (file_applied log m) (file_applied grown m)
  all_go m n is = spots_then (raised log.header m) n log.spots more is

  then_goes : (a : Applied) → Goes (then_file log a) (then_file grown a)
  then_goes (Gives m) = all_go m
  then_goes (Refused place) = goes_none (Refused place) place refl (Refused place)

  -- a place of the log is one of the grown log
  module _ (at : BeginsAt log.end more) where
    from_end : spots_from upto log.end more ≡ Some more
    from_end = by_more more at
      where
        by_more : (spots : List Spot) → BeginsAt log.end spots → spots_from upto log.end spots ≡ Some spots
        by_more [] none = absurd none
        by_more (spot ∷ spots) here = rw (eq-eqb log.end spot.place (sym here)) refl

    places_go : (spots left : List Spot) (from : ℕ) → spots_from log.end from spots ≡ Some left → spots_from upto from (spots ++ more) ≡ Some (left ++ more)
    places_go [] left from is = by_end (nat_eq from log.end) refl is
      where
        by_end : (b : Bool) → nat_eq from log.end ≡ b → (if b then Some [] else None) ≡ Some left → spots_from upto from more ≡ Some (left ++ more)
        by_end true e there =
            let none : [] ≡ left = same_Some [] left there in
            ap (λ (k : ℕ). spots_from upto k more) (eqb-true from log.end e) ∙ from_end ∙ ap (λ (l : List Spot). Some (l ++ more)) none
        by_end false e there = absurd cc
    places_go (spot ∷ spots) left from is = by_place (nat_eq from spot.place) (places_go spots left from) is
      where
        by_place : (b : Bool) → (spots_from log.end from spots ≡ Some left → spots_from upto from (spots ++ more) ≡ Some (left ++ more))
            → (if b then Some (spot ∷ spots) else spots_from log.end from spots) ≡ Some left → (if b then Some (spot ∷ spots ++ more) else spots_from upto from (spots ++ more)) ≡ Some (left ++ more)
        by_place true step there = ap (λ (l : List Spot). Some (l ++ more)) (same_Some (spot ∷ spots) left there)
        by_place false step there = step there

    -- the same number stands before them
    number_goes : (left : List Spot) → number_before grown (left ++ more) ≡ number_before log left
    number_goes left =
        let n : length (log.spots ++ more) - length (left ++ more) ≡ length log.spots - length left = omega (arith, length-append log.spots more, length-append left more) in
        ap (λ (k : ℕ). min (file_number log.header + k) last_modseq) n

    from_goes : (from : ℕ) (left : List Spot) (m : Mailbox) → Goes (applied_from log from left m) (applied_from grown from (left ++ more) m)
    from_goes from left m = by_first (nat_eq from log.header.hdr_size)
      where
        by_first : (b : Bool) → Goes (if b then file_applied log m else spots_applied m left) (if b then file_applied grown m else spots_applied m (left ++ more))
        by_first true = all_go m
        by_first false = λ n is. spots_then m n left more is

    -- ---- what is found

    -- the mailbox with the records, at the grown log's end
    abbrev IsBehind : Mailbox → Found → Type 0
    IsBehind m found = found ≡ at_end grown (spots_applied m more)

    ends_go : (old new : Applied) (m : Mailbox) → Goes old new → at_end log old ≡ Finds m (end_mark log) → IsBehind m (at_end grown new)
    ends_go (Gives n) new m goes is =
        let same : n ≡ m = cc in
        ap (at_end grown) (goes m (ap Gives same))
    ends_go (Refused place) new m goes is = absurd cc

    -- ---- from nothing

    nothing_goes : (before : Option GoodLog) (m : Mailbox) → from_nothing log before ≡ Finds m (end_mark log) → IsBehind m (from_nothing grown before)
    nothing_goes before m is = ⊎_elim first others (cases_eq log.header.file_seq 1)
      where
        first : log.header.file_seq ≡ 1 → IsBehind m (from_nothing grown before)
        first one =
            nothing_first grown before one ∙ ends_go (file_applied log start) (file_applied grown start) m (all_go start) (sym (nothing_first log before one) ∙ is)

        others : (log.header.file_seq ≡ 1 → ⊥) → IsBehind m (from_nothing grown before)
        others other = by_before before is
          where
            by_before : (b : Option GoodLog) → from_nothing log b ≡ Finds m (end_mark log) → IsBehind m (from_nothing grown b)
            by_before None e =
                let no : BadIndex ≡ Finds m (end_mark log) = sym (nothing_alone log other) ∙ e in
                absurd cc
            by_before (Some rotated) e = ⊎_elim second third (cases_eq log.header.file_seq 2)
              where
                second : log.header.file_seq ≡ 2 → IsBehind m (from_nothing grown (Some rotated))
                second two =
                    nothing_second grown rotated other two
                    ∙ ends_go (then_file log (file_applied rotated start)) (then_file grown (file_applied rotated start)) m (then_goes (file_applied rotated start)) (sym (nothing_second log rotated other two) ∙ e)

                third : (log.header.file_seq ≡ 2 → ⊥) → IsBehind m (from_nothing grown (Some rotated))
                third more-than =
                    let no : BadIndex ≡ Finds m (end_mark log) = sym (nothing_third log rotated other more-than) ∙ e in
                    absurd cc

    -- ---- from a snapshot

    module _ (before : Option GoodLog) (s : Snapshot) (m : Mailbox) (is : from_index log before s ≡ Finds m (end_mark log)) where
      no_gap : from_index log before s ≡ Gap s.mark (first_mark log) → ⊥
      no_gap e =
          let no : Gap s.mark (first_mark log) ≡ Finds m (end_mark log) = sym e ∙ is in
          absurd cc

      -- its mark is a place of the log
      index_here : s.mark.file_seq ≡ log.header.file_seq → IsBehind m (from_index grown before s)
      index_here seq = by_place (records_from log s.mark.offset) refl
        where
          not_next_file : nat_eq (s.mark.file_seq + 1) log.header.file_seq ≡ false
          not_next_file = ne_eqb (s.mark.file_seq + 1) log.header.file_seq (λ e. omega (arith, e, seq))

          by_place : (o : Option (List Spot)) → records_from log s.mark.offset ≡ o → IsBehind m (from_index grown before s)
          by_place None e =
              absurd (no_gap (index_gap log before s (not_there log before s seq e) (not_next log before s not_next_file)
              (not_before log before s (ap (λ (b : Bool). b && nat_eq s.mark.offset log.header.prev_file_offset && nat_eq s.mark.file_seq log.header.prev_file_seq) not_next_file))))
          by_place (Some left) e =
              let start = with_numbers s (number_before log left) in
              let old = applied_from log s.mark.offset left start in
              let new = applied_from grown s.mark.offset (left ++ more) start in
              let there : in_log grown s ≡ Some new =
              there_in_log grown before s (left ++ more) seq (places_go log.spots left s.mark.offset e)
              ∙ ap (λ (n : ℕ). Some (applied_from grown s.mark.offset (left ++ more) (with_numbers s n))) (number_goes left) in
              index_in_log grown before s new there ∙ ends_go old new m (from_goes s.mark.offset left start) (sym (index_in_log log before s old (there_in_log log before s left seq e)) ∙ is)

      -- or of the file before it
      index_earlier : (s.mark.file_seq ≡ log.header.file_seq → ⊥) → IsBehind m (from_index grown before s)
      index_earlier other = by_next (nat_eq (s.mark.file_seq + 1) log.header.file_seq) refl
        where
          none : in_log log s ≡ None
          none = not_in_log log before s other

          grown_none : in_log grown s ≡ None
          grown_none = not_in_log grown before s other

          -- it is the end that the header names
          named : in_rotated log before s ≡ None → in_rotated grown before s ≡ None → IsBehind m (from_index grown before s)
          named nowhere grown_nowhere =
              by_test (nat_eq (s.mark.file_seq + 1) log.header.file_seq && nat_eq s.mark.offset log.header.prev_file_offset && nat_eq s.mark.file_seq log.header.prev_file_seq) refl
            where
              by_test : (b : Bool) → (nat_eq (s.mark.file_seq + 1) log.header.file_seq && nat_eq s.mark.offset log.header.prev_file_offset && nat_eq s.mark.file_seq log.header.prev_file_seq) ≡ b → IsBehind m (from_index grown before s)
              by_test true e =
                  index_before grown before s (file_applied grown (started s)) grown_none grown_nowhere (there_before grown before s e)
                  ∙ ends_go (file_applied log (started s)) (file_applied grown (started s)) m (all_go (started s)) (sym (index_before log before s (file_applied log (started s)) none nowhere (there_before log before s e)) ∙ is)
              by_test false e = absurd (no_gap (index_gap log before s none nowhere (not_before log before s e)))

          by_next : (b : Bool) → nat_eq (s.mark.file_seq + 1) log.header.file_seq ≡ b → IsBehind m (from_index grown before s)
          by_next false e = named (not_next log before s e) (not_next grown before s e)
          by_next true e = by_before before refl
            where
              by_before : (b : Option GoodLog) → before ≡ b → IsBehind m (from_index grown before s)
              by_before None same = named (ap (λ (x : Option GoodLog). in_rotated log x s) same) (ap (λ (x : Option GoodLog). in_rotated grown x s) same)
              by_before (Some rotated) same = by_place (records_from rotated s.mark.offset) refl
                where
                  by_place : (o : Option (List Spot)) → records_from rotated s.mark.offset ≡ o → IsBehind m (from_index grown before s)
                  by_place None there =
                      named (ap (λ (x : Option GoodLog). in_rotated log x s) same ∙ not_in_first log rotated s e there)
                      (ap (λ (x : Option GoodLog). in_rotated grown x s) same ∙ not_in_first grown rotated s e there)
                  by_place (Some left) there =
                      let a = applied_from rotated s.mark.offset left (with_numbers s (number_before rotated left)) in
                      index_in_rotated grown before s (then_file grown a) grown_none (ap (λ (x : Option GoodLog). in_rotated grown x s) same ∙ there_in_rotated grown rotated s left e there)
                      ∙ ends_go (then_file log a) (then_file grown a) m (then_goes a)
                      (sym (index_in_rotated log before s (then_file log a) none (ap (λ (x : Option GoodLog). in_rotated log x s) same ∙ there_in_rotated log rotated s left e there)) ∙ is)

    index_goes : (before : Option GoodLog) (s : Snapshot) (m : Mailbox) → from_index log before s ≡ Finds m (end_mark log) → IsBehind m (from_index grown before s)
    index_goes before s m is = ⊎_elim (index_here before s m is) (index_earlier before s m is) (cases_eq s.mark.file_seq log.header.file_seq)

    either_goes : (before : Option GoodLog) (index : Option Snapshot) (m : Mailbox) → from_either log before index ≡ Finds m (end_mark log) → IsBehind m (from_either grown before index)
    either_goes before None m is = nothing_goes before m is
    either_goes before (Some s) m is = index_goes before s m is

    -- the same rotated log and the same snapshot count beside it
    joining_same : (rotated : Scanned) → joining grown rotated ≡ joining log rotated
    joining_same Missing = refl
    joining_same BadHeader = refl
    joining_same (BadSpot place) = refl
    joining_same (Good file) = refl

    counted_same : (index : Option Snapshot) → counted grown index ≡ counted log index
    counted_same None = refl
    counted_same (Some s) = refl

    -- ---- a folder

    pub grown_found : (old new : Folder) (m after : Mailbox) → IsScanned (old name.Log) (Good log) → IsScanned (new name.Log) (Good grown) → new name.Log2 ≡ old name.Log2 → new name.Index ≡ old name.Index
        → IsFound old (Finds m (end_mark log)) → spots_applied m more ≡ Gives after → IsFound new (Finds after (end_mark grown))
    grown_found old new m after here there log2 index found gives =
        let one : found.log ≡ Good log = scans_one (old name.Log) found.log (Good log) found.log_file here in
        let joined = joining log found.rotated in
        let counts = counted log found.index in
        let is : from_either log joined counts ≡ Finds m (end_mark log) = sym (found.is ∙ ap (λ (x : Scanned). found_in x found.rotated found.index) one) in
        let goes : from_either grown joined counts ≡ Finds after (end_mark grown) = either_goes joined counts m is ∙ ap (at_end grown) gives in
        record {
          log = Good grown;
          rotated = found.rotated;
          index = found.index;
          log_file = there;
          rotated_file = subst (λ (x : Option (List ℕ)). IsScanned x found.rotated) (sym log2) (subst (λ (x : Scanned). IfGood x (IsScanned (old name.Log2) found.rotated)) one found.rotated_file);
          index_file = subst (λ (x : Option (List ℕ)). IsIndex x found.index) (sym index) (subst (λ (x : Scanned). IfGood x (IsIndex (old name.Index) found.index)) one found.index_file);
          is = sym (ap (λ (x : Option GoodLog). from_either grown x (counted grown found.index)) (joining_same found.rotated) ∙ ap (from_either grown joined) (counted_same found.index) ∙ goes);
        }
