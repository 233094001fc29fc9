-- What is salvaged, record by record.
use Rattle.std.proofs.Common.{◌≡◌, ℕ, ◌≤◌, max, true, false, Bool, List, length, drop, Some, None, refl, sym, ◌∙◌, ap}
use Rattle.std.specs.Prelude.{if◌then◌else◌, ◌||◌}
use Rattle.std.proofs.lemmas.Bool.{eq-eqb, ne_eqb}
use Rattle.dv_model.specs.declared.types.Mailbox.{Mailbox}
use Rattle.dv_model.specs.declared.types.Record.{Record}
use Rattle.dv_model.specs.Effects.{after_record}
use Rattle.dv_model.specs.Spelling.{is_closed}
use Rattle.dv_logfile.specs.Layout.{last_end}
use Rattle.dv_logfile.specs.Scans.{GoodLog, Spot}
use Rattle.dv_openings.specs.Openings.{file_number}
use Rattle.dv_openings.specs.Salvages.{Salvaged, gives_validity, with_file, with_file_from, with_spot, with_spots}
use Rattle.dv_chain.specs.Walks.{IsLeft}
use Rattle.dv_chain.proofs.Walks.{Read, leads, none_left}
use Rattle.dv_rebuild.specs.Walks.{TakesOne}

-- ---- one record

-- none is applied any more
pub takes_none : (s : Salvaged) (r : Record) → s.going ≡ false → TakesOne s r s
takes_none s r stopped = λ place. rw (stopped, with_spot) refl

-- it is applied
pub takes_record : (s : Salvaged) (r : Record) (m : Mailbox) → s.going ≡ true → after_record s.mailbox r ≡ Some m
    → TakesOne s r (record { mailbox = m; given = s.given || gives_validity r; going = true })
takes_record s r m going is = λ place. rw (going, is, with_spot) refl

-- it is refused
pub takes_refused : (s : Salvaged) (r : Record) → s.going ≡ true → after_record s.mailbox r ≡ None → TakesOne s r (record s { going = false })
takes_refused s r going is = λ place. rw (going, is, with_spot) refl

-- ---- records in turn

-- the records from one place on give what those from another on give
pub record Salvaging (b : List ℕ) (from : ℕ) (start : Salvaged) (at : ℕ) (now : Salvaged) : Type 0 where
  pub inside : at ≤ length b
  pub fits : at ≤ last_end
  pub same : (spots : List Spot) (end : ℕ) → IsLeft b from spots end
      → (left : List Spot) × IsLeft b at left end × (with_spots start spots ≡ with_spots now left)

pub salvaging_none : (b : List ℕ) (from : ℕ) (start : Salvaged) → from ≤ length b → from ≤ last_end → Salvaging b from start from start
salvaging_none b from start inside fits = record { inside = inside; fits = fits; same = λ spots end is. (spots, is, refl) }

pub salvaging_more : (b : List ℕ) (from : ℕ) (start : Salvaged) (at : ℕ) (now : Salvaged) (behind : ℕ) (r : Record) (next : Salvaged) → Salvaging b from start at now → Read b at behind r → behind ≤ last_end → TakesOne now r next
    → Salvaging b from start behind next
salvaging_more b from start at now behind r next s read fits takes = record {
  inside = read.inside;
  fits = fits;
  same = λ spots end is.
      let had = s.same spots end is in
      let first = leads b at behind r had.0 end read had.1 in
      (first.others, first.left_is, had.2 ∙ ap (with_spots now) first.is ∙ ap (λ (x : Salvaged). with_spots x first.others) (sym (takes at)));
}

pub salvaged_all : (b : List ℕ) (from : ℕ) (start : Salvaged) (at : ℕ) (now : Salvaged) → Salvaging b from start at now → is_closed (drop at b) ≡ true
    → (spots : List Spot) (end : ℕ) → IsLeft b from spots end → now ≡ with_spots start spots
salvaged_all b from start at now s closed spots end is =
    let had = s.same spots end is in
    sym (had.2 ∙ ap (with_spots now) (none_left b at had.0 end closed had.1).0)

-- ---- files

-- behind a refused record no file is applied
pub no_file : (file : GoodLog) (s : Salvaged) → s.going ≡ false → s ≡ with_file file s
no_file file s stopped = sym (ap (λ (b : Bool). if b then with_spots (record s { mailbox = record s.mailbox { highest = max s.mailbox.highest (file_number file.header) } }) file.spots else s) stopped)

pub all_salvaged : (file : GoodLog) (s now made : Salvaged) → s.going ≡ true → now ≡ record s { mailbox = record s.mailbox { highest = max s.mailbox.highest (file_number file.header) } }
    → made ≡ with_spots now file.spots → made ≡ with_file file s
all_salvaged file s now made going raise is =
    is ∙ ap (λ (x : Salvaged). with_spots x file.spots) raise
    ∙ sym (ap (λ (b : Bool). if b then with_spots (record s { mailbox = record s.mailbox { highest = max s.mailbox.highest (file_number file.header) } }) file.spots else s) going)

pub from_first : (file : GoodLog) (place : ℕ) (left : List Spot) (s made : Salvaged) → place ≡ file.header.hdr_size → made ≡ with_file file s → made ≡ with_file_from file place left s
from_first file place left s made is all = all ∙ sym (ap (λ (b : Bool). if b then with_file file s else with_spots s left) (eq-eqb place file.header.hdr_size is))

pub from_later : (file : GoodLog) (place : ℕ) (left : List Spot) (s made : Salvaged) → (place ≡ file.header.hdr_size → ⊥) → made ≡ with_spots s left → made ≡ with_file_from file place left s
from_later file place left s made other all = all ∙ sym (ap (λ (b : Bool). if b then with_file file s else with_spots s left) (ne_eqb place file.header.hdr_size other))
