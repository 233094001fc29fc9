-- The texts of a map are kept while a file is rewritten.
use Rattle.std.proofs.Common.{◌≡◌, ◌⊎◌, ⊎_elim, ℕ, ◌+◌, ◌≤◌, Bool, true, false, cond, List, [], ◌∷◌, ◌++◌, length, map, take, drop, nat_eq, Option, Some, refl, sym, ◌∙◌, ap, subst, arith, inr, append_assoc, length-append, length-drop, length-take}
use Rattle.std.specs.Prelude.{All, filter, nat_le, nat_lt}
use Rattle.std.proofs.lemmas.Bool.{le-leb}
use Rattle.std.proofs.lemmas.List.{drop_at, take_at}
use Rattle.std.proofs.lemmas.List.Elements.{All-cons, All-head, All-nil, All-tail}
use Rattle.dv_model.specs.declared.types.Mailbox.{Mailbox}
use Rattle.dv_model.specs.declared.types.Row.{Row}
use Rattle.dv_model.specs.Journals.{Damaged, Held}
use Rattle.dv_shelf.specs.declared.shelf.Name.TheVariants as name
use Rattle.dv_shelf.specs.Folders.{Folder}
use Rattle.dv_dbox.specs.Mails.{mail_in}
use Rattle.dv_maps.specs.declared.mapped.Mapped.{Mapped}
use Rattle.dv_maps.specs.declared.place.Place.{Place}
use Rattle.dv_maps.specs.Purges.{RewritesKeep, StandsIn, all_mapped, bytes_in, is_kept, mapped, rewritten, texts_in}
use Rattle.dv_maps.specs.Texts.{HasText, Messages, text_at, text_in}
use Rattle.dv_maps.proofs.Rewriting.{kept_front, rewritten_front}

-- ---- texts by what rows say

abbrev Has : Messages → Folder → Mapped → Type 0
Has messages folder r = 1 ≤ r.count → (message : List ℕ) → messages r.id ≡ Some message → text_at folder r.place ≡ Held message

abbrev AllHave : Messages → Folder → List Mapped → Type 0
AllHave messages folder [] = Unit {0}
AllHave messages folder (r ∷ rs) = Has messages folder r × AllHave messages folder rs

have_of : (messages : Messages) (m : Mailbox) (folder : Folder) (rows : List Row) → All (HasText messages m folder) rows → AllHave messages folder (map (mapped m) rows)
have_of messages m folder [] all = tt {0}
have_of messages m folder (row ∷ rows) all = (All-head (HasText messages m folder) row rows all, have_of messages m folder rows (All-tail (HasText messages m folder) row rows all))

have_from : (messages : Messages) (m : Mailbox) (folder : Folder) (rows : List Row) → AllHave messages folder (map (mapped m) rows) → All (HasText messages m folder) rows
have_from messages m folder [] have = All-nil (HasText messages m folder)
have_from messages m folder (row ∷ rows) have = All-cons (HasText messages m folder) row rows have.0 (have_from messages m folder rows have.1)

-- ---- one text among others

inside_length : (bytes : List ℕ) (place : Place) → place.offset + place.size ≤ length bytes → length (bytes_in bytes place) ≡ place.size
inside_length bytes place inside =
    let one = length-take place.size (drop place.offset bytes) in
    let two = length-drop place.offset bytes in
    omega (arith, one, two, inside)

-- a text behind others is found at its new place
moved_text : (bytes front rest : List ℕ) (place : Place) (new at : ℕ) (message : List ℕ) → place.offset + place.size ≤ length bytes → length front ≡ at → text_in (Some bytes) place ≡ Held message
    → text_in (Some (front ++ (bytes_in bytes place ++ rest))) (record { file = new; offset = at; size = place.size }) ≡ Held message
moved_text bytes front rest place new at message inside long held =
    let text : List ℕ = bytes_in bytes place in
    let size : length text ≡ place.size = inside_length bytes place inside in
    let whole : List ℕ = front ++ (text ++ rest) in
    let sum : length whole ≡ length front + (length text + length rest) = length-append front (text ++ rest) ∙ ap (λ (n : ℕ). length front + n) (length-append text rest) in
    let fits : nat_le (at + place.size) (length whole) ≡ true = le-leb (at + place.size) (length whole) (omega (arith, sum, size, long)) in
    let found : take place.size (drop at whole) ≡ text = ap (take place.size) (drop_at front (text ++ rest) at long) ∙ take_at text rest place.size size in
    let was : nat_le (place.offset + place.size) (length bytes) ≡ true = le-leb (place.offset + place.size) (length bytes) inside in
    ap (λ (b : Bool). cond b (mail_in (Some (take place.size (drop at whole)))) Damaged) fits
    ∙ ap (λ (x : List ℕ). mail_in (Some x)) found
    ∙ sym (ap (λ (b : Bool). cond b (mail_in (Some text)) Damaged) was)
    ∙ held

-- ---- all of them

module _ (messages : Messages) (file new : ℕ) (bytes : List ℕ) (d c : Folder) where
  abbrev kept : List Mapped → List Mapped
  kept rs = filter (is_kept file) rs

  abbrev IsBehind : List ℕ → List Mapped → Type 0
  IsBehind front rs = (kept rs ≡ []) ⊎ (c (name.Mail new) ≡ Some (front ++ texts_in bytes (kept rs)))

  abbrev IsStill : Mapped → Type 0
  IsStill r = c (name.Mail r.place.file) ≡ d (name.Mail r.place.file)

  behind_moved : (r : Mapped) (rs : List Mapped) (front : List ℕ) → kept (r ∷ rs) ≡ r ∷ kept rs → IsBehind front (r ∷ rs) → c (name.Mail new) ≡ Some (front ++ (bytes_in bytes r.place ++ texts_in bytes (kept rs)))
  behind_moved r rs front is behind =
      ⊎_elim (λ none. absurd (let e : r ∷ kept rs ≡ [] = sym is ∙ none in cc))
      (λ there. there ∙ ap (λ (l : List Mapped). Some (front ++ texts_in bytes l)) is) behind

  keep_one : (r : Mapped) (rs : List Mapped) (at : ℕ) (front : List ℕ) → length front ≡ at → Has messages d r → IsStill r → All (StandsIn messages bytes) (kept (r ∷ rs)) → IsBehind front (r ∷ rs)
      → ((at : ℕ) (front : List ℕ) → length front ≡ at → All (StandsIn messages bytes) (kept rs) → IsBehind front rs → AllHave messages c (rewritten file new at rs))
      → (f n : Bool) → nat_eq r.place.file file ≡ f → nat_lt 0 r.count ≡ n → AllHave messages c (rewritten file new at (r ∷ rs))
  keep_one r rs at front long has still stands behind rest true true here count =
      let is = kept_front file new r rs true true here count in
      let there = behind_moved r rs front is behind in
      let all = subst (All (StandsIn messages bytes)) is stands in
      let one = All-head (StandsIn messages bytes) r (kept rs) all in
      let text : List ℕ = bytes_in bytes r.place in
      let size : length text ≡ r.place.size = inside_length bytes r.place one.inside in
      let sum = length-append front text in
      let more : c (name.Mail new) ≡ Some ((front ++ text) ++ texts_in bytes (kept rs)) = there ∙ ap (λ (l : List ℕ). Some l) (sym (append_assoc front text (texts_in bytes (kept rs)))) in
      subst (AllHave messages c) (sym (rewritten_front file new r rs at true true here count)) (
        λ some message known.
            ap (λ (o : Option (List ℕ)). text_in o (record { file = new; offset = at; size = r.place.size })) there
            ∙ moved_text bytes front (texts_in bytes (kept rs)) r.place new at message one.inside long (one.held message known),
        rest (at + r.place.size) (front ++ text) (omega (arith, sum, size, long)) (All-tail (StandsIn messages bytes) r (kept rs) all) (inr more),
      )
  keep_one r rs at front long has still stands behind rest true false here count =
      let is = kept_front file new r rs true false here count in
      subst (AllHave messages c) (sym (rewritten_front file new r rs at true false here count))
      (rest at front long (subst (All (StandsIn messages bytes)) is stands) (subst (λ (l : List Mapped). (l ≡ []) ⊎ (c (name.Mail new) ≡ Some (front ++ texts_in bytes l))) is behind))
  keep_one r rs at front long has still stands behind rest false n here count =
      let is = kept_front file new r rs false n here count in
      subst (AllHave messages c) (sym (rewritten_front file new r rs at false n here count)) (
        λ some message known. ap (λ (o : Option (List ℕ)). text_in o r.place) still ∙ has some message known,
        rest at front long (subst (All (StandsIn messages bytes)) is stands) (subst (λ (l : List Mapped). (l ≡ []) ⊎ (c (name.Mail new) ≡ Some (front ++ texts_in bytes l))) is behind),
      )

  keep_all : (rs : List Mapped) (at : ℕ) (front : List ℕ) → length front ≡ at → AllHave messages d rs → All IsStill rs → All (StandsIn messages bytes) (kept rs) → IsBehind front rs → AllHave messages c (rewritten file new at rs)
  keep_all [] at front long have still stands behind = tt {0}
  keep_all (r ∷ rs) at front long have still stands behind =
      keep_one r rs at front long have.0 (All-head IsStill r rs still) stands behind
      (λ at front long stands behind. keep_all rs at front long have.1 (All-tail IsStill r rs still) stands behind) (nat_eq r.place.file file) (nat_lt 0 r.count) refl refl

pub rewrites_keep : RewritesKeep
rewrites_keep messages m after file new bytes d c is keeps still stands there =
    have_from messages after c after.rows
    (subst (AllHave messages c) (sym is.rows) (keep_all messages file new bytes d c (all_mapped m) 0 [] refl (have_of messages m d m.rows keeps) still stands there))
