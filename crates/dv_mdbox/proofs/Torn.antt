-- Texts that stand before a place stay where that place is written.
use Rattle.std.proofs.Common.{◌≡◌, ◌≢◌, ℕ, ◌+◌, ◌-◌, ◌≤◌, min, Bool, true, false, cond, List, [], ◌++◌, length, take, drop, replicate, nat_eq, Option, Some, None, refl, sym, ◌∙◌, ap, subst, arith, length-append, append_assoc}
use Rattle.std.specs.Prelude.{nat_le, unwrap_or}
use Rattle.std.proofs.lemmas.Bool.{eqb-false, eqb-true, le-leb, leb-true}
use Rattle.std.proofs.lemmas.List.{drop-take, drop_at, length-replicate, length-take, take_at, take-take}
use Rattle.dv_model.specs.Journals.{Damaged, Held}
use Rattle.dv_shelf.specs.declared.shelf.Name.TheVariants as name
use Rattle.dv_shelf.specs.Folders.{Folder, Torn, TornFile, patched}
use Rattle.dv_shelf.proofs.Torn.{patched_torn}
use Rattle.dv_dbox.specs.Mails.{mail_in}
use Rattle.dv_maps.specs.declared.place.Place.{Place}
use Rattle.dv_maps.specs.Texts.{text_at, text_in}

module _ (at n : ℕ) (place : Place) (message : List ℕ) (le : place.offset + place.size ≤ at) where
  abbrev end : ℕ
  end = place.offset + place.size

  abbrev text_of : List ℕ → List ℕ
  text_of b = take place.size (drop place.offset b)

  same_text : (b c : List ℕ) → Torn at n b c → end ≤ length b → text_of c ≡ text_of b
  same_text b c torn inside =
      let least : ℕ = min at (length b) in
      let less : end ≤ least = omega (arith, le, inside) in
      let fronts : take end c ≡ take end b = sym (take-take end least c less) ∙ ap (take end) torn.before ∙ take-take end least b less in
      sym (drop-take place.offset place.size c) ∙ ap (drop place.offset) fronts ∙ drop-take place.offset place.size b

  by_inside : (b c : List ℕ) (t : Bool) → nat_le end (length b) ≡ t → Torn at n b c → cond t (mail_in (Some (text_of b))) Damaged ≡ Held message → text_in (Some c) place ≡ Held message
  by_inside b c false test torn held = absurd cc
  by_inside b c true test torn held =
      let inside : end ≤ length b = leb-true end (length b) test in
      let longer : end ≤ length c = let more = torn.no_shorter in omega (arith, inside, more) in
      ap (λ (t : Bool). cond t (mail_in (Some (text_of c))) Damaged) (le-leb end (length c) longer) ∙ ap (λ (x : List ℕ). mail_in (Some x)) (same_text b c torn inside) ∙ held

  -- a file that is written from a place on keeps a text before it
  pub torn_text : (o p : Option (List ℕ)) → TornFile at n o p → text_in o place ≡ Held message → text_in p place ≡ Held message
  torn_text None p torn held = absurd cc
  torn_text (Some b) None torn held = absurd torn
  torn_text (Some b) (Some c) torn held = by_inside b c (nat_le end (length b)) refl torn held

-- in a folder
module _ (file at n : ℕ) (d c : Folder) (there : TornFile at n (d (name.Mail file)) (c (name.Mail file))) (others : (other : ℕ) → other ≢ file → c (name.Mail other) ≡ d (name.Mail other)) where
  by_file : (place : Place) (message : List ℕ) → (place.file ≡ file → place.offset + place.size ≤ at) → text_at d place ≡ Held message → (b : Bool) → nat_eq place.file file ≡ b → text_at c place ≡ Held message
  by_file place message before held true test =
      let same : place.file ≡ file = eqb-true place.file file test in
      let was : text_in (d (name.Mail file)) place ≡ Held message = subst (λ (k : ℕ). text_in (d (name.Mail k)) place ≡ Held message) same held in
      subst (λ (k : ℕ). text_in (c (name.Mail k)) place ≡ Held message) (sym same) (torn_text at n place message (before same) (d (name.Mail file)) (c (name.Mail file)) there was)
  by_file place message before held false test =
      ap (λ (o : Option (List ℕ)). text_in o place) (others place.file (eqb-false place.file file test)) ∙ held

  pub text_stays : (place : Place) (message : List ℕ) → (place.file ≡ file → place.offset + place.size ≤ at) → text_at d place ≡ Held message → text_at c place ≡ Held message
  text_stays place message before held = by_file place message before held (nat_eq place.file file) refl

-- ---- the text that is written

module _ (old : List ℕ) (at : ℕ) (text : List ℕ) where
  abbrev front : List ℕ
  front = take at (old ++ replicate (at - length old) 0)

  abbrev rest : List ℕ
  rest = drop (at + length text) old

  long_front : length front ≡ at
  long_front = omega (arith, length-take at (old ++ replicate (at - length old) 0), length-append old (replicate (at - length old) 0), length-replicate {A = ℕ} (at - length old) 0)

  behind_front : drop at (patched old at text) ≡ text ++ rest
  behind_front = ap (drop at) (append_assoc front text rest) ∙ drop_at front (text ++ rest) at long_front

  long_enough : at + length text ≤ length (patched old at text)
  long_enough = omega (arith, long_front, length-append front text, length-append (front ++ text) rest)

  -- it stands at its place
  pub text_written : (file : ℕ) → text_in (Some (patched old at text)) (record { file = file; offset = at; size = length text }) ≡ mail_in (Some text)
  text_written file =
      ap (λ (t : Bool). cond t (mail_in (Some (take (length text) (drop at (patched old at text))))) Damaged) (le-leb (at + length text) (length (patched old at text)) long_enough)
      ∙ ap (λ (b : List ℕ). mail_in (Some b)) (ap (take (length text)) behind_front ∙ take_at text rest (length text) refl)

torn_patched : (file : Option (List ℕ)) (at : ℕ) (bytes : List ℕ) → TornFile at (length bytes) file (Some (patched (unwrap_or file []) at bytes))
torn_patched None at bytes = patched_torn [] at bytes
torn_patched (Some old) at bytes = patched_torn old at bytes

pub torn_written : (file : Option (List ℕ)) (at : ℕ) (bytes : List ℕ) (c : Option (List ℕ)) → c ≡ Some (patched (unwrap_or file []) at bytes) → TornFile at (length bytes) file c
torn_written file at bytes c is = subst (TornFile at (length bytes) file) (sym is) (torn_patched file at bytes)
