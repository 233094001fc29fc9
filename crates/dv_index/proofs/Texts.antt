-- The snapshot's texts are written piece by piece.
use Rattle.std.proofs.Common.{◌≡◌, ℕ, ◌+◌, ◌<◌, List, [], ◌∷◌, ◌++◌, length, get_or, take, sym, ◌∙◌, ap, arith, append_assoc}
use Rattle.std.specs.Prelude.{All, flat_map, replicate}
use Rattle.std.specs.Int.{w16, w32, w64, to_le_bytes}
use Rattle.std.proofs.lemmas.List.{flat_map_more, take_more}
use Rattle.std.proofs.lemmas.List.Elements.{All-nil}
use Rattle.dv_model.specs.declared.types.Extension.{Extension}
use Rattle.dv_model.specs.declared.types.Mailbox.{Mailbox}
use Rattle.dv_model.specs.declared.types.Mark.{Mark}
use Rattle.dv_model.specs.declared.types.Row.{Row}
use Rattle.dv_model.specs.Mailboxes.{IsRowOf, IsValid}
use Rattle.dv_formats.specs.Snapshots.{AreBytes, Fits, IsSnapshot, current_text, extension_text, filled, header_text, keyword_bits, row_size, row_text, rows_with, tables_text}
use Rattle.dv_index.specs.Fronts.{with_rows}

-- one more item
pub text_more : {X : Type 0} (f : X → List ℕ) (xs : List X) (i : ℕ) (x : X) (out one two : List ℕ) → i < length xs → x ≡ get_or xs i x → one ≡ out ++ flat_map f (take i xs) → two ≡ one ++ f x → two ≡ out ++ flat_map f (take (i + 1) xs)
text_more f xs i x out one two below is p q =
    q ∙ ap (λ t. t ++ f x) p ∙ flat_map_more f out (take i xs) x ∙ ap (λ y. out ++ flat_map f (take i xs ++ y ∷ [])) is ∙ ap (λ ys. out ++ flat_map f ys) (sym (take_more xs i x below))

pub four_pieces : (out a b c d one two three four : List ℕ) → one ≡ out ++ a → two ≡ one ++ b → three ≡ two ++ c → four ≡ three ++ d → four ≡ out ++ (a ++ (b ++ (c ++ d)))
four_pieces out a b c d one two three four p q r s = s ∙ ap (λ t. t ++ d) (r ∙ ap (λ t. t ++ c) (q ∙ ap (λ t. t ++ b) p)) ∙ simp append_assoc

pub extension_written : (e : Extension) (out one two three four : List ℕ) → one ≡ out ++ flat_map (to_le_bytes w32) (e.reset_id ∷ length e.header ∷ [])
    → two ≡ one ++ flat_map (to_le_bytes w16) (e.record_size ∷ e.record_align ∷ e.flags ∷ length e.name ∷ []) → three ≡ two ++ filled e.name → four ≡ three ++ filled e.header → four ≡ out ++ extension_text e
extension_written e out one two three four p q r s =
    four_pieces out (flat_map (to_le_bytes w32) (e.reset_id ∷ length e.header ∷ [])) (flat_map (to_le_bytes w16) (e.record_size ∷ e.record_align ∷ e.flags ∷ length e.name ∷ [])) (filled e.name) (filled e.header) one two three four p q r s

pub row_written : (m : Mailbox) (row : Row) (out one two three : List ℕ) → one ≡ out ++ (to_le_bytes w32 row.uid ++ row.flags ∷ 0 ∷ 0 ∷ 0 ∷ to_le_bytes w64 row.modseq)
    → two ≡ one ++ keyword_bits (length m.keywords) row.keywords → three ≡ two ++ flat_map filled row.parts → three ≡ out ++ row_text 2 m row
row_written m row out one two three p q r =
    r ∙ ap (λ t. t ++ flat_map filled row.parts) (q ∙ ap (λ t. t ++ keyword_bits (length m.keywords) row.keywords) p) ∙ simp append_assoc

nine_pieces : (out a b c d e f g h i a' b' c' d' e' f' g' h' i' : List ℕ) → a' ≡ out ++ a → b' ≡ a' ++ b → c' ≡ b' ++ c → d' ≡ c' ++ d → e' ≡ d' ++ e → f' ≡ e' ++ f → g' ≡ f' ++ g → h' ≡ g' ++ h → i' ≡ h' ++ i
    → i' ≡ out ++ (a ++ (b ++ (c ++ (d ++ (e ++ (f ++ (g ++ (h ++ i))))))))
nine_pieces out a b c d e f g h i a' b' c' d' e' f' g' h' i' p q r s t u v w x =
    let first = four_pieces out a b c d a' b' c' d' p q r s in
    let second = four_pieces d' e f g h e' f' g' h' t u v w in
    x ∙ ap (λ z. z ++ i) (second ∙ ap (λ z. z ++ (e ++ (f ++ (g ++ h)))) first) ∙ simp append_assoc

last_pieces : (current seen deleted highest : List ℕ) → current ++ ((seen ++ deleted) ++ highest) ≡ current ++ seen ++ deleted ++ highest
last_pieces current seen deleted highest = simp append_assoc

-- the numbers in front of the current extension
abbrev numbers_text : Mailbox → ℕ → Mark → List ℕ → List ℕ
numbers_text m indexid mark rest =
    201 ∷ 2 ∷ to_le_bytes w16 120
    ++ to_le_bytes w32 (120 + length (tables_text m)) ++ to_le_bytes w32 (row_size 2 m) ++ to_le_bytes w32 0
    ++ to_le_bytes w32 indexid ++ to_le_bytes w32 0 ++ to_le_bytes w32 m.uid_validity ++ to_le_bytes w32 m.next_uid
    ++ to_le_bytes w32 (length m.rows) ++ to_le_bytes w32 mark.file_seq ++ to_le_bytes w32 mark.offset
    ++ to_le_bytes w32 (length m.keywords) ++ to_le_bytes w32 (length m.extensions) ++ rest

pub header_written : (m : Mailbox) (indexid : ℕ) (mark : Mark) (out current a b c d e f g h i : List ℕ)
    → a ≡ out ++ 201 ∷ 2 ∷ 120 ∷ 0 ∷ []
    → b ≡ a ++ flat_map (to_le_bytes w32) ((120 + length (tables_text m)) ∷ row_size 2 m ∷ 0 ∷ [])
    → c ≡ b ++ flat_map (to_le_bytes w32) (indexid ∷ 0 ∷ m.uid_validity ∷ m.next_uid ∷ [])
    → d ≡ c ++ flat_map (to_le_bytes w32) (length m.rows ∷ mark.file_seq ∷ mark.offset ∷ [])
    → e ≡ d ++ flat_map (to_le_bytes w32) (length m.keywords ∷ length m.extensions ∷ [])
    → f ≡ e ++ flat_map (to_le_bytes w32) current → flat_map (to_le_bytes w32) current ≡ current_text m.current
    → g ≡ f ++ flat_map (to_le_bytes w32) (rows_with 8 m ∷ rows_with 4 m ∷ [])
    → h ≡ g ++ to_le_bytes w64 m.highest → i ≡ h ++ replicate 44 0
    → i ≡ out ++ header_text 2 m indexid mark
header_written m indexid mark out current a b c d e f g h i p q r s t u is v w x =
    nine_pieces out (201 ∷ 2 ∷ 120 ∷ 0 ∷ []) (flat_map (to_le_bytes w32) ((120 + length (tables_text m)) ∷ row_size 2 m ∷ 0 ∷ []))
    (flat_map (to_le_bytes w32) (indexid ∷ 0 ∷ m.uid_validity ∷ m.next_uid ∷ [])) (flat_map (to_le_bytes w32) (length m.rows ∷ mark.file_seq ∷ mark.offset ∷ []))
    (flat_map (to_le_bytes w32) (length m.keywords ∷ length m.extensions ∷ [])) (current_text m.current) (flat_map (to_le_bytes w32) (rows_with 8 m ∷ rows_with 4 m ∷ []))
    (to_le_bytes w64 m.highest) (replicate 44 0) a b c d e f g h i p q r s t (u ∙ ap (λ z. e ++ z) is) v w x
    ∙ ap (λ z. out ++ numbers_text m indexid mark z) (last_pieces (current_text m.current) (to_le_bytes w32 (rows_with 8 m)) (to_le_bytes w32 (rows_with 4 m)) (to_le_bytes w64 m.highest ++ replicate 44 0))

-- the tables stand behind the header
pub front_written : (m : Mailbox) (indexid : ℕ) (mark : Mark) (tables one two : List ℕ) → tables ≡ tables_text m → one ≡ header_text 2 m indexid mark → two ≡ one ++ tables
    → two ≡ header_text 2 m indexid mark ++ tables_text m
front_written m indexid mark tables one two t p q = q ∙ ap (λ u. u ++ tables) p ∙ ap (λ u. header_text 2 m indexid mark ++ u) t

-- without its rows a mailbox is valid too
pub valid_head : (m : Mailbox) → IsValid m → IsValid (with_rows [] m)
valid_head m is = record {
  next_uid = is.next_uid;
  rising = λ k less. absurd (omega (arith, less));
  rows = All-nil (IsRowOf (with_rows [] m));
  names = is.names;
  extensions = is.extensions;
  current = is.current;
  highest = is.highest;
}

-- what is written is a snapshot
pub snapshot_written : (m : Mailbox) (indexid : ℕ) (mark : Mark) (front text : List ℕ) → IsValid m → Fits (with_rows [] m) indexid mark
    → All (λ row. row.flags < 256) m.rows → All (λ row. All AreBytes row.parts) m.rows
    → front ≡ header_text 2 m indexid mark ++ tables_text m → text ≡ front ++ flat_map (row_text 2 m) m.rows → IsSnapshot 2 m indexid mark text
snapshot_written m indexid mark front text valid fits flags parts p q = record {
  known = (omega arith, omega arith);
  valid = valid;
  fits = record {
    validity = fits.validity;
    flags = flags;
    parts = parts;
    extensions = fits.extensions;
    named = fits.named;
    place = fits.place;
    tables = fits.tables;
  };
  numbered = λ two_is_one. absurd (omega (arith, two_is_one));
  text = q ∙ ap (λ u. u ++ flat_map (row_text 2 m) m.rows) p;
}
