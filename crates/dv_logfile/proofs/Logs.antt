-- The text of a log, and of a log with a group more.
use Rattle.std.proofs.Common.{◌≡◌, ℕ, ◌+◌, ◌^◌, ◌<◌, ◌≤◌, All, Bool, true, false, not, ◌||◌, nat_eq, min, lit<, lit≤, List, [], ◌∷◌, ◌++◌, length, take, drop, refl, sym, ◌∙◌, ap, subst, arith, append_assoc, length-append, nat_le}
use Rattle.std.specs.Prelude.{if◌then◌else◌}
use Rattle.dv_logfile.proofs.Gate.{bytes_less, patched_range}
use Rattle.std.specs.List.{flat_map, slice_index}
use Rattle.std.specs.Int.{w16, w32, w64, from_le_bytes}
use Rattle.std.proofs.lemmas.Bool.{leb-true, le-leb, ne_eqb}
use Rattle.std.proofs.lemmas.Grind.{flat_map-append}
use Rattle.std.proofs.lemmas.List.{append-nil, drop_at, take_at, drop_all, drop-drop, drop-take, drop-append-le, take-append-drop, length-take, length-drop, get_or-take}
use Rattle.std.proofs.lemmas.List.Elements.{All-head, All-tail}
use Rattle.std.proofs.lemmas.Nat.{from_le_bytes-to_le_bytes_2, from_le_bytes-to_le_bytes_4, from_le_bytes-to_le_bytes_8}
use Rattle.dv_model.specs.declared.types.Record.{Record}
use Rattle.dv_model.specs.Spelling.{IsRecord, written, is_closed}
use Rattle.dv_shelf.specs.Folders.{patched}
use Rattle.dv_shelf.proofs.Torn.{patched_torn}
use Rattle.dv_logfile.specs.declared.header.LogHeader.{LogHeader}
use Rattle.dv_logfile.specs.Layout.{IsGroupText, IsHeader, IsLog, Spelled, closing, header_text, header_of, header_size, bytes_at, log_text, log_end, new_header, last_end, longest_log, IsWideHeader, IsGoodHeader, Begins}
use Rattle.dv_logfile.proofs.Patches.{patched_at}

-- ---- spellings

-- what is written is a spelling
pub spelled_written : (rs : List Record) (rest : List ℕ) → All IsRecord rs → Spelled rs (flat_map written rs ++ rest) rest
spelled_written [] rest all = refl
spelled_written (r ∷ rs) rest all =
    (written r, flat_map written rs ++ rest, append_assoc (written r) (flat_map written rs) rest, (All-head IsRecord r rs all).spells, spelled_written rs rest (All-tail IsRecord r rs all))

pub written_group : (text : List ℕ) (rs : List Record) → 1 ≤ length rs → All IsRecord rs → text ≡ flat_map written rs ++ closing → IsGroupText text
written_group text rs some all is = record { records = rs; some = some; spelled = subst (λ (t : List ℕ). Spelled rs t closing) (sym is) (spelled_written rs closing all) }

-- ---- a group written over the closing bytes

pub patched_closing : (a g : List ℕ) → patched (a ++ closing) (length a) (g ++ closing) ≡ a ++ g ++ closing
patched_closing a g =
    let none : drop (length (g ++ closing)) closing ≡ [] = drop_all (length (g ++ closing)) closing (omega (arith, length-append g closing)) in
    patched_at a closing (g ++ closing) ∙ ap (λ (l : List ℕ). a ++ (g ++ closing) ++ l) none ∙ append-nil (a ++ (g ++ closing)) ∙ sym (append_assoc a g closing)

-- the text of a log, with a group more
pub log_text_more : (h : LogHeader) (rs gs : List Record) → patched (log_text h rs) (log_end rs) (flat_map written gs ++ closing) ≡ log_text h (rs ++ gs)
log_text_more h rs gs =
    let front = header_text h ++ flat_map written rs in
    let end : length front ≡ log_end rs = length-append (header_text h) (flat_map written rs) in
    subst (λ (e : ℕ). patched (log_text h rs) e (flat_map written gs ++ closing) ≡ log_text h (rs ++ gs)) end
    (patched_closing front (flat_map written gs) ∙ ap (λ (l : List ℕ). l ++ closing) (append_assoc (header_text h) (flat_map written rs) (flat_map written gs) ∙ ap (λ (l : List ℕ). header_text h ++ l) (sym (flat_map-append written rs gs))))

-- ---- headers

if_true : (b : Bool) (x y z : ℕ) → b ≡ true → x ≡ y → x ≡ (if b then y else z)
if_true true x y z is same = same
if_true false x y z is same = cc

if_same : (b : Bool) (x y z : ℕ) → (b ≡ true → x ≡ y) → (if b then x else z) ≡ (if b then y else z)
if_same true x y z same = same refl
if_same false x y z same = refl

-- a header is its fields
same_header : (h k : LogHeader) → h.major_version ≡ k.major_version → h.minor_version ≡ k.minor_version → h.hdr_size ≡ k.hdr_size → h.indexid ≡ k.indexid → h.file_seq ≡ k.file_seq
    → h.prev_file_seq ≡ k.prev_file_seq → h.prev_file_offset ≡ k.prev_file_offset → h.create_stamp ≡ k.create_stamp → h.initial_modseq ≡ k.initial_modseq → h.compat_flags ≡ k.compat_flags → h ≡ k
same_header h k e1 e2 e3 e4 e5 e6 e7 e8 e9 e10 =
    let made : (a b c d e f g i j l : ℕ) → LogHeader = λ a b c d e f g i j l. record {
      major_version = a;
      minor_version = b;
      hdr_size = c;
      indexid = d;
      file_seq = e;
      prev_file_seq = f;
      prev_file_offset = g;
      create_stamp = i;
      initial_modseq = j;
      compat_flags = l;
    } in
    let is : made h.major_version h.minor_version h.hdr_size h.indexid h.file_seq h.prev_file_seq h.prev_file_offset h.create_stamp h.initial_modseq h.compat_flags ≡ k = rw (e1, e2, e3, e4, e5, e6, e7, e8, e9, e10) refl in
    is

-- the header that is written is read
pub header_read : (h : LogHeader) (rest : List ℕ) → h.hdr_size ≡ 40 → IsWideHeader h → h ≡ header_of (header_text h ++ rest)
header_read h rest forty wide =
    let size : h.hdr_size ≡ header_size (header_text h ++ rest) = sym (from_le_bytes-to_le_bytes_2 h.hdr_size wide.size) in
    let is : header_size (header_text h ++ rest) ≡ 40 = sym size ∙ forty in
    same_header h (header_of (header_text h ++ rest)) refl refl size
    (sym (from_le_bytes-to_le_bytes_4 h.indexid wide.numbers.0)) (sym (from_le_bytes-to_le_bytes_4 h.file_seq wide.numbers.1)) (sym (from_le_bytes-to_le_bytes_4 h.prev_file_seq wide.previous.0))
    (sym (from_le_bytes-to_le_bytes_4 h.prev_file_offset wide.previous.1)) (sym (from_le_bytes-to_le_bytes_4 h.create_stamp wide.numbers.2))
    (if_true _ h.initial_modseq _ 0 (le-leb 32 _ (omega (arith, is))) (sym (from_le_bytes-to_le_bytes_8 h.initial_modseq wide.modseq)))
    (if_true _ h.compat_flags _ 0 (le-leb 33 _ (omega (arith, is))) refl)

-- a header stays where its bytes do
pub header_front : (h : LogHeader) (b c : List ℕ) (e : ℕ) → IsHeader h b → h.hdr_size ≤ e → take e c ≡ take e b → h.hdr_size ≤ length c → length c ≤ longest_log → IsHeader h c
header_front h b c e header le same inside fits =
    let at = λ (p n : ℕ) (in' : p + n ≤ e). bytes_less p n e b c in' (sym same) in
    let byte = λ (p : ℕ) (in' : p < e). sym (get_or-take e b p 0 in') ∙ ap (λ (l : List ℕ). slice_index l p) (sym same) ∙ get_or-take e c p 0 in' in
    let long : 24 ≤ e = omega (arith, header.size.0) in
    let size : header_size b ≡ header_size c = ap (λ (l : List ℕ). from_le_bytes w16 l) (at 2 2 (omega arith)) in
    let size-is : header_size b ≡ h.hdr_size = sym (ap (λ (k : LogHeader). k.hdr_size) header.read) in
    record {
      read = header.read ∙ same_header (header_of b) (header_of c) (byte 0 (omega arith)) (byte 1 (omega arith)) size
          (ap (λ (l : List ℕ). from_le_bytes w32 l) (at 4 4 (omega arith))) (ap (λ (l : List ℕ). from_le_bytes w32 l) (at 8 4 (omega arith))) (ap (λ (l : List ℕ). from_le_bytes w32 l) (at 12 4 (omega arith)))
          (ap (λ (l : List ℕ). from_le_bytes w32 l) (at 16 4 (omega arith))) (ap (λ (l : List ℕ). from_le_bytes w32 l) (at 20 4 (omega arith)))
          (ap (λ (n : ℕ). if nat_le 32 n then from_le_bytes w64 (bytes_at 24 8 b) else 0) size
          ∙ if_same (nat_le 32 (header_size c)) (from_le_bytes w64 (bytes_at 24 8 b)) (from_le_bytes w64 (bytes_at 24 8 c)) 0
          (λ in'. ap (λ (l : List ℕ). from_le_bytes w64 l) (at 24 8 (omega (arith, leb-true 32 (header_size c) in', size, size-is)))))
          (ap (λ (n : ℕ). if nat_le 33 n then slice_index b 32 else 0) size
          ∙ if_same (nat_le 33 (header_size c)) (slice_index b 32) (slice_index c 32) 0 (λ in'. byte 32 (omega (arith, leb-true 33 (header_size c) in', size, size-is))));
      size = (header.size.0, inside);
      fits = fits;
      version = header.version;
      numbers = header.numbers;
      little_endian = header.little_endian;
    }

pub header_kept : (h : LogHeader) (b c : List ℕ) (e : ℕ) → IsHeader h b → h.hdr_size ≤ e → take e c ≡ take e b → length b ≤ length c → length c ≤ longest_log → IsHeader h c
header_kept h b c e header le same longer fits = header_front h b c e header le same (omega (arith, header.size.1)) fits

-- ---- spellings at the front of other bytes

-- the bytes of the spellings, which spell the records before any rest
pub record Spelling (rs : List Record) (b rest : List ℕ) : Type 0 where
  pub front : List ℕ
  pub is : b ≡ front ++ rest
  pub again : (other : List ℕ) → Spelled rs (front ++ other) other

pub spelling_of : (rs : List Record) (b rest : List ℕ) → Spelled rs b rest → Spelling rs b rest
spelling_of [] b rest s = record { front = []; is = s; again = λ other. refl }
spelling_of (r ∷ rs) b rest s =
    let more = spelling_of rs s.1 rest s.4 in
    record {
      front = s.0 ++ more.front;
      is = s.2 ∙ ap (λ (l : List ℕ). s.0 ++ l) more.is ∙ sym (append_assoc s.0 more.front rest);
      again = λ other. (s.0, more.front ++ other, append_assoc s.0 more.front other, s.3, more.again other);
    }

pub spelled_both : (rs gs : List Record) (b mid rest : List ℕ) → Spelled rs b mid → Spelled gs mid rest → Spelled (rs ++ gs) b rest
spelled_both [] gs b mid rest first second = subst (λ (l : List ℕ). Spelled gs l rest) (sym first) second
spelled_both (r ∷ rs) gs b mid rest first second = (first.0, first.1, first.2, first.3, spelled_both rs gs first.1 mid rest first.4 second)

-- ---- logs

middle : (a b c : Bool) → b ≡ true → a || b || c ≡ true
middle true true c is = refl
middle false true c is = refl
middle a false c is = cc

-- a place whose first byte isn't the first byte of a size
pub closed_by : (x : ℕ) (rest : List ℕ) → (x ≡ 128 → ⊥) → is_closed (x ∷ rest) ≡ true
closed_by x rest other = middle _ (not (nat_eq x 128)) _ (ap not (ne_eqb x 128 other))

-- a log begins with its records
pub log_begins : (h : LogHeader) (rs : List Record) (e : ℕ) (b : List ℕ) → IsLog h rs e b → Begins h rs e b
log_begins h rs e b log =
    let spelling = spelling_of rs (drop h.hdr_size b) log.rest log.spelled in
    let hdr = h.hdr_size in
    let end : hdr + length spelling.front ≡ e = omega (arith, ap length spelling.is, length-append spelling.front log.rest, length-drop hdr b, log.ends, log.header.size.1) in
    let rest : drop e b ≡ log.rest =
    ap (λ (n : ℕ). drop n b) (sym end) ∙ sym (drop-drop (length spelling.front) hdr b) ∙ ap (λ (l : List ℕ). drop (length spelling.front) l) spelling.is ∙ drop_at spelling.front log.rest (length spelling.front) refl in
    record {
      header = log.header;
      spelled = subst (λ (l : List ℕ). Spelled rs (drop hdr b) l) (sym rest) log.spelled;
      behind = (omega (arith, end), omega (arith, log.ends));
      fits = log.fits;
    }

module _ (h : LogHeader) (rs : List Record) (e : ℕ) (b : List ℕ) (begun : Begins h rs e b) where
  -- the records stand in any file with these bytes in front
  pub begins_kept : (c : List ℕ) → take e c ≡ take e b → length b ≤ length c → length c ≤ longest_log → Begins h rs e c
  begins_kept c same longer fits =
      let hdr = h.hdr_size in
      let spelling = spelling_of rs (drop hdr b) (drop e b) begun.spelled in
      let end : hdr + length spelling.front ≡ e =
      omega (arith, ap length spelling.is, length-append spelling.front (drop e b), length-drop hdr b, length-drop e b, begun.behind.0, begun.behind.1) in
      let in-c : drop hdr c ≡ drop hdr (take e c) ++ drop e c =
      ap (λ (l : List ℕ). drop hdr l) (sym (take-append-drop e c)) ∙ drop-append-le hdr (take e c) (drop e c) (omega (arith, length-take e c, begun.behind.0, begun.behind.1)) in
      let front : drop hdr (take e c) ≡ spelling.front =
      ap (λ (l : List ℕ). drop hdr l) same ∙ ap (λ (k : ℕ). drop hdr (take k b)) (sym end) ∙ drop-take hdr (length spelling.front) b ∙ ap (λ (l : List ℕ). take (length spelling.front) l) spelling.is
      ∙ take_at spelling.front (drop e b) (length spelling.front) refl in
      record {
        header = header_kept h b c e begun.header begun.behind.0 same longer fits;
        spelled = subst (λ (l : List ℕ). Spelled rs l (drop e c)) (sym (in-c ∙ ap (λ (l : List ℕ). l ++ drop e c) front)) (spelling.again (drop e c));
        behind = (begun.behind.0, omega (arith, begun.behind.1));
        fits = begun.fits;
      }

-- where no record begins at e, the file is a log of those records
pub log_closed : (h : LogHeader) (rs : List Record) (e : ℕ) (b : List ℕ) → Begins h rs e b → is_closed (drop e b) ≡ true → IsLog h rs e b
log_closed h rs e b begun closed = record {
  header = begun.header;
  rest = drop e b;
  spelled = begun.spelled;
  closed = closed;
  ends = omega (arith, length-drop e b, begun.behind.1);
  fits = begun.fits;
}

-- where a group and the closing bytes stand at e, it is a log of the group's records too
pub log_grown : (h : LogHeader) (rs gs : List Record) (e end : ℕ) (b text : List ℕ) → Begins h rs e b → Spelled gs text closing → bytes_at e (length text) b ≡ text → end + 4 ≡ e + length text → end ≤ last_end → IsLog h (rs ++ gs) end b
log_grown h rs gs e end b text begun group there end-is short =
    let g = spelling_of gs text closing group in
    let behind = drop (length text) (drop e b) in
    let in-b : drop e b ≡ g.front ++ (closing ++ behind) = sym (take-append-drop (length text) (drop e b)) ∙ ap (λ (l : List ℕ). l ++ behind) (there ∙ g.is) ∙ append_assoc g.front closing behind in
    let long : length text ≡ length g.front + 4 = ap length g.is ∙ length-append g.front closing in
    let second : Spelled gs (drop e b) (closing ++ behind) = subst (λ (l : List ℕ). Spelled gs l (closing ++ behind)) (sym in-b) (g.again (closing ++ behind)) in
    record {
      header = begun.header;
      rest = closing ++ behind;
      spelled = spelled_both rs gs (drop h.hdr_size b) (drop e b) (closing ++ behind) begun.spelled second;
      closed = closed_by 0 (0 ∷ 0 ∷ 0 ∷ behind) (λ is. cc);
      ends = omega (arith, ap length in-b, length-append g.front (closing ++ behind), length-drop e b, begun.behind.1);
      fits = short;
    }

-- ---- logs that were written

-- what is written is a log of its records
pub written_log : (h : LogHeader) (rs : List Record) → IsGoodHeader h → All IsRecord rs → log_end rs ≤ last_end → IsLog h rs (log_end rs) (log_text h rs)
written_log h rs good all fits =
    let records = flat_map written rs in
    let text-is : log_text h rs ≡ header_text h ++ (records ++ closing) = append_assoc (header_text h) records closing in
    let long : length (log_text h rs) ≡ log_end rs + 4 = omega (arith, ap length text-is, length-append (header_text h) (records ++ closing), length-append records closing) in
    let behind : drop h.hdr_size (log_text h rs) ≡ records ++ closing = ap (λ (n : ℕ). drop n (log_text h rs)) good.size ∙ ap (λ (l : List ℕ). drop 40 l) text-is in
    record {
      header = record {
        read = header_read h (records ++ closing) good.size good.wide ∙ ap header_of (sym text-is);
        size = (omega (arith, good.size), omega (arith, good.size, long));
        fits = omega (arith, long);
        version = good.version;
        numbers = good.numbers;
        little_endian = λ le. good.little_endian;
      };
      rest = closing;
      spelled = subst (λ (l : List ℕ). Spelled rs l closing) (sym behind) (spelled_written rs closing all);
      closed = refl;
      ends = sym long;
      fits = fits;
    }

pub good_new_header : (n : ℕ) → 1 ≤ n → n < 2 ^ 32 → IsGoodHeader (new_header n)
good_new_header n some below = record {
  size = refl;
  wide = record { size = lit< tt; numbers = (below, lit< tt, below); previous = (lit< tt, lit< tt); modseq = lit< tt };
  version = refl;
  numbers = (some, lit≤ tt);
  little_endian = refl;
}

-- so is a new file behind its first groups
pub new_log : (n : ℕ) (rs : List Record) → 1 ≤ n → n < 2 ^ 32 → All IsRecord rs → log_end rs ≤ last_end → IsLog (new_header n) rs (log_end rs) (log_text (new_header n) rs)
new_log n rs some below all fits = written_log (new_header n) rs (good_new_header n some below) all fits

-- a group's text, written at the end of a log, makes a log of its records too
pub log_more : (h : LogHeader) (rs gs : List Record) (e end : ℕ) (b text : List ℕ) → IsLog h rs e b → Spelled gs text closing → end + 4 ≡ e + length text → end ≤ last_end → IsLog h (rs ++ gs) end (patched b e text)
log_more h rs gs e end b text log group end-is fits =
    let torn = patched_torn b e text in
    let whole : min e (length b) ≡ e = omega (arith, log.ends) in
    let begun = begins_kept h rs e b (log_begins h rs e b log) (patched b e text) (subst (λ (k : ℕ). take k (patched b e text) ≡ take k b) whole torn.before) torn.no_shorter (omega (arith, torn.no_longer, log.header.fits)) in
    log_grown h rs gs e end (patched b e text) text begun group (patched_range b e text) end-is fits
