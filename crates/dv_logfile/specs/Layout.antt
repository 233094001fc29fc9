-- The bytes of a log file (Dovecot's mail-transaction-log.h).
use Rattle.std.specs.Prelude.{◌≡◌, ℕ, ◌+◌, ◌%◌, ◌^◌, ◌<◌, ◌≤◌, true, List, [], ◌∷◌, ◌++◌, length, take, drop, replicate, flat_map, nat_le, slice_index, if◌then◌else◌}
use Rattle.std.specs.Int.{w16, w32, w64, to_le_bytes, from_le_bytes}
use Rattle.dv_model.specs.declared.types.Record.{Record}
use Rattle.dv_model.specs.Spelling.{Spells, written, is_closed}
use Rattle.dv_logfile.specs.declared.header.LogHeader.{LogHeader}

-- the longest file
abbrev pub longest_log : ℕ
longest_log = 1073741824

-- the last place where a record may end, so that four bytes more fit
abbrev pub last_end : ℕ
last_end = 1073741820

-- the header that is written: 40 bytes, of which the last seven aren't used
abbrev pub header_text : LogHeader → List ℕ
header_text h =
    h.major_version ∷ h.minor_version ∷ to_le_bytes w16 h.hdr_size ++ to_le_bytes w32 h.indexid ++ to_le_bytes w32 h.file_seq ++ to_le_bytes w32 h.prev_file_seq
    ++ to_le_bytes w32 h.prev_file_offset ++ to_le_bytes w32 h.create_stamp ++ to_le_bytes w64 h.initial_modseq ++ h.compat_flags ∷ replicate 7 0

-- a new file: version 1.3, the first of its kind
abbrev pub new_header : ℕ → LogHeader
new_header n = record {
  major_version = 1;
  minor_version = 3;
  hdr_size = 40;
  indexid = n;
  file_seq = 1;
  prev_file_seq = 0;
  prev_file_offset = 0;
  create_stamp = n;
  initial_modseq = 1;
  compat_flags = 1;
}

-- n bytes from a place on
abbrev pub bytes_at : ℕ → ℕ → List ℕ → List ℕ
bytes_at at n b = take n (drop at b)

-- the place of the first record, as a file says it
abbrev pub header_size : List ℕ → ℕ
header_size b = from_le_bytes w16 (bytes_at 2 2 b)

-- the header that a file begins with: a field that doesn't stand wholly in the header's size is 0
abbrev pub header_of : List ℕ → LogHeader
header_of b = record {
  major_version = slice_index b 0;
  minor_version = slice_index b 1;
  hdr_size = header_size b;
  indexid = from_le_bytes w32 (bytes_at 4 4 b);
  file_seq = from_le_bytes w32 (bytes_at 8 4 b);
  prev_file_seq = from_le_bytes w32 (bytes_at 12 4 b);
  prev_file_offset = from_le_bytes w32 (bytes_at 16 4 b);
  create_stamp = from_le_bytes w32 (bytes_at 20 4 b);
  initial_modseq = if nat_le 32 (header_size b) then from_le_bytes w64 (bytes_at 24 8 b) else 0;
  compat_flags = if nat_le 33 (header_size b) then slice_index b 32 else 0;
}

-- a file begins with this header, and the header is one that is taken
pub record IsHeader (h : LogHeader) (b : List ℕ) : Type 0 where
  pub read : h ≡ header_of b
  pub size : (24 ≤ h.hdr_size) × (h.hdr_size ≤ length b)
  pub fits : length b ≤ longest_log
  pub version : h.major_version ≡ 1
  pub numbers : (1 ≤ h.indexid) × (1 ≤ h.file_seq)
  pub little_endian : 33 ≤ h.hdr_size → h.compat_flags % 2 ≡ 1

-- each number fits its place
pub record IsWideHeader (h : LogHeader) : Type 0 where
  pub size : h.hdr_size < 2 ^ 16
  pub numbers : (h.indexid < 2 ^ 32) × (h.file_seq < 2 ^ 32) × (h.create_stamp < 2 ^ 32)
  pub previous : (h.prev_file_seq < 2 ^ 32) × (h.prev_file_offset < 2 ^ 32)
  pub modseq : h.initial_modseq < 2 ^ 64

-- a header as it is written in a file that is taken
pub record IsGoodHeader (h : LogHeader) : Type 0 where
  pub size : h.hdr_size ≡ 40
  pub wide : IsWideHeader h
  pub version : h.major_version ≡ 1
  pub numbers : (1 ≤ h.indexid) × (1 ≤ h.file_seq)
  pub little_endian : h.compat_flags % 2 ≡ 1

-- spellings of the records, one after another, and then the rest
abbrev pub Spelled : List Record → List ℕ → List ℕ → Type 0
Spelled [] b rest = b ≡ rest
Spelled (r ∷ rs) b rest = (text behind : List ℕ) × (b ≡ text ++ behind) × Spells r text × Spelled rs behind rest

-- the four zero bytes that stand behind the records of a file that was written: a closed place
abbrev pub closing : List ℕ
closing = 0 ∷ 0 ∷ 0 ∷ 0 ∷ []

-- a text that a commit takes: a group of records, and four zero bytes
pub record IsGroupText (text : List ℕ) : Type 0 where
  pub records : List Record
  pub some : 1 ≤ length records
  pub spelled : Spelled records text closing

-- a whole file: a header, records, and behind them a place where no record begins
pub record IsLog (h : LogHeader) (records : List Record) (end : ℕ) (b : List ℕ) : Type 0 where
  pub header : IsHeader h b
  pub rest : List ℕ
  pub spelled : Spelled records (drop h.hdr_size b) rest
  pub closed : is_closed rest ≡ true
  pub ends : end + length rest ≡ length b
  pub fits : end ≤ last_end

-- the same log
pub record IsOneLog (h k : LogHeader) (rs ss : List Record) (e f : ℕ) : Type 0 where
  pub header : h ≡ k
  pub records : rs ≡ ss
  pub end : e ≡ f

-- a file that begins with these records, up to e
pub record Begins (h : LogHeader) (records : List Record) (e : ℕ) (b : List ℕ) : Type 0 where
  pub header : IsHeader h b
  pub spelled : Spelled records (drop h.hdr_size b) (drop e b)
  pub behind : (h.hdr_size ≤ e) × (e ≤ length b)
  pub fits : e ≤ last_end

-- the file of these records as it is written
abbrev pub log_text : LogHeader → List Record → List ℕ
log_text h records = header_text h ++ flat_map written records ++ closing

-- where its records end
abbrev pub log_end : List Record → ℕ
log_end records = 40 + length (flat_map written records)
