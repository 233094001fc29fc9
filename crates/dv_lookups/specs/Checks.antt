-- The cache file of the mailbox's messages, and its rows as they are held until it is written.
use Rattle.std.specs.Prelude.{◌≡◌, ◌+◌, ◌*◌, ◌^◌, ◌<◌, ℕ, Bool, ◌&&◌, nat_le, List, map, Option, Some, None, if◌then◌else◌}
use Rattle.dv_model.specs.declared.types.Mailbox.{Mailbox}
use Rattle.dv_model.specs.declared.types.Row.{Row}
use Rattle.dv_model.specs.Journals.{Mail, Held, Damaged}
use Rattle.dv_cache.specs.declared.row.CacheRow.{CacheRow}
use Rattle.dv_cache.specs.declared.row.Known.{Known}
use Rattle.dv_cache.specs.Begun.{Begun, begun}
use Rattle.dv_cache.specs.Caches.{cache_text}
use Rattle.dv_cache.specs.Written.{AreWritable}
use Rattle.dv_openings.specs.TrueCaches.{cached_rows, known_in}

-- ---- rows

-- sizes that are kept
abbrev pub has_sizes : Known → Bool
has_sizes known = nat_le known.physical 2147483648 && nat_le known.virtual_size 2147483648

-- what is known of a message is held with such sizes alone
abbrev pub kept_of : Known → Option Known
kept_of known = if has_sizes known then Some known else None

-- what is held of a message until it is written
abbrev pub held_of : Mail → Option Known
held_of Damaged = None
held_of (Held message) = kept_of (known_in message)

-- the row of a message
abbrev pub held_row : (ℕ → Mail) → ℕ → CacheRow
held_row mail uid = record { uid = uid; known = held_of (mail uid) }

-- those of the mailbox's rows
abbrev pub held_rows : (ℕ → Mail) → List Row → List CacheRow
held_rows mail rows = map (λ row. held_row mail row.uid) rows

-- the text of a file of so many rows, of which the rows of these messages were added
abbrev pub held_text : (ℕ → Mail) → ℕ → List Row → Begun
held_text mail count rows = begun (32 + 16 * count) (held_rows mail rows)

-- the UIDs of the mailbox's rows
abbrev pub row_uids : Mailbox → List ℕ
row_uids m = map (λ row. row.uid) m.rows

-- ---- the file

-- the cache file of the messages of the mailbox's rows, under this number and sequence
pub record IsCacheText (indexid seq : ℕ) (mail : ℕ → Mail) (m : Mailbox) (text : List ℕ)
    : Type 0 where
  pub wide : (indexid < 2 ^ 32) × (seq < 2 ^ 32)
  pub writable : AreWritable (cached_rows mail m)
  pub is : text ≡ cache_text indexid seq (cached_rows mail m)
