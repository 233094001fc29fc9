-- What the group of CHECK leaves to be looked up in the cache file.
use Rattle.std.specs.Prelude.{◌≡◌, ◌+◌, ◌*◌, ◌≤◌, ℕ, List, [], ◌∷◌, ◌++◌, length, Option, Some, None, slice_get, codes, true}
use Rattle.dv_model.specs.declared.types.Extension.{Extension}
use Rattle.dv_model.specs.declared.types.Intro.{Intro}
use Rattle.dv_model.specs.declared.types.Mailbox.{Mailbox}
use Rattle.dv_model.specs.declared.types.Row.{Row}
use Rattle.dv_model.specs.Effects.{applied, fit, grown_extension, introduced, new_extension, no_id, with_item}
use Rattle.dv_model.specs.Mailboxes.{IsValid}
use Rattle.dv_model.specs.Sessions.{cache_number, check_records, next_number}
use Rattle.dv_openings.specs.TrueCaches.{look_of}

-- the extension `cache` is introduced under its own number, with four bytes for each row
abbrev pub cache_intro : Mailbox → Intro
cache_intro m = record {
  ext_id = no_id;
  reset_id = cache_number m;
  hdr_size = 0;
  record_size = 4;
  record_align = 4;
  flags = 0;
  name = codes "cache";
}

-- the extensions with it
abbrev pub with_cache : List Extension → Intro → List Extension
with_cache es intro = at (introduced es intro)
  where
    at : Option ℕ → List Extension
    at None = es ++ new_extension intro ∷ []
    at (Some k) = with_item k (grown_extension intro) es

-- they are within a mailbox's limits
abbrev pub HasRoom : Mailbox → Type 0
HasRoom m = fit (with_cache m.extensions (cache_intro m)) ≡ true

-- row i is then looked up at the place 32 + 16 i under the next number
abbrev pub ChecksPlaceRows : Type 0
ChecksPlaceRows =
    (m after : Mailbox) (i : ℕ) (row : Row)
    → IsValid m
    → HasRoom m
    → length m.rows ≤ 8388608
    → applied m (check_records m) ≡ Some after
    → slice_get after.rows i ≡ Some row
    → look_of after row
    ≡ Some (record { seq = next_number (cache_number m); offset = 32 + 16 * i })
