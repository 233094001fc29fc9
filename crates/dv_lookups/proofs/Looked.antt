-- What is found in the bytes of a cache file is what the folder's has for a row, and its fields are
-- the message's.
use Rattle.std.proofs.Common.{◌≡◌, ℕ, true, ◌&&◌, List, map, Option, Some, None, sym, ◌∙◌, ap, subst, bytes_eq}
use Rattle.std.specs.Prelude.{IsSomeAnd, find, is_some, position, slice_get}
use Rattle.std.specs.Option.{option_map}
use Rattle.std.specs.Str.{str_to_ascii_lowercase}
use Rattle.std.proofs.lemmas.Option.{same_Some, slice_get-map}
use Rattle.std.proofs.lemmas.Slice.Eq.{bytes_eq-Decides}
use Rattle.dv_model.specs.declared.types.Mailbox.{Mailbox}
use Rattle.dv_model.specs.declared.types.Row.{Row}
use Rattle.dv_model.specs.Fields.{field_name, field_of, field_value, header_lines, is_colon, unfolded}
use Rattle.dv_shelf.specs.declared.shelf.Name.TheVariants as name
use Rattle.dv_shelf.specs.Folders.{Folder}
use Rattle.dv_cache.specs.declared.row.Known.{Known}
use Rattle.dv_cache.specs.Finding.{IsRowAt}
use Rattle.dv_openings.specs.TrueCaches.{Look, kept_names, look_of}
use Rattle.dv_lookups.specs.declared.cache_file.CacheFile.{CacheFile}
use Rattle.dv_lookups.specs.declared.cache_file.CacheFile.TheVariants as cache
use Rattle.dv_lookups.specs.Finds.{IsFoundIn, bytes_of}
use Rattle.dv_lookups.specs.Kept.{IsFileOf, IsLookedUp, is_read, same_name}

module _ (folder : Folder) (indexid : ℕ) (m : Mailbox) (row : Row) (look : Look) (asked : look_of m row ≡ Some look) where
  in_bytes : (bytes : List ℕ) (o : Option Known) → folder name.Cache ≡ Some bytes → IsFoundIn (Some bytes) indexid look row.uid o → IsLookedUp folder indexid m row o
  in_bytes bytes None there none = λ cached is.
      let same : is.file ≡ bytes = same_Some is.file bytes (sym is.there ∙ there) in
      let at : is.look ≡ look = same_Some is.look look (sym is.asked ∙ asked) in
      none cached (subst (λ (l : Look). IsRowAt bytes indexid l.seq row.uid l.offset cached) at (subst (λ (b : List ℕ). IsRowAt b indexid is.look.seq row.uid is.look.offset cached) same is.found))
  in_bytes bytes (Some known) there found = record { file = bytes; there = there; look = look; asked = asked; found = found }

  in_none : (o : Option Known) → folder name.Cache ≡ None → IsFoundIn None indexid look row.uid o → IsLookedUp folder indexid m row o
  in_none None there is = λ cached other.
      let no : None ≡ Some other.file = sym there ∙ other.there in
      absurd cc
  in_none (Some known) there is = absurd (cc)

  pub found_there : (file : CacheFile) (o : Option Known) → IsFileOf folder file → is_read file ≡ true → IsFoundIn (bytes_of file) indexid look row.uid o → IsLookedUp folder indexid m row o
  found_there cache.Unread o same read found = absurd (cc)
  found_there (cache.Read None) o same read found = in_none o (sym same) found
  found_there (cache.Read (Some bytes)) o same read found = in_bytes bytes o (sym same) found

-- ---- fields

-- one name for another
pub field_same : (message kept name : List ℕ) → same_name kept name ≡ true → field_of message kept ≡ field_of message name
field_same message kept name same =
    ap (λ (lower : List ℕ). option_map field_value (find (λ (field : List ℕ). is_some (position is_colon field) && bytes_eq (str_to_ascii_lowercase (field_name field)) lower) (unfolded (header_lines message))))
    ((bytes_eq-Decides (str_to_ascii_lowercase kept) (str_to_ascii_lowercase name)).0 same)

-- the field stands at the place of its name
pub field_at : (message name : List ℕ) (at : ℕ) → IsSomeAnd (slice_get kept_names at) (λ kept. same_name kept name ≡ true) → slice_get (map (field_of message) kept_names) at ≡ Some (field_of message name)
field_at message name at is = slice_get-map (field_of message) kept_names at ∙ by_name (slice_get kept_names at) is
  where
    by_name : (o : Option (List ℕ)) → IsSomeAnd o (λ kept. same_name kept name ≡ true) → option_map (field_of message) o ≡ Some (field_of message name)
    by_name None is = absurd is
    by_name (Some kept) is = ap Some (field_same message kept name is)
