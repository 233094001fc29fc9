-- What is looked up in the cache file behind a command's group.
use Rattle.std.proofs.Common.{◌≡◌, ◌⊎◌, inl, inr, ⊎_elim, ℕ, ◌+◌, ◌*◌, ◌≤◌, Bool, true, false, cond, List, [], ◌∷◌, length, Option, Some, None, refl, sym, ◌∙◌, ap, subst, arith}
use Rattle.std.specs.Prelude.{IfSome, bytes_eq, codes, map, nat_le, replicate, take}
use Rattle.std.specs.Int.{w32, from_le_bytes}
use Rattle.std.proofs.lemmas.Bool.{leb-true}
use Rattle.std.proofs.lemmas.List.{length-replicate, take-replicate}
use Rattle.std.proofs.lemmas.List.Elements.{All-contains, All-weaker}
use Rattle.dv_model.specs.declared.types.Command.{Command}
use Rattle.dv_model.specs.declared.types.Extension.{Extension}
use Rattle.dv_model.specs.declared.types.Mailbox.{Mailbox}
use Rattle.dv_model.specs.declared.types.Row.{Row}
use Rattle.dv_model.specs.Sessions.{is_append}
use Rattle.dv_shelf.specs.declared.shelf.Name.TheVariants as name
use Rattle.dv_shelf.specs.Folders.{Folder}
use Rattle.dv_cache.specs.declared.row.CacheRow.{CacheRow}
use Rattle.dv_cache.specs.Finding.{IsRowAt}
use Rattle.dv_dbox.specs.Mails.{mail_in}
use Rattle.dv_openings.specs.TrueCaches.{HasTrueCache, IsCached, Look, known_of, look_at, look_in, look_of}
use Rattle.dv_cached.specs.Looks.{HasNoLook, HasOldLook, KeepsLooks}
use Rattle.dv_cached.specs.Parts.{HasNewParts, HasOldParts, KeepsParts}
use Rattle.dv_cached.specs.Laws.{Makes}
use Rattle.dv_cached.proofs.Groups.{group_kept}

-- ---- zero bytes

zero_word : (n : ℕ) → 4 ≤ n → from_le_bytes w32 (take 4 (replicate n 0)) ≡ 0
zero_word n long = ap (from_le_bytes w32) (take-replicate 4 n 0 long)

blank_at : (seq n : ℕ) (b : Bool) → nat_le 4 (length {A = ℕ} (replicate n 0)) ≡ b
    → IfSome (cond b (Some (record { seq = seq; offset = from_le_bytes w32 (take 4 (replicate n 0)) })) None) (λ (look : Look). look.offset ≡ 0)
blank_at seq n true e = let le : 4 ≤ length {A = ℕ} (replicate n 0) = leb-true 4 (length {A = ℕ} (replicate n 0)) e in zero_word n (omega (arith, le, length-replicate {A = ℕ} n 0))
blank_at seq n false e = tt

blank_by : (b : Bool) (one other : Option Look) → IfSome one (λ look. look.offset ≡ 0) → IfSome other (λ look. look.offset ≡ 0) → IfSome (cond b one other) (λ look. look.offset ≡ 0)
blank_by true one other first second = first
blank_by false one other first second = second

blank_look : (es : List Extension) → IfSome (look_in es (map (λ e. replicate e.record_size 0) es)) (λ look. look.offset ≡ 0)
blank_look [] = tt
blank_look (e ∷ es) =
    blank_by (bytes_eq e.name (codes "cache")) (look_at e.reset_id (replicate e.record_size 0)) (look_in es (map (λ e. replicate e.record_size 0) es))
    (blank_at e.reset_id e.record_size (nat_le 4 (length {A = ℕ} (replicate e.record_size 0))) refl) (blank_look es)

-- ---- what is looked up

module _ (c : Command) (m after : Mailbox) (kept : KeepsParts c m after) where
  old_look : (row : Row) → HasOldParts m row → HasOldLook m after row
  old_look row (k, old, h, at, same) =
      (k, old, h, at, (same.0, ap (look_in m.extensions) same.1 ∙ ap (λ (es : List Extension). look_in es row.parts) (sym kept.extensions)))

  new_look : (row : Row) → HasNewParts m row → HasNoLook after row
  new_look row new =
      let is : look_of after row ≡ look_in m.extensions (map (λ e. replicate e.record_size 0) m.extensions) =
      ap (λ (es : List Extension). look_in es row.parts) kept.extensions ∙ ap (look_in m.extensions) new.parts in
      subst (λ (o : Option Look). IfSome o (λ look. look.offset ≡ 0)) (sym is) (blank_look m.extensions)

  pub kept_looks : KeepsLooks m after
  kept_looks =
      All-weaker (λ row. HasOldParts m row ⊎ (is_append c ≡ true) × HasNewParts m row) (λ row. HasOldLook m after row ⊎ HasNoLook after row)
      (λ row is. ⊎_elim (λ old. inl (old_look row old)) (λ new. inr (new_look row new.1)) is) after.rows kept.rows

-- ---- what is found

pub none_at_start : (file : List ℕ) (indexid seq uid : ℕ) (row : CacheRow) → IsRowAt file indexid seq uid 0 row → ⊥
none_at_start file indexid seq uid row is =
    let counted : 0 ≡ 32 + 16 * is.entry.counted.0 = is.entry.counted.1 in
    absurd (omega (arith, counted))

module _ (folder : Folder) (indexid : ℕ) (m after : Mailbox) (true_cache : HasTrueCache folder indexid m) where
  old_true : (row : Row) (cached : CacheRow) → IsCached folder indexid after row cached → HasOldLook m after row → cached.known ≡ known_of (mail_in (folder (name.Mail row.uid)))
  old_true row cached is (k, old, h, at, same) =
      let found : IsRowAt is.file indexid is.look.seq old.uid is.look.offset cached = subst (λ (uid : ℕ). IsRowAt is.file indexid is.look.seq uid is.look.offset cached) (sym same.0) is.found in
      true_cache old cached (k, h, at) (record { file = is.file; there = is.there; look = is.look; asked = same.1 ∙ is.asked; found = found })
      ∙ ap (λ (uid : ℕ). known_of (mail_in (folder (name.Mail uid)))) same.0

  none_true : (row : Row) (cached : CacheRow) → IsCached folder indexid after row cached → HasNoLook after row → cached.known ≡ known_of (mail_in (folder (name.Mail row.uid)))
  none_true row cached is lacks =
      let start : is.look.offset ≡ 0 = subst (λ (o : Option Look). IfSome o (λ look. look.offset ≡ 0)) is.asked lacks in
      absurd (none_at_start is.file indexid is.look.seq row.uid cached (subst (λ (k : ℕ). IsRowAt is.file indexid is.look.seq row.uid k cached) start is.found))

  pub looks_true : KeepsLooks m after → HasTrueCache folder indexid after
  looks_true looks row cached here is =
      ⊎_elim (old_true row cached is) (none_true row cached is) (All-contains (λ row. HasOldLook m after row ⊎ HasNoLook after row) after.rows row looks here)

-- ---- a command's group

pub makes_parts : (c : Command) (m after : Mailbox) → Makes c m after → KeepsParts c m after
makes_parts c m after makes = group_kept c m after makes.view makes.guid makes.other makes.gives

pub makes_looks : (c : Command) (m after : Mailbox) → Makes c m after → KeepsLooks m after
makes_looks c m after makes = kept_looks c m after (makes_parts c m after makes)
