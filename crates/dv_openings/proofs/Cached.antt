-- A cache file that is written of messages is true of them.
use Rattle.std.proofs.Common.{◌≡◌, ◌^◌, ◌<◌, ℕ, List, [], ◌∷◌, All, Contains, Some, None, refl, sym, ◌∙◌, ap, subst}
use Rattle.std.proofs.lemmas.List.Elements.{All-cons, All-contains, All-nil}
use Rattle.std.proofs.lemmas.Option.{same_Some}
use Rattle.dv_model.specs.declared.types.Mailbox.{Mailbox}
use Rattle.dv_model.specs.declared.types.Row.{Row}
use Rattle.dv_model.specs.Journals.{Mail}
use Rattle.dv_shelf.specs.declared.shelf.Name.TheVariants as name
use Rattle.dv_shelf.specs.Folders.{Folder}
use Rattle.dv_cache.specs.declared.row.CacheRow.{CacheRow}
use Rattle.dv_cache.specs.Caches.{cache_text}
use Rattle.dv_cache.specs.Finding.{IsRowAt}
use Rattle.dv_cache.specs.Written.{AreWritable}
use Rattle.dv_cache.proofs.Again.{only_written}
use Rattle.dv_dbox.specs.Mails.{mail_in}
use Rattle.dv_openings.specs.TrueCaches.{HasTrueCache, cached_rows, known_of}

-- what is written of a row is what is known of its message
abbrev IsKnown : (ℕ → Mail) → CacheRow → Type 0
IsKnown mail row = row.known ≡ known_of (mail row.uid)

all_known : (mail : ℕ → Mail) (m : Mailbox) (rows : List Row)
    → All (IsKnown mail) (cached_rows mail (record m { rows = rows }))
all_known mail m [] = All-nil (IsKnown mail)
all_known mail m (row ∷ rows) =
    All-cons (IsKnown mail) (record { uid = row.uid; known = known_of (mail row.uid) })
    (cached_rows mail (record m { rows = rows })) refl (all_known mail m rows)

pub none_true : (folder : Folder) (indexid : ℕ) (m : Mailbox) → folder name.Cache ≡ None
    → HasTrueCache folder indexid m
none_true folder indexid m none row cached here is =
    let no : None ≡ Some is.file = sym none ∙ is.there in
    absurd cc

pub written_true : (folder : Folder) (indexid number seq : ℕ) (mail : ℕ → Mail) (m now : Mailbox)
    → number < 2 ^ 32 → seq < 2 ^ 32 → AreWritable (cached_rows mail m)
    → folder name.Cache ≡ Some (cache_text number seq (cached_rows mail m))
    → ((row : Row) → Contains now.rows row → mail row.uid ≡ mail_in (folder (name.Mail row.uid)))
    → HasTrueCache folder indexid now
written_true folder indexid number seq mail m now p q ok cache same row cached here is =
    let rows = cached_rows mail m in
    let file : is.file ≡ cache_text number seq rows = same_Some is.file (cache_text number seq rows) (sym is.there ∙ cache) in
    let found = subst (λ b. IsRowAt b indexid is.look.seq row.uid is.look.offset cached) file is.found in
    let written = only_written number seq indexid is.look.seq row.uid is.look.offset rows cached p q ok found in
    let known : cached.known ≡ known_of (mail cached.uid) = All-contains (IsKnown mail) rows cached (all_known mail m m.rows) written in
    let uid : cached.uid ≡ row.uid = ap (λ r. r.uid) is.found.is in
    known ∙ ap (λ u. known_of (mail u)) uid ∙ ap known_of (same row here)
