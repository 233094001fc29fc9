-- What a rebuild salvages, and the log that it writes.
use Rattle.std.specs.Prelude.{◌≡◌, refl, ℕ, true, List, [], ◌∷◌, ◌++◌, length, map, take, replicate, codes, None, Some}
use Rattle.std.specs.Fmt.{digits}
use Rattle.dv_model.specs.declared.types.Body.TheVariants as body
use Rattle.dv_model.specs.declared.types.Row.{Row}
use Rattle.dv_model.specs.Effects.{applied}
use Rattle.dv_model.specs.Mailboxes.{empty_mailbox}
use Rattle.dv_model.specs.Sessions.{external_record}
use Rattle.dv_model.specs.Spelling.{group_text}
use Rattle.dv_shelf.specs.declared.shelf.Name.TheVariants as name
use Rattle.dv_shelf.specs.Folders.{Folder, folder_of}
use Rattle.dv_logfile.specs.Layout.{new_header}
use Rattle.dv_logfile.specs.Scans.{GoodLog, Missing, Spot}
use Rattle.dv_dbox.specs.BoxTexts.{written}
use Rattle.dv_openings.specs.Rebuilds.{Rebuild, kept_of, new_indexid, rebuilt_fits, rebuilt_text, skipped_of}
use Rattle.dv_openings.specs.Salvages.{Salvaged, header_record, rebuilt_records, salvaged_in}

abbrev append_at : ℕ → ℕ → Spot
append_at place uid = record { place = place; is = external_record (body.Append (record { uid = uid; flags = 0 } ∷ [])) }

-- four messages, the second of which was seen; what follows at 140 has a fault
abbrev cut_log : GoodLog
cut_log = record {
  header = new_header 1000;
  spots =
      record { place = 40; is = header_record 24 1000 }
      ∷ append_at 56 1 ∷ append_at 72 2 ∷ append_at 88 3 ∷ append_at 104 4
      ∷ record { place = 120; is = external_record (body.FlagUpdate (record { first = 2; last = 2; add = 8; remove = 0 } ∷ [])) }
      ∷ [];
  end = 140;
}

abbrev salvaged : Salvaged
salvaged = salvaged_in (Some cut_log) Missing None

-- the messages that are kept: the file of the third is damaged
abbrev kept : List ℕ
kept = 1 ∷ 2 ∷ 4 ∷ []

abbrev mail_row : ℕ → ℕ → Row
mail_row uid flags = record { uid = uid; flags = flags; keywords = []; parts = []; modseq = 9 }

-- the new log, whose modification sequences go on behind the old ones, gives the kept messages with their flags, and the
-- UIDVALIDITY and UIDNEXT stay
rebuilt : applied (record (empty_mailbox 2000) { highest = salvaged.mailbox.highest }) (rebuilt_records salvaged kept 2000)
    ≡ Some (record (empty_mailbox 1000) { next_uid = 5; rows = mail_row 1 0 ∷ mail_row 2 8 ∷ mail_row 4 0 ∷ []; highest = 10 })
rebuilt = refl

rebuilt_size : length (group_text (record { records = rebuilt_records salvaged kept 2000 })) ≡ 64
rebuilt_size = refl

-- of an empty folder two header updates are written
rebuilt_empty : rebuilt_records (salvaged_in None Missing None) [] 1000 ≡ header_record 24 1000 ∷ header_record 28 1 ∷ []
rebuilt_empty = refl

-- ---- the new log of the folder with four messages

abbrev rebuild : Rebuild
rebuild = record { salvaged = salvaged; kept = kept; skipped = 1; indexid = new_indexid (1000 ∷ []) 2000; stamp = 2000 }

new_size : length (rebuilt_text rebuild) ≡ 108
new_size = refl

new_log : take 8 (rebuilt_text rebuild) ≡ 1 ∷ 3 ∷ 0x28 ∷ 0 ∷ 0xd0 ∷ 7 ∷ 0 ∷ 0 ∷ []
new_log = refl

new_log_fits : rebuilt_fits rebuild ≡ true
new_log_fits = refl

-- four message files, of which the third is empty, and one whose number no UID may be
abbrev mails : Folder
mails = folder_of (map (λ n. (name.Mail n, written 1001 (replicate 16 1) 1001 (codes "x"))) (1 ∷ 2 ∷ 4 ∷ 4294967295 ∷ []) ++ (name.Mail 3, []) ∷ [])

kept_files : kept_of mails (1 ∷ 2 ∷ 3 ∷ 4 ∷ 4294967295 ∷ []) ≡ kept
unfolding digits
kept_files = refl

skipped_files : skipped_of mails (1 ∷ 2 ∷ 3 ∷ 4 ∷ 4294967295 ∷ []) ≡ 2
unfolding digits
skipped_files = refl

-- ---- the new indexid

own_reading : new_indexid (1000 ∷ []) 2000 ≡ 2000
own_reading = refl

no_reading : new_indexid [] 0 ≡ 1
no_reading = refl

-- raised over each number that is used
raised_thrice : new_indexid (1001 ∷ 1000 ∷ 1002 ∷ []) 1000 ≡ 1003
raised_thrice = refl

behind_the_largest : new_indexid (4294967295 ∷ 1 ∷ []) 4294967295 ≡ 2
behind_the_largest = refl
