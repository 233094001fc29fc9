-- A message file, what it is taken as, and what is looked up in the cache file and is true there.
use Rattle.std.specs.Prelude.{◌≡◌, refl, ℕ, List, [], ◌∷◌, ◌++◌, replicate, codes, Option, None, Some, Ok, map, option_map}
use Rattle.std.specs.Fmt.{digits}
use Rattle.dv_model.specs.declared.types.Mailbox.{Mailbox}
use Rattle.dv_model.specs.Effects.{applied}
use Rattle.dv_model.specs.Fields.{field_of, physical_size, virtual_size}
use Rattle.dv_model.specs.Journals.{Damaged, Held, new_guid}
use Rattle.dv_model.specs.Mailboxes.{empty_mailbox}
use Rattle.dv_model.specs.Sessions.{check_records}
use Rattle.dv_dbox.specs.BoxTexts.{box_content, written}
use Rattle.dv_dbox.specs.Mails.{guid_in, mail_in}
use Rattle.dv_openings.specs.TrueCaches.{Look, known_of, look_at, look_of}

-- ---- a usual message file

abbrev message : List ℕ
message = codes "Subject: Hello" ++ 13 ∷ 10 ∷ codes " world" ++ 13 ∷ 10 ∷ 13 ∷ 10 ∷ codes "Hi" ++ 10 ∷ []

abbrev file : List ℕ
file =
    codes "2 M1e C4a6f7b2c" ++ 10 ∷ 1 ∷ 2 ∷ codes "N          000000000000001D" ++ 10 ∷ message ++ 10 ∷ 1 ∷ 3 ∷ 10
    ∷ codes "G0123456789abcdef0123456789ABCDEF" ++ 10 ∷ codes "R4a6f7b2c" ++ 10 ∷ codes "Z1d" ++ 10 ∷ codes "V1e" ++ 10 ∷ codes "Xabc" ++ 10 ∷ 10 ∷ []

is_read : box_content file
    ≡ Ok (record {
      stamp = 0x4a6f7b2c;
      bytes = message;
      guid = Some (0x01 ∷ 0x23 ∷ 0x45 ∷ 0x67 ∷ 0x89 ∷ 0xab ∷ 0xcd ∷ 0xef ∷ 0x01 ∷ 0x23 ∷ 0x45 ∷ 0x67 ∷ 0x89 ∷ 0xab ∷ 0xcd ∷ 0xef ∷ []);
      received = Some 0x4a6f7b2c;
      physical = Some 29;
      virtual_size = Some 30;
      others = codes "Xabc" ∷ [];
    })
is_read = refl

is_held : mail_in (Some file) ≡ Held message
is_held = refl

sizes : (physical_size message ∷ virtual_size message ∷ []) ≡ 29 ∷ 30 ∷ []
sizes = refl

subject : field_of message (codes "subject") ≡ Some (codes "Hello world")
subject = refl

is_missing : mail_in None ≡ Damaged
is_missing = refl

is_empty : mail_in (Some []) ≡ Damaged
is_empty = refl

no_guid : guid_in (Some []) ≡ replicate 16 0
no_guid = refl

-- ---- the file of an appended message

abbrev first_guid : List ℕ
first_guid = new_guid 1000 1000 1 1001

first_file : written 1001 first_guid 1001 (codes "hello")
    ≡ codes "2 M1e C3e9" ++ 10 ∷ 1 ∷ 2 ∷ codes "N          0000000000000005" ++ 10 ∷ codes "hello" ++ 10 ∷ 1 ∷ 3 ∷ 10
    ∷ codes "G000003e8000003e800000001000003e9" ++ 10 ∷ codes "R3e9" ++ 10 ∷ codes "Z5" ++ 10 ∷ codes "V5" ++ 10 ∷ 10 ∷ []
unfolding digits
first_file = refl

first_is_held : mail_in (Some (written 1001 first_guid 1001 (codes "hello"))) ≡ Held (codes "hello")
unfolding digits
first_is_held = refl

first_is_named : guid_in (Some (written 1001 first_guid 1001 (codes "hello"))) ≡ first_guid
unfolding digits
first_is_named = refl

-- ---- the cache

abbrev mailbox : Mailbox
mailbox = record (empty_mailbox 1000) { next_uid = 2; rows = record { uid = 1; flags = 8; keywords = []; parts = []; modseq = 4 } ∷ []; highest = 4 }

-- before a CHECK nothing is looked up; behind it the first row is, right behind the header
abbrev looks : Mailbox → List (Option Look)
looks m = map (look_of m) m.rows

nothing_before : looks mailbox ≡ None ∷ []
nothing_before = refl

first_behind : option_map looks (applied mailbox (check_records mailbox)) ≡ Some (Some (record { seq = 1; offset = 32 }) ∷ [])
first_behind = refl

-- a part of fewer than four bytes names no place
short_part : look_at 1 (32 ∷ 0 ∷ 0 ∷ []) ≡ None
short_part = refl

known_first : known_of (Held (codes "hello")) ≡ Some (record { physical = 5; virtual_size = 5; fields = None ∷ None ∷ None ∷ None ∷ None ∷ [] })
known_first = refl

known_subject : known_of (Held message) ≡ Some (record { physical = 29; virtual_size = 30; fields = None ∷ None ∷ None ∷ Some (codes "Hello world") ∷ None ∷ [] })
known_subject = refl

known_damaged : known_of Damaged ≡ None
known_damaged = refl
