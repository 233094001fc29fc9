-- Worked instances.
use Rattle.std.proofs.Common.{◌≡◌, ℕ, ◌-◌, ◌^◌, ◌<◌, List, [], ◌∷◌, Some, None, refl, arith}
use Rattle.std.specs.Prelude.{codes}
use Rattle.dv_model.specs.declared.types.Body.TheVariants.{Append, ExtIntro, Expunge, FlagUpdate, HeaderUpdate}
use Rattle.dv_model.specs.declared.types.Command.TheVariants as command
use Rattle.dv_model.specs.declared.types.Extension.{Extension}
use Rattle.dv_model.specs.declared.types.Mailbox.{Mailbox}
use Rattle.dv_model.specs.declared.types.Record.{Record}
use Rattle.dv_model.specs.Effects.{after_record, applied}
use Rattle.dv_model.specs.Journals.{IsEntry}
use Rattle.dv_model.specs.Mailboxes.{IsValid, empty_mailbox, last_modseq}
use Rattle.dv_model.specs.Sessions.{group_of}
use Rattle.dv_model.specs.Spelling.{IsRecord}
use Rattle.dv_model.specs.Views.{empty_view}

-- ---- a UIDNEXT of 33 bits

-- bytes 28 to 31 of the header, of which the last is no byte
abbrev wide_record : Record
wide_record = record { top = 0; body = HeaderUpdate (record { offset = 28; bytes = 0 ∷ 0 ∷ 0 ∷ 256 ∷ [] } ∷ []) }

abbrev wide_mailbox : Mailbox
wide_mailbox = record (empty_mailbox 1) { next_uid = 2 ^ 32; highest = 2 }

-- the spelling alone doesn't say that its items are bytes
wide_is_record : IsRecord wide_record
wide_is_record = record {
  spells = record {
    size = refl;
    below = omega arith;
    type = refl;
    payload = (omega arith, (record { size = refl; fields = refl; short = omega arith; place = omega arith }, refl));
    top = omega arith;
  };
}

-- without bytes the UIDNEXT has 33 bits
wide_is : after_record (empty_mailbox 1) wide_record ≡ Some wide_mailbox
wide_is = refl

wide_is_not_valid : IsValid wide_mailbox → ⊥
wide_is_not_valid valid = let below : 2 ^ 32 < 2 ^ 32 = valid.next_uid.1 in absurd (omega arith)

-- ---- the last UID

-- a message may have UID 4294967294, and the UIDNEXT is then the largest number
last_uid : applied (record (empty_mailbox 1) { next_uid = 4294967294 }) (record { top = 1; body = Append (record { uid = 4294967294; flags = 0 } ∷ []) } ∷ [])
    ≡ Some (record (empty_mailbox 1) { next_uid = 4294967295; highest = 2; rows = record { uid = 4294967294; flags = 0; keywords = []; parts = []; modseq = 2 } ∷ [] })
last_uid = refl

-- no UID is left behind it: the group of an APPEND would be no entry
used_up : IsEntry (record { author = 1; group = group_of (command.Append 0 [] []) empty_view (record (empty_mailbox 1) { next_uid = 4294967295 }) (λ uid. []) }) → ⊥
used_up is =
    let below : 4294967295 < 2 ^ 32 - 1 = (is.records 0 (record { top = 1; body = Append [] }) (omega arith)).spells.payload.0.uid.1 in
    absurd (omega (arith, below))

-- ---- a UID that left doesn't come back

-- two messages, of which the second leaves; an append of its UID is then refused, and the UIDNEXT stays
left_mailbox : applied (empty_mailbox 1) (record { top = 1; body = Append (record { uid = 1; flags = 0 } ∷ record { uid = 2; flags = 0 } ∷ []) } ∷ record { top = 1; body = Expunge (record { first = 2; last = 2 } ∷ []) } ∷ [])
    ≡ Some (record (empty_mailbox 1) { next_uid = 3; highest = 3; rows = record { uid = 1; flags = 0; keywords = []; parts = []; modseq = 2 } ∷ [] })
left_mailbox = refl

left_is_refused : after_record (record (empty_mailbox 1) { next_uid = 3; highest = 3 }) (record { top = 1; body = Append (record { uid = 2; flags = 0 } ∷ []) }) ≡ None
left_is_refused = refl

-- ---- modification sequences

abbrev two_rows : ℕ → ℕ → ℕ → ℕ → ℕ → Mailbox
two_rows highest flags stamp other_flags other_stamp = record (empty_mailbox 1) {
  next_uid = 3;
  highest = highest;
  rows = record { uid = 1; flags = flags; keywords = []; parts = []; modseq = stamp } ∷ record { uid = 2; flags = other_flags; keywords = []; parts = []; modseq = other_stamp } ∷ [];
}

-- a row that has the flag already keeps its modification sequence
flags_of_two : after_record (two_rows 5 0 4 8 5) (record { top = 1; body = FlagUpdate (record { first = 1; last = 2; add = 8; remove = 0 } ∷ []) }) ≡ Some (two_rows 6 8 6 8 5)
flags_of_two = refl

-- at the end of the modification sequences a changed row has the last one
at_the_end : after_record (two_rows last_modseq 0 4 8 5) (record { top = 1; body = FlagUpdate (record { first = 1; last = 2; add = 8; remove = 0 } ∷ []) }) ≡ Some (two_rows last_modseq 8 last_modseq 8 5)
at_the_end = refl

-- ---- an introduction by place with the name of another

abbrev extension : List ℕ → ℕ → Extension
extension name size = record { name = name; reset_id = 0; header = []; record_size = size; record_align = 1; flags = 0 }

-- the extension at the place grows, and keeps its own name
intro_by_place : after_record (record (empty_mailbox 1) { extensions = extension (codes "a") 0 ∷ extension (codes "b") 0 ∷ [] })
    (record { top = 0; body = ExtIntro (record { ext_id = 0; reset_id = 0; hdr_size = 0; record_size = 4; record_align = 1; flags = 0; name = codes "b" } ∷ []) })
    ≡ Some (record (empty_mailbox 1) { highest = 2; extensions = extension (codes "a") 4 ∷ extension (codes "b") 0 ∷ []; current = Some (record { extension = 0; size = 4 }) })
intro_by_place = refl
