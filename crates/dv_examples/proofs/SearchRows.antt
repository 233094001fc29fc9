-- What search keys find of one message, which has the flag \\Draft and the keyword k1 and holds `hello`.
use Rattle.std.specs.Prelude.{◌≡◌, refl, true, false, [], ◌∷◌, None, codes}
use Rattle.dv_model.specs.declared.types.Command.TheVariants as command
use Rattle.dv_model.specs.declared.types.Key.TheVariants as key
use Rattle.dv_model.specs.declared.types.Mailbox.{Mailbox}
use Rattle.dv_model.specs.declared.types.Reply.TheVariants as reply
use Rattle.dv_model.specs.Journals.{Held, Damaged}
use Rattle.dv_model.specs.Sessions.{data_of}
use Rattle.dv_model.specs.Views.{View}
use Rattle.dv_model.specs.Searches.{Candidate, meets, needs_mail}
use Rattle.dv_model.proofs.Searching.{meets-Has, meets-Keyword, meets-Larger, meets-Header, meets-Not, meets-Or, needs_mail-Has, needs_mail-Keyword, needs_mail-Larger, needs_mail-Not, needs_mail-Or}

abbrev candidate : Candidate
candidate = record { uid = 1; flags = 16; keywords = codes "k1" ∷ []; largest_uid = 1; message = codes "hello" }

either_found : meets (key.Or (key.Has 8) (key.Keyword (codes "k1"))) candidate ≡ true
either_found = rw (meets-Or candidate (key.Has 8) (key.Keyword (codes "k1")), meets-Has candidate 8, meets-Keyword candidate (codes "k1")) refl

not_found : meets (key.Not (key.Has 16)) candidate ≡ false
not_found = rw (meets-Not candidate (key.Has 16), meets-Has candidate 16) refl

larger_found : meets (key.Larger 4) candidate ≡ true
larger_found = rw (meets-Larger candidate 4) refl

not_larger : meets (key.Larger 5) candidate ≡ false
not_larger = rw (meets-Larger candidate 5) refl

field_missing : meets (key.Header (codes "Subject") []) candidate ≡ false
field_missing = rw (meets-Header candidate (codes "Subject") []) refl

reads_none : needs_mail (key.Or (key.Has 8) (key.Keyword (codes "k1"))) ≡ false
reads_none = rw (needs_mail-Or (key.Has 8) (key.Keyword (codes "k1")), needs_mail-Has 8, needs_mail-Keyword (codes "k1")) refl

reads_inside : needs_mail (key.Not (key.Larger 4)) ≡ true
reads_inside = rw (needs_mail-Not (key.Larger 4), needs_mail-Larger 4) refl

-- ---- the line of a SEARCH

abbrev one_view : View
one_view = record { rows = record { uid = 1; flags = 16; keywords = 0 ∷ []; modseq = 7 } ∷ []; next_uid = 2 }

abbrev one_mailbox : Mailbox
one_mailbox = record {
  uid_validity = 1000;
  next_uid = 2;
  rows = record { uid = 1; flags = 16; keywords = 0 ∷ []; parts = []; modseq = 7 } ∷ [];
  keywords = codes "k1" ∷ [];
  extensions = [];
  current = None;
  highest = 7;
}

found_number : data_of (λ uid. Held (codes "hello")) (command.Search false (key.Larger 4)) one_view one_mailbox ≡ reply.Search (1 ∷ []) ∷ []
found_number = rw (needs_mail-Larger 4, meets-Larger candidate 4) refl

-- the message isn't there
found_none : data_of (λ uid. Damaged) (command.Search false (key.Larger 4)) one_view one_mailbox ≡ reply.Search [] ∷ []
found_none = rw (needs_mail-Larger 4) refl
