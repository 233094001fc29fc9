-- A mailbox of one message is valid.
use Rattle.std.proofs.Common.{[], ◌∷◌, None, refl, arith}
use Rattle.dv_model.specs.declared.types.Mailbox.{Mailbox}
use Rattle.dv_model.specs.declared.types.Row.{Row}
use Rattle.dv_model.specs.Mailboxes.{IsRowOf, IsValid}
use Rattle.dv_model.specs.Names.{IsName}
use Rattle.std.proofs.lemmas.List.Elements.{All-nil, All-push}

abbrev row : Row
row = record { uid = 1; flags = 8; keywords = []; parts = []; modseq = 4 }

abbrev pub first : Mailbox
first = record { uid_validity = 1795748400; next_uid = 2; rows = row ∷ []; keywords = []; extensions = []; current = None; highest = 4 }

is_row : IsRowOf first row
is_row = record {
  uid = (omega arith, omega arith);
  keywords = (λ k below. absurd (omega (arith, below)), λ k d below. absurd (omega (arith, below)));
  parts = refl;
  modseq = (omega arith, omega arith);
}

pub first_is_valid : IsValid first
first_is_valid = record {
  next_uid = (omega arith, omega arith);
  rising = λ k below. absurd (omega (arith, below));
  rows = All-push (IsRowOf first) [] row (All-nil (IsRowOf first)) is_row;
  names = (All-nil IsName, λ i j d less below. absurd (omega (arith, below)));
  extensions = record {
    count = omega arith;
    record_sizes = omega arith;
    headers = λ k d below. absurd (omega (arith, below));
    names = λ k d below. absurd (omega (arith, below));
    distinct = λ i j d less below. absurd (omega (arith, below));
  };
  current = tt;
  highest = (omega arith, omega arith);
}
