-- What a client knows of an older state, by words.
use Rattle.std.specs.Prelude.{ℕ, ◌+◌, ◌^◌, List, Option, Some}
use Rattle.dv_model.specs.Mailboxes.{last_modseq}
use Rattle.dv_formats.specs.Parsing.{◌>>=◌, number_of, set_of}
use Rattle.dv_qresync.specs.declared.types.Old.{Old}

-- the last known UIDVALIDITY and modification sequence, in digits without leading zeros, and the
-- known UIDs (RFC 7162, section 3.2.5)
abbrev pub client_of : List ℕ → List ℕ → List ℕ → Option Old
client_of validity modseq set =
    number_of (2 ^ 32) validity >>= λ v. number_of (1 + last_modseq) modseq >>= λ n.
    set_of set >>= λ uids. Some (record { uid_validity = v; modseq = n; uids = uids })
