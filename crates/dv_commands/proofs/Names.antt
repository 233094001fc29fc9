-- Names of fields and of sessions, by their tests.
use Rattle.std.proofs.Common.{◌≡◌, ℕ, true, ◌&&◌, List, length, nat_le}
use Rattle.std.specs.List.{list_all}
use Rattle.std.proofs.lemmas.Bool.{and_parts, leb-true}
use Rattle.std.proofs.lemmas.List.Sums.{AllPass-from_list_all}
use Rattle.dv_formats.specs.Parsing.{is_field_name, is_session_name}
use Rattle.dv_formats.specs.Scripts.{IsFieldName, IsSession, is_field_byte, is_session_byte}

pub field_sound : (name : List ℕ) → is_field_name name ≡ true → IsFieldName name
unfolding is_field_name
field_sound name e =
    let all = and_parts (nat_le 1 (length name) && nat_le (length name) 64) (list_all is_field_byte name) e in
    let bounds = and_parts (nat_le 1 (length name)) (nat_le (length name) 64) all.0 in
    record { size = (leb-true 1 (length name) bounds.0, leb-true (length name) 64 bounds.1); bytes = AllPass-from_list_all is_field_byte name all.1 }

pub session_sound : (name : List ℕ) → is_session_name name ≡ true → IsSession name
unfolding is_session_name
session_sound name e =
    let all = and_parts (nat_le 1 (length name) && nat_le (length name) 16) (list_all is_session_byte name) e in
    let bounds = and_parts (nat_le 1 (length name)) (nat_le (length name) 16) all.0 in
    record { size = (leb-true 1 (length name) bounds.0, leb-true (length name) 16 bounds.1); bytes = AllPass-from_list_all is_session_byte name all.1 }
