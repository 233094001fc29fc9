-- Search keys whose results can follow a mailbox row by row.
use Rattle.std.specs.Prelude.{Bool, not, ◌&&◌}
use Rattle.dv_model.specs.declared.types.Key.{Key}
use Rattle.dv_model.specs.Searches.{needs_mail}
use Rattle.dv_search.specs.Stars.{names_star}

-- whether a message is found depends on its UID, its flags and its keywords alone: no LARGER, no HEADER and no `*`
-- stands in the key (RFC 3501, section 6.4.4)
abbrev pub steady : Key → Bool
steady key = not (needs_mail key) && not (names_star key)
