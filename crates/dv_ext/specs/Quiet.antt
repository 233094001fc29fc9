-- Introductions that leave the table of extensions, and so each row, as they are.
use Rattle.std.specs.Prelude.{ℕ, Bool, true, not, ◌&&◌, ◌||◌, List, [], ◌∷◌, ◌++◌, Option, Some, None, length, nat_eq, nat_le, slice_get}
use Rattle.dv_model.specs.declared.types.Extension.{Extension}
use Rattle.dv_model.specs.declared.types.Intro.{Intro}
use Rattle.dv_model.specs.Effects.{fit, grown_extension, introduced, may_be_added, new_extension, with_item}

-- a known extension is reintroduced: not at all, or with no larger sizes than it has
abbrev pub is_quiet_at : List Extension → ℕ → Intro → Extension → Bool
is_quiet_at es k intro e =
    not (nat_eq e.reset_id intro.reset_id && fit (with_item k (grown_extension intro) es)) || (nat_le intro.hdr_size (length e.header) && nat_le intro.record_size e.record_size)

-- another extension is introduced: it isn't added
abbrev pub is_quiet : List Extension → Intro → Bool
is_quiet es intro = at (introduced es intro)
  where
    known : ℕ → Option Extension → Bool
    known k None = true
    known k (Some e) = is_quiet_at es k intro e

    at : Option ℕ → Bool
    at None = not (may_be_added intro && fit (es ++ new_extension intro ∷ []))
    at (Some k) = known k (slice_get es k)
