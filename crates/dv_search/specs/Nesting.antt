-- How deep search keys nest.
use Rattle.std.specs.Prelude.{ℕ, suc, max, fold}
use Rattle.dv_model.specs.declared.types.Key.{Key}
use Rattle.dv_model.specs.declared.types.Key.TheOpen.{Key-F}
use Rattle.dv_model.specs.declared.types.Key.TheFolds.{fold-Key}
use Rattle.dv_formats.specs.Scripts.{key_levels}

-- one key, with the levels of the keys inside it
abbrev pub level_step : Key-F ℕ → ℕ
level_step (Key-F.Not inside) = suc inside
level_step (Key-F.Or one other) = suc (max one other)
level_step (Key-F.And levels) = suc (fold max 0 levels)
level_step key = 1

-- a key by itself is one level, and NOT, OR and several keys that must all be met add one
abbrev pub levels_of : Key → ℕ
levels_of = fold-Key ℕ level_step

-- the keys of a SEARCH: where there are several, those inside the outermost one nest as deep as one by itself may
-- (RFC 3501, section 6.4.4)
abbrev pub most_levels : ℕ
most_levels = suc key_levels
