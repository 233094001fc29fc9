-- The places of names, in a map by their bytes.
use Rattle.std.specs.Prelude.{◌≡◌, ℕ, List, Option, Some, if◌then◌else◌}
use Rattle.std.specs.BTreeMap.{BTreeMap, get_by}
use Rattle.std.specs.Cmp.Lexicographic.{slice_cmp}
use Rattle.std.specs.Global.{Vec}
use Rattle.std.specs.Ordering.{nat_cmp}
use Rattle.std.specs.Str.{bytes_eq}
use Rattle.dv_model.specs.Effects.{place_of}

-- the place of these bytes
abbrev pub found : BTreeMap (Vec ℕ) ℕ → List ℕ → Option ℕ
found map name = get_by (λ key. slice_cmp nat_cmp name key.items) map

-- the map has these names, each with its place, and no others
abbrev pub FindsAll : BTreeMap (Vec ℕ) ℕ → List (List ℕ) → Type 0
FindsAll map names = (name : List ℕ) → found map name ≡ place_of names name

-- it has them and this name, which has this place
abbrev pub FindsAlso : List ℕ → ℕ → BTreeMap (Vec ℕ) ℕ → List (List ℕ) → Type 0
FindsAlso new at map names = (name : List ℕ) → found map name ≡ (if bytes_eq new name then Some at else place_of names name)
