-- What the texts of a record must be for their sizes to have a field.
use Rattle.std.specs.Prelude.{ℕ, ◌^◌, ◌<◌, List, length, All, ⊤}
use Rattle.dv_model.specs.declared.types.Body.{Body}
use Rattle.dv_model.specs.declared.types.Body.TheVariants.{HeaderUpdate, ExtIntro, ExtHeaderUpdate, KeywordUpdate}
use Rattle.dv_model.specs.declared.types.Intro.{Intro}
use Rattle.dv_model.specs.declared.types.Part.{Part}

-- the number of bytes fits the 16 bits of a size
abbrev pub IsShort : List ℕ → Type 0
IsShort bytes = length bytes < 2 ^ 16

-- a part's bytes are short
abbrev pub IsShortPart : Part → Type 0
IsShortPart part = IsShort part.bytes

-- an extension's name is short
abbrev pub IsShortIntro : Intro → Type 0
IsShortIntro intro = IsShort intro.name

-- each text of the body that stands with its size is short
abbrev pub HasShortTexts : Body → Type 0
HasShortTexts (HeaderUpdate parts) = All IsShortPart parts
HasShortTexts (ExtHeaderUpdate parts) = All IsShortPart parts
HasShortTexts (ExtIntro intros) = All IsShortIntro intros
HasShortTexts (KeywordUpdate how name pairs) = IsShort name
HasShortTexts body = ⊤
