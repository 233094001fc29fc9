-- How many bytes records take.
use Rattle.std.specs.Prelude.{ℕ, ◌+◌, ◌*◌, ◌/◌, List, length, sum_by, nat_eq, if◌then◌else◌}
use Rattle.dv_model.specs.declared.types.How.{How}
use Rattle.dv_model.specs.declared.types.How.TheVariants as how
use Rattle.dv_model.specs.Spelling.{padded}

-- so many items in pieces of 65,536: each record has its size and type, four bytes each, and a head
abbrev pub records_length : ℕ → ℕ → ℕ → ℕ
records_length head width count = (8 + head) * ((count + 65535) / 65536) + width * count

-- a keyword stands in front of its ranges, of eight bytes each
abbrev pub keyword_length : ℕ → List ℕ → ℕ
keyword_length ranges name = records_length (padded (4 + length name)) 8 ranges

-- one keyword after another
abbrev pub keywords_length : List (List ℕ) → ℕ → ℕ
keywords_length names ranges = sum_by (keyword_length ranges) names

-- flags are changed by twelve bytes a range, where one is named
abbrev pub flags_length : ℕ → ℕ → ℕ
flags_length flags ranges = if nat_eq flags 0 then 0 else records_length 0 12 ranges

-- the records of a STORE
abbrev pub store_length : How → ℕ → List (List ℕ) → ℕ → ℕ
store_length how.Add flags names ranges = flags_length flags ranges + keywords_length names ranges
store_length how.Remove flags names ranges = flags_length flags ranges + keywords_length names ranges
store_length how.Replace flags names ranges = records_length 0 12 ranges + records_length 0 8 ranges + keywords_length names ranges
