-- What is a file of the folder.
use Rattle.std.specs.Prelude.{◌^◌, ◌<◌}
use Rattle.std.specs.Fs.{file_type, metadata_len, IsFile}
use Rattle.std.specs.declared.fs.attrs.Metadata.{Metadata}

-- a regular one of at most 4294967295 bytes
abbrev pub IsShortFile : Metadata → Type 0
IsShortFile found = IsFile (file_type found) × (metadata_len found < 2 ^ 32)
