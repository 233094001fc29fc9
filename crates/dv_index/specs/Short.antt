-- What has room in a field of the snapshot.
use Rattle.std.specs.Prelude.{◌≤◌, length}
use Rattle.dv_model.specs.declared.types.Extension.{Extension}

-- a name of at most 255 bytes and a header of at most 65,536
pub record IsShort (e : Extension) : Type 0 where
  pub name : length e.name ≤ 255
  pub header : length e.header ≤ 65536
