-- A log without entries, for names that nobody picked.
use Rattle.std.specs.Prelude.{[], None, replicate, true}
use Rattle.dv_model.specs.Journals.{Log, Damaged}

abbrev pub no_log : Log
no_log = record {
  start = record { uid_validity = 0; next_uid = 1; rows = []; keywords = []; extensions = []; current = None; highest = 1 };
  start_mark = record { file_seq = 0; offset = 0 };
  rotates = true;
  entries = [];
  indexid = 0;
  mail = λ uid. Damaged;
  guid = λ uid. replicate 16 0;
}
