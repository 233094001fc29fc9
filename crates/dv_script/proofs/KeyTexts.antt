-- The texts of keys, layer by layer.
use Rattle.std.proofs.Common.{◌≡◌, ℕ, List, [], ◌++◌, map, ap, sym, ◌∙◌}
use Rattle.std.specs.Prelude.{codes, decimal, unwrap_or}
use Rattle.dv_model.specs.declared.types.Key.{Key, fold-roll-Key}
use Rattle.dv_model.specs.declared.types.Key.TheOpen.{Key-F}
use Rattle.dv_model.specs.declared.types.Key.TheVariants as key
use Rattle.dv_model.specs.declared.types.Key.TheVariants.{rolls-All, rolls-Has, rolls-Lacks, rolls-Keyword, rolls-Uid, rolls-Larger, rolls-Header, rolls-Not, rolls-Or, rolls-And}
use Rattle.dv_model.specs.declared.types.Span.{Span}
use Rattle.dv_model.specs.Texts.{spaced}
use Rattle.dv_formats.specs.Printing.{key_step, key_text, set_text}
use Rattle.dv_formats.specs.Scripts.{flag_key}

pub all_text : key_text key.All ≡ codes "ALL"
all_text = ap key_text (sym rolls-All) ∙ fold-roll-Key (List ℕ) key_step Key-F.All

pub has_text : (n : ℕ) → key_text (key.Has n) ≡ unwrap_or (flag_key n) []
has_text n = ap key_text (sym (rolls-Has n)) ∙ fold-roll-Key (List ℕ) key_step (Key-F.Has n)

pub lacks_text : (n : ℕ) → key_text (key.Lacks n) ≡ codes "UN" ++ unwrap_or (flag_key n) []
lacks_text n = ap key_text (sym (rolls-Lacks n)) ∙ fold-roll-Key (List ℕ) key_step (Key-F.Lacks n)

pub keyword_text : (name : List ℕ) → key_text (key.Keyword name) ≡ codes "KEYWORD " ++ name
keyword_text name = ap key_text (sym (rolls-Keyword name)) ∙ fold-roll-Key (List ℕ) key_step (Key-F.Keyword name)

pub uid_key_text : (set : List Span) → key_text (key.Uid set) ≡ codes "UID " ++ set_text set
uid_key_text set = ap key_text (sym (rolls-Uid set)) ∙ fold-roll-Key (List ℕ) key_step (Key-F.Uid set)

pub larger_text : (n : ℕ) → key_text (key.Larger n) ≡ codes "LARGER " ++ decimal n
larger_text n = ap key_text (sym (rolls-Larger n)) ∙ fold-roll-Key (List ℕ) key_step (Key-F.Larger n)

pub header_text : (name text : List ℕ) → key_text (key.Header name text) ≡ codes "HEADER " ++ name ++ codes " \"" ++ text ++ codes "\""
header_text name text = ap key_text (sym (rolls-Header name text)) ∙ fold-roll-Key (List ℕ) key_step (Key-F.Header name text)

pub not_text : (inside : Key) → key_text (key.Not inside) ≡ codes "NOT " ++ key_text inside
not_text inside = ap key_text (sym (rolls-Not inside)) ∙ fold-roll-Key (List ℕ) key_step (Key-F.Not inside)

pub or_text : (one other : Key) → key_text (key.Or one other) ≡ codes "OR " ++ key_text one ++ codes " " ++ key_text other
or_text one other = ap key_text (sym (rolls-Or one other)) ∙ fold-roll-Key (List ℕ) key_step (Key-F.Or one other)

pub and_text : (keys : List Key) → key_text (key.And keys) ≡ codes "(" ++ spaced (map key_text keys) ++ codes ")"
and_text keys = ap key_text (sym (rolls-And keys)) ∙ fold-roll-Key (List ℕ) key_step (Key-F.And keys)

-- the texts of all keys
pub ruleset key_texts = (all_text, has_text, lacks_text, keyword_text, uid_key_text, larger_text, header_text, not_text, or_text, and_text)
