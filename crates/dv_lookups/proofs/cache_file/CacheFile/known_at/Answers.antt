use Rattle.std.proofs.Common.{◌≡◌, ℕ, List, Option, Some, None, refl, sym, ◌∙◌, ap, subst}
use Rattle.std.specs.Prelude.{IfOk}
use Rattle.std.specs.Option.{option_copied}
use Rattle.dv_lookups.specs.Finds.{IsFoundIn, bytes_of}
use Rattle.dv_lookups.specs.Looks.{look_seen}
use Rattle.dv_lookups.proofs.cache_file.CacheFile.known_at.Goals as goal

pub returns-in-Some-clause-found : goal.returns-in-Some-clause-found
returns-in-Some-clause-found c =
    let found : bytes_of c.args.self.now ≡ Some c.as_slice.result.now = sym c.bytes.ensures ∙ ap option_copied c.in-Some.is ∙ ap Some (sym c.as_slice.ensures) in
    subst (λ (o : Option (List ℕ)). IfOk c.find_in.result (IsFoundIn o c.args.indexid (look_seen c.args.look) c.args.uid)) (sym found) c.find_in.ensures.found

pub returns-in-None-clause-found : goal.returns-in-None-clause-found
returns-in-None-clause-found c =
    let none : bytes_of c.args.self.now ≡ None = sym c.bytes.ensures ∙ ap option_copied c.in-None.is in
    subst (λ (o : Option (List ℕ)). IsFoundIn o c.args.indexid (look_seen c.args.look) c.args.uid None) (sym none) refl
