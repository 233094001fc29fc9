use Rattle.std.proofs.Common.{◌≡◌, ◌∙◌, ap, fold, max, subst}
use Rattle.dv_model.specs.declared.types.Shown.{Shown}
use Rattle.dv_model.specs.Sets.{largest_uid}
use Rattle.dv_search.specs.Prepared.{IsPrepared}
use Rattle.dv_search.proofs.sought.Sought.new.Goals as goal

pub returns : goal.returns
returns c =
    let star : c.largest_uid.result ≡ largest_uid c.args.v.now = c.largest_uid.ensures ∙ ap (fold (λ n (s : Shown). max n s.uid) 0) (c.as_slice.ensures ∙ c.rows.ensures.is) in
    record {
      ready = subst (λ n. IsPrepared n c.args.k.now c.in_ok-key.key) star c.in_ok-key.ensures;
      reads = c.needs_mail-reads.ensures;
    }
