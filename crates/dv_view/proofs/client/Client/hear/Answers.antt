use Rattle.std.proofs.Common.{◌≡◌, ◌∙◌, ap, subst, sym, map, []}
use Rattle.std.specs.Prelude.{All}
use Rattle.dv_model.specs.declared.types.Shown.{Shown}
use Rattle.dv_view.specs.Clients.{heard_rows, known_bare}
use Rattle.dv_view.proofs.Listening.{heard_is, stays_bare}
use Rattle.dv_view.proofs.client.Client.hear.Goals as goal

pub returns-clause-ok : goal.returns-clause-ok
returns-clause-ok c =
    let rows : c.into_vec-rows.result.items ≡ c.args.self.now.rows = c.into_vec-rows.ensures ∙ c.replace.ensures.value in
    ap (map known_bare) (c.from_vec.ensures ∙ c.in_ok-heard.ensures.ok ∙ ap (λ rs. heard_rows rs c.args.r.now) rows) ∙ heard_is c.args.self.now.rows c.args.r.now

pub returns-clause-keywords : goal.returns-clause-keywords
returns-clause-keywords c =
    let rows : c.into_vec-rows.result.items ≡ c.args.self.now.rows = c.into_vec-rows.ensures ∙ c.replace.ensures.value in
    let is : c.from_vec.result ≡ heard_rows c.args.self.now.rows c.args.r.now = c.from_vec.ensures ∙ c.in_ok-heard.ensures.ok ∙ ap (λ rs. heard_rows rs c.args.r.now) rows in
    λ all. subst (All (λ (s : Shown). s.keywords ≡ [])) (sym is) (stays_bare c.args.self.now.rows c.args.r.now all)
