use Rattle.std.proofs.Common.{◌≡◌, ◌<◌, ◌≤◌, ◌∙◌, List, None, ap, length, rules, take}
use Rattle.dv_maildrop.specs.declared.types.Listed.{Listed}
use Rattle.dv_pop3.specs.Listings.{Sizing}
use Rattle.dv_pop3.proofs.Taking.{cut_to, kept_whole}
use Rattle.dv_pop3.proofs.sizes.SizesReplies.cut.Goals as goal

pub returns-then-length-as_slice : goal.returns-then-length-as_slice
returns-then-length-as_slice c = λ x told is long.
    let more : length c.args.self.now.rows < c.args.length = search rules in
    kept_whole c.args.self.now c.args.length told x is long more

pub returns : goal.returns
returns c = λ x told is long.
    let few : c.args.length ≤ length c.args.self.now.rows = search rules in
    let rows : c.from_vec.result ≡ take c.args.length c.args.self.now.rows = search rules in
    let cut : ◌≡◌ {A = Sizing} (record { rows = c.from_vec.result; failure = None }) (record { rows = take c.args.length c.args.self.now.rows; failure = None }) = ap (λ (l : List Listed). record { rows = l; failure = None }) rows in
    cut ∙ cut_to c.args.self.now c.args.length told x is long few
