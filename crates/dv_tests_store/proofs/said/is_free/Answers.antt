use Rattle.std.proofs.Common.{◌≡◌, ◌∙◌, Bool, not, true, false, Option, Some, None, refl, sym}
use Rattle.std.specs.Prelude.{is_none, is_some}
use Rattle.std.proofs.lemmas.Bool.{not-true}
use Rattle.dv_model.specs.Sessions.{has_uid}
use Rattle.dv_writing.proofs.Listing.{free_place}
use Rattle.dv_tests_store.proofs.said.is_free.Goals as goal

none_is : {X : Type 0} (o : Option X) (free : Bool) → is_some o ≡ not free → free ≡ is_none o
none_is None true is = refl
none_is None false is = absurd cc
none_is (Some x) true is = absurd cc
none_is (Some x) false is = refl

pub returns : goal.returns
returns c is =
    let m = c.args.live.now.mailbox in
    not-true (has_uid m c.args.uid) (sym (free_place m c.args.uid c.position.result c.position.ensures) ∙ sym (none_is c.position.result c.is_none.result c.is_none.ensures) ∙ is)
