-- The line's session has a part, or gets one.
use Rattle.std.proofs.Common.{ℕ, List, [], ◌∷◌, ◌++◌, ap, sym, ◌∙◌}
use Rattle.std.specs.Prelude.{bytes_eq, position}
use Rattle.dv_parts.specs.declared.parts.Part.{Part}
use Rattle.dv_parts.proofs.Parting.{absent_given, found, known_given, lacking}
use Rattle.dv_parts.proofs.parts.add_line.Goals as goal

pub returns-in_ok-push-in-Some : goal.returns-in_ok-push-in-Some
returns-in_ok-push-in-Some c = λ before so_far.
    let d = c.index_mut.result.now in
    let there = sym (ap (position (λ (p : Part). bytes_eq c.as_slice.result.now p.name)) c.deref.ensures.value) ∙ sym c.place_of.ensures ∙ c.in-Some.is in
    let is = found c.args.parts.now.items c.args.line.session c.in-Some.at d (ap (λ (n : List ℕ). position (λ (p : Part). bytes_eq n p.name) c.args.parts.now.items) (sym c.as_slice.ensures) ∙ there) in
    known_given before c.args.parts.now.items c.args.line.session c.args.line.command c.in-Some.at d
    (record { name = c.index_mut.result.now.name; commands = c.push.new.self }) so_far is
    (ap (λ (p : Part). p.name) c.index_mut.ensures.value)
    (c.in_ok-push-in-Some.ensures.ok ∙ ap (λ (p : Part). p.commands ++ c.args.line.command ∷ []) c.index_mut.ensures.value)

pub returns-in_ok-push-in-None-2 : goal.returns-in_ok-push-in-None-2
returns-in_ok-push-in-None-2 c = λ before so_far.
    let new : Part = record { name = c.args.line.session; commands = c.push-in-None.new.self } in
    let there = sym (ap (position (λ (p : Part). bytes_eq c.as_slice.result.now p.name)) c.deref.ensures.value) ∙ sym c.place_of.ensures ∙ c.in-None.is in
    let none = lacking c.args.parts.now.items c.args.line.session new (ap (λ (n : List ℕ). position (λ (p : Part). bytes_eq n p.name) c.args.parts.now.items) (sym c.as_slice.ensures) ∙ there) in
    rw c.in_ok-push-in-None-2.ensures.items
    (absent_given before c.args.parts.now.items new c.args.line.command so_far none
    (c.in_ok-push-in-None.ensures.ok ∙ ap (λ cs. cs ++ c.args.line.command ∷ []) c.new-commands.ensures))
