use Rattle.std.proofs.Common.{◌≡◌, ◌∙◌, ◌++◌, ◌∷◌, [], ℕ, ap, map, subst, sym}
use Rattle.std.proofs.lemmas.List.{map_push}
use Rattle.dv_blocks.specs.Shared.{AreShared, IsHeld, due_of}
use Rattle.dv_blocks.specs.declared.chunk.Pending.{Pending}
use Rattle.dv_blocks.proofs.Pendings.{more_held}
use Rattle.dv_blocks.proofs.Seen.{after_hold, due_with, dues_held, rows_same}
use Rattle.dv_blocks.proofs.holding.hold_row.Goals as goal

abbrev pending : ℕ → ℕ → Pending
pending at words = record { at = at; words = words }

pub returns-clause-shared : goal.returns-clause-shared
returns-clause-shared c cells are =
    let hs = c.args.held.now.items in
    let n = c.in_ok-words.words in
    let p = pending c.args.at n in
    let is : IsHeld c.args.sets.now.items c.hold.new.sets.items n c.args.keywords.now = c.in_ok-words.ensures.ok in
    let items : c.push_reserved.new.self.items ≡ hs ++ p ∷ [] = c.push_reserved.ensures.items ∙ ap (λ l. l ++ p ∷ []) c.in_ok-reserve.ensures.items in
    subst (λ l. AreShared l c.hold.new.sets.items cells) (sym items) (more_held hs p c.args.sets.now.items c.hold.new.sets.items c.args.keywords.now cells are is)

pub returns-clause-rows : goal.returns-clause-rows
returns-clause-rows c cells sizes are =
    let n = c.in_ok-words.words in
    let is : IsHeld c.args.sets.now.items c.hold.new.sets.items n c.args.keywords.now = c.in_ok-words.ensures.ok in
    rows_same c.args.sets.now.items c.hold.new.sets.items sizes cells (after_hold c.args.sets.now.items c.hold.new.sets.items n c.args.keywords.now cells are is)

pub returns-clause-ok : goal.returns-clause-ok
returns-clause-ok c cells are =
    let hs = c.args.held.now.items in
    let s = c.args.sets.now.items in
    let t = c.hold.new.sets.items in
    let n = c.in_ok-words.words in
    let p = pending c.args.at n in
    let is : IsHeld s t n c.args.keywords.now = c.in_ok-words.ensures.ok in
    let items : c.push_reserved.new.self.items ≡ hs ++ p ∷ [] = c.push_reserved.ensures.items ∙ ap (λ l. l ++ p ∷ []) c.in_ok-reserve.ensures.items in
    ap (map (due_of t)) items ∙ map_push (due_of t) hs p ∙ ap (λ l. l ++ due_of t p ∷ []) (dues_held hs s t n c.args.keywords.now cells are is)
    ∙ ap (λ k. map (due_of s) hs ++ due_with c.args.at k ∷ []) is.here
