use Rattle.std.proofs.Common.{rules, vec_len, ◌≡◌, ◌∙◌, ℕ, ◌-◌, ◌^◌, List, Option, ap, arith, false, is_some, length, map, min, subst, sym, true}
use Rattle.std.proofs.lemmas.List.{length-map}
use Rattle.dv_model.specs.declared.types.Mark.{Mark}
use Rattle.dv_model.specs.declared.types.Reply.{Reply}
use Rattle.dv_model.specs.Journals.{mark_behind, mark_of}
use Rattle.dv_model.specs.Sessions.{group_of, limit_of}
use Rattle.dv_model.specs.Spelling.{group_text}
use Rattle.dv_model.specs.Views.{View}
use Rattle.dv_groups.specs.Changes.{expunged_uids, guid_rows}
use Rattle.dv_groups.specs.Groups.{HasSizes}
use Rattle.dv_interleavings.specs.Worlds.{guid_of}
use Rattle.dv_responses.specs.Met.{met_of}
use Rattle.dv_world.specs.declared.kept.Logged.{Logged}
use Rattle.dv_world.specs.Keeping.{kept_log}
use Rattle.dv_world.specs.Shapes.{state_of, stored_of}
use Rattle.dv_world.proofs.Writes.{allowed_limit}
use Rattle.dv_world.proofs.writing.written.Goals as goal

pub returns : goal.returns
returns c =
    let k = c.args.kept.now in
    let seat = c.args.seat.now in
    let cmd = c.args.c.now in
    let log = kept_log k in
    let m = k.end.mailbox in
    let seen = c.view-view.result.now in
    let shown = seat.session.state.view in
    let view : seen ≡ shown = c.view-view.ensures in
    let ends : length log.entries ≡ length k.logged.items = length-map k.logged.items (λ (l : Logged). l.entry) in
    let many : length k.logged.items ≡ vec_len k.logged = search rules in
    let mark : c.mark_of-mark.result ≡ mark_of log (length log.entries) = c.mark_of-mark.ensures ∙ ap (mark_of log) (c.len.ensures ∙ sym many ∙ sym ends) in
    let sizes : HasSizes log.guid = λ (uid : ℕ). (c.requires.kept.stands.sound.guids uid).size in
    let least : c.in_ok-size.size ≡ min (length (group_text (group_of cmd seen m log.guid))) (2 ^ 64 - 1) = c.in_ok-size.ensures log.guid sizes in
    let exact : length (group_text (group_of cmd seen m log.guid)) ≡ c.in_ok-size.size = omega (arith, least, c.if-size.false) in
    let g = group_of cmd shown m log.guid in
    let size : length (group_text g) ≡ c.in_ok-size.size = ap (λ (v : View). length (group_text (group_of cmd v m log.guid))) (sym view) ∙ exact in
    let limits = c.limit_of.ensures g size ∙ ap (λ (mk : Mark). limit_of cmd m true mk g) mark in
    let none : is_some c.limit_of.result ≡ false = sym c.is_some.ensures ∙ c.if-is_some.false in
    let rows = c.as_slice.ensures ∙ c.in_ok-guids.ensures ∙ ap (λ (stored : List (ℕ × Option (List ℕ) × List ℕ)). guid_rows (guid_of (map stored_of stored)) (expunged_uids cmd seen m)) c.deref.ensures.value in
    let group : c.in_ok-group_of.field-0 ≡ g = c.in_ok-group_of.ensures.is log.guid rows ∙ ap (λ (v : View). group_of cmd v m log.guid) view in
    record {
      allowed = allowed_limit log (length log.entries) (state_of seat) cmd m c.requires.allowed c.requires.write c.limit_of.result limits none;
      group = group;
      behind = ap (mark_behind true (mark_of log (length log.entries))) group ∙ ap (λ (mk : Mark). mark_behind true mk g) (sym mark) ∙ sym (c.mark_behind.ensures g size);
      taken = c.in_ok-meet.ensures ∙ ap (λ (v : View). met_of cmd v m) view;
      command = c.in_ok-copy.ensures;
    }
