-- A job may go to another thread: each of its fields may.
use denote.RattleType.{RattleType}
use denote.Enum.Declared.{shape as enum_shape}
use denote.Param.Send.{AllSend, EachSend, IsSend, enum_send, recorded_send, sendable, struct_send}
use denote.Struct.Declared.{shape}
use Rattle.std.specs.declared.sync.ledger.Ledger as ledger
use Rattle.sqlite_items.proofs.boxed.Boxed.TheSendSync as boxed_sends
use Rattle.sqlite_items.proofs.items.Items.TheSendSync as items_sends
use Rattle.dv_model.proofs.list.List.TheSendSync as list_sends
use Rattle.dv_model.proofs.types.How.TheSendSync as how_sends
use Rattle.dv_model.proofs.types.Item.TheSendSync as item_sends
use Rattle.dv_model.proofs.types.Key.TheLaws.TheKnot as key_sends
use Rattle.dv_model.proofs.types.Span.TheSendSync as span_sends
use Rattle.dv_model.specs.contracts.list.List as list
use Rattle.dv_model.specs.contracts.types.Command as command
use Rattle.dv_naming.specs.declared.names.Keeping as keeping
use Rattle.dv_naming.specs.declared.names.Tally as tally
use Rattle.dv_member.proofs.session.Session.TheSendSync as session_sends
use Rattle.dv_member.specs.contracts.session.Session as session
use Rattle.dv_texts.proofs.reply_text.ReplyText.TheSendSync as reply_sends
use Rattle.dv_texts.specs.contracts.reply_text.ReplyText as reply_text
use Rattle.dv_runner.specs.contracts.job.Job.TheInside as inside

-- variant by variant, in their order
command_send : IsSend command.the_row
command_send =
    let key = key_sends.send-Key (search sendable) (search (sendable, list_sends.the_send) depth 12) (search (sendable, list_sends.the_send, span_sends.the_send, span_sends.the_field_send) depth 12) (search sendable) boxed_sends.the_send items_sends.the_send in
    recorded_send _ _ _ command.the_type.to_one
    (enum_send (enum_shape command.the_type) (
      tt,
      (
        tt,
        (
          tt,
          (
            tt,
            (
              (search sendable, (search (sendable, list_sends.the_send) depth 12, (search (sendable, list_sends.the_send) depth 12, tt))),
              (
                (
                  search sendable,
                  (
                    search (sendable, list_sends.the_send, span_sends.the_send, span_sends.the_field_send) depth 12,
                    (search (sendable, list_sends.the_send, item_sends.the_send, item_sends.the_field_send) depth 12, tt),
                  ),
                ),
                (
                  (
                    search sendable,
                    (
                      search (sendable, list_sends.the_send, span_sends.the_send, span_sends.the_field_send) depth 12,
                      (
                        search (sendable, how_sends.the_send, how_sends.the_field_send),
                        (search sendable, (search (sendable, list_sends.the_send) depth 12, (search sendable depth 12, tt))),
                      ),
                    ),
                  ),
                  ((search sendable, (key, tt)), ((search (sendable, list_sends.the_send, span_sends.the_send, span_sends.the_field_send) depth 12, tt), tt)),
                ),
              ),
            ),
          ),
        ),
      ),
    ))

module _ (A B C : RattleType) (k : keeping.Ghosts A.Denot) (l : tally.Ghosts B.Denot) (lb : ledger.Ghosts B.Denot) (m : tally.Ghosts C.Denot) (mb : ledger.Ghosts C.Denot) where
  pub job_send : IsSend (inside.the_row A B C k l lb m mb)
  job_send =
      let type = inside.the_type A B C k l lb m mb in
      let s : IsSend (session.the_field A B C k l lb m mb).row = session_sends.the_send A B C k l lb m mb in
      let t : IsSend (list.the_field command.the_row).row = list_sends.the_send command.the_row command_send in
      let u : IsSend reply_text.the_field.row = reply_sends.the_send in
      recorded_send _ _ _ type.to_one (struct_send (shape type) (s, (t, (u, (search sendable, tt)))))
