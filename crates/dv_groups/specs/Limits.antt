-- The limits that a command meets, as it is answered.
use Rattle.dv_model.specs.declared.types.Reply.{Reply}
use Rattle.dv_model.specs.declared.types.Reply.TheVariants as reply
use Rattle.dv_groups.specs.declared.limits.Limit.{Limit}
use Rattle.dv_groups.specs.declared.limits.Limit.TheVariants as limit

-- NO [LIMIT] (RFC 5530, section 3)
abbrev pub reply_of : Limit → Reply
reply_of limit.UidsUsedUp = reply.UidsUsedUp
reply_of (limit.TooLong bytes) = reply.TooLong bytes
