use Rattle.std.proofs.Common.{◌≡◌, ◌∙◌, [], ℕ, None, Some, ap, get_or, length, ltb, refl, rules, slice_get, sym}
use Rattle.std.proofs.lemmas.Option.{slice_get_read}
use Rattle.std.proofs.lemmas.List.Sorted.{IsPartitionPoint-from_clause}
use Rattle.dv_search.specs.declared.facts.MailFacts.{MailFacts}
use Rattle.dv_search.proofs.Looking.{IsPlace, behind, between, here, split}
use Rattle.dv_search.proofs.facts.facts_of.Goals as goal

abbrev uid_of : MailFacts → ℕ
uid_of f = f.uid

pub returns-then-at-mail : goal.returns-then-at-mail
returns-then-at-mail c =
    let place : IsPlace uid_of c.args.mail.now c.args.uid c.partition_point-at.result =
    IsPartitionPoint-from_clause (λ (f : MailFacts). ltb f.uid c.args.uid) c.args.mail.now c.partition_point-at.result c.partition_point-at.ensures.partitioned (split uid_of c.args.mail.now c.args.uid c.requires) (λ a r f k. search rules) in
    sym (behind uid_of c.args.mail.now c.args.uid c.partition_point-at.result (record { uid = 0; size = 0; body = None; fields = [] }) place c.if-at-mail.true)

pub returns-then-facts-uid : goal.returns-then-facts-uid
returns-then-facts-uid c =
    let place : IsPlace uid_of c.args.mail.now c.args.uid c.partition_point-at.result =
    IsPartitionPoint-from_clause (λ (f : MailFacts). ltb f.uid c.args.uid) c.args.mail.now c.partition_point-at.result c.partition_point-at.ensures.partitioned (split uid_of c.args.mail.now c.args.uid c.requires) (λ a r f k. search rules) in
    sym (between uid_of c.args.mail.now c.args.uid c.requires c.partition_point-at.result c.index-mail-at.result place c.if-at-mail.false c.index-mail-at.is c.if-facts-uid.true)

pub returns : goal.returns
returns c =
    let place : IsPlace uid_of c.args.mail.now c.args.uid c.partition_point-at.result =
    IsPartitionPoint-from_clause (λ (f : MailFacts). ltb f.uid c.args.uid) c.args.mail.now c.partition_point-at.result c.partition_point-at.ensures.partitioned (split uid_of c.args.mail.now c.args.uid c.requires) (λ a r f k. search rules) in
    let some : slice_get c.args.mail.now c.partition_point-at.result ≡ Some c.index-mail-at.result = slice_get_read c.args.mail.now (length c.args.mail.now) c.partition_point-at.result c.index-mail-at.result refl c.if-at-mail.false c.index-mail-at.is in
    let same : uid_of (get_or c.args.mail.now c.partition_point-at.result c.index-mail-at.result) ≡ c.args.uid = search rules in
    sym (here uid_of c.args.mail.now c.args.uid c.partition_point-at.result c.index-mail-at.result place c.if-at-mail.false c.index-mail-at.is (ap uid_of c.index-mail-at.is ∙ same) some)
