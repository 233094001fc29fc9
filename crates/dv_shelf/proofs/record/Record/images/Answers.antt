use Rattle.std.proofs.Common.{arith, length, ap}
use Rattle.std.proofs.lemmas.List.{length-map}
use Rattle.dv_shelf.specs.Records.{made_call, made_calls}
use Rattle.dv_shelf.proofs.SampleSteps.{first_sample, samples_more, all_samples}
use Rattle.dv_shelf.proofs.record.Record.images.Goals as goal

pub loop-i-init : goal.loop-i-init
loop-i-init c = first_sample (made_calls c.args.self.now) c.in_ok-log.log _ _ c.new-images.ensures c.in_ok-log.ensures c.in_ok-add_image.ensures

pub loop-i-preserved : goal.loop-i-preserved
loop-i-preserved c = samples_more (made_calls c.args.self.now) c.loop-i.i c.loop-i.images _ (omega (arith, c.loop-i-test.true, ap length c.calls-i-end.ensures, length-map c.args.self.now.calls.items (made_call c.args.self.now.bytes.items))) c.loop-i.invariant c.in_ok-add_samples.ensures

pub returns : goal.returns
returns c = all_samples (made_calls c.args.self.now) c.loop-i.i c.loop-i.images (omega (arith, c.loop-i-test.false, ap length c.calls-i-end.ensures, length-map c.args.self.now.calls.items (made_call c.args.self.now.bytes.items))) c.loop-i.invariant
