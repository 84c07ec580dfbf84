use Rattle.pod_events.proofs.Reports.{digits_are_few, digits_are_text}
use Rattle.queue_model.proofs.stamp.stamp.Goals as goal
use Rattle.std.proofs.Common.{◌∙◌}

pub thread-requires-clause-few : goal.thread-requires-clause-few
thread-requires-clause-few c = digits_are_few c.args.time c.ranges.time.fits _ (c.as_bytes.ensures.value ∙ c.format.ensures.text)

pub thread-requires-clause-is_text : goal.thread-requires-clause-is_text
thread-requires-clause-is_text c = digits_are_text c.args.time c.ranges.time.fits _ (c.as_bytes.ensures.value ∙ c.format.ensures.text)
