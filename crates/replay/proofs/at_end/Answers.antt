-- `replay::at_end` meets its contract.
use Rattle.replay.proofs.Entries.{end_cut, end_agrees}
use Rattle.replay.proofs.at_end.Goals as goal

pub returns-then-recording-ne0 : goal.returns-then-recording-ne0
returns-then-recording-ne0 c = end_cut c.args.recording.now _ c.if-recording-ne0.true

pub returns : goal.returns
returns c = end_agrees c.args.recording.now _ c.if-recording-ne0.false
