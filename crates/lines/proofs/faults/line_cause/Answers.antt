use Rattle.lines.proofs.FaultNeeds.{for_line_cause}
use Rattle.lines.proofs.faults.line_cause.Goals as goal

pub returns-then-not-ended : goal.returns-then-not-ended
returns-then-not-ended c = search for_line_cause

pub returns-then-not-has_right_bytes : goal.returns-then-not-has_right_bytes
returns-then-not-has_right_bytes c = search for_line_cause

pub returns-then-not-pipe_last : goal.returns-then-not-pipe_last
returns-then-not-pipe_last c = search for_line_cause

pub returns : goal.returns
returns c = search for_line_cause
