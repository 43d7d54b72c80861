use Rattle.lines_fields.proofs.LineNeeds.{for_ending}
use Rattle.lines_fields.proofs.line.ending.Goals as goal

pub returns-then-file-at-clause-value : goal.returns-then-file-at-clause-value
returns-then-file-at-clause-value c = search for_ending

pub returns-then-b-eq10-clause-value : goal.returns-then-b-eq10-clause-value
returns-then-b-eq10-clause-value c = search for_ending

pub returns-then-b-ne13-clause-value : goal.returns-then-b-ne13-clause-value
returns-then-b-ne13-clause-value c = search for_ending

pub returns-then-file-n-clause-value : goal.returns-then-file-n-clause-value
returns-then-file-n-clause-value c = search for_ending

pub returns-then-file-n-ne10-clause-value : goal.returns-then-file-n-ne10-clause-value
returns-then-file-n-ne10-clause-value c = search for_ending

pub returns-clause-value : goal.returns-clause-value
returns-clause-value c = search for_ending
