use Rattle.lines_fields.proofs.MarkNeeds.{for_read_line}
use Rattle.lines_fields.proofs.marks.read_line.Goals as goal

pub returns-then-file-at-clause-marks_after : goal.returns-then-file-at-clause-marks_after
returns-then-file-at-clause-marks_after c = search for_read_line

pub mark-requires-clause-end_value : goal.mark-requires-clause-end_value
mark-requires-clause-end_value c = search for_read_line

pub returns-clause-marks_after : goal.returns-clause-marks_after
returns-clause-marks_after c = search for_read_line

pub returns-then-marks-ne-MARKS-clause-marks_after :
    goal.returns-then-marks-ne-MARKS-clause-marks_after
returns-then-marks-ne-MARKS-clause-marks_after c = search for_read_line

pub returns-then-file-gt-MARK_BYTES-clause-marks_after :
    goal.returns-then-file-gt-MARK_BYTES-clause-marks_after
returns-then-file-gt-MARK_BYTES-clause-marks_after c = search for_read_line
