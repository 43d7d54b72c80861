use Rattle.lines_fields.proofs.MarkNeeds.{for_mark_pipes}
use Rattle.lines_fields.proofs.marks.mark_pipes.Goals as goal
use Rattle.lines_fields.proofs.marks.mark_pipes.Goals.{then-file-i-eq124+then-n-le-MOST_MARKED, then-file-i-eq124+else-n-le-MOST_MARKED, else-file-i-eq124}

pub loop-i-init : goal.loop-i-init
loop-i-init c = search for_mark_pipes

pub loop-i-preserved : goal.loop-i-preserved
loop-i-preserved c =
    elim c.if-file-i-eq124.branch [
      | then-file-i-eq124+then-n-le-MOST_MARKED w ↦ rw (w.n-is, w.marks-is) (search for_mark_pipes)
      | then-file-i-eq124+else-n-le-MOST_MARKED w ↦ rw (w.n-is, w.marks-is) (search for_mark_pipes)
      | else-file-i-eq124 w ↦ rw (w.n-is, w.marks-is) (search for_mark_pipes)
    ]

pub returns-clause-value : goal.returns-clause-value
returns-clause-value c = search for_mark_pipes
