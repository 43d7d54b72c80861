use Rattle.book.proofs.RunLaws.{for_follows}
use Rattle.book.proofs.well_formed.body_follows.Goals as goal

pub slice_bounds-before-end : goal.slice_bounds-before-end
slice_bounds-before-end c = search for_follows

pub returns-then-body_ok : goal.returns-then-body_ok
returns-then-body_ok c = search for_follows

pub returns-else-body_ok : goal.returns-else-body_ok
returns-else-body_ok c = search for_follows
