use Rattle.book.proofs.RunLaws.{for_step}
use Rattle.book.proofs.well_formed.step.Goals as goal

pub returns-then-kind-k-clause-value : goal.returns-then-kind-k-clause-value
returns-then-kind-k-clause-value c = search for_step

pub slice_bounds-body_follows-count : goal.slice_bounds-body_follows-count
slice_bounds-body_follows-count c = search for_step

pub slice_bounds-body_follows-start : goal.slice_bounds-body_follows-start
slice_bounds-body_follows-start c = search for_step

pub slice_bounds-body_follows-end : goal.slice_bounds-body_follows-end
slice_bounds-body_follows-end c = search for_step

pub body_follows-requires : goal.body_follows-requires
body_follows-requires c = search for_step

pub returns-then-body_follows-clause-value : goal.returns-then-body_follows-clause-value
returns-then-body_follows-clause-value c = search for_step

pub returns-then-body_follows-clause-upper_bound : goal.returns-then-body_follows-clause-upper_bound
returns-then-body_follows-clause-upper_bound c = search for_step

pub returns-else-body_follows-clause-value : goal.returns-else-body_follows-clause-value
returns-else-body_follows-clause-value c = search for_step

pub returns-in-End-clause-value : goal.returns-in-End-clause-value
returns-in-End-clause-value c = search for_step

pub returns-in-Malformed-clause-value : goal.returns-in-Malformed-clause-value
returns-in-Malformed-clause-value c = search for_step
