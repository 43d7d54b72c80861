use Rattle.rules_lists.proofs.ListNeeds.{for_same_from_antigen}
use Rattle.rules_lists.proofs.same_from_antigen.Goals as goal

pub slice_bounds-same-count : goal.slice_bounds-same-count
slice_bounds-same-count c = search for_same_from_antigen

pub slice_bounds-same-start : goal.slice_bounds-same-start
slice_bounds-same-start c = search for_same_from_antigen

pub slice_bounds-same-count-2 : goal.slice_bounds-same-count-2
slice_bounds-same-count-2 c = search for_same_from_antigen

pub slice_bounds-same-start-2 : goal.slice_bounds-same-start-2
slice_bounds-same-start-2 c = search for_same_from_antigen

pub returns : goal.returns
returns c = search for_same_from_antigen
