use Rattle.chart_records.proofs.GivenNeeds.{for_right_end}
use Rattle.chart_records.proofs.given.right_end.Goals as goal

pub returns-then-chart-from : goal.returns-then-chart-from
returns-then-chart-from c = search for_right_end

pub immunization_end-requires-clause-comment_start_bound :
    goal.immunization_end-requires-clause-comment_start_bound
immunization_end-requires-clause-comment_start_bound c = search for_right_end

pub returns-then-kind-eq-II : goal.returns-then-kind-eq-II
returns-then-kind-eq-II c = search for_right_end

pub returns-then-may_follow : goal.returns-then-may_follow
returns-then-may_follow c = search for_right_end

pub returns : goal.returns
returns c = search for_right_end
