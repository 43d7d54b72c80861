use Rattle.chart.proofs.HintNeeds.{for_index_of}
use Rattle.chart.proofs.hints.index_of.Goals as goal

pub returns-in-None-clause-upper_bound : goal.returns-in-None-clause-upper_bound
returns-in-None-clause-upper_bound c = search for_index_of

pub returns-in-None-clause-result_value : goal.returns-in-None-clause-result_value
returns-in-None-clause-result_value c = search for_index_of
