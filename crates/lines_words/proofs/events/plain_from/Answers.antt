use Rattle.lines_words.proofs.PlainNeeds.{for_plain_from}
use Rattle.lines_words.proofs.events.plain_from.Goals as goal

pub returns-then-chart-at : goal.returns-then-chart-at
returns-then-chart-at c = search for_plain_from

pub returns-then-chart-at-2 : goal.returns-then-chart-at-2
returns-then-chart-at-2 c = search for_plain_from

pub returns-then-chart-at-eq32 : goal.returns-then-chart-at-eq32
returns-then-chart-at-eq32 c = search for_plain_from

pub returns : goal.returns
returns c = search for_plain_from
