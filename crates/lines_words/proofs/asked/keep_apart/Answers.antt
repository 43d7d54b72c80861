use Rattle.lines_words.proofs.ApartNeeds.{for_keep_apart}
use Rattle.lines_words.proofs.asked.keep_apart.Goals as goal

pub returns-then-entries-eq0-clause-value : goal.returns-then-entries-eq0-clause-value
returns-then-entries-eq0-clause-value c = search for_keep_apart

pub returns-then-entries-eq0-clause-entries_after :
    goal.returns-then-entries-eq0-clause-entries_after
returns-then-entries-eq0-clause-entries_after c = search for_keep_apart

pub loop-i-init : goal.loop-i-init
loop-i-init c = search for_keep_apart

pub loop-i-preserved-then-one_key : goal.loop-i-preserved-then-one_key
loop-i-preserved-then-one_key c = search for_keep_apart

pub loop-i-preserved : goal.loop-i-preserved
loop-i-preserved c = search for_keep_apart

pub returns-clause-value : goal.returns-clause-value
returns-clause-value c = search for_keep_apart

pub returns-clause-entries_after : goal.returns-clause-entries_after
returns-clause-entries_after c = search for_keep_apart
