use Rattle.rules_lists.proofs.EntryNeeds.{for_gather}
use Rattle.rules_lists.proofs.entries.gather.Goals as goal

pub returns-then-file-clause-value : goal.returns-then-file-clause-value
returns-then-file-clause-value c = search for_gather

pub returns-then-file-clause-room_after : goal.returns-then-file-clause-room_after
returns-then-file-clause-room_after c = search for_gather

pub returns-then-file-to-clause-value : goal.returns-then-file-to-clause-value
returns-then-file-to-clause-value c = search for_gather

pub returns-then-file-to-clause-room_after : goal.returns-then-file-to-clause-room_after
returns-then-file-to-clause-room_after c = search for_gather

pub loop-at-init : goal.loop-at-init
loop-at-init c = search for_gather

pub loop-at-smaller-in-Some : goal.loop-at-smaller-in-Some
loop-at-smaller-in-Some c = search for_gather

pub loop-at-preserved-in-Some : goal.loop-at-preserved-in-Some
loop-at-preserved-in-Some c = search for_gather

pub loop-at-smaller : goal.loop-at-smaller
loop-at-smaller c = search for_gather

pub loop-at-preserved : goal.loop-at-preserved
loop-at-preserved c = search for_gather

pub returns-clause-value : goal.returns-clause-value
returns-clause-value c = search for_gather

pub returns-clause-room_after : goal.returns-clause-room_after
returns-clause-room_after c = search for_gather
