use Rattle.ledger.proofs.BackLaws.{for_merge_in}
use Rattle.ledger.proofs.updates.merge_in.Goals as goal

pub overflow_sub-i-then-put_last : goal.overflow_sub-i-then-put_last
overflow_sub-i-then-put_last c = search for_merge_in

pub loop-j-smaller-then-put_last : goal.loop-j-smaller-then-put_last
loop-j-smaller-then-put_last c = search for_merge_in

pub loop-j-preserved-then-put_last : goal.loop-j-preserved-then-put_last
loop-j-preserved-then-put_last c = search for_merge_in

pub loop-j-preserved : goal.loop-j-preserved
loop-j-preserved c = search for_merge_in

pub returns-clause-ledger_after : goal.returns-clause-ledger_after
returns-clause-ledger_after c = search for_merge_in
