use Rattle.ledger.proofs.FormLaws.{for_may_follow}
use Rattle.ledger.proofs.form.may_follow.Goals as goal

pub returns-then-is_live_slot-2 : goal.returns-then-is_live_slot-2
returns-then-is_live_slot-2 c = search for_may_follow

pub returns-else-is_live_slot-2 : goal.returns-else-is_live_slot-2
returns-else-is_live_slot-2 c = search for_may_follow

pub returns-else-is_live_slot : goal.returns-else-is_live_slot
returns-else-is_live_slot c = search for_may_follow
