use Rattle.rules.proofs.JudgeNeeds.{for_judge}
use Rattle.rules.proofs.pass.judge.Goals as goal

pub returns-then-file-gt-MOST_BYTES-clause-value : goal.returns-then-file-gt-MOST_BYTES-clause-value
returns-then-file-gt-MOST_BYTES-clause-value c = search for_judge

pub returns-then-file-gt-MOST_BYTES-clause-room_after :
    goal.returns-then-file-gt-MOST_BYTES-clause-room_after
returns-then-file-gt-MOST_BYTES-clause-room_after c = search for_judge

pub returns-then-file-gt-MOST_BYTES-clause-area_after :
    goal.returns-then-file-gt-MOST_BYTES-clause-area_after
returns-then-file-gt-MOST_BYTES-clause-area_after c = search for_judge
