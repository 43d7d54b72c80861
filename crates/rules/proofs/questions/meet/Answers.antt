use Rattle.rules.proofs.QuestionNeeds.{for_meet}
use Rattle.rules.proofs.questions.meet.Goals as goal

pub returns : goal.returns
returns c = search for_meet
