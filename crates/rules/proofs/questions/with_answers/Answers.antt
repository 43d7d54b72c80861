use Rattle.rules.proofs.QuestionNeeds.{for_with_answers}
use Rattle.rules.proofs.questions.with_answers.Goals as goal

pub returns-clause-answered_is : goal.returns-clause-answered_is
returns-clause-answered_is c = search for_with_answers
