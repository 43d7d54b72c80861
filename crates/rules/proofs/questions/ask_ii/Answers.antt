use Rattle.rules.proofs.QuestionNeeds.{for_answers}
use Rattle.rules.proofs.questions.ask_ii.Goals as goal

pub returns-clause-answers_are : goal.returns-clause-answers_are
returns-clause-answers_are c = search for_answers
