use Rattle.rules.proofs.QuestionNeeds.{for_answer}
use Rattle.rules.proofs.questions.answer.Goals as goal

pub returns : goal.returns
returns c = search for_answer
