use Rattle.rules.proofs.QuestionNeeds.{for_answers}
use Rattle.rules.proofs.questions.ask.Goals as goal

pub ask_ie-requires-clause-lists_are : goal.ask_ie-requires-clause-lists_are
ask_ie-requires-clause-lists_are c = search for_answers

pub ask_ii-requires-clause-lists_are : goal.ask_ii-requires-clause-lists_are
ask_ii-requires-clause-lists_are c = search for_answers

pub returns-in_default-clause-lists_are_2 : goal.returns-in_default-clause-lists_are_2
returns-in_default-clause-lists_are_2 c = search for_answers
