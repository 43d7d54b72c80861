use Rattle.console.proofs.ProgramNeeds.{for_answer}
use Rattle.console.proofs.input.answer.Goals as goal

pub returns-then-today-eq0 : goal.returns-then-today-eq0
returns-then-today-eq0 c = search for_answer

pub returns-then-input-gt-MOST_INPUT : goal.returns-then-input-gt-MOST_INPUT
returns-then-input-gt-MOST_INPUT c = search for_answer

pub returns-then-book-gt-MOST_CODES : goal.returns-then-book-gt-MOST_CODES
returns-then-book-gt-MOST_CODES c = search for_answer

pub returns-then-ledger-gt-MOST_LEDGER : goal.returns-then-ledger-gt-MOST_LEDGER
returns-then-ledger-gt-MOST_LEDGER c = search for_answer

pub slice_bounds-check-count : goal.slice_bounds-check-count
slice_bounds-check-count c = search for_answer

pub slice_bounds-check-start : goal.slice_bounds-check-start
slice_bounds-check-start c = search for_answer

pub returns : goal.returns
returns c = search for_answer
