use Rattle.book.proofs.WidthLaws.{for_widths}
use Rattle.book.specs.Book.{second_width}
use Rattle.book.proofs.widths.second_width.Goals as goal

pub returns-in-7-clause-value : goal.returns-in-7-clause-value
unfolding second_width
returns-in-7-clause-value c = search for_widths

pub returns-in-8-clause-value : goal.returns-in-8-clause-value
unfolding second_width
returns-in-8-clause-value c = search for_widths

pub returns-in_default-clause-value : goal.returns-in_default-clause-value
unfolding second_width
returns-in_default-clause-value c = search for_widths
