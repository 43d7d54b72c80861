use Rattle.book.proofs.WidthLaws.{for_widths}
use Rattle.book.specs.Book.{first_width}
use Rattle.book.proofs.widths.first_width.Goals as goal

pub returns-in-1-clause-value : goal.returns-in-1-clause-value
unfolding first_width
returns-in-1-clause-value c = search for_widths

pub returns-in-2-clause-value : goal.returns-in-2-clause-value
unfolding first_width
returns-in-2-clause-value c = search for_widths

pub returns-in-3-clause-value : goal.returns-in-3-clause-value
unfolding first_width
returns-in-3-clause-value c = search for_widths

pub returns-in-4-clause-value : goal.returns-in-4-clause-value
unfolding first_width
returns-in-4-clause-value c = search for_widths

pub returns-in-5-clause-value : goal.returns-in-5-clause-value
unfolding first_width
returns-in-5-clause-value c = search for_widths

pub returns-in-6-clause-value : goal.returns-in-6-clause-value
unfolding first_width
returns-in-6-clause-value c = search for_widths

pub returns-in-7-clause-value : goal.returns-in-7-clause-value
unfolding first_width
returns-in-7-clause-value c = search for_widths

pub returns-in-8-clause-value : goal.returns-in-8-clause-value
unfolding first_width
returns-in-8-clause-value c = search for_widths

pub returns-in_default-clause-value : goal.returns-in_default-clause-value
unfolding first_width
returns-in_default-clause-value c = search for_widths
