use Rattle.book.proofs.WidthLaws.{for_widths}
use Rattle.book.proofs.widths.start_width.Goals as goal

pub returns-then-k-eq-VACCINE-clause-value : goal.returns-then-k-eq-VACCINE-clause-value
returns-then-k-eq-VACCINE-clause-value c = search for_widths

pub returns-else-k-eq-VACCINE-clause-value : goal.returns-else-k-eq-VACCINE-clause-value
returns-else-k-eq-VACCINE-clause-value c = search for_widths
