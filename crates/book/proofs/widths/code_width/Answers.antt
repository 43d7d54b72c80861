use Rattle.book.proofs.WidthLaws.{for_widths}
use Rattle.book.proofs.widths.code_width.Goals as goal

pub returns-clause-value : goal.returns-clause-value
returns-clause-value c = search for_widths
