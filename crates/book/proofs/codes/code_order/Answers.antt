use Rattle.book.proofs.CodeLaws.{for_code_order}
use Rattle.book.proofs.codes.code_order.Goals as goal

pub returns-in-Less : goal.returns-in-Less
returns-in-Less c = search for_code_order

pub returns-in-Greater : goal.returns-in-Greater
returns-in-Greater c = search for_code_order

pub returns-in-Equal : goal.returns-in-Equal
returns-in-Equal c = search for_code_order
