use Rattle.rules_fields.proofs.CodeNeeds.{for_book_kind}
use Rattle.rules_fields.proofs.codes.book_kind.Goals as goal

pub returns-in-8 : goal.returns-in-8
returns-in-8 c = search for_book_kind

pub returns-in-11 : goal.returns-in-11
returns-in-11 c = search for_book_kind

pub returns-in-13 : goal.returns-in-13
returns-in-13 c = search for_book_kind

pub returns-in-14 : goal.returns-in-14
returns-in-14 c = search for_book_kind

pub returns-in_default-f : goal.returns-in_default-f
returns-in_default-f c = search for_book_kind

pub returns-in-4-f : goal.returns-in-4-f
returns-in-4-f c = search for_book_kind

pub returns-in_default-f-2 : goal.returns-in_default-f-2
returns-in_default-f-2 c = search for_book_kind

pub returns-in-6-f : goal.returns-in-6-f
returns-in-6-f c = search for_book_kind

pub returns-in_default-f-3 : goal.returns-in_default-f-3
returns-in_default-f-3 c = search for_book_kind

pub returns-in-4-f-2 : goal.returns-in-4-f-2
returns-in-4-f-2 c = search for_book_kind

pub returns-in_default-f-4 : goal.returns-in_default-f-4
returns-in_default-f-4 c = search for_book_kind

pub returns-in_default : goal.returns-in_default
returns-in_default c = search for_book_kind
