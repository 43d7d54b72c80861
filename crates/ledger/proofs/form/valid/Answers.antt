use Rattle.ledger.proofs.FormLaws.{for_valid}
use Rattle.ledger.proofs.form.valid.Goals as goal

pub returns-then-ledger-ne0 : goal.returns-then-ledger-ne0
returns-then-ledger-ne0 c = search for_valid

pub returns-then-ledger-gt-MOST_SLOTS : goal.returns-then-ledger-gt-MOST_SLOTS
returns-then-ledger-gt-MOST_SLOTS c = search for_valid

pub returns : goal.returns
returns c = search for_valid
