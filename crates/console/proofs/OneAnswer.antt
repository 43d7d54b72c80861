-- No second answer, ledger or findings area meets the contract of `answer`.
-- Assumes nothing.
use mathlib.Core.Path.{◌≡◌, sym, ◌∙◌}
use Rattle.house.specs.Text.{Text}
use Rattle.answers.specs.Answers.{Answer, left}
use Rattle.console.specs.Program.{answer_of}

pub one_answer : (input book ledger area : Text) (a b : Answer) (l m s t : Text) → left a l s ≡ answer_of input book ledger area → left b m t ≡ answer_of input book ledger area
    → left a l s ≡ left b m t
one_answer input book ledger area a b l m s t e f = e ∙ sym f
