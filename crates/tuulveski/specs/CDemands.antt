-- The demands, of what C gets: statements. The proofs stand in proofs/.
-- Assumes nothing.
use Rattle.std.specs.Prelude.{◌≡◌}
use Rattle.house.specs.Text.{Text}
use Rattle.answers.specs.Answers.{Answer, Lent, Outcome, numbers_of}
use Rattle.tuulveski.specs.declared.interface.Numbers.{Numbers}
use Rattle.tuulveski.specs.Interface.{numbers_in, GivesNumbers}
use Rattle.demands.specs.Demands.{Demands}

-- the numbers tell this answer
abbrev pub Tell : Numbers → Answer → Type 0
Tell n a = numbers_in n ≡ numbers_of a

-- what C got of a call: numbers that tell the answer, the ledger and the findings area, as `tuulveski_check` promises them
pub record CGives (x : Lent) (o : Outcome) : Type 0 where
  pub numbers : Numbers
  pub tell : Tell numbers o.answer
  pub gives : GivesNumbers x numbers o.ledger o.area

pub record CMeets : Type 0 where
  -- the numbers that C gets tell one answer
  pub some_answer : (x : Lent) (n : Numbers) (ledger area : Text) → GivesNumbers x n ledger area → (a : Answer) × Tell n a
  pub one_answer : (n : Numbers) (a b : Answer) → Tell n a → Tell n b → a ≡ b
  -- and of this answer, in one call and in any run of calls, all that is demanded holds
  pub demands : Demands CGives
