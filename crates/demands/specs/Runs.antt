-- Runs of calls over one ledger, each handed the ledger that the one before left.
-- Assumes nothing.
use Rattle.std.specs.Prelude.{◌≡◌, Bool, not, cond, ◌&&◌, ◌||◌, List, [], ◌∷◌, ◌++◌, take}
use Rattle.house.specs.Text.{Text, same}
use Rattle.ledger.specs.Ledger.{Event, is_among}
use Rattle.answers.specs.Answers.{Lent, Outcome, is_accepted, added, deleted}

-- one call: what it was lent, and what it answered and left
pub record Step : Type 0 where
  pub lent : Lent
  pub left : Outcome

-- what is promised of one call
abbrev pub Promise : Type 1
Promise = Lent → Outcome → Type 0

-- a run from a ledger: each call is handed the ledger that the one before left, and keeps the promise
abbrev pub Run : Promise → Text → List Step → Type 0
Run promise ledger [] = Unit {0}
Run promise ledger (s ∷ ss) = (s.lent.ledger ≡ ledger) × promise s.lent s.left × Run promise s.left.ledger ss

-- the ledger after a run
abbrev pub ledger_after_run : Text → List Step → Text
ledger_after_run ledger [] = ledger
ledger_after_run ledger (s ∷ ss) = ledger_after_run s.left.ledger ss

-- the events that a call adds and deletes: none where its file is not accepted
unfoldable pub added_by : Step → List Event
added_by s = cond (is_accepted s.left.answer) (added s.lent) []

unfoldable pub deleted_by : Step → List Event
deleted_by s = cond (is_accepted s.left.answer) (deleted s.lent) []

-- the events that the accepted files of a run add, and delete, as often as they do
abbrev pub all_added : List Step → List Event
all_added [] = []
all_added (s ∷ ss) = added_by s ++ all_added ss

abbrev pub all_deleted : List Step → List Event
all_deleted [] = []
all_deleted (s ∷ ss) = deleted_by s ++ all_deleted ss

-- the last accepted file of a run to add or delete the event added it; where none did, as it was before the run
abbrev pub last_added : Event → Bool → List Step → Bool
last_added e was [] = was
last_added e was (s ∷ ss) = last_added e (is_among (added_by s) e || (not (is_among (deleted_by s) e) && was)) ss

-- the event is of the patient with this ULI
unfoldable pub is_of : Text → Event → Bool
is_of uli e = same uli (take 9 e)
