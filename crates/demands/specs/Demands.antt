-- The three demands, of a call and of a run of calls, and what a check that is of no use would break: statements. The proofs stand in
-- proofs/. What is quoted here is from the demands (docs/PROMISES.md), but for the ledger's form and the useless checks, which are document 01's.
-- Assumes nothing.
use Rattle.std.specs.Prelude.{Ok, Err, ◌+◌, ◌≤◌, ◌<◌, ◌≡◌, true, false, ◌⊎◌, ◌↔◌, List, [], ◌∷◌, length, get_or, T}
use Rattle.house.specs.Text.{Text, how_many}
use Rattle.house.specs.Members.{In, Distinct}
use Rattle.dates.specs.Dates.{is_day}
use Rattle.lines.specs.Shape.{shape_of}
use Rattle.book.specs.Book.{book_ok}
use Rattle.ledger.specs.Ledger.{Event, slots_in, ledger_ok, live_in}
use Rattle.rules.specs.Findings.{Finding}
use Rattle.rules.specs.Claims.{Broken, Lists, AreaHolds}
use Rattle.answers.specs.declared.Refusal.TheVariants.{Date, Long, Book, Ledger, Shape as BadShape, Findings, Full}
use Rattle.answers.specs.Answers.{Answer, Lent, Outcome, file_most, setting_of, added, changed, deleted, not_immunized, Gives, numbers_of, is_accepted, is_findings}
use Rattle.demands.specs.Runs.{Step, Promise, Run, ledger_after_run, all_added, all_deleted, last_added, is_of}

-- DEMAND 1: "the check ends with one of the numbered answers .. A refused file leaves the ledger byte for byte as lent; the findings area
-- holds only what document 01 says."
pub record Demand1 (x : Lent) (o : Outcome) : Type 0 where
  pub numbered : get_or (numbers_of o.answer) 0 8 ≤ 7
  pub ledger_kept : is_accepted o.answer ≡ false → o.ledger ≡ x.ledger
  pub area_kept : is_findings o.answer ≡ false → o.area ≡ x.area
  pub ledger_length : length o.ledger ≡ length x.ledger
  pub area_length : length o.area ≡ length x.area

-- DEMAND 2: "accepted exactly if the shape is right, no record breaks a rule and the ledger has room; otherwise the first fault of shape, or
-- every broken rule with line and field, none missing, none twice, in file order, as far as the area holds, or the refusal due before or
-- after these."

-- rule y .rule is broken at field y.field of line y .line
abbrev pub BrokenIn : Lent → Finding → Type 0
BrokenIn x y = Broken (setting_of x) x.file y

-- no record breaks a rule
abbrev pub Unbroken : Lent → Type 0
Unbroken x = (y : Finding) → BrokenIn x y → ⊥

-- these are the broken rules, each once, in order
abbrev pub ListsAll : Lent → List Finding → Type 0
ListsAll x ys = Lists (setting_of x) x.file ys

-- "live + added - deleted" does not exceed the slots
abbrev pub Room : Lent → Type 0
Room x = length (live_in x.ledger) + length (added x) ≤ slots_in x.ledger + length (deleted x)

-- date, file, book and ledger are as they must be, so that the file's lines are looked at
pub record Lends (x : Lent) : Type 0 where
  pub day : is_day x.today ≡ true
  pub short : length x.file ≤ file_most
  pub book : book_ok x.book ≡ true
  pub ledger : ledger_ok x.ledger ≡ true

-- and the shape is right, so that its records are judged
pub record Shapely (x : Lent) : Type 0 where
  pub lends : Lends x
  pub right : shape_of x.file ≡ Ok tt

-- when each answer is due, with its extra numbers: the table of document 01, "The lowest number that applies is given."
unfoldable pub Due : Lent → Answer → Type 0
Due x (Ok a) =
    Shapely x
    × Unbroken x
    × Room x
    × (length (added x) ≡ a.added)
    × (length (changed x) ≡ a.changed)
    × (length (deleted x) ≡ a.deleted)
    × (not_immunized x ≡ a.not_immunized)
Due x (Err Date) = is_day x.today ≡ false
Due x (Err Long) = (is_day x.today ≡ true) × (file_most < length x.file)
Due x (Err Book) = (is_day x.today ≡ true) × (length x.file ≤ file_most) × (book_ok x.book ≡ false)
Due x (Err Ledger) = (is_day x.today ≡ true) × (length x.file ≤ file_most) × (book_ok x.book ≡ true) × (ledger_ok x.ledger ≡ false)
Due x (Err (BadShape fault)) = Lends x × (shape_of x.file ≡ Err fault)
Due x (Err (Findings n)) = Shapely x × (1 ≤ n) × (ys : List Finding) × ListsAll x ys × (length ys ≡ n)
Due x (Err Full) = Shapely x × Unbroken x × (Room x → ⊥)

pub record Demand2 (x : Lent) (o : Outcome) : Type 0 where
  pub exactly : (a : Answer) → (o.answer ≡ a) ↔ Due x a
  -- at 6, byte by byte
  pub area : is_findings o.answer ≡ true → (ys : List Finding) → ListsAll x ys → AreaHolds x.area ys o.area

-- THE LEDGER: "After acceptance it holds exactly the events live before, plus the added, less the deleted, in this form."
pub record LedgerAfter (x : Lent) (o : Outcome) : Type 0 where
  pub kept : is_accepted o.answer ≡ false → o.ledger ≡ x.ledger
  pub same_length : length o.ledger ≡ length x.ledger
  pub in_form : is_accepted o.answer ≡ true → ledger_ok o.ledger ≡ true
  pub holds : is_accepted o.answer ≡ true → (e : Event) → In e (live_in o.ledger) ↔ (In e (added x) ⊎ (In e (live_in x.ledger) × (In e (deleted x) → ⊥)))
  -- "Lots in one block count once": no event is added or deleted twice by one file, nor both
  pub adds_once : is_accepted o.answer ≡ true → Distinct (added x)
  pub deletes_once : is_accepted o.answer ≡ true → Distinct (deleted x)
  pub not_both : is_accepted o.answer ≡ true → (e : Event) → In e (added x) → In e (deleted x) → ⊥
  -- "a change moves no total": what is changed was live and stays so
  pub change_stays : is_accepted o.answer ≡ true → (e : Event) → In e (changed x) → In e (live_in x.ledger) × In e (live_in o.ledger)
  pub change_alone : is_accepted o.answer ≡ true → added x ≡ [] → deleted x ≡ [] → live_in o.ledger ≡ live_in x.ledger

-- DEMAND 3: "Over any run of files, each handed the ledger the one before left, live events number those added in accepted files less those
-- deleted in accepted files, overall and for each patient; an event is live exactly if the last accepted file to add or delete it added it."
-- Of a run from a well-formed ledger of any size with no live event, refused calls among them.
pub record Demand3 (ledger : Text) (ss : List Step) : Type 0 where
  pub in_form : ledger_ok ledger ≡ true → ledger_ok (ledger_after_run ledger ss) ≡ true
  pub overall : ledger_ok ledger ≡ true → live_in ledger ≡ [] → length (live_in (ledger_after_run ledger ss)) + length (all_deleted ss) ≡ length (all_added ss)
  pub each_patient : (uli : Text) → ledger_ok ledger ≡ true → live_in ledger ≡ []
      → how_many (is_of uli) (live_in (ledger_after_run ledger ss)) + how_many (is_of uli) (all_deleted ss) ≡ how_many (is_of uli) (all_added ss)
  pub live_last : (e : Event) → ledger_ok ledger ≡ true → live_in ledger ≡ [] → In e (live_in (ledger_after_run ledger ss)) ↔ T (last_added e false ss)

-- every run of calls that keep the promise is such
abbrev pub MeetsDemand3 : Promise → Type 0
MeetsDemand3 promise = (ledger : Text) (ss : List Step) → Run promise ledger ss → Demand3 ledger ss

-- What is demanded of calls that keep a promise
pub record Demands (promise : Promise) : Type 0 where
  pub demand_1 : (x : Lent) (o : Outcome) → promise x o → Demand1 x o
  pub demand_2 : (x : Lent) (o : Outcome) → promise x o → Demand2 x o
  pub ledger_after_lem : (x : Lent) (o : Outcome) → promise x o → LedgerAfter x o
  pub demand_3 : MeetsDemand3 promise

-- No second answer, ledger or findings area meets what is demanded of one call
abbrev pub OneOutcome : Type 0
OneOutcome = (x : Lent) (o p : Outcome)
    → Demand1 x o
    → Demand2 x o
    → LedgerAfter x o
    → Demand1 x p
    → Demand2 x p
    → LedgerAfter x p
    → o ≡ p

-- "Four useless checks are shut out"

-- anything that answers as the check does
abbrev pub Check : Type 0
Check = Lent → Outcome

-- that its calls are answered by it
abbrev pub By : Check → Promise
By check x o = o ≡ check x

-- one that refuses everything
abbrev pub RefusesAll : Check → Type 0
RefusesAll check = (x : Lent) → is_accepted (check x).answer ≡ false

-- one with a constant answer
abbrev pub Constant : Check → Type 0
Constant check = (x y : Lent) → (check x).answer ≡ (check y).answer

-- one that never touches the ledger
abbrev pub NeverTouches : Check → Type 0
NeverTouches check = (x : Lent) → (check x).ledger ≡ x.ledger

-- one that applies only the first file of a run: once an accepted file has altered the ledger, no later one does
abbrev pub OnlyFirst : Check → Type 0
OnlyFirst check = (ledger : Text) (s : Step) (ss : List Step)
    → Run (By check) ledger (s ∷ ss)
    → is_accepted s.left.answer ≡ true
    → (s.left.ledger ≡ ledger → ⊥)
    → ledger_after_run ledger (s ∷ ss) ≡ s.left.ledger

-- there is one that meets demand 2 and does apply a file, so that it takes demand 3 to shut it out
abbrev pub Applies : Check → Type 0
Applies check = (x : Lent) × (is_accepted (check x).answer ≡ true) × ((check x).ledger ≡ x.ledger → ⊥)

abbrev pub OnlyFirstThere : Type 0
OnlyFirstThere = (check : Check) × ((x : Lent) → Demand2 x (check x)) × OnlyFirst check × Applies check

pub record UselessShutOut : Type 0 where
  pub refuses_all : (check : Check) → ((x : Lent) → Demand2 x (check x)) → RefusesAll check → ⊥
  pub constant : (check : Check) → ((x : Lent) → Demand2 x (check x)) → Constant check → ⊥
  pub never_touches : (check : Check) → ((x : Lent) → Demand2 x (check x)) → MeetsDemand3 (By check) → NeverTouches check → ⊥
  pub only_first : (check : Check) → ((x : Lent) → Demand2 x (check x)) → MeetsDemand3 (By check) → OnlyFirst check → ⊥

-- THE CODE: what the function `check` promises of a call
abbrev pub CodeGives : Promise
CodeGives x o = Gives x o.answer o.ledger o.area

abbrev pub CodeMeets : Type 0
CodeMeets = Demands CodeGives
