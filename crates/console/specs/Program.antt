-- The program that document 01 calls `check`: "reads eight digits of today and LF, then the submission (at most 32,000 bytes), from standard
-- input; `codes.bin` (16,000) and `ledger.bin` (7,600) by name". "A first line of another form is no date; .. an input too long is LONG, BOOK
-- or LEDGER."
-- Assumes nothing.
use Rattle.std.specs.Prelude.{ℕ, Bool, not, cond, ◌&&◌, length, get_or, take, drop, eqb, ltb, leb}
use Rattle.house.specs.Text.{Text, number}
use Rattle.dates.specs.Dates.{is_date, is_day}
use Rattle.book.specs.Book.{book_ok}
use Rattle.answers.specs.declared.Refusal.{Refusal}
use Rattle.answers.specs.declared.Refusal.TheVariants.{Date, Long, Book, Ledger}
use Rattle.answers.specs.Answers.{Lent, Outcome, lent, refused, check}

abbrev pub submission_most : ℕ
submission_most = 32000

abbrev pub codes_most : ℕ
codes_most = 16000

abbrev pub ledger_most : ℕ
ledger_most = 7600

-- the first line is a date: eight digits and LF
unfoldable pub is_dated : Text → Bool
is_dated input = leb 9 (length input) && (eqb (get_or input 8 0) 10 && is_date (take 8 input))

-- today; 0, which is no date, for any other first line
unfoldable pub today_in : Text → ℕ
today_in input = cond (is_dated input) (number (take 8 input)) 0

-- what the check is lent: today, what follows its line, and the files
abbrev pub lent_by : Text → Text → Text → Text → Lent
lent_by input book ledger area = lent (today_in input) (drop 9 input) book ledger area

-- a ledger that is too long is LEDGER, unless the book is malformed
unfoldable pub over_long : Text → Refusal
over_long book = cond (book_ok book) Ledger Book

-- "The lowest number that applies is given."
unfoldable pub answer_of : Text → Text → Text → Text → Outcome
answer_of input book ledger area =
    let x = lent_by input book ledger area in
    cond (not (is_day (today_in input))) (refused x Date)
    (cond (ltb submission_most (length (drop 9 input))) (refused x Long)
    (cond (ltb codes_most (length book)) (refused x Book)
    (cond (ltb ledger_most (length ledger)) (refused x (over_long book))
    (check x))))
