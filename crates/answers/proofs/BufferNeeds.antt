-- What each need of the functions that lend buffers, or a book with its hash table, asks.
-- Assumes nothing.
use mathlib.Core.Path.{◌≡◌, sym, ap, ◌∙◌, subst}
use mathlib.Core.List.{List}
use Prim.Native.Nat.{ℕ, ◌*◌, ◌≤◌}
use native.Mathlib.Omega.{arith}
use borrow.Author.Rules.{rules}
use lib.ListN.{length, take}
use lib.Seq.{take_all}
use Rattle.house.specs.Text.{Text}
use Rattle.book.specs.LookUp.{with_hash_table}
use Rattle.book.proofs.ValidLaws.{book_small, hash_table_starts, end_is}
use Rattle.rules.specs.declared.By.{By}
use Rattle.rules.specs.Look.{book_in}
use Rattle.answers.specs.Answers.{Outcome, lent, judged}
use Rattle.answers.specs.Inside.{Ready}

-- judge_by_hash
module _ (today : ℕ) (file book ledger area : Text) (by : By) (ready : Ready (lent today file book ledger area) by) (room bytes : Text) (size : length room ≡ 327680) (e : bytes ≡ with_hash_table book by.sections room) where
  starts : book_in by bytes ≡ book
  starts = ap (book_in by) e ∙ hash_table_starts book by.sections room ready.book (omega (arith, book_small book by.sections ready.book))

  pub hashed_ready : Ready (lent today file (book_in by bytes) ledger area) by
  hashed_ready = subst (λ (b : Text). Ready (lent today file b ledger area) by) (sym starts) ready

  pub hashed_on : (o : Outcome) → o ≡ judged (lent today file (book_in by bytes) ledger area) → o ≡ judged (lent today file book ledger area)
  hashed_on o f = f ∙ ap (λ (b : Text). judged (lent today file b ledger area)) starts

pub ruleset for_judge_by_hash = (rules, hashed_ready, hashed_on)

-- judge_short, lend_index_buffer: room enough for the blocks
pub short_room : (file : Text) (room : List ℕ) → length file ≤ 16384 → length room ≡ 316 → length file ≤ 52 * length room
short_room file room h size = omega arith

pub full_room : (file : Text) (room : List ℕ) → length file ≤ 5000000 → length room ≡ 96154 → length file ≤ 52 * length room
full_room file room h size = omega arith

-- judge_short: nothing follows the book
module _ (today : ℕ) (file book ledger area : Text) (by : By) (ready : Ready (lent today file book ledger area) by) where
  all_of_it : book_in by book ≡ book
  all_of_it = ap (λ (n : ℕ). take n book) (end_is book by.sections ready.book) ∙ take_all (length book) book (omega arith)

  pub short_ready : Ready (lent today file (book_in by book) ledger area) by
  short_ready = subst (λ (b : Text). Ready (lent today file b ledger area) by) (sym all_of_it) ready

  pub short_on : (o : Outcome) → o ≡ judged (lent today file (book_in by book) ledger area) → o ≡ judged (lent today file book ledger area)
  short_on o f = f ∙ ap (λ (b : Text). judged (lent today file b ledger area)) all_of_it

pub ruleset for_lend_index_buffer = (rules, full_room)

pub ruleset for_judge_short = (rules, short_room, short_ready, short_on)
