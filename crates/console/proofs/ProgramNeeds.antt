-- What each need of the program's functions asks.
-- Assumes nothing.
use mathlib.Core.Path.{◌≡◌, refl, sym, ap, ◌∙◌}
use mathlib.Core.Bool.{Bool, true, false, cond, ◌&&◌}
use Prim.Native.Nat.{ℕ, ◌-◌, ◌≤◌, ◌<◌}
use native.Mathlib.Omega.{arith}
use borrow.Author.Rules.{rules}
use borrow.Author.Tests.{eq-eqb, ne_eqb, le-leb, lt-leb, leb-true, lt-ltb, le-ltb}
use lib.Dec.{eqb, ltb, leb}
use lib.ListN.{length, get_or, take, drop, length-drop}
use lib.Seq.{take_all}
use Rattle.dates.specs.declared.Date.{Date}
use Rattle.house.specs.Text.{Text, digits, number}
use Rattle.dates.specs.Dates.{is_date, is_day, dated_of}
use Rattle.house.proofs.Small.{both, clash}
use Rattle.dates.proofs.DateLaws.{dated_true, dated_number, dated_false}
use Rattle.book.specs.declared.Sections.{Sections}
use Rattle.book.specs.Book.{book_ok, valid_of, sections_of}
use Rattle.answers.specs.declared.Refusal.{Refusal}
use Rattle.answers.specs.declared.Refusal.TheVariants.{Date as NoDay, Long, Book, Ledger}
use Rattle.answers.specs.Answers.{Answer, lent, left, check}
use Rattle.console.specs.Program.{is_dated, today_in, over_long, answer_of}
use Rattle.std.proofs.Common.{Err, Option, Some, None}

-- today_in
module _ (input : Text) where
  pub today_short : length input < 9 → 0 ≡ today_in input
  unfolding today_in is_dated
  today_short h = rw (lt-leb 9 (length input) h)

  module _ (h : 9 ≤ length input) where
    pub today_open : (get_or input 8 0 ≡ 10 → ⊥) → 0 ≡ today_in input
    unfolding today_in is_dated
    today_open n = rw (le-leb 9 (length input) h, ne_eqb (get_or input 8 0) 10 n)

    module _ (e : get_or input 8 0 ≡ 10) (d : Option Date) (o : d ≡ dated_of (take (8 - 0) input)) where
      pub today_day : (x : Date) → d ≡ Some x → x.number ≡ today_in input
      unfolding today_in is_dated
      today_day x z = dated_number (take 8 input) x (sym o ∙ z) ∙ rw (le-leb 9 (length input) h, eq-eqb (get_or input 8 0) 10 e, dated_true (take 8 input) x (sym o ∙ z))

      pub today_none : d ≡ None → 0 ≡ today_in input
      unfolding today_in is_dated
      today_none z = rw (le-leb 9 (length input) h, eq-eqb (get_or input 8 0) 10 e, dated_false (take 8 input) (sym o ∙ z))

pub ruleset for_today_in = (rules, today_short, today_open, today_day, today_none)

-- over_long
module _ (book : Text) (v : Option Sections) (e : v ≡ valid_of book) where
  pub over_ledger_lem : (q : Sections) → v ≡ Some q → Ledger ≡ over_long book
  unfolding over_long valid_of
  over_ledger_lem q z = go (book_ok book) (sym e ∙ z)
    where
      go : (b : Bool) → cond b (Some (sections_of book)) None ≡ Some q → Ledger ≡ cond b Ledger Book
      go true h = refl
      go false h = clash (cc)

  pub over_book : v ≡ None → Book ≡ over_long book
  unfolding over_long valid_of
  over_book z = go (book_ok book) (sym e ∙ z)
    where
      go : (b : Bool) → cond b (Some (sections_of book)) None ≡ None → Book ≡ cond b Ledger Book
      go true h = clash (cc)
      go false h = refl

pub ruleset for_over_long = (rules, over_ledger_lem, over_book)

-- answer
day_0 : is_day 0 ≡ false
unfolding is_day
day_0 = refl

module _ (input book ledger area : Text) (today : ℕ) (e : today ≡ today_in input) where
  pub answer_date : today ≡ 0 → left (Err NoDay) ledger area ≡ answer_of input book ledger area
  unfolding answer_of
  answer_date z = rw (sym e ∙ z, day_0)

  module _ (n : today ≡ 0 → ⊥) where
    dated : is_dated input ≡ true
    unfolding today_in
    dated = go (is_dated input) (λ z. n (e ∙ z))
      where
        go : (b : Bool) → (cond b (number (take 8 input)) 0 ≡ 0 → ⊥) → b ≡ true
        go true h = refl
        go false h = absurd (h refl)

    parts : (9 ≤ length input) × (is_date (take 8 input) ≡ true)
    unfolding is_dated
    parts =
        let p = both (leb 9 (length input)) (eqb (get_or input 8 0) 10 && is_date (take 8 input)) dated in
        (leb-true 9 (length input) p.0, (both (eqb (get_or input 8 0) 10) (is_date (take 8 input)) p.1).1)

    is_day_lem : is_day (today_in input) ≡ true
    unfolding today_in is_date
    is_day_lem = rw dated (both (eqb (length (take 8 input)) 8 && digits (take 8 input)) (is_day (number (take 8 input))) parts.1).1

    pub answer_in : 9 ≤ length input
    answer_in = parts.0

    pub answer_long : 32009 < length input → left (Err Long) ledger area ≡ answer_of input book ledger area
    unfolding answer_of
    answer_long h = let m : 32000 < length (drop 9 input) = omega (arith, length-drop 9 input) in rw (is_day_lem, lt-ltb 32000 (length (drop 9 input)) m)

    module _ (s : length input ≤ 32009) where
      short : ltb 32000 (length (drop 9 input)) ≡ false
      short = le-ltb 32000 (length (drop 9 input)) (omega (arith, length-drop 9 input))

      pub answer_book : 16000 < length book → left (Err Book) ledger area ≡ answer_of input book ledger area
      unfolding answer_of
      answer_book h = rw (is_day_lem, short, lt-ltb 16000 (length book) h)

      module _ (b : length book ≤ 16000) where
        pub answer_over : (r : Refusal) → 7600 < length ledger → r ≡ over_long book → left (Err r) ledger area ≡ answer_of input book ledger area
        unfolding answer_of
        answer_over r h z = rw (is_day_lem, short, le-ltb 16000 (length book) b, lt-ltb 7600 (length ledger) h, z)

        pub answer_check : (r : Answer) (after found : Text) → length ledger ≤ 7600
            → left r after found ≡ check (lent today (take (length input - 9) (drop 9 input)) book ledger area) → left r after found ≡ answer_of input book ledger area
        unfolding answer_of
        answer_check r after found h z =
            z
            ∙ ap (λ (t : Text). check (lent today t book ledger area)) (take_all (length input - 9) (drop 9 input) (omega (arith, length-drop 9 input)))
            ∙ ap (λ (d : ℕ). check (lent d (drop 9 input) book ledger area)) e
            ∙ sym (rw (is_day_lem, short, le-ltb 16000 (length book) b, le-ltb 7600 (length ledger) h))

pub ruleset for_answer = (rules, answer_date, answer_in, answer_long, answer_book, answer_over, answer_check)
