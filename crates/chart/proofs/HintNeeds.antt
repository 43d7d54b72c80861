-- What each need of the functions that order lots by guesses, and find a lot by notes, asks.
-- Assumes nothing.
use mathlib.Core.Path.{◌≡◌, ◌∙◌}
use mathlib.Core.List.{List}
use Prim.Native.Nat.{ℕ, ◌≤◌}
use native.Mathlib.Omega.{arith}
use borrow.Author.Rules.{rules}
use lib.ListN.{length, take}
use lib.Seq.{length-take-le}
use Rattle.house.specs.Text.{Text}
use Rattle.lines_words.specs.Words.{in_order}
use Rattle.lines_words.specs.Inside.{SameEntries}
use Rattle.lines_words.proofs.PutLaws.{same_refl}
use Rattle.chart.proofs.EventLaws.{event_index, event_there}

-- ARRANGE_LOTS
pub room_count : (room : List ℕ) (n : ℕ) → n ≤ length room → length (take n room) ≡ n
room_count room n h = length-take-le n room h

pub room_kept : (a b : List ℕ) (n : ℕ) → length b ≡ length a → n ≤ length a → n ≤ length b
room_kept a b n e h = omega (arith, e, h)

pub ruleset for_arrange_lots = (rules, same_refl, room_count, room_kept)

-- ORDER_LOTS
pub order_same : (key : ℕ → Text) (a b c : List ℕ) → SameEntries a b → c ≡ in_order key b → c ≡ in_order key a
order_same key a b c p e = e ∙ p.ordered key

pub ruleset for_order_lots = (rules, order_same)

-- INDEX_OF
pub ruleset for_index_of = (rules, event_index, event_there)
