-- What each need of `put_note`, `note`, `note_at` and `noted_end` asks.
-- Assumes nothing.
use mathlib.Core.Path.{◌≡◌, sym}
use mathlib.Core.List.{List}
use Prim.Native.Nat.{ℕ, ◌+◌, ◌-◌, ◌/◌, ◌≤◌, ◌<◌}
use native.Mathlib.Omega.{arith}
use borrow.Author.Rules.{rules}
use borrow.Author.Tests.{eq-eqb, ne_eqb, lt-ltb, le-ltb}
use lib.ListN.{length, get_or, set, get_or-eq_default}
use Rattle.house.specs.Text.{Text}
use Rattle.house.proofs.Suffix.{set_past}
use Rattle.chart_records.specs.Reading.{record_end, noted_end}
use Rattle.chart_records.specs.Inside.{note_if}

-- put_note
pub put_past : (ns : List ℕ) (at : ℕ) → length ns ≤ at / 1727 → ns ≡ set ns (at / 1727) (at + 1)
put_past ns at h = set_past ns (at / 1727) (at + 1) h

pub ruleset for_put_note = (rules, put_past)

-- note
module _ (ns : List ℕ) (at end : ℕ) (h : at < end) where
  pub note_put : (new : List ℕ) → end - (at + 1) ≡ 99 → at < 4294967295 → new ≡ set ns (at / 1727) (at + 1) → new ≡ note_if at end ns
  unfolding note_if
  note_put new e l q = let k : end ≡ at + 1 + 99 = omega (arith, e) in rw (eq-eqb end (at + 1 + 99) k, lt-ltb at 4294967295 l) q

  pub note_far : end - (at + 1) ≡ 99 → 4294967295 ≤ at → ns ≡ note_if at end ns
  unfolding note_if
  note_far e l = let k : end ≡ at + 1 + 99 = omega (arith, e) in rw (eq-eqb end (at + 1 + 99) k, le-ltb at 4294967295 l)

  pub note_other : (end - (at + 1) ≡ 99 → ⊥) → ns ≡ note_if at end ns
  unfolding note_if
  note_other n = let k : end ≡ at + 1 + 99 → ⊥ = λ e. n (omega (arith, e)) in rw (ne_eqb end (at + 1 + 99) k)

pub ruleset for_note = (rules, note_put, note_far, note_other)

-- note_at
pub note_past : (ns : List ℕ) (at : ℕ) → length ns ≤ at / 1727 → 0 ≡ get_or ns (at / 1727) 0
note_past ns at h = sym (get_or-eq_default ns 0 h)

pub ruleset for_note_at = (rules, note_past)

-- noted_end
module _ (s : Text) (ns : List ℕ) (at : ℕ) where
  pub noted_past : length s ≤ at → length s ≡ noted_end s ns at
  unfolding noted_end
  noted_past h = rw (le-ltb at (length s) h)

  module _ (h : at < length s) (x : ℕ) (ex : x ≡ get_or ns (at / 1727) 0) where
    pub noted_here : x ≡ at + 1 → at + 1 + 99 ≡ noted_end s ns at
    unfolding noted_end
    noted_here e = rw (lt-ltb at (length s) h, ← ex, eq-eqb x (at + 1) e)

    pub noted_other : (r : ℕ) → (x ≡ at + 1 → ⊥) → r ≡ record_end s at → r ≡ noted_end s ns at
    unfolding noted_end
    noted_other r n e = rw (lt-ltb at (length s) h, ← ex, ne_eqb x (at + 1) n) e

pub ruleset for_noted_end = (rules, noted_past, noted_here, noted_other)
