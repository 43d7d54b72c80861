-- What each need of the table of repeats asks.
-- Assumes nothing.
use mathlib.Core.Path.{◌≡◌, refl, sym, ap, ◌∙◌}
use mathlib.Core.Bool.{Bool, true, false, cond}
use mathlib.Core.List.{List, [], ◌∷◌}
use Prim.Native.Nat.{ℕ, ◌+◌, ◌/◌, ◌≤◌, ◌<◌}
use native.Mathlib.Omega.{arith}
use borrow.Author.Rules.{rules}
use lib.Dec.{eqb}
use lib.ListN.{length, get_or, drop, set, length-set, get_or-eq_default}
use Rattle.house.specs.Text.{Text, same}
use Rattle.house.proofs.Suffix.{drop_here, drop_past, set_past}
use Rattle.lines_places.specs.Events.{event_at}
use Rattle.rules_walk.specs.Repeats.{repeats_after, repeats_in, is_noted, note_at, note_all}

-- is_noted
pub noted_there : (table : Text) (p : ℕ) → eqb (get_or table (p / 16) 0) 1 ≡ is_noted table p
unfolding is_noted
noted_there table p = refl

pub noted_past : (table : Text) (p : ℕ) → length table ≤ p / 16 → false ≡ is_noted table p
unfolding is_noted
noted_past table p h = rw (get_or-eq_default table 0 h)

pub ruleset for_is_noted = (rules, noted_there, noted_past)

-- note
pub note_there : (table : Text) (p : ℕ) → set table (p / 16) 1 ≡ note_at table p
unfolding note_at
note_there table p = refl

pub note_past : (table : Text) (p : ℕ) → length table ≤ p / 16 → table ≡ note_at table p
unfolding note_at
note_past table p h = set_past table (p / 16) 1 h

pub ruleset for_note = (rules, note_there, note_past)

-- note_if
module _ (table : Text) (p : ℕ) (again : Bool) where
  pub if_noted : (at : ℕ) (new : Text) → again ≡ true → at ≡ p → new ≡ note_at table at → new ≡ cond again (note_at table p) table
  if_noted at new h e n = n ∙ rw (h, e)

  pub if_left : again ≡ false → table ≡ cond again (note_at table p) table
  if_left h = rw h

pub ruleset for_note_if = (rules, if_noted, if_left)

-- note_again
module _ (f : Text) (p at : ℕ) (last key : Text) (i : at ≡ p) (e : key ≡ event_at f at) where
  pub again_key : key ≡ event_at f p
  again_key = e ∙ ap (event_at f) i

  pub again_noted : (table new : Text) (b : Bool) → b ≡ same last key → new ≡ cond b (note_at table p) table → new ≡ cond (same last key) (note_at table p) table
  again_noted table new b c d = d ∙ rw c

pub ruleset for_note_again = (rules, again_key, again_noted)

-- note_repeats: the first place, a place and those after it
pub none_repeats : (f : Text) (ps : List ℕ) (table : Text) → length ps ≡ 0 → table ≡ note_all (repeats_in f ps) table
unfolding repeats_in note_all
none_repeats f [] table h = refl
none_repeats f (p ∷ ps) table h = absurd (omega arith)

past_repeats : (f e : Text) (ps : List ℕ) (i : ℕ) → length ps ≤ i → repeats_after f e (drop i ps) ≡ []
unfolding repeats_after
past_repeats f e ps i h = rw (drop_past ps i h)

on_repeats : (f e : Text) (ps : List ℕ) (i : ℕ) → i < length ps
    → repeats_after f e (drop i ps)
    ≡ cond (same e (event_at f (get_or ps i 0))) (get_or ps i 0 ∷ repeats_after f (event_at f (get_or ps i 0)) (drop (i + 1) ps)) (repeats_after f (event_at f (get_or ps i 0)) (drop (i + 1) ps))
unfolding repeats_after
on_repeats f e ps i h = rw (drop_here ps i h)

one_noted : (b : Bool) (p : ℕ) (ps : List ℕ) (table : Text) → note_all (cond b (p ∷ ps) ps) table ≡ note_all ps (cond b (note_at table p) table)
unfolding note_all
one_noted true p ps table = refl
one_noted false p ps table = refl

none_noted : (table : Text) → note_all [] table ≡ table
unfolding note_all
none_noted table = refl

pub length_note : (table : Text) (p : ℕ) → length (note_at table p) ≡ length table
unfolding note_at
length_note table p = length-set table (p / 16) 1

-- what is still to be noted of the places ps after the first one, of which i are passed, the event before being e
module _ (f : Text) (all ps : List ℕ) (table₀ : Text) where
  pub record Noting (table : Text) (i : ℕ) (e : Text) : Type 0 where
    pub size : length table ≡ length table₀
    pub left : note_all (repeats_in f all) table₀ ≡ note_all (repeats_after f e (drop i ps)) table

  pub noting_start : (p at : ℕ) (e : Text) → all ≡ p ∷ ps → at ≡ p → e ≡ event_at f at → Noting table₀ 0 e
  unfolding repeats_in
  noting_start p at e h i k = record { size = refl; left = rw (h, k, i) }

  module _ (table : Text) (i : ℕ) (e : Text) (inv : Noting table i e) where
    pub noting_size : length table ≡ length table₀
    noting_size = inv.size

    pub noting_end : length ps ≤ i → table ≡ note_all (repeats_in f all) table₀
    noting_end h = sym (inv.left ∙ ap (λ (l : List ℕ). note_all l table) (past_repeats f e ps i h) ∙ none_noted table)

    pub noting_on : i < length ps → (k : Text) (new : Text) → k ≡ event_at f (get_or ps i 0) → new ≡ cond (same e k) (note_at table (get_or ps i 0)) table → Noting new (i + 1) k
    noting_on h k new b d =
        record {
          size = ap length d ∙ go (same e k) ∙ inv.size;
          left =
              inv.left ∙ ap (λ (l : List ℕ). note_all l table) (on_repeats f e ps i h)
              ∙ one_noted (same e (event_at f (get_or ps i 0))) (get_or ps i 0) (repeats_after f (event_at f (get_or ps i 0)) (drop (i + 1) ps)) table ∙ rw (d, b);
        }
      where
        go : (x : Bool) → length (cond x (note_at table (get_or ps i 0)) table) ≡ length table
        go true = length_note table (get_or ps i 0)
        go false = refl

pub ruleset for_note_repeats = (rules, none_repeats, noting_start, noting_size, noting_end, noting_on)
