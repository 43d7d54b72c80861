-- What each need of the questions by halving asks.
-- Assumes nothing.
use mathlib.Core.Path.{◌≡◌, refl, sym, ◌∙◌}
use mathlib.Core.Bool.{Bool, true, false}
use mathlib.Core.List.{List}
use Prim.Native.Nat.{ℕ, ◌+◌, ◌≤◌, ◌<◌}
use borrow.Author.Rules.{rules}
use borrow.Author.Tests.{eq-eqb, ne_eqb, lt-ltb, le-ltb}
use lib.ListN.{length, get_or, drop}
use Rattle.house.specs.Text.{Text, order_of, same}
use Rattle.std.specs.declared.cmp.Ordering.{Ordering}
use Rattle.std.specs.declared.cmp.Ordering.TheVariants.{Less, Equal, Greater}
use Rattle.house.proofs.Suffix.{drop_here, drop_past}
use Rattle.house.specs.Search.{binary_search}
use Rattle.house.proofs.SearchLaws.{searched_some, searched_or}
use Rattle.std.proofs.Common.{Option, Some, None}
use Rattle.std.specs.Option.{is_some, unwrap_or}
use Rattle.lines_words.specs.Words.{chart_event, key_at, row_between, has_between, has_key, row_of, found_at, keys_among}
use Rattle.lines_words.proofs.EventNeeds.{one_less, one_same, one_more}
use Rattle.lines_words.proofs.EventLaws.{event_key_same}

-- row_between
module _ (key : ℕ → Text) (from e f : ℕ) (o : Ordering) (r : o ≡ order_of (key f) (key e)) where
  pub row_less : o ≡ Less → Less ≡ row_between key from e f
  unfolding row_between
  row_less h = rw (← r, h)

  pub row_more : o ≡ Greater → Greater ≡ row_between key from e f
  unfolding row_between
  row_more h = rw (← r, h)

  pub row_early : o ≡ Equal → f < from → Less ≡ row_between key from e f
  unfolding row_between
  row_early h k = rw (← r, h, lt-ltb f from k)

  pub row_among : o ≡ Equal → from ≤ f → f < e → Equal ≡ row_between key from e f
  unfolding row_between
  row_among h k l = rw (← r, h, le-ltb f from k, lt-ltb f e l)

  pub row_late : o ≡ Equal → from ≤ f → e ≤ f → Greater ≡ row_between key from e f
  unfolding row_between
  row_late h k l = rw (← r, h, le-ltb f from k, le-ltb f e l)

pub ruleset for_row_between = (rules, row_less, row_more, row_early, row_among, row_late)

-- has_between, has_key
module _ (key : ℕ → Text) (es : List ℕ) (e : ℕ) (x : Option ℕ) (r : Bool) (p : r ≡ is_some x) where
  pub asked_between : (from : ℕ) → x ≡ binary_search (λ (i : ℕ). row_between key from e (get_or es i 0)) Some None (length es) 0 (length es) → r ≡ has_between key es from e
  unfolding has_between
  asked_between from h = p ∙ searched_some (λ (i : ℕ). row_between key from e (get_or es i 0)) (length es) x h

  pub asked_key : x ≡ binary_search (λ (i : ℕ). order_of (key (get_or es i 0)) (key e)) Some None (length es) 0 (length es) → r ≡ has_key key es e
  unfolding has_key
  asked_key h = p ∙ searched_some (λ (i : ℕ). order_of (key (get_or es i 0)) (key e)) (length es) x h

pub ruleset for_has_between = (rules, asked_between)

pub ruleset for_has_key = (rules, asked_key)

-- row_of
module _ (key : ℕ → Text) (e f : ℕ) (o : Ordering) (r : o ≡ order_of (key f) (key e)) where
  pub stands_less : o ≡ Less → Less ≡ row_of key e f
  unfolding row_of
  stands_less h = rw (← r, h)

  pub stands_more : o ≡ Greater → Greater ≡ row_of key e f
  unfolding row_of
  stands_more h = rw (← r, h)

  pub stands_here : o ≡ Equal → e ≡ f → Equal ≡ row_of key e f
  unfolding row_of
  stands_here h k = rw (← r, h, eq-eqb e f k)

  pub stands_late : o ≡ Equal → (e ≡ f → ⊥) → e < f → Greater ≡ row_of key e f
  unfolding row_of
  stands_late h k l = rw (← r, h, ne_eqb e f k, lt-ltb e f l)

  pub stands_early : o ≡ Equal → (e ≡ f → ⊥) → f ≤ e → Less ≡ row_of key e f
  unfolding row_of
  stands_early h k l = rw (← r, h, ne_eqb e f k, le-ltb e f l)

pub ruleset for_row_of = (rules, stands_less, stands_more, stands_here, stands_late, stands_early)

-- find_entry
pub asked_place : (key : ℕ → Text) (es : List ℕ) (e : ℕ) (x : Option ℕ) (r : ℕ) → r ≡ unwrap_or x (length es)
    → x ≡ binary_search (λ (i : ℕ). row_of key e (get_or es i 0)) Some None (length es) 0 (length es) → r ≡ found_at key es e
unfolding found_at
asked_place key es e x r p h = p ∙ searched_or (λ (i : ℕ). row_of key e (get_or es i 0)) (length es) x h (length es)

pub ruleset for_find_entry = (rules, asked_place)

-- keys_among
module _ (key : ℕ → Text) (es fs : List ℕ) where
  pub among_start : keys_among key es fs ≡ keys_among key (drop 0 es) fs
  among_start = refl

  module _ (i : ℕ) (x : Bool) (inv : x ≡ keys_among key (drop i es) fs) where
    pub among_end : length es ≤ i → true ≡ x
    unfolding keys_among
    among_end h = rw (inv, drop_past es i h)

    module _ (h : i < length es) (r : Bool) (q : r ≡ has_key key fs (get_or es i 0)) where
      pub among_on : r ≡ true → x ≡ keys_among key (drop (i + 1) es) fs
      unfolding keys_among
      among_on z = rw (inv, drop_here es i h, ← q, z)

      pub among_not : r ≡ false → false ≡ x
      unfolding keys_among
      among_not z = rw (inv, drop_here es i h, ← q, z)

pub ruleset for_keys_among = (rules, among_start, among_end, among_on, among_not)

-- one_key
pub key_of_event : (s : Text) (w e f : ℕ) (r : Bool) → w ≡ 2 → r ≡ same (chart_event s e) (chart_event s f) → r ≡ same (key_at w s e) (key_at w s f)
key_of_event s w e f r h x = rw h (x ∙ sym (event_key_same s e f))

pub ruleset for_one_key = (rules, key_of_event, one_less, one_same, one_more)
