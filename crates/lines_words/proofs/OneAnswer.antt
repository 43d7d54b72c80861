-- For each public function: no second answer meets its contract.
-- Assumes nothing.
use mathlib.Core.Path.{◌≡◌}
use mathlib.Core.Bool.{Bool}
use mathlib.Core.List.{List}
use Prim.Native.Nat.{ℕ}
use lib.ListN.{length}
use Rattle.house.specs.Text.{Text, same, order_of}
use Rattle.std.specs.declared.cmp.Ordering.{Ordering}
use Rattle.house.specs.Over.{over}
use Rattle.lines_words.specs.Words.{chart_event, event_hash, key_at, in_order, has_between, found_at, keys_among, apart}

module _ (s : Text) (what : ℕ) (es : List ℕ) where
  pub sort_one : (x y : List ℕ) → x ≡ in_order (key_at what s) es → y ≡ in_order (key_at what s) es → x ≡ y
  sort_one x y p q = cc

  pub has_between_one : (from e : ℕ) (x y : Bool) → x ≡ has_between (key_at what s) es from e → y ≡ has_between (key_at what s) es from e → x ≡ y
  has_between_one from e x y p q = cc

  pub find_entry_one : (e x y : ℕ) → x ≡ found_at (key_at what s) es e → y ≡ found_at (key_at what s) es e → x ≡ y
  find_entry_one e x y p q = cc

  pub one_key_one : (e f : ℕ) (x y : Bool) → x ≡ same (key_at what s e) (key_at what s f) → y ≡ same (key_at what s e) (key_at what s f) → x ≡ y
  one_key_one e f x y p q = cc

  pub keys_among_one : (fs : List ℕ) (x y : Bool) → x ≡ keys_among (key_at what s) es fs → y ≡ keys_among (key_at what s) es fs → x ≡ y
  keys_among_one fs x y p q = cc

  pub keep_apart_one : (x y : ℕ) (a b : List ℕ) → x ≡ length (apart (key_at what s) es) → y ≡ length (apart (key_at what s) es)
      → a ≡ over (apart (key_at what s) es) es → b ≡ over (apart (key_at what s) es) es → (x ≡ y) × (a ≡ b)
  keep_apart_one x y a b p q u v = (cc, cc)

pub event_order_one : (s : Text) (e f : ℕ) (x y : Ordering) → x ≡ order_of (chart_event s e) (chart_event s f) → y ≡ order_of (chart_event s e) (chart_event s f) → x ≡ y
event_order_one s e f x y p q = cc

pub event_hash_one : (s : Text) (e x y : ℕ) → x ≡ event_hash s e → y ≡ event_hash s e → x ≡ y
event_hash_one s e x y p q = cc
