-- For each public function: no second answer meets its contract.
-- Assumes nothing.
use mathlib.Core.Path.{◌≡◌, ap, sym, ◌∙◌}
use mathlib.Core.Bool.{Bool}
use mathlib.Core.List.{List}
use Prim.Native.Nat.{ℕ}
use lib.ListN.{length, set}
use Rattle.std.proofs.Common.{Option, Some, None}
use Rattle.std.specs.declared.cmp.Ordering.{Ordering}
use Rattle.house.specs.declared.Key.{Key}
use Rattle.house.specs.Text.{Text, all, within, order_of, below, same, pad, is_padded, digits}
use Rattle.house.specs.Search.{binary_search}
use Rattle.house.specs.Key.{key_of}
use Rattle.house.specs.Numbers.{lesser_of, greater_of, number_at}

pub compare_one : (a b : Text) (x y : Ordering) → x ≡ order_of a b → y ≡ order_of a b → x ≡ y
compare_one a b x y p q = cc

pub before_one : (a b : Text) (x y : Bool) → x ≡ below a b → y ≡ below a b → x ≡ y
before_one a b x y p q = cc

pub same_one : (a b : Text) (x y : Bool) → x ≡ same a b → y ≡ same a b → x ≡ y
same_one a b x y p q = cc

pub compare_padded_one : (code t : Text) (x y : Ordering) → x ≡ order_of code (pad (length code) t) → y ≡ order_of code (pad (length code) t) → x ≡ y
compare_padded_one code t x y p q = cc

pub compare_pads_one : (w : ℕ) (a b : Text) (x y : Ordering) → x ≡ order_of (pad w a) (pad w b) → y ≡ order_of (pad w a) (pad w b) → x ≡ y
compare_pads_one w a b x y p q = cc

pub is_padded_one : (t : Text) (x y : Bool) → x ≡ is_padded t → y ≡ is_padded t → x ≡ y
is_padded_one t x y p q = cc

pub all_digits_one : (t : Text) (x y : Bool) → x ≡ digits t → y ≡ digits t → x ≡ y
all_digits_one t x y p q = cc

pub key_of_one : (u d v : Text) (x y : Key) → x.bytes ≡ key_of u d v → y.bytes ≡ key_of u d v → x ≡ y
key_of_one u d v x y p q = ap (λ (b : Text). record { bytes = b }) (p ∙ sym q)

pub number_at_one : (s : Text) (at x y : ℕ) → x ≡ number_at s at → y ≡ number_at s at → x ≡ y
number_at_one s at x y p q = cc

pub all_within_one : (lo hi : ℕ) (t : Text) (x y : Bool) → x ≡ all (within lo hi) t → y ≡ all (within lo hi) t → x ≡ y
all_within_one lo hi t x y p q = cc

pub wide_one : (p x y : ℕ) → x ≡ p → y ≡ p → x ≡ y
wide_one p x y e f = cc

pub lesser_byte_one : (a b x y : ℕ) → x ≡ lesser_of a b → y ≡ lesser_of a b → x ≡ y
lesser_byte_one a b x y p q = cc

pub greater_byte_one : (a b x y : ℕ) → x ≡ greater_of a b → y ≡ greater_of a b → x ≡ y
greater_byte_one a b x y p q = cc

pub lesser_one : (m n x y : ℕ) → x ≡ lesser_of m n → y ≡ lesser_of m n → x ≡ y
lesser_one m n x y p q = cc

pub put_one : (out : List ℕ) (n p : ℕ) (x y : List ℕ) → x ≡ set out n p → y ≡ set out n p → x ≡ y
put_one out n p x y e f = cc

pub search_by_one : (stands : ℕ → Ordering) (n : ℕ) (x y : Option ℕ) → x ≡ binary_search stands Some None n 0 n → y ≡ binary_search stands Some None n 0 n → x ≡ y
search_by_one stands n x y p q = cc
