-- For each public function: no second answer meets its contract.
-- Assumes nothing.
use mathlib.Core.Path.{◌≡◌}
use mathlib.Core.Bool.{Bool}
use Prim.Native.Nat.{ℕ}
use Rattle.house.specs.Text.{Text}
use Rattle.dates.specs.Dates.{is_day, is_end, day_of, dated_of, ended_of}
use Rattle.dates.specs.declared.Date.{Date}
use Rattle.std.proofs.Common.{Option}

pub is_day_one : (n : ℕ) (x y : Bool) → x ≡ is_day n → y ≡ is_day n → x ≡ y
is_day_one n x y p q = cc

pub of_number_one : (n : ℕ) (x y : Option Date) → x ≡ day_of n → y ≡ day_of n → x ≡ y
of_number_one n x y p q = cc

pub date_of_one : (t : Text) (x y : Option Date) → x ≡ dated_of t → y ≡ dated_of t → x ≡ y
date_of_one t x y p q = cc

pub is_end_one : (t : Text) (x y : Bool) → x ≡ is_end t → y ≡ is_end t → x ≡ y
is_end_one t x y p q = cc

pub end_of_one_lem : (t : Text) (x y : Option Date) → x ≡ ended_of t → y ≡ ended_of t → x ≡ y
end_of_one_lem t x y p q = cc
