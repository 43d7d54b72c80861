-- For each public function: no second answer meets its contract.
-- Assumes nothing.
use mathlib.Core.Path.{◌≡◌}
use Prim.Native.Nat.{ℕ}
use lib.ListN.{drop}
use Rattle.house.specs.Text.{Text}
use Rattle.book.specs.declared.Position.{Position}
use Rattle.book.specs.declared.Read.{Read}
use Rattle.book.specs.declared.Sections.{Sections}
use Rattle.book.specs.declared.Standing.{Standing}
use Rattle.book.specs.Book.{code_text, read_at, valid_of}
use Rattle.book.specs.LookUp.{found_in, standing_by, with_hash_table}
use Rattle.std.proofs.Common.{Option}

pub read_one : (p : Position) (s : Text) (x y : Read) → x ≡ read_at p.at (drop p.at s) → y ≡ read_at p.at (drop p.at s) → x ≡ y
read_one p s x y e f = cc

pub valid_one : (s : Text) (x y : Option Sections) → x ≡ valid_of s → y ≡ valid_of s → x ≡ y
valid_one s x y e f = cc

pub find_one : (s : Text) (q : Sections) (k : ℕ) (a b : Text) (x y : Option Position) → x ≡ found_in s q k (code_text k a b) → y ≡ found_in s q k (code_text k a b) → x ≡ y
find_one s q k a b x y e f = cc

pub look_up_one : (s : Text) (q : Sections) (k : ℕ) (a b : Text) (d u : ℕ) (x y : Standing) → x ≡ standing_by s q k (code_text k a b) d u → y ≡ standing_by s q k (code_text k a b) d u → x ≡ y
look_up_one s q k a b d u x y e f = cc

pub hash_book_one : (s : Text) (q : Sections) (room x y : Text) → x ≡ with_hash_table s q room → y ≡ with_hash_table s q room → x ≡ y
hash_book_one s q room x y e f = cc
