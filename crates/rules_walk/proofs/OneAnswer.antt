-- No second answer meets the contract of a public function.
-- Assumes nothing.
use mathlib.Core.Path.{◌≡◌, sym, ◌∙◌}
use mathlib.Core.Bool.{Bool}
use mathlib.Core.List.{List}
use Prim.Native.Nat.{ℕ}
use lib.ListN.{length}
use Rattle.house.specs.Text.{Text}
use Rattle.rules_walk.specs.declared.Built.{Built}
use Rattle.std.proofs.Common.{Option}
use Rattle.house.specs.Over.{over}
use Rattle.rules_walk.specs.Firsts.{sound_four, front_of, front_in, part_of}
use Rattle.rules_walk.specs.Repeats.{repeats_in, is_noted, note_all}

one : {A : Type 0} {x r q : A} → r ≡ x → q ≡ x → r ≡ q
one e f = e ∙ sym f

-- an answer, and the places left
two : {A : Type 0} {x r q : A} {z s t : List ℕ} → (r ≡ x) × (s ≡ z) → (q ≡ x) × (t ≡ z) → (r ≡ q) × (s ≡ t)
two e g = (one e.0 g.0, one e.1 g.1)

sort_index : (f : Text) (area : List ℕ) (n : ℕ) (r q : Option Built) (s t : List ℕ) → (r ≡ front_of f area n) × (s ≡ front_in f area n) → (q ≡ front_of f area n) × (t ≡ front_in f area n)
    → (r ≡ q) × (s ≡ t)
sort_index f area n r q s t = two

four_sound : (t u v w : Text) (r q : Bool) → r ≡ sound_four t u v w → q ≡ sound_four t u v w → r ≡ q
four_sound t u v w r q = one

is_noted_lem : (table : Text) (p : ℕ) (r q : Bool) → r ≡ is_noted table p → q ≡ is_noted table p → r ≡ q
is_noted_lem table p r q = one

note_repeats : (f : Text) (index : List ℕ) (table s t : Text) → s ≡ note_all (repeats_in f index) table → t ≡ note_all (repeats_in f index) table → s ≡ t
note_repeats f index table s t = one

count_of : (f : Text) (letter : ℕ) (ps : List ℕ) (r q : ℕ) → r ≡ length (part_of f letter ps) → q ≡ length (part_of f letter ps) → r ≡ q
count_of f letter ps r q = one

part_of_lem : (f : Text) (letter : ℕ) (ps out : List ℕ) (r q : ℕ) (s t : List ℕ) → (r ≡ length (part_of f letter ps)) × (s ≡ over (part_of f letter ps) out)
    → (q ≡ length (part_of f letter ps)) × (t ≡ over (part_of f letter ps) out)
    → (r ≡ q) × (s ≡ t)
part_of_lem f letter ps out r q s t = two

keep : (f : Text) (letter : ℕ) (ps : List ℕ) (r q : ℕ) (s t : List ℕ) → (r ≡ length (part_of f letter ps)) × (s ≡ over (part_of f letter ps) ps)
    → (q ≡ length (part_of f letter ps)) × (t ≡ over (part_of f letter ps) ps)
    → (r ≡ q) × (s ≡ t)
keep f letter ps r q s t = two
