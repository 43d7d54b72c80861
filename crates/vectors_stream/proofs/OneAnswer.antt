-- No second answer meets a contract.
-- Assumes nothing.
use Prim.Native.Nat.{ℕ}
use mathlib.Core.Path.{◌≡◌, sym, subst, ◌∙◌}
use mathlib.Core.Bool.{true}
use mathlib.Core.List.{List}
use Rattle.vectors_stream.specs.declared.Part.{Part}
use Rattle.vectors_stream.specs.Parts.{PartIs, FirstIs, two_there}

one_part : (s : List ℕ) (at : ℕ) (p q : Part) → PartIs s at p → PartIs s at q → p ≡ q
one_part s at p q h k = h.exact ∙ sym k.exact

-- the parts that are handed out
one_first : (s a b c d : List ℕ) → FirstIs s a b → FirstIs s c d → (a ≡ c) × (b ≡ d)
one_first s a b c d h k = (h.part_is ∙ sym k.part_is, h.rest_is ∙ sym k.rest_is)

one_two : (s a r b t c q d u : List ℕ) → FirstIs s a r → FirstIs r b t → FirstIs s c q → FirstIs q d u → (a ≡ c) × ((b ≡ d) × (t ≡ u))
one_two s a r b t c q d u h k f g =
    let x = one_first s a r c q h f in
    let y = one_first r b t d u k (subst (λ (z : List ℕ). FirstIs z d u) (sym x.1) g) in
    (x.0, y)

-- where two parts are handed out they are there, so that it is settled when there are none
two_are : (s a r b t : List ℕ) → FirstIs s a r → FirstIs r b t → two_there s ≡ true
unfolding two_there
two_are s a r b t h k = simp (h.whole, ← h.rest_is, k.whole)

-- `wide`
one_width : (b m n : ℕ) → m ≡ b → n ≡ b → m ≡ n
one_width b m n h k = h ∙ sym k
