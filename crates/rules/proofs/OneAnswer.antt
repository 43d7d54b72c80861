-- No second answer, index or findings area meets the contract of `judge`.
-- Assumes nothing.
use mathlib.Core.Path.{◌≡◌, sym, ◌∙◌}
use mathlib.Core.List.{List}
use Prim.Native.Nat.{ℕ}
use lib.ListN.{length}
use Rattle.house.specs.Text.{Text}
use Rattle.rules_walk.specs.Firsts.{built_in}
use Rattle.rules.specs.declared.By.{By}
use Rattle.rules.specs.declared.Judged.{Judged}
use Rattle.std.proofs.Common.{Option}
use Rattle.rules.specs.Judged.{judged_of, judged_area}

module _ (file book : Text) (by : By) (ledger : Text) (room : List ℕ) (area : Text) where
  -- what the contract says of an answer, the room and the area after
  pub record Judges (r : Option Judged) (index : List ℕ) (after : Text) : Type 0 where
    pub answer : r ≡ judged_of file book by ledger (length room)
    pub room_is : index ≡ built_in file room
    pub area_is : after ≡ judged_area file book by ledger (length room) area

  pub one_answer : (r s : Option Judged) (i j : List ℕ) (a b : Text) → Judges r i a → Judges s j b → (r ≡ s) × (i ≡ j) × (a ≡ b)
  one_answer r s i j a b x y = (x.answer ∙ sym y.answer, x.room_is ∙ sym y.room_is, x.area_is ∙ sym y.area_is)
