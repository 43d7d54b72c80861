-- No second answer, ledger or index meets the contract of `settle`.
-- Assumes nothing.
use mathlib.Core.Path.{◌≡◌, sym, ◌∙◌}
use mathlib.Core.List.{List}
use Prim.Native.Nat.{ℕ}
use Rattle.house.specs.Text.{Text}
use Rattle.answers.specs.Settled.{settled_of, settled_ledger, settled_index}
use Rattle.answers.specs.declared.settle.Counts.{Counts}
use Rattle.std.proofs.Common.{Option}

module _ (file ledger : Text) (live : ℕ) (index : List ℕ) where
  -- what the contract says of an answer, the ledger and the index after
  pub record Settles (r : Option Counts) (after : Text) (places : List ℕ) : Type 0 where
    pub answer : r ≡ settled_of file ledger live index
    pub ledger_is : after ≡ settled_ledger file ledger live index
    pub index_is : places ≡ settled_index file ledger live index

  pub one_answer : (r s : Option Counts) (a b : Text) (i j : List ℕ) → Settles r a i → Settles s b j → (r ≡ s) × (a ≡ b) × (i ≡ j)
  one_answer r s a b i j x y = (x.answer ∙ sym y.answer, x.ledger_is ∙ sym y.ledger_is, x.index_is ∙ sym y.index_is)
