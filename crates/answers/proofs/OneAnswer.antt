-- No second answer meets the contract of the public function, nor a second ledger or findings area.
-- Assumes nothing.
use mathlib.Core.Path.{◌≡◌, sym, ap, ◌∙◌}
use Rattle.house.specs.Text.{Text}
use Rattle.answers.specs.Answers.{Answer, Lent, Outcome, left, Gives}

check_one : (x : Lent) (a b : Answer) (l m r s : Text) → Gives x a l r → Gives x b m s → (a ≡ b) × (l ≡ m) × (r ≡ s)
check_one x a b l m r s e f =
    let g : left a l r ≡ left b m s = e ∙ sym f in
    (ap (λ (o : Outcome). o.answer) g, ap (λ (o : Outcome). o.ledger) g, ap (λ (o : Outcome). o.area) g)
