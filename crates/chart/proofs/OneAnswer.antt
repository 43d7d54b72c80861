-- No second answer meets the contract of `write`, nor that of `number`.
-- Assumes nothing.
use mathlib.Core.Path.{◌≡◌, refl, sym, ap, ◌∙◌}
use Prim.Native.Nat.{ℕ}
use Rattle.std.specs.Prelude.{Result, Ok, Err}
use Rattle.house.specs.Text.{Text}
use Rattle.chart_definitions.specs.Submissions.{Request, Written, Writes}
use Rattle.chart.specs.declared.Refusal.{Refusal}
use Rattle.chart.specs.declared.Refusal.TheVariants.{Record, Room}
use Rattle.chart.specs.Written.{number_of, answer_of, length_of}

pub write_one : (x : Request) (a b l m : ℕ) (s t : Text) → Writes x a l s → Writes x b m t → (a ≡ b) × ((l ≡ m) × (s ≡ t))
write_one x a b l m s t p q =
    let e = p ∙ sym q in
    (ap (λ (w : Written). w.answer) e, (ap (λ (w : Written). w.length) e, ap (λ (w : Written). w.area) e))

-- the numbers tell which result it is
told : (r q : Result ℕ Refusal) → answer_of r ≡ answer_of q → length_of r ≡ length_of q → r ≡ q
told (Ok a) (Ok b) e f = ap Ok f
told (Ok a) (Err Record) e f = cc
told (Ok a) (Err Room) e f = cc
told (Err Record) (Ok b) e f = cc
told (Err Room) (Ok b) e f = cc
told (Err Record) (Err Record) e f = refl
told (Err Record) (Err Room) e f = cc
told (Err Room) (Err Record) e f = cc
told (Err Room) (Err Room) e f = refl

pub write_result : (x : Request) (r q : Result ℕ Refusal) (s t : Text) → Writes x (answer_of r) (length_of r) s → Writes x (answer_of q) (length_of q) t → (r ≡ q) × (s ≡ t)
write_result x r q s t p w =
    let e = write_one x (answer_of r) (answer_of q) (length_of r) (length_of q) s t p w in
    (told r q e.0 e.1.0, e.1.1)

pub number : (c : Refusal) (m n : ℕ) → m ≡ number_of c → n ≡ number_of c → m ≡ n
number c m n p q = p ∙ sym q
