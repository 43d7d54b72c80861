-- No second answer meets the contract of a public function, nor a second area that it leaves.
-- Assumes nothing.
use mathlib.Core.Path.{◌≡◌, sym, ap, ◌∙◌}
use Prim.Native.Nat.{ℕ}
use Rattle.house.specs.Text.{Text}
use Rattle.tuulveski.specs.declared.interface.Numbers.{Numbers}
use Rattle.tuulveski.specs.declared.interface.FieldAt.{FieldAt}
use Rattle.tuulveski.specs.declared.interface.LineFrom.{LineFrom}
use Rattle.tuulveski.specs.declared.interface.Written.{Written}
use Rattle.answers.specs.Answers.{Lent}
use Rattle.chart_definitions.specs.Submissions.{Request, Writes}
use Rattle.chart_definitions.specs.Submissions as Submissions
use Rattle.tuulveski.specs.Interface.{numbers, numbers_in, GivesNumbers, field_at, field_from, line_from}

-- the eight numbers are the whole of the struct
same_numbers : (n m : Numbers) → numbers_in n ≡ numbers_in m → n ≡ m
unfolding numbers_in
same_numbers n m e =
    let a : n.answer ≡ m.answer = cc in
    let b : n.line ≡ m.line = cc in
    let c : n.cause ≡ m.cause = cc in
    let d : n.findings ≡ m.findings = cc in
    let f : n.added ≡ m.added = cc in
    let g : n.changed ≡ m.changed = cc in
    let h : n.deleted ≡ m.deleted = cc in
    let i : n.not_immunized ≡ m.not_immunized = cc in
    let q : numbers n.answer n.line n.cause n.findings n.added n.changed n.deleted n.not_immunized
    ≡ numbers m.answer m.line m.cause m.findings m.added m.changed m.deleted m.not_immunized = cc in
    q

tuulveski_check_one : (x : Lent) (n k : Numbers) (l m r s : Text) → GivesNumbers x n l r → GivesNumbers x k m s → (n ≡ k) × (l ≡ m) × (r ≡ s)
tuulveski_check_one x n k l m r s e f =
    (same_numbers n k (e.numbers_are ∙ sym f.numbers_are), e.ledger_is ∙ sym f.ledger_is, e.area_is ∙ sym f.area_is)

tuulveski_field_one : (s : Text) (line field : ℕ) (r q : FieldAt) → r ≡ field_at s line field → q ≡ field_at s line field → r ≡ q
tuulveski_field_one s line field r q e f = e ∙ sym f

tuulveski_line_from_one : (s : Text) (start number line : ℕ) (r q : LineFrom) → r ≡ line_from s start number line → q ≡ line_from s start number line → r ≡ q
tuulveski_line_from_one s start number line r q e f = e ∙ sym f

tuulveski_field_from_one : (s : Text) (start field : ℕ) (r q : FieldAt) → r ≡ field_from s start field → q ≡ field_from s start field → r ≡ q
tuulveski_field_from_one s start field r q e f = e ∙ sym f

tuulveski_write_one : (x : Request) (r q : Written) (s t : Text) → Writes x r.answer r.length s → Writes x q.answer q.length t → (r ≡ q) × (s ≡ t)
tuulveski_write_one x r q s t e f =
    let p = e ∙ sym f in
    (ap (λ (w : Submissions.Written). record { answer = w.answer; length = w.length }) p, ap (λ (w : Submissions.Written). w.area) p)
