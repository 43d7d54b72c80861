-- The records in writing order are those of the chart: every total is the same, so each stands there as often, and the file has the same length.
-- Assumes nothing.
use Prim.Native.Nat.{ℕ, zero, suc, ◌+◌}
use native.Mathlib.Omega.{arith}
use mathlib.Core.Path.{◌≡◌, refl, sym, ap, ◌∙◌}
use mathlib.Core.Bool.{Bool, true, false, not, cond, ◌||◌}
use mathlib.Core.List.{List, [], ◌∷◌, ◌++◌}
use lib.ListN.{length, length-append}
use lib.Dec.{eqb}
use borrow.Author.Tests.{eqb-true}
use Rattle.house.specs.Text.{all, how_many, front, after_front, joined}
use Rattle.writing.specs.Writing.{decimal}
use Rattle.lines.specs.Lines.{LF, pipe}
use Rattle.lines.specs.Records.{IH, IP, II, IE}
use Rattle.chart_definitions.specs.Charts.{Charted, is_of, written_fields, ordered}
use Rattle.chart_definitions.specs.Lots.{pieces, together, same_lots, of_immunization, immunizations, lots_together, patient_order, in_writing_order}
use Rattle.chart_definitions.specs.Submissions.{piped, line_text, type_text, numbered_fields, record_text, records_text}
use Rattle.chart_definitions.proofs.TotalLaws.{total, total_append, total_joined, length_by_total, many_by_total, all_by_total}
use Rattle.chart_definitions.proofs.PieceLaws.{front_after, pieces_joined}
use Rattle.chart_definitions.proofs.TogetherLaws.{together_total}
use Rattle.chart_definitions.proofs.LotLaws.{lots_sym, lots_trans, pieces_self}
use Rattle.chart_definitions.proofs.FollowLaws.{after_ip, ordered_here, ordered_rest, ordered_front, starts_patient}

-- the records of immunizations behind an IP start with an II
pub starts_ii : (rs : List Charted) → ordered IP rs ≡ true → after_front (λ (r : Charted). not (is_of II r)) (front of_immunization rs) ≡ front of_immunization rs
unfolding of_immunization
starts_ii [] e = refl
starts_ii (r ∷ rs) e = go (eqb r.kind II) refl (after_ip r.kind (ordered_here IP r rs e))
  where
    go : (b : Bool) → eqb r.kind II ≡ b → (b ≡ false → eqb r.kind IE ≡ false)
        → after_front (λ (q : Charted). not (is_of II q)) (cond (b || eqb r.kind IE) (r ∷ front of_immunization rs) []) ≡ cond (b || eqb r.kind IE) (r ∷ front of_immunization rs) []
    go true q h = rw q
    go false q h = rw (h refl)

module _ (f : Charted → ℕ) where
  -- the records behind an IP
  pub lots_total : (rs : List Charted) → ordered IP rs ≡ true → total f (lots_together rs) ≡ total f rs
  unfolding lots_together immunizations
  lots_total rs e =
      let lots = immunizations (front of_immunization rs) in
      let apart : total f (joined (λ (x : List Charted). x) lots) ≡ total f (front of_immunization rs) = ap (total f) (pieces_joined (is_of II) (front of_immunization rs) ∙ starts_ii rs e) in
      let moved : total f (joined (λ (x : List Charted). x) (together same_lots lots)) ≡ total f (joined (λ (x : List Charted). x) lots) =
      total_joined f (λ (x : List Charted). x) (together same_lots lots)
      ∙ together_total same_lots lots_sym lots_trans lots (pieces_self (is_of II) (front of_immunization rs)) (total f)
      ∙ sym (total_joined f (λ (x : List Charted). x) lots) in
      total_append f (joined (λ (x : List Charted). x) (together same_lots lots)) (after_front of_immunization rs)
      ∙ ap (λ (n : ℕ). n + total f (after_front of_immunization rs)) (moved ∙ apart)
      ∙ sym (total_append f (front of_immunization rs) (after_front of_immunization rs))
      ∙ ap (total f) (front_after of_immunization rs)

  -- from the first IP on
  patients_total : (p : ℕ) (rs : List Charted) → ordered p rs ≡ true
      → total f (joined patient_order (pieces (is_of IP) rs)) ≡ total f (after_front (λ (r : Charted). not (is_of IP r)) rs)
  patients_total p [] e = refl
  patients_total p (r ∷ rs) e = go (eqb r.kind IP) refl (patients_total r.kind rs (ordered_rest p r rs e))
    where
      own : List Charted
      own = front (λ (q : Charted). not (is_of IP q)) rs

      go : (b : Bool) → eqb r.kind IP ≡ b
          → total f (joined patient_order (pieces (is_of IP) rs)) ≡ total f (after_front (λ (q : Charted). not (is_of IP q)) rs)
          → total f (joined patient_order (cond b ((r ∷ own) ∷ pieces (is_of IP) rs) (pieces (is_of IP) rs)))
          ≡ total f (cond (not b) (after_front (λ (q : Charted). not (is_of IP q)) rs) (r ∷ rs))
      go true q h =
          let k : ordered IP rs ≡ true = ap (λ (n : ℕ). ordered n rs) (sym (eqb-true r.kind IP q)) ∙ ordered_rest p r rs e in
          let a : total f (lots_together own) ≡ total f own = lots_total own (ordered_front IP rs k) in
          ap (λ (n : ℕ). f r + n) (total_append f (lots_together own) (joined patient_order (pieces (is_of IP) rs))
          ∙ ap (λ (n : ℕ). n + total f (joined patient_order (pieces (is_of IP) rs))) a
          ∙ ap (λ (n : ℕ). total f own + n) h
          ∙ sym (total_append f own (after_front (λ (q : Charted). not (is_of IP q)) rs))
          ∙ ap (total f) (front_after (λ (q : Charted). not (is_of IP q)) rs))
      go false q h = h

module _ (rs : List Charted) (e : ordered IH rs ≡ true) where
  pub order_total : (f : Charted → ℕ) → total f (in_writing_order rs) ≡ total f rs
  unfolding in_writing_order
  order_total f = patients_total f IH rs e ∙ ap (total f) (starts_patient rs e)

  pub order_length : length (in_writing_order rs) ≡ length rs
  order_length = length_by_total (in_writing_order rs) rs order_total

  pub order_many : (p : Charted → Bool) → how_many p (in_writing_order rs) ≡ how_many p rs
  order_many p = many_by_total (in_writing_order rs) rs order_total p

  pub order_all : (p : Charted → Bool) → all p (in_writing_order rs) ≡ all p rs
  order_all p = all_by_total (in_writing_order rs) rs order_total p

-- THE LENGTH OF THE TEXT

-- a record's line has its number's digits, and bytes that its place has no part in
unfoldable pub own_bytes : Charted → ℕ
own_bytes r = length (type_text r.kind) + 3 + length (joined piped (written_fields r))

-- the digits of so many numbers from n on
abbrev pub digits_from : ℕ → ℕ → ℕ
digits_from n zero = 0
digits_from n (suc m) = length (decimal n) + digits_from (suc n) m

pub record_length : (n : ℕ) (r : Charted) → length (record_text n r) ≡ length (decimal n) + own_bytes r
unfolding record_text line_text numbered_fields own_bytes
record_length n r =
    omega (
      arith,
      length-append (joined piped (type_text r.kind ∷ decimal n ∷ written_fields r)) (LF ∷ []),
      length-append (piped (type_text r.kind)) (piped (decimal n) ++ joined piped (written_fields r)),
      length-append (piped (decimal n)) (joined piped (written_fields r)),
      length-append (type_text r.kind) (pipe ∷ []),
      length-append (decimal n) (pipe ∷ []),
    )

pub records_length : (n : ℕ) (rs : List Charted) → length (records_text n rs) ≡ digits_from n (length rs) + total own_bytes rs
unfolding records_text
records_length n [] = refl
records_length n (r ∷ rs) = omega (arith, length-append (record_text n r) (records_text (suc n) rs), record_length n r, records_length (suc n) rs)

-- the file is as long in whatever order
pub order_text : (n : ℕ) (rs : List Charted) → ordered IH rs ≡ true → length (records_text n (in_writing_order rs)) ≡ length (records_text n rs)
order_text n rs e =
    records_length n (in_writing_order rs)
    ∙ ap (λ (m : ℕ). digits_from n m + total own_bytes (in_writing_order rs)) (order_length rs e)
    ∙ ap (λ (m : ℕ). digits_from n (length rs) + m) (order_total rs e own_bytes)
    ∙ sym (records_length n rs)
