-- What each need of the functions that write the whole file asks.
-- Assumes nothing.
use mathlib.Core.Path.{◌≡◌, refl, sym, ap, ◌∙◌}
use mathlib.Core.Bool.{true, ◌&&◌}
use mathlib.Core.List.{List, [], ◌∷◌, ◌++◌, append_assoc, append-nil}
use Prim.Native.Nat.{ℕ, ◌+◌, ◌≤◌, ◌<◌}
use native.Mathlib.Omega.{arith}
use borrow.Author.Rules.{rules}
use borrow.Author.Tests.{leb-true}
use lib.Dec.{leb}
use lib.ListN.{length, length-append}
use Rattle.house.specs.Text.{Text, all, within, is_letter_or_digit, run}
use Rattle.house.proofs.Small.{both}
use Rattle.writing.specs.Writing.{over_from, decimal}
use Rattle.lines.specs.Records.{IH}
use Rattle.rules_definitions.specs.Forms.{is_prefix, is_batch}
use Rattle.chart_definitions.specs.Charts.{Charted, charted_in, well_formed, ordered, is_chart}
use Rattle.chart_definitions.specs.Lots.{in_writing_order}
use Rattle.chart_definitions.specs.Submissions.{piped, line_text, records_text, other_lines, submission_of, request, records_of, file_of, is_right}
use Rattle.chart.specs.Inside.{head_text, foot_text}
use Rattle.chart.proofs.RecordNeeds.{behind, still}

-- IV, and IH up to the prefix
abbrev up_to_prefix : Text
up_to_prefix = 73 ∷ 86 ∷ 124 ∷ 55 ∷ 46 ∷ 50 ∷ 124 ∷ 10 ∷ 73 ∷ 72 ∷ 124 ∷ []

-- PUT_HEAD
module _ (p b : Text) where
  head_parts : head_text p b ≡ up_to_prefix ++ (piped p ++ (piped b ++ (10 ∷ [])))
  unfolding head_text line_text
  head_parts =
      ap (λ (t : Text). up_to_prefix ++ t)
      (ap (λ (t : Text). (piped p ++ t) ++ (10 ∷ [])) (append-nil (piped b)) ∙ append_assoc (piped p) (piped b) (10 ∷ []))

  pub head_long : length (head_text p b) ≡ 14 + length p + length b
  head_long =
      omega (
        arith,
        ap length head_parts,
        length-append up_to_prefix (piped p ++ (piped b ++ (10 ∷ []))),
        length-append (piped p) (piped b ++ (10 ∷ [])),
        length-append (piped b) (10 ∷ []),
        length-append p (124 ∷ []),
        length-append b (124 ∷ []),
      )

  module _ (a c d e f : List ℕ) (k m n : ℕ) (u : c ≡ over_from 0 up_to_prefix a) (i : k ≡ 0 + 11) (v : d ≡ over_from k (piped p) c) (j : m ≡ k + length p + 1)
      (w : e ≡ over_from m (piped b) d) (l : n ≡ m + length b + 1) where
    pub head_put : f ≡ over_from n (10 ∷ []) e → f ≡ over_from 0 (head_text p b) a
    head_put x =
        behind a c f up_to_prefix (piped p ++ (piped b ++ (10 ∷ []))) 0 k u i
        (behind c d f (piped p) (piped b ++ (10 ∷ [])) k m v (omega (arith, j, length-append p (124 ∷ [])))
        (behind d e f (piped b) (10 ∷ []) m n w (omega (arith, l, length-append b (124 ∷ []))) x))
        ∙ ap (λ (t : Text). over_from 0 t a) (sym head_parts)

pub ruleset for_put_head = (rules, head_put)

-- PUT_FOOT
module _ (n : ℕ) where
  foot_parts : foot_text n ≡ (73 ∷ 70 ∷ 124 ∷ []) ++ (piped (decimal n) ++ (48 ∷ 124 ∷ 10 ∷ []))
  unfolding foot_text line_text
  foot_parts = ap (λ (t : Text). (73 ∷ 70 ∷ 124 ∷ []) ++ t) (append_assoc (piped (decimal n)) (48 ∷ 124 ∷ []) (10 ∷ []))

  pub foot_long : length (foot_text n) ≡ 7 + length (decimal n)
  foot_long =
      omega (arith, ap length foot_parts, length-append (piped (decimal n)) (48 ∷ 124 ∷ 10 ∷ []), length-append (decimal n) (124 ∷ []))

  module _ (at : ℕ) (a : List ℕ) (h : at + length (foot_text n) ≤ length a) where
    pub foot_room : at + 3 ≤ length a
    foot_room = omega (arith, h, foot_long)

    module _ (c : List ℕ) (k : ℕ) (u : c ≡ over_from at (73 ∷ 70 ∷ 124 ∷ []) a) (i : k ≡ at + 3) where
      pub foot_room_on : k + length (decimal n) < length c
      foot_room_on = omega (arith, h, foot_long, i, still a c [] (73 ∷ 70 ∷ 124 ∷ []) [] at k u i)

      module _ (d : List ℕ) (m : ℕ) (v : d ≡ over_from k (piped (decimal n)) c) (j : m ≡ k + length (decimal n) + 1) where
        piped_long : m ≡ k + length (piped (decimal n))
        piped_long = omega (arith, j, length-append (decimal n) (124 ∷ []))

        pub foot_room_last : m + 3 ≤ length d
        foot_room_last =
            omega (arith, h, foot_long, i, j, still a c [] (73 ∷ 70 ∷ 124 ∷ []) [] at k u i, still c d [] (piped (decimal n)) [] k m v piped_long)

        pub foot_put : (e : List ℕ) → e ≡ over_from m (48 ∷ 124 ∷ 10 ∷ []) d → e ≡ over_from at (foot_text n) a
        foot_put e w =
            behind a c e (73 ∷ 70 ∷ 124 ∷ []) (piped (decimal n) ++ (48 ∷ 124 ∷ 10 ∷ [])) at k u i
            (behind c d e (piped (decimal n)) (48 ∷ 124 ∷ 10 ∷ []) k m v piped_long w)
            ∙ ap (λ (t : Text). over_from at t a) (sym foot_parts)

        pub foot_next : (r : ℕ) → r ≡ m + 3 → r ≡ at + length (foot_text n)
        foot_next r w = omega (arith, w, i, j, foot_long)

pub ruleset for_put_foot = (rules, foot_room, foot_room_on, foot_room_last, foot_put, foot_next)

-- WHAT IS RIGHT
module _ (p b s a : Text) (h : is_right (request p b s a) ≡ true) where
  right_parts : (is_prefix p ≡ true) × ((is_batch b ≡ true) × (is_chart s ≡ true))
  unfolding is_right
  right_parts =
      let u = both (is_prefix p) (is_batch b && is_chart s) h in
      let v = both (is_batch b) (is_chart s) u.1 in
      (u.0, (v.0, v.1))

  run_long : (most : ℕ) (t : Text) → run 1 most is_letter_or_digit t ≡ true → length t ≤ most
  unfolding run
  run_long most t e =
      let u = both (within 1 most (length t)) (all is_letter_or_digit t) e in
      leb-true (length t) most (both (leb 1 (length t)) (leb (length t) most) u.0).1

  pub right_prefix : length p ≤ 3
  unfolding is_prefix
  right_prefix = run_long 3 p right_parts.0

  pub right_batch : length b ≤ 10
  unfolding is_batch
  right_batch = run_long 10 b right_parts.1.0

  pub right_formed : all well_formed (charted_in s) ≡ true
  unfolding is_chart
  right_formed = (both (all well_formed (charted_in s)) (ordered IH (charted_in s)) right_parts.1.1).0

  pub right_order : ordered IH (charted_in s) ≡ true
  unfolding is_chart
  right_order = (both (all well_formed (charted_in s)) (ordered IH (charted_in s)) right_parts.1.1).1

-- the file: its head, its records and its foot
abbrev pub in_order_of : Text → List Charted
in_order_of s = in_writing_order (charted_in s)

pub file_parts : (p b s : Text) → file_of (request p b s []) ≡ head_text p b ++ records_text 1 (in_order_of s) ++ foot_text (length (in_order_of s) + other_lines)
unfolding file_of records_of submission_of head_text foot_text
file_parts p b s = refl

pub file_long : (p b s : Text) → length (file_of (request p b s []))
    ≡ 14 + length p + length b + length (records_text 1 (in_order_of s)) + length (foot_text (length (in_order_of s) + other_lines))
file_long p b s =
    omega (
      arith,
      ap length (file_parts p b s),
      length-append (head_text p b ++ records_text 1 (in_order_of s)) (foot_text (length (in_order_of s) + other_lines)),
      length-append (head_text p b) (records_text 1 (in_order_of s)),
      head_long p b,
    )
