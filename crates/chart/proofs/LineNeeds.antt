-- What each need of `put_record` asks: a record that is well formed is whole, and its line is its start, its fields and an LF.
-- Assumes nothing.
use mathlib.Core.Path.{◌≡◌, refl, sym, ap, ◌∙◌}
use mathlib.Core.Bool.{Bool, true, false, not, ◌&&◌}
use mathlib.Core.List.{[], ◌∷◌, ◌++◌, append_assoc}
use Prim.Native.Nat.{ℕ, ◌+◌, ◌-◌, ◌≤◌, ◌<◌}
use native.Mathlib.Omega.{arith}
use borrow.Author.Rules.{rules}
use borrow.Author.Tests.{eq-eqb, eqb-true, le-ltb}
use lib.Dec.{eqb}
use lib.ListN.{length, get_or, take, drop, length-append, length-take, length-drop}
use Rattle.house.specs.Text.{Text, all, joined}
use Rattle.house.proofs.Small.{both, clash}
use Rattle.writing.specs.Writing.{over_from, decimal}
use Rattle.chart_definitions.specs.Charts.{Charted, record_kind, widths_of, body_width, written_fields, is_field_byte, well_formed}
use Rattle.chart_definitions.specs.Submissions.{piped, line_text, type_text, numbered_fields, record_text}
use Rattle.chart_records.specs.Reading.{record_end}
use Rattle.chart_records.specs.Inside.{charted_at}
use Rattle.chart.specs.Inside.{fields_text, start_text}
use Rattle.chart.proofs.RecordNeeds.{behind, still}

-- a kind that a byte names, where it names one
kind_known : (b : ℕ) → (record_kind b ≡ 0 → ⊥) → (length (type_text (record_kind b)) ≡ 2) × (1 ≤ body_width (record_kind b))
unfolding record_kind type_text body_width widths_of
kind_known b n = go (eqb b 1) (eqb b 2) (eqb b 3) (eqb b 4) (eqb b 5) refl refl refl refl refl
  where
    go : (p q r s t : Bool) → eqb b 1 ≡ p → eqb b 2 ≡ q → eqb b 3 ≡ r → eqb b 4 ≡ s → eqb b 5 ≡ t
        → (length (type_text (record_kind b)) ≡ 2) × (1 ≤ body_width (record_kind b))
    go true q r s t a c d e f = rw a (refl, omega arith)
    go false true r s t a c d e f = rw (a, c) (refl, omega arith)
    go false false true s t a c d e f = rw (a, c, d) (refl, omega arith)
    go false false false true t a c d e f = rw (a, c, d, e) (refl, omega arith)
    go false false false false true a c d e f = rw (a, c, d, e, f) (refl, omega arith)
    go false false false false false a c d e f = absurd (n (rw (a, c, d, e, f)))

-- what a well-formed record says of itself
module _ (r : Charted) (wf : well_formed r ≡ true) where
  pub formed_kind : r.kind ≡ 0 → ⊥
  unfolding well_formed
  formed_kind z =
      let p = both (not (eqb r.kind 0)) (eqb (length r.body) (body_width r.kind) && all is_field_byte r.body) wf in
      let q : not (eqb r.kind 0) ≡ false = rw (eq-eqb _ _ z) in
      let w = p.0 in
      clash (cc (q, w))

  pub formed_body : length r.body ≡ body_width r.kind
  unfolding well_formed
  formed_body =
      let p = both (not (eqb r.kind 0)) (eqb (length r.body) (body_width r.kind) && all is_field_byte r.body) wf in
      eqb-true _ _ (both (eqb (length r.body) (body_width r.kind)) (all is_field_byte r.body) p.1).0

module _ (s : Text) (at : ℕ) (wf : well_formed (charted_at s at) ≡ true) where
  abbrev kind_there : ℕ
  kind_there = record_kind (get_or s at 0)

  known : (length (type_text kind_there) ≡ 2) × (1 ≤ body_width kind_there)
  unfolding charted_at
  known = kind_known (get_or s at 0) (formed_kind (charted_at s at) wf)

  long_body : length (take (body_width kind_there) (drop (at + 1) s)) ≡ body_width kind_there
  unfolding charted_at
  long_body = formed_body (charted_at s at) wf

  pub whole : at + 1 + body_width kind_there ≤ length s
  whole = omega (arith, long_body, length-take (body_width kind_there) (drop (at + 1) s), length-drop (at + 1) s, known.1)

  pub end_is : record_end s at ≡ at + 1 + body_width kind_there
  unfolding record_end
  end_is = rw (le-ltb (length s) (at + 1 + body_width kind_there) whole)

-- the line of a record
line_parts : (n : ℕ) (r : Charted) → record_text n r ≡ start_text r.kind n ++ (fields_text r.kind r.body ++ (10 ∷ []))
unfolding record_text line_text numbered_fields start_text fields_text written_fields
line_parts n r =
    ap (λ (t : Text). t ++ (10 ∷ [])) (sym (append_assoc (piped (type_text r.kind)) (piped (decimal n)) (joined piped (written_fields r))))
    ∙ append_assoc (piped (type_text r.kind) ++ piped (decimal n)) (joined piped (written_fields r)) (10 ∷ [])

module _ (s : Text) (at kind end n : ℕ) (wf : well_formed (charted_at s at) ≡ true) (ek : kind ≡ record_kind (get_or s at 0)) (ee : end ≡ record_end s at) where
  pub record_typed : length (type_text kind) ≡ 2
  record_typed = ap (λ (k : ℕ). length (type_text k)) ek ∙ (known s at wf).0

  ends : end ≡ at + 1 + body_width kind
  ends = ee ∙ end_is s at wf ∙ ap (λ (k : ℕ). at + 1 + body_width k) (sym ek)

  pub record_end_lem : end ≤ length s
  record_end_lem = omega (arith, ee, end_is s at wf, whole s at wf)

  pub record_from : at + 1 ≤ end
  record_from = omega (arith, ends)

  pub record_small : at + 1 ≤ length s
  record_small = omega (arith, record_end_lem, record_from)

  body_is : take (end - (at + 1)) (drop (at + 1) s) ≡ (charted_at s at).body
  unfolding charted_at
  body_is =
      let z : end - (at + 1) ≡ body_width kind = omega (arith, ends) in
      ap (λ (m : ℕ). take m (drop (at + 1) s)) z ∙ ap (λ (k : ℕ). take (body_width k) (drop (at + 1) s)) ek

  pub record_body : length (take (end - (at + 1)) (drop (at + 1) s)) ≡ body_width kind
  unfolding charted_at
  record_body = ap length body_is ∙ formed_body (charted_at s at) wf ∙ ap body_width (sym ek)

  parts : record_text n (charted_at s at) ≡ start_text kind n ++ (fields_text kind (take (end - (at + 1)) (drop (at + 1) s)) ++ (10 ∷ []))
  unfolding charted_at
  parts =
      line_parts n (charted_at s at)
      ∙ ap (λ (k : ℕ). start_text k n ++ (fields_text k (charted_at s at).body ++ (10 ∷ []))) (sym ek)
      ∙ ap (λ (t : Text). start_text kind n ++ (fields_text kind t ++ (10 ∷ []))) (sym body_is)

  long : length (record_text n (charted_at s at)) ≡ length (start_text kind n) + (length (fields_text kind (take (end - (at + 1)) (drop (at + 1) s))) + 1)
  long =
      ap length parts
      ∙ length-append (start_text kind n) (fields_text kind (take (end - (at + 1)) (drop (at + 1) s)) ++ (10 ∷ []))
      ∙ ap (λ (m : ℕ). length (start_text kind n) + m) (length-append (fields_text kind (take (end - (at + 1)) (drop (at + 1) s))) (10 ∷ []))

  module _ (a : Text) (pos : ℕ) where
    pub record_start_room : pos + length (record_text n (charted_at s at)) ≤ length a → pos + length (start_text kind n) ≤ length a
    record_start_room h = omega (arith, h, long)

    module _ (b : Text) (m : ℕ) (p : b ≡ over_from pos (start_text kind n) a) (em : m ≡ pos + length (start_text kind n)) where
      pub record_fields_room : pos + length (record_text n (charted_at s at)) ≤ length a
          → m + length (fields_text kind (take (end - (at + 1)) (drop (at + 1) s))) ≤ length b
      record_fields_room h = omega (arith, h, long, em, still a b [] (start_text kind n) [] pos m p em)

      module _ (c : Text) (l : ℕ) (q : c ≡ over_from m (fields_text kind (take (end - (at + 1)) (drop (at + 1) s))) b)
          (el : l ≡ m + length (fields_text kind (take (end - (at + 1)) (drop (at + 1) s)))) where
        pub record_lf_room : pos + length (record_text n (charted_at s at)) ≤ length a → l < length c
        record_lf_room h =
            omega (
              arith,
              h,
              long,
              em,
              el,
              still a b [] (start_text kind n) [] pos m p em,
              still b c [] (fields_text kind (take (end - (at + 1)) (drop (at + 1) s))) [] m l q el,
            )

        pub record_put : (d : Text) → d ≡ over_from l (10 ∷ []) c → d ≡ over_from pos (record_text n (charted_at s at)) a
        record_put d r =
            behind a b d (start_text kind n) (fields_text kind (take (end - (at + 1)) (drop (at + 1) s)) ++ (10 ∷ [])) pos m p em
            (behind b c d (fields_text kind (take (end - (at + 1)) (drop (at + 1) s))) (10 ∷ []) m l q el r)
            ∙ ap (λ (t : Text). over_from pos t a) (sym parts)

        pub record_next : (r : ℕ) → r ≡ l + 1 → r ≡ pos + length (record_text n (charted_at s at))
        record_next r h = omega (arith, h, long, em, el)

pub ruleset for-put-record =
    (rules, record_typed, record_end_lem, record_from, record_small, record_body, record_start_room, record_fields_room, record_lf_room, record_put, record_next)
