-- What each need of `judged_span`, `judged`, `as_judged`, `judged_of`, `judged_at` and `part` asks.
-- Assumes nothing.
use mathlib.Core.Path.{◌≡◌, sym, ◌∙◌}
use mathlib.Core.Bool.{false}
use mathlib.Core.List.{List, []}
use Prim.Native.Nat.{ℕ, ◌-◌, ◌≤◌, ◌<◌}
use native.Mathlib.Omega.{arith}
use borrow.Author.Rules.{rules}
use borrow.Author.Tests.{ne_eqb, le-leb, lt-leb, lt-ltb, le-ltb}
use lib.ListN.{length, get_or, take, drop, length-drop}
use lib.Seq.{take_all, take-nil}
use Rattle.house.specs.Text.{Text}
use Rattle.house.proofs.Suffix.{drop_past, rest}
use Rattle.lines_fields.specs.declared.Span.{Span}
use Rattle.lines_fields.specs.Lines.{field_of}
use Rattle.lines_fields.specs.Inside.{part}
use Rattle.lines_fields.specs.Marks.{judged_text, judged_of, is_marked, judged_in, span, judged_span}
use Rattle.lines_fields.proofs.MarkLaws.{span_from, span_in, span_is}

-- judged_span
module _ (s : Text) (m : List ℕ) (f : ℕ) where
  nowhere : is_marked s m f ≡ false → span 0 0 ≡ judged_span s m f
  unfolding judged_span
  nowhere e = rw e

  pub none_room : (length m ≡ 30 → ⊥) → span 0 0 ≡ judged_span s m f
  unfolding is_marked
  none_room h = nowhere (rw (ne_eqb (length m) 30 h))

  module _ (r : length m ≡ 30) where
    pub none_zero : f ≡ 0 → span 0 0 ≡ judged_span s m f
    unfolding is_marked
    none_zero h = nowhere (rw (r, le-ltb 0 f (omega arith)))

    module _ (z : f ≡ 0 → ⊥) where
      pub none_far : 28 < f → span 0 0 ≡ judged_span s m f
      unfolding is_marked
      none_far h = nowhere (rw (r, lt-ltb 0 f (omega arith), lt-leb f 28 h))

      module _ (l : f ≤ 28) where
        pub none_counted : (n : ℕ) → n ≡ get_or m 29 0 → n < f → span 0 0 ≡ judged_span s m f
        unfolding is_marked
        none_counted n e h = nowhere (rw (r, lt-ltb 0 f (omega arith), le-leb f 28 l, lt-leb f (get_or m 29 0) (rw (← e) h)))

        module _ (n : ℕ) (e : n ≡ get_or m 29 0) (o : f ≤ n) (a b : ℕ) (p : a ≡ get_or m (f - 1) 0) (q : b ≡ get_or m f 0) where
          pub none_turned : b ≤ a → span 0 0 ≡ judged_span s m f
          unfolding is_marked
          none_turned h =
              nowhere
              (rw (r, lt-ltb 0 f (omega arith), le-leb f 28 l, le-leb f (get_or m 29 0) (rw (← e) o), le-ltb (get_or m (f - 1) 0) (get_or m f 0) (rw (← p, ← q) h)))

          module _ (k : a < b) where
            pub none_past : length s < b → span 0 0 ≡ judged_span s m f
            unfolding is_marked
            none_past h =
                nowhere
                (rw (
                  r,
                  lt-ltb 0 f (omega arith),
                  le-leb f 28 l,
                  le-leb f (get_or m 29 0) (rw (← e) o),
                  lt-ltb (get_or m (f - 1) 0) (get_or m f 0) (rw (← p, ← q) k),
                  lt-leb (get_or m f 0) (length s) (rw (← q) h),
                ))

            pub span_there : b ≤ length s → (y : Span) → y ≡ span a (b - 1) → y ≡ judged_span s m f
            unfolding judged_span is_marked
            span_there h y d =
                d
                ∙ rw (
                  r,
                  lt-ltb 0 f (omega arith),
                  le-leb f 28 l,
                  le-leb f (get_or m 29 0) (rw (← e) o),
                  lt-ltb (get_or m (f - 1) 0) (get_or m f 0) (rw (← p, ← q) k),
                  le-leb (get_or m f 0) (length s) (rw (← q) h),
                  p,
                  q,
                )

pub ruleset for_judged_span = (rules, none_room, none_zero, none_far, none_counted, none_turned, none_past, span_there)

-- judged
module _ (s : Text) (m : List ℕ) (f : ℕ) (p : Span) (e : p ≡ judged_span s m f) where
  pub judged_from : p.start ≤ p.end
  judged_from = rw e (span_from s m f)

  pub judged_in_lem : p.end ≤ length s
  judged_in_lem = rw e (span_in s m f)

  pub judged_start : p.start ≤ length s
  judged_start = omega (arith, judged_from, judged_in_lem)

  pub judged_is : part s p.start p.end ≡ judged_in s m f
  judged_is = rw e (span_is s m f)

pub ruleset for_judged = (rules, judged_from, judged_in_lem, judged_start, judged_is)

-- as_judged, judged_of, judged_at
module _ (u : Text) (p : Span) (q : p ≡ span 0 (length u)) where
  pub whole_from : p.start ≤ p.end
  whole_from = rw q (omega arith)

  pub whole_in : p.end ≤ length u
  whole_in = rw q (omega arith)

  pub whole_is : part u p.start p.end ≡ judged_text u
  unfolding judged_text
  whole_is = rw q (let z : length u - 0 ≡ length u = omega arith in rw z (take_all (length u) u (omega arith)))

pub of_is : (t u r : Text) (f : ℕ) → u ≡ field_of t f → r ≡ judged_text u → r ≡ judged_of t f
unfolding judged_of
of_is t u r f e p = rw (← e) p

pub ruleset for_judged_of = (rules, whole_from, whole_in, whole_is, of_is)

-- part
module _ (t : Text) (a e : ℕ) where
  pub part_turned : e ≤ a → [] ≡ part t a e
  part_turned h = let z : e - a ≡ 0 = omega arith in rw z

  pub part_past : length t ≤ a → [] ≡ part t a e
  part_past h = rw (drop_past t a h, take-nil)

  pub part_long : length t < e → take (length t - a) (drop a t) ≡ part t a e
  part_long h = rest t a ∙ sym (take_all (e - a) (drop a t) (omega (arith, length-drop a t)))

pub ruleset for_part = (rules, part_turned, part_past, part_long)
