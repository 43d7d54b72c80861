-- Rule 15 by position: the lines of a file up to a position where each has its LF are lines passed, and the next line starts there.
-- Assumes nothing.
use mathlib.Core.Path.{◌≡◌, refl, sym, ap, ◌∙◌}
use mathlib.Core.Bool.{Bool, true, false, not, ◌&&◌}
use mathlib.Core.List.{List, [], ◌∷◌, ◌++◌, reverse, reverse_aux}
use Prim.Native.Nat.{ℕ, ◌+◌, ◌-◌, ◌≤◌, ◌<◌}
use native.Mathlib.Omega.{arith}
use borrow.Author.Tests.{eq-eqb}
use lib.Dec.{T, eqb}
use lib.ListN.{length, get_or, take, drop, take-append-drop, length-drop}
use lib.Seq.{drop-drop, drop-append-le, length-take-le}
use Rattle.house.specs.Text.{Text, any, all}
use Rattle.house.proofs.Small.{clash, both}
use Rattle.lines_fields.specs.Lines.{LF, CR, Line, no_line, lf_next, ending_of, lines_of, line_of, text_len, line_len, lines_len}
use Rattle.lines.specs.Records.{Rec, rec_of, recs}
use Rattle.lines.specs.Inside.{whole}
use Rattle.lines_fields.proofs.LineLaws.{lines_step, text_le, ended_is, line_le}
use Rattle.lines.proofs.PartLaws.{lines_append, whole_drop}
use Rattle.rules_definitions.specs.Blocks.{is_in_block, same_event, event_of}
use Rattle.rules_walk.specs.Firsts.{start_after, named_before}
use Rattle.rules_walk.specs.Inside.{rec_at, next_line, Passed}
use Rattle.rules_walk.proofs.PassLaws.{by_lines, recs_first, start_on}
use Rattle.rules_walk.proofs.NamedLaws.{named_firsts, named_after}

-- 1. The first line of a text whose lines have their LF, with more after it

ending_kept : (x b : Text) → (ending_of x ≡ 0 → ⊥) → ending_of (x ++ b) ≡ ending_of x
unfolding ending_of lf_next
ending_kept [] b n = absurd (n refl)
ending_kept (c ∷ []) b n = go (eqb c LF) (eqb c CR) refl refl
  where
    go : (u v : Bool) → eqb c LF ≡ u → eqb c CR ≡ v → ending_of (c ∷ b) ≡ ending_of (c ∷ [])
    go true v p q = simp p
    go false true p q = absurd (n (simp (p, q)))
    go false false p q = absurd (n (simp (p, q)))
ending_kept (c ∷ (d ∷ x)) b n = refl

module _ (a b : Text) (w : whole a ≡ true) (h : 0 < length a) where
  first_ended : (line_of a).ended ≡ true
  unfolding whole
  first_ended =
      (both (line_of a).ended (all (λ (l : Line). l.ended) (lines_of (drop (line_len a) a)))
      (sym (ap (all (λ (l : Line). l.ended)) (lines_step a h)) ∙ w)).0

  first_line : line_of (a ++ b) ≡ line_of a
  unfolding line_of
  first_line = ap (λ (ls : List Line). get_or ls 0 no_line) (lines_append b a w ∙ ap (λ (ls : List Line). ls ++ lines_of b) (lines_step a h))

  ends : ending_of (drop (text_len a) a) ≡ 0 → ⊥
  ends e = clash (cc (ended_is a, first_ended, ap not (eq-eqb (ending_of (drop (text_len a) a)) 0 e)))

  first_len : line_len (a ++ b) ≡ line_len a
  unfolding line_len text_len
  first_len =
      rw first_line
      (ap (λ (k : ℕ). length (line_of a).text + k) (ap ending_of (drop-append-le (text_len a) a b (text_le a)) ∙ ending_kept (drop (text_len a) a) b ends))

-- 2. The lines up to a position

module _ (f : Text) (p : ℕ) (within : p ≤ length f) where
  -- from a line on, up to the position
  abbrev Reaches : Text → Type 0
  Reaches t = (before : List Rec) → Passed f before → t ≡ drop (start_after f before) (take p f) → whole t ≡ true
      → Passed f (reverse_aux (recs t) before) × (start_after f (reverse_aux (recs t) before) ≡ start_after f before + length t)

  reaches_end : Reaches []
  unfolding recs lines_of
  reaches_end before c e w = (c, omega arith)

  reaches_on : (t : Text) → 0 < length t → Reaches (drop (line_len t) t) → Reaches t
  unfolding rec_at next_line
  reaches_on t h rec before c e w = rw (recs_first t h) (r.0, r.1 ∙ size)
    where
      s : ℕ
      s = start_after f before

      long : length t ≡ p - s
      long = ap length e ∙ length-drop s (take p f) ∙ ap (λ (n : ℕ). n - s) (length-take-le p f within)

      here : drop s f ≡ t ++ drop p f
      here =
          ap (drop s) (sym (take-append-drop p f)) ∙ drop-append-le s (take p f) (drop p f) (omega (arith, long, length-take-le p f within))
          ∙ ap (λ (x : Text). x ++ drop p f) (sym e)

      l : Rec
      l = rec_of (line_of t).text

      is_line : l ≡ rec_at f s
      is_line = sym (ap (λ (x : Text). rec_of (line_of x).text) here ∙ ap (λ (x : Line). rec_of x.text) (first_line t (drop p f) w h))

      next : start_after f (l ∷ before) ≡ s + line_len t
      next = start_on (length before) f ∙ ap (λ (n : ℕ). s + n) (ap line_len here ∙ first_len t (drop p f) w h)

      passed : Passed f (l ∷ before)
      passed = (omega (arith, long), is_line, c)

      r : Passed f (reverse_aux (recs (drop (line_len t) t)) (l ∷ before)) × (start_after f (reverse_aux (recs (drop (line_len t) t)) (l ∷ before)) ≡ start_after f (l ∷ before) + length (drop (line_len t) t))
      r =
          rec (l ∷ before) passed
          (ap (drop (line_len t)) e ∙ drop-drop (line_len t) s (take p f) ∙ ap (λ (n : ℕ). drop n (take p f)) (sym next)) (whole_drop (line_len t) t w)

      size : start_after f (l ∷ before) + length (drop (line_len t) t) ≡ s + length t
      size = omega (arith, next, length-drop (line_len t) t, line_le t)

  module _ (w : whole (take p f) ≡ true) where
    reached : Passed f (reverse (recs (take p f))) × (start_after f (reverse (recs (take p f))) ≡ 0 + length (take p f))
    unfolding lines_len
    reached = by_lines Reaches reaches_end reaches_on (take p f) [] tt refl w

    pub passed_upto : Passed f (reverse (recs (take p f)))
    passed_upto = reached.0

    pub start_upto : start_after f (reverse (recs (take p f))) ≡ p
    start_upto = reached.1 ∙ omega (arith, length-take-le p f within)

    -- an II in a block of the event stands before the position exactly if a first II line that starts before it names the event
    pub named_upto : (l : Rec) → T (is_in_block l) → any (λ (q : Rec). is_in_block q && same_event l q) (reverse (recs (take p f))) ≡ named_before f p (event_of l)
    named_upto l b =
        named_firsts f l b (reverse (recs (take p f))) passed_upto ∙ sym (named_after f (event_of l) (reverse (recs (take p f))) passed_upto)
        ∙ ap (λ (n : ℕ). named_before f n (event_of l)) start_upto
