-- What each need of `mark_pipes`, `mark`, `read_line` and `count_marked` asks: how the marks of a line are written, and its fields counted.
-- Assumes nothing.
use mathlib.Core.Path.{◌≡◌, refl, sym, ap, subst, ◌∙◌}
use mathlib.Core.Bool.{Bool, true, false}
use mathlib.Core.List.{List, [], ◌∷◌}
use Prim.Native.Nat.{ℕ, suc, ◌+◌, ◌-◌, ◌≤◌, ◌<◌}
use native.Mathlib.Nat.{zero-add, add-zero, add-sub_cancel_left}
use native.Mathlib.Omega.{arith}
use borrow.Author.Rules.{rules}
use borrow.Author.Tests.{eq-eqb, ne_eqb, eqb-true, eqb-false, le-leb, lt-leb}
use lib.Dec.{eqb}
use lib.ListN.{length, get_or, take, drop, set, length-set, length-drop, get_or-eq_default}
use lib.Seq.{get_or-set_same, get_or-set_other, ext_get_or}
use Rattle.house.specs.Text.{Text}
use Rattle.house.proofs.Suffix.{drop_here}
use Rattle.lines_fields.specs.Lines.{pipe, line_of, text_len, fields_of, fields_len}
use Rattle.lines_fields.specs.Inside.{Marked, Marking}
use Rattle.lines_fields.specs.Marks.{mark_count, marks_of, marks_at, marks_in, marked_count}
use Rattle.lines_fields.proofs.LineLaws.{text_is, text_le, at_end}
use Rattle.lines_fields.proofs.FieldLaws.{lengthen_length, start_zero, fields_few}
use Rattle.lines_fields.proofs.MarkLaws.{marks_length, mark_at, mark_count_lem, fields_past}

-- a byte before a text
module _ (b : ℕ) (t : Text) where
  module _ (e : b ≡ pipe) where
    len_pipe : (f : ℕ) → fields_len (suc f) (b ∷ t) ≡ suc (fields_len f t)
    unfolding fields_len
    len_pipe f = rw (eq-eqb _ _ e)

    many_pipe : length (fields_of (b ∷ t)) ≡ suc (length (fields_of t))
    unfolding fields_of
    many_pipe = rw (eq-eqb _ _ e)

  module _ (n : b ≡ pipe → ⊥) where
    len_text : (f : ℕ) → fields_len (suc f) (b ∷ t) ≡ suc (fields_len (suc f) t)
    unfolding fields_len
    len_text f = rw (ne_eqb _ _ n)

    many_text : length (fields_of (b ∷ t)) ≡ length (fields_of t)
    unfolding fields_of
    many_text = rw (ne_eqb _ _ n) (lengthen_length b (fields_of t))

-- at the line's start
start : (at : ℕ) (t : Text) (m : List ℕ) → length m ≡ 30 → Marking at t at 0 t (set m 0 at)
start at t m h = record {
  few = omega arith;
  upto = refl;
  still = sym (zero-add _);
  ahead = λ f. rw zero-add;
  marked = record {
    room = length-set m 0 at ∙ h;
    done = λ f l k.
        let z : f ≡ 0 = omega arith in
        rw (z, start_zero, add-zero, get_or-set_same m 0 at 0 (omega arith));
  };
}

-- one mark more
mark_more : (at : ℕ) (t : Text) (k x : ℕ) (m : List ℕ) → Marked at t k m → k < 30 → x ≡ at + fields_len k t → Marked at t (k + 1) (set m k x)
mark_more at t k x m h l e = record { room = length-set m k x ∙ h.room; done = λ f i j. go f (eqb f k) refl i j }
  where
    go : (f : ℕ) (v : Bool) → eqb f k ≡ v → f < k + 1 → f ≤ 28 → get_or (set m k x) f 0 ≡ at + fields_len f t
    go f true q i j = let z : f ≡ k = eqb-true f k q in rw z (get_or-set_same m k x 0 (omega (arith, h.room)) ∙ e)
    go f false q i j =
        let d : f ≡ k → ⊥ = eqb-false _ _ q in
        get_or-set_other m k f x 0 d ∙ h.done f (omega arith) j

-- past the last mark nothing is asked
mark_full : (at : ℕ) (t : Text) (k : ℕ) (m : List ℕ) → Marked at t k m → 29 ≤ k → Marked at t (k + 1) m
mark_full at t k m h l = record { room = h.room; done = λ f i j. h.done f (omega arith) j }

-- a byte on
module _ (at : ℕ) (t : Text) (i n b : ℕ) (u : Text) (m : List ℕ) (h : Marking at t i n (b ∷ u) m) where
  module _ (e : b ≡ pipe) where
    next_ahead : (f : ℕ) → at + fields_len (n + 1 + f) t ≡ i + 1 + fields_len f u
    next_ahead f =
        let k : n + suc f ≡ n + 1 + f = omega arith in
        let p : at + fields_len (n + suc f) t ≡ i + fields_len (suc f) (b ∷ u) = h.ahead f in
        rw (← k) (p ∙ rw (len_pipe b u e) (omega arith))

    next_mark : i + 1 ≡ at + fields_len (n + 1) t
    next_mark = let k : n + 1 ≡ n + 1 + 0 = omega arith in sym (rw k (next_ahead 0 ∙ rw (start_zero, add-zero)))

    past_pipe : (m' : List ℕ) → Marked at t (n + 1 + 1) m' → Marking at t (i + 1) (n + 1) u m'
    past_pipe m' z = record {
      few = omega (arith, h.few);
      upto = omega (arith, h.upto);
      still = omega (arith, h.still, many_pipe b u e);
      ahead = λ f. next_ahead (suc f);
      marked = z;
    }

  past_text : (b ≡ pipe → ⊥) → Marking at t (i + 1) n u m
  past_text d = record {
    few = omega (arith, h.few);
    upto = omega (arith, h.upto);
    still = h.still ∙ ap (λ (k : ℕ). n + k) (many_text b u d);
    ahead = λ f. h.ahead f ∙ rw (len_text b u d) (omega arith);
    marked = h.marked;
  }

-- mark_pipes: the line's text ends at e
module _ (s : Text) (at e : ℕ) (a : at ≤ length s) (x : e ≡ at + text_len (drop at s)) where
  abbrev line : Text
  line = (line_of (drop at s)).text

  pub marks_in_lem : e ≤ length s
  marks_in_lem = omega (arith, text_le (drop at s), length-drop at s)

  pub marks_start : (m : List ℕ) → length m ≡ 30 → Marking at (line_of (drop at s)).text at 0 (take (e - at) (drop at s)) (set m 0 at)
  marks_start m h =
      let q : line ≡ take (e - at) (drop at s) = text_is (drop at s) ∙ rw (x, add-sub_cancel_left) in
      subst (λ (u : Text). Marking at line at 0 u (set m 0 at)) q (start at line m h)

  module _ (i n : ℕ) (m : List ℕ) (h : Marking at (line_of (drop at s)).text i n (take (e - i) (drop i s)) m) where
    abbrev pub left : Text
    left = take (e - i) (drop i s)

    module _ (l : e ≤ i) where
      none : take (e - i) (drop i s) ≡ []
      none = let z : e - i ≡ 0 = omega arith in rw z

      pub marks_count : n ≡ length (fields_of (line_of (drop at s)).text)
      unfolding fields_of
      marks_count = sym (h.still ∙ rw (none, add-zero))

      pub marks_few : n ≤ length s
      unfolding text_len
      marks_few = omega (arith, marks_count, fields_few line, text_le (drop at s), length-drop at s)

    pub marks_end : Marked at (line_of (drop at s)).text (n + 1) m
    marks_end = h.marked

    pub marks_room : length m ≡ 30
    marks_room = h.marked.room

    module _ (l : i < e) where
      pub marks_small : n + 1 ≤ length s
      marks_small = omega (arith, h.few, marks_in_lem)

      opened : Marking at line i n (get_or s i 0 ∷ take (e - (i + 1)) (drop (i + 1) s)) m
      opened =
          let z : e - i ≡ suc (e - (i + 1)) = omega arith in
          let q : take (e - i) (drop i s) ≡ get_or s i 0 ∷ take (e - (i + 1)) (drop (i + 1) s) = rw (z, drop_here s i (omega (arith, marks_in_lem))) in
          subst (λ (u : Text). Marking at line i n u m) q h

      module _ (p : get_or s i 0 ≡ pipe) where
        pub marks_pipe : n + 1 ≤ 28 → Marking at (line_of (drop at s)).text (i + 1) (n + 1) (take (e - (i + 1)) (drop (i + 1) s)) (set m (n + 1) (i + 1))
        marks_pipe o =
            past_pipe at line i n (get_or s i 0) (take (e - (i + 1)) (drop (i + 1) s)) m opened p (set m (n + 1) (i + 1))
            (mark_more at line (n + 1) (i + 1) m h.marked (omega arith) (next_mark at line i n (get_or s i 0) (take (e - (i + 1)) (drop (i + 1) s)) m opened p))

        pub marks_over : 28 < n + 1 → Marking at (line_of (drop at s)).text (i + 1) (n + 1) (take (e - (i + 1)) (drop (i + 1) s)) m
        marks_over o =
            past_pipe at line i n (get_or s i 0) (take (e - (i + 1)) (drop (i + 1) s)) m opened p m (mark_full at line (n + 1) m h.marked (omega arith))

      pub marks_text : (get_or s i 0 ≡ pipe → ⊥) → Marking at (line_of (drop at s)).text (i + 1) n (take (e - (i + 1)) (drop (i + 1) s)) m
      marks_text p = past_text at line i n (get_or s i 0) (take (e - (i + 1)) (drop (i + 1) s)) m opened p

pub ruleset for_mark_pipes = (rules, marks_in_lem, marks_start, marks_count, marks_few, marks_end, marks_room, marks_small, marks_pipe, marks_over, marks_text)

-- mark: n fields are there, and the marks below k are written
module _ (s : Text) (at e : ℕ) (x : e ≡ at + text_len (drop at s)) (n : ℕ) (c : n ≡ length (fields_of (line_of (drop at s)).text)) where
  abbrev t : Text
  t = (line_of (drop at s)).text

  module _ (k : ℕ) (m : List ℕ) (h : Marked at (line_of (drop at s)).text k m) where
    pub fill_room : length m ≡ 30
    fill_room = h.room

    pub fill_long : (m₀ : List ℕ) → length m₀ ≡ 30 → length (set m 29 n) ≡ length m₀
    fill_long m₀ e = length-set m 29 n ∙ h.room ∙ sym e

    module _ (o : n < k) where
      pub fill_more : k ≤ 28 → Marked at (line_of (drop at s)).text (k + 1) (set m k e)
      unfolding text_len
      fill_more l = mark_more at (line_of (drop at s)).text k e m h (omega arith) (x ∙ rw (fields_past (line_of (drop at s)).text k (omega arith)))

    pub fill_end : 28 < k → set m 29 n ≡ marks_at s at
    unfolding marks_at
    fill_end l =
        ext_get_or 0 (set m 29 n) (marks_of at t) (length-set m 29 n ∙ h.room ∙ sym (marks_length at t)) (λ f i. go f (eqb f 29) refl (omega (arith, length-set m 29 n, h.room)))
      where
        go : (f : ℕ) (v : Bool) → eqb f 29 ≡ v → f < 30 → get_or (set m 29 n) f 0 ≡ get_or (marks_of at t) f 0
        go f true q i = let z : f ≡ 29 = eqb-true f 29 q in rw z (get_or-set_same m 29 n 0 (omega (arith, h.room)) ∙ c ∙ sym (mark_count_lem at t))
        go f false q i =
            let d : f ≡ 29 → ⊥ = eqb-false _ _ q in
            get_or-set_other m 29 f n 0 d ∙ h.done f (omega arith) (omega arith) ∙ sym (mark_at at t f (omega arith))

pub ruleset for_mark = (rules, marks_in_lem, fill_room, fill_long, fill_more, fill_end)

-- read_line
module _ (s : Text) (at : ℕ) (m : List ℕ) where
  pub read_room : (length m ≡ 30 → ⊥) → m ≡ marks_in s at m
  unfolding marks_in
  read_room h = rw (ne_eqb (length m) 30 h)

  module _ (r : length m ≡ 30) where
    pub read_large : 4294967295 < length s → m ≡ marks_in s at m
    unfolding marks_in
    read_large h = rw (r, lt-leb (length s) 4294967295 h)

    module _ (l : length s ≤ 4294967295) where
      pub read_past : length s < at → m ≡ marks_in s at m
      unfolding marks_in
      read_past h = rw (r, le-leb (length s) 4294967295 l, lt-leb at (length s) h)

      pub read_marks : (y : List ℕ) → at ≤ length s → y ≡ marks_at s at → y ≡ marks_in s at m
      unfolding marks_in
      read_marks y h e = rw (r, le-leb (length s) 4294967295 l, le-leb at (length s) h) e

pub ruleset for_read_line = (rules, at_end, read_room, read_large, read_past, read_marks)

-- count_marked
pub count_none : (m : List ℕ) → length m < mark_count → 0 ≡ marked_count m
count_none m h = sym (get_or-eq_default m 0 (omega arith))

pub ruleset for_count_marked = (rules, count_none)
