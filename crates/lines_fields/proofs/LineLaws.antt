-- The lines of a file: the first line, and the lines after it.
-- Assumes nothing.
use mathlib.Core.Path.{◌≡◌, refl, sym, ap, ◌∙◌}
use mathlib.Core.Bool.{Bool, true, false, not}
use mathlib.Core.List.{List, [], ◌∷◌}
use Prim.Native.Nat.{ℕ, zero, suc, ◌+◌, ◌-◌, ◌≤◌, ◌<◌}
use native.Mathlib.Nat.{suc-add, zero-add, add-sub_cancel_left}
use native.Mathlib.Numerals.{sub-one}
use native.Mathlib.Omega.{arith}
use borrow.Author.Tests.{eqb-true, eqb-false, ne_eqb}
use lib.Dec.{eqb}
use lib.ListN.{length, get_or, take, drop, length-drop}
use lib.Seq.{drop-drop, drop-nil}
use Rattle.house.specs.Text.{Text}
use Rattle.house.proofs.Suffix.{drop_here, drop_past}
use Rattle.lines_fields.specs.declared.LineAt.{LineAt}
use Rattle.lines_fields.specs.Lines.{LF, CR, Line, no_line, lf_next, ending_of, grow, by_ending, lines_of, line_of, text_len, line_len, line_at, LineIs, text_at, lines_len}

-- What holds of every text: of one of no bytes; with it, of one with a byte of text before it, with an LF, with a CR before an LF
module _ (P : Text → Type 0) (none : P []) (on : (b : ℕ) (s : Text) → ending_of (b ∷ s) ≡ 0 → P s → P (b ∷ s))
    (lf : (s : Text) → P s → P (LF ∷ s)) (crlf : (s : Text) → P (LF ∷ s) → P (CR ∷ LF ∷ s)) where
  by_cr : (b : ℕ) (s : Text) → eqb b LF ≡ false → b ≡ CR → P s → P (b ∷ s)
  unfolding ending_of lf_next
  by_cr b [] e p h = on b [] (simp e (rw p)) h
  by_cr b (c ∷ s) e p h = go (eqb c LF) refl
    where
      go : (t : Bool) → eqb c LF ≡ t → P (b ∷ c ∷ s)
      go true q = rw (p, eqb-true c LF q) (crlf s (rw (eqb-true c LF q) at h))
      go false q = on b (c ∷ s) (rw p (simp q)) h

  pub by_ending_lem : (s : Text) → P s
  unfolding ending_of
  by_ending_lem [] = none
  by_ending_lem (b ∷ s) = go (eqb b LF) (eqb b CR) refl refl (by_ending_lem s)
    where
      go : (t u : Bool) → eqb b LF ≡ t → eqb b CR ≡ u → P s → P (b ∷ s)
      go true u p q h = rw (eqb-true b LF p) (lf s h)
      go false true p q h = by_cr b s p (eqb-true b CR q) h
      go false false p q h = on b s (simp (p, q)) h

-- the first line, where a byte of text stands before it
grown : (b : ℕ) (ls : List Line) → get_or (grow b ls) 0 no_line ≡ record { text = b ∷ (get_or ls 0 no_line).text; ended = (get_or ls 0 no_line).ended }
unfolding grow
grown b [] = refl
grown b (l ∷ ls) = refl

module _ (b : ℕ) (s : Text) (e : ending_of (b ∷ s) ≡ 0) where
  pub line_more : line_of (b ∷ s) ≡ record { text = b ∷ (line_of s).text; ended = (line_of s).ended }
  unfolding line_of lines_of by_ending
  line_more = rw e (grown b (lines_of s))

  pub text_more : text_len (b ∷ s) ≡ suc (text_len s)
  unfolding text_len
  text_more = rw line_more

  pub len_more : line_len (b ∷ s) ≡ suc (line_len s)
  unfolding line_len
  len_more = rw (text_more, suc-add)

-- no ending starts with a byte past CR
pub ending_plain : (b : ℕ) (s : Text) → 14 ≤ b → ending_of (b ∷ s) ≡ 0
unfolding ending_of
ending_plain b s h = rw (ne_eqb b LF (λ e. omega arith), ne_eqb b CR (λ e. omega arith))

-- the text of a line from a position on, where a byte stands that ends none
pub plain_more : (s : Text) (i : ℕ) → i < length s → 14 ≤ get_or s i 0 → (line_of (drop i s)).text ≡ get_or s i 0 ∷ (line_of (drop (i + 1) s)).text
plain_more s i h l =
    ap (λ (t : Text). (line_of t).text) (drop_here s i h)
    ∙ ap (λ (r : Line). r.text) (line_more (get_or s i 0) (drop (i + 1) s) (ending_plain (get_or s i 0) (drop (i + 1) s) l))

-- it has no text where an ending stands, and none where nothing stands
pub line_stop : (s : Text) → (ending_of s ≡ 0 → ⊥) → (line_of s).text ≡ []
unfolding line_of lines_of by_ending ending_of lf_next
line_stop = by_ending_lem (λ (s : Text). (ending_of s ≡ 0 → ⊥) → (line_of s).text ≡ []) (λ n. refl) (λ b s e h n. absurd (n e)) (λ s h n. refl) (λ s h n. refl)

pub text_stop : (s : Text) → (ending_of s ≡ 0 → ⊥) → text_len s ≡ 0
unfolding text_len
text_stop s n = rw (line_stop s n)

pub line_nil : (line_of []).text ≡ []
unfolding line_of lines_of
line_nil = refl

pub text_nil : text_len [] ≡ 0
unfolding text_len
text_nil = rw line_nil

-- its text from a place in it on is that of the line which starts there
pub text_from_lem : (n : ℕ) (s : Text) → n ≤ text_len s → (line_of (drop n s)).text ≡ drop n (line_of s).text
text_from_lem zero s h = refl
text_from_lem (suc n) [] h = absurd (omega (arith, text_nil))
text_from_lem (suc n) (b ∷ s) h = go (eqb (ending_of (b ∷ s)) 0) refl (text_from_lem n s)
  where
    go : (t : Bool) → eqb (ending_of (b ∷ s)) 0 ≡ t → (n ≤ text_len s → (line_of (drop n s)).text ≡ drop n (line_of s).text) → (line_of (drop n s)).text ≡ drop (suc n) (line_of (b ∷ s)).text
    go true e k = let z : ending_of (b ∷ s) ≡ 0 = eqb-true _ _ e in rw (line_more b s z) (k (omega (arith, text_more b s z)))
    go false e k = absurd (omega (arith, text_stop (b ∷ s) (eqb-false _ _ e)))

-- its text is a part of the file, and it has an LF exactly if an ending stands there
pub text_is : (s : Text) → (line_of s).text ≡ take (text_len s) s
unfolding line_of lines_of text_len by_ending ending_of lf_next
text_is = by_ending_lem (λ (s : Text). (line_of s).text ≡ take (text_len s) s) refl (λ b s e h. rw (text_more b s e, line_more b s e) (ap (λ (t : Text). b ∷ t) h)) (λ s h. refl) (λ s h. refl)

pub ended_is : (s : Text) → (line_of s).ended ≡ not (eqb (ending_of (drop (text_len s) s)) 0)
unfolding line_of lines_of text_len by_ending ending_of lf_next
ended_is =
    by_ending_lem (λ (s : Text). (line_of s).ended ≡ not (eqb (ending_of (drop (text_len s) s)) 0)) refl (λ b s e h. rw (line_more b s e) h) (λ s h. refl) (λ s h. refl)

-- it lies within the file, and is not empty where the file is not
pub text_le : (s : Text) → text_len s ≤ length s
unfolding line_of lines_of text_len by_ending ending_of lf_next
text_le = by_ending_lem (λ (s : Text). text_len s ≤ length s) (omega arith) (λ b s e h. rw (text_more b s e) (omega arith)) (λ s h. omega arith) (λ s h. omega arith)

pub line_le : (s : Text) → line_len s ≤ length s
unfolding line_of lines_of text_len line_len by_ending ending_of lf_next
line_le = by_ending_lem (λ (s : Text). line_len s ≤ length s) (omega arith) (λ b s e h. rw (len_more b s e) (omega arith)) (λ s h. omega arith) (λ s h. omega arith)

pub line_pos : (s : Text) → 0 < length s → 0 < line_len s
unfolding line_of lines_of text_len line_len by_ending ending_of lf_next
line_pos = by_ending_lem (λ (s : Text). 0 < length s → 0 < line_len s) (λ h. h) (λ b s e h k. rw (len_more b s e) (omega arith)) (λ s h k. omega arith) (λ s h k. omega arith)

-- the lines are the first line and the lines after it
abbrev Step : Text → Type 0
Step s = 0 < length s → lines_of s ≡ line_of s ∷ lines_of (drop (line_len s) s)

ending_nil : ending_of [] ≡ 0
unfolding ending_of
ending_nil = refl

step_last : (b : ℕ) → ending_of (b ∷ []) ≡ 0 → Step (b ∷ [])
unfolding line_of lines_of text_len line_len by_ending grow
step_last b e k = simp (e, ending_nil)

step_more : (b : ℕ) (s : Text) → ending_of (b ∷ s) ≡ 0 → Step s → Step (b ∷ s)
unfolding lines_of by_ending grow
step_more b [] e h k = step_last b e k
step_more b (c ∷ s) e h k = rw (line_more b (c ∷ s) e, len_more b (c ∷ s) e, e, h (omega arith))

pub lines_step : (s : Text) → 0 < length s → lines_of s ≡ line_of s ∷ lines_of (drop (line_len s) s)
unfolding line_of lines_of text_len line_len by_ending ending_of lf_next
lines_step = by_ending_lem Step (λ h. absurd (omega arith)) step_more (λ s h k. refl) (λ s h k. refl)

pub lines_past : (s : Text) (at : ℕ) → length s ≤ at → lines_of (drop at s) ≡ []
unfolding lines_of
lines_past s at h = rw (drop_past s at h)

-- the text of line n is that of the line which starts after the lines before it
no_text : (k : ℕ) → (get_or (lines_of []) k no_line).text ≡ (line_of []).text
unfolding lines_of line_of
no_text k = refl

text_after_it : (k : ℕ) (s : Text) → (get_or (lines_of s) k no_line).text ≡ (line_of (drop (lines_len k s) s)).text
unfolding lines_len
text_after_it zero [] = no_text 0
text_after_it zero (b ∷ s) = rw (lines_step (b ∷ s) (omega arith))
text_after_it (suc k) [] = simp drop-nil (no_text (suc k))
text_after_it (suc k) (b ∷ s) = rw (lines_step (b ∷ s) (omega arith)) (text_after_it k (drop (line_len (b ∷ s)) (b ∷ s)) ∙ rw drop-drop)

pub text_after : (s : Text) (n : ℕ) → (n ≡ 0 → ⊥) → text_at s n ≡ (line_of (drop (lines_len (n - 1) s) s)).text
unfolding text_at
text_after s zero z = absurd (z refl)
text_after s (suc k) z = rw sub-one (text_after_it k s)

-- the first k lines lie within the file; where there are no bytes, nor have they any
pub lines_none : (k : ℕ) → lines_len k [] ≡ 0
unfolding lines_len line_len text_len line_of lines_of ending_of
lines_none zero = refl
lines_none (suc k) = simp (drop-nil, lines_none k)

pub lines_le : (k : ℕ) (s : Text) → lines_len k s ≤ length s
unfolding lines_len
lines_le zero s = omega arith
lines_le (suc k) s = omega (arith, line_le s, lines_le k (drop (line_len s) s), length-drop (line_len s) s)

-- so many lines, and then so many more
pub lines_more : (j k : ℕ) (s : Text) → lines_len (j + k) s ≡ lines_len j s + lines_len k (drop (lines_len j s) s)
unfolding lines_len
lines_more zero k s = simp zero-add
lines_more (suc j) k s = rw (suc-add, lines_more j k (drop (line_len s) s), drop-drop) (omega arith)

-- The line that starts at a position. The equation alone says where it lies
pub line_is : (s : Text) (at : ℕ) (q : LineAt) → q ≡ line_at at (drop at s) → LineIs s at q
unfolding line_at line_len
line_is s at q e =
    let l : text_len (drop at s) + ending_of (drop (text_len (drop at s)) (drop at s)) ≤ length (drop at s) = line_le (drop at s) in
    rw e (record { exact = refl; from = omega arith; on = omega arith; within = omega (arith, l, length-drop at s) })

module _ (s : Text) (at : ℕ) (q : LineAt) (e : LineIs s at q) where
  pub at_end : q.end ≡ at + text_len (drop at s)
  unfolding line_at
  at_end = ap (λ (z : LineAt). z.end) e.exact

  pub at_next : q.next ≡ at + line_len (drop at s)
  unfolding line_at
  at_next = ap (λ (z : LineAt). z.next) e.exact

  pub at_lf : q.lf ≡ (line_of (drop at s)).ended
  unfolding line_at
  at_lf = ap (λ (z : LineAt). z.lf) e.exact

  pub at_text : take (q.end - at) (drop at s) ≡ (line_of (drop at s)).text
  at_text = rw (at_end, add-sub_cancel_left) (sym (text_is (drop at s)))

  pub at_line : line_of (drop at s) ≡ record { text = take (q.end - at) (drop at s); ended = q.lf }
  at_line = rw (at_text, at_lf)

  -- the next line starts after it, and the lines from its start on are it and those from there on
  module _ (h : at < length s) where
    pub at_from : at ≤ q.end
    at_from = e.from

    pub at_in : q.end ≤ length s
    at_in = omega (arith, e.on, e.within)

    pub at_past : at < q.next
    at_past = omega (arith, at_next, line_pos (drop at s) (omega (arith, length-drop at s)))

    pub left_falls : length s - q.next < length s - at
    left_falls = omega (arith, at_past)

    -- no line number runs ahead of the bytes
    pub number_on : (n : ℕ) → n ≤ at + 1 → n + 1 ≤ q.next + 1
    number_on n k = omega (arith, at_past)

    pub lines_on : lines_of (drop at s) ≡ record { text = take (q.end - at) (drop at s); ended = q.lf } ∷ lines_of (drop q.next s)
    lines_on = rw (← at_line, at_next, ← drop-drop) (lines_step (drop at s) (omega (arith, length-drop at s)))
