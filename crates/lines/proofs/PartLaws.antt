-- The lines of parts of a file: where each line of a part has its LF, the lines of the next part come after them.
-- Assumes nothing.
use mathlib.Core.Path.{◌≡◌, refl, sym, ap, ◌∙◌}
use mathlib.Core.Bool.{Bool, true, false}
use mathlib.Core.List.{List, [], ◌∷◌, ◌++◌}
use Prim.Native.Nat.{ℕ, zero, suc, ◌-◌, ◌≤◌, ◌<◌}
use native.Mathlib.Omega.{arith}
use native.Mathlib.Nat.{add-sub_cancel_left}
use lib.ListN.{length, take, drop, length-drop}
use Rattle.house.specs.Text.{Text}
use Rattle.house.proofs.Small.{clash}
use Rattle.house.proofs.Members.{all_append}
use Rattle.lines_fields.specs.declared.LineAt.{LineAt}
use Rattle.lines_fields.specs.Lines.{LF, Line, lf_next, ending_of, grow, by_ending, lines_of, line_of, text_len, line_len, LineIs}
use Rattle.lines.specs.Records.{Rec, rec_of, read, recs}
use Rattle.lines.specs.Inside.{whole}
use Rattle.lines_fields.specs.Inside.{part}
use Rattle.lines_fields.proofs.CutLaws.{part_start, part_drop, part_split}
use Rattle.lines_fields.proofs.LineLaws.{by_ending_lem, line_more, len_more, line_pos, lines_step, lines_past, at_next, at_lf, at_line, lines_on}

pub recs_nil : recs [] ≡ []
unfolding recs lines_of
recs_nil = refl

-- a byte of text before a text
lines_more : (b : ℕ) (s : Text) → ending_of (b ∷ s) ≡ 0 → lines_of (b ∷ s) ≡ grow b (lines_of s)
unfolding lines_of by_ending
lines_more b s e = rw e

open_last : (b : ℕ) → ending_of (b ∷ []) ≡ 0 → whole (b ∷ []) ≡ false
unfolding whole grow lines_of
open_last b e = rw (lines_more b [] e)

-- each line of a rest has its LF too
whole_first : (b c : ℕ) (s : Text) → ending_of (b ∷ c ∷ s) ≡ 0 → whole (b ∷ c ∷ s) ≡ whole (c ∷ s)
unfolding whole grow
whole_first b c s e = rw (lines_more b (c ∷ s) e, lines_step (c ∷ s) (omega arith))

whole_on : (b : ℕ) (s : Text) → ending_of (b ∷ s) ≡ 0 → whole (b ∷ s) ≡ true → whole s ≡ true
unfolding whole lines_of
whole_on b [] e k = refl
whole_on b (c ∷ s) e k = sym (whole_first b c s e) ∙ k

whole_tail : (s : Text) → whole s ≡ true → whole (drop 1 s) ≡ true
unfolding whole lines_of by_ending ending_of lf_next
whole_tail = by_ending_lem (λ (s : Text). whole s ≡ true → whole (drop 1 s) ≡ true) (λ k. k) (λ b s e h k. whole_on b s e k) (λ s h k. k) (λ s h k. k)

pub whole_drop : (j : ℕ) (s : Text) → whole s ≡ true → whole (drop j s) ≡ true
whole_drop zero s h = h
whole_drop (suc j) [] h = h
whole_drop (suc j) (b ∷ s) h = whole_drop j s (whole_tail (b ∷ s) h)

-- the lines of what comes after such a text come after its lines
append_more : (x y : ℕ) (a b : Text) → ending_of (x ∷ y ∷ a) ≡ 0 → lines_of ((y ∷ a) ++ b) ≡ lines_of (y ∷ a) ++ lines_of b → lines_of ((x ∷ y ∷ a) ++ b) ≡ lines_of (x ∷ y ∷ a) ++ lines_of b
unfolding grow ending_of lf_next
append_more x y a b e h = rw (lines_more x (y ∷ (a ++ b)) e, h, lines_more x (y ∷ a) e, lines_step (y ∷ a) (omega arith))

module _ (b : Text) where
  abbrev Joins : Text → Type 0
  Joins a = whole a ≡ true → lines_of (a ++ b) ≡ lines_of a ++ lines_of b

  joins_on : (x : ℕ) (a : Text) → ending_of (x ∷ a) ≡ 0 → Joins a → Joins (x ∷ a)
  joins_on x [] e h k = clash (cc (open_last x e))
  joins_on x (y ∷ a) e h k = append_more x y a b e (h (whole_on x (y ∷ a) e k))

  joins_lf : (a : Text) → Joins a → Joins (LF ∷ a)
  unfolding whole lines_of by_ending ending_of
  joins_lf a h k = ap (λ (ls : List Line). record { text = []; ended = true } ∷ ls) (h k)

  pub lines_append : (a : Text) → whole a ≡ true → lines_of (a ++ b) ≡ lines_of a ++ lines_of b
  unfolding whole lines_of by_ending ending_of lf_next
  lines_append = by_ending_lem Joins (λ k. refl) joins_on joins_lf (λ a h k. h k)

  pub whole_append : (a : Text) → whole a ≡ true → whole b ≡ true → whole (a ++ b) ≡ true
  unfolding whole
  whole_append a h k = rw (lines_append a h, all_append) (rw (h, k))

read_append : (xs ys : List Line) → read (xs ++ ys) ≡ read xs ++ read ys
read_append [] ys = refl
read_append (l ∷ ls) ys = ap (λ (rs : List Rec). rec_of l.text ∷ rs) (read_append ls ys)

pub recs_append : (a b : Text) → whole a ≡ true → recs (a ++ b) ≡ recs a ++ recs b
unfolding recs
recs_append a b h = rw (lines_append b a h) (read_append (lines_of a) (lines_of b))

-- the lines from a position on, read: the line there, and those from the next on
pub recs_past : (s : Text) (at : ℕ) → length s ≤ at → recs (drop at s) ≡ []
unfolding recs
recs_past s at h = rw (lines_past s at h)

pub recs_on : (s : Text) (at : ℕ) (q : LineAt) → LineIs s at q → at < length s → recs (drop at s) ≡ rec_of (take (q.end - at) (drop at s)) ∷ recs (drop q.next s)
unfolding recs
recs_on s at q e h = rw (lines_on s at q e h)

-- parts
pub part_whole : (s : Text) (p n : ℕ) → whole (take n s) ≡ true → whole (part s p n) ≡ true
part_whole s p n h = rw (part_drop s p n) (whole_drop p (take n s) h)

-- a line with its LF, by itself
abbrev Alone : Text → Type 0
Alone s = (line_of s).ended ≡ true → lines_of (take (line_len s) s) ≡ line_of s ∷ []

no_end : (line_of []).ended ≡ false
unfolding line_of lines_of
no_end = refl

alone_on : (b : ℕ) (s : Text) → ending_of (b ∷ s) ≡ 0 → Alone s → Alone (b ∷ s)
unfolding grow ending_of lf_next
alone_on b [] e h k = clash (cc (line_more b [] e, no_end))
alone_on b (c ∷ s) e h k = go (line_len (c ∷ s) - 1) (omega (arith, line_pos (c ∷ s) (omega arith)))
  where
    go : (m : ℕ) → line_len (c ∷ s) ≡ suc m → lines_of (take (line_len (b ∷ c ∷ s)) (b ∷ c ∷ s)) ≡ line_of (b ∷ c ∷ s) ∷ []
    go m l =
        let r : lines_of (c ∷ take m s) ≡ line_of (c ∷ s) ∷ [] = rw l at (h (rw (line_more b (c ∷ s) e) at k)) in
        rw (len_more b (c ∷ s) e, l, lines_more b (c ∷ take m s) e, line_more b (c ∷ s) e, r)

pub alone : (s : Text) → (line_of s).ended ≡ true → lines_of (take (line_len s) s) ≡ line_of s ∷ []
unfolding line_of lines_of text_len line_len by_ending ending_of lf_next
alone = by_ending_lem Alone (λ k. clash (cc)) alone_on (λ s h k. refl) (λ s h k. refl)

-- a line that has more after it has its LF
text_all : (s : Text) → (line_of s).ended ≡ false → line_len s ≡ length s
unfolding line_of lines_of text_len line_len by_ending ending_of lf_next
text_all =
    by_ending_lem (λ (s : Text). (line_of s).ended ≡ false → line_len s ≡ length s) (λ k. refl)
    (λ b s e h k. rw (len_more b s e) (ap suc (h (rw (line_more b s e) at k)))) (λ s h k. clash (cc)) (λ s h k. clash (cc))

-- one line on, from position at
module _ (s : Text) (at : ℕ) (q : LineAt) (e : LineIs s at q) where
  pub ended_inside : q.next < length s → q.lf ≡ true
  ended_inside k = go q.lf refl
    where
      go : (b : Bool) → q.lf ≡ b → b ≡ true
      go true f = refl
      go false f = absurd (omega (arith, at_next s at q e, text_all (drop at s) (sym (at_lf s at q e) ∙ f), length-drop at s))

  module _ (f : q.lf ≡ true) (w : whole (take at s) ≡ true) where
    here : lines_of (part s at q.next) ≡ record { text = part s at q.end; ended = q.lf } ∷ []
    here = rw (at_next s at q e, add-sub_cancel_left, ← at_line s at q e) (alone (drop at s) (sym (at_lf s at q e) ∙ f))

    whole_here : whole (part s at q.next) ≡ true
    unfolding whole
    whole_here = rw (here, f)

    pub whole_step : whole (take q.next s) ≡ true
    whole_step =
        rw (← part_start s q.next, part_split s 0 at q.next (omega arith) (omega arith), part_start s at)
        (whole_append (part s at q.next) (take at s) w whole_here)

    pub recs_step : (p : ℕ) → p ≤ at → recs (part s p q.next) ≡ recs (part s p at) ++ (rec_of (part s at q.end) ∷ [])
    unfolding recs
    recs_step p k = rw (part_split s p at q.next k (omega arith)) (recs_append (part s p at) (part s at q.next) (part_whole s p at w) ∙ rw here)
