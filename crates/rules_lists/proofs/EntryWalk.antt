-- The entries and the records of the lines of a text from a position on: line by line, and parted where a line starts.
-- Assumes nothing.
use mathlib.Core.Path.{◌≡◌, refl, sym, ap, ◌∙◌}
use mathlib.Core.Bool.{Bool, true, false, ◌||◌}
use mathlib.Core.List.{List, [], ◌∷◌, ◌++◌}
use Prim.Native.Nat.{ℕ, zero, suc, ◌+◌, ◌≤◌, ◌<◌}
use native.Mathlib.Omega.{arith}
use borrow.Author.Tests.{ltb-true, ltb-false, le-leb}
use lib.Dec.{ltb}
use lib.ListN.{length, take, drop, length-drop}
use lib.Seq.{drop-drop, length-take-le}
use Rattle.house.specs.Text.{Text, any, all}
use Rattle.house.proofs.Small.{both, clash}
use Rattle.house.proofs.Members.{all_append}
use Rattle.lines_fields.specs.Lines.{LF, Line, lf_next, ending_of, by_ending, lines_of, line_of, text_len, line_len}
use Rattle.lines_fields.specs.Inside.{part}
use Rattle.lines_fields.proofs.CutLaws.{part_drop, part_split}
use Rattle.lines_fields.proofs.LineLaws.{by_ending_lem, line_more, len_more, line_le, line_pos, lines_step, lines_past}
use Rattle.lines_words.specs.Words.{place_bound}
use Rattle.lines.specs.Records.{Rec, rec_of, recs}
use Rattle.lines.specs.Inside.{whole}
use Rattle.lines.proofs.PartLaws.{recs_past, whole_drop}
use Rattle.rules_lists.specs.Entries.{entry_of, entries_from, entries_in}

pub any_append : {A : Type 0} (p : A → Bool) (xs ys : List A) → any p (xs ++ ys) ≡ (any p xs || any p ys)
any_append p [] ys = refl
any_append p (x ∷ xs) ys = go (p x) (any_append p xs ys)
  where
    go : (b : Bool) → any p (xs ++ ys) ≡ (any p xs || any p ys) → (b || any p (xs ++ ys)) ≡ (b || any p xs || any p ys)
    go true e = refl
    go false e = e

grouped : (xs ys zs : List ℕ) → (xs ++ ys) ++ zs ≡ xs ++ (ys ++ zs)
grouped [] ys zs = refl
grouped (x ∷ xs) ys zs = ap (λ (l : List ℕ). x ∷ l) (grouped xs ys zs)

any_none : {A : Type 0} (xs : List A) → any (λ (x : A). false) xs ≡ false
any_none [] = refl
any_none (x ∷ xs) = any_none xs

pub all_true : {A : Type 0} (xs : List A) → all (λ (x : A). true) xs ≡ true
all_true [] = refl
all_true (x ∷ xs) = all_true xs

-- a line with its LF is the same whatever comes after
open_end : (b : ℕ) → ending_of (b ∷ []) ≡ 0 → (line_of (b ∷ [])).ended ≡ false
unfolding line_of lines_of
open_end b e = rw (line_more b [] e)

module _ (y : Text) where
  pub record SameLine (x : Text) : Type 0 where
    pub line : line_of (x ++ y) ≡ line_of x
    pub long : line_len (x ++ y) ≡ line_len x

  abbrev Stays : Text → Type 0
  Stays x = (line_of x).ended ≡ true → SameLine x

  stays_none : Stays []
  unfolding line_of lines_of
  stays_none k = clash (cc)

  stays_on : (b : ℕ) (x : Text) → ending_of (b ∷ x) ≡ 0 → Stays x → Stays (b ∷ x)
  unfolding ending_of lf_next
  stays_on b [] e h k = clash (cc (open_end b e))
  stays_on b (c ∷ x) e h k =
      let r : SameLine (c ∷ x) = h (rw (line_more b (c ∷ x) e) at k) in
      record {
        line = rw (line_more b (c ∷ (x ++ y)) e, line_more b (c ∷ x) e, r.line);
        long = rw (len_more b (c ∷ (x ++ y)) e, len_more b (c ∷ x) e, r.long);
      }

  stays_lf : (x : Text) → Stays x → Stays (LF ∷ x)
  unfolding line_of lines_of text_len line_len by_ending ending_of lf_next
  stays_lf x h k = record { line = refl; long = refl }

  stays_crlf : (x : Text) → Stays (LF ∷ x) → Stays (13 ∷ LF ∷ x)
  unfolding line_of lines_of text_len line_len by_ending ending_of lf_next
  stays_crlf x h k = record { line = refl; long = refl }

  pub same_line : (x : Text) → (line_of x).ended ≡ true → SameLine x
  same_line = by_ending_lem Stays stays_none stays_on stays_lf stays_crlf

module _ (u : Text) where
  -- the text of the line at a position, and where the next one starts
  abbrev pub line_from : ℕ → Text
  line_from i = (line_of (drop i u)).text

  abbrev pub next_from : ℕ → ℕ
  next_from i = i + line_len (drop i u)

  pub next_past : (i : ℕ) → i < length u → i < next_from i
  next_past i h = omega (arith, line_pos (drop i u) (omega (arith, length-drop i u)))

  pub next_in : (i : ℕ) → i < length u → next_from i ≤ length u
  next_in i h = omega (arith, line_le (drop i u), length-drop i u)

  pub ended_here : whole u ≡ true → (i : ℕ) → i < length u → (line_of (drop i u)).ended ≡ true
  unfolding whole
  ended_here w i h =
      let r : all (λ (l : Line). l.ended) (line_of (drop i u) ∷ lines_of (drop (line_len (drop i u)) (drop i u))) ≡ true = rw (lines_step (drop i u) (omega (arith, length-drop i u))) at (whole_drop i u w) in
      (both (line_of (drop i u)).ended _ r).0

  -- what holds past the end, and of a line if of the next, holds of all
  module _ (P : ℕ → Type 0) (past : (i : ℕ) → length u ≤ i → P i) (on : (i : ℕ) → i < length u → P (next_from i) → P i) where
    walk_by : (n i : ℕ) → length u ≤ i + n → P i
    walk_by zero i h = past i (omega arith)
    walk_by (suc n) i h = go (ltb i (length u)) refl (λ (k : ℕ) (l : length u ≤ k + n). walk_by n k l)
      where
        go : (b : Bool) → ltb i (length u) ≡ b → ((k : ℕ) → length u ≤ k + n → P k) → P i
        go true e rec = on i (ltb-true _ _ e) (rec (next_from i) (omega (arith, next_past i (ltb-true _ _ e))))
        go false e rec = past i (ltb-false _ _ e)

    pub walk : (i : ℕ) → P i
    walk i = walk_by (length u) i (omega arith)

  recs_step : (i : ℕ) → i < length u → recs (drop i u) ≡ rec_of (line_from i) ∷ recs (drop (next_from i) u)
  unfolding recs
  recs_step i h = rw (lines_step (drop i u) (omega (arith, length-drop i u)), drop-drop)

  module _ (what : ℕ) where
    abbrev pub entries_ahead : ℕ → List ℕ
    entries_ahead i = entries_from what i (drop i u) (lines_of (drop i u))

    pub entries_past : (i : ℕ) → length u ≤ i → entries_ahead i ≡ []
    entries_past i h = rw (lines_past u i h)

    pub entries_step : (i : ℕ) → i < length u → entries_ahead i ≡ entry_of what i (line_from i) ++ entries_ahead (next_from i)
    entries_step i h =
        ap (λ (ls : List Line). entries_from what i (drop i u) ls) (lines_step (drop i u) (omega (arith, length-drop i u))) ∙ rw drop-drop

    -- what is asked of each line's entries is asked of each line
    module _ (q : ℕ → Bool) (g ok : Rec → Bool) (lo : ℕ) where
      module _ (each : (i : ℕ) → lo ≤ i → i < length u → ok (rec_of (line_from i)) ≡ true → any q (entry_of what i (line_from i)) ≡ g (rec_of (line_from i))) where
        abbrev Any : ℕ → Type 0
        Any i = lo ≤ i → all ok (recs (drop i u)) ≡ true → any q (entries_ahead i) ≡ any g (recs (drop i u))

        any_past : (i : ℕ) → length u ≤ i → Any i
        any_past i h l k = rw (entries_past i h, recs_past u i h)

        any_on : (i : ℕ) → i < length u → Any (next_from i) → Any i
        any_on i h rec l k =
            let p = both (ok (rec_of (line_from i))) (all ok (recs (drop (next_from i) u))) (rw (recs_step i h) at k) in
            rw (entries_step i h, any_append, each i l h p.0, recs_step i h, rec (omega (arith, next_past i h)) p.1)

        pub any_lines : (i : ℕ) → lo ≤ i → all ok (recs (drop i u)) ≡ true → any q (entries_ahead i) ≡ any g (recs (drop i u))
        any_lines = walk Any any_past any_on

      module _ (each : (i : ℕ) → lo ≤ i → i < length u → ok (rec_of (line_from i)) ≡ true → all q (entry_of what i (line_from i)) ≡ g (rec_of (line_from i))) where
        abbrev All : ℕ → Type 0
        All i = lo ≤ i → all ok (recs (drop i u)) ≡ true → all q (entries_ahead i) ≡ all g (recs (drop i u))

        all_past : (i : ℕ) → length u ≤ i → All i
        all_past i h l k = rw (entries_past i h, recs_past u i h)

        all_on : (i : ℕ) → i < length u → All (next_from i) → All i
        all_on i h rec l k =
            let p = both (ok (rec_of (line_from i))) (all ok (recs (drop (next_from i) u))) (rw (recs_step i h) at k) in
            rw (entries_step i h, all_append, each i l h p.0, recs_step i h, rec (omega (arith, next_past i h)) p.1)

        pub all_lines : (i : ℕ) → lo ≤ i → all ok (recs (drop i u)) ≡ true → all q (entries_ahead i) ≡ all g (recs (drop i u))
        all_lines = walk All all_past all_on

    module _ (q : ℕ → Bool) (lo : ℕ) (each : (i : ℕ) → lo ≤ i → i < length u → any q (entry_of what i (line_from i)) ≡ false) where
      pub no_lines : (i : ℕ) → lo ≤ i → any q (entries_ahead i) ≡ false
      no_lines i l =
          any_lines q (λ (r : Rec). false) (λ (r : Rec). true) lo (λ i l h k. each i l h) i l (all_true (recs (drop i u))) ∙ any_none (recs (drop i u))

-- parted at position m
module _ (file : Text) (m to what : ℕ) (a : m ≤ to) (b : to ≤ length file) where
  length_front : length (take m file) ≡ m
  length_front = length-take-le m file (omega arith)

  front_on : (i : ℕ) → i ≤ m → drop i (take to file) ≡ drop i (take m file) ++ part file m to
  front_on i h = rw (← part_drop file i to, ← part_drop file i m) (part_split file i m to h a)

  -- a line that ends before m
  pub line_part : (i : ℕ) → i ≤ m → (line_of (drop i (take m file))).ended ≡ true → SameLine (part file m to) (drop i (take m file))
  line_part i h e = same_line (part file m to) (drop i (take m file)) e

  module _ (w : whole (take m file) ≡ true) where
    abbrev Parted : ℕ → Type 0
    Parted i = i ≤ m → entries_ahead (take to file) what i ≡ entries_ahead (take m file) what i ++ entries_ahead (take to file) what m

    parted_past : (i : ℕ) → length (take m file) ≤ i → Parted i
    parted_past i h l =
        let e : i ≡ m = omega (arith, length_front) in
        rw (entries_past (take m file) what i h, e)

    parted_on : (i : ℕ) → i < length (take m file) → Parted (next_from (take m file) i) → Parted i
    parted_on i h rec l =
        let s = line_part i l (ended_here (take m file) w i h) in
        let t : line_of (drop i (take to file)) ≡ line_of (drop i (take m file)) = rw (front_on i l) s.line in
        let n : line_len (drop i (take to file)) ≡ line_len (drop i (take m file)) = rw (front_on i l) s.long in
        let k : i < length (take to file) = omega (arith, length-take-le to file b, length_front) in
        let r : entries_ahead (take to file) what (next_from (take m file) i) ≡ entries_ahead (take m file) what (next_from (take m file) i) ++ entries_ahead (take to file) what m = rec (omega (arith, next_in (take m file) i h, length_front)) in
        entries_step (take to file) what i k
        ∙ ap (λ (x : Line). entry_of what i x.text ++ entries_ahead (take to file) what (next_from (take to file) i)) t
        ∙ ap (λ (x : ℕ). entry_of what i (line_from (take m file) i) ++ entries_ahead (take to file) what (i + x)) n
        ∙ ap (λ (es : List ℕ). entry_of what i (line_from (take m file) i) ++ es) r
        ∙ sym (ap (λ (es : List ℕ). es ++ entries_ahead (take to file) what m) (entries_step (take m file) what i h)
        ∙ grouped (entry_of what i (line_from (take m file) i)) (entries_ahead (take m file) what (next_from (take m file) i)) (entries_ahead (take to file) what m))

    pub parted : (i : ℕ) → i ≤ m → entries_ahead (take to file) what i ≡ entries_ahead (take m file) what i ++ entries_ahead (take to file) what m
    parted = walk (take m file) Parted parted_past parted_on

-- those of a part of a file
pub entries_are : (file : Text) (what from to : ℕ) → length file ≤ place_bound → to ≤ length file → entries_in what file from to ≡ entries_ahead (take to file) what from
unfolding entries_in
entries_are file what from to h k = rw (le-leb _ _ h, le-leb _ _ k, part_drop file from to)
