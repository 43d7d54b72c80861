-- A pass over the lines: the line at a position, the lines after it, and the first II lines after and ahead.
-- Assumes nothing.
use mathlib.Core.Path.{◌≡◌, refl, sym, ap, ◌∙◌, subst}
use mathlib.Core.Logic.{inl, inr}
use mathlib.Core.Bool.{Bool, true, false, cond, ◌&&◌, ◌||◌}
use mathlib.Core.List.{List, [], ◌∷◌, map}
use Prim.Native.Nat.{ℕ, zero, suc, ◌+◌, ◌≤◌, ◌<◌}
use native.Mathlib.Omega.{arith}
use borrow.Author.Tests.{lt-ltb, le-ltb}
use lib.Dec.{ltb}
use lib.ListN.{length, drop, length-drop}
use lib.Seq.{drop-drop}
use Rattle.house.specs.Text.{Text, any, those}
use Rattle.house.specs.Members.{In}
use Rattle.house.proofs.Small.{clash, Three, lt, eq, gt, three}
use Rattle.lines_fields.specs.Lines.{line_of, line_len, lines_len}
use Rattle.lines.specs.Records.{Rec, rec_of, recs, read}
use Rattle.lines_fields.proofs.LineLaws.{line_pos, lines_step}
use Rattle.lines.proofs.PartLaws.{recs_past}
use Rattle.rules_definitions.specs.Contexts.{Context, contexts_from, contexts_of, contexts_in}
use Rattle.rules_definitions.specs.Blocks.{begins}
use Rattle.rules_walk.specs.Firsts.{start_after, is_first, start_of, firsts_of}
use Rattle.rules_walk.specs.Inside.{rec_at, next_line, Passed, firsts_from, firsts_in}

-- what holds of every text: of one of no bytes, and with the lines after the first, of any
module _ (P : Text → Type 0) (nil : P []) (on : (s : Text) → 0 < length s → P (drop (line_len s) s) → P s) where
  one : (n : ℕ) → ((t : Text) → length t ≤ n → P t) → (s : Text) → length s ≤ suc n → P s
  one n rec [] h = nil
  one n rec (b ∷ s) h =
      on (b ∷ s) (omega arith)
      (rec (drop (line_len (b ∷ s)) (b ∷ s)) (omega (arith, length-drop (line_len (b ∷ s)) (b ∷ s), line_pos (b ∷ s) (omega arith))))

  lined : (n : ℕ) (s : Text) → length s ≤ n → P s
  lined zero [] h = nil
  lined zero (b ∷ s) h = absurd (omega arith)
  lined (suc n) s h = one n (lined n) s h

  pub by_lines : (s : Text) → P s
  by_lines s = lined (length s) s (omega arith)

-- the first line read, and the lines after it
pub recs_first : (s : Text) → 0 < length s → recs s ≡ rec_of (line_of s).text ∷ recs (drop (line_len s) s)
unfolding recs
recs_first s h = ap read (lines_step s h)

-- one line more
pub start_on : (k : ℕ) (s : Text) → lines_len (suc k) s ≡ next_line s (lines_len k s)
unfolding lines_len next_line
start_on zero s = omega arith
start_on (suc k) s =
    let r : lines_len (suc k) (drop (line_len s) s) ≡ next_line (drop (line_len s) s) (lines_len k (drop (line_len s) s)) = start_on k (drop (line_len s) s) in
    ap (λ (n : ℕ). line_len s + n) r ∙ rw drop-drop (omega arith)

module _ (f : Text) (p : ℕ) where
  pub next_from_lem : p ≤ next_line f p
  unfolding next_line
  next_from_lem = omega arith

  module _ (h : p < length f) where
    pub recs_at : recs (drop p f) ≡ rec_at f p ∷ recs (drop (next_line f p) f)
    unfolding rec_at next_line
    recs_at = rw (← drop-drop) (recs_first (drop p f) (omega (arith, length-drop p f)))

    pub next_past : p < next_line f p
    unfolding next_line
    next_past = omega (arith, line_pos (drop p f) (omega (arith, length-drop p f)))

-- the line at hand, and the lines ahead
module _ (f : Text) (before : List Rec) (l : Rec) (ls : List Rec) (e : l ∷ ls ≡ recs (drop (start_after f before) f)) where
  pub ahead_in : start_after f before < length f
  ahead_in = go (three (start_after f before) (length f))
    where
      past : length f ≤ start_after f before → start_after f before < length f
      past g = let q : l ∷ ls ≡ [] = e ∙ recs_past f (start_after f before) g in clash (cc)

      go : Three (start_after f before) (length f) → start_after f before < length f
      go (lt g) = g
      go (eq g) = past (omega arith)
      go (gt g) = past (omega arith)

  both_are : l ∷ ls ≡ rec_at f (start_after f before) ∷ recs (drop (start_after f (l ∷ before)) f)
  both_are = e ∙ recs_at f (start_after f before) ahead_in ∙ ap (λ (k : ℕ). rec_at f (start_after f before) ∷ recs (drop k f)) (sym (start_on (length before) f))

  pub ahead_first : l ≡ rec_at f (start_after f before)
  ahead_first = cc both_are

  pub ahead_rest : ls ≡ recs (drop (start_after f (l ∷ before)) f)
  ahead_rest = cc both_are

-- the lines of a file, each with those before it
passed_all : (f : Text) (n : ℕ) (before ls : List Rec) → Passed f before → ls ≡ recs (drop (start_after f before) f) → (h : Context) → In h (contexts_from n before ls)
    → Passed f (h.line ∷ h.before)
passed_all f n before [] p e h m = absurd m
passed_all f n before (l ∷ ls) p e h (inl i) = subst (λ (k : Context). Passed f (k.line ∷ k.before)) (sym i) (ahead_in f before l ls e, ahead_first f before l ls e, p)
passed_all f n before (l ∷ ls) p e h (inr m) =
    passed_all f (suc n) (l ∷ before) ls (ahead_in f before l ls e, ahead_first f before l ls e, p) (ahead_rest f before l ls e) h m

pub place_passed : (f : Text) (h : Context) → In h (contexts_in f) → Passed f (h.line ∷ h.before)
unfolding contexts_in contexts_of lines_len
place_passed f h m = passed_all f 1 [] (recs f) tt refl h m

-- the first II lines ahead: that of the line at hand, if it is one, and those after it
pub firsts_on : (f : Text) (before : List Rec) (l : Rec) (ls : List Rec)
    → firsts_from f before (l ∷ ls) ≡ cond (begins l before) (start_after f before ∷ firsts_from f (l ∷ before) ls) (firsts_from f (l ∷ before) ls)
unfolding firsts_from
firsts_on f before l ls = go (begins l before)
  where
    rest : List Context
    rest = those is_first (contexts_from (suc (suc (length before))) (l ∷ before) ls)

    go : (b : Bool) → map (start_of f) (cond b (record { number = suc (length before); before = before; line = l; after = ls } ∷ rest) rest) ≡ cond b (start_after f before ∷ map (start_of f) rest) (map (start_of f) rest)
    go true = refl
    go false = refl

pub firsts_start : (f : Text) → firsts_of f ≡ firsts_from f [] (recs f)
unfolding firsts_of firsts_from contexts_in contexts_of
firsts_start f = refl

pub firsts_none : (f : Text) (before : List Rec) (p : ℕ) → length f ≤ p → firsts_from f before (recs (drop p f)) ≡ []
unfolding firsts_from
firsts_none f before p h = rw (recs_past f p h)

-- a first II line passes a test exactly if one after or one ahead does
swap : (a b c : Bool) → (a || (b || c)) ≡ ((b || a) || c)
swap true true c = refl
swap true false c = refl
swap false true c = refl
swap false false c = refl

pub firsts_split : (f : Text) (q : ℕ → Bool) (before : List Rec) → Passed f before
    → any q (firsts_of f) ≡ (any q (firsts_in f before) || any q (firsts_from f before (recs (drop (start_after f before) f))))
unfolding lines_len
firsts_split f q [] p = ap (any q) (firsts_start f)
firsts_split f q (l ∷ before) p =
    firsts_split f q before p.2 ∙ ap (λ (ls : List Rec). any q (firsts_in f before) || any q (firsts_from f before ls)) here
    ∙ ap (λ (ps : List ℕ). any q (firsts_in f before) || any q ps) (firsts_on f before l (recs (drop (start_after f (l ∷ before)) f)))
    ∙ go (begins l before)
  where
    rest : List ℕ
    rest = firsts_from f (l ∷ before) (recs (drop (start_after f (l ∷ before)) f))

    here : recs (drop (start_after f before) f) ≡ l ∷ recs (drop (start_after f (l ∷ before)) f)
    here = recs_at f (start_after f before) p.0 ∙ rw (← p.1, start_on (length before) f)

    go : (b : Bool) → (any q (firsts_in f before) || any q (cond b (start_after f before ∷ rest) rest)) ≡ (any q (cond b (start_after f before ∷ firsts_in f before) (firsts_in f before)) || any q rest)
    go true = swap (any q (firsts_in f before)) (q (start_after f before)) (any q rest)
    go false = refl

-- those after start before the line at hand, those ahead do not
module _ (f : Text) (q : ℕ → Bool) (b : ℕ) where
  pub firsts_after_lem : (before : List Rec) → Passed f before → start_after f before ≤ b → any (λ (p : ℕ). ltb p b && q p) (firsts_in f before) ≡ any q (firsts_in f before)
  firsts_after_lem [] p h = refl
  firsts_after_lem (l ∷ before) p h = go (begins l before) (firsts_after_lem before p.2 (omega (arith, less)))
    where
      less : start_after f before < b
      less = omega (arith, start_on (length before) f, next_past f (start_after f before) p.0)

      go : (c : Bool) → any (λ (p : ℕ). ltb p b && q p) (firsts_in f before) ≡ any q (firsts_in f before)
          → any (λ (p : ℕ). ltb p b && q p) (cond c (start_after f before ∷ firsts_in f before) (firsts_in f before)) ≡ any q (cond c (start_after f before ∷ firsts_in f before) (firsts_in f before))
      go true r = rw (lt-ltb (start_after f before) b less, r)
      go false r = r

  pub firsts_ahead : (ls before : List Rec) → b ≤ start_after f before → any (λ (p : ℕ). ltb p b && q p) (firsts_from f before ls) ≡ false
  unfolding firsts_from
  firsts_ahead [] before h = refl
  firsts_ahead (l ∷ ls) before h =
      ap (any (λ (p : ℕ). ltb p b && q p)) (firsts_on f before l ls)
      ∙ go (begins l before) (firsts_ahead ls (l ∷ before) (omega (arith, start_on (length before) f, next_from_lem f (start_after f before))))
    where
      rest : List ℕ
      rest = firsts_from f (l ∷ before) ls

      go : (c : Bool) → any (λ (p : ℕ). ltb p b && q p) rest ≡ false → any (λ (p : ℕ). ltb p b && q p) (cond c (start_after f before ∷ rest) rest) ≡ false
      go true r = rw (le-ltb (start_after f before) b h, r)
      go false r = r
