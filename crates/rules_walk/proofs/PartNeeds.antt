-- What each need of the functions over places of one type asks.
-- Assumes nothing.
use mathlib.Core.Path.{◌≡◌, refl, sym, ap, ◌∙◌}
use mathlib.Core.Bool.{Bool, true, false, cond}
use mathlib.Core.List.{List, [], ◌∷◌, ◌++◌}
use Prim.Native.Nat.{ℕ, zero, suc, ◌+◌, ◌-◌, ◌≤◌, ◌<◌}
use native.Mathlib.Numerals.{add-one}
use native.Mathlib.Omega.{arith}
use borrow.Author.Rules.{rules}
use lib.ListN.{length, get_or, take, drop, set, length-set, take-append-drop}
use lib.Seq.{drop-set-lt}
use Rattle.std.specs.Prelude.{count_by}
use Rattle.std.proofs.lemmas.List.Recursion.{is_count_by}
use Rattle.house.specs.Text.{Text, same, those}
use Rattle.house.specs.Over.{over}
use Rattle.house.proofs.Suffix.{drop_here, drop_past}
use Rattle.lines_fields.specs.declared.LineAt.{LineAt}
use Rattle.lines_fields.specs.Lines.{line_of, LineIs}
use Rattle.lines_fields.specs.Marks.{judged_of}
use Rattle.lines_fields.proofs.LineLaws.{lines_past, at_text, at_from, at_in}
use Rattle.rules_walk.specs.Firsts.{is_typed, part_of}

-- line_text
pub text_none : (f : Text) (at : ℕ) → length f ≤ at → [] ≡ (line_of (drop at f)).text
unfolding line_of
text_none f at h = rw (lines_past f at h)

pub text_there : (f : Text) (at : ℕ) (q : LineAt) → LineIs f at q → take (q.end - at) (drop at f) ≡ (line_of (drop at f)).text
text_there f at q is = at_text f at q is

pub ruleset for_line_text = (rules, at_from, at_in, text_none, text_there)

-- is_typed
pub typed_is : (f : Text) (letter p at : ℕ) (g : Text) (r : Bool) → at ≡ p → g ≡ judged_of (line_of (drop at f)).text 4 → r ≡ same g (letter ∷ []) → r ≡ is_typed f letter p
unfolding is_typed
typed_is f letter p at g r i a c = c ∙ rw (a, i)

pub ruleset for_is_typed = (rules, typed_is)

-- a place written at n
over_nil : (xs : List ℕ) → over xs [] ≡ []
over_nil [] = refl
over_nil (x ∷ xs) = refl

over_put : (x : ℕ) (xs : List ℕ) (n : ℕ) (out : List ℕ) → take n out ++ over (x ∷ xs) (drop n out) ≡ take (suc n) (set out n x) ++ over xs (drop (suc n) (set out n x))
over_put x xs zero [] = sym (over_nil xs)
over_put x xs zero (a ∷ out) = refl
over_put x xs (suc n) [] = sym (over_nil xs)
over_put x xs (suc n) (a ∷ out) = ap (λ (l : List ℕ). a ∷ l) (over_put x xs n out)

-- count_of, part_of, keep: of the places ps those up to i are passed, and n of them are written to the front of out
module _ (f : Text) (letter : ℕ) (ps out₀ : List ℕ) where
  pub record Parting (out : List ℕ) (i n : ℕ) : Type 0 where
    pub size : length out ≡ length out₀
    pub few : n ≤ i
    pub count : length (part_of f letter ps) ≡ n + length (part_of f letter (drop i ps))
    pub written : over (part_of f letter ps) out₀ ≡ take n out ++ over (part_of f letter (drop i ps)) (drop n out)

  pub part_start : Parting out₀ 0 0
  part_start = record { size = refl; few = omega arith; count = omega arith; written = refl }

  module _ (out : List ℕ) (i n : ℕ) (inv : Parting out i n) where
    pub part_count : length ps ≤ i → n ≡ length (part_of f letter ps)
    unfolding part_of
    part_count h = let e : length (part_of f letter (drop i ps)) ≡ 0 = rw (drop_past ps i h) in omega (arith, inv.count)

    pub part_end : length ps ≤ i → out ≡ over (part_of f letter ps) out₀
    unfolding part_of
    part_end h = sym (inv.written ∙ rw (drop_past ps i h) (take-append-drop n out))

    module _ (h : i < length ps) (r : Bool) (c : r ≡ is_typed f letter (get_or ps i 0)) where
      first : part_of f letter (drop i ps) ≡ cond r (get_or ps i 0 ∷ part_of f letter (drop (i + 1) ps)) (part_of f letter (drop (i + 1) ps))
      unfolding part_of
      first = rw (drop_here ps i h, c)

      pub part_no : r ≡ false → Parting out (i + 1) n
      part_no z =
          let e : part_of f letter (drop i ps) ≡ part_of f letter (drop (i + 1) ps) = first ∙ rw z in
          record { size = inv.size; few = omega (arith, inv.few); count = inv.count ∙ rw e; written = inv.written ∙ rw e }

      pub part_yes : (new : List ℕ) → r ≡ true → new ≡ set out n (get_or ps i 0) → Parting new (i + 1) (n + 1)
      part_yes new z w =
          let e : part_of f letter (drop i ps) ≡ get_or ps i 0 ∷ part_of f letter (drop (i + 1) ps) = first ∙ rw z in
          let l : length (part_of f letter (drop i ps)) ≡ suc (length (part_of f letter (drop (i + 1) ps))) = ap length e in
          record {
            size = ap length w ∙ length-set out n (get_or ps i 0) ∙ inv.size;
            few = omega (arith, inv.few);
            count = omega (arith, inv.count);
            written = inv.written ∙ rw (e, w, add-one n) (over_put (get_or ps i 0) (part_of f letter (drop (i + 1) ps)) n out);
          }

pub ruleset for_part_of = (rules, part_start, part_count, part_end, part_no, part_yes)

-- count_of
those_count : (p : ℕ → Bool) (ps : List ℕ) → length (those p ps) ≡ count_by p ps
those_count p ps = is_count_by (λ (xs : List ℕ). length (those p xs)) p refl (λ x xs. go (p x) x xs) ps
  where
    go : (b : Bool) (x : ℕ) (xs : List ℕ) → length (cond b (x ∷ those p xs) (those p xs)) ≡ cond b (1 + length (those p xs)) (length (those p xs))
    go true x xs = omega arith
    go false x xs = refl

pub count_is : (f : Text) (letter : ℕ) (ps : List ℕ) (n : ℕ) → n ≡ count_by (is_typed f letter) ps → n ≡ length (part_of f letter ps)
unfolding part_of
count_is f letter ps n e = e ∙ sym (those_count (is_typed f letter) ps)

-- keep writes over places that it has passed
module _ (f : Text) (letter : ℕ) (ps₀ : List ℕ) where
  pub record Keeping (ps : List ℕ) (i n : ℕ) : Type 0 where
    pub ahead : drop i ps ≡ drop i ps₀
    pub part : Parting f letter ps₀ ps₀ ps i n

  pub keep_start : Keeping ps₀ 0 0
  keep_start = record { ahead = refl; part = part_start f letter ps₀ ps₀ }

  module _ (ps : List ℕ) (i n : ℕ) (inv : Keeping ps i n) where
    pub keep_count : length ps ≤ i → n ≡ length (part_of f letter ps₀)
    keep_count h = part_count f letter ps₀ ps₀ ps i n inv.part (omega (arith, inv.part.size))

    pub keep_end : length ps ≤ i → ps ≡ over (part_of f letter ps₀) ps₀
    keep_end h = part_end f letter ps₀ ps₀ ps i n inv.part (omega (arith, inv.part.size))

    module _ (h : i < length ps) where
      pub keep_in : n < length ps
      keep_in = omega (arith, inv.part.few)

      pub keep_falls : length ps₀ - (i + 1) < length ps₀ - i
      keep_falls = omega (arith, inv.part.size)

      both : get_or ps i 0 ∷ drop (i + 1) ps ≡ get_or ps₀ i 0 ∷ drop (i + 1) ps₀
      both = sym (drop_here ps i h) ∙ inv.ahead ∙ drop_here ps₀ i (omega (arith, inv.part.size))

      here : get_or ps i 0 ≡ get_or ps₀ i 0
      here = cc both

      next : drop (i + 1) ps ≡ drop (i + 1) ps₀
      next = cc both

      module _ (r : Bool) (c : r ≡ is_typed f letter (get_or ps i 0)) where
        typed : r ≡ is_typed f letter (get_or ps₀ i 0)
        typed = c ∙ ap (is_typed f letter) here

        pub keep_no : r ≡ false → Keeping ps (i + 1) n
        keep_no z = record { ahead = next; part = part_no f letter ps₀ ps₀ ps i n inv.part (omega (arith, inv.part.size)) r typed z }

        pub keep_yes : r ≡ true → Keeping (set ps n (get_or ps i 0)) (i + 1) (n + 1)
        keep_yes z =
            record {
              ahead = drop-set-lt (i + 1) ps n (get_or ps i 0) (omega (arith, inv.part.few)) ∙ next;
              part =
                  part_yes f letter ps₀ ps₀ ps i n inv.part (omega (arith, inv.part.size)) r typed (set ps n (get_or ps i 0)) z
                  (ap (set ps n) here);
            }

pub ruleset for_keep = (rules, keep_start, keep_count, keep_end, keep_in, keep_falls, keep_no, keep_yes)
