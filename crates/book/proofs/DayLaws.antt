-- In force: what each need of `eight_digits`, `end_number`, `in_force`, `standing` and `look_up` asks.
-- Assumes nothing.
use mathlib.Core.Path.{◌≡◌, refl, sym, ap, ◌∙◌}
use mathlib.Core.Bool.{Bool, true, false, not, ◌&&◌}
use mathlib.Core.List.{◌++◌}
use Prim.Native.Nat.{ℕ, ◌+◌, ◌-◌, ◌*◌, ◌≤◌, ◌<◌}
use native.Mathlib.Omega.{arith}
use borrow.Author.Tests.{eq-eqb, ne_eqb, le-leb, lt-leb}
use borrow.Author.Rules.{rules}
use lib.Dec.{ltb, leb}
use lib.ListN.{length, get_or, take, drop, length-drop}
use lib.Seq.{drop-drop, take-take, take-add, drop-append_seam, length-take-le}
use Rattle.house.specs.Text.{Text, all, number}
use Rattle.house.proofs.Suffix.{eight}
use Rattle.book.specs.declared.Layout.{Layout}
use Rattle.book.specs.declared.Position.{Position}
use Rattle.book.specs.declared.Sections.{Sections}
use Rattle.book.specs.declared.Standing.{Standing}
use Rattle.book.specs.declared.Standing.TheVariants.{Unknown, OutOfForce, InForce}
use Rattle.book.specs.Book.{start_width, code_width, body_width, code_text, entry_of, dates_of, start_of, end_of, started_by, in_force, ended_before}
use Rattle.book.specs.LookUp.{found_in, is_such_at, known_by, in_force_by, ended_by, in_force_until_by, standing_by}
use Rattle.book.specs.Inside.{is_byte, found_by, in_force_until, said_by, WidthsAre, LayoutIs, FoundIs}
use Rattle.book.proofs.WidthLaws.{body_parts}
use Rattle.book.proofs.CodeLaws.{eight_nines}
use Rattle.book.proofs.SearchLaws.{find_kind, find_widths, find_by}
use Rattle.std.proofs.Common.{Option, Some, None}

-- eight_digits
pub eight_is : (s : Text) (at : ℕ) → at + 8 ≤ length s → (a b c d e f g h : ℕ) → a ≡ get_or s at 0 - 48 → b ≡ get_or s (at + 1) 0 - 48 → c ≡ get_or s (at + 2) 0 - 48 → d ≡ get_or s (at + 3) 0 - 48
    → e ≡ get_or s (at + 4) 0 - 48 → f ≡ get_or s (at + 5) 0 - 48 → g ≡ get_or s (at + 6) 0 - 48 → h ≡ get_or s (at + 7) 0 - 48
    → (((((((a * 10 + b) * 10 + c) * 10 + d) * 10 + e) * 10 + f) * 10 + g) * 10 + h) ≡ number (take 8 (drop at s))
unfolding number
eight_is s at l a b c d e f g h ea eb ec ed ee ef eg eh = rw (eight s at l, ← ea, ← eb, ← ec, ← ed, ← ee, ← ef, ← eg, ← eh) (omega arith)

pub ruleset for_eight_digits = (rules, eight_is)

-- end_number
module _ (s : Text) (at : ℕ) (l : at + 8 ≤ length s) (r : Bool) (e : r ≡ all (is_byte 57) (take 8 (drop at s))) where
  pub end_open : r ≡ true → 99999999 ≡ number (take 8 (drop at s))
  end_open h = eight_nines s at l (sym e ∙ h)

pub ruleset for_end_number = (rules, end_open)

-- in_force
module _ (s : Text) (k : ℕ) (w : Layout) (wide : WidthsAre k w) (at : ℕ) (l : at + w.entry ≤ length s) where
  abbrev body : ℕ
  body = at + 1

  abbrev rests : Text
  rests = drop (body + code_width k) s

  -- some bytes after others
  after : (n m : ℕ) (t : Text) → n + m ≤ length t → drop n (take (n + m) t) ≡ take m (drop n t)
  after n m t h =
      let e : length (take n t) ≡ n = length-take-le n t (omega arith) in
      ap (drop n) (take-add n m t) ∙ ap (λ (j : ℕ). drop j (take n t ++ take m (drop n t))) (sym e) ∙ drop-append_seam (take n t) (take m (drop n t))

  dates_at : dates_of (entry_of k (drop body s)) ≡ take (start_width k + 8) rests
  unfolding dates_of entry_of
  dates_at =
      let e : body_width k ≡ code_width k + (start_width k + 8) = omega (arith, body_parts k) in
      rw e (after (code_width k) (start_width k + 8) (drop body s) (omega (arith, length-drop body s, body_parts k, wide.entry_is)) ∙ rw (drop-drop (code_width k) body s))

  start_at : start_of (entry_of k (drop body s)) ≡ take (start_width k) rests
  unfolding start_of entry_of
  start_at = ap (take (start_width k)) dates_at ∙ take-take (start_width k) (start_width k + 8) rests (omega arith)

  end_at : end_of (entry_of k (drop body s)) ≡ take 8 (drop (at + (w.entry - 8)) s)
  unfolding end_of entry_of
  end_at =
      let e : body + code_width k + start_width k ≡ at + (w.entry - 8) = omega (arith, body_parts k, wide.entry_is) in
      let r : start_width k + 8 ≤ length rests = omega (arith, length-drop (body + code_width k) s, body_parts k, wide.entry_is) in
      ap (drop (start_width k)) dates_at ∙ after (start_width k) 8 rests r ∙ ap (take 8) (drop-drop (start_width k) (body + code_width k) s) ∙ ap (λ (j : ℕ). take 8 (drop j s)) e

  pub force_wide : 8 ≤ w.entry
  force_wide = omega (arith, body_parts k, wide.entry_is)

  pub force_room : length s < 18446744073709551616 → at + (w.entry - 8) < 18446744073709551616
  force_room z = omega arith

  pub force_in : at + (w.entry - 8) + 8 ≤ length s
  force_in = omega (arith, force_wide)

  abbrev end_of_lem : ℕ
  end_of_lem = number (take 8 (drop (at + (w.entry - 8)) s))

  ended : number (end_of (entry_of k (drop body s))) ≡ end_of_lem
  ended = ap number end_at

  module _ (d u : ℕ) (r : Bool) (e : r ≡ leb d end_of_lem && not (ltb end_of_lem u)) where
    pub force_other : (k ≡ 1 → ⊥) → r ≡ in_force_until d u (entry_of k (drop (at + 1) s))
    unfolding in_force ended_before started_by entry_of
    force_other n = e ∙ sym (rw (ne_eqb k 1 n) (ap (λ (j : ℕ). leb d j && not (ltb j u)) ended))

  module _ (o : k ≡ 1) where
    start_wide : start_width k ≡ 8
    unfolding start_width
    start_wide = rw o

    pub force_before : 8 ≤ at + (w.entry - 8)
    force_before = omega (arith, body_parts k, wide.entry_is, start_wide)

    pub force_start : at + (w.entry - 8) - 8 + 8 ≤ length s
    force_start = omega (arith, force_before, force_in)

    module _ (d u x : ℕ) (ex : x ≡ number (take 8 (drop (at + (w.entry - 8) - 8) s))) where
      started : number (start_of (entry_of k (drop body s))) ≡ x
      started =
          let e : body + code_width k ≡ at + (w.entry - 8) - 8 = omega (arith, body_parts k, wide.entry_is, start_wide) in
          ap number (start_at ∙ ap (λ (j : ℕ). take j rests) start_wide ∙ ap (λ (j : ℕ). take 8 (drop j s)) e) ∙ sym ex

      abbrev begun : Bool → Bool
      begun b = b && leb d (number (end_of (entry_of k (drop body s)))) && not (ltb (number (end_of (entry_of k (drop body s)))) u)

      pub force_not_yet : d < x → false ≡ in_force_until d u (entry_of k (drop (at + 1) s))
      unfolding in_force ended_before started_by entry_of
      force_not_yet h = sym (rw (eq-eqb k 1 o) (ap (λ (j : ℕ). begun (leb j d)) started ∙ ap begun (lt-leb x d h)))

      pub force_vaccine : (r : Bool) → x ≤ d → r ≡ leb d end_of_lem && not (ltb end_of_lem u) → r ≡ in_force_until d u (entry_of k (drop (at + 1) s))
      unfolding in_force ended_before started_by entry_of
      force_vaccine r h f =
          f ∙ sym (rw (eq-eqb k 1 o) (ap (λ (j : ℕ). begun (leb j d)) started ∙ ap begun (le-leb x d h) ∙ ap (λ (j : ℕ). leb d j && not (ltb j u)) ended))

pub ruleset for_in_force = (rules, force_wide, force_room, force_in, force_other, force_before, force_start, force_not_yet, force_vaccine)

-- standing
module _ (s : Text) (k : ℕ) (w : Layout) (end : ℕ) (a b : Text) (d u : ℕ) (f : Option Position) (e : FoundIs s k (found_by s k w end a b) f) where
  pub said_no : f ≡ None → Unknown ≡ said_by s k w end a b d u
  unfolding said_by
  said_no h = rw (← e.exact, h)

  module _ (p : Position) (h : f ≡ Some p) where
    pub said_lies : WidthsAre k w → p.at + w.entry ≤ length s
    said_lies g =
        let l : p.at + 1 + body_width k ≤ length s = rw h at e.lies in
        omega (arith, g.entry_is)

    by : found_by s k w end a b ≡ Some p
    by = sym e.exact ∙ h

    module _ (r : Bool) (i : r ≡ in_force_until d u (entry_of k (drop (p.at + 1) s))) where
      pub said_in : r ≡ true → InForce ≡ said_by s k w end a b d u
      unfolding said_by
      said_in z = sym (rw by (rw (← i, z)))

      pub said_out : r ≡ false → OutOfForce ≡ said_by s k w end a b d u
      unfolding said_by
      said_out z = sym (rw by (rw (← i, z)))

pub ruleset for_standing = (rules, said_no, said_lies, said_in, said_out)

-- look_up: to ask both of what was found is to ask each
both_such : (s : Text) (d u k : ℕ) (f : Option Position) → is_such_at s (in_force_until d u) k f ≡ is_such_at s (in_force d) k f && not (is_such_at s (ended_before u) k f)
both_such s d u k None = refl
both_such s d u k (Some p) = refl

module _ (s : Text) (q : Sections) (k : ℕ) (a b : Text) (d u : ℕ) where
  pub look_no : 8 < k → Unknown ≡ standing_by s q k (code_text k a b) d u
  unfolding standing_by known_by
  look_no h = rw (← find_kind s q k a b h)

  pub look_is : (w : Layout) (r : Standing) → LayoutIs q k w → k ≤ 8 → r ≡ said_by s k w q.end a b d u → r ≡ standing_by s q k (code_text k a b) d u
  unfolding standing_by known_by in_force_until_by in_force_by ended_by said_by
  look_is w r e l h = h ∙ rw (find_by s q k a b w e l, both_such s d u k (found_in s q k (code_text k a b)))

pub ruleset for_look_up = (rules, find_widths, look_no, look_is)
