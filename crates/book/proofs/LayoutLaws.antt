-- What each need of `layout_of` and `count_of` asks.
-- Assumes nothing.
use mathlib.Core.Path.{◌≡◌, refl}
use Prim.Native.Nat.{ℕ, zero, suc, ◌+◌, ◌-◌, ◌*◌, ◌/◌, ◌≤◌, ◌<◌}
use native.Mathlib.Nat.{div-mul-le_self}
use native.Mathlib.Omega.{arith}
use borrow.Author.Tests.{le-leb, lt-leb}
use borrow.Author.Rules.{rules}
use lib.ListN.{length}
use Rattle.house.specs.Text.{Text}
use Rattle.book.specs.declared.Sections.{Sections}
use Rattle.book.specs.declared.Layout.{Layout}
use Rattle.book.specs.Book.{first_width, second_width, start_width, code_width, body_width}
use Rattle.book.specs.LookUp.{section_start, count_from}
use Rattle.book.specs.Inside.{layout, WidthsAre, LayoutIs}
use Rattle.book.proofs.WidthLaws.{by_kind}

-- layout_of
no_kind : (k : ℕ) → k ≤ 8 → (k ≡ 1 → ⊥) → (k ≡ 2 → ⊥) → (k ≡ 3 → ⊥) → (k ≡ 4 → ⊥) → (k ≡ 5 → ⊥) → (k ≡ 6 → ⊥) → (k ≡ 7 → ⊥) → (k ≡ 8 → ⊥) → k ≡ 0
no_kind zero l a b c d e f g h = refl
no_kind (suc k) l a b c d e f g h =
    absurd (by_kind (λ (j : ℕ). suc k ≡ j → ⊥) a b c d e f g h (suc k) (omega arith) l refl)

module _ (q : Sections) (k : ℕ) where
  lies : (v f t a b e : ℕ) → k ≡ v → f ≡ section_start q v → t ≡ section_start q (v + 1) → a ≡ first_width v → b ≡ second_width v → e ≡ body_width v + 1 → a + b < e → e ≤ 49
      → (r : Layout) → r ≡ layout f t a b e → LayoutIs q k r
  lies v f t a b e h i j l m n o p r z =
      rw (h, z) (record { starts = i; ends = j; widths = record { first_is = l; second_is = m; entry_is = n; codes_in = o; small = p } })

  module _ (r : Layout) where
    pub layout_1 : k ≡ 1 → r ≡ layout 0 q.antigens 20 0 37 → LayoutIs q k r
    unfolding section_start first_width second_width start_width code_width body_width
    layout_1 h z = lies 1 0 q.antigens 20 0 37 h refl refl refl refl refl (omega arith) (omega arith) r z

    pub layout_2 : k ≡ 2 → r ≡ layout q.antigens q.reasons 20 0 29 → LayoutIs q k r
    unfolding section_start first_width second_width start_width code_width body_width
    layout_2 h z = lies 2 q.antigens q.reasons 20 0 29 h refl refl refl refl refl (omega arith) (omega arith) r z

    pub layout_3 : k ≡ 3 → r ≡ layout q.reasons q.manufacturers 2 0 11 → LayoutIs q k r
    unfolding section_start first_width second_width start_width code_width body_width
    layout_3 h z = lies 3 q.reasons q.manufacturers 2 0 11 h refl refl refl refl refl (omega arith) (omega arith) r z

    pub layout_4 : k ≡ 4 → r ≡ layout q.manufacturers q.dosage_types 3 0 12 → LayoutIs q k r
    unfolding section_start first_width second_width start_width code_width body_width
    layout_4 h z = lies 4 q.manufacturers q.dosage_types 3 0 12 h refl refl refl refl refl (omega arith) (omega arith) r z

    pub layout_5 : k ≡ 5 → r ≡ layout q.dosage_types q.reasons_not 4 0 13 → LayoutIs q k r
    unfolding section_start first_width second_width start_width code_width body_width
    layout_5 h z = lies 5 q.dosage_types q.reasons_not 4 0 13 h refl refl refl refl refl (omega arith) (omega arith) r z

    pub layout_6 : k ≡ 6 → r ≡ layout q.reasons_not q.with_reason 3 0 12 → LayoutIs q k r
    unfolding section_start first_width second_width start_width code_width body_width
    layout_6 h z = lies 6 q.reasons_not q.with_reason 3 0 12 h refl refl refl refl refl (omega arith) (omega arith) r z

    pub layout_7 : k ≡ 7 → r ≡ layout q.with_reason q.with_antigen 20 2 31 → LayoutIs q k r
    unfolding section_start first_width second_width start_width code_width body_width
    layout_7 h z = lies 7 q.with_reason q.with_antigen 20 2 31 h refl refl refl refl refl (omega arith) (omega arith) r z

    pub layout_8 : k ≡ 8 → r ≡ layout q.with_antigen q.end 20 20 49 → LayoutIs q k r
    unfolding section_start first_width second_width start_width code_width body_width
    layout_8 h z = lies 8 q.with_antigen q.end 20 20 49 h refl refl refl refl refl (omega arith) (omega arith) r z

    pub layout_none : k ≤ 8 → (k ≡ 1 → ⊥) → (k ≡ 2 → ⊥) → (k ≡ 3 → ⊥) → (k ≡ 4 → ⊥) → (k ≡ 5 → ⊥) → (k ≡ 6 → ⊥) → (k ≡ 7 → ⊥) → (k ≡ 8 → ⊥)
        → r ≡ layout 0 0 0 0 9 → LayoutIs q k r
    unfolding section_start first_width second_width start_width code_width body_width
    layout_none l n1 n2 n3 n4 n5 n6 n7 n8 z =
        lies 0 0 0 0 0 9 (no_kind k l n1 n2 n3 n4 n5 n6 n7 n8) refl refl refl refl refl (omega arith) (omega arith) r z

pub ruleset for_layout_of = (rules, layout_1, layout_2, layout_3, layout_4, layout_5, layout_6, layout_7, layout_8, layout_none)

-- count_of
module _ (s : Text) (k from to : ℕ) where
  pub count_back : to < from → 0 ≡ count_from s k from to
  unfolding count_from
  count_back h = rw (lt-leb from to h)

  pub count_out : from ≤ to → length s < to → 0 ≡ count_from s k from to
  unfolding count_from
  count_out h l = rw (le-leb from to h, lt-leb to (length s) l)

  module _ (h : from ≤ to) (l : to ≤ length s) (e : ℕ) where
    pub count_in_lem : (to - from) / e * e ≤ length s - from
    count_in_lem =
        let m : (to - from) / e * e ≤ to - from = div-mul-le_self (to - from) e in
        omega arith

    pub count_is_lem : e ≡ body_width k + 1 → (to - from) / e ≡ count_from s k from to
    unfolding count_from
    count_is_lem g = rw (le-leb from to h, le-leb to (length s) l, g)

module _ (k : ℕ) (w : Layout) (h : WidthsAre k w) where
  pub entry_some : w.entry ≡ 0 → ⊥
  entry_some e = omega (arith, h.codes_in)

  pub entry_pos : 0 < w.entry
  entry_pos = omega (arith, h.codes_in)

  pub entry_width : w.entry ≡ body_width k + 1
  entry_width = h.entry_is

pub ruleset for_count_of = (rules, count_back, count_out, count_in_lem, count_is_lem, entry_some, entry_pos, entry_width)
