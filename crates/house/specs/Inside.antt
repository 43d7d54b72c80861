-- What the crate's own functions answer. No public contract rests on this page.
-- Assumes nothing.
use Rattle.std.specs.Prelude.{ℕ, Bool, true, cond, ◌&&◌, [], ◌∷◌, eqb, ltb}
use Rattle.std.specs.declared.cmp.Ordering.{Ordering}
use Rattle.std.specs.declared.cmp.Ordering.TheVariants.{Less, Equal, Greater}
use Rattle.house.specs.Text.{Text, is_blank}
use Rattle.house.specs.Search.{by_order}

-- 1 where a byte is a blank and the next is none
unfoldable pub rises_at : ℕ → ℕ → ℕ
rises_at a b = cond (is_blank a) (cond (is_blank b) 0 1) 0

-- the byte before these is no blank, or the first of them is one
abbrev pub stays_at : ℕ → Text → Bool
stays_at a [] = true
stays_at a (b ∷ t) = eqb (rises_at a b) 0

-- only blanks follow a blank
unfoldable pub no_rise : Text → Bool
no_rise [] = true
no_rise (a ∷ t) = stays_at a t && no_rise t

-- how one number stands to another
abbrev pub number_order : ℕ → ℕ → Ordering
number_order m n = cond (ltb m n) Less (cond (ltb n m) Greater Equal)

-- how two texts stand at the first place of both where they differ, if there is one
unfoldable pub front_order : Text → Text → Ordering
front_order [] b = Equal
front_order (x ∷ a) [] = Equal
front_order (x ∷ a) (y ∷ b) = by_order (number_order x y) Less (front_order a b) Greater

-- how a text stands to blanks
unfoldable pub blanks_order : Text → Ordering
blanks_order [] = Equal
blanks_order (x ∷ a) = by_order (number_order x 32) Less (blanks_order a) Greater
