-- Halving: how a look-up among rows that stand in order goes, whatever the rows hold. The laws of each look-up say what it finds where they ascend.
-- Assumes nothing.
use Rattle.std.specs.Prelude.{ℕ, zero, suc, ◌+◌, ◌-◌, ◌/◌, cond, ltb}
use Rattle.std.specs.declared.cmp.Ordering.{Ordering}
use Rattle.std.specs.declared.cmp.Ordering.TheVariants.{Less, Equal, Greater}

module _ {B : Type 0} where
  abbrev pub by_order : Ordering → B → B → B → B
  by_order Less l s m = l
  by_order Equal l s m = s
  by_order Greater l s m = m

  -- rows lo to hi, fuel many at most: row i stands below what is sought, is it, and so gives place i, or stands above it; none where there
  -- are no rows
  unfoldable pub binary_search : (ℕ → Ordering) → (ℕ → B) → B → ℕ → ℕ → ℕ → B
  binary_search row place none zero lo hi = none
  binary_search row place none (suc fuel) lo hi =
      cond (ltb lo hi)
      (by_order (row (lo + (hi - lo) / 2)) (binary_search row place none fuel (lo + (hi - lo) / 2 + 1) hi) (place (lo + (hi - lo) / 2))
      (binary_search row place none fuel lo (lo + (hi - lo) / 2)))
      none
