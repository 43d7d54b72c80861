use Rattle.std.proofs.Common.{◌≡◌, ℕ, ◌<◌, ◌≤◌, ◌-◌, Some, None}
use Rattle.std.specs.declared.cmp.Ordering.{Ordering}
use Rattle.house.specs.Search.{binary_search}
use Rattle.house.proofs.SearchLaws.{Halves}
use Rattle.lines_words.proofs.search.search_by.Given as goal

abbrev pub invariant-loop-lo : goal.invariant-loop-lo
invariant-loop-lo g l =
    record {
      within : l.hi ≤ l.n;
      left : (stands : ℕ → Ordering) → ((i : ℕ) (o : Ordering) → i < l.n → goal.F-post g l.row i o → o ≡ stands i) → Halves stands Some None (binary_search stands Some None l.n 0 l.n) l.lo l.hi;
    }

abbrev pub decreases-loop-lo : goal.decreases-loop-lo
decreases-loop-lo g l = l.hi - l.lo
