use Rattle.std.proofs.Common.{arith, refl, sym, Some, None, ◌+◌, ◌-◌, ◌/◌}
use Rattle.std.specs.declared.cmp.Ordering.TheVariants.{Less, Equal, Greater}
use Rattle.house.proofs.SearchLaws.{halves_end, turn_up, turn_down, turn_hit}
use Rattle.lines_words.proofs.search.search_by.Goals as goal

pub loop-lo-preserved-in-Less : goal.loop-lo-preserved-in-Less
loop-lo-preserved-in-Less g c =
    record {
      within = c.loop-lo.invariant.within;
      left = λ stands told. turn_up stands Some None _ c.loop-lo.lo c.loop-lo.hi (c.loop-lo.invariant.left stands told) (omega arith) Less
          (sym (told (c.loop-lo.lo + (c.loop-lo.hi - c.loop-lo.lo) / 2) Less (omega arith) c.in-Less.ensures)) refl;
    }

pub loop-lo-preserved : goal.loop-lo-preserved
loop-lo-preserved g c =
    record {
      within = omega arith;
      left = λ stands told. turn_down stands Some None _ c.loop-lo.lo c.loop-lo.hi (c.loop-lo.invariant.left stands told) (omega arith) Greater
          (sym (told (c.loop-lo.lo + (c.loop-lo.hi - c.loop-lo.lo) / 2) Greater (omega arith) c.in-Greater.ensures)) refl;
    }

pub returns-in-Equal-clause-halved : goal.returns-in-Equal-clause-halved
returns-in-Equal-clause-halved g c = λ stands told.
    turn_hit stands Some None _ c.loop-lo.lo c.loop-lo.hi (c.loop-lo.invariant.left stands told) (omega arith) Equal
    (sym (told (c.loop-lo.lo + (c.loop-lo.hi - c.loop-lo.lo) / 2) Equal (omega arith) c.in-Equal.ensures)) refl

pub returns-clause-halved : goal.returns-clause-halved
returns-clause-halved g c = λ stands told. halves_end stands Some None _ c.loop-lo.lo c.loop-lo.hi (c.loop-lo.invariant.left stands told) (omega arith)
