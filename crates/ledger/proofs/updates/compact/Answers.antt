use Rattle.ledger.proofs.GapLaws.{for_compact, gaps_falls, gaps_skip, gaps_gone, gaps_kept}
use borrow.Author.Rules.{rules}
use Rattle.ledger.proofs.updates.compact.Goals as goal

pub loop-r-smaller-in-Less : goal.loop-r-smaller-in-Less
loop-r-smaller-in-Less c =
    gaps_falls _ _ _ _ _ _ _ _ c.loop-r.invariant.1 c.loop-r-test.true _ c.loop-r.invariant.0 _ c.read_slot-s.ensures _ c.stands_to-o.ensures (search rules)

pub loop-r-preserved-in-Less : goal.loop-r-preserved-in-Less
loop-r-preserved-in-Less c = (
  c.slot_before-t-in-Less.ensures,
  gaps_skip _ _ _ _ _ _ _ _ c.loop-r.invariant.1 c.loop-r-test.true _ c.loop-r.invariant.0 _ c.read_slot-s.ensures _ c.stands_to-o.ensures (search rules),
)

pub loop-r-preserved-in-Equal : goal.loop-r-preserved-in-Equal
loop-r-preserved-in-Equal c = (
  c.loop-r.invariant.0,
  gaps_gone _ _ _ _ _ _ _ _ c.loop-r.invariant.1 c.loop-r-test.true _ c.loop-r.invariant.0 _ c.read_slot-s.ensures _ c.stands_to-o.ensures (search rules),
)

pub loop-r-preserved : goal.loop-r-preserved
loop-r-preserved c = (
  c.loop-r.invariant.0,
  gaps_kept _ _ _ _ _ _ _ _ c.loop-r.invariant.1 c.loop-r-test.true _ c.loop-r.invariant.0 _ c.read_slot-s.ensures _ c.stands_to-o.ensures _ (search rules)
      c.write_slot.ensures (search rules),
)

pub returns-clause-value : goal.returns-clause-value
returns-clause-value c = search for_compact

pub returns-clause-ledger_after : goal.returns-clause-ledger_after
returns-clause-ledger_after c = search for_compact
