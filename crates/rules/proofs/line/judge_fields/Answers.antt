use native.Mathlib.Omega.{arith}
use Prim.Native.Nat.{◌≤◌, ◌<◌}
use Rattle.rules.proofs.LineNeeds.{for_judge_fields, run_on, run_end}
use Rattle.rules.proofs.line.judge_fields.Goals as goal

pub loop-f-init : goal.loop-f-init
loop-f-init g c = search for_judge_fields

pub emit-c-requires : goal.emit-c-requires
emit-c-requires g c = search for_judge_fields

pub loop-f-preserved : goal.loop-f-preserved
loop-f-preserved g c =
    let i : c.loop-f.f ≤ c.args.last = omega arith in
    run_on _ _ _ _ _ _ _ _ c.loop-f.invariant i c.requires.last_bound c.requires.not_ip _ _ _ c.judge-b.ensures c.emit-c.ensures.area_after c.emit-c.ensures.upper_bound c.emit-c.auto.area

pub returns : goal.returns
returns g c =
    let i : c.args.last < c.loop-f.f = omega arith in
    run_end _ _ _ _ _ _ _ _ c.loop-f.invariant i
