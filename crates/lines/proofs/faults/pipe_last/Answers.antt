use mathlib.Core.Path.{◌≡◌, ◌∙◌}
use mathlib.Core.Bool.{true, false}
use Prim.Native.Nat.{◌-◌}
use native.Mathlib.Omega.{arith}
use lib.Dec.{eqb}
use lib.ListN.{length, get_or}
use Rattle.lines_fields.specs.Lines.{pipe}
use Rattle.lines.proofs.CauseLaws.{last_is}
use Rattle.lines.proofs.faults.pipe_last.Goals as goal

pub returns-in-Some-eq124 : goal.returns-in-Some-eq124
returns-in-Some-eq124 c = e ∙ last_is c.args.text.now
  where
    e : true ≡ eqb (get_or c.args.text.now (length c.args.text.now - 1) 0) pipe
    e = grind arith

pub returns-in_default : goal.returns-in_default
returns-in_default c = e ∙ last_is c.args.text.now
  where
    e : false ≡ eqb (get_or c.args.text.now (length c.args.text.now - 1) 0) pipe
    e = grind arith

pub returns-in_default-2 : goal.returns-in_default-2
returns-in_default-2 c = e ∙ last_is c.args.text.now
  where
    e : false ≡ eqb (get_or c.args.text.now (length c.args.text.now - 1) 0) pipe
    e = grind arith
