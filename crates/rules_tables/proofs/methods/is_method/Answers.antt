use Rattle.rules_tables.proofs.CaseNeeds.{method_listed}
use Rattle.rules_tables.proofs.methods.is_method.Goals as goal

pub returns : goal.returns
returns c =
    method_listed _ _
    (rw (
      c.same-10.ensures,
      c.same-9.ensures,
      c.same-8.ensures,
      c.same-7.ensures,
      c.same-6.ensures,
      c.same-5.ensures,
      c.same-4.ensures,
      c.same-3.ensures,
      c.same-2.ensures,
      c.same.ensures,
    ))
