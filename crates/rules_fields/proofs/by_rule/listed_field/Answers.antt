use mathlib.Core.Path.{refl}
use Rattle.std.proofs.lemmas.Fn.{says_at}
use Rattle.rules_fields.proofs.RecordNeeds.{for_listed}
use Rattle.rules_fields.proofs.by_rule.listed_field.Goals as goal

pub returns-then-r-ne0 : goal.returns-then-r-ne0
returns-then-r-ne0 g c = λ known h. search for_listed

pub returns-then-t-eq0 : goal.returns-then-t-eq0
returns-then-t-eq0 g c = λ known h. search for_listed

pub returns-then-is_listed : goal.returns-then-is_listed
returns-then-is_listed g c = λ known h. let e = h _ (says_at g.F.Fn c.is_listed.ensures refl) in search for_listed

pub returns : goal.returns
returns g c = λ known h. let e = h _ (says_at g.F.Fn c.is_listed.ensures refl) in search for_listed
