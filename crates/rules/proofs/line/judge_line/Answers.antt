use mathlib.Core.Path.{◌≡◌}
use Rattle.lines_fields.specs.Marks.{marked_count}
use Rattle.rules.specs.Fields.{last_of}
use borrow.Author.Rules.{rules}
use Rattle.rules.proofs.LineNeeds.{for_judge_line}
use Rattle.rules.proofs.line.judge_line.Goals as goal

pub judge_fields-requires-clause-last_bound : goal.judge_fields-requires-clause-last_bound
judge_fields-requires-clause-last_bound c = search for_judge_line

pub judge_fields-requires-in-5-clause-last_bound :
    goal.judge_fields-requires-in-5-clause-last_bound
judge_fields-requires-in-5-clause-last_bound c = search for_judge_line

pub judge_fields-requires-in-6-clause-last_bound :
    goal.judge_fields-requires-in-6-clause-last_bound
judge_fields-requires-in-6-clause-last_bound c = search for_judge_line

pub judge_fields-requires-in-7-clause-last_bound :
    goal.judge_fields-requires-in-7-clause-last_bound
judge_fields-requires-in-7-clause-last_bound c = search for_judge_line

pub returns-in-4 : goal.returns-in-4
returns-in-4 c =
    let e : c.last_of-last.result ≡ last_of c.args.here.kind (marked_count c.args.marks.now) = cc in
    c.judge_fields.ensures.line_is _ _ _ _ e (λ f b l p. search rules)

pub returns-in-5 : goal.returns-in-5
returns-in-5 c =
    let e : c.last_of-last.result ≡ last_of c.args.here.kind (marked_count c.args.marks.now) = cc in
    c.judge_fields-in-5.ensures.line_is _ _ _ _ e (λ f b l p. search rules)

pub returns-in-6 : goal.returns-in-6
returns-in-6 c =
    let e : c.last_of-last.result ≡ last_of c.args.here.kind (marked_count c.args.marks.now) = cc in
    c.judge_fields-in-6.ensures.line_is _ _ _ _ e (λ f b l p. search rules)

pub returns-in-7 : goal.returns-in-7
returns-in-7 c =
    let e : c.last_of-last.result ≡ last_of c.args.here.kind (marked_count c.args.marks.now) = cc in
    c.judge_fields-in-7.ensures.line_is _ _ _ _ e (λ f b l p. search rules)

pub returns-in_default : goal.returns-in_default
returns-in_default c = search for_judge_line
