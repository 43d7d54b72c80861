-- The demands, of calls whose promise says that what they answer and leave is the definition's, as the code's does.
-- Assumes nothing.
use mathlib.Core.Path.{◌≡◌, sym, subst}
use Rattle.answers.specs.Answers.{Lent, Outcome, check}
use Rattle.demands.specs.Runs.{Promise}
use Rattle.demands.specs.Demands.{Demand1, Demand2, LedgerAfter, Demands, CodeGives, CodeMeets}
use Rattle.demands.proofs.FileLaws.{demand_1, demand_2, ledger_after_lem}
use Rattle.demands.proofs.RunLaws.{demand_3}

pub meets : (promise : Promise) → ((x : Lent) (o : Outcome) → promise x o → o ≡ check x) → Demands promise
meets promise same =
    record {
      demand_1 = λ x o k. subst (Demand1 x) (sym (same x o k)) (demand_1 x);
      demand_2 = λ x o k. subst (Demand2 x) (sym (same x o k)) (demand_2 x);
      ledger_after_lem = λ x o k. subst (LedgerAfter x) (sym (same x o k)) (ledger_after_lem x);
      demand_3 = demand_3 promise same;
    }

pub code_meets : CodeMeets
code_meets = meets CodeGives (λ x o e. e)
