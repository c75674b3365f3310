-- The names and verdicts of one part, and then those of another.
use Rattle.std.proofs.Common.{◌∙◌, ◌++◌, List, ap, subst, sym}
use Rattle.lb_check.specs.declared.verdict.Verdict.{Verdict}
use Rattle.lb_pool.specs.Correct.{AreVerdicts}
use Rattle.lb_pool.proofs.JoinedVerdicts.{joined_verdicts}
use Rattle.lb_report.proofs.rounds.Judged.append.Goals as goal

pub returns-clause-ok : goal.returns-clause-ok
returns-clause-ok c = λ p elements some others one two.
    let before = c.args.self.verdicts.items in
    let all = c.in-Ok.ensures.items
    ∙ ap (λ (vs : List Verdict). before ++ vs) c.as_slice.ensures.value in
    record {
      names = c.in_ok-roll.ensures.ok elements some others one.names two.names;
      verdicts = subst (λ (vs : List Verdict). AreVerdicts p record {
        signature = elements;
        traces = some ++ others;
      } vs) (sym all)
          (joined_verdicts p elements some others before c.args.more.now.verdicts.items
          one.verdicts two.verdicts);
    }
