use Rattle.std.proofs.lemmas.Result.{IfOk-weaker}
use Rattle.lb_words.proofs.Words.{faults_are, lawful, values_are}
use Rattle.lb_words.proofs.request.parse.Goals as goal

pub returns-clause-ok : goal.returns-clause-ok
returns-clause-ok c =
    IfOk-weaker c.try_get_matches_from.result _ _ (λ m has. values_are _ _ m c.requires has)
    c.try_get_matches_from.ensures.matches

pub returns-clause-err : goal.returns-clause-err
returns-clause-err c =
    faults_are _ _ c.try_get_matches_from.result c.requires c.try_get_matches_from.ensures.kinds

pub returns-clause-lawful : goal.returns-clause-lawful
returns-clause-lawful c =
    lawful _ _ c.try_get_matches_from.result c.requires c.try_get_matches_from.ensures.kinds
