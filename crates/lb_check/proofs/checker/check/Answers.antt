-- The answer is the broken rule that is found; else what is found of clocks and types is kept.
use Rattle.lb_check.proofs.{Words.{elaborated_program, subst}, clocking.FoundClocks.found_here}
use Rattle.lb_check.proofs.definitions.BrokenRules.{judged, judged_here}
use Rattle.lb_check.{proofs.typing.FoundTypes.types_here, specs.Correct.IsFirstBroken}
use Rattle.{lb_check.specs.PlacedTypes.AreFound, std.proofs.lemmas.Result.IfOk-at_ok}
use Rattle.lb_check.proofs.checker.check.Goals as goal

pub new-requires : goal.new-requires
new-requires c =
    let P = elaborated_program c.args.elab in
    let here = judged_here c.args.elab c.reached.result.now c.table.result.now
    c.reached.ensures.lawful c.reached.ensures.value c.table.ensures.value in
    let kept = rw c.in-Ok.is at (c.in_ok-found.ensures.answer P here) in
    let types = IfOk-at_ok _ c.in-Ok.is c.in_ok-found.ensures.types in
    record {
      elaborated = c.reached.ensures.lawful;
      accepted = kept;
      clocks =
          found_here c.args.elab c.reached.result.now c.in-Ok.found.clocks.items
          c.reached.ensures.lawful c.reached.ensures.value kept
          (IfOk-at_ok _ c.in-Ok.is c.in_ok-found.ensures.clocks);
      types =
          types_here P c.args.elab.reached c.args.elab.table
          (judged P c.args.elab c.reached.ensures.lawful) c.in-Ok.found.types
          (subst (λ r. AreFound r c.args.elab.table c.in-Ok.found.types) c.reached.ensures.value
          (subst (λ t. AreFound c.reached.result.now t c.in-Ok.found.types)
          c.table.ensures.value types));
    }

pub returns-in-Ok-clause-answer : goal.returns-in-Ok-clause-answer
returns-in-Ok-clause-answer c =
    rw c.in-Ok.is at (c.in_ok-found.ensures.answer (elaborated_program c.args.elab)
    (judged_here c.args.elab c.reached.result.now c.table.result.now c.reached.ensures.lawful
    c.reached.ensures.value c.table.ensures.value))

pub returns-in-Err-clause-answer : goal.returns-in-Err-clause-answer
returns-in-Err-clause-answer c =
    let P = elaborated_program c.args.elab in
    subst (λ r. IsFirstBroken P r c.in-Err.broken) c.reached.ensures.value
    (rw c.in-Err.is at (c.in_ok-found.ensures.answer P
    (judged_here c.args.elab c.reached.result.now c.table.result.now c.reached.ensures.lawful
    c.reached.ensures.value c.table.ensures.value)))
