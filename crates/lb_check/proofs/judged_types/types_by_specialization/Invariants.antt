use Rattle.lb_check.proofs.Words.{◌≡◌, drop, first_broken, is_specialization_typed, kept_in}
use Rattle.lb_check.specs.SharedTypes.{AreJudgedParts}
use Rattle.lb_check.proofs.{lists.ListPairs.broken_from, typing.FoundTypes.AreFoundTo}
use Rattle.lb_check.proofs.judged_types.types_by_specialization.Given as goal

abbrev pub invariant-loop-place : goal.invariant-loop-place
invariant-loop-place l =
    let kept = is_specialization_typed l.reached l.table in
    let all = l.specialization-items in
    record {
      first : first_broken kept all ≡ broken_from kept l.place (drop l.place all);
      shared : AreJudgedParts l.reached l.table l.shared.items;
      found : AreFoundTo l.reached l.table all l.place (kept_in l.parts) l.all.items;
    }
