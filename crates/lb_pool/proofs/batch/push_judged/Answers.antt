-- One more trace has been judged.
use Rattle.std.proofs.Common.{◌≡◌, ◌++◌, ◌∷◌, [], ◌<◌, List, ℕ, length, get_or, take, sym, ap, ◌∙◌}
use Rattle.std.proofs.Common.{subst, arith, append_assoc}
use Rattle.std.proofs.lemmas.List.{map-append, take_more, take_all}
use Rattle.std.proofs.lemmas.List.Elements.{All-push}
use Rattle.lb_check.specs.declared.verdict.Verdict.TheVariants.{Passed}
use Rattle.lb_pool.specs.declared.batch.Judged.{Judged}
use Rattle.lb_pool.specs.Runs.{IsJudgedTrace, AreJudged, numbers_of}
use Rattle.lb_pool.proofs.batch.push_judged.Goals as goal

pub loop-j-preserved : goal.loop-j-preserved
loop-j-preserved c =
    let work = c.args.work.now in
    let p = work.program.now.program.now in
    let r = work.set.now in
    let members = c.args.members.now in
    let j = c.loop-j.j in
    let inside : j < length members = omega (arith, c.loop-j-test.true) in
    let before = c.loop-j.judged.items in
    let trace : ℕ = get_or members j 0 in
    let judged : Judged = record { trace = trace; verdict = get_or c.args.verdicts.now j Passed } in
    let pushed : c.push.new.self.items ≡ before ++ judged ∷ [] = c.in_ok-push.ensures.items in
    let is_judged : IsJudgedTrace p r judged = record {
      is_trace = c.requires.within j 0 inside;
      is_verdict = c.requires.found j inside;
    } in (
      ap numbers_of pushed
          ∙ map-append (λ (j : Judged). j.trace) before (judged ∷ [])
          ∙ ap (λ (l : List ℕ). l ++ trace ∷ []) c.loop-j.invariant.0
          ∙ append_assoc (numbers_of c.args.judged.now.items) (take j members) (trace ∷ [])
          ∙ ap (λ (l : List ℕ). numbers_of c.args.judged.now.items ++ l)
          (sym (take_more members j 0 inside)),
      subst (AreJudged p r) (sym pushed)
          (All-push (IsJudgedTrace p r) before judged c.loop-j.invariant.1 is_judged),
    )

pub returns-clause-numbers : goal.returns-clause-numbers
returns-clause-numbers c =
    let members = c.args.members.now in
    let old = numbers_of c.args.judged.now.items in
    let all = take_all c.loop-j.j members (omega (arith, c.loop-j-test.false)) in
    c.loop-j.invariant.0 ∙ ap (λ (l : List ℕ). old ++ l) all
