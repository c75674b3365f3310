-- The first part that breaks a rule of clocks, or else of definitions, is found, if one does.
use Rattle.lb_check.proofs.{Words.{false, refl, sym, true, ◌∙◌}, definitions.BrokenRules.all_kept}
use Rattle.lb_check.proofs.definitions.BrokenRules.{broken, by_tests, defined, kept_by, told}
use Rattle.std.proofs.lemmas.Option.{none-some}
use Rattle.lb_check.proofs.checker.judged_clocks.Goals as goal

pub returns-in-Some-clause-answer : goal.returns-in-Some-clause-answer
returns-in-Some-clause-answer c = λ P j typed.
    let o = c.in_ok-program.program.broken in (
      by_tests P true false (defined P) typed
          (broken o c.in-Some.found _ (c.in_ok-program.ensures.judged P j typed) c.in-Some.is) refl,
      told o c.in-Some.found _ (c.in_ok-program.ensures.named P j typed) c.in-Some.is,
    )

pub returns-in-Some-2-clause-answer : goal.returns-in-Some-2-clause-answer
returns-in-Some-2-clause-answer c = λ P j typed.
    let clocked = kept_by c.in_ok-program.program.broken _
    (c.in_ok-program.ensures.judged P j typed) c.in_default.not-Some in
    let o = c.in_ok-found.field-0 in (
      by_tests P true true false typed clocked
          (broken o c.in-Some-2.found _ (c.in_ok-found.ensures.judged P j) c.in-Some-2.is),
      told o c.in-Some-2.found _ (c.in_ok-found.ensures.named P j) c.in-Some-2.is,
    )

pub returns-in-None-clause-answer : goal.returns-in-None-clause-answer
returns-in-None-clause-answer c = λ P j typed.
    let clocked = kept_by c.in_ok-program.program.broken _
    (c.in_ok-program.ensures.judged P j typed) c.in_default.not-Some in
    all_kept P typed clocked (kept_by c.in_ok-found.field-0 _ (c.in_ok-found.ensures.judged P j)
    (λ x e. none-some x (sym c.in-None.is ∙ e)))

pub returns-in-None-clause-clocks : goal.returns-in-None-clause-clocks
returns-in-None-clause-clocks c = c.in_ok-program.ensures.placed
