use Rattle.lb_sim.proofs.emit.of_kind.Goals as goal

pub returns-in-Truth-Int-clause-within : goal.returns-in-Truth-Int-clause-within
returns-in-Truth-Int-clause-within c = λ code i. c.nothing.ensures.within code

pub returns-in-Number-Bool-clause-within : goal.returns-in-Number-Bool-clause-within
returns-in-Number-Bool-clause-within c = λ code i. c.nothing-in-Number-Bool.ensures.within code
