use Rattle.std.proofs.Common.{Option, Some, None}
use Rattle.std.specs.Prelude.{IfSome}
use Rattle.lb_trace.proofs.ShortCells.{integers-long}
use Rattle.lb_trace.proofs.numbers.four_numbers.Goals as goal

-- what holds of each value of an option holds of the one that there is
of-some : {A : Type 0} (o : Option A) {P Q : A → Type 0} → ((a : A) → P a → Q a) → IfSome o P
    → IfSome o Q
of-some None more given = tt
of-some (Some a) more given = more a given

pub returns : goal.returns
returns c =
    let columns = c.args.columns.now in
    let ints = c.are_integers.ensures c.if-not-are_integers.false in
    of-some c.four_in.result
    (λ found each. (integers-long columns ints, each columns ints)) c.four_in.ensures
