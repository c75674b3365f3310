use Rattle.lb_part.proofs.WindowNames.{goes-known}
use Rattle.lb_part.proofs.window.Window.is_cut.Goals as goal

pub returns-in-Some-clause-goes_on : goal.returns-in-Some-clause-goes_on
returns-in-Some-clause-goes_on c =
    goes-known c.args.self.is_last c.args.self.bytes.now c.args.last c.in-Some.before c.args.from
    c.args.place c.is_apart.result c.in-Some.is c.is_apart.ensures.same
