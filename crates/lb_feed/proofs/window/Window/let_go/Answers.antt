use Rattle.lb_feed.proofs.WindowTexts.{without_first}
use Rattle.lb_feed.proofs.window.Window.let_go.Goals as goal

pub returns-clause-rest : goal.returns-clause-rest
returns-clause-rest c =
    let w = c.args.self.now in
    without_first w.bytes.items w.start w.end c.args.count c.requires.count
