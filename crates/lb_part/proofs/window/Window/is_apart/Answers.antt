use Rattle.std.proofs.Common.{◌∙◌, sym}
use Rattle.lb_part.proofs.WindowNames.{name-from, names-other, names-same}
use Rattle.lb_part.proofs.window.Window.is_apart.Goals as goal

pub returns-clause-same : goal.returns-clause-same
returns-clause-same c =
    λ same more last.
    name-from c.args.self.bytes.now more c.in_ok-last.last.now c.args.before
    (c.in_ok-last.ensures more last)
    ∙ names-same c.ne.result c.in_ok-last.last.now c.in_ok-name.name.now c.ne.ensures same
    ∙ sym (name-from c.args.self.bytes.now more c.in_ok-name.name.now c.args.place
    (c.in_ok-name.ensures more last))

pub returns-clause-other : goal.returns-clause-other
returns-clause-other c =
    λ other more last same.
    names-other c.ne.result c.in_ok-last.last.now c.in_ok-name.name.now c.ne.ensures other
    (sym (name-from c.args.self.bytes.now more c.in_ok-last.last.now c.args.before
    (c.in_ok-last.ensures more last))
    ∙ same
    ∙ name-from c.args.self.bytes.now more c.in_ok-name.name.now c.args.place
    (c.in_ok-name.ensures more last))
