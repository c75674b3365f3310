use Rattle.std.proofs.Common.{arith, length, refl, take, ◌≡◌}
use Rattle.std.proofs.lemmas.Slice.Eq.{bytes_eq-Decides}
use Rattle.std.specs.Str.{bytes_eq}
use Rattle.lb_trace.proofs.Nexts.{name-first, not-other}
use Rattle.lb_trace.proofs.record_name.cell_of_name.Goals as goal

pub returns : goal.returns
returns c =
    let name = c.args.name.now in
    let text = c.args.text.now in
    let same : take (length name) text ≡ name =
    (bytes_eq-Decides (take (length name) text) name).0
    (not-other (bytes_eq (take (length name) text) name) c.if-ne.ensures) in
    name-first _ _ _ c.requires refl (omega (arith, c.if-text-count.false)) same
    c.if-text-count-ne44.false
