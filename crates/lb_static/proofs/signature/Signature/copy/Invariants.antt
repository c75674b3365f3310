use Rattle.std.proofs.Common.{◌≡◌, take, map, string_bytes}
use Rattle.lb_static.proofs.signature.Signature.copy.Given as goal

abbrev pub invariant-loop-element : goal.invariant-loop-element
invariant-loop-element l =
    l.copied ≡ map (λ e. (string_bytes e.name, e.kind)) (take l.element-index l.element-items)
