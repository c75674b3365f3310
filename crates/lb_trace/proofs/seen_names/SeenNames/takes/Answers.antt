-- A name that rises above the last one is new.
use Rattle.std.proofs.Common.{not, sym, ap, ◌∙◌}
use Rattle.lb_trace.proofs.KnownNames.{risen-knows, risen-new}
use Rattle.lb_trace.proofs.seen_names.SeenNames.takes.Goals as goal

pub returns-then-is_above-clause-new : goal.returns-then-is_above-clause-new
returns-then-is_above-clause-new c =
    ap not (sym (risen-new _ _ _ c.requires (sym c.is_above.ensures ∙ c.if-is_above.true)))

pub returns-then-is_above-clause-known : goal.returns-then-is_above-clause-known
returns-then-is_above-clause-known c = λ new row.
    risen-knows _ _ _ _ c.requires (sym c.is_above.ensures ∙ c.if-is_above.true)
