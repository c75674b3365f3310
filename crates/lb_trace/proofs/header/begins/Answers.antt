-- The first cell is field 0.
use Rattle.std.proofs.Common.{sym, ◌∙◌, ap}
use Rattle.std.specs.Str.{bytes_eq}
use Rattle.csv.specs.Records.{fields_of}
use Rattle.lb_trace.proofs.Headers.{begins-none, begins-some}
use Rattle.lb_trace.proofs.header.begins.Goals as goal

pub returns-in-Some : goal.returns-in-Some
returns-in-Some c =
    c.eq.ensures ∙ ap (bytes_eq c.in-Some.first.now) c.as_slice.ensures
    ∙ begins-some (fields_of c.args.header.now) c.in-Some.first.now (sym c.in-Some.ensures.value)

pub returns-in-None : goal.returns-in-None
returns-in-None c = begins-none (fields_of c.args.header.now) (sym c.in-None.ensures.value)
