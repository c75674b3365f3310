-- A column that has the name of no input refuses the header.
use Rattle.std.proofs.Common.{ℕ, ◌<◌, List, [], Bool, length, sym, ap, ◌∙◌, arith}
use Rattle.std.proofs.lemmas.List.Folds.{list_all_at}
use Rattle.std.specs.List.{list_any}
use Rattle.std.specs.Str.{bytes_eq}
use Rattle.csv.specs.Records.{fields_of}
use Rattle.lb_static.specs.Signature.{names_of}
use Rattle.lb_trace.specs.Spelling.{Record, after_first}
use Rattle.lb_trace.proofs.header.has_no_other.Goals as goal

pub returns-then-not-is_named : goal.returns-then-not-is_named
returns-then-not-is_named c =
    let columns : Record = after_first (fields_of c.args.header.now) in
    let is_named : List ℕ → Bool =
    λ column. list_any (bytes_eq column) (names_of c.args.signature.now) in
    let below : c.loop-i.i < length columns = omega (arith, c.width-i-end.ensures) in
    sym (list_all_at is_named columns c.loop-i.i [] below
    (ap is_named (sym c.cell.ensures) ∙ sym c.is_named.ensures ∙ c.if-not-is_named.true))
