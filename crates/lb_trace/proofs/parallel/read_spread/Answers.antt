-- The joined traces of the parts are those that a text with their records spells.
use Rattle.std.proofs.Common.{rules, ◌∙◌}
use Rattle.std.proofs.lemmas.Option.{IfSome_then}
use Rattle.csv.specs.Records.{fields_of}
use Rattle.lb_trace.proofs.SpreadReadings.{headed_records, same_signatures, spread_spells}
use Rattle.lb_trace.proofs.parallel.read_spread.Goals as goal

pub joined-requires : goal.joined-requires
joined-requires g c =
    let read = rw c.in-Ok-Ok.field-0-is at c.in-Ok-Ok.ensures in
    same_signatures c.args.signature.now c.in-Ok-Some.begun.table c.deref.result.now
    c.in-Ok-Ok.read.items read

pub returns-clause-spelled : goal.returns-clause-spelled
returns-clause-spelled g c =
    let begun = rw c.in-Ok-Some.field-0-is at c.in-Ok-Some.ensures in
    let read = rw c.in-Ok-Ok.field-0-is at c.in-Ok-Ok.ensures in
    let table = c.in-Ok-Some.begun.table in
    IfSome_then c.joined.result c.joined.ensures (λ set found text short have.
    spread_spells c.args.signature.now table text c.deref.result.now c.in-Ok-Ok.read.items set
    short begun.0
    (headed_records (fields_of table.header) text _ c.in-Ok-Some.begun.rest c.args.parts.now
    c.deref.result.now c.in-len1-up.len_at_least have (c.are_plain.ensures (search rules))
    begun.1 (c.deref.ensures.value ∙ c.in-Ok.ensures))
    read found.0 found.1 found.2)
