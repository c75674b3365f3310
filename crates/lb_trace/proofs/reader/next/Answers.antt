-- A read gives the next record, or there is none.
use Rattle.csv.specs.Records.{fields_of}
use Rattle.lb_trace.proofs.Readings.{goes}
use Rattle.lb_trace.proofs.reader.next.Goals as goal

pub returns-clause-goes : goal.returns-clause-goes
returns-clause-goes c =
    λ text records at. goes text records c.args.reader.now c.read_byte_record.new.self
    (fields_of c.read_byte_record.new.row) c.in-Ok.found at
    (c.in-Ok.ensures.reads at.plain at.ready) (c.in-Ok.ensures.ready at.plain)
