use Rattle.std.proofs.Common.{refl}
use Rattle.lb_trace.specs.Plain.{plain_records}
use Rattle.lb_trace.proofs.SpreadReadings.{part_read}
use Rattle.lb_trace.proofs.parallel.read_part.Goals as goal

pub returns : goal.returns
returns c = (
  part_read c.args.signature.now c.args.table.now (plain_records c.args.part.now)
      c.in-Ok.recorder.rows c.add_lines.new.self.rows c.add_lines.new.self.rows
      c.in-Ok.ensures.rows c.in_ok-add_lines.ensures.ok c.in_ok-add_lines.ensures.signature refl,
  c.in_ok-add_lines.ensures.names,
)
