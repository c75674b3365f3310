use Rattle.lb_trace.proofs.loaded.ChunkReader.read_round.Goals as goal

pub returns : goal.returns
returns g c = rw c.in-Ok-Ok.field-0-is at c.in-Ok-Ok.ensures
