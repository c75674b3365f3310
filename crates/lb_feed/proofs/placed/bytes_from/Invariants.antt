use Rattle.std.proofs.Common.{◌≤◌, ◌+◌, ◌-◌, take, vec_len}
use Rattle.std.specs.Io.KnownBytes.{Consumes}
use Rattle.lb_feed.specs.PlacedFiles.{told_from}
use Rattle.lb_feed.proofs.placed.bytes_from.Given as goal

abbrev pub invariant-reads : goal.invariant-reads
invariant-reads g l = record {
  within : l.filled ≤ vec_len l.bytes;
  most : vec_len l.bytes ≤ l.most;
  came : Consumes (told_from l.place (g.F.PlacedFile.bytes l.file))
      (told_from (l.place + l.filled) (g.F.PlacedFile.bytes l.file))
      (take l.filled l.bytes.items);
}

abbrev pub decreases-reads : goal.decreases-reads
decreases-reads g l = vec_len l.bytes - l.filled
