-- The bytes of a read are the front of the bytes that were left.
use Rattle.std.proofs.Common.{◌≡◌, ◌+◌, ◌-◌, ◌≤◌, ◌++◌, arith, drop, length, subst, sym, take}
use Rattle.std.proofs.Math.Seq.{take-append-le}
use Rattle.std.proofs.lemmas.List.{length-take, length-take-le}
use Rattle.std.specs.Io.KnownBytes.{Consumes}
use Rattle.lb_feed.specs.PlacedFiles.{told_between}
use Rattle.lb_feed.proofs.PlacedFiles.{read_between}
use Rattle.lb_feed.proofs.range_feed.RangeFeedFeed.read.Goals as goal

pub returns-in-Ok-clause-next : goal.returns-in-Ok-clause-next
returns-in-Ok-clause-next g c =
    let bytes = g.F.PlacedFile.bytes c.args.self.now.file.now in
    let at = c.args.self.now.at in
    let past = c.args.self.now.past in
    let count = c.in-Ok.count in
    let read = c.read_at.new.buffer in
    let fits : count ≤ length read = c.in-Ok.ensures.within in
    let front : take count (read ++ drop c.min-left.result c.args.buffer.now) ≡ take count read =
    take-append-le count read _ fits in
    let within : count ≤ past - at =
    omega (
      arith,
      fits,
      c.read_at.auto.buffer,
      length-take c.min-left.result c.args.buffer.now,
      c.min-left.ensures,
    ) in
    subst (Consumes (told_between at past bytes) (told_between (at + count) past bytes))
    (sym front)
    (read_between bytes at past count (take count read) (length-take-le count read fits) within
    c.in-Ok.ensures.next)
