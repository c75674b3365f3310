-- The filled part is the bytes that came so far.
use Rattle.std.proofs.Common.{◌+◌, ◌≡◌, arith, subst, take}
use Rattle.std.specs.Io.KnownBytes.{Consumes}
use Rattle.lb_feed.specs.PlacedFiles.{told_from}
use Rattle.lb_feed.proofs.FeedBytes.{Consumes-filled}
use Rattle.lb_feed.proofs.PlacedFiles.{told_none}
use Rattle.lb_feed.proofs.placed.bytes_from.Goals as goal

pub reads-init : goal.reads-init
reads-init g c = record {
  within = omega arith;
  most = omega (arith, c.in-Ok.ensures.len);
  came = told_none (g.F.PlacedFile.bytes c.args.file.now) c.args.place;
}

pub reads-preserved : goal.reads-preserved
reads-preserved g c =
    let before = c.reads.invariant in
    let read = c.in-Ok-read_behind.ensures in
    let bytes = g.F.PlacedFile.bytes c.args.file.now in
    let place = c.args.place in
    let filled = c.reads.filled in
    let count = c.in-Ok-read_behind.count in
    let on : place + filled + count ≡ place + (filled + count) = omega arith in
    let more = take (filled + count) c.read_behind.new.bytes.items in
    record {
      within = read.within;
      most = omega (arith, read.long, before.most);
      came = subst (λ n. Consumes (told_from place bytes) (told_from n bytes) more) on
          (Consumes-filled _ _ _ c.reads.bytes.items _ filled count before.came read.front
          read.next);
    }
