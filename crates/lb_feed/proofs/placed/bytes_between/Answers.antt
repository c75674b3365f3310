-- As many bytes were read as there are between the places.
use Rattle.std.proofs.Common.{◌≡◌, ◌-◌, arith, length}
use Rattle.lb_feed.proofs.PlacedFiles.{read_whole}
use Rattle.lb_feed.proofs.placed.bytes_between.Goals as goal

pub returns : goal.returns
returns g c =
    let bytes = g.F.PlacedFile.bytes c.args.file.now in
    let read = c.in_ok-bytes.bytes in
    let long : length read.items ≡ c.args.past - c.args.start =
    omega (arith, c.in_ok-bytes.ensures.within) in
    read_whole bytes c.args.start c.args.past _ read.items long c.in_ok-bytes.ensures.next
