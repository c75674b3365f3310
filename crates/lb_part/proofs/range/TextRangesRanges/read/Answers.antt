use Rattle.std.proofs.Common.{length}
use Rattle.lb_part.proofs.ReadRanges.{range-copied}
use Rattle.lb_part.proofs.range.TextRangesRanges.read.Goals as goal

pub returns : goal.returns
returns c =
    λ all known.
    range-copied c.args.self.now.text.now all c.copy_from_slice.new.self c.args.from
    (length c.args.buffer.now) (cc known) c.if-from-self.false c.if-buffer-self.false
    c.copy_from_slice.ensures.after
