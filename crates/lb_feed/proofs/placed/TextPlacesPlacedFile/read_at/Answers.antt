use Rattle.std.proofs.Common.{arith}
use Rattle.lb_feed.proofs.PlacedTexts.{copied_next}
use Rattle.lb_feed.proofs.placed.TextPlacesPlacedFile.read_at.Goals as goal

pub returns-clause-next : goal.returns-clause-next
returns-clause-next c =
    copied_next c.args.self.now.text.now c.args.buffer.now c.copy_from_slice.new.self c.args.place
    c.min-count.result c.copy_from_slice.ensures.after (omega (arith, c.min-count.ensures))
