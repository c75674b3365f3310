use Rattle.lb_feed.proofs.placed.FilePlacesPlacedFile.read_at.Goals as goal

-- no more bytes come than the buffer has room for
pub returns-in-Ok-clause-within : goal.returns-in-Ok-clause-within
returns-in-Ok-clause-within g c = c.in-Ok.ensures.bound.0
