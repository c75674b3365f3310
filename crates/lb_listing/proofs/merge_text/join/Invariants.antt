use Rattle.std.proofs.Common.{map, take}
use Rattle.lb_listing.specs.Listings.{line_of}
use Rattle.lb_listing.specs.Merged.{AreJoined, texts_of}
use Rattle.lb_listing.proofs.merge_text.join.Given as goal

abbrev pub invariant-loop-file : goal.invariant-loop-file
invariant-loop-file l =
    AreJoined (texts_of (take l.file l.texts)) (map line_of l.joined.entries.items)
    l.joined.text.items
