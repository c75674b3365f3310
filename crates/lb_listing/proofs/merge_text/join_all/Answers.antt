use Rattle.std.proofs.Common.{map}
use Rattle.lb_listing.specs.Listings.{line_of}
use Rattle.lb_listing.proofs.Merging.{few_lines}
use Rattle.lb_listing.proofs.merge_text.join_all.Goals as goal

pub returns-clause-ok : goal.returns-clause-ok
returns-clause-ok c = record {
  listed = map line_of c.in_ok-joined.joined.entries.items;
  lines = c.in_ok-joined.joined.text.items;
  joined = c.in_ok-joined.ensures.ok;
  few = few_lines c.in_ok-joined.joined.entries;
  whole = c.in_ok-push_last.ensures.text;
}
