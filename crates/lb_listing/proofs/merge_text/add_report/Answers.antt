use Rattle.std.proofs.Common.{◌∙◌, ◌++◌, List, ℕ, ap, map, sym}
use Rattle.std.proofs.lemmas.Result.{on_ok_weaker}
use Rattle.lb_listing.specs.Listings.{line_of}
use Rattle.lb_listing.proofs.Counts.{lines_flat}
use Rattle.lb_listing.proofs.merge_text.add_report.Goals as goal

pub returns-clause-text : goal.returns-clause-text
returns-clause-text c =
    on_ok_weaker c.push_lines.result
    (λ grew. grew ∙ ap (λ (text : List ℕ). c.args.joined.now.text.items ++ text)
    (sym (lines_flat (map line_of c.args.entries.now))))
    c.push_lines.ensures
