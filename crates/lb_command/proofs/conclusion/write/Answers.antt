use Rattle.std.proofs.Common.{◌∙◌, ap, List, map, sym}
use Rattle.std.proofs.lemmas.Result.{IfOk-weaker}
use Rattle.lb_listing.specs.Indexed.{listed}
use Rattle.lb_listing.specs.Junit.{junit_of}
use Rattle.lb_listing.specs.Listings.{line_of}
use Rattle.lb_listing.specs.declared.entry.Entry.{Entry}
use Rattle.lb_words.specs.declared.terms.Format.{Format}
use Rattle.lb_command.specs.Conclusions.{written}
use Rattle.lb_command.proofs.conclusion.write.Goals as goal

pub returns-in-Junit : goal.returns-in-Junit
returns-in-Junit c =
    let node = c.args.node.now in
    let remarks = c.args.remarks.now in
    IfOk-weaker c.junit.result _ _
    (λ text is. is
    ∙ ap (λ (es : List Entry). junit_of node (map line_of es) remarks) c.as_slice.ensures.value
    ∙ ap (λ (f : Format). written f node remarks (listed c.args.now.now)) (sym c.in-Junit.is))
    c.junit.ensures
