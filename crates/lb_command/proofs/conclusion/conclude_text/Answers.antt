use Rattle.std.proofs.Common.{subst}
use Rattle.std.proofs.lemmas.Result.{IfOk-weaker}
use Rattle.lb_listing.specs.Indexed.{listed}
use Rattle.lb_listing.specs.Listings.{IsRefused}
use Rattle.lb_listing.specs.declared.read.ListingError.{ListingError}
use Rattle.lb_command.proofs.conclusion.conclude_text.Goals as goal

pub returns-in-Ok : goal.returns-in-Ok
returns-in-Ok c =
    IfOk-weaker c.conclude_listing.result _ _
    (λ found told. (listed c.in-Ok.now, c.in-Ok.ensures.lists, told))
    c.conclude_listing.ensures

pub unreachable-requires : goal.unreachable-requires
unreachable-requires c =
    let fault = subst (λ (e : ListingError). IsRefused c.args.report.now e)
    c.in-Err-Fault.field-0-is c.in-Err-Fault.ensures.refused in
    fault.no_report c.requires.lists.0 c.requires.lists.1
