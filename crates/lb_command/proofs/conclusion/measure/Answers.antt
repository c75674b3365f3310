use Rattle.std.proofs.Common.{◌≡◌, ◌∙◌, ap, ap₂, subst, sym, map, List, Option, None, Some}
use Rattle.std.specs.Borrow.{Bor}
use Rattle.lb_listing.specs.Compared as differences
use Rattle.lb_listing.specs.Indexed.{listed}
use Rattle.lb_listing.specs.Listings.{line_of}
use Rattle.lb_listing.specs.Verdicts.{status_of}
use Rattle.lb_listing.specs.declared.entry.Entry.{Entry}
use Rattle.lb_listing.specs.declared.listing.Listing.{Listing}
use Rattle.lb_listing.specs.declared.status.Measure.{Measure}
use Rattle.lb_command.specs.Conclusions.{IsBaseline}
use Rattle.lb_command.proofs.Concluding.{compared, measured}
use Rattle.lb_command.proofs.conclusion.measure.Goals as goal

pub returns-in-None : goal.returns-in-None
returns-in-None c =
    let terms = c.args.terms.now in
    let none : terms.baseline ≡ None =
    subst (λ (b : Option (Bor Listing)). IsBaseline terms b) c.in-None.is c.requires.baseline in
    measured terms (listed c.args.now.now) c.status_by.result _ none (record {
      status_is = c.status_by.ensures
          ∙ ap₂ (λ (m : Measure) (es : List Entry). status_of m (map line_of es))
          c.measure_of-by.ensures c.as_slice.ensures.value;
      nothing_said = c.new.ensures.items;
    })

pub returns-in_ok-found-in-Some : goal.returns-in_ok-found-in-Some
returns-in_ok-found-in-Some c =
    let terms = c.args.terms.now in
    let is = subst (λ (b : Option (Bor Listing)). IsBaseline terms b) c.in-Some.is
    c.requires.baseline in
    let found = c.in_ok-found-in-Some.found in
    compared terms (listed c.args.now.now) found.status found.text.items is.0
    (record {
      text = is.2.0;
      before = listed c.in-Some.before.now;
      lists = is.2.1;
      compared = record {
        status_is = c.in_ok-found-in-Some.ensures.status
            ∙ ap (λ (m : Measure). differences.status_of m (listed c.in-Some.before.now)
            (listed c.args.now.now)) c.measure_of-by.ensures;
        differences = c.in_ok-found-in-Some.ensures.text;
      };
    })
