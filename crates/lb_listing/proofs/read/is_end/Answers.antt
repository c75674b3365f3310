use Rattle.std.proofs.Common.{◌≡◌, ◌++◌, List, ℕ, sym, ◌∙◌, ap, map}
use Rattle.lb_listing.specs.Indexed.{listed}
use Rattle.lb_listing.specs.Listings.{line_of, total_of}
use Rattle.lb_listing.specs.declared.entry.Entry.{Entry}
use Rattle.lb_listing.proofs.read.is_end.Goals as goal

pub returns : goal.returns
returns c =
    let last = total_of (map line_of c.as_slice.result.now) in
    let grown : c.push_total.new.text.items ≡ c.new-total.result.items ++ last =
    c.in_ok-push_total.ensures in
    let total : c.as_slice-2.result.now ≡ total_of (listed c.args.listing.now) =
    c.as_slice-2.ensures.value ∙ grown
    ∙ ap (λ (text : List ℕ). text ++ last) c.new-total.ensures.items
    ∙ ap (λ (es : List Entry). total_of (map line_of es)) c.as_slice.ensures.value in
    (λ yes. c.is_text.ensures.0 yes ∙ total, λ e. c.is_text.ensures.1 (e ∙ sym total))
