use Rattle.std.proofs.Common.{◌≡◌, ◌≢◌, ◌++◌, ◌+◌, List, ℕ, ◌∙◌, ap, length}
use Rattle.std.proofs.Common.{true, false, None}
use Rattle.std.specs.Prelude.{IsSome}
use Rattle.lb_listing.specs.Indexed.{listed}
use Rattle.lb_listing.specs.Listings.{line_of, lines_of, report, total_of}
use Rattle.lb_listing.specs.Listings.{IsRefused, verdict_in}
use Rattle.lb_listing.specs.declared.read.ListingError.TheVariants.{Memory}
use Rattle.lb_listing.proofs.Cuts.{fresh_none, fresh_some, passed_on}
use Rattle.lb_listing.proofs.Listed.{all_lines}
use Rattle.lb_listing.specs.declared.listing.Listing.{Listing}
use Rattle.lb_listing.proofs.ReadLines.{fault_at, last_fault, listed_count, listed_few, listing_of}
use Rattle.lb_listing.proofs.ReadLines.{read_more}
use Rattle.lb_listing.proofs.read.read_listing.Goals as goal

pub returns-in_err-push-clause-refused : goal.returns-in_err-push-clause-refused
returns-in_err-push-clause-refused c =
    passed_on c.from_residual.result (Memory c.in_err-push.field-0.0) (IsRefused c.args.text.now)
    c.from_residual.ensures.1 tt

pub returns-in_err-is_end-clause-refused : goal.returns-in_err-is_end-clause-refused
returns-in_err-is_end-clause-refused c =
    passed_on c.from_residual-in_err-is_end.result (Memory c.in_err-is_end.field-0.0)
    (IsRefused c.args.text.now) c.from_residual-in_err-is_end.ensures.1 tt

pub returns-then-not-branch-clause-refused : goal.returns-then-not-branch-clause-refused
returns-then-not-branch-clause-refused c =
    let old = c.loop-entry.listing in
    let e = c.in-Some.entry in
    let found = c.in-Some.ensures.some in
    let kept : c.push.new.self ≡ old = c.in_ok-push.ensures.kept c.if-not-branch.true in
    let twice : IsSome (verdict_in e.name.now (listed old)) =
    fresh_some (verdict_in e.name.now (listed old)) c.in_ok-push.field-0 c.in_ok-push.ensures.fresh
    c.if-not-branch.true in
    let count : c.len.result ≡ length (listed old) =
    c.len.ensures ∙ ap (λ (l : Listing). l.entries.len) kept ∙ listed_count old in
    fault_at c.args.text.now c.loop-entry.rest.now c.in-Some.more.now old (line_of e) (c.len.result
    + 1)
    c.loop-entry.invariant (listed_few old) (ap (λ (n : ℕ). n + 1) count) found.0 found.1 twice

pub loop-entry-preserved : goal.loop-entry-preserved
loop-entry-preserved c =
    let old = c.loop-entry.listing in
    let e = c.in-Some.entry in
    let found = c.in-Some.ensures.some in
    let fresh : verdict_in e.name.now (listed old) ≡ None =
    fresh_none (verdict_in e.name.now (listed old)) c.in_ok-push.field-0 c.in_ok-push.ensures.fresh
    c.if-not-branch.false in
    read_more c.args.text.now c.loop-entry.rest.now c.in-Some.more.now old c.push.new.self e
    c.loop-entry.invariant found.0 found.1 fresh (c.in_ok-push.ensures.pushed c.if-not-branch.false)
    (c.in_ok-push.ensures.indexed c.if-not-branch.false)

pub returns-then-branch-clause-only : goal.returns-then-branch-clause-only
returns-then-branch-clause-only c = λ other lists.
    let l = c.loop-entry.listing in
    let ends : c.loop-entry.rest.now ≡ total_of (listed l) = c.in_ok-is_end.ensures.0
    c.if-branch.true in
    let whole : c.args.text.now ≡ report (listed l) =
    c.loop-entry.invariant.reads ∙ ap (λ (rest : List ℕ). lines_of (listed l) ++ rest) ends in
    all_lines c.args.text.now (listed l) other
    (listing_of c.args.text.now c.loop-entry.rest.now l c.loop-entry.invariant
    (listed_few l)) whole lists

pub returns-clause-refused : goal.returns-clause-refused
returns-clause-refused c =
    let l = c.loop-entry.listing in
    let no_end : c.loop-entry.rest.now ≢ total_of (listed l) = λ e.
    let yes : c.in_ok-is_end.field-0 ≡ true = c.in_ok-is_end.ensures.1 e in
    let no : c.in_ok-is_end.field-0 ≡ false = c.if-branch.false in cc in
    let count : c.len-else-branch.result ≡ length (listed l) =
    c.len-else-branch.ensures ∙ listed_count l in
    last_fault c.args.text.now c.loop-entry.rest.now l (c.len-else-branch.result + 1)
    c.loop-entry.invariant (listed_few l) (ap (λ (n : ℕ). n + 1) count) c.in_default.ensures.none
    no_end
