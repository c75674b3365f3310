use Rattle.std.proofs.Common.{◌++◌, codes}
use Rattle.lb_listing.specs.Junit.{quoted}
use Rattle.lb_listing.specs.Listings.{said}
use Rattle.lb_listing.proofs.Pieces.{grown}
use Rattle.lb_listing.proofs.junit_text.push_skipped.Goals as goal

pub returns : goal.returns
returns c =
    let t0 = c.args.text.now.items in
    let t1 = c.extend_from_slice.new.self.items in
    let t2 = c.push_message.new.text.items in
    let t3 = c.extend_from_slice-2.new.self.items in
    let x1 = codes "><skipped message=" in
    let x2 = quoted (said c.args.verdict) in
    grown t0 t2 t3 (x1 ++ x2) (codes "/></testcase>\n")
    (grown t0 t1 t2 x1 x2 c.in_ok-extend_from_slice.ensures.items c.in_ok-push_message.ensures)
    c.in_ok-extend_from_slice-2.ensures.items
