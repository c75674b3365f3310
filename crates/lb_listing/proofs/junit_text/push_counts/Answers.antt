use Rattle.std.proofs.Common.{◌++◌, codes}
use Rattle.lb_listing.specs.Junit.{counted}
use Rattle.lb_listing.proofs.Pieces.{grown}
use Rattle.lb_listing.proofs.junit_text.push_counts.Goals as goal

pub returns : goal.returns
returns c =
    let t0 = c.args.text.now.items in
    let t1 = c.push_counted.new.text.items in
    let t2 = c.push_counted-2.new.text.items in
    let t3 = c.extend_from_slice.new.self.items in
    let t4 = c.push_counted-3.new.text.items in
    let t5 = c.extend_from_slice-2.new.self.items in
    let x1 = counted (codes " tests=") c.args.all in
    let x2 = counted (codes " failures=") c.args.failed in
    let x3 = codes " errors='0'" in
    let x4 = counted (codes " skipped=") c.args.skipped in
    grown t0 t4 t5 (((x1 ++ x2) ++ x3) ++ x4) (codes ">\n")
    (grown t0 t3 t4 ((x1 ++ x2) ++ x3) x4
    (grown t0 t2 t3 (x1 ++ x2) x3
    (grown t0 t1 t2 x1 x2 c.in_ok-push_counted.ensures c.in_ok-push_counted-2.ensures)
    c.in_ok-extend_from_slice.ensures.items) c.in_ok-push_counted-3.ensures)
    c.in_ok-extend_from_slice-2.ensures.items
