use Rattle.std.proofs.Common.{◌≡◌, ◌++◌, codes}
use Rattle.lb_listing.specs.Junit.{quoted}
use Rattle.lb_listing.proofs.Pieces.{grown}
use Rattle.lb_listing.proofs.junit_text.push_head.Goals as goal

pub returns : goal.returns
returns c =
    let suite = c.args.suite.now in
    let t0 = c.args.text.now.items in
    let t1 = c.extend_from_slice.new.self.items in
    let t2 = c.extend_from_slice-2.new.self.items in
    let t3 = c.push_quoted.new.text.items in
    let x1 = codes "<?xml version='1.0' encoding='UTF-8'?>\n" in
    let x2 = codes "<testsuites>\n<testsuite name=" in
    let e3 : t3 ≡ t2 ++ quoted suite = c.in_ok-push_quoted.ensures in
    grown t0 t2 t3 (x1 ++ x2) (quoted suite)
    (grown t0 t1 t2 x1 x2 c.in_ok-extend_from_slice.ensures.items
    c.in_ok-extend_from_slice-2.ensures.items) e3
