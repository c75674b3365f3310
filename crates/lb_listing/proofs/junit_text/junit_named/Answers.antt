use Rattle.std.proofs.Common.{◌≡◌, ◌∙◌, ◌++◌, ℕ, List, ap, codes, flat_map, length, map, sym}
use Rattle.std.specs.Prelude.{count_by}
use Rattle.std.proofs.lemmas.List.{length-map}
use Rattle.lb_output.specs.Reports.{is_failure}
use Rattle.lb_listing.specs.Junit.{counts, head, is_skipped, said_beside, testcase}
use Rattle.lb_listing.specs.Listings.{Line, line_of}
use Rattle.lb_listing.proofs.Pieces.{grown}
use Rattle.lb_listing.proofs.junit_text.junit_named.Goals as goal

pub returns : goal.returns
returns c =
    let suite = c.args.suite.now in
    let listed = map line_of c.args.entries.now in
    let failed = count_by (λ (l : Line). is_failure l.1) listed in
    let skipped = count_by (λ (l : Line). is_skipped l.1) listed in
    let t0 = c.new-text.result.items in
    let t1 = c.push_head.new.text.items in
    let t2 = c.push_counts.new.text.items in
    let t3 = c.push_testcases.new.text.items in
    let t4 = c.push_remarks.new.text.items in
    let t5 = c.extend_from_slice.new.self.items in
    let x1 = head suite in
    let x2 = counts (length listed) failed skipped in
    let x3 = flat_map (testcase suite) listed in
    let x4 = said_beside c.args.remarks.now in
    let x5 = codes "</testsuite>\n</testsuites>\n" in
    let all : length c.args.entries.now ≡ length listed =
    sym (length-map c.args.entries.now line_of) in
    let e2 : t2 ≡ t1 ++ x2 =
    c.in_ok-push_counts.ensures
    ∙ ap (λ (n : ℕ). t1 ++ counts n c.count_failed-failed.result c.count_skipped-skipped.result) all
    ∙ ap (λ (n : ℕ). t1 ++ counts (length listed) n c.count_skipped-skipped.result)
    c.count_failed-failed.ensures
    ∙ ap (λ (n : ℕ). t1 ++ counts (length listed) failed n) c.count_skipped-skipped.ensures in
    let grew : t5 ≡ t0 ++ ((((x1 ++ x2) ++ x3) ++ x4) ++ x5) =
    grown t0 t4 t5 (((x1 ++ x2) ++ x3) ++ x4) x5
    (grown t0 t3 t4 ((x1 ++ x2) ++ x3) x4
    (grown t0 t2 t3 (x1 ++ x2) x3 (grown t0 t1 t2 x1 x2 c.in_ok-push_head.ensures e2)
    c.in_ok-push_testcases.ensures)
    c.in_ok-push_remarks.ensures)
    c.in_ok-extend_from_slice.ensures.items in
    grew
    ∙ ap (λ (text : List ℕ). text ++ ((((x1 ++ x2) ++ x3) ++ x4) ++ x5)) c.new-text.ensures.items
