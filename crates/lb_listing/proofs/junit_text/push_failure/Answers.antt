use Rattle.std.proofs.Common.{◌≡◌, ◌∙◌, ◌++◌, [], ℕ, List, ap, codes, get_or}
use Rattle.lb_output.specs.Reports.{place_of, words}
use Rattle.lb_listing.specs.Junit.{quoted}
use Rattle.lb_listing.specs.Listings.{said}
use Rattle.lb_listing.proofs.Pieces.{grown}
use Rattle.lb_listing.proofs.junit_text.push_failure.Goals as goal

pub returns : goal.returns
returns c =
    let v = c.args.verdict in
    let word = get_or words (place_of v) [] in
    let t0 = c.args.text.now.items in
    let t1 = c.extend_from_slice.new.self.items in
    let t2 = c.push_quoted.new.text.items in
    let t3 = c.extend_from_slice-2.new.self.items in
    let t4 = c.push_message.new.text.items in
    let t5 = c.extend_from_slice-3.new.self.items in
    let x1 = codes "><failure type=" in
    let x3 = codes " message=" in
    let e2 : t2 ≡ t1 ++ quoted word =
    c.in_ok-push_quoted.ensures
    ∙ ap (λ (b : List ℕ). t1 ++ quoted b) (c.as_bytes.ensures.value ∙ c.word_of.ensures.word) in
    grown t0 t4 t5 (((x1 ++ quoted word) ++ x3) ++ quoted (said v)) (codes "/></testcase>\n")
    (grown t0 t3 t4 ((x1 ++ quoted word) ++ x3) (quoted (said v))
    (grown t0 t2 t3 (x1 ++ quoted word) x3
    (grown t0 t1 t2 x1 (quoted word) c.in_ok-extend_from_slice.ensures.items e2)
    c.in_ok-extend_from_slice-2.ensures.items) c.in_ok-push_message.ensures)
    c.in_ok-extend_from_slice-3.ensures.items
