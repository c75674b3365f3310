use Rattle.std.proofs.Common.{◌≡◌, ◌∙◌, ◌++◌, List, ap, codes, map}
use Rattle.std.specs.Prelude.{count_by}
use Rattle.lb_listing.specs.Compared.{counted, is_changed, is_kept, is_missing}
use Rattle.lb_listing.specs.Indexed.{listed}
use Rattle.lb_listing.specs.Listings.{Line, line_of}
use Rattle.lb_listing.specs.declared.entry.Entry.{Entry}
use Rattle.lb_listing.proofs.Pieces.{counted_piece, grown}
use Rattle.lb_listing.proofs.comparison.push_counts.Goals as goal

pub returns : goal.returns
returns c =
    let before = listed c.args.before.now in
    let now = listed c.args.now.now in
    let t0 = c.args.text.now.items in
    let t1 = c.push_count.new.text.items in
    let t2 = c.push_count-2.new.text.items in
    let t3 = c.push_count-3.new.text.items in
    let t4 = c.push_count-4.new.text.items in
    let t5 = c.extend_from_slice.new.self.items in
    let same = count_by (is_kept before) now in
    let changed = count_by (is_changed before) now in
    let new = count_by (is_missing before) now in
    let gone = count_by (is_missing now) before in
    let x1 = counted (codes "baseline: same") same in
    let x2 = counted (codes " changed") changed in
    let x3 = counted (codes " new") new in
    let x4 = counted (codes " gone") gone in
    let over : (p : Line → _) → _ = λ p. ap (λ (es : List Entry). count_by p (map line_of es))
    c.as_slice-entries.ensures.value in
    let e1 : t1 ≡ t0 ++ x1 = counted_piece t0 t1 (codes "baseline: same") c.count_kept.result same
    c.in_ok-push_count.ensures (c.count_kept.ensures ∙ over (is_kept before)) in
    let e2 : t2 ≡ t1 ++ x2 = counted_piece t1 t2 (codes " changed") c.count_changed.result changed
    c.in_ok-push_count-2.ensures (c.count_changed.ensures ∙ over (is_changed before)) in
    let e3 : t3 ≡ t2 ++ x3 = counted_piece t2 t3 (codes " new") c.count_missing.result new
    c.in_ok-push_count-3.ensures (c.count_missing.ensures ∙ over (is_missing before)) in
    let e4 : t4 ≡ t3 ++ x4 = counted_piece t3 t4 (codes " gone") c.count_missing-gone.result gone
    c.in_ok-push_count-4.ensures (c.count_missing-gone.ensures
    ∙ ap (λ (es : List Entry). count_by (is_missing now) (map line_of es))
    c.as_slice.ensures.value) in
    grown t0 t4 t5 (((x1 ++ x2) ++ x3) ++ x4) (codes "\n")
    (grown t0 t3 t4 ((x1 ++ x2) ++ x3) x4
    (grown t0 t2 t3 (x1 ++ x2) x3 (grown t0 t1 t2 x1 x2 e1 e2) e3) e4)
    c.in_ok-extend_from_slice.ensures.items
