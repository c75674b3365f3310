use Rattle.std.proofs.Common.{◌≡◌, ◌∙◌, ◌++◌, List, ℕ, [], ap, map, subst, sym}
use Rattle.lb_listing.specs.Indexed.{listed}
use Rattle.std.specs.Prelude.{Vec}
use Rattle.std.specs.Global.{Global}
use Rattle.lb_listing.specs.Listings.{Lists, line_of, lines_of}
use Rattle.lb_listing.specs.Merged.{AreJoined}
use Rattle.lb_listing.specs.declared.entry.Entry.{Entry}
use Rattle.lb_listing.proofs.Merging.{joined_next, joined_none}
use Rattle.lb_listing.proofs.merge_text.join.Goals as goal

pub loop-file-init : goal.loop-file-init
loop-file-init c =
    subst (λ (text : List ℕ). AreJoined [] (map line_of c.new.result.items) text)
    (sym c.new-2.ensures.items)
    (subst (λ (entries : List Entry). AreJoined [] (map line_of entries) [])
    (sym c.new.ensures.items) joined_none)

pub loop-file-preserved : goal.loop-file-preserved
loop-file-preserved c =
    let old = c.loop-file.joined in
    let new = c.add_report.new.joined in
    let found = c.in-Ok.found in
    let at : Vec ℕ Global = c.index-texts-file.result in
    let lists : Lists at.items (listed found) =
    subst (λ (text : List ℕ). Lists text (listed found)) c.as_slice.ensures.value
    c.in-Ok.ensures.lists in
    let grew : new.entries.items ≡ old.entries.items ++ found.entries.items =
    c.in_ok-add_report-in-Ok.ensures.entries
    ∙ ap (λ (es : List Entry). old.entries.items ++ es) c.as_slice-in-Ok.ensures.value in
    let longer : new.text.items
    ≡ old.text.items ++ lines_of (map line_of found.entries.items) =
    c.in_ok-add_report-in-Ok.ensures.text
    ∙ ap (λ (es : List Entry). old.text.items ++ lines_of (map line_of es))
    c.as_slice-in-Ok.ensures.value in
    joined_next c.args.texts.now c.loop-file.file at old.entries.items found.entries.items
    new.entries.items old.text.items new.text.items c.loop-file-test.true c.loop-file.invariant
    (subst (λ (t : Vec ℕ Global). Lists t.items (listed found)) c.index-texts-file.is lists) grew
    longer
