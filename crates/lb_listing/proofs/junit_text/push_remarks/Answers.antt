use Rattle.std.proofs.Common.{◌≡◌, ◌∙◌, ◌++◌, ◌==◌, ℕ, List, [], ◌∷◌, ap, codes, false, flat_map}
use Rattle.std.proofs.Common.{length, refl, sym, true}
use Rattle.lb_listing.specs.Junit.{escaped, said_beside}
use Rattle.lb_listing.proofs.Pieces.{grown}
use Rattle.lb_listing.proofs.junit_text.push_remarks.Goals as goal

said_some : (remarks : List ℕ) → false ≡ (length remarks == 0)
    → said_beside remarks
    ≡ (codes "<system-err>" ++ flat_map escaped remarks) ++ codes "</system-err>\n"
said_some [] some = let no : false ≡ true = some in cc
said_some (b ∷ bs) some = refl

pub returns : goal.returns
returns c =
    let t0 = c.args.text.now.items in
    let t1 = c.extend_from_slice.new.self.items in
    let t2 = c.push_all_escaped.new.text.items in
    let t3 = c.extend_from_slice-2.new.self.items in
    let x1 = codes "<system-err>" in
    let x2 = flat_map escaped c.args.remarks.now in
    let x3 = codes "</system-err>\n" in
    let grew : t3 ≡ t0 ++ ((x1 ++ x2) ++ x3) =
    grown t0 t2 t3 (x1 ++ x2) x3
    (grown t0 t1 t2 x1 x2 c.in_ok-extend_from_slice.ensures.items c.in_ok-push_all_escaped.ensures)
    c.in_ok-extend_from_slice-2.ensures.items in
    grew ∙ ap (λ (text : List ℕ). t0 ++ text)
    (sym (said_some c.args.remarks.now c.if-is_empty.ensures))
