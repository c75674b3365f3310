use Rattle.std.proofs.Common.{ℕ, List, Option, Vec, subst, sym}
use Rattle.std.specs.Global.{Global}
use Rattle.std.specs.Prelude.{IfNone, IfSome}
use Rattle.lb_listing.specs.Listings.{IsFault, Line, Lists}
use Rattle.lb_listing.specs.Merged.{IsMerged, texts_of}
use Rattle.lb_listing.proofs.Merging.{merged, twice}
use Rattle.lb_listing.proofs.merge_text.merge.Goals as goal

pub returns-in-None-clause-ok : goal.returns-in-None-clause-ok
returns-in-None-clause-ok c =
    let texts = texts_of c.args.texts.now in
    let Fault : Option ℕ → Type 0 = λ fault.
    IfNone fault ((found : List Line) × Lists c.as_slice.result.now found) in
    let found = subst Fault c.in-None.is c.in_ok-first_fault.ensures.none in
    subst (λ (v : Vec ℕ Global). IsMerged texts v.items) (sym c.into_text.ensures)
    (merged texts found.0 c.in_ok-joined.joined.text.items c.in_ok-joined.ensures.ok
    (subst (λ (text : List ℕ). Lists text found.0) c.as_slice.ensures.value found.1))

pub returns-in-Some-clause-err : goal.returns-in-Some-clause-err
returns-in-Some-clause-err c =
    let texts = texts_of c.args.texts.now in
    let Fault : Option ℕ → Type 0 = λ fault. IfSome fault (IsFault c.as_slice.result.now) in
    let fault = subst Fault c.in-Some.is c.in_ok-first_fault.ensures.some in
    twice texts c.in_ok-joined.joined.text.items c.in-Some.line c.in_ok-joined.ensures.ok
    (subst (λ (text : List ℕ). IsFault text c.in-Some.line) c.as_slice.ensures.value fault)
