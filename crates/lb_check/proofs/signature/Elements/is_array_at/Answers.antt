use Rattle.lb_check.proofs.Words.{Some, ap, length, sym, ◌∙◌, ◌&&◌, ◌==◌, nat_le, reverse, are_one}
use Rattle.lb_check.proofs.Words.{arrays, type_at}
use Rattle.lb_check.{specs.TermSignatures.elements_in, proofs.typing.SignatureRows.array_is}
use Rattle.lb_check.proofs.typing.{SignatureRows.scalar_is_none, TypeRows.outermost}
use Rattle.lb_check.proofs.signature.Elements.is_array_at.Goals as goal

pub returns-in-Some : goal.returns-in-Some
returns-in-Some c =
    let element = type_at (elements_in c.args.self.now) c.args.place in
    let kind = c.args.given.now.kind in
    let n = c.args.size in
    let m = c.in-Some.outermost.now in
    let rest = c.in-Some.sizes.now in
    let turned = ap reverse (sym c.deref.ensures.value ∙ c.in-Some.ensures.cases.0)
    ∙ outermost rest m in
    c.is_array_of.ensures
    ∙ ap (λ b. (n == m) && ((nat_le 1 n && nat_le n 4096) && b)) c.is_at.ensures
    ∙ array_is n m element kind rest
    ∙ ap (λ ns. are_one (arrays n element) (Some (record { kind = kind; sizes = ns })))
    (sym turned)

pub returns-in-None : goal.returns-in-None
returns-in-None c =
    scalar_is_none c.args.size (type_at (elements_in c.args.self.now) c.args.place)
    c.args.given.now.kind c.args.given.now.sizes.items
    (ap length (sym c.deref.ensures.value) ∙ c.in-None.ensures.cases)
