-- The static expression at the place, if there is one.
use Rattle.std.proofs.Common.{ap, sym, ◌∙◌, option_map}
use Rattle.std.proofs.lemmas.Option.{slice_get-map}
use Rattle.lb_syntax.specs.Lists.{holds}
use Rattle.lb_static.specs.PartKeys.{is_same_part}
use Rattle.lb_static.specs.StaticParts.{part_of}
use Rattle.lb_static.proofs.Lookups.{held, past}
use Rattle.lb_static.proofs.static_parts.StaticParts.is_held_at.Goals as goal

pub returns-in-Some : goal.returns-in-Some
returns-in-Some c =
    let parts = c.args.self.now.parts.items in
    c.is_same_part.ensures
    ∙ sym (ap (holds (λ p. is_same_part p (part_of c.args.part)))
    (slice_get-map part_of parts c.args.place
    ∙ ap (option_map part_of) (held c.deref.result.now parts c.args.place c.in-Some.found.now
    c.deref.ensures.value c.in-Some.ensures.lookup.3.0 c.in-Some.ensures.lookup.1)))

pub returns-in-None : goal.returns-in-None
returns-in-None c =
    let parts = c.args.self.now.parts.items in
    sym (ap (holds (λ p. is_same_part p (part_of c.args.part)))
    (slice_get-map part_of parts c.args.place
    ∙ ap (option_map part_of) (past c.deref.result.now parts c.args.place
    c.deref.ensures.value c.in-None.ensures.lookup.3)))
