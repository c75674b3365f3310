-- One more static expression with a new key has its place in the map.
use Rattle.std.proofs.Common.{◌≡◌, ◌∷◌, ◌∙◌, [], ap, arith, length, map, sym}
use Rattle.std.specs.Prelude.{vec_len}
use Rattle.std.specs.Ordering.{is_eq, nat_cmp}
use Rattle.std.specs.Map.{lookup}
use Rattle.std.proofs.lemmas.List.{length-map, map-append}
use Rattle.lb_static.specs.PartKeys.{has_key}
use Rattle.lb_static.specs.SharedParts.{first_with}
use Rattle.lb_static.specs.StaticParts.{part_of}
use Rattle.lb_static.proofs.Lists.{popped}
use Rattle.lb_static.proofs.SharedParts.{newly_placed}
use Rattle.lb_static.proofs.static_parts.StaticParts.add.Goals as goal

pub invariant_of-self-in-Ok : goal.invariant_of-self-in-Ok
invariant_of-self-in-Ok c =
    let here = c.args.self.now in
    let ps = here.parts.items in
    let key = c.args.key in
    let last : c.len-place.result ≡ length ps = omega (arith, c.len-place.ensures) in
    record {
      placed = newly_placed here.places c.insert.new.self (map part_of ps)
          (map part_of c.push.new.self.items) (part_of c.args.part) key c.len-place.result
          here.placed c.requires.key c.requires.fresh (last ∙ sym (length-map ps part_of))
          (ap (map part_of) c.in_ok-push.ensures.items
          ∙ map-append part_of ps (c.args.part ∷ []))
          c.in-Ok.ensures.updates.0;
    }

-- the static expressions without the one that has no place in the map
unchanged : (c : goal.After-pop) → c.pop.new.self.items ≡ c.args.self.now.parts.items
unchanged c =
    let n : vec_len c.push.new.self ≡ length c.push.new.self.items =
    omega (arith, c.push.new.self.ok.0) in
    popped c.args.self.now.parts.items c.push.new.self.items c.pop.new.self.items c.args.part
    (vec_len c.push.new.self) c.in_ok-push.ensures.items n c.pop.ensures.rest

pub invariant_of-self-in_default : goal.invariant_of-self-in_default
invariant_of-self-in_default c =
    let here = c.args.self.now in
    record {
      placed = λ k. ap (λ es. lookup (λ j. is_eq (nat_cmp k j)) es) c.in_default.ensures.err
          ∙ here.placed k
          ∙ ap (λ l. first_with (has_key k) (map part_of l)) (sym (unchanged c));
    }

pub returns-in_default-clause-err : goal.returns-in_default-clause-err
returns-in_default-clause-err c =
    let n : vec_len c.push.new.self ≡ length c.push.new.self.items =
    omega (arith, c.push.new.self.ok.0) in
    popped c.args.self.now.parts.items c.push.new.self.items c.pop.new.self.items c.args.part
    (vec_len c.push.new.self) c.in_ok-push.ensures.items n c.pop.ensures.rest
