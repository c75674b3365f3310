-- Code that grows more than once, and its earlier places.
use Rattle.std.proofs.Common.{refl, ◌∙◌, arith}
use Rattle.lb_machine.specs.Correct.{IsGrown}
use Rattle.lb_machine.specs.declared.code.Code.{Code}
use Rattle.lb_sim.specs.Holdings.{IsIn, IsValueIn, IsPlaceIn}
use Rattle.lb_sim.specs.declared.place.Value.{Value}
use Rattle.lb_sim.specs.declared.place.Value.TheVariants.{Truth, Negated, Number}
use Rattle.lb_sim.specs.declared.place.Holding.{Holding}
use Rattle.lb_sim.specs.declared.place.Place.{Place}

pub grown_none : (code : Code) → IsGrown code code
grown_none code = record {
  first_plane = refl;
  first_word = refl;
  planes = omega arith;
  words = omega arith;
  runs = λ s h. h;
}

pub grown_then : (a b c : Code) → IsGrown a b → IsGrown b c → IsGrown a c
grown_then a b c g h = record {
  first_plane = h.first_plane ∙ g.first_plane;
  first_word = h.first_word ∙ g.first_word;
  planes = omega (arith, g.planes, h.planes);
  words = omega (arith, g.words, h.words);
  runs = λ s r. g.runs s (h.runs s r);
}

-- a value in the code is in the code still when it has grown
pub value_grown : (a b : Code) (v : Value) → IsGrown a b → IsValueIn a v → IsValueIn b v
value_grown a b (Truth p) g h = omega (arith, h, g.planes)
value_grown a b (Negated p) g h = omega (arith, h, g.planes)
value_grown a b (Number w) g h = omega (arith, h, g.words)

pub holding_grown : (a b : Code) (h : Holding) → IsGrown a b → IsIn a h → IsIn b h
holding_grown a b h g w = record {
  value = value_grown a b h.value g w.value;
  nil = omega (arith, w.nil, g.planes);
  bad = omega (arith, w.bad, g.planes);
}

pub place_grown : (a b : Code) (p : Place) → IsGrown a b → IsPlaceIn a p → IsPlaceIn b p
place_grown a b p g w = record {
  holding = holding_grown a b p.holding g w.holding;
  present = omega (arith, w.present, g.planes);
}
