-- A name is among the first names where it has a place among them.
use Rattle.std.proofs.Common.{◌≡◌, ℕ, Bool, true, false, List, take, Option, Some, None, refl, ap}
use Rattle.std.proofs.Common.{◌∙◌}
use Rattle.std.specs.Prelude.{is_some, nat_lt, position}
use Rattle.std.specs.Str.{bytes_eq}
use Rattle.lb_syntax.specs.Lists.{◌>>=◌, where_true}
use Rattle.lb_syntax.specs.Tree.{Name}
use Rattle.lb_static.specs.NamedConstants.{constant_place}
use Rattle.lb_static.specs.Parts.{among}
use Rattle.lb_static.proofs.Lists.{position_take, position_none}
use Rattle.lb_static.proofs.globals.Globals.is_constant.Goals as goal

some_where : (b : Bool) (i : ℕ) → is_some (where_true b i) ≡ b
some_where true i = refl
some_where false i = refl

place_among : (names : List Name) (count : ℕ) (x : Name)
    → is_some (constant_place names count x) ≡ among x (take count names)
place_among names count x = by (position (bytes_eq x) names) refl
  where
    by : (o : Option ℕ) → position (bytes_eq x) names ≡ o
        → is_some (o >>= λ place. where_true (nat_lt place count) place)
        ≡ among x (take count names)
    by (Some i) e = some_where (nat_lt i count) i ∙ position_take (bytes_eq x) count names i e
    by None e = position_none (bytes_eq x) count names e

pub returns : goal.returns
returns c =
    c.is_some.ensures ∙ ap is_some c.constant_place.ensures.value
    ∙ place_among c.args.self.now.names c.args.self.now.constants c.args.name.now
