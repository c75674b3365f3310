-- The results of readers that did not fail.
use Rattle.std.proofs.Common.{◌≡◌, List, [], ◌∷◌, Option, Some, None, refl, ap, rules}
use denote.Enum.Bare.{sameb, same_true, true_same}
use Rattle.std.proofs.lemmas.Option.{cond_some}
use Rattle.lb_syntax.specs.contracts.token.Mark.{the_type}
use Rattle.lb_syntax.specs.declared.token.Mark.{Mark}
use Rattle.lb_syntax.specs.declared.token.Token.{Token}
use Rattle.lb_syntax.specs.declared.token.Token.TheVariants as token
use Rattle.lb_syntax.specs.Tree.{Name}
use Rattle.lb_syntax.specs.Readers.{◌>>=◌, expect, name_at}

abbrev pub some : {A : Type 0} → A → Option A
some a = Some a

pub some_is : {A : Type 0} {x y : A} → some x ≡ Some y → x ≡ y
some_is h = cc

pub bind_some : {A B : Type 0} (o : Option A) (f : A → Option B) (y : B) →
    (o >>= f) ≡ Some y → (x : A) × (o ≡ Some x) × (f x ≡ Some y)
bind_some (Some x) f y e = (x, refl, e)
bind_some None f y e = absurd cc

pub expect_is : (m : Mark) (ts rest : List Token) → expect m ts ≡ Some rest
    → ts ≡ token.Mark m ∷ rest
unfolding expect
expect_is m [] rest h = absurd cc
expect_is m (token.Name x ∷ ts) rest h = absurd cc
expect_is m (token.Literal x ∷ ts) rest h = absurd cc
expect_is m (token.Mark k ∷ ts) rest h =
    let c = cond_some (sameb the_type k m) ts rest h in
    let e = same_true the_type (search rules) k m c.0 in
    let t = c.1 in
    cc

pub expect_same : (k : Mark) (ts : List Token) → expect k (token.Mark k ∷ ts) ≡ Some ts
unfolding expect
expect_same k ts = rw (true_same the_type k k refl) refl

pub name_read : (ts : List Token) (r : Name × List Token) → name_at ts ≡ Some r
    → ts ≡ token.Name r.0 ∷ r.1
unfolding name_at
name_read (token.Name x ∷ ts) r h = ap (λ z. token.Name z.0 ∷ z.1) (some_is h)
name_read _ r h = absurd cc
