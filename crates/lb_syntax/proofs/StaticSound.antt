-- Static expressions, clocks and static arguments: what is read is spelled.
use Rattle.std.proofs.Common.{◌≡◌, ℕ, zero, suc, ◌≤◌, Bool, inl, inr, List, [], ◌∷◌, Option, Some}
use Rattle.std.proofs.Common.{None, refl, subst, length, arith}
use Rattle.lb_syntax.specs.declared.level.Form.TheVariants as form
use Rattle.lb_syntax.specs.declared.token.Mark.{Mark}
use Rattle.lb_syntax.specs.declared.token.Mark.TheVariants as m
use Rattle.lb_syntax.specs.declared.token.Token.{Token}
use Rattle.lb_syntax.specs.declared.token.Token.TheVariants as token
use Rattle.lb_syntax.specs.declared.tree.BinaryOperator.TheVariants.{Or}
use Rattle.lb_syntax.specs.Tree.{Name, BinaryOperator, Static, Operator}
use Rattle.lb_syntax.specs.Levels.{row_of, static_level}
use Rattle.lb_syntax.specs.Spelling.{IsMark, IsSeparator, IsStatic, AreStatics, AreArguments}
use Rattle.lb_syntax.specs.Spelling.{IsSize, IsClockName, IsClock, IsSymbol, IsOperator, IsApplied}
use Rattle.lb_syntax.specs.Readers.{Reader, expect, name_at}
use Rattle.lb_syntax.specs.Reading.{More, separator, static_takes, static_group, static_first}
use Rattle.lb_syntax.specs.Reading.{static_longer, static_by, static_step, static_level_at}
use Rattle.lb_syntax.specs.Reading.{static_tree, static_at, statics_at, size_at, clock_name_by}
use Rattle.lb_syntax.specs.Reading.{clock_name_at, clock_by, clock_at, symbol_of, arguments_by}
use Rattle.lb_syntax.specs.Reading.{arguments_at, symbol_by, operator_at, applied_at, arithmetic_at}
use Rattle.lb_syntax.specs.Reading.{longer}
use Rattle.lb_syntax.proofs.Readers.{some_is, bind_some, expect_is, name_read}
use Rattle.lb_syntax.proofs.Steps.{grown_if, climb_keeps, static_takes-true, arithmetic_read}
use Rattle.lb_syntax.proofs.Steps.{separator_read}
use Rattle.lb_syntax.proofs.Lists.{list_read}

-- ---- static expressions

-- `s` is spelled, and may stand where at least level `least` is wanted
pub record IsStaticRead (least : ℕ) (ts : List Token) (s : Static) (rest : List Token) : Type 0
  where
    pub spelled : IsStatic s ts rest
    pub high : least ≤ static_level s

abbrev StaticPair : ℕ → List Token → Static × List Token → Type 0
StaticPair least ts r = IsStaticRead least ts r.0 r.1

abbrev StaticSound : (ℕ → Reader Static) → Type 0
StaticSound inner =
    (least : ℕ) → least ≤ 12 → (ts : List Token) (r : Static × List Token) → inner least ts
    ≡ Some r → StaticPair least ts r

pub data_right_small : (op : BinaryOperator) → (row_of (form.Data op)).right ≤ 12
data_right_small Or = omega arith
data_right_small _ = omega arith

module _ (inner : ℕ → Reader Static) (sound : StaticSound inner) where
  static_group_read : (least : ℕ) (ts : List Token) (r : Static × List Token) → least ≤ 12 →
      static_group inner ts ≡ Some r → StaticPair least (token.Mark m.Open ∷ ts) r
  static_group_read least ts r le h =
      let s = bind_some (inner 1 ts) _ r h in
      let c = bind_some (expect m.Close s.0.1) _ r s.2 in
      let read = sound 1 (omega arith) ts s.0 s.1 in
      subst (StaticPair least (token.Mark m.Open ∷ ts)) (some_is c.2)
      (record {
        spelled = (ts, refl, (s.0.1, read.spelled, expect_is m.Close s.0.1 c.0 c.1));
        high =
            omega arith;
      })

  static_first_read : (least : ℕ) (ts : List Token) (r : Static × List Token) → least ≤ 12 →
      static_first inner ts ≡ Some r → StaticPair least ts r
  unfolding static_first
  static_first_read least (token.Literal n ∷ ts) r le h =
      subst (StaticPair least (token.Literal n ∷ ts)) (some_is h)
      (record { spelled = refl; high = omega arith })
  static_first_read least (token.Name x ∷ ts) r le h =
      subst (StaticPair least (token.Name x ∷ ts)) (some_is h)
      (record { spelled = refl; high = omega arith })
  static_first_read least (token.Mark m.Open ∷ ts) r le h = static_group_read least ts r le h
  static_first_read least (token.Mark m.Minus ∷ ts) r le h =
      let s = bind_some (inner 12 ts) _ r h in
      let read = sound 12 (omega arith) ts s.0 s.1 in
      subst (StaticPair least (token.Mark m.Minus ∷ ts)) (some_is s.2)
      (record { spelled = ((ts, refl, read.spelled), read.high); high = le })
  static_first_read least _ r le h = absurd cc

  static_grows : (least : ℕ) (whole : List Token) (s : Static) (t : Token) (ts : List Token)
      (longer : Static) (rest : List Token) → IsStaticRead least whole s (t ∷ ts) →
      (o : Option BinaryOperator) → arithmetic_at t ≡ o → static_by inner least s ts o
      ≡ More longer rest → IsStaticRead least whole longer rest
  static_grows least whole s t ts longer rest read None is h = absurd cc
  static_grows least whole s t ts longer rest read (Some op) is h =
      let row = row_of (form.Data op) in
      let g = grown_if (static_takes least row s) (static_longer inner s op ts) longer rest h in
      let k = static_takes-true least row s g.0 in
      let b = bind_some (inner row.right ts) _ (longer, rest) g.1 in
      let right = sound row.right (data_right_small op) ts b.0 b.1 in
      subst (StaticPair least whole) (some_is b.2)
      (record {
        spelled = (
          (t ∷ ts, read.spelled, (ts, arithmetic_read t op ts is, right.spelled)),
          k.1,
          right.high,
        );
        high = k.0;
      })

  static_step_grows : (least : ℕ) (whole : List Token) (s : Static) (ts : List Token)
      (longer : Static) (rest : List Token) → IsStaticRead least whole s ts →
      static_step inner least s ts ≡ More longer rest → IsStaticRead least whole longer rest
  static_step_grows least whole s [] longer rest read h = absurd cc
  static_step_grows least whole s (t ∷ ts) longer rest read h =
      static_grows least whole s t ts longer rest read (arithmetic_at t) refl h

  static_level_read : (least : ℕ) (ts : List Token) (r : Static × List Token) → least ≤ 12 →
      static_level_at inner least ts ≡ Some r → StaticPair least ts r
  unfolding static_level_at
  static_level_read least ts r le h =
      let s = bind_some (static_first inner ts) _ r h in
      climb_keeps (static_step inner least) (IsStaticRead least ts) (static_step_grows least ts)
      (length ts) s.0.0 s.0.1 r (static_first_read least ts s.0 le s.1) s.2

static_tree_read : (n : ℕ) → StaticSound (static_tree n)
unfolding static_tree
static_tree_read zero least le ts r h = absurd cc
static_tree_read (suc n) least le ts r h =
    static_level_read (static_tree n) (static_tree_read n) least ts r le h

pub static_read : (ts : List Token) (r : Static × List Token) → static_at ts ≡ Some r →
    IsStatic r.0 ts r.1
unfolding static_at
static_read ts r h = (static_tree_read (length ts) 1 (omega arith) ts r h).spelled

pub statics_read : (ts : List Token) (r : List Static × List Token) → statics_at ts ≡ Some r →
    AreStatics r.0 ts r.1
unfolding statics_at
statics_read ts r h =
    list_read IsSeparator IsStatic separator static_at separator_read static_read ts r h

pub size_read : (ts : List Token) (r : Static × List Token) → size_at ts ≡ Some r →
    IsSize r.0 ts r.1
unfolding size_at
size_read (token.Literal n ∷ ts) r h =
    subst (λ z. IsSize z.0 (token.Literal n ∷ ts) z.1) (some_is h) refl
size_read (token.Name x ∷ ts) r h = subst (λ z. IsSize z.0 (token.Name x ∷ ts) z.1) (some_is h) refl
size_read (token.Mark m.Open ∷ ts) r h =
    let s = bind_some (static_at ts) _ r h in
    let c = bind_some (expect m.Close s.0.1) _ r s.2 in
    subst (λ z. IsSize z.0 (token.Mark m.Open ∷ ts) z.1) (some_is c.2)
    (ts, refl, (s.0.1, static_read ts s.0 s.1, expect_is m.Close s.0.1 c.0 c.1))
size_read _ r h = absurd cc

-- ---- clocks

clock_name_by_read : (ts : List Token) (r : Name × List Token) (o : Option (List Token)) →
    expect m.Open ts ≡ o → clock_name_by o ts ≡ Some r → IsClockName r.0 ts r.1
clock_name_by_read ts r None is h = inl (name_read ts r h)
clock_name_by_read ts r (Some after) is h =
    let x = bind_some (name_at after) _ r h in
    let c = bind_some (expect m.Close x.0.1) _ r x.2 in
    subst (λ (z : Name × List Token). IsClockName z.0 ts z.1) (some_is c.2)
    (inr (
      after,
      expect_is m.Open ts after is,
      (x.0.1, name_read after x.0 x.1, expect_is m.Close x.0.1 c.0 c.1),
    ))

clock_name_read : (ts : List Token) (r : Name × List Token) → clock_name_at ts ≡ Some r →
    IsClockName r.0 ts r.1
unfolding clock_name_at
clock_name_read ts r h = clock_name_by_read ts r (expect m.Open ts) refl h

abbrev ClockPair : List Token → (Name × Bool) × List Token → Type 0
ClockPair ts r = IsClock r.0.0 r.0.1 ts r.1

clock_by_read : (ts : List Token) (r : (Name × Bool) × List Token) (o : Option (List Token)) →
    expect m.Not ts ≡ o → clock_by o ts ≡ Some r → ClockPair ts r
clock_by_read ts r None is h =
    let x = bind_some (clock_name_at ts) _ r h in
    subst (ClockPair ts) (some_is x.2) (clock_name_read ts x.0 x.1)
clock_by_read ts r (Some after) is h =
    let x = bind_some (clock_name_at after) _ r h in
    subst (ClockPair ts) (some_is x.2)
    (after, expect_is m.Not ts after is, clock_name_read after x.0 x.1)

pub clock_read : (ts : List Token) (r : (Name × Bool) × List Token) → clock_at ts ≡ Some r →
    IsClock r.0.0 r.0.1 ts r.1
unfolding clock_at
clock_read ts r h = clock_by_read ts r (expect m.Not ts) refl h

-- ---- calls and iterators

symbol_read : (mark : Mark) (op : BinaryOperator) (ts : List Token) → symbol_of mark ≡ Some op →
    IsSymbol op (token.Mark mark ∷ ts) ts
symbol_read m.Plus op ts h = subst (λ z. IsSymbol z (token.Mark m.Plus ∷ ts) ts) (some_is h) refl
symbol_read m.Minus op ts h = subst (λ z. IsSymbol z (token.Mark m.Minus ∷ ts) ts) (some_is h) refl
symbol_read m.Star op ts h = subst (λ z. IsSymbol z (token.Mark m.Star ∷ ts) ts) (some_is h) refl
symbol_read m.And op ts h = subst (λ z. IsSymbol z (token.Mark m.And ∷ ts) ts) (some_is h) refl
symbol_read m.Or op ts h = subst (λ z. IsSymbol z (token.Mark m.Or ∷ ts) ts) (some_is h) refl
symbol_read m.Xor op ts h = subst (λ z. IsSymbol z (token.Mark m.Xor ∷ ts) ts) (some_is h) refl
symbol_read _ op ts h = absurd cc

-- static expressions in `<<` and `>>` are static arguments, as their list is not empty
pub brackets : (ts next rest after : List Token) (ss : List Static) → IsMark m.OpenStatic ts next →
    AreStatics ss next after → IsMark m.CloseStatic after rest → AreArguments ss ts rest
brackets ts next rest after [] begins all close = absurd all
brackets ts next rest after (s ∷ ss) begins all close = (next, begins, (after, all, close))

arguments_by_read : (ts : List Token) (r : List Static × List Token) (o : Option (List Token)) →
    expect m.OpenStatic ts ≡ o → arguments_by o ts ≡ Some r → AreArguments r.0 ts r.1
arguments_by_read ts r None is h = subst (λ z. AreArguments z.0 ts z.1) (some_is h) refl
arguments_by_read ts r (Some after) is h =
    let ss = bind_some (statics_at after) _ r h in
    let c = bind_some (expect m.CloseStatic ss.0.1) _ r ss.2 in
    subst (λ z. AreArguments z.0 ts z.1) (some_is c.2)
    (brackets ts after c.0 ss.0.1 ss.0.0 (expect_is m.OpenStatic ts after is)
    (statics_read after ss.0 ss.1) (expect_is m.CloseStatic ss.0.1 c.0 c.1))

arguments_read : (ts : List Token) (r : List Static × List Token) → arguments_at ts ≡ Some r →
    AreArguments r.0 ts r.1
unfolding arguments_at
arguments_read ts r h = arguments_by_read ts r (expect m.OpenStatic ts) refl h

abbrev OperatorPair : List Token → Operator × List Token → Type 0
OperatorPair ts r = IsOperator r.0 ts r.1

symbol_by_read : (mark : Mark) (ts : List Token) (r : Operator × List Token)
    (o : Option BinaryOperator) → symbol_of mark ≡ o → symbol_by o ts ≡ Some r →
    OperatorPair (token.Mark mark ∷ ts) r
symbol_by_read mark ts r (Some op) is h =
    subst (OperatorPair (token.Mark mark ∷ ts)) (some_is h) (symbol_read mark op ts is)
symbol_by_read mark ts r None is h = absurd cc

operator_read : (ts : List Token) (r : Operator × List Token) → operator_at ts ≡ Some r →
    OperatorPair ts r
unfolding operator_at
operator_read (token.Name f ∷ ts) r h =
    let ss = bind_some (arguments_at ts) _ r h in
    subst (OperatorPair (token.Name f ∷ ts)) (some_is ss.2) (ts, refl, arguments_read ts ss.0 ss.1)
operator_read (token.Mark mark ∷ ts) r h = symbol_by_read mark ts r (symbol_of mark) refl h
operator_read (token.Literal n ∷ ts) r h = absurd cc
operator_read [] r h = absurd cc

pub applied_read : (ts next : List Token) (r : (Operator × Static) × List Token) →
    IsMark m.OpenStatic ts next → applied_at next ≡ Some r → IsApplied r.0.0 r.0.1 ts r.1
unfolding applied_at
applied_read ts next r begins h =
    let f = bind_some (operator_at next) _ r h in
    let s = bind_some (separator f.0.1) _ r f.2 in
    let n = bind_some (static_at s.0) _ r s.2 in
    let c = bind_some (expect m.CloseStatic n.0.1) _ r n.2 in
    subst (λ z. IsApplied z.0.0 z.0.1 ts z.1) (some_is c.2) (
      next,
      begins,
      (
        f.0.1,
        operator_read next f.0 f.1,
        (
          s.0,
          separator_read f.0.1 s.0 s.1,
          (n.0.1, static_read s.0 n.0 n.1, expect_is m.CloseStatic n.0.1 c.0 c.1),
        ),
      ),
    )
