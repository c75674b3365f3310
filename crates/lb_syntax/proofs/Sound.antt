-- Expressions: what is read is spelled.
use Rattle.std.proofs.Common.{◌≡◌, ℕ, zero, suc, ◌≤◌, List, [], ◌∷◌, Option, Some, None, refl, ap}
use Rattle.std.proofs.Common.{sym, subst, length, arith}
use Rattle.std.specs.Prelude.{◌≢◌}
use Rattle.lb_syntax.specs.declared.level.Form.TheVariants as form
use Rattle.lb_syntax.specs.declared.token.Mark.{Mark}
use Rattle.lb_syntax.specs.declared.token.Mark.TheVariants as m
use Rattle.lb_syntax.specs.declared.token.Token.{Token}
use Rattle.lb_syntax.specs.declared.token.Token.TheVariants as token
use Rattle.lb_syntax.specs.Tree.{Name, ArrayIterator, Static}
use Rattle.lb_syntax.specs.Tree.{Expr}
use Rattle.lb_syntax.specs.Levels.{Form, row_of, IsLeft, IsLast}
use Rattle.lb_syntax.specs.Spelling.{◌▸◌, IsMark, IsList, IsStatic, iterator_name, MayBeCalled}
use Rattle.lb_syntax.specs.Spelling.{IsForm, IsSpelled, AreSpelled, MayBeSpelled}
use Rattle.lb_syntax.specs.Readers.{Reader, expect}
use Rattle.lb_syntax.specs.Reading.{More, list_at, static_at, statics_at, size_at, clock_at}
use Rattle.lb_syntax.specs.Reading.{iterator_of, applied_at, exprs, form_at, takes, infix_tree}
use Rattle.lb_syntax.specs.Reading.{element_by, element_at, infix_at, longer, by_form, step, until}
use Rattle.lb_syntax.specs.Reading.{choice, list_until, items, operands_by, operands, plain_by}
use Rattle.lb_syntax.specs.Reading.{iterate, static_call, static_call_by, named_by, named, marked}
use Rattle.lb_syntax.specs.Reading.{first, level_at, tree_at, expression_at}
use Rattle.lb_syntax.proofs.Readers.{some_is, bind_some, expect_is}
use Rattle.lb_syntax.proofs.Steps.{grown_if, climb_keeps, takes-true, form_read, iterator_read}
use Rattle.lb_syntax.proofs.Steps.{no_iterator_read}
use Rattle.lb_syntax.proofs.Lists.{list_read, all_spelled, may_be_spelled}
pub use Rattle.lb_syntax.proofs.StaticSound.{static_read, statics_read, size_read, clock_read}
use Rattle.lb_syntax.proofs.StaticSound.{data_right_small, brackets, applied_read}

pub record IsRead (least : ℕ) (ts : List Token) (e : Expr) (rest : List Token) : Type 0 where
  pub spelled : IsSpelled e ts rest
  pub last : IsLast least e

abbrev Pair : ℕ → List Token → Expr × List Token → Type 0
Pair least ts r = IsRead least ts r.0 r.1

abbrev Sound : (ℕ → Reader Expr) → Type 0
Sound inner =
    (least : ℕ) → least ≤ 14 → (ts : List Token) (r : Expr × List Token) → inner least ts ≡ Some r →
    Pair least ts r

right_small : (f : Form) → (row_of f).right ≤ 14
right_small (form.Data op) = omega (arith, data_right_small op)
right_small form.Arrow = omega arith
right_small _ = omega arith

element_by_read : (least : ℕ) (e : Expr) (i : Static) (whole ts us vs : List Token)
    (r : Expr × List Token) → IsSpelled e whole ts → IsForm form.Element ts us →
    IsLeft (row_of form.Element) e → least ≤ 13 →
    IsStatic i us vs → (o : Option (List Token)) → expect m.DotDot vs ≡ o → element_by e i o vs
    ≡ Some r → Pair least whole r
element_by_read least e i whole ts us vs r s f left le si None is h =
    let c = bind_some (expect m.CloseBracket vs) _ r h in
    subst (Pair least whole) (some_is c.2)
    (record {
      spelled = ((ts, s, (us, f, (vs, si, expect_is m.CloseBracket vs c.0 c.1))), left);
      last = le;
    })
element_by_read least e i whole ts us vs r s f left le si (Some after) is h =
    let j = bind_some (static_at after) _ r h in
    let c = bind_some (expect m.CloseBracket j.0.1) _ r j.2 in
    subst (Pair least whole) (some_is c.2)
    (record {
      spelled = (
        (
          ts,
          s,
          (
            us,
            f,
            (
              vs,
              si,
              (
                after,
                expect_is m.DotDot vs after is,
                (j.0.1, static_read after j.0 j.1, expect_is m.CloseBracket j.0.1 c.0 c.1),
              ),
            ),
          ),
        ),
        left,
      );
      last = le;
    })

element_read : (least : ℕ) (e : Expr) (whole ts us : List Token) (r : Expr × List Token) →
    IsSpelled e whole ts → IsForm form.Element ts us → IsLeft (row_of form.Element) e → least ≤ 13 →
    element_at e us ≡ Some r → Pair least whole r
unfolding element_at
element_read least e whole ts us r s f left le h =
    let i = bind_some (static_at us) _ r h in
    element_by_read least e i.0.0 whole ts us i.0.1 r s f left le (static_read us i.0 i.1)
    (expect m.DotDot i.0.1) refl i.2

module _ (inner : ℕ → Reader Expr) (sound : Sound inner) where
  -- `infix_at` reads an infix form whose right operand is read
  right_read : (f : Form) (e : Expr) (ts : List Token) (r : Expr × List Token) →
      infix_at inner e f ts ≡ Some r →
      (b : Expr) × (infix_tree f e b ≡ r.0) × IsRead (row_of f).right ts b r.1
  unfolding infix_at
  right_read f e ts r h =
      let b = bind_some (inner (row_of f).right ts) _ r h in
      let p = some_is b.2 in (
        b.0.0,
        ap (λ z. z.0) p,
        subst (λ z. IsRead (row_of f).right ts b.0.0 z) (ap (λ z. z.1) p)
            (sound (row_of f).right (right_small f) ts b.0 b.1),
      )

  longer_read : (least : ℕ) (e : Expr) (f : Form) (whole ts us : List Token)
      (r : Expr × List Token) → IsSpelled e whole ts → IsForm f ts us → IsLeft (row_of f) e →
      least ≤ (row_of f).level →
      longer inner e f us ≡ Some r → Pair least whole r
  longer_read least e (form.Data op) whole ts us r s f left le h =
      let b = right_read (form.Data op) e us r h in
      subst (λ z. IsRead least whole z r.1) b.1
      (record { spelled = ((ts, s, (us, f, b.2.spelled)), left, b.2.last); last = le })
  longer_read least e form.Arrow whole ts us r s f left le h =
      let b = right_read form.Arrow e us r h in
      subst (λ z. IsRead least whole z r.1) b.1
      (record { spelled = ((ts, s, (us, f, b.2.spelled)), left, b.2.last); last = le })
  longer_read least e form.Fby whole ts us r s f left le h =
      let b = right_read form.Fby e us r h in
      subst (λ z. IsRead least whole z r.1) b.1
      (record { spelled = ((ts, s, (us, f, b.2.spelled)), left, b.2.last); last = le })
  longer_read least e form.Join whole ts us r s f left le h =
      let b = right_read form.Join e us r h in
      subst (λ z. IsRead least whole z r.1) b.1
      (record { spelled = ((ts, s, (us, f, b.2.spelled)), left, b.2.last); last = le })
  longer_read least e form.When whole ts us r s f left le h =
      let c = bind_some (clock_at us) _ r h in
      subst (Pair least whole) (some_is c.2)
      (record { spelled = ((ts, s, (us, f, clock_read us c.0 c.1)), left); last = le })
  longer_read least e form.Replicate whole ts us r s f left le h =
      let n = bind_some (size_at us) _ r h in
      subst (Pair least whole) (some_is n.2)
      (record { spelled = ((ts, s, (us, f, size_read us n.0 n.1)), left); last = le })
  longer_read least e form.Element whole ts us r s f left le h =
      element_read least e whole ts us r s f left le h

  grows : (least : ℕ) (whole : List Token) (e : Expr) (t : Token) (ts : List Token) (z : Expr)
      (rest : List Token) → IsRead least whole e (t ∷ ts) →
      (o : Option Form) → form_at t ≡ o → by_form inner least e ts o ≡ More z rest →
      IsRead least whole z rest
  grows least whole e t ts z rest read None is h = absurd cc
  grows least whole e t ts z rest read (Some f) is h =
      let g = grown_if (takes least (row_of f) e) (longer inner e f ts) z rest h in
      let k = takes-true least (row_of f) e g.0 in
      longer_read least e f whole (t ∷ ts) ts (z, rest) read.spelled (form_read t f ts is) k.1 k.0
      g.1

  step_grows : (least : ℕ) (whole : List Token) (e : Expr) (ts : List Token) (z : Expr)
      (rest : List Token) → IsRead least whole e ts →
      step inner least e ts ≡ More z rest → IsRead least whole z rest
  step_grows least whole e [] z rest read h = absurd cc
  step_grows least whole e (t ∷ ts) z rest read h =
      grows least whole e t ts z rest read (form_at t) refl h

  until_read : (mark : Mark) (ts : List Token) (r : Expr × List Token) → until inner mark ts
      ≡ Some r → (IsSpelled r.0 ▸ IsMark mark) ts r.1
  unfolding until
  until_read mark ts r h =
      let e = bind_some (inner 1 ts) _ r h in
      let c = bind_some (expect mark e.0.1) _ r e.2 in
      subst (λ z. (IsSpelled z.0 ▸ IsMark mark) ts z.1) (some_is c.2)
      (e.0.1, (sound 1 (omega arith) ts e.0 e.1).spelled, expect_is mark e.0.1 c.0 c.1)

  choice_read : (least : ℕ) (ts : List Token) (r : Expr × List Token) → choice inner ts ≡ Some r →
      Pair least (token.Mark m.If ∷ ts) r
  unfolding choice
  choice_read least ts r h =
      let c = bind_some (until inner m.Then ts) _ r h in
      let a = bind_some (until inner m.Else c.0.1) _ r c.2 in
      let b = bind_some (inner 2 a.0.1) _ r a.2 in
      let x = until_read m.Then ts c.0 c.1 in
      let y = until_read m.Else c.0.1 a.0 a.1 in
      let z = sound 2 (omega arith) a.0.1 b.0 b.1 in
      subst (Pair least (token.Mark m.If ∷ ts)) (some_is b.2)
      (record {
        spelled =
            ((ts, refl, (x.0, x.1, (c.0.1, x.2, (y.0, y.1, (a.0.1, y.2, z.spelled))))), z.last);
        last = tt;
      })

  items_read : (mark : Mark) (ts : List Token) (r : List Expr × List Token) →
      list_until inner mark ts ≡ Some r →
      (IsList (IsMark m.Comma) IsSpelled r.0 ▸ IsMark mark) ts r.1
  unfolding list_until
  items_read mark ts r h =
      let es = bind_some (list_at (expect m.Comma) (inner 1) ts) _ r h in
      let c = bind_some (expect mark es.0.1) _ r es.2 in
      let all = list_read (IsMark m.Comma) IsSpelled (expect m.Comma) (inner 1) (expect_is m.Comma)
      (λ us q e. (sound 1 (omega arith) us q e).spelled) ts es.0 es.1 in
      subst (λ z. (IsList (IsMark m.Comma) IsSpelled z.0 ▸ IsMark mark) ts z.1) (some_is c.2)
      (es.0.1, all, expect_is mark es.0.1 c.0 c.1)

  -- a list in parentheses that is read, `(a, b)`, is spelled
  in_parentheses : (ts : List Token) (r : List Expr × List Token) → items inner ts ≡ Some r →
      (IsMark m.Open ▸ AreSpelled (exprs r.0) ▸ IsMark m.Close) ts r.1
  unfolding items
  in_parentheses ts r h =
      let o = bind_some (expect m.Open ts) (list_until inner m.Close) r h in
      let s = items_read m.Close o.0 r o.2 in
      (o.0, expect_is m.Open ts o.0 o.1, (s.0, all_spelled r.0 o.0 s.0 s.1, s.2))

  operands_by_read : (ts : List Token) (r : List Expr × List Token) (o : Option (List Token)) →
      expect m.Close ts ≡ o → operands_by inner o ts ≡ Some r →
      (MayBeSpelled (exprs r.0) ▸ IsMark m.Close) ts r.1
  operands_by_read ts r (Some after) is h =
      subst (λ z. (MayBeSpelled (exprs z.0) ▸ IsMark m.Close) ts z.1) (some_is h)
      (ts, refl, expect_is m.Close ts after is)
  operands_by_read ts r None is h = let s =
      items_read m.Close ts r h in (s.0, may_be_spelled r.0 ts s.0 s.1, s.2)

  operands_read : (ts : List Token) (r : List Expr × List Token) → operands inner ts ≡ Some r →
      (MayBeSpelled (exprs r.0) ▸ IsMark m.Close) ts r.1
  unfolding operands
  operands_read ts r h = operands_by_read ts r (expect m.Close ts) refl h

  plain_read : (least : ℕ) (x : Name) (ts : List Token) (r : Expr × List Token)
      (o : Option (List Token)) → least ≤ 14 → expect m.Open ts ≡ o → plain_by inner x o ts
      ≡ Some r →
      Pair least (token.Name x ∷ ts) r
  plain_read least x ts r None le is h =
      subst (Pair least (token.Name x ∷ ts)) (some_is h) (record { spelled = refl; last = le })
  plain_read least x ts r (Some after) le is h =
      let es = bind_some (operands inner after) _ r h in
      subst (Pair least (token.Name x ∷ ts)) (some_is es.2)
      (record {
        spelled = (
          (
            ts,
            refl,
            (
              ts,
              refl,
              (after, expect_is m.Open ts after is, operands_read after es.0 es.1),
            ),
          ),
          tt,
        );
        last = le;
      })

  iterate_read : (least : ℕ) (i : ArrayIterator) (ts next : List Token) (r : Expr × List Token) →
      least ≤ 14 → IsMark m.OpenStatic ts next → iterate inner i next ≡ Some r →
      Pair least (token.Name (iterator_name i) ∷ ts) r
  unfolding iterate
  iterate_read least i ts next r le begins h =
      let f = bind_some (applied_at next) _ r h in
      let es = bind_some (items inner f.0.1) _ r f.2 in
      subst (Pair least (token.Name (iterator_name i) ∷ ts)) (some_is es.2)
      (record {
        spelled = (
          ts,
          refl,
          (
            f.0.1,
            applied_read ts next f.0 begins f.1,
            in_parentheses f.0.1 es.0 es.1,
          ),
        );
        last = le;
      })

  may_be_called : (x : Name) (ss : List Static) → ((i : ArrayIterator) → x ≢ iterator_name i) →
      MayBeCalled x ss
  may_be_called x [] other = tt
  may_be_called x (s ∷ ss) other = other

  static_call_read : (least : ℕ) (x : Name) (ts next : List Token) (r : Expr × List Token) →
      least ≤ 14 → IsMark m.OpenStatic ts next → ((i : ArrayIterator) → x ≢ iterator_name i) →
      static_call inner x next ≡ Some r → Pair least (token.Name x ∷ ts) r
  unfolding static_call
  static_call_read least x ts next r le begins other h =
      let ss = bind_some (statics_at next) _ r h in
      let c = bind_some (expect m.CloseStatic ss.0.1) _ r ss.2 in
      let o = bind_some (expect m.Open c.0) _ r c.2 in
      let es = bind_some (operands inner o.0) _ r o.2 in
      let args = brackets ts next c.0 ss.0.1 ss.0.0 begins (statics_read next ss.0 ss.1)
      (expect_is m.CloseStatic ss.0.1 c.0 c.1) in
      subst (Pair least (token.Name x ∷ ts)) (some_is es.2)
      (record {
        spelled = (
          (
            ts,
            refl,
            (
              c.0,
              args,
              (o.0, expect_is m.Open c.0 o.0 o.1, operands_read o.0 es.0 es.1),
            ),
          ),
          may_be_called x ss.0.0 other,
        );
        last = le;
      })

  static_call_by_read : (least : ℕ) (x : Name) (ts next : List Token) (r : Expr × List Token)
      (o : Option ArrayIterator) → least ≤ 14 → IsMark m.OpenStatic ts next → iterator_of x ≡ o →
      static_call_by inner x o next ≡ Some r → Pair least (token.Name x ∷ ts) r
  static_call_by_read least x ts next r (Some i) le begins is h =
      subst (λ z. Pair least (token.Name z ∷ ts) r) (sym (iterator_read x i is))
      (iterate_read least i ts next r le begins h)
  static_call_by_read least x ts next r None le begins is h =
      static_call_read least x ts next r le begins (no_iterator_read x is) h

  named_by_read : (least : ℕ) (x : Name) (ts : List Token) (r : Expr × List Token)
      (o : Option (List Token)) → least ≤ 14 → expect m.OpenStatic ts ≡ o → named_by inner x o ts
      ≡ Some r →
      Pair least (token.Name x ∷ ts) r
  named_by_read least x ts r None le is h = plain_read least x ts r (expect m.Open ts) le refl h
  named_by_read least x ts r (Some next) le is h =
      static_call_by_read least x ts next r (iterator_of x) le (expect_is m.OpenStatic ts next is)
      refl h

  marked_read : (least : ℕ) (mark : Mark) (ts : List Token) (r : Expr × List Token) → least ≤ 14 →
      marked inner mark ts ≡ Some r → Pair least (token.Mark mark ∷ ts) r
  unfolding marked
  marked_read least m.True ts r le h =
      subst (Pair least (token.Mark m.True ∷ ts)) (some_is h) (record { spelled = refl; last = le })
  marked_read least m.False ts r le h =
      subst (Pair least (token.Mark m.False ∷ ts)) (some_is h)
      (record { spelled = refl; last = le })
  marked_read least m.Open ts r le h =
      let e = bind_some (until inner m.Close ts) _ r h in
      subst (Pair least (token.Mark m.Open ∷ ts)) (some_is e.2)
      (record { spelled = (ts, refl, until_read m.Close ts e.0 e.1); last = le })
  marked_read least m.Not ts r le h =
      let a = bind_some (inner 8 ts) _ r h in
      let s = sound 8 (omega arith) ts a.0 a.1 in
      subst (Pair least (token.Mark m.Not ∷ ts)) (some_is a.2)
      (record { spelled = ((ts, refl, s.spelled), s.last); last = tt })
  marked_read least m.Minus ts r le h =
      let a = bind_some (inner 12 ts) _ r h in
      let s = sound 12 (omega arith) ts a.0 a.1 in
      subst (Pair least (token.Mark m.Minus ∷ ts)) (some_is a.2)
      (record { spelled = ((ts, refl, s.spelled), s.last); last = tt })
  marked_read least m.Pre ts r le h =
      let a = bind_some (inner 12 ts) _ r h in
      let s = sound 12 (omega arith) ts a.0 a.1 in
      subst (Pair least (token.Mark m.Pre ∷ ts)) (some_is a.2)
      (record { spelled = ((ts, refl, s.spelled), s.last); last = tt })
  marked_read least m.Current ts r le h =
      let a = bind_some (inner 12 ts) _ r h in
      let s = sound 12 (omega arith) ts a.0 a.1 in
      subst (Pair least (token.Mark m.Current ∷ ts)) (some_is a.2)
      (record { spelled = ((ts, refl, s.spelled), s.last); last = tt })
  marked_read least m.If ts r le h = choice_read least ts r h
  marked_read least m.OpenBracket ts r le h =
      let es = bind_some (list_until inner m.CloseBracket ts) _ r h in
      let s = items_read m.CloseBracket ts es.0 es.1 in
      subst (Pair least (token.Mark m.OpenBracket ∷ ts)) (some_is es.2)
      (record { spelled = (ts, refl, (s.0, all_spelled es.0.0 ts s.0 s.1, s.2)); last = le })
  marked_read least m.Hash ts r le h =
      let es = bind_some (items inner ts) _ r h in
      subst (Pair least (token.Mark m.Hash ∷ ts)) (some_is es.2)
      (record { spelled = (ts, refl, in_parentheses ts es.0 es.1); last = le })
  marked_read least m.Nor ts r le h =
      let es = bind_some (items inner ts) _ r h in
      subst (Pair least (token.Mark m.Nor ∷ ts)) (some_is es.2)
      (record { spelled = (ts, refl, in_parentheses ts es.0 es.1); last = le })
  marked_read least _ ts r le h = absurd cc

  first_read : (least : ℕ) (ts : List Token) (r : Expr × List Token) → least ≤ 14 → first inner ts
      ≡ Some r → Pair least ts r
  unfolding first named
  first_read least (token.Literal n ∷ ts) r le h =
      subst (Pair least (token.Literal n ∷ ts)) (some_is h) (record { spelled = refl; last = le })
  first_read least (token.Name x ∷ ts) r le h =
      named_by_read least x ts r (expect m.OpenStatic ts) le refl h
  first_read least (token.Mark mark ∷ ts) r le h = marked_read least mark ts r le h
  first_read least [] r le h = absurd cc

  level_read : (least : ℕ) (ts : List Token) (r : Expr × List Token) → least ≤ 14 →
      level_at inner least ts ≡ Some r → Pair least ts r
  unfolding level_at
  level_read least ts r le h =
      let e = bind_some (first inner ts) _ r h in
      climb_keeps (step inner least) (IsRead least ts) (step_grows least ts) (length ts) e.0.0 e.0.1
      r (first_read least ts e.0 le e.1) e.2

tree_read : (n : ℕ) → Sound (tree_at n)
unfolding tree_at
tree_read zero least le ts r h = absurd cc
tree_read (suc n) least le ts r h = level_read (tree_at n) (tree_read n) least ts r le h

pub expression_read : (ts : List Token) (r : Expr × List Token) → expression_at ts ≡ Some r →
    IsSpelled r.0 ts r.1
unfolding expression_at
expression_read ts r h = (tree_read (length ts) 1 (omega arith) ts r h).spelled
