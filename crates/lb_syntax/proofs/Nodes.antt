-- Nodes: what is read is spelled, and what is spelled is read.
use Rattle.std.proofs.Common.{◌≡◌, ◌⊎◌, inl, inr, Bool, List, [], ◌∷◌, Option, Some, None, refl, ap}
use Rattle.std.proofs.Common.{sym, ◌∙◌, arith}
use Rattle.lb_syntax.specs.declared.token.Mark.TheVariants as m
use Rattle.lb_syntax.specs.declared.token.Token.{Token}
use Rattle.lb_syntax.specs.Tree.{Name, Expr, Declaration, Statement, Equation, Assertion, Node}
use Rattle.lb_syntax.specs.Spelling.{Span, ◌▸◌, IsMark, IsSeparator, IsList, IsSpelled}
use Rattle.lb_syntax.specs.Grammar.{Group, IsNothing, MayBe, AreLeft, AreLocals, IsParameter}
use Rattle.lb_syntax.specs.Grammar.{AreParameters, IsStatement, IsEnd, IsBody, IsHeading, declared}
use Rattle.lb_syntax.specs.Readers.{expect, name_at}
use Rattle.lb_syntax.specs.Reading.{by_first, separator, list_at, expression_at}
use Rattle.lb_syntax.specs.ListReading.{unless, skip, at_next_statement, any_at}
use Rattle.lb_syntax.specs.Programs.{names_at, left_by, left_at, groups_at, inputs_at, locals_at}
use Rattle.lb_syntax.specs.Programs.{parameter_at, parameters_by, parameters_at, statement_by}
use Rattle.lb_syntax.specs.Programs.{statement_at, end_by, end_at, Heading, heading_at, body_at}
use Rattle.lb_syntax.specs.Programs.{node_of, node_at}
use Rattle.lb_syntax.proofs.Readers.{bind_some, some_is, expect_is, name_read}
use Rattle.lb_syntax.proofs.Spans.{made_is, mark_reads, name_reads, Takes, takes_mark, takes_name}
use Rattle.lb_syntax.proofs.Spans.{takes_nothing, takes_then, takes_either, takes_may}
use Rattle.lb_syntax.proofs.Spans.{takes_separator, takes_tail, takes_list, takes_less, takes_any}
use Rattle.lb_syntax.proofs.ListLaws.{GoWith, any_read, list_read, any_reads, list_reads}
use Rattle.lb_syntax.proofs.DeclarationLaws.{Anywhere, IsNamed, names_read, names_reads}
use Rattle.lb_syntax.proofs.DeclarationLaws.{named_no_mark, skip_read, skip_reads, groups_read}
use Rattle.lb_syntax.proofs.DeclarationLaws.{groups_reads, inputs_read, inputs_reads, locals_read}
use Rattle.lb_syntax.proofs.DeclarationLaws.{locals_reads, takes_declared, takes_inputs}
use Rattle.lb_syntax.proofs.DeclarationLaws.{takes_locals, takes_names, names_begin}
use Rattle.lb_syntax.proofs.Sound.{expression_read}
use Rattle.lb_syntax.proofs.Ends.{ends_mark, ends_semicolon}
use Rattle.lb_syntax.proofs.Complete.{expression_reads}
use Rattle.lb_syntax.proofs.Rooms.{expr_shorter}
use Rattle.lb_syntax.proofs.Steps.{separator_reads}

-- ---- static parameters

parameter_read : (ts : List Token) (r : Name × List Token) → parameter_at ts ≡ Some r →
    IsParameter r.0 ts r.1
unfolding parameter_at
parameter_read ts r h =
    let word = bind_some (expect m.Const ts) _ r h in
    let x = bind_some (name_at word.0) _ r word.2 in
    let colon = bind_some (expect m.Colon x.0.1) _ r x.2 in
    let type = bind_some (expect m.Int colon.0) _ r colon.2 in
    made_is IsParameter ts (x.0.0, type.0) r type.2 (
      word.0,
      expect_is m.Const ts word.0 word.1,
      (
        x.0.1,
        name_read word.0 x.0 x.1,
        (colon.0, expect_is m.Colon x.0.1 colon.0 colon.1, expect_is m.Int colon.0 type.0 type.1),
      ),
    )

parameter_reads : (x : Name) (ts rest : List Token) → IsParameter x ts rest →
    parameter_at ts ≡ Some (x, rest)
unfolding parameter_at
parameter_reads x ts rest s =
    let a = mark_reads m.Const ts s.0 s.1 in
    let b = name_reads x s.0 s.2.0 s.2.1 in
    let c = mark_reads m.Colon s.2.0 s.2.2.0 s.2.2.1 in
    let d = mark_reads m.Int s.2.2.0 rest s.2.2.2 in
    rw (a, b, c, d) refl

takes_parameter : (x : Name) → Takes 1 (IsParameter x)
takes_parameter x =
    takes_less 4 1 (omega arith) (takes_then (takes_mark m.Const) (takes_then (takes_name x)
    (takes_then (takes_mark m.Colon) (takes_mark m.Int))))

either_is : (ts start : List Token) (o p : Option (List Token)) → expect m.Comma ts ≡ o →
    expect m.Semicolon ts ≡ p →
    by_first o p ≡ Some start → IsSeparator ts start
either_is ts start (Some rest) p is not h = inl (expect_is m.Comma ts start (is ∙ h))
either_is ts start None p is not h = inr (expect_is m.Semicolon ts start (not ∙ h))

parameter_laws : GoWith IsSeparator IsParameter Anywhere separator parameter_at
unfolding at_next_statement separator
parameter_laws = record {
  next_is = λ ts start h.
      either_is ts start (expect m.Comma ts) (expect m.Semicolon ts) refl refl h;
  item_is = parameter_read;
  goes_on = λ x ts start rest s i. separator_reads ts start s;
  terminated = λ x ts start rest s i. tt;
  reads = λ x ts rest s c. parameter_reads x ts rest s;
  shorter = λ x ts start rest s i.
      let a = takes_separator.takes ts start s in
      let b = (takes_parameter x).takes start rest i in
      omega arith;
}

bracketed : (xs : List Name) (ts rest : List Token) →
    (IsMark m.OpenStatic ▸ IsList IsSeparator IsParameter xs ▸ IsMark m.CloseStatic) ts rest →
    AreParameters xs ts rest
bracketed [] ts rest s = absurd s.2.1
bracketed (x ∷ xs) ts rest s = s

parameters_by_read : (ts : List Token) (r : List Name × List Token) (o : Option (List Token)) →
    expect m.OpenStatic ts ≡ o →
    parameters_by o ts ≡ Some r → AreParameters r.0 ts r.1
parameters_by_read ts r None is h = made_is AreParameters ts ([], ts) r h refl
parameters_by_read ts r (Some inner) is h =
    let xs = bind_some (list_at separator parameter_at inner) _ r h in
    let rest = bind_some (expect m.CloseStatic xs.0.1) _ r xs.2 in
    made_is AreParameters ts (xs.0.0, rest.0) r rest.2
    (bracketed xs.0.0 ts rest.0 (
      inner,
      expect_is m.OpenStatic ts inner is,
      (
        xs.0.1,
        list_read parameter_laws inner xs.0 xs.1,
        expect_is m.CloseStatic xs.0.1 rest.0 rest.1,
      ),
    ))

parameters_read : (ts : List Token) (r : List Name × List Token) → parameters_at ts ≡ Some r →
    AreParameters r.0 ts r.1
unfolding parameters_at
parameters_read ts r h = parameters_by_read ts r (expect m.OpenStatic ts) refl h

no_parameter : (ts rest : List Token) → IsMark m.CloseStatic ts rest → separator ts ≡ None
unfolding at_next_statement separator expect
no_parameter ts rest s = rw s refl

no_open_static : (ts rest : List Token) → IsMark m.Open ts rest → expect m.OpenStatic ts ≡ None
unfolding expect
no_open_static ts rest s = rw s refl

parameters_reads : (xs : List Name) (ts rest after : List Token) → AreParameters xs ts rest →
    IsMark m.Open rest after →
    parameters_at ts ≡ Some (xs, rest)
unfolding parameters_at
parameters_reads [] ts rest after s paren =
    let a = no_open_static ts after (s ∙ paren) in
    rw a (ap (λ z. Some ([], z)) s)
parameters_reads (x ∷ xs) ts rest after s paren =
    let a = mark_reads m.OpenStatic ts s.0 s.1 in
    let last = no_parameter s.2.0 rest s.2.2 in
    let b = list_reads parameter_laws (x ∷ xs) s.0 s.2.0 s.2.1 tt last in
    let c = mark_reads m.CloseStatic s.2.0 rest s.2.2 in
    rw (a, b, c) refl

takes_parameters : (xs : List Name) → Takes 0 (AreParameters xs)
takes_parameters [] = takes_nothing
takes_parameters (x ∷ xs) =
    takes_any (takes_then (takes_mark m.OpenStatic)
    (takes_then (takes_list takes_separator takes_parameter (x ∷ xs)) (takes_mark m.CloseStatic)))

-- ---- left sides

left_by_read : (ts : List Token) (r : List Name × List Token) (o : Option (List Token)) →
    expect m.Open ts ≡ o →
    left_by o ts ≡ Some r → AreLeft r.0 ts r.1
left_by_read ts r None is h = inl (names_read ts r h)
left_by_read ts r (Some inner) is h =
    let xs = bind_some (names_at inner) _ r h in
    let rest = bind_some (expect m.Close xs.0.1) _ r xs.2 in
    made_is AreLeft ts (xs.0.0, rest.0) r rest.2
    (inr (
      inner,
      expect_is m.Open ts inner is,
      (xs.0.1, names_read inner xs.0 xs.1, expect_is m.Close xs.0.1 rest.0 rest.1),
    ))

left_read : (ts : List Token) (r : List Name × List Token) → left_at ts ≡ Some r →
    AreLeft r.0 ts r.1
unfolding left_at
left_read ts r h = left_by_read ts r (expect m.Open ts) refl h

no_comma_equal : (ts rest : List Token) → IsMark m.Equal ts rest → expect m.Comma ts ≡ None
unfolding at_next_statement separator expect
no_comma_equal ts rest s = rw s refl

no_comma_close : (ts rest : List Token) → IsMark m.Close ts rest → expect m.Comma ts ≡ None
unfolding at_next_statement separator expect
no_comma_close ts rest s = rw s refl

left_reads : (xs : List Name) (ts rest after : List Token) → AreLeft xs ts rest →
    IsMark m.Equal rest after → left_at ts ≡ Some (xs, rest)
unfolding left_at
left_reads xs ts rest after (inl s) equal =
    let a = named_no_mark m.Open ts (names_begin xs ts rest s) in
    rw a (names_reads xs ts rest s (no_comma_equal rest after equal))
left_reads xs ts rest after (inr s) equal =
    let a = mark_reads m.Open ts s.0 s.1 in
    let b = names_reads xs s.0 s.2.0 s.2.1 (no_comma_close s.2.0 rest s.2.2) in
    let c = mark_reads m.Close s.2.0 rest s.2.2 in
    rw (a, b, c) refl

takes_left : (xs : List Name) → Takes 0 (AreLeft xs)
takes_left xs =
    takes_either (takes_names xs)
    (takes_any (takes_then (takes_mark m.Open) (takes_then (takes_names xs) (takes_mark m.Close))))

left_first : (xs : List Name) (ts rest : List Token) → AreLeft xs ts rest →
    IsNamed ts ⊎ ((after : List Token) × IsMark m.Open ts after)
left_first xs ts rest (inl s) = inl (names_begin xs ts rest s)
left_first xs ts rest (inr s) = inr (s.0, s.1)

left_no_assert : (ts : List Token) →
    IsNamed ts ⊎ ((after : List Token) × IsMark m.Open ts after) → expect m.Assert ts ≡ None
unfolding expect
left_no_assert ts (inl s) = rw s.2 refl
left_no_assert ts (inr s) = rw s.1 refl

left_no_tel : (ts : List Token) → IsNamed ts ⊎ ((after : List Token) × IsMark m.Open ts after) →
    expect m.Tel ts ≡ None
unfolding expect
left_no_tel ts (inl s) = rw s.2 refl
left_no_tel ts (inr s) = rw s.1 refl

-- ---- the end of a node

end_is : (ts : List Token) (o p : Option (List Token)) → expect m.Semicolon ts ≡ o →
    expect m.Dot ts ≡ p → IsEnd ts (end_by o ts)
end_is ts (Some rest) p is not = inr (inl (expect_is m.Semicolon ts rest is))
end_is ts None (Some rest) is not = rw not (inr (inr (expect_is m.Dot ts rest not)))
end_is ts None None is not = rw not (inl refl)

end_read : (ts : List Token) → IsEnd ts (end_at ts)
end_read ts = end_is ts (expect m.Semicolon ts) (expect m.Dot ts) refl refl

-- no `;` or `.` comes next, which would belong to the end of a node
pub record IsAfterNode (rest : List Token) : Type 0 where
  pub no_semicolon : expect m.Semicolon rest ≡ None
  pub no_dot : expect m.Dot rest ≡ None

dot_no_semicolon : (ts rest : List Token) → IsMark m.Dot ts rest → expect m.Semicolon ts ≡ None
unfolding expect
dot_no_semicolon ts rest s = rw s refl

end_reads : (ts rest : List Token) → IsEnd ts rest → IsAfterNode rest → end_at ts ≡ rest
end_reads ts rest (inl s) after =
    let a = after.no_semicolon in
    let b = after.no_dot in
    rw s (rw (a, b) refl)
end_reads ts rest (inr (inl s)) after = let a = mark_reads m.Semicolon ts rest s in rw a refl
end_reads ts rest (inr (inr s)) after =
    let a = dot_no_semicolon ts rest s in
    let b = mark_reads m.Dot ts rest s in
    rw (a, b) refl

takes_end : Takes 0 IsEnd
takes_end = takes_may (takes_either (takes_mark m.Semicolon) (takes_mark m.Dot))

unless_is : (o : Option (List Token)) (ts start : List Token) → unless o ts ≡ Some start →
    ts ≡ start
unless_is None ts start h = some_is h
unless_is (Some rest) ts start h = absurd cc

no_statement : (ts rest : List Token) → IsMark m.Tel ts rest → at_next_statement ts ≡ None
unfolding at_next_statement separator expect
no_statement ts rest s = rw s refl

-- ---- statements

statement_by_read : (ts : List Token) (r : Statement × List Token) (o : Option (List Token)) →
    expect m.Assert ts ≡ o →
    statement_by o ts ≡ Some r → IsStatement r.0 ts r.1
statement_by_read ts r (Some claim) is h =
    let e = bind_some (expression_at claim) _ r h in
    let rest = bind_some (expect m.Semicolon e.0.1) _ r e.2 in
    made_is IsStatement ts (Assertion e.0.0, rest.0) r rest.2 (
      claim,
      expect_is m.Assert ts claim is,
      (e.0.1, expression_read claim e.0 e.1, expect_is m.Semicolon e.0.1 rest.0 rest.1),
    )
statement_by_read ts r None is h =
    let xs = bind_some (left_at ts) _ r h in
    let equal = bind_some (expect m.Equal xs.0.1) _ r xs.2 in
    let e = bind_some (expression_at equal.0) _ r equal.2 in
    let rest = bind_some (expect m.Semicolon e.0.1) _ r e.2 in
    made_is IsStatement ts (Equation xs.0.0 e.0.0, rest.0) r rest.2 (
      xs.0.1,
      left_read ts xs.0 xs.1,
      (
        equal.0,
        expect_is m.Equal xs.0.1 equal.0 equal.1,
        (e.0.1, expression_read equal.0 e.0 e.1, expect_is m.Semicolon e.0.1 rest.0 rest.1),
      ),
    )

statement_read : (ts : List Token) (r : Statement × List Token) → statement_at ts ≡ Some r →
    IsStatement r.0 ts r.1
unfolding statement_at
statement_read ts r h = statement_by_read ts r (expect m.Assert ts) refl h

-- a spelled expression is read, where `;` follows it
read_claim : (e : Expr) (ts start rest : List Token) → IsSpelled e ts start →
    IsMark m.Semicolon start rest → expression_at ts ≡ Some (e, start)
read_claim e ts start rest s end =
    expression_reads e ts start s (ends_mark m.Semicolon start rest end (ends_semicolon rest))

takes_expression : (e : Expr) → Takes 0 (IsSpelled e)
takes_expression e = record {
  takes = λ ts rest s. let le = expr_shorter e ts rest s in omega arith;
}

statement_reads : (x : Statement) (ts rest : List Token) → IsStatement x ts rest →
    statement_at ts ≡ Some (x, rest)
unfolding statement_at
statement_reads (Assertion e) ts rest s =
    let a = mark_reads m.Assert ts s.0 s.1 in
    let b = read_claim e s.0 s.2.0 rest s.2.1 s.2.2 in
    let c = mark_reads m.Semicolon s.2.0 rest s.2.2 in
    rw (a, b, c) refl
statement_reads (Equation xs e) ts rest s =
    let equal = s.2 in
    let right = equal.2 in
    let a = left_no_assert ts (left_first xs ts s.0 s.1) in
    let b = left_reads xs ts s.0 equal.0 s.1 equal.1 in
    let c = mark_reads m.Equal s.0 equal.0 equal.1 in
    let d = read_claim e equal.0 right.0 rest right.1 right.2 in
    let f = mark_reads m.Semicolon right.0 rest right.2 in
    rw (a, b, c, d, f) refl

statement_no_tel : (x : Statement) (ts rest : List Token) → IsStatement x ts rest →
    expect m.Tel ts ≡ None
unfolding expect
statement_no_tel (Assertion e) ts rest s = let a = s.1 in rw a refl
statement_no_tel (Equation xs e) ts rest s = left_no_tel ts (left_first xs ts s.0 s.1)

takes_statement : (x : Statement) → Takes 1 (IsStatement x)
takes_statement (Assertion e) =
    takes_less 2 1 (omega arith) (takes_then (takes_mark m.Assert)
    (takes_then (takes_expression e) (takes_mark m.Semicolon)))
takes_statement (Equation xs e) =
    takes_less 2 1 (omega arith) (takes_then (takes_left xs) (takes_then (takes_mark m.Equal)
    (takes_then (takes_expression e) (takes_mark m.Semicolon))))

until_reads : (ts start : List Token) → IsNothing ts start → expect m.Tel start ≡ None →
    at_next_statement ts ≡ Some start
unfolding at_next_statement separator
until_reads ts start s none = rw s (rw none refl)

statement_laws : GoWith IsNothing IsStatement Anywhere at_next_statement statement_at
unfolding at_next_statement separator
statement_laws = record {
  next_is = λ ts start h. unless_is (expect m.Tel ts) ts start h;
  item_is = statement_read;
  goes_on = λ x ts start rest s i. until_reads ts start s (statement_no_tel x start rest i);
  terminated = λ x ts start rest s i. tt;
  reads = λ x ts rest s c. statement_reads x ts rest s;
  shorter = λ x ts start rest s i.
      let a = takes_nothing.takes ts start s in
      let b = (takes_statement x).takes start rest i in
      omega arith;
}

body_read : (ts : List Token) (r : List Statement × List Token) → body_at ts ≡ Some r →
    IsBody r.0 ts r.1
unfolding body_at
body_read ts r h =
    let word = bind_some (expect m.Let ts) _ r h in
    let body = bind_some (any_at at_next_statement statement_at word.0) _ r word.2 in
    let end = bind_some (expect m.Tel body.0.1) _ r body.2 in
    made_is IsBody ts (body.0.0, end_at end.0) r end.2 (
      word.0,
      expect_is m.Let ts word.0 word.1,
      (
        body.0.1,
        any_read statement_laws word.0 body.0 body.1,
        (end.0, expect_is m.Tel body.0.1 end.0 end.1, end_read end.0),
      ),
    )

body_reads : (body : List Statement) (ts rest : List Token) → IsBody body ts rest →
    IsAfterNode rest → body_at ts ≡ Some (body, rest)
unfolding body_at
body_reads body ts rest s after =
    let all = s.2 in
    let end = all.2 in
    let a = mark_reads m.Let ts s.0 s.1 in
    let last = no_statement all.0 end.0 end.1 in
    let b = any_reads statement_laws body s.0 all.0 all.1 tt last in
    let c = mark_reads m.Tel all.0 end.0 end.1 in
    rw (a, b, c) (ap (λ z. Some (body, z)) (end_reads end.0 rest end.2 after))

takes_body : (body : List Statement) → Takes 0 (IsBody body)
takes_body body =
    takes_any (takes_then (takes_mark m.Let)
    (takes_then (takes_tail takes_nothing takes_statement body)
    (takes_then (takes_mark m.Tel) takes_end)))

-- ---- headings

heading_read : (f : Bool) (locals : List Group) (body : List Statement)
    (ts : List Token) (r : Heading × List Token) →
    heading_at ts ≡ Some r → IsHeading (node_of f r.0 locals body) ts r.1
unfolding heading_at
heading_read f locals body ts r h =
    let name = bind_some (name_at ts) _ r h in
    let parameters = bind_some (parameters_at name.0.1) _ r name.2 in
    let a = bind_some (expect m.Open parameters.0.1) _ r parameters.2 in
    let inputs = bind_some (inputs_at a.0) _ r a.2 in
    let b = bind_some (expect m.Close inputs.0.1) _ r inputs.2 in
    let c = bind_some (expect m.Returns b.0) _ r b.2 in
    let d = bind_some (expect m.Open c.0) _ r c.2 in
    let outputs = bind_some (groups_at d.0) _ r d.2 in
    let e = bind_some (expect m.Close outputs.0.1) _ r outputs.2 in
    let made : Heading = record {
      name = name.0.0;
      parameters = parameters.0.0;
      inputs = inputs.0.0;
      outputs = outputs.0.0;
    } in
    made_is (λ z. IsHeading (node_of f z locals body)) ts (made, e.0) r e.2 (
      name.0.1,
      name_read ts name.0 name.1,
      (
        parameters.0.1,
        parameters_read name.0.1 parameters.0 parameters.1,
        (
          a.0,
          expect_is m.Open parameters.0.1 a.0 a.1,
          (
            inputs.0.1,
            inputs_read a.0 inputs.0 inputs.1,
            (
              b.0,
              expect_is m.Close inputs.0.1 b.0 b.1,
              (
                c.0,
                expect_is m.Returns b.0 c.0 c.1,
                (
                  d.0,
                  expect_is m.Open c.0 d.0 d.1,
                  (
                    outputs.0.1,
                    (outputs.0.0, groups_read d.0 outputs.0 outputs.1, refl),
                    expect_is m.Close outputs.0.1 e.0 e.1,
                  ),
                ),
              ),
            ),
          ),
        ),
      ),
    )

abbrev heading_of : Node → List Group → List Group → Heading
heading_of n inputs outputs = record {
  name = n.name;
  parameters = n.parameters;
  inputs = inputs;
  outputs = outputs;
}

-- the heading of the node `n` is read, with groups that declare its inputs and outputs
record Headed (n : Node) (ts rest : List Token) : Type 0 where
  inputs : List Group
  outputs : List Group
  is : heading_at ts ≡ Some (heading_of n inputs outputs, rest)
  inputs_are : n.inputs ≡ declared inputs
  outputs_are : n.outputs ≡ declared outputs

heading_reads : (n : Node) (ts rest : List Token) → IsHeading n ts rest → Headed n ts rest
unfolding heading_at
heading_reads n ts rest s =
    let parameters = s.2 in
    let paren = parameters.2 in
    let inputs = paren.2 in
    let close = inputs.2 in
    let word = close.2 in
    let paren' = word.2 in
    let outputs = paren'.2 in
    let a = name_reads n.name ts s.0 s.1 in
    let b = parameters_reads n.parameters s.0 parameters.0 paren.0 parameters.1 paren.1 in
    let c = mark_reads m.Open parameters.0 paren.0 paren.1 in
    let d = inputs_reads n.inputs paren.0 inputs.0 close.0 inputs.1 close.1 in
    let e = mark_reads m.Close inputs.0 close.0 close.1 in
    let f = mark_reads m.Returns close.0 word.0 word.1 in
    let g = mark_reads m.Open word.0 paren'.0 paren'.1 in
    let os = outputs.1 in
    let h = groups_reads os.0 paren'.0 outputs.0 rest os.1 outputs.2 in
    let i = mark_reads m.Close outputs.0 rest outputs.2 in
    let d' = d.1 in
    record {
      inputs = d.0;
      outputs = os.0;
      is = rw (a, b, c, d', e, f, g, h, i) refl;
      inputs_are = d.2;
      outputs_are = os.2;
    }

takes_heading : (n : Node) → Takes 0 (IsHeading n)
takes_heading n =
    takes_any (takes_then (takes_name n.name)
    (takes_then (takes_parameters n.parameters)
    (takes_then (takes_mark m.Open)
    (takes_then (takes_inputs n.inputs)
    (takes_then (takes_mark m.Close)
    (takes_then (takes_mark m.Returns)
    (takes_then (takes_mark m.Open)
    (takes_then (takes_declared n.outputs)
    (takes_mark m.Close)))))))))

-- ---- nodes

-- the spelling of a node after its first word
abbrev pub IsRest : Node → Span
IsRest n = IsHeading n ▸ MayBe (IsMark m.Semicolon) ▸ AreLocals n.locals ▸ IsBody n.body

pub node_read : (f : Bool) (ts : List Token) (r : Node × List Token) → node_at f ts ≡ Some r →
    (r.0.is_function ≡ f) × IsRest r.0 ts r.1
unfolding node_at
node_read f ts r h =
    let heading = bind_some (heading_at ts) _ r h in
    let locals = bind_some (locals_at (skip m.Semicolon heading.0.1)) _ r heading.2 in
    let body = bind_some (body_at locals.0.1) _ r locals.2 in
    let made = node_of f heading.0.0 locals.0.0 body.0.0 in
    made_is (λ n us rest. (n.is_function ≡ f) × IsRest n us rest) ts (made, body.0.1) r body.2 (
      refl,
      (
        heading.0.1,
        heading_read f locals.0.0 body.0.0 ts heading.0 heading.1,
        (
          skip m.Semicolon heading.0.1,
          skip_read m.Semicolon heading.0.1,
          (
            locals.0.1,
            locals_read (skip m.Semicolon heading.0.1) locals.0 locals.1,
            body_read locals.0.1 body.0 body.1,
          ),
        ),
      ),
    )

let_no_semicolon : (ts rest : List Token) → IsMark m.Let ts rest → expect m.Semicolon ts ≡ None
unfolding expect
let_no_semicolon ts rest s = rw s refl

var_no_semicolon : (ts rest : List Token) → IsMark m.Var ts rest → expect m.Semicolon ts ≡ None
unfolding expect
var_no_semicolon ts rest s = rw s refl

locals_no_semicolon : (ds : List Declaration) (ts rest after : List Token) →
    AreLocals ds ts rest → IsMark m.Let rest after →
    expect m.Semicolon ts ≡ None
locals_no_semicolon ds ts rest after (inl s) word = let_no_semicolon ts after (s.1 ∙ word)
locals_no_semicolon ds ts rest after (inr s) word = var_no_semicolon ts s.1.0 s.1.1

pub node_reads : (n : Node) (ts rest : List Token) → IsRest n ts rest → IsAfterNode rest →
    node_at n.is_function ts ≡ Some (n, rest)
unfolding node_at
node_reads n ts rest s after =
    let locals = s.2 in
    let body = locals.2 in
    let a = heading_reads n ts s.0 s.1 in
    let b = skip_reads m.Semicolon s.0 locals.0 locals.1
    (locals_no_semicolon n.locals locals.0 body.0 body.2.0 body.1 body.2.1) in
    let c = locals_reads n.locals locals.0 body.0 body.2.0 body.1 body.2.1 in
    let d = body_reads n.body body.0 rest body.2 after in
    let a' = a.is in
    let c' = c.1 in
    let i = sym a.inputs_are in
    let o = sym a.outputs_are in
    let l = sym c.2 in
    rw (a', b, c', d) (rw (i, o, l) refl)

pub takes_rest : (n : Node) → Takes 0 (IsRest n)
takes_rest n =
    takes_then (takes_heading n) (takes_then (takes_may (takes_mark m.Semicolon))
    (takes_then (takes_locals n.locals) (takes_body n.body)))
