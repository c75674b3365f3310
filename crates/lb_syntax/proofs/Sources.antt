-- Programs: what is read is spelled, and what is spelled is read; tokens spell at most one program.
use Rattle.std.proofs.Common.{◌≡◌, ℕ, zero, suc, ◌≤◌, inl, inr, Bool, true, false, List, [], ◌∷◌}
use Rattle.std.proofs.Common.{length, Option, Some, None, refl, ap, sym, ◌∙◌, subst, arith}
use Rattle.lb_syntax.specs.declared.token.Mark.TheVariants as m
use Rattle.lb_syntax.specs.declared.token.Token.{Token}
use Rattle.lb_syntax.specs.Tree.{Constant, Source}
use Rattle.lb_syntax.specs.Spelling.{◌▸◌, IsMark}
use Rattle.lb_syntax.specs.Grammar.{IsNothing, MayBe, AreAny, IsWord, IsConstant, Part, Constants}
use Rattle.lb_syntax.specs.Grammar.{Single, IsPart, Spells}
use Rattle.lb_syntax.specs.Readers.{expect, name_at}
use Rattle.lb_syntax.specs.Reading.{static_at}
use Rattle.lb_syntax.specs.ListReading.{at_name}
use Rattle.lb_syntax.specs.Programs.{type_by, type_at, constant_at, constants_at, node_part}
use Rattle.lb_syntax.specs.Programs.{node_at, part_by, part_at, parts_at, source_at}
use Rattle.lb_syntax.proofs.Readers.{some, bind_some, some_is, expect_is, name_read}
use Rattle.lb_syntax.proofs.Spans.{made_is, mark_reads, name_reads, Takes, takes_mark, takes_name}
use Rattle.lb_syntax.proofs.Spans.{takes_nothing, takes_then, takes_may, takes_list, takes_less}
use Rattle.lb_syntax.proofs.Spans.{takes_any}
use Rattle.lb_syntax.proofs.ListLaws.{GoWith, list_read, list_reads}
use Rattle.lb_syntax.proofs.DeclarationLaws.{mark_end, takes_static, Anywhere, named_at, at_name_is}
use Rattle.lb_syntax.proofs.Nodes.{IsAfterNode, node_read, node_reads, takes_rest}
use Rattle.lb_syntax.proofs.Sound.{static_read}
use Rattle.lb_syntax.proofs.StaticComplete.{static_reads}

-- ---- constants

type_is : (ts rest : List Token) (o : Option (List Token)) → expect m.Colon ts ≡ o →
    type_by o ts ≡ Some rest →
    MayBe (IsMark m.Colon ▸ IsMark m.Int) ts rest
type_is ts rest None is h = inl (some_is h)
type_is ts rest (Some type) is h =
    inr (type, expect_is m.Colon ts type is, expect_is m.Int type rest h)

equal_no_colon : (ts rest : List Token) → IsMark m.Equal ts rest → expect m.Colon ts ≡ None
unfolding expect
equal_no_colon ts rest s = rw s refl

type_reads : (ts rest after : List Token) → MayBe (IsMark m.Colon ▸ IsMark m.Int) ts rest →
    IsMark m.Equal rest after →
    type_at ts ≡ Some rest
type_reads ts rest after (inl s) equal =
    let a = equal_no_colon ts after (s ∙ equal) in
    rw a (ap some s)
type_reads ts rest after (inr s) equal =
    let a = mark_reads m.Colon ts s.0 s.1 in
    rw a (mark_reads m.Int s.0 rest s.2)

-- ---- parts

-- after a part: no name comes next that would go on with constants, and no end of a node
record IsFresh (rest : List Token) : Type 0 where
  no_constant : at_name rest ≡ None
  after : IsAfterNode rest

end_fresh : IsFresh []
unfolding expect
end_fresh = record { no_constant = refl; after = record { no_semicolon = refl; no_dot = refl } }

const_fresh : (ts rest : List Token) → IsMark m.Const ts rest → IsFresh ts
unfolding expect
const_fresh ts rest s = record {
  no_constant = rw s refl;
  after = record { no_semicolon = rw s refl; no_dot = rw s refl };
}

word_fresh : (f : Bool) (ts rest : List Token) → IsWord f ts rest → IsFresh ts
unfolding expect
word_fresh false ts rest s = record {
  no_constant = rw s refl;
  after = record { no_semicolon = rw s refl; no_dot = rw s refl };
}
word_fresh true ts rest s = record {
  no_constant = rw s refl;
  after = record { no_semicolon = rw s refl; no_dot = rw s refl };
}

part_fresh : (p : Part) (ts rest : List Token) → IsPart p ts rest → IsFresh ts
part_fresh (Constants cs) ts rest s = const_fresh ts s.0 s.1
part_fresh (Single n) ts rest s = word_fresh n.is_function ts s.0 s.1

word_reads : (f : Bool) (ts rest : List Token) → IsWord f ts rest →
    part_by (expect m.Const ts) (expect m.Node ts) (expect m.Function ts) ≡ node_part f rest
unfolding expect
word_reads false ts rest s = rw s refl
word_reads true ts rest s = rw s refl

takes_word : (f : Bool) → Takes 1 (IsWord f)
takes_word false = takes_mark m.Node
takes_word true = takes_mark m.Function

word_is : (f g : Bool) (ts rest : List Token) → f ≡ g → IsWord g ts rest → IsWord f ts rest
word_is f g ts rest e s = subst (λ z. IsWord z ts rest) (sym e) s

constant_read : (ts : List Token) (r : Constant × List Token) → constant_at ts ≡ Some r →
    IsConstant r.0 ts r.1
unfolding constant_at
constant_read ts r h =
    let x = bind_some (name_at ts) _ r h in
    let type = bind_some (type_at x.0.1) _ r x.2 in
    let equal = bind_some (expect m.Equal type.0) _ r type.2 in
    let s = bind_some (static_at equal.0) _ r equal.2 in
    let end = bind_some (expect m.Semicolon s.0.1) _ r s.2 in
    made_is IsConstant ts (record { name = x.0.0; value = s.0.0 }, end.0) r end.2 (
      x.0.1,
      name_read ts x.0 x.1,
      (
        type.0,
        type_is x.0.1 type.0 (expect m.Colon x.0.1) refl type.1,
        (
          equal.0,
          expect_is m.Equal type.0 equal.0 equal.1,
          (s.0.1, static_read equal.0 s.0 s.1, expect_is m.Semicolon s.0.1 end.0 end.1),
        ),
      ),
    )

constant_reads : (c : Constant) (ts rest : List Token) → IsConstant c ts rest →
    constant_at ts ≡ Some (c, rest)
unfolding constant_at
constant_reads c ts rest s =
    let type = s.2 in
    let equal = type.2 in
    let value = equal.2 in
    let semicolon = value.2 in
    let a = name_reads c.name ts s.0 s.1 in
    let b = type_reads s.0 type.0 equal.0 type.1 equal.1 in
    let d = mark_reads m.Equal type.0 equal.0 equal.1 in
    let end = mark_end m.Semicolon value.0 rest refl semicolon in
    let e = static_reads c.value equal.0 value.0 value.1 end in
    let f = mark_reads m.Semicolon value.0 rest semicolon in
    rw (a, b, d, e, f) refl

takes_constant : (c : Constant) → Takes 1 (IsConstant c)
takes_constant c =
    takes_less 3 1 (omega arith) (takes_then (takes_name c.name)
    (takes_then (takes_may (takes_then (takes_mark m.Colon) (takes_mark m.Int)))
    (takes_then (takes_mark m.Equal)
    (takes_then (takes_any (takes_static c.value)) (takes_mark m.Semicolon)))))

constant_laws : GoWith IsNothing IsConstant Anywhere at_name constant_at
constant_laws = record {
  next_is = λ ts start h. at_name_is ts start h;
  item_is = constant_read;
  goes_on = λ c ts start rest s i. rw s (named_at start (c.name, i.0, i.1));
  terminated = λ c ts start rest s i. tt;
  reads = λ c ts rest s end. constant_reads c ts rest s;
  shorter = λ c ts start rest s i.
      let a = takes_nothing.takes ts start s in
      let b = (takes_constant c).takes start rest i in
      omega arith;
}

part_by_read : (ts : List Token) (r : Part × List Token) (a b c : Option (List Token)) →
    expect m.Const ts ≡ a → expect m.Node ts ≡ b → expect m.Function ts ≡ c →
    part_by a b c ≡ Some r → IsPart r.0 ts r.1
part_by_read ts r (Some start) b c is _ _ h =
    let cs = bind_some (constants_at start) _ r h in
    made_is IsPart ts (Constants cs.0.0, cs.0.1) r cs.2
    (start, expect_is m.Const ts start is, list_read constant_laws start cs.0 cs.1)
part_by_read ts r None (Some start) c _ is _ h =
    let n = bind_some (node_at false start) _ r h in
    let spelled = node_read false start n.0 n.1 in
    made_is IsPart ts (Single n.0.0, n.0.1) r n.2 (
      start,
      word_is n.0.0.is_function false ts start spelled.0 (expect_is m.Node ts start is),
      spelled.1,
    )
part_by_read ts r None None (Some start) _ _ is h =
    let n = bind_some (node_at true start) _ r h in
    let spelled = node_read true start n.0 n.1 in
    made_is IsPart ts (Single n.0.0, n.0.1) r n.2 (
      start,
      word_is n.0.0.is_function true ts start spelled.0 (expect_is m.Function ts start is),
      spelled.1,
    )
part_by_read ts r None None None _ _ _ h = absurd cc

part_read : (ts : List Token) (r : Part × List Token) → part_at ts ≡ Some r → IsPart r.0 ts r.1
unfolding part_at
part_read ts r h =
    part_by_read ts r (expect m.Const ts) (expect m.Node ts) (expect m.Function ts)
    refl refl refl h

part_reads : (p : Part) (ts rest : List Token) → IsPart p ts rest → IsFresh rest →
    part_at ts ≡ Some (p, rest)
unfolding part_at
part_reads (Constants cs) ts rest s fresh =
    let a = mark_reads m.Const ts s.0 s.1 in
    let b = list_reads constant_laws cs s.0 rest s.2 tt fresh.no_constant in
    rw (a, b) refl
part_reads (Single n) ts rest s fresh =
    let a = word_reads n.is_function ts s.0 s.1 in
    let b = node_reads n s.0 rest s.2 fresh.after in
    rw a (rw b refl)

takes_part : (p : Part) → Takes 1 (IsPart p)
takes_part (Constants cs) =
    takes_then (takes_mark m.Const) (takes_list takes_nothing takes_constant cs)
takes_part (Single n) = takes_then (takes_word n.is_function) (takes_rest n)

-- ---- programs

parts_read : (n : ℕ) (ts : List Token) (ps : List Part) → parts_at n ts ≡ Some ps →
    AreAny IsPart ps ts []
unfolding parts_at
parts_read zero [] ps h = subst (λ z. AreAny IsPart z [] []) (some_is h) refl
parts_read zero (t ∷ ts) ps h = absurd cc
parts_read (suc n) [] ps h = subst (λ z. AreAny IsPart z [] []) (some_is h) refl
parts_read (suc n) (t ∷ ts) ps h =
    let p = bind_some (part_at (t ∷ ts)) _ ps h in
    let later = bind_some (parts_at n p.0.1) _ ps p.2 in
    subst (λ z. AreAny IsPart z (t ∷ ts) []) (some_is later.2)
    (t ∷ ts, refl, (p.0.1, part_read (t ∷ ts) p.0 p.1, parts_read n p.0.1 later.0 later.1))

parts_fresh : (ps : List Part) (ts : List Token) → AreAny IsPart ps ts [] → IsFresh ts
parts_fresh [] ts s = subst IsFresh (sym s) end_fresh
parts_fresh (p ∷ ps) ts s = subst IsFresh (sym s.1) (part_fresh p s.0 s.2.0 s.2.1)

parts_reads : (n : ℕ) (ps : List Part) (ts : List Token) → length ts ≤ n →
    AreAny IsPart ps ts [] → parts_at n ts ≡ Some ps
unfolding parts_at
parts_reads zero [] ts le s = rw s refl
parts_reads (suc n) [] ts le s = rw s refl
parts_reads n (p ∷ ps) [] le s =
    let lt = (takes_part p).takes s.0 s.2.0 s.2.1 in
    let e = ap length s.1 in
    absurd (omega arith)
parts_reads zero (p ∷ ps) (t ∷ ts) le s = absurd (omega arith)
parts_reads (suc n) (p ∷ ps) (t ∷ ts) le s =
    let lt = (takes_part p).takes s.0 s.2.0 s.2.1 in
    let e = ap length s.1 in
    let a = part_reads p s.0 s.2.0 s.2.1 (parts_fresh ps s.2.0 s.2.2) in
    let a' = ap part_at s.1 ∙ a in
    let b = parts_reads n ps s.2.0 (omega arith) s.2.2 in
    rw (a', b) refl

pub source_read : (ts : List Token) (s : Source) → source_at ts ≡ Some s → Spells s ts
unfolding source_at
source_read ts s h =
    let ps = bind_some (parts_at (length ts) ts) _ s h in
    (ps.0, parts_read (length ts) ts ps.0 ps.1, sym (some_is ps.2))

pub source_reads : (s : Source) (ts : List Token) → Spells s ts → source_at ts ≡ Some s
unfolding source_at
source_reads s ts spelled =
    let a = parts_reads (length ts) spelled.0 ts (omega arith) spelled.1 in
    rw a (ap some (sym spelled.2))

-- tokens spell at most one program
pub source_unique : (s t : Source) (ts : List Token) → Spells s ts → Spells t ts → s ≡ t
source_unique s t ts p q = some_is (sym (source_reads s ts p) ∙ source_reads t ts q)

-- where no program is read, none is spelled
pub source_none : (ts : List Token) → source_at ts ≡ None → (s : Source) → Spells s ts → ⊥
source_none ts h s spelled = let a = source_reads s ts spelled in absurd cc
