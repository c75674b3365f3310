-- Declarations: what is read is spelled, and what is spelled is read.
use Rattle.std.proofs.Common.{◌≡◌, ◌⊎◌, inl, inr, Bool, true, false, List, [], ◌∷◌, Option, Some}
use Rattle.std.proofs.Common.{None, refl, ap, sym, ◌∙◌, subst, arith}
use Rattle.std.proofs.lemmas.Option.{cond_some}
use Rattle.lb_syntax.specs.declared.token.Mark.{Mark}
use Rattle.lb_syntax.specs.declared.token.Mark.TheVariants as m
use Rattle.lb_syntax.specs.declared.token.Token.{Token}
use Rattle.lb_syntax.specs.Levels.{arithmetic_of}
use Rattle.lb_syntax.specs.Tree.{Name, Static, Kind, Int_kind, Bool_kind, Sampling, Declaration}
use Rattle.lb_syntax.specs.Spelling.{Span, ◌▸◌, IsName, IsMark, IsList, IsStatic, IsClockName}
use Rattle.lb_syntax.specs.Spelling.{IsClock}
use Rattle.lb_syntax.specs.Grammar.{Group, MayBe, AreNames, IsKind, IsSampling, IsGroup, AreGroups}
use Rattle.lb_syntax.specs.Grammar.{AreDeclared, AreInputs, IsClosedGroup, AreLocals, declared}
use Rattle.lb_syntax.specs.Readers.{expect, name_at}
use Rattle.lb_syntax.specs.Reading.{list_at, static_at, clock_at}
use Rattle.lb_syntax.specs.ListReading.{at_name, skip, skip_by, local_by, at_next_group}
use Rattle.lb_syntax.specs.ListReading.{at_next_local, any_at}
use Rattle.lb_syntax.specs.Programs.{names_at, kind_by, kind_at, when_by, when_at, group_at}
use Rattle.lb_syntax.specs.Programs.{groups_at, inputs_by, inputs_at, closed_group_at, locals_by}
use Rattle.lb_syntax.specs.Programs.{locals_at}
use Rattle.lb_syntax.proofs.Readers.{some, bind_some, expect_is, name_read}
use Rattle.lb_syntax.proofs.Spans.{made_is, mark_reads, name_reads, Takes, takes_mark, takes_name}
use Rattle.lb_syntax.proofs.Spans.{takes_nothing, takes_then, takes_either, takes_may, takes_tail}
use Rattle.lb_syntax.proofs.Spans.{takes_list, takes_less, takes_any}
use Rattle.lb_syntax.proofs.ListLaws.{GoWith, any_read, list_read, any_reads, list_reads}
use Rattle.lb_syntax.proofs.Sound.{static_read, clock_read}
use Rattle.lb_syntax.proofs.Ends.{EndsStatic}
use Rattle.lb_syntax.proofs.StaticComplete.{static_reads, static_shorter, clock_reads}

-- the condition on the tokens after a thing that is read whatever follows it
abbrev pub Anywhere : List Token → Type 0
Anywhere ts = Unit {0}

-- ---- names

pub name_laws : GoWith (IsMark m.Comma) IsName Anywhere (expect m.Comma) name_at
unfolding at_next_group at_next_local
name_laws = record {
  next_is = λ ts start h. expect_is m.Comma ts start h;
  item_is = name_read;
  goes_on = λ x ts start rest s i. mark_reads m.Comma ts start s;
  terminated = λ x ts start rest s i. tt;
  reads = λ x ts rest s c. name_reads x ts rest s;
  shorter = λ x ts start rest s i.
      let a = (takes_mark m.Comma).takes ts start s in
      let b = (takes_name x).takes start rest i in
      omega arith;
}

pub names_read : (ts : List Token) (r : List Name × List Token) → names_at ts ≡ Some r →
    AreNames r.0 ts r.1
names_read ts r h = list_read name_laws ts r h

-- a spelled list of names is read, where no comma follows it
pub names_reads : (xs : List Name) (ts rest : List Token) → AreNames xs ts rest →
    expect m.Comma rest ≡ None → names_at ts ≡ Some (xs, rest)
names_reads xs ts rest s stop = list_reads name_laws xs ts rest s tt stop

pub takes_names : (xs : List Name) → Takes 0 (AreNames xs)
takes_names xs = takes_list (takes_mark m.Comma) takes_name xs

-- ---- kinds

pub kind_read : (ts : List Token) (r : Kind × List Token) → kind_at ts ≡ Some r → IsKind r.0 ts r.1
unfolding kind_at
kind_read ts r h = by_marks (expect m.Int ts) (expect m.Bool ts) refl refl h
  where
    by_marks : (o p : Option (List Token)) → expect m.Int ts ≡ o → expect m.Bool ts ≡ p →
        kind_by o p ≡ Some r → IsKind r.0 ts r.1
    by_marks (Some rest) p is not h =
        made_is IsKind ts (Int_kind, rest) r h (expect_is m.Int ts rest is)
    by_marks None (Some rest) is not h =
        made_is IsKind ts (Bool_kind, rest) r h (expect_is m.Bool ts rest not)
    by_marks None None is not h = absurd cc

pub kind_reads : (k : Kind) (ts rest : List Token) → IsKind k ts rest → kind_at ts ≡ Some (k, rest)
unfolding kind_at expect
kind_reads Int_kind ts rest s = rw s refl
kind_reads Bool_kind ts rest s = rw s refl

pub takes_kind : (k : Kind) → Takes 1 (IsKind k)
takes_kind Int_kind = takes_mark m.Int
takes_kind Bool_kind = takes_mark m.Bool

-- ---- static expressions and clocks

pub takes_static : (s : Static) → Takes 1 (IsStatic s)
takes_static s = record {
  takes = λ ts rest is. let lt = static_shorter s ts rest is in omega arith;
}

takes_clock_name : (x : Name) → Takes 1 (IsClockName x)
takes_clock_name x =
    takes_either (takes_name x)
    (takes_less 3 1 (omega arith)
    (takes_then (takes_mark m.Open) (takes_then (takes_name x) (takes_mark m.Close))))

takes_clock : (x : Name) (sign : Bool) → Takes 0 (IsClock x sign)
takes_clock x true = takes_any (takes_clock_name x)
takes_clock x false = takes_any (takes_then (takes_mark m.Not) (takes_clock_name x))

-- ---- the tokens after a declaration

-- `;` or `)` comes next
abbrev pub IsGroupEnd : List Token → Type 0
IsGroupEnd rest = (after : List Token) × (IsMark m.Semicolon rest after ⊎ IsMark m.Close rest after)

static_end : (rest : List Token) → IsGroupEnd rest → EndsStatic rest
static_end rest (after, inl s) = rw s refl
static_end rest (after, inr s) = rw s refl

pub mark_end : (k : Mark) (ts rest : List Token) → arithmetic_of k ≡ None → IsMark k ts rest →
    EndsStatic ts
mark_end k ts rest none s = rw s (rw none refl)

no_when : (rest : List Token) → IsGroupEnd rest → expect m.When rest ≡ None
unfolding expect
no_when rest (after, inl s) = rw s refl
no_when rest (after, inr s) = rw s refl

no_caret : (rest : List Token) → IsGroupEnd rest → expect m.Caret rest ≡ None
unfolding at_next_group at_next_local expect
no_caret rest (after, inl s) = rw s refl
no_caret rest (after, inr s) = rw s refl

no_caret_when : (ts rest : List Token) → IsMark m.When ts rest → expect m.Caret ts ≡ None
unfolding at_next_group at_next_local expect
no_caret_when ts rest s = rw s refl

no_comma_colon : (ts rest : List Token) → IsMark m.Colon ts rest → expect m.Comma ts ≡ None
unfolding at_next_group at_next_local expect
no_comma_colon ts rest s = rw s refl

-- ---- groups begin with a name

abbrev pub IsNamed : List Token → Type 0
IsNamed ts = (x : Name) × (after : List Token) × IsName x ts after

pub names_begin : (xs : List Name) (ts rest : List Token) → AreNames xs ts rest → IsNamed ts
names_begin [] ts rest s = absurd s
names_begin (x ∷ xs) ts rest s = (x, s.0, s.1)

group_begins : (g : Group) (ts rest : List Token) → IsGroup g ts rest → IsNamed ts
group_begins g ts rest s = names_begin g.names ts s.0 s.1

pub named_at : (ts : List Token) → IsNamed ts → at_name ts ≡ Some ts
named_at ts s = rw s.2 refl

pub named_no_mark : (k : Mark) (ts : List Token) → IsNamed ts → expect k ts ≡ None
unfolding expect
named_no_mark k ts s = rw s.2 refl

pub at_name_is : (ts start : List Token) → at_name ts ≡ Some start → ts ≡ start
at_name_is ts start h = (cond_some _ ts start h).1

skip_is : (k : Mark) (ts : List Token) (o : Option (List Token)) → expect k ts ≡ o →
    MayBe (IsMark k) ts (skip_by o ts)
skip_is k ts None is = inl refl
skip_is k ts (Some rest) is = inr (expect_is k ts rest is)

pub skip_read : (k : Mark) (ts : List Token) → MayBe (IsMark k) ts (skip k ts)
skip_read k ts = skip_is k ts (expect k ts) refl

pub skip_reads : (k : Mark) (ts rest : List Token) → MayBe (IsMark k) ts rest →
    expect k rest ≡ None → skip k ts ≡ rest
skip_reads k ts rest (inl s) none = rw s (rw none refl)
skip_reads k ts rest (inr s) none = let e = mark_reads k ts rest s in rw e refl

-- ---- clocks and sizes

when_by_read : (ts : List Token) (r : Option Sampling × List Token) (o : Option (List Token)) →
    expect m.When ts ≡ o →
    when_by o ts ≡ Some r → IsSampling r.0 ts r.1
when_by_read ts r None is h = made_is IsSampling ts (None, ts) r h refl
when_by_read ts r (Some clock) is h =
    let c = bind_some (clock_at clock) _ r h in
    made_is IsSampling ts (Some (record { variable = c.0.0.0; sign = c.0.0.1 }), c.0.1) r c.2
    (clock, expect_is m.When ts clock is, clock_read clock c.0 c.1)

pub when_read : (ts : List Token) (r : Option Sampling × List Token) → when_at ts ≡ Some r →
    IsSampling r.0 ts r.1
unfolding when_at
when_read ts r h = when_by_read ts r (expect m.When ts) refl h

pub when_reads : (c : Option Sampling) (ts rest : List Token) → IsSampling c ts rest →
    IsGroupEnd rest → when_at ts ≡ Some (c, rest)
unfolding when_at
when_reads None ts rest s end = let e = no_when rest end in rw s (rw e refl)
when_reads (Some c) ts rest s end =
    let a = mark_reads m.When ts s.0 s.1 in
    let b = clock_reads c.variable c.sign s.0 rest s.2 in
    rw (a, b) refl

pub takes_when : (c : Option Sampling) → Takes 0 (IsSampling c)
takes_when None = takes_nothing
takes_when (Some c) =
    takes_any (takes_then (takes_mark m.When) (takes_clock c.variable c.sign))

-- a static expression ends before a clock, and before the end of a group
when_end : (c : Option Sampling) (ts rest : List Token) → IsSampling c ts rest →
    IsGroupEnd rest → EndsStatic ts
when_end None ts rest s end = subst EndsStatic (sym s) (static_end rest end)
when_end (Some c) ts rest s end = mark_end m.When ts s.0 refl s.1

when_no_caret : (c : Option Sampling) (ts rest : List Token) → IsSampling c ts rest →
    IsGroupEnd rest → expect m.Caret ts ≡ None
when_no_caret None ts rest s end = rw s (no_caret rest end)
when_no_caret (Some c) ts rest s end = no_caret_when ts s.0 s.1

size_laws : GoWith (IsMark m.Caret) IsStatic EndsStatic (expect m.Caret) static_at
unfolding at_next_group at_next_local
size_laws = record {
  next_is = λ ts start h. expect_is m.Caret ts start h;
  item_is = static_read;
  goes_on = λ x ts start rest s i. mark_reads m.Caret ts start s;
  terminated = λ x ts start rest s i. mark_end m.Caret ts start refl s;
  reads = static_reads;
  shorter = λ x ts start rest s i.
      let a = (takes_mark m.Caret).takes ts start s in
      let b = (takes_static x).takes start rest i in
      omega arith;
}

-- ---- groups

pub group_read : (ts : List Token) (r : Group × List Token) → group_at ts ≡ Some r →
    IsGroup r.0 ts r.1
unfolding group_at
group_read ts r h =
    let names = bind_some (names_at ts) _ r h in
    let colon = bind_some (expect m.Colon names.0.1) _ r names.2 in
    let kind = bind_some (kind_at colon.0) _ r colon.2 in
    let sizes = bind_some (any_at (expect m.Caret) static_at kind.0.1) _ r kind.2 in
    let clock = bind_some (when_at sizes.0.1) _ r sizes.2 in
    let made : Group = record {
      names = names.0.0;
      kind = kind.0.0;
      sizes = sizes.0.0;
      clock = clock.0.0;
    } in
    made_is IsGroup ts (made, clock.0.1) r clock.2 (
      names.0.1,
      names_read ts names.0 names.1,
      (
        colon.0,
        expect_is m.Colon names.0.1 colon.0 colon.1,
        (
          kind.0.1,
          kind_read colon.0 kind.0 kind.1,
          (
            sizes.0.1,
            any_read size_laws kind.0.1 sizes.0 sizes.1,
            when_read sizes.0.1 clock.0 clock.1,
          ),
        ),
      ),
    )

pub group_reads : (g : Group) (ts rest : List Token) → IsGroup g ts rest → IsGroupEnd rest →
    group_at ts ≡ Some (g, rest)
unfolding group_at
group_reads g ts rest s end =
    let colon = s.2 in
    let kind = colon.2 in
    let sizes = kind.2 in
    let a = names_reads g.names ts s.0 s.1 (no_comma_colon s.0 colon.0 colon.1) in
    let b = mark_reads m.Colon s.0 colon.0 colon.1 in
    let c = kind_reads g.kind colon.0 kind.0 kind.1 in
    let d = any_reads size_laws g.sizes kind.0 sizes.0 sizes.1
    (when_end g.clock sizes.0 rest sizes.2 end)
    (when_no_caret g.clock sizes.0 rest sizes.2 end) in
    let e = when_reads g.clock sizes.0 rest sizes.2 end in
    rw (a, b, c, d, e) refl

pub takes_group : (g : Group) → Takes 1 (IsGroup g)
takes_group g =
    takes_less 2 1 (omega arith)
    (takes_then (takes_names g.names)
    (takes_then (takes_mark m.Colon)
    (takes_then (takes_kind g.kind)
    (takes_then (takes_tail (takes_mark m.Caret) takes_static g.sizes)
    (takes_when g.clock)))))

-- ---- lists of groups

group_laws : GoWith (IsMark m.Semicolon) IsGroup IsGroupEnd at_next_group group_at
unfolding at_next_group at_next_local
group_laws = record {
  next_is = λ ts start h.
      let a = bind_some (expect m.Semicolon ts) at_name start h in
      expect_is m.Semicolon ts start (a.1 ∙ ap some (at_name_is a.0 start a.2));
  item_is = group_read;
  goes_on = λ x ts start rest s i.
      let a = mark_reads m.Semicolon ts start s in
      let b = named_at start (group_begins x start rest i) in
      rw (a, b) refl;
  terminated = λ x ts start rest s i. (start, inl s);
  reads = group_reads;
  shorter = λ x ts start rest s i.
      let a = (takes_mark m.Semicolon).takes ts start s in
      let b = (takes_group x).takes start rest i in
      omega arith;
}

pub groups_read : (ts : List Token) (r : List Group × List Token) → groups_at ts ≡ Some r →
    AreGroups r.0 ts r.1
unfolding groups_at
groups_read ts r h =
    let gs = bind_some (list_at at_next_group group_at ts) _ r h in
    made_is AreGroups ts (gs.0.0, skip m.Semicolon gs.0.1) r gs.2
    (gs.0.1, list_read group_laws ts gs.0 gs.1, skip_read m.Semicolon gs.0.1)

no_group : (end rest after : List Token) → MayBe (IsMark m.Semicolon) end rest →
    IsMark m.Close rest after →
    at_next_group end ≡ None
unfolding at_next_group at_next_local expect
no_group end rest after (inl s) close = rw (s, close) refl
no_group end rest after (inr s) close = rw s (rw close refl)

groups_end : (end rest after : List Token) → MayBe (IsMark m.Semicolon) end rest →
    IsMark m.Close rest after → IsGroupEnd end
groups_end end rest after (inl s) close = (after, inr (s ∙ close))
groups_end end rest after (inr s) close = (rest, inl s)

no_semicolon : (ts rest : List Token) → IsMark m.Close ts rest → expect m.Semicolon ts ≡ None
unfolding expect
no_semicolon ts rest s = rw s refl

-- spelled groups are read, where `)` follows them
pub groups_reads : (gs : List Group) (ts rest after : List Token) → AreGroups gs ts rest →
    IsMark m.Close rest after →
    groups_at ts ≡ Some (gs, rest)
unfolding groups_at
groups_reads gs ts rest after s close =
    let a = list_reads group_laws gs ts s.0 s.1
    (groups_end s.0 rest after s.2 close) (no_group s.0 rest after s.2 close) in
    let b = skip_reads m.Semicolon s.0 rest s.2 (no_semicolon rest after close) in
    rw a (ap (λ z. Some (gs, z)) b)

list_begins : (gs : List Group) (ts rest : List Token) (Separates : Span) →
    IsList Separates IsGroup gs ts rest → IsNamed ts
list_begins [] ts rest Separates s = absurd s
list_begins (g ∷ gs) ts rest Separates s = group_begins g ts s.0 s.1

inputs_by_read : (ts : List Token) (r : List Group × List Token) (o : Option (List Token)) →
    inputs_by o ts ≡ Some r →
    AreInputs (declared r.0) ts r.1
inputs_by_read ts r (Some after) h =
    made_is (λ gs. AreInputs (declared gs)) ts ([], ts) r h (inl (refl, refl))
inputs_by_read ts r None h = inr (r.0, groups_read ts r h, refl)

pub inputs_read : (ts : List Token) (r : List Group × List Token) → inputs_at ts ≡ Some r →
    AreInputs (declared r.0) ts r.1
unfolding inputs_at
inputs_read ts r h = inputs_by_read ts r (expect m.Close ts) h

pub inputs_reads : (ds : List Declaration) (ts rest after : List Token) → AreInputs ds ts rest →
    IsMark m.Close rest after →
    (gs : List Group) × (inputs_at ts ≡ Some (gs, rest)) × (ds ≡ declared gs)
unfolding inputs_at
inputs_reads ds ts rest after (inl s) close =
    let a = mark_reads m.Close ts after (s.1 ∙ close) in
    ([], rw a (ap (λ z. Some ([], z)) s.1), s.0)
inputs_reads ds ts rest after (inr s) close =
    let a = named_no_mark m.Close ts (list_begins s.0 ts s.1.0 _ s.1.1) in
    (s.0, rw a (groups_reads s.0 ts rest after s.1 close), s.2)

-- ---- locals

closed_read : (ts : List Token) (r : Group × List Token) → closed_group_at ts ≡ Some r →
    IsClosedGroup r.0 ts r.1
unfolding closed_group_at
closed_read ts r h =
    let g = bind_some (group_at ts) _ r h in
    let rest = bind_some (expect m.Semicolon g.0.1) _ r g.2 in
    made_is IsClosedGroup ts (g.0.0, rest.0) r rest.2
    (g.0.1, group_read ts g.0 g.1, expect_is m.Semicolon g.0.1 rest.0 rest.1)

closed_reads : (g : Group) (ts rest : List Token) → IsClosedGroup g ts rest →
    closed_group_at ts ≡ Some (g, rest)
unfolding closed_group_at
closed_reads g ts rest s =
    let a = group_reads g ts s.0 s.1 (rest, inl s.2) in
    let b = mark_reads m.Semicolon s.0 rest s.2 in
    rw (a, b) refl

local_is : (ts start : List Token) (o : Option (List Token)) → expect m.Var ts ≡ o →
    local_by o ts ≡ Some start → MayBe (IsMark m.Var) ts start
local_is ts start None is h = inl (at_name_is ts start h)
local_is ts start (Some rest) is h = inr (expect_is m.Var ts start (is ∙ h))

var_next : (ts start : List Token) → MayBe (IsMark m.Var) ts start → IsNamed start →
    local_by (expect m.Var ts) ts ≡ Some start
var_next ts start (inl s) is =
    let a = named_no_mark m.Var start is in
    rw s (rw a (named_at start is))
var_next ts start (inr s) is = let e = mark_reads m.Var ts start s in rw e refl

takes_closed : (g : Group) → Takes 2 (IsClosedGroup g)
takes_closed g = takes_then (takes_group g) (takes_mark m.Semicolon)

closed_laws : GoWith (MayBe (IsMark m.Var)) IsClosedGroup Anywhere at_next_local closed_group_at
unfolding at_next_group at_next_local
closed_laws = record {
  next_is = λ ts start h. local_is ts start (expect m.Var ts) refl h;
  item_is = closed_read;
  goes_on = λ x ts start rest s i. var_next ts start s (group_begins x start i.0 i.1);
  terminated = λ x ts start rest s i. tt;
  reads = λ x ts rest s c. closed_reads x ts rest s;
  shorter = λ x ts start rest s i.
      let a = (takes_may (takes_mark m.Var)).takes ts start s in
      let b = (takes_closed x).takes start rest i in
      omega arith;
}

locals_by_read : (ts : List Token) (r : List Group × List Token) (o : Option (List Token)) →
    expect m.Var ts ≡ o →
    locals_by o ts ≡ Some r → AreLocals (declared r.0) ts r.1
locals_by_read ts r None is h =
    made_is (λ gs. AreLocals (declared gs)) ts ([], ts) r h (inl (refl, refl))
locals_by_read ts r (Some start) is h =
    let all = list_read closed_laws start r h in
    inr (r.0, (start, expect_is m.Var ts start is, all), refl)

pub locals_read : (ts : List Token) (r : List Group × List Token) → locals_at ts ≡ Some r →
    AreLocals (declared r.0) ts r.1
unfolding locals_at
locals_read ts r h = locals_by_read ts r (expect m.Var ts) refl h

no_var : (ts rest : List Token) → IsMark m.Let ts rest → expect m.Var ts ≡ None
unfolding expect
no_var ts rest s = rw s refl

no_local : (ts rest : List Token) → IsMark m.Let ts rest → at_next_local ts ≡ None
unfolding at_next_group at_next_local expect
no_local ts rest s = rw s refl

-- spelled locals are read, where `let` follows them
pub locals_reads : (ds : List Declaration) (ts rest after : List Token) → AreLocals ds ts rest →
    IsMark m.Let rest after →
    (gs : List Group) × (locals_at ts ≡ Some (gs, rest)) × (ds ≡ declared gs)
unfolding locals_at
locals_reads ds ts rest after (inl s) body =
    let a = no_var ts after (s.1 ∙ body) in
    ([], rw a (ap (λ z. Some ([], z)) s.1), s.0)
locals_reads ds ts rest after (inr s) body =
    let a = mark_reads m.Var ts s.1.0 s.1.1 in
    let b = list_reads closed_laws s.0 s.1.0 rest s.1.2 tt (no_local rest after body) in
    (s.0, rw a b, s.2)

-- ---- the numbers of tokens of declarations

takes_groups : (gs : List Group) → Takes 0 (AreGroups gs)
takes_groups gs =
    takes_then (takes_list (takes_mark m.Semicolon) takes_group gs)
    (takes_may (takes_mark m.Semicolon))

pub takes_declared : (ds : List Declaration) → Takes 0 (AreDeclared ds)
takes_declared ds = record { takes = λ ts rest s. (takes_groups s.0).takes ts rest s.1 }

pub takes_inputs : (ds : List Declaration) → Takes 0 (AreInputs ds)
takes_inputs ds = record {
  takes = λ ts rest s. elim s [
    | inl a ↦ takes_nothing.takes ts rest a.1
    | inr b ↦ (takes_declared ds).takes ts rest b
  ];
}

takes_vars : (gs : List Group) →
    Takes 1 (IsMark m.Var ▸ IsList (MayBe (IsMark m.Var)) IsClosedGroup gs)
takes_vars gs =
    takes_then (takes_mark m.Var) (takes_list (takes_may (takes_mark m.Var)) takes_closed gs)

pub takes_locals : (ds : List Declaration) → Takes 0 (AreLocals ds)
takes_locals ds = record {
  takes = λ ts rest s. elim s [
    | inl a ↦ takes_nothing.takes ts rest a.1
    | inr b ↦ (takes_any (takes_vars b.0)).takes ts rest b.1
  ];
}
