-- The spelling of programs, above their expressions.
-- Source: the syntax of the Lustre V6 reference manual (constants, nodes and functions,
-- declarations, equations and assertions, static parameters), narrowed to this project's profile.
use Rattle.std.specs.Prelude.{◌≡◌, Bool, true, false, ◌⊎◌, List, [], ◌∷◌, ◌++◌, map, Option, Some}
use Rattle.std.specs.Prelude.{None}
use Rattle.lb_syntax.specs.declared.token.Mark.TheVariants as m
use Rattle.lb_syntax.specs.declared.token.Token.{Token}
use Rattle.lb_syntax.specs.Tree.{Name, Static, Kind, Int_kind, Bool_kind, Sampling, Declaration}
use Rattle.lb_syntax.specs.Tree.{Statement, Equation, Assertion, Node, Constant, Source}
use Rattle.lb_syntax.specs.Spelling.{Span, ◌▸◌, IsName, IsMark, IsSeparator, IsTail, IsList}
use Rattle.lb_syntax.specs.Spelling.{IsStatic, IsClock, IsSpelled}

-- no tokens
abbrev pub IsNothing : Span
IsNothing ts rest = ts ≡ rest

-- `First` or `Second`
abbrev pub IsEither : Span → Span → Span
IsEither First Second ts rest = First ts rest ⊎ Second ts rest

-- `First`, which may be left out
abbrev pub MayBe : Span → Span
MayBe First = IsEither IsNothing First

-- any number of things, one after the other
abbrev pub AreAny : {A : Type 0} → (A → Span) → List A → Span
AreAny Is = IsTail IsNothing Is

-- ---- declarations

-- `a, b`
abbrev pub AreNames : List Name → Span
AreNames = IsList (IsMark m.Comma) IsName

-- variables of one type and clock as they stand together in the text: `a, b: int^n when c`
pub record Group : Type 0 where
  pub names : List Name
  pub kind : Kind
  pub sizes : List Static
  pub clock : Option Sampling

-- a declaration for each name of a group
abbrev pub declarations : Group → List Declaration
declarations g =
    map (λ x. record { name = x; kind = g.kind; sizes = g.sizes; clock = g.clock }) g.names

-- the declarations of some groups, in their order
abbrev pub declared : List Group → List Declaration
declared [] = []
declared (g ∷ gs) = declarations g ++ declared gs

-- `int`, `bool`
abbrev pub IsKind : Kind → Span
IsKind Int_kind = IsMark m.Int
IsKind Bool_kind = IsMark m.Bool

-- the sizes of a type: `^3^2`
abbrev pub AreSizes : List Static → Span
AreSizes = IsTail (IsMark m.Caret) IsStatic

-- nothing, or `when c`, `when not c`
abbrev pub IsSampling : Option Sampling → Span
IsSampling None = IsNothing
IsSampling (Some c) = IsMark m.When ▸ IsClock c.variable c.sign

-- `a, b: int^n when c`
abbrev pub IsGroup : Group → Span
IsGroup g =
    AreNames g.names ▸ IsMark m.Colon ▸ IsKind g.kind ▸ AreSizes g.sizes ▸ IsSampling g.clock

-- one or more groups with `;` between, and perhaps one at the end
abbrev pub AreGroups : List Group → Span
AreGroups gs = IsList (IsMark m.Semicolon) IsGroup gs ▸ MayBe (IsMark m.Semicolon)

-- the declarations `ds`, spelled as some groups
abbrev pub AreDeclared : List Declaration → Span
AreDeclared ds ts rest = (gs : List Group) × AreGroups gs ts rest × (ds ≡ declared gs)

-- the inputs, if there are any
abbrev pub AreInputs : List Declaration → Span
AreInputs ds ts rest = ((ds ≡ []) × IsNothing ts rest) ⊎ AreDeclared ds ts rest

-- a group and its `;`
abbrev pub IsClosedGroup : Group → Span
IsClosedGroup g = IsGroup g ▸ IsMark m.Semicolon

-- the locals: any number of times `var` and then one or more groups, each with its `;`. So, of all
-- the groups together, `var` stands before the first and may stand before each later one.
abbrev pub AreLocals : List Declaration → Span
AreLocals ds ts rest =
    ((ds ≡ []) × IsNothing ts rest)
    ⊎ ((gs : List Group)
    × (IsMark m.Var ▸ IsList (MayBe (IsMark m.Var)) IsClosedGroup gs) ts rest
    × (ds ≡ declared gs))

-- ---- nodes

-- a static parameter: `const n: int`
abbrev pub IsParameter : Name → Span
IsParameter x = IsMark m.Const ▸ IsName x ▸ IsMark m.Colon ▸ IsMark m.Int

-- nothing, or `<<const n: int, const k: int>>`
abbrev pub AreParameters : List Name → Span
AreParameters [] = IsNothing
AreParameters (x ∷ xs) =
    IsMark m.OpenStatic ▸ IsList IsSeparator IsParameter (x ∷ xs) ▸ IsMark m.CloseStatic

-- the left side of an equation: `a, b` or `(a, b)`
abbrev pub AreLeft : List Name → Span
AreLeft xs = IsEither (AreNames xs) (IsMark m.Open ▸ AreNames xs ▸ IsMark m.Close)

-- `x = e;`, `(x, y) = e;`, `assert e;`
abbrev pub IsStatement : Statement → Span
IsStatement (Equation xs e) = AreLeft xs ▸ IsMark m.Equal ▸ IsSpelled e ▸ IsMark m.Semicolon
IsStatement (Assertion e) = IsMark m.Assert ▸ IsSpelled e ▸ IsMark m.Semicolon

-- the end of a node, after `tel`: nothing, `;` or `.`
abbrev pub IsEnd : Span
IsEnd = MayBe (IsEither (IsMark m.Semicolon) (IsMark m.Dot))

-- `let x = e; assert e; tel`
abbrev pub IsBody : List Statement → Span
IsBody body = IsMark m.Let ▸ AreAny IsStatement body ▸ IsMark m.Tel ▸ IsEnd

-- `f<<const n: int>>(a: int) returns (b: int)`
abbrev pub IsHeading : Node → Span
IsHeading n =
    IsName n.name ▸ AreParameters n.parameters
    ▸ IsMark m.Open ▸ AreInputs n.inputs ▸ IsMark m.Close
    ▸ IsMark m.Returns ▸ IsMark m.Open ▸ AreDeclared n.outputs ▸ IsMark m.Close

-- `node` or `function`
abbrev pub IsWord : Bool → Span
IsWord false = IsMark m.Node
IsWord true = IsMark m.Function

-- a node or a function
abbrev pub IsNode : Node → Span
IsNode n =
    IsWord n.is_function ▸ IsHeading n ▸ MayBe (IsMark m.Semicolon)
    ▸ AreLocals n.locals ▸ IsBody n.body

-- ---- constants and programs

-- `n = s;`, `n: int = s;`
abbrev pub IsConstant : Constant → Span
IsConstant c =
    IsName c.name ▸ MayBe (IsMark m.Colon ▸ IsMark m.Int)
    ▸ IsMark m.Equal ▸ IsStatic c.value ▸ IsMark m.Semicolon

-- a part of a program
pub data Part : Type 0 where
  Constants : List Constant → Part  -- `const n = s; k: int = t;`
  Single : Node → Part  -- a node or a function

abbrev pub IsPart : Part → Span
IsPart (Constants cs) = IsMark m.Const ▸ IsList IsNothing IsConstant cs
IsPart (Single n) = IsNode n

-- the constants, and the nodes and functions, of some parts in their order
abbrev pub constants_of : List Part → List Constant
constants_of [] = []
constants_of (Constants cs ∷ parts) = cs ++ constants_of parts
constants_of (Single n ∷ parts) = constants_of parts

abbrev pub nodes_of : List Part → List Node
nodes_of [] = []
nodes_of (Constants cs ∷ parts) = nodes_of parts
nodes_of (Single n ∷ parts) = n ∷ nodes_of parts

abbrev pub source_of : List Part → Source
source_of parts = record { constants = constants_of parts; nodes = nodes_of parts }

-- all of `tokens` spell the program `s`: any number of parts in any order
abbrev pub Spells : Source → List Token → Type 0
Spells s tokens = (parts : List Part) × AreAny IsPart parts tokens [] × (s ≡ source_of parts)
