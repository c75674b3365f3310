-- The types of the results of each part of a term, as a walk over the term finds them, and the part
-- of them that is kept.
-- This file mirrors code (src/types.rt, src/part_types.rt, src/type_rules.rt, src/judged_types.rt
-- and src/found_types.rt); no definition of the language stands on it.
use Rattle.std.specs.Prelude.{◌≡◌, ◌≢◌, ℕ, ◌-◌, ◌<◌, Bool, false, min, nat_eq, Option, Some, None}
use Rattle.std.specs.Prelude.{List, Vec, [], ◌∷◌, ◌++◌, flat_map, length, map, reverse, take, drop}
use Rattle.std.specs.Prelude.{slice_get, sum_by, if◌then◌else◌}
use Rattle.std.specs.Global.{Global}
use Rattle.lb_syntax.specs.Lists.{either_or, listed}
use Rattle.lb_syntax.specs.declared.tree.Kind.{Kind}
use Rattle.lb_static.specs.declared.reachable.Reached.{Reached}
use Rattle.lb_static.specs.declared.table.Specialization.{Specialization}
use Rattle.lb_static.specs.declared.table.Table.{Table}
use Rattle.lb_static.specs.DataTypes.{DataType, int, product, total}
use Rattle.lb_static.specs.StoredTypes.{view_type}
use Rattle.lb_static.specs.declared.resolved.ResolvedNode.{ResolvedNode}
use Rattle.lb_static.specs.declared.resolved.ResolvedStatement.{ResolvedStatement}
use Rattle.lb_static.specs.declared.resolved.ResolvedStatement.TheVariants as statement
use Rattle.lb_static.specs.declared.resolved.Term.{Term, Literal, Truth, Variable, Value, Group'}
use Rattle.lb_static.specs.declared.resolved.Term.{Unary', Binary', If', Arrow', Fby', Pre'}
use Rattle.lb_static.specs.declared.resolved.Term.{Current', When', Replicate', Index', Slice'}
use Rattle.lb_static.specs.declared.resolved.Term.{Join', Array', AtMostOne', Nor', Call'}
use Rattle.lb_static.specs.declared.resolved.Term.{IterateNode', IterateSymbol', Row_of-Term}
use Rattle.lb_static.specs.declared.resolved.Term.{end_of-Term, more_of-Term}
use Rattle.lb_check.specs.TermTypes.{Context, context_of, is_resolved_statement_typed}
use Rattle.lb_check.specs.TermTypes.{results, type_of}
use Rattle.lb_check.specs.Types.{only}
use Rattle.lb_check.specs.declared.found_types.NodeTypes.{NodeTypes}
use Rattle.lb_check.specs.declared.found_types.TermType.{TermType}
use Rattle.lb_check.specs.declared.part_types.PartType.{PartType}
use Rattle.lb_check.specs.declared.part_types.PartTypes.{PartTypes}

-- the types of the results of a term, or none where a rule of types is broken
abbrev pub FoundTypes : Type 0
FoundTypes = Option (List DataType)

unfoldable mutual
  -- the found types of a term and of its parts, in text order, parentheses apart
  pub placed_types : Context → Term → List FoundTypes
  placed_types ctx (Literal n) = results ctx (Literal n) ∷ []
  placed_types ctx (Truth b) = results ctx (Truth b) ∷ []
  placed_types ctx (Variable x) = results ctx (Variable x) ∷ []
  placed_types ctx (Value i) = results ctx (Value i) ∷ []
  placed_types ctx (Group' p e) = placed_types ctx e
  placed_types ctx (Unary' op p a) = results ctx (Unary' op p a) ∷ placed_types ctx a
  placed_types ctx (Binary' op p a q b) =
      results ctx (Binary' op p a q b) ∷ (placed_types ctx a ++ placed_types ctx b)
  placed_types ctx (If' p c q a r b) =
      results ctx (If' p c q a r b)
      ∷ (placed_types ctx c ++ (placed_types ctx a ++ placed_types ctx b))
  placed_types ctx (Arrow' p a q b) =
      results ctx (Arrow' p a q b) ∷ (placed_types ctx a ++ placed_types ctx b)
  placed_types ctx (Fby' p a q b) =
      results ctx (Fby' p a q b) ∷ (placed_types ctx a ++ placed_types ctx b)
  placed_types ctx (Pre' p e) = results ctx (Pre' p e) ∷ placed_types ctx e
  placed_types ctx (Current' p e) = results ctx (Current' p e) ∷ placed_types ctx e
  placed_types ctx (When' p e x sign) = results ctx (When' p e x sign) ∷ placed_types ctx e
  placed_types ctx (Replicate' p e n) = results ctx (Replicate' p e n) ∷ placed_types ctx e
  placed_types ctx (Index' p e i) = results ctx (Index' p e i) ∷ placed_types ctx e
  placed_types ctx (Slice' p e i j) = results ctx (Slice' p e i j) ∷ placed_types ctx e
  placed_types ctx (Join' p a q b) =
      results ctx (Join' p a q b) ∷ (placed_types ctx a ++ placed_types ctx b)
  placed_types ctx (Array' arity all) =
      results ctx (Array' arity all) ∷ placed_row_types ctx all
  placed_types ctx (AtMostOne' arity all) =
      results ctx (AtMostOne' arity all) ∷ placed_row_types ctx all
  placed_types ctx (Nor' arity all) = results ctx (Nor' arity all) ∷ placed_row_types ctx all
  placed_types ctx (Call' c arity all) =
      results ctx (Call' c arity all) ∷ placed_row_types ctx all
  placed_types ctx (IterateNode' it c arity all) =
      results ctx (IterateNode' it c arity all) ∷ placed_row_types ctx all
  placed_types ctx (IterateSymbol' it op n arity all) =
      results ctx (IterateSymbol' it op n arity all) ∷ placed_row_types ctx all

  pub placed_row_types : {m : _} → Context → Row_of-Term m → List FoundTypes
  placed_row_types ctx end_of-Term = []
  placed_row_types ctx (more_of-Term e rest) = placed_types ctx e ++ placed_row_types ctx rest

abbrev pub statement_types : Context → ResolvedStatement → List FoundTypes
statement_types ctx (statement.Equation lefts e) = placed_types ctx e
statement_types ctx (statement.Assertion e) = placed_types ctx e

-- the found types of all terms of a node
abbrev pub node_types : Context → ResolvedNode → List FoundTypes
node_types ctx n = flat_map (statement_types ctx) n.body.items

-- the found types of a list of terms and their parts
abbrev pub placed_all_types : Context → List Term → List FoundTypes
placed_all_types ctx es = flat_map (placed_types ctx) es

-- the found types of all terms of the node of a specialization
abbrev pub specialization_types : Reached → Table → Specialization → List FoundTypes
specialization_types r t s =
    listed (λ (n : ResolvedNode). node_types (context_of r t n s) n)
    (slice_get r.nodes.items s.node.0)

-- ## A walk over a term

-- the one type of a list, or `int` where there is not one
abbrev pub type_among : List DataType → DataType
type_among ts = either_or (only ts) int

-- the number of scalar elements with which a term counts, up to 65,537
abbrev pub part_size : FoundTypes → ℕ
part_size o = min (total (either_or o [])) 65537

-- a term that is kept: its type, and the number of its scalar elements
pub record FoundPart : Type 0 where
  pub data_type : DataType
  pub elements : ℕ

abbrev pub found_part : FoundTypes → FoundPart
found_part o = record { data_type = type_among (either_or o []); elements = part_size o }

-- the number of scalar elements that are left before they are too many, and the terms that are
-- kept: none where there are too many
pub record Kept : Type 0 where
  pub left : ℕ
  pub found : List FoundPart

abbrev pub part_in : PartType → FoundPart
part_in p = record { data_type = view_type p.data_type; elements = p.elements }

abbrev pub kept_in : PartTypes → Kept
kept_in k = record { left = k.left; found = map part_in k.found.items }

-- `k` with one more term
abbrev pub noted_part : Kept → FoundPart → Kept
noted_part k p = record {
  left = k.left - p.elements;
  found = if nat_eq (k.left - p.elements) 0 then [] else (k.found ++ (p ∷ []));
}

abbrev pub noted : Kept → FoundTypes → Kept
noted k o = noted_part k (found_part o)

-- `k` with more terms, the last one first
abbrev pub kept : Kept → List FoundTypes → Kept
kept k [] = k
kept k (o ∷ os) = noted (kept k os) o

-- a term counts with `size` elements, as long as elements are counted
abbrev pub IsCounted : (left n size : ℕ) → Type 0
IsCounted left n size = 0 < left → n ≡ size

-- a walk over a term notes its parts, the last one first, and finds its type
abbrev pub IsWalked : Context → Term → (before after : Kept) → Option DataType → Type 0
IsWalked ctx e before after own =
    (own ≡ type_of ctx e) × (after ≡ kept before (placed_types ctx e))

-- a walk over a right side notes its parts, the last one first, and finds the types of its results
abbrev pub IsSideWalked : Context → Term → (before after : Kept) → FoundTypes → Type 0
IsSideWalked ctx e before after given =
    (given ≡ results ctx e) × (after ≡ kept before (placed_types ctx e))

-- a walk over a statement notes the parts of its right side, and finds whether it keeps the rules
-- of types
abbrev pub IsStatementWalked :
    Context → ResolvedStatement → (before after : Kept) → (typed : Bool) → Type 0
IsStatementWalked ctx s before after typed =
    (typed ≡ is_resolved_statement_typed ctx s) × (after ≡ kept before (statement_types ctx s))

-- a walk over terms in a row notes their parts, the last one first, and finds `given` from their
-- types
abbrev pub IsRowWalked :
    {A : Type 0} → Context → List Term → (before after : Kept) → A →
    (List (Option DataType) → A) → Type 0
IsRowWalked ctx es before after given of =
    (given ≡ of (map (type_of ctx) es)) × (after ≡ kept before (placed_all_types ctx es))

-- the last `seen` operands of a row, such as the last two of `[a, b, c]`, do not fit, and no part
-- is kept any more
abbrev pub IsDecided : (seen : ℕ) (fit : Bool) (left : ℕ) → Type 0
IsDecided seen fit left = (0 < seen) × (fit ≡ false) × (left ≡ 0)

-- ## The types that are kept

-- a found node: the rows of its terms, and the sizes of their types
pub record FoundNode : Type 0 where
  pub terms : List TermType
  pub sizes : List ℕ

abbrev pub found_in : NodeTypes → FoundNode
found_in f = record { terms = f.terms.items; sizes = f.sizes.items }

abbrev pub nothing_found : FoundNode
nothing_found = record { terms = []; sizes = [] }

-- `f` with one more term, of kind `kind`, with the sizes `ns`, the outermost last, and `n` elements
abbrev pub with_row : FoundNode → Kind → List ℕ → ℕ → FoundNode
with_row f kind ns n = record {
  terms =
      f.terms
      ++ (record {
        kind = kind;
        elements = n;
        first = length f.sizes;
        rank = length ns;
      } ∷ []);
  sizes = f.sizes ++ ns;
}

-- `f` with one more term that is kept
abbrev pub with_part : FoundNode → FoundPart → FoundNode
with_part f p = with_row f p.data_type.kind (reverse p.data_type.sizes) p.elements

abbrev pub with_parts : FoundNode → List FoundPart → FoundNode
with_parts f [] = f
with_parts f (p ∷ ps) = with_parts (with_part f p) ps

-- `f` with one more term, whose results have the types `ts`
abbrev pub with_types : FoundNode → List DataType → FoundNode
with_types f ts =
    with_row f (type_among ts).kind (reverse (type_among ts).sizes) (min (total ts) 65537)

abbrev pub with_term : FoundNode → FoundTypes → FoundNode
with_term f o = with_types f (either_or o [])

abbrev pub with_terms : FoundNode → List FoundTypes → FoundNode
with_terms f [] = f
with_terms f (o ∷ os) = with_terms (with_term f o) os

-- all terms that are kept are moved to the found node, in text order
abbrev pub AreMoved : (before after : Kept) → (found more : FoundNode) → Type 0
AreMoved before after found more =
    (after ≡ record before { found = [] }) × (more ≡ with_parts found (reverse before.found))

-- the elements of the terms `os` are taken from those that are left, and all these terms are moved
-- to the found node, as long as there are not too many
abbrev pub AreKept : List FoundTypes → (before after : Kept) → (found more : FoundNode) → Type 0
AreKept os before after found more =
    (after.found ≡ [])
    × (after.left ≡ before.left - sum_by part_size os)
    × (after.left ≢ 0 → more ≡ with_terms found os)

-- the found node of a specialization
abbrev pub found_of : Reached → Table → Specialization → FoundNode
found_of r t s = with_terms nothing_found (specialization_types r t s)

abbrev pub size_of : FoundNode → ℕ
size_of f = sum_by (λ (t : TermType). t.elements) f.terms

-- the found node of each specialization, or none where all of them together have more than 65,536
-- scalar elements
abbrev pub AreFound : Reached → Table → Option (Vec NodeTypes Global) → Type 0
AreFound r t None =
    65536 < sum_by (λ (s : Specialization). size_of (found_of r t s)) t.specializations.items
AreFound r t (Some all) =
    map found_in all.items ≡ map (found_of r t) t.specializations.items

-- ## Types that are read again

-- the sizes of the type of the term at a place
abbrev pub sizes_of : FoundNode → ℕ → List ℕ
sizes_of f i =
    listed (λ (t : TermType). take t.rank (drop t.first f.sizes)) (slice_get f.terms i)

-- the number of scalar elements in each element of the term at place `i`, up to 65,537
abbrev pub parts_of : FoundNode → ℕ → ℕ
parts_of f i = min (product (take (length (sizes_of f i) - 1) (sizes_of f i))) 65537
