-- Reads between the elements of a flat program, and cycles of elements.
-- Source: this project's rule.
use Rattle.std.specs.Prelude.{◌≡◌, ℕ, ◌<◌, ◌≤◌, Some, slice_get, List, [], ◌∷◌, get_or}
use Rattle.lb_syntax.specs.Lists.{Every, In}
use Rattle.lb_static.specs.Instances.{Program}
use Rattle.lb_check.specs.Elements.{program_elements}
use Rattle.lb_check.specs.Needs.{Element, Needs}
use Rattle.lb_flat.specs.Flat.{FlatEquation}
use Rattle.lb_flat.specs.Judging.{FlatProgram}
use Rattle.lb_flat.specs.Run.{equation_reads}

-- ## Reading

-- an element reads element `j`, directly or by way of temporaries
pub data Leads (f : FlatProgram) (j : ℕ) : ℕ → Type 0 where
  reads_it :
      (q : FlatEquation) → In q f.equations → In j (equation_reads q) → Leads f j q.element
  by_way :
      (q : FlatEquation) (e : ℕ) → In q f.equations → In e (equation_reads q) →
      f.variables ≤ e → Leads f j e → Leads f j q.element

-- an element reads element `j`, directly or by way of any elements
pub data Chain (f : FlatProgram) (j : ℕ) : ℕ → Type 0 where
  one_read :
      (q : FlatEquation) → In q f.equations → In j (equation_reads q) → Chain f j q.element
  more_reads :
      (q : FlatEquation) (e : ℕ) → In q f.equations → In e (equation_reads q) → Chain f j e →
      Chain f j q.element

-- ## Cycles

-- each number of a list is linked to the next, and the last one to `first`
abbrev pub AreLinked : (ℕ → ℕ → Type 0) → (first : ℕ) → List ℕ → Type 0
AreLinked R first [] = ⊥
AreLinked R first (i ∷ []) = R i first
AreLinked R first (i ∷ (j ∷ rest)) = R i j × AreLinked R first (j ∷ rest)

-- elements of variables, each of which reads the next, and the last of which reads the first
abbrev pub IsReadCycle : FlatProgram → List ℕ → Type 0
IsReadCycle f is =
    Every (λ i. i < f.variables) is × AreLinked (λ i j. Leads f j i) (get_or is 0 0) is

-- element number `i` of a program needs element number `j` at the same instant
pub record NeedsAt (P : Program) (i j : ℕ) : Type 0 where
  pub one : Element
  pub other : Element
  pub is_one : slice_get (program_elements P) i ≡ Some one
  pub is_other : slice_get (program_elements P) j ≡ Some other
  pub needs : Needs P one other

-- numbers of elements, each of which needs the next, and the last of which needs the first
abbrev pub IsCertificate : Program → List ℕ → Type 0
IsCertificate P is = AreLinked (NeedsAt P) (get_or is 0 0) is
