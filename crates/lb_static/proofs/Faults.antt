-- Faults: a fault of a part is a fault of the whole, and a name that an error holds fails its test.
use Rattle.std.proofs.Common.{◌≡◌, Bool, true, false, ap, ◌∙◌}
use Rattle.std.specs.Prelude.{not, ◌||◌, string_bytes}
use Rattle.std.proofs.lemmas.Slice.Eq.{bytes_eq-Decides}
use Rattle.lb_syntax.specs.Tree as tree
use Rattle.std.proofs.lemmas.Bool.{and_from}
use Rattle.lb_static.specs.CountedNames.{NameUse, counted}
use Rattle.lb_static.specs.NameFaults.{IsNameFault, TellsName, is_told}
use Rattle.lb_static.specs.declared.causes.NameRule.TheVariants as rule
use Rattle.lb_static.specs.declared.causes.Sought.TheVariants as sought
use Rattle.lb_static.specs.declared.error.StaticError.{StaticError}
use Rattle.lb_static.specs.declared.error.StaticError.TheVariants.{Memory, Name, Recursion, Root}
use Rattle.lb_static.specs.declared.error.StaticError.TheVariants.{Value, Range, Instances}

pub fault_within : (e : StaticError) (b all : Bool) → IsNameFault e b → (b ≡ false → all ≡ false)
    → IsNameFault e all
fault_within Memory b all h f = tt
fault_within (Name x) b all h f = f h
fault_within (Recursion x) b all h f = h
fault_within (Root x) b all h f = h
fault_within (Value x) b all h f = h
fault_within (Range x) b all h f = h
fault_within (Instances x) b all h f = h

-- an error with a name is a fault of the test `all`, if that fails where the name counts
pub told_fault : (e : StaticError) (purpose : NameUse) (x : tree.Name) (all : Bool)
    → TellsName x purpose e → (is_told e purpose x ≡ true → all ≡ false) → IsNameFault e all
told_fault Memory purpose x all t f = tt
told_fault (Name y) purpose x all t f =
    f (and_from _ _ ((bytes_eq-Decides (string_bytes y.value.name) x).1 t.0) t.1)
told_fault (Recursion y) purpose x all t f = absurd t
told_fault (Root y) purpose x all t f = absurd t
told_fault (Value y) purpose x all t f = absurd t
told_fault (Range y) purpose x all t f = absurd t
told_fault (Instances y) purpose x all t f = absurd t

-- a name that counts and fails a test fails the counted test
pub counted_fails : (counts test : tree.Name → Bool) (x : tree.Name) → counts x ≡ true
    → test x ≡ false → counted counts test x ≡ false
counted_fails counts test x c e = ap (λ b. not b || test x) c ∙ e

-- an error with a name that fails a test is a fault of the counted test
pub told_fails : (e : StaticError) (purpose : NameUse) (test : tree.Name → Bool) (x : tree.Name)
    → TellsName x purpose e → test x ≡ false → IsNameFault e (counted (is_told e purpose) test x)
told_fails e purpose test x t fails =
    told_fault e purpose x _ t (λ told. counted_fails (is_told e purpose) test x told fails)
