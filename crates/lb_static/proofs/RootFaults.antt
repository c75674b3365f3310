-- The answers and refusals about the node under test and the observer.
use Rattle.std.proofs.Common.{◌≡◌, Bool, true, false, Option, Some, None, Result, Ok, Err}
use Rattle.std.proofs.Common.{option_map, ap, sym, ◌∙◌}
use Rattle.std.specs.Prelude.{ok_or}
use Rattle.lb_syntax.specs.Lists.{holds, where_true}
use Rattle.lb_static.specs.Instances.{Program, Root, instance_at}
use Rattle.lb_static.specs.Interfaces.{Answers, IsRootFault}
use Rattle.lb_static.specs.RootAnswers.{IsRootAnswer}
use Rattle.lb_static.specs.DataTypes.{signature}
use Rattle.lb_static.specs.Signature.{Elements}
use Rattle.lb_static.specs.Instantiation.{is_root}
use Rattle.lb_static.specs.declared.error.StaticError.{StaticError}
use Rattle.lb_static.specs.declared.error.StaticError.TheVariants as error

-- an optional value that `ok_or` returns is there
pub there : {A E : Type 0} (o : Option A) (x : A) (e : E) → Ok x ≡ ok_or o e → o ≡ Some x
there None x e is = absurd cc
there (Some y) x e is = cc

-- an optional value that is there, seen through `f`
pub seen_some : {A B : Type 0} (f : A → B) (o : Option A) (a : A) (seen : Option B)
    → option_map f o ≡ seen → o ≡ Some a → seen ≡ Some (f a)
seen_some f o a seen is found = sym is ∙ ap (option_map f) found

-- a refusal of the interface is a lawful answer, if its reason implies that the interface is wrong
pub root_fault : {Reason : Type 0} (P : Program) (e : StaticError) → IsRootFault Reason e
    → (Reason → holds (is_root P) (instance_at P Root) ≡ false) → IsRootAnswer P (Err e)
root_fault P error.Memory h f = tt
root_fault P (error.Root x) h f = f h
root_fault P (error.Name x) h f = h
root_fault P (error.Recursion x) h f = h
root_fault P (error.Value x) h f = h
root_fault P (error.Range x) h f = h
root_fault P (error.Instances x) h f = h

-- a fault for one reason is a fault for each reason that follows from it
pub fault_for : {A B : Type 0} (e : StaticError) → IsRootFault A e → (A → B) → IsRootFault B e
fault_for error.Memory h f = tt
fault_for (error.Root x) h f = f h
fault_for (error.Name x) h f = h
fault_for (error.Recursion x) h f = h
fault_for (error.Value x) h f = h
fault_for (error.Range x) h f = h
fault_for (error.Instances x) h f = h

-- an answer about the interface as the code sees it is one about the program
pub root_answer : (P : Program) (passes : Bool) (s : Elements) (r : Result Elements StaticError)
    → holds (is_root P) (instance_at P Root) ≡ passes → signature P ≡ s
    → Answers (λ x. x) (where_true passes s) r → IsRootAnswer P r
root_answer P true s (Ok x) e g h = (e, cc)
root_answer P false s (Ok x) e g h = absurd cc
root_answer P true s (Err err) e g h = root_fault P err h (λ none. absurd cc)
root_answer P false s (Err err) e g h = root_fault P err h (λ none. e)
