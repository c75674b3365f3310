-- The computation finds that a program is causal, or that an element of it needs itself.
use Rattle.std.proofs.Common.{◌≡◌, ℕ, zero, suc, ◌<◌, ◌≤◌, ◌⊎◌, inl, inr, Bool, true, false, List}
use Rattle.std.proofs.Common.{[]}
use Rattle.std.proofs.Common.{◌∷◌, length, refl, ap, sym, subst, ◌∙◌, arith}
use Rattle.std.specs.Prelude.{◌||◌, bytes_eq}
use Rattle.std.specs.List.{filter, list_any}
use Rattle.std.proofs.lemmas.Bool.{eqb-true, and_from}
use Rattle.lb_syntax.specs.Lists.{In}
use Rattle.lb_syntax.specs.Tree.{Name}
use Rattle.lb_syntax.proofs.SameNames.{name_same, same_name, same_number}
use Rattle.lb_syntax.proofs.TruthValues.{and_first, and_second, contrary}
use Rattle.lb_static.specs.Instances.{Program, Path, is_path}
use Rattle.lb_check.specs.Needs.{Element, Definition, definitions, Needs, Reaches, at_once, through}
use Rattle.lb_check.proofs.programs.InstancePaths.{is_path-same, same_path}
use Rattle.lb_report.specs.Causality.{is_element, is_left, waiting, left_after, is_none, is_causal}
use Rattle.lb_report.specs.Causality.{IsDecidedBy}

-- ## The same element

made : Path → Name → ℕ → Element
made p x i = record { path = p; variable = x; index = i }

made_same : (p q : Path) (x y : Name) (i j : ℕ) → p ≡ q → x ≡ y → i ≡ j → made p x i ≡ made q y j
made_same p q x y i j a b c = rw (a, b, c)

same_element : (a b : Element) → is_element a b ≡ true → a ≡ b
unfolding made
same_element a b e =
    let rest = and_second (is_path a.path b.path) _ e in
    made_same a.path b.path a.variable b.variable a.index b.index
    (same_path a.path b.path (and_first (is_path a.path b.path) _ e))
    (name_same a.variable b.variable (and_first (bytes_eq a.variable b.variable) _ rest))
    (eqb-true a.index b.index (and_second (bytes_eq a.variable b.variable) _ rest))

element_same : (a : Element) → is_element a a ≡ true
element_same a =
    and_from _ _ (is_path-same a.path)
    (and_from _ _ (same_name a.variable a.variable refl) (same_number a.index))

-- ## Tests over lists

or_true : (a b : Bool) → (a || b) ≡ true → (a ≡ true) ⊎ (b ≡ true)
or_true true b e = inl refl
or_true false b e = inr e

or_left : (a b : Bool) → a ≡ true → (a || b) ≡ true
or_left true b e = refl
or_left false b e = absurd cc

or_right : (a b : Bool) → b ≡ true → (a || b) ≡ true
or_right true b e = refl
or_right false b e = e

any_in : {A : Type 0} (p : A → Bool) (xs : List A) (x : A) → In x xs → p x ≡ true →
    list_any p xs ≡ true
any_in p [] x i e = absurd i
any_in p (y ∷ ys) x (inl is) e = or_left (p y) (list_any p ys) (ap p is ∙ e)
any_in p (y ∷ ys) x (inr i) e = or_right (p y) (list_any p ys) (any_in p ys x i e)

-- an item of a list that passes a test
record Passing {A : Type 0} (p : A → Bool) (xs : List A) : Type 0 where
  item : A
  stands : In item xs
  passes : p item ≡ true

passing_later :
    {A : Type 0} (p : A → Bool) (x : A) (xs : List A) → Passing p xs → Passing p (x ∷ xs)
passing_later p x xs h = record { item = h.item; stands = inr h.stands; passes = h.passes }

passing : {A : Type 0} (p : A → Bool) (xs : List A) → list_any p xs ≡ true → Passing p xs
passing p [] e = absurd cc
passing p (x ∷ xs) e =
    elim (or_true (p x) (list_any p xs) e) [
      | inl here ↦ record { item = x; stands = inl refl; passes = here }
      | inr later ↦ passing_later p x xs (passing p xs later)
    ]

kept_by : {A : Type 0} (b : Bool) (p : A → Bool) (x y : A) (ys : List A) → p y ≡ b →
    (In x ys → In x (filter p ys)) → In x (y ∷ ys) → p x ≡ true → In x (filter p (y ∷ ys))
kept_by true p x y ys e f (inl is) h = rw e (inl is)
kept_by true p x y ys e f (inr i) h = rw e (inr (f i))
kept_by false p x y ys e f (inl is) h = absurd (contrary (p y) (ap p is ∙ h) e)
kept_by false p x y ys e f (inr i) h = rw e (f i)

kept : {A : Type 0} (p : A → Bool) (xs : List A) (x : A) → In x xs → p x ≡ true →
    In x (filter p xs)
kept p [] x i e = absurd i
kept p (y ∷ ys) x i e = kept_by (p y) p x y ys refl (λ j. kept p ys x j e) i e

was_by : {A : Type 0} (b : Bool) (p : A → Bool) (x y : A) (ys : List A) → p y ≡ b →
    (In x (filter p ys) → In x ys) → In x (filter p (y ∷ ys)) → In x (y ∷ ys)
was_by true p x y ys e f i =
    elim (rw e at i) [ inl is ↦ inl is | inr j ↦ inr (f j) ]
was_by false p x y ys e f i = inr (f (rw e at i))

was : {A : Type 0} (p : A → Bool) (xs : List A) (x : A) → In x (filter p xs) → In x xs
was p [] x i = absurd i
was p (y ∷ ys) x i = was_by (p y) p x y ys refl (was p ys x) i

shorter_by : {A : Type 0} (b : Bool) (p : A → Bool) (y : A) (ys : List A) → p y ≡ b →
    length (filter p ys) ≤ length ys → length (filter p (y ∷ ys)) ≤ suc (length ys)
shorter_by true p y ys e le = rw e (omega arith)
shorter_by false p y ys e le = rw e (omega arith)

shorter : {A : Type 0} (p : A → Bool) (xs : List A) → length (filter p xs) ≤ length xs
shorter p [] = omega arith
shorter p (y ∷ ys) = shorter_by (p y) p y ys refl (shorter p ys)

all_pass_by : {A : Type 0} (b : Bool) (p : A → Bool) (x y : A) (ys : List A) → p y ≡ b →
    length (filter p ys) ≤ length ys → length (y ∷ ys) ≤ length (filter p (y ∷ ys)) →
    (length ys ≤ length (filter p ys) → In x ys → p x ≡ true) → In x (y ∷ ys) → p x ≡ true
all_pass_by true p x y ys e le long f (inl is) = ap p (sym is) ∙ e
all_pass_by true p x y ys e le long f (inr i) =
    let l : suc (length ys) ≤ suc (length (filter p ys)) = rw e at long in f (omega arith) i
all_pass_by false p x y ys e le long f i =
    let l : suc (length ys) ≤ length (filter p ys) = rw e at long in absurd (omega arith)

-- where a filter leaves nothing out, each item passes
all_pass : {A : Type 0} (p : A → Bool) (xs : List A) (x : A) →
    length xs ≤ length (filter p xs) → In x xs → p x ≡ true
all_pass p [] x le i = absurd i
all_pass p (y ∷ ys) x le i =
    all_pass_by (p y) p x y ys refl (shorter p ys) le (λ l j. all_pass p ys x l j) i

-- ## Needs by some of the definitions

record NeedsIn (ds : List Definition) (x y : Element) : Type 0 where
  by : Definition
  stands : In by ds
  is_of : by.element ≡ x
  names : In y by.needed

data ReachesIn (ds : List Definition) (y : Element) : Element → Type 0 where
  directly : (x : Element) → NeedsIn ds x y → ReachesIn ds y x
  by_way_of : (x z : Element) → NeedsIn ds x z → ReachesIn ds y z → ReachesIn ds y x

to_all : (P : Program) (x y : Element) → NeedsIn (definitions P) x y → Needs P x y
to_all P x y n = record { by = n.by; stands = n.stands; is_of = n.is_of; names = n.names }

from_all : (P : Program) (x y : Element) → Needs P x y → NeedsIn (definitions P) x y
from_all P x y n = record { by = n.by; stands = n.stands; is_of = n.is_of; names = n.names }

reaches_all : (P : Program) (y x : Element) → ReachesIn (definitions P) y x → Reaches P y x
reaches_all P y _ (directly x n) = at_once x (to_all P x y n)
reaches_all P y _ (by_way_of x z n r) = through x z (to_all P x z n) (reaches_all P y z r)

all_reaches : (P : Program) (y x : Element) → Reaches P y x → ReachesIn (definitions P) y x
all_reaches P y _ (at_once x n) = directly x (from_all P x y n)
all_reaches P y _ (through x z n r) = by_way_of x z (from_all P x z n) (all_reaches P y z r)

needs_more : (ds es : List Definition) → ((d : Definition) → In d ds → In d es) →
    (x y : Element) → NeedsIn ds x y → NeedsIn es x y
needs_more ds es f x y n =
    record { by = n.by; stands = f n.by n.stands; is_of = n.is_of; names = n.names }

reaches_more : (ds es : List Definition) → ((d : Definition) → In d ds → In d es) →
    (y x : Element) → ReachesIn ds y x → ReachesIn es y x
reaches_more ds es f y _ (directly x n) = directly x (needs_more ds es f x y n)
reaches_more ds es f y _ (by_way_of x z n r) =
    by_way_of x z (needs_more ds es f x z n) (reaches_more ds es f y z r)

-- an element that needs another has a definition
has_one : (ds : List Definition) (x y : Element) → NeedsIn ds x y → is_left ds x ≡ true
has_one ds x y n =
    any_in (λ d. is_element d.element x) ds n.by n.stands
    (subst (λ z. is_element z x ≡ true) (sym n.is_of) (element_same x))

starts_left : (ds : List Definition) (y x : Element) → ReachesIn ds y x → is_left ds x ≡ true
starts_left ds y _ (directly x n) = has_one ds x y n
starts_left ds y _ (by_way_of x z n r) = has_one ds x z n

-- ## A cycle stays

-- an element that needs one that is left has a definition that waits
waits : (ds : List Definition) (x y : Element) → NeedsIn ds x y → is_left ds y ≡ true →
    NeedsIn (waiting ds) x y
waits ds x y n left = record {
  by = n.by;
  stands =
      kept (λ d. list_any (is_left ds) d.needed) ds n.by n.stands
      (any_in (is_left ds) n.by.needed y n.names left);
  is_of = n.is_of;
  names = n.names;
}

reaches_still : (ds : List Definition) (y x : Element) → is_left ds y ≡ true →
    ReachesIn ds y x → ReachesIn (waiting ds) y x
reaches_still ds y _ left (directly x n) = directly x (waits ds x y n left)
reaches_still ds y _ left (by_way_of x z n r) =
    by_way_of x z (waits ds x z n (starts_left ds y z r)) (reaches_still ds y z left r)

cycle_stays : (n : ℕ) (ds : List Definition) (x : Element) → ReachesIn ds x x →
    ReachesIn (left_after n ds) x x
unfolding left_after
cycle_stays zero ds x r = r
cycle_stays (suc n) ds x r =
    cycle_stays n (waiting ds) x (reaches_still ds x x (starts_left ds x x r) r)

none_reaches : (y x : Element) → ReachesIn [] y x → ⊥
none_reaches y x r = let e = starts_left [] y x r in absurd cc

causal_by : (ds : List Definition) (x : Element) → is_none ds ≡ true → ReachesIn ds x x → ⊥
causal_by [] x e r = none_reaches x x r
causal_by (d ∷ ds) x e r = absurd cc

-- ## Where no definition goes there is a cycle

-- each definition of `ds` needs an element that one of `ds` defines
abbrev AreStuck : List Definition → Type 0
AreStuck ds = (d : Definition) → In d ds → list_any (is_left ds) d.needed ≡ true

-- whether an element was passed
abbrev is_passed : List Element → Element → Bool
is_passed path x = list_any (λ z. is_element z x) path

abbrev unless_passed : Bool → ℕ → ℕ
unless_passed true n = n
unless_passed false n = suc n

-- how many definitions are of elements that were not passed
abbrev count_left : List Element → List Definition → ℕ
count_left path [] = 0
count_left path (d ∷ ds) = unless_passed (is_passed path d.element) (count_left path ds)

passed_more : (a b : Bool) (m n : ℕ) → (b ≡ true → a ≡ true) → m ≤ n →
    unless_passed a m ≤ unless_passed b n
passed_more true true m n f le = le
passed_more true false m n f le = omega arith
passed_more false true m n f le = let e = f refl in absurd cc
passed_more false false m n f le = omega arith

fewer_left : (x : Element) (path : List Element) (ds : List Definition) →
    count_left (x ∷ path) ds ≤ count_left path ds
fewer_left x path [] = omega arith
fewer_left x path (d ∷ ds) =
    passed_more _ _ _ _ (or_right (is_element x d.element) (is_passed path d.element))
    (fewer_left x path ds)

one_fewer_by : (a b : Bool) (m n : ℕ) → a ≡ true → b ≡ false → m ≤ n →
    unless_passed a m < unless_passed b n
one_fewer_by true false m n p q le = omega arith
one_fewer_by true true m n p q le = absurd cc
one_fewer_by false b m n p q le = absurd cc

fewer_later : (a b : Bool) (m n : ℕ) → (b ≡ true → a ≡ true) → m < n →
    unless_passed a m < unless_passed b n
fewer_later true true m n f lt = lt
fewer_later true false m n f lt = omega arith
fewer_later false true m n f lt = let e = f refl in absurd cc
fewer_later false false m n f lt = omega arith

-- `count_left` goes down where a temporary is passed that has a definition
one_fewer : (x : Element) (path : List Element) (ds : List Definition) → is_left ds x ≡ true →
    is_passed path x ≡ false → count_left (x ∷ path) ds < count_left path ds
one_fewer x path [] left new = absurd cc
one_fewer x path (d ∷ ds) left new =
    elim (or_true (is_element d.element x) (is_left ds x) left) [
      | inl here ↦ let same = same_element d.element x here in
          one_fewer_by _ _ _ _
          (or_left (is_element x d.element) (is_passed path d.element)
          (subst (λ z. is_element x z ≡ true) (sym same) (element_same x)))
          (subst (λ z. is_passed path z ≡ false) (sym same) new) (fewer_left x path ds)
      | inr later ↦ fewer_later _ _ _ _
          (or_right (is_element x d.element) (is_passed path d.element))
          (one_fewer x path ds later new)
    ]

reaches_on : (ds : List Definition) (x y z : Element) → ReachesIn ds x z → NeedsIn ds x y →
    ReachesIn ds y z
reaches_on ds x y _ (directly z n) m = by_way_of z x n (directly x m)
reaches_on ds x y _ (by_way_of z w n r) m = by_way_of z w n (reaches_on ds x y w r m)

abbrev HasCycle : List Definition → Type 0
HasCycle ds = (x : Element) × ReachesIn ds x x

-- the next element of a walk
record Next (ds : List Definition) (x : Element) : Type 0 where
  to : Element
  needs : NeedsIn ds x to
  left : is_left ds to ≡ true

next_of : (ds : List Definition) (x : Element) → AreStuck ds → is_left ds x ≡ true → Next ds x
next_of ds x stuck left =
    let d = passing (λ d. is_element d.element x) ds left in
    let y = passing (is_left ds) d.item.needed (stuck d.item d.stands) in
    record {
      to = y.item;
      needs = record {
        by = d.item;
        stands = d.stands;
        is_of = same_element d.item.element x d.passes;
        names = y.stands;
      };
      left = y.passes;
    }

-- each element that was passed reaches this one
abbrev AllReach : List Definition → List Element → Element → Type 0
AllReach ds path x = (z : Element) → In z path → ReachesIn ds x z

all_reach_next : (ds : List Definition) (path : List Element) (x y : Element) →
    AllReach ds path x → NeedsIn ds x y → AllReach ds (x ∷ path) y
all_reach_next ds path x y all n z (inl is) =
    subst (λ w. ReachesIn ds y w) is (directly x n)
all_reach_next ds path x y all n z (inr i) = reaches_on ds x y z (all z i) n

comes_again : (ds : List Definition) (path : List Element) (y : Element) → AllReach ds path y →
    is_passed path y ≡ true → HasCycle ds
comes_again ds path y all again =
    let z = passing (λ z. is_element z y) path again in
    (y, subst (λ w. ReachesIn ds y w) (same_element z.item y z.passes) (all z.item z.stands))

-- an element that comes again closes a cycle; else the walk goes on
walk_on : (ds : List Definition) (path : List Element) (x : Element) (b : Bool) →
    is_passed path x ≡ b → AllReach ds path x → (is_passed path x ≡ false → HasCycle ds) →
    HasCycle ds
walk_on ds path x true again all further = comes_again ds path x all again
walk_on ds path x false new all further = further new

walk : (n : ℕ) (ds : List Definition) (path : List Element) (x : Element) → AreStuck ds →
    is_left ds x ≡ true → is_passed path x ≡ false → AllReach ds path x →
    count_left path ds ≤ n → HasCycle ds
walk zero ds path x stuck left new all most =
    let lt = one_fewer x path ds left new in absurd (omega arith)
walk (suc n) ds path x stuck left new all most =
    let next = next_of ds x stuck left in
    let lt = one_fewer x path ds left new in
    let reach = all_reach_next ds path x next.to all next.needs in
    walk_on ds (x ∷ path) next.to (is_passed (x ∷ path) next.to) refl reach
    (λ further. walk n ds (x ∷ path) next.to stuck next.left further reach (omega arith))

stuck_cycle : (ds : List Definition) → AreStuck ds → is_none ds ≡ false → HasCycle ds
stuck_cycle [] stuck some = absurd cc
stuck_cycle (d ∷ ds) stuck some =
    walk (count_left [] (d ∷ ds)) (d ∷ ds) [] d.element stuck
    (or_left (is_element d.element d.element) _ (element_same d.element)) refl (λ z i. absurd i)
    (omega arith)

cycle_was : (ds : List Definition) → HasCycle (waiting ds) → HasCycle ds
cycle_was ds c =
    (c.0, reaches_more (waiting ds) ds (was (λ d. list_any (is_left ds) d.needed) ds) c.0 c.0 c.1)

is_shorter : (m n : ℕ) → m ≤ n → (m < n) ⊎ (n ≤ m)
is_shorter zero zero le = inr le
is_shorter zero (suc n) le = inl (omega arith)
is_shorter (suc m) zero le = absurd (omega arith)
is_shorter (suc m) (suc n) le =
    elim (is_shorter m n (omega arith)) [ inl lt ↦ inl (omega arith) | inr ge ↦ inr (omega arith) ]

some_first : (n : ℕ) (ds : List Definition) → is_none (left_after n ds) ≡ false →
    is_none ds ≡ false
unfolding left_after
some_first zero ds e = e
some_first (suc n) [] e = some_first n [] e
some_first (suc n) (d ∷ ds) e = refl

cyclic_by : (n : ℕ) (ds : List Definition) → length ds ≤ n →
    is_none (left_after n ds) ≡ false → HasCycle ds
unfolding left_after
cyclic_by zero [] le e = absurd cc
cyclic_by zero (d ∷ ds) le e = absurd (omega arith)
cyclic_by (suc n) ds le e =
    elim (is_shorter (length (waiting ds)) (length ds)
    (shorter (λ d. list_any (is_left ds) d.needed) ds)) [
      | inl lt ↦ cycle_was ds (cyclic_by n (waiting ds) (omega arith) e)
      | inr ge ↦ stuck_cycle ds
          (λ d i. all_pass (λ d. list_any (is_left ds) d.needed) ds d ge i)
          (some_first (suc n) ds e)
    ]

-- ## The decision

decided_by : (b : Bool) (P : Program) →
    is_none (left_after (length (definitions P)) (definitions P)) ≡ b → IsDecidedBy b P
decided_by true P e = λ x r.
    causal_by (left_after (length (definitions P)) (definitions P)) x e
    (cycle_stays (length (definitions P)) (definitions P) x (all_reaches P x x r))
decided_by false P e =
    let c = cyclic_by (length (definitions P)) (definitions P) (omega arith) e in
    (c.0, reaches_all P c.0 c.0 c.1)

pub decided : (P : Program) → IsDecidedBy (is_causal P) P
unfolding is_causal
decided P = decided_by (is_none (left_after (length (definitions P)) (definitions P))) P refl
