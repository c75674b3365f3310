-- The values of constants: values stay where more steps are allowed, and when a table is complete.
use Rattle.std.proofs.Common.{◌≡◌, ◌≢◌, ℕ, zero, suc, ◌+◌, ◌-◌, ◌<◌, ◌≤◌, ℤ, Bool, true, false}
use Rattle.std.proofs.Common.{cond, List, [], ◌∷◌, ◌++◌, length, map, drop, set, get_or}
use Rattle.std.proofs.Common.{Option, Some, None, is_some, option_map, refl, ap, sym, ◌∙◌, arith}
use Rattle.std.proofs.Common.{Global, Vec, subst, vec_len}
use Rattle.std.specs.Prelude.{not, ◌||◌, if◌then◌else◌, nat_lt, nat_eq, position, slice_get}
use Rattle.std.specs.Borrow.{Bor}
use Rattle.std.specs.List.{position_or_len}
use Rattle.std.specs.Str.{bytes_eq}
use Rattle.std.specs.Vec.{with_items}
use Rattle.std.proofs.lemmas.Bool.Decides.{nat_tests}
use Rattle.std.proofs.lemmas.List.{length-map, length-set, get_or-set_same, map-append}
use Rattle.std.proofs.lemmas.List.{with_items_is}
use Rattle.std.proofs.lemmas.List.{append-nil, append_assoc, drop_all}
use Rattle.std.proofs.lemmas.List.Folds.{find_at}
use Rattle.std.proofs.lemmas.List.Sums.{sum_by-set, count_by-le-length}
use Rattle.std.proofs.lemmas.Option.{slice_get-map, slice_get_past, slice_get_within}
use Rattle.std.proofs.lemmas.Option.{slice_get-get_or, get_or_from_slice_get}
use Rattle.std.proofs.lemmas.Slice.Eq.{bytes_eq-Decides}
use Rattle.lb_syntax.specs.Lists.{◌>>=◌}
use Rattle.lb_syntax.specs.Tree.{Name, Static, Whole, Named, Negated, Combined, Grouped, Constant}
use Rattle.lb_syntax.specs.SourceView.{view_constant}
use Rattle.lb_syntax.specs.View.{view_static}
use Rattle.lb_syntax.specs.declared.tree.Constant as written
use Rattle.lb_static.specs.Arithmetic.{arithmetic, negated}
use Rattle.lb_static.specs.ConstantValues.{names_of, read_constants, value_held, known, AreFirst}
use Rattle.lb_static.specs.ConstantValues.{AreStable, IsStable, IsSound}
use Rattle.lb_static.specs.Parts.{among, static_names}
use Rattle.lb_static.specs.Scopes.{declared_after}
use Rattle.lb_static.specs.StaticValues.{named, value_under, constant_value}
use Rattle.lb_static.specs.Tasks.{waiting}
use Rattle.lb_static.proofs.Lists.{map_next}
use Rattle.lb_static.proofs.Scopes.{bytes_eq-symmetric}

-- ## A value stays where more names have one

abbrev pub Keeps : (Name → Option ℤ) → (Name → Option ℤ) → Type 0
Keeps f g = (x : Name) (v : ℤ) → f x ≡ Some v → g x ≡ Some v

then_more : {A : Type 0} (o p : Option A) (k : A → Option ℤ) (v : ℤ)
    → ((a : A) → o ≡ Some a → p ≡ Some a) → (o >>= k) ≡ Some v → (p >>= k) ≡ Some v
then_more None p k v more e = absurd cc
then_more (Some a) p k v more e = ap (λ q. q >>= k) (more a refl) ∙ e

-- the result of two operands stays where more operands have a value
both_more : (o p o' p' : Option ℤ) (k : ℤ → ℤ → Option ℤ) (v : ℤ)
    → ((a : ℤ) → o ≡ Some a → p ≡ Some a) → ((a : ℤ) → o' ≡ Some a → p' ≡ Some a)
    → (o >>= λ a. o' >>= λ b. k a b) ≡ Some v → (p >>= λ a. p' >>= λ b. k a b) ≡ Some v
both_more None p o' p' k v first second e = absurd cc
both_more (Some a) p o' p' k v first second e =
    ap (λ q. q >>= λ x. p' >>= λ b. k x b) (first a refl) ∙ then_more o' p' (k a) v second e

pub under_more : (f g : Name → Option ℤ) → Keeps f g → (s : Static) (v : ℤ)
    → value_under f s ≡ Some v → value_under g s ≡ Some v
under_more f g keeps (Whole n) v e = e
under_more f g keeps (Named x) v e = keeps x v e
under_more f g keeps (Grouped s) v e = under_more f g keeps s v e
under_more f g keeps (Negated s) v e =
    then_more (value_under f s) (value_under g s) negated v (under_more f g keeps s) e
under_more f g keeps (Combined op s t) v e =
    both_more (value_under f s) (value_under g s) (value_under f t) (value_under g t)
    (arithmetic op) v
    (under_more f g keeps s) (under_more f g keeps t) e

defined_more : (f g : Name → Option ℤ) → Keeps f g → (o : Option Constant) (v : ℤ)
    → (o >>= λ c. value_under f c.value) ≡ Some v → (o >>= λ c. value_under g c.value) ≡ Some v
defined_more f g keeps None v e = e
defined_more f g keeps (Some c) v e = under_more f g keeps c.value v e

-- a constant with a value within `n` steps has it within `n + 1` steps
once_more : (cs : List Constant) (n : ℕ) → Keeps (constant_value cs n) (constant_value cs (suc n))
once_more cs zero x v e = absurd cc
once_more cs (suc n) x v e = defined_more (constant_value cs n) (constant_value cs (suc n))
    (once_more cs n) (named (λ c. c.name) x cs) v e

more_steps : (cs : List Constant) (n k : ℕ)
    → Keeps (constant_value cs n) (constant_value cs (k + n))
more_steps cs n zero x v e =
    let same : 0 + n ≡ n = omega arith in
    ap (λ m. constant_value cs m x) same ∙ e
more_steps cs n (suc k) x v e =
    let same : suc k + n ≡ suc (k + n) = omega arith in
    ap (λ m. constant_value cs m x) same ∙ once_more cs (k + n) x v (more_steps cs n k x v e)

pub steps_keep : (cs : List Constant) (n m : ℕ) → n ≤ m
    → Keeps (constant_value cs n) (constant_value cs m)
steps_keep cs n m le x v e =
    let same : m - n + n ≡ m = omega arith in
    ap (λ k. constant_value cs k x) (sym same) ∙ more_steps cs n (m - n) x v e

-- ## The constant of a name

place_is : (x : Name) (cs : List Constant)
    → position_or_len (bytes_eq x) (names_of cs) ≡ position_or_len (λ c. bytes_eq c.name x) cs
place_is x [] = refl
place_is x (c ∷ cs) =
    ap (λ b. cond (not b) (1 + position_or_len (bytes_eq x) (names_of cs)) 0)
    (bytes_eq-symmetric x c.name)
    ∙ ap (λ n. cond (not (bytes_eq c.name x)) (1 + n) 0) (place_is x cs)

-- the first constant of a name is the one at the place of the name
pub named_at : (x : Name) (cs : List Constant)
    → named (λ c. c.name) x cs ≡ (position (bytes_eq x) (names_of cs) >>= slice_get cs)
named_at x cs =
    find_at (λ c. bytes_eq c.name x) cs ∙ ap (slice_get cs) (sym (place_is x cs))
    ∙ by (position_or_len (bytes_eq x) (names_of cs))
    (nat_lt (position_or_len (bytes_eq x) (names_of cs)) (length (names_of cs))) refl
  where
    by : (n : ℕ) (b : Bool) → nat_lt n (length (names_of cs)) ≡ b
        → slice_get cs n ≡ (cond b (Some n) None >>= slice_get cs)
    by n true e = refl
    by n false e =
        let as_many = length-map cs (λ c. c.name) in
        let past : length cs ≤ n = grind (arith, nat_tests) in
        slice_get_past cs n past

-- the value of a name in `n + 1` steps is the value of its constant with names of `n` steps
pub value_at : (cs : List Constant) (n : ℕ) (x : Name) (i : ℕ) (c : Constant)
    → position (bytes_eq x) (names_of cs) ≡ Some i → slice_get cs i ≡ Some c
    → constant_value cs (suc n) x ≡ value_under (constant_value cs n) c.value
value_at cs n x i c at is =
    ap (λ o. o >>= λ d. value_under (constant_value cs n) d.value)
    (named_at x cs ∙ ap (λ o. o >>= slice_get cs) at ∙ is)

-- ## One more value

set_at : (vs : List (Option ℤ)) (i : ℕ) (w : Option ℤ) → i < length vs
    → slice_get (set vs i w) i ≡ Some w
set_at vs i w below =
    let still : i < length (set vs i w) = omega (arith, length-set vs i w) in
    slice_get-get_or (set vs i w) i None still ∙ ap Some (get_or-set_same vs i w None below)

set_elsewhere : (vs : List (Option ℤ)) (i j : ℕ) (w : Option ℤ) → j ≢ i
    → slice_get (set vs i w) j ≡ slice_get vs j
set_elsewhere [] i j w other = refl
set_elsewhere (v ∷ vs) zero zero w other = absurd (other refl)
set_elsewhere (v ∷ vs) zero (suc j) w other = refl
set_elsewhere (v ∷ vs) (suc i) zero w other = refl
set_elsewhere (v ∷ vs) (suc i) (suc j) w other = set_elsewhere vs i j w (λ e. other (ap suc e))

abbrev tally : Option ℤ → ℕ
tally o = cond (is_some o) 1 0

pub known-set : (vs : List (Option ℤ)) (i : ℕ) (v : ℤ) → slice_get vs i ≡ Some None
    → known (set vs i (Some v)) ≡ suc (known vs)
known-set vs i v e =
    let below : i < length vs = slice_get_within vs i None e in
    let was : tally (get_or vs i None) ≡ 0 = ap tally (get_or_from_slice_get vs i None None e) in
    let sums : known (set vs i (Some v)) + tally (get_or vs i None) ≡ known vs + 1 =
    sum_by-set tally vs i (Some v) None below in
    omega arith

-- a table stays sound with the value that a constant has under the values that are held
pub sound_more : (cs : List Constant) (vs : List (Option ℤ)) (i : ℕ) (c : Constant) (v : ℤ)
    → IsSound cs vs
    → slice_get cs i ≡ Some c → slice_get vs i ≡ Some None
    → value_under (value_held (names_of cs) vs) c.value ≡ Some v
    → IsSound cs (set vs i (Some v))
sound_more cs vs i c v sound is none has = record {
  as_many = length-set vs i (Some v) ∙ sound.as_many;
  is_value = λ x w held. by x w (position (bytes_eq x) (names_of cs)) refl held;
}
  where
    grown : known (set vs i (Some v)) ≡ suc (known vs)
    grown = known-set vs i v none

    at_more : (x : Name) (w : ℤ) → constant_value cs (suc (known vs)) x ≡ Some w
        → constant_value cs (known (set vs i (Some v))) x ≡ Some w
    at_more x w e = ap (λ n. constant_value cs n x) grown ∙ e

    decided : (x : Name) (w : ℤ) (j : ℕ) (b : Bool) → nat_eq j i ≡ b
        → position (bytes_eq x) (names_of cs) ≡ Some j
        → (slice_get (set vs i (Some v)) j >>= λ u. u) ≡ Some w
        → constant_value cs (known (set vs i (Some v))) x ≡ Some w
    decided x w j true same at held =
        let here : j ≡ i = grind (arith, nat_tests) in
        let below : i < length vs = slice_get_within vs i None none in
        let worth : Some v ≡ Some w = ap (λ o. o >>= λ u. u) (sym (set_at vs i (Some v) below))
        ∙ ap (λ k. slice_get (set vs i (Some v)) k >>= λ u. u) (sym here) ∙ held in
        at_more x w (value_at cs (known vs) x i c (at ∙ ap Some here) is
        ∙ under_more _ _ sound.is_value c.value v has ∙ worth)
    decided x w j false same at held =
        let elsewhere : j ≢ i = grind (arith, nat_tests) in
        let before : value_held (names_of cs) vs x ≡ Some w =
        ap (λ o. o >>= λ k. slice_get vs k >>= λ u. u) at
        ∙ ap (λ o. o >>= λ u. u) (sym (set_elsewhere vs i j (Some v) elsewhere)) ∙ held in
        at_more x w (once_more cs (known vs) x w (sound.is_value x w before))

    by : (x : Name) (w : ℤ) (o : Option ℕ) → position (bytes_eq x) (names_of cs) ≡ o
        → (o >>= λ k. slice_get (set vs i (Some v)) k >>= λ u. u) ≡ Some w
        → constant_value cs (known (set vs i (Some v))) x ≡ Some w
    by x w None at held = absurd cc
    by x w (Some j) at held = decided x w j (nat_eq j i) refl at held

-- ## A table with all values

complete_more : (cs : List Constant) (vs : List (Option ℤ)) (n : ℕ) → IsSound cs vs
    → AreStable cs vs
    → Keeps (constant_value cs n) (value_held (names_of cs) vs)
    → Keeps (constant_value cs (suc n)) (value_held (names_of cs) vs)
complete_more cs vs n sound stable before x v e =
    by (position (bytes_eq x) (names_of cs)) refl
    (ap (λ o. o >>= λ d. value_under (constant_value cs n) d.value) (sym (named_at x cs)) ∙ e)
  where
    held_at : (i : ℕ) (c : Constant) → position (bytes_eq x) (names_of cs) ≡ Some i
        → slice_get cs i ≡ Some c → value_under (constant_value cs n) c.value ≡ Some v
        → (o : Option ℤ) → slice_get vs i ≡ Some o → value_held (names_of cs) vs x ≡ Some v
    held_at i c at is has None stands =
        let below : i < length cs = slice_get_within cs i c is in
        let none = stable i below c is stands in
        let some = under_more (constant_value cs n) (value_held (names_of cs) vs) before c.value v
        has in
        absurd cc
    held_at i c at is has (Some w) stands =
        let held : value_held (names_of cs) vs x ≡ Some w =
        ap (λ o. o >>= λ k. slice_get vs k >>= λ u. u) at ∙ ap (λ o. o >>= λ u. u) stands in
        let one = steps_keep cs (known vs) (known vs + suc n) (omega arith) x w
        (sound.is_value x w held) in
        let other = steps_keep cs (suc n) (known vs + suc n) (omega arith) x v
        (value_at cs n x i c at is ∙ has) in
        held ∙ sym one ∙ other

    found : (i : ℕ) (o : Option Constant) → position (bytes_eq x) (names_of cs) ≡ Some i
        → slice_get cs i ≡ o
        → (o >>= λ d. value_under (constant_value cs n) d.value) ≡ Some v
        → value_held (names_of cs) vs x ≡ Some v
    found i None at is has = absurd cc
    found i (Some c) at is has =
        let below : i < length cs = slice_get_within cs i c is in
        let within : i < length vs = omega (arith, sound.as_many) in
        held_at i c at is has (get_or vs i None) (slice_get-get_or vs i None within)

    by : (o : Option ℕ) → position (bytes_eq x) (names_of cs) ≡ o
        → (o >>= slice_get cs >>= λ d. value_under (constant_value cs n) d.value) ≡ Some v
        → value_held (names_of cs) vs x ≡ Some v
    by None at has = absurd cc
    by (Some i) at has = found i (slice_get cs i) at refl has

complete : (cs : List Constant) (vs : List (Option ℤ)) → IsSound cs vs → AreStable cs vs
    → (n : ℕ) → Keeps (constant_value cs n) (value_held (names_of cs) vs)
complete cs vs sound stable zero x v e = absurd cc
complete cs vs sound stable (suc n) x v e =
    complete_more cs vs n sound stable (complete cs vs sound stable n) x v e

-- a sound and stable table holds the value of each constant
pub all_held : (cs : List Constant) (vs : List (Option ℤ)) (n : ℕ) → length cs ≤ n → IsSound cs vs
    → AreStable cs vs
    → (x : Name) → value_held (names_of cs) vs x ≡ constant_value cs n x
all_held cs vs n enough sound stable x =
    by (value_held (names_of cs) vs x) (constant_value cs n x) refl refl
  where
    by : (o p : Option ℤ) → value_held (names_of cs) vs x ≡ o → constant_value cs n x ≡ p → o ≡ p
    by None None held is = refl
    by None (Some v) held is = let e = complete cs vs sound stable n x v is in absurd cc
    by (Some v) p held is =
        let few : known vs ≤ n = omega (arith, count_by-le-length is_some vs, sound.as_many) in
        sym (steps_keep cs (known vs) n few x v (sound.is_value x v held)) ∙ is

-- ## In the program

not_some : {A : Type 0} (o : Option A) → is_some o ≡ false → o ≡ None
not_some None e = refl
not_some (Some x) e = absurd cc

-- the constant at place `i` of the references
pub constant_at : (ks : List (Bor written.Constant)) (i : ℕ) (d : Bor written.Constant)
    → i < length ks
    → slice_get (read_constants ks) i ≡ Some (view_constant (get_or ks i d).now)
constant_at ks i d below =
    slice_get-map (λ k. view_constant k.now) ks i
    ∙ ap (option_map (λ k. view_constant k.now)) (slice_get-get_or ks i d below)

-- a place without a value holds none
pub none_at : (vs : List (Option ℤ)) (n i : ℕ) (d : Option ℤ) → length vs ≡ n → i < n
    → is_some (get_or vs i d) ≡ false → slice_get vs i ≡ Some None
none_at vs n i d as_many below none =
    let within : i < length vs = omega arith in
    slice_get-get_or vs i d within ∙ ap Some (not_some (get_or vs i d) none)

-- a sound table has a place for each constant
pub place_held : (ks : List (Bor written.Constant)) (vs : List (Option ℤ)) (i : ℕ)
    → IsSound (read_constants ks) vs → i < length ks → i < length vs
place_held ks vs i sound below =
    omega (arith, sound.as_many, length-map ks (λ k. view_constant k.now))

-- one value more is known
pub known_more : (vs : List (Option ℤ)) (i : ℕ) (v : ℤ) → slice_get vs i ≡ Some None
    → known vs < known (set vs i (Some v))
known_more vs i v none = omega (arith, known-set vs i v none)

-- a place with a value is stable
pub stable_held : (cs : List Constant) (vs : List (Option ℤ)) (i : ℕ) (d : Option ℤ)
    → is_some (get_or vs i d) ≡ true → IsStable cs vs i
stable_held cs vs i d some c at none =
    let e : false ≡ true = sym (ap is_some (get_or_from_slice_get vs i None d none)) ∙ some in
    absurd cc

-- the value of a static expression is the same under two equal lists of names
pub value_had : (names other : List Name) (vs : List (Option ℤ)) (s : Static) (o : Option ℤ)
    → names ≡ other
    → o ≡ value_under (value_held names vs) s → value_under (value_held other vs) s ≡ o
value_had names other vs s o same e = ap (λ ns. value_under (value_held ns vs) s) (sym same) ∙ sym e

-- a constant without a value under those that are held leaves the table stable at its place
pub stable_at : (cs : List Constant) (vs : List (Option ℤ)) (i : ℕ) (c : Constant)
    → slice_get cs i ≡ Some c
    → value_under (value_held (names_of cs) vs) c.value ≡ None → IsStable cs vs i
stable_at cs vs i c is none d same stands =
    let one : Some c ≡ Some d = sym is ∙ same in
    ap (λ o. o >>= λ a. value_under (value_held (names_of cs) vs) a.value) (sym one) ∙ none

-- ## The tasks of the walk

waiting-seen : (n : ℕ) (s : Bool) → s ≡ false → cond s 0 n ≡ n
waiting-seen n true e = absurd cc
waiting-seen n false e = refl

pub waiting-set : (seen : List Bool) (cs : List Constant) (i : ℕ) (c : Constant) (d : Bool)
    → i < length seen → get_or seen i d ≡ false → slice_get cs i ≡ Some c
    → waiting (set seen i true) cs + (2 + length (static_names c.value)) ≡ waiting seen cs
waiting-set [] cs i c e below unseen is = absurd (omega arith)
waiting-set (s ∷ seen) [] i c e below unseen is = absurd cc
waiting-set (s ∷ seen) (d ∷ cs) zero c e below unseen is =
    let same : d ≡ c = cc in
    let names : length (static_names d.value) ≡ length (static_names c.value) =
    ap (λ (k : Constant). length (static_names k.value)) same in
    let here = waiting-seen (2 + length (static_names d.value)) s unseen in
    omega arith
waiting-set (s ∷ seen) (d ∷ cs) (suc i) c e below unseen is =
    let later = waiting-set seen cs i c e (omega arith) unseen is in
    omega arith

pub names_length : (names : List Name) (ks : List (Bor written.Constant))
    → names ≡ names_of (read_constants ks) → length names ≡ length ks
names_length names ks e = ap length e ∙ length-map (read_constants ks) (λ c. c.name)
    ∙ length-map ks (λ k. view_constant k.now)

-- a visit of an unseen constant leaves fewer tasks, with those that may still come up counted in
pub fewer : (seen : List Bool) (ks : List (Bor written.Constant)) (i : ℕ) (d : Bor written.Constant)
    (e : Bool) (left before after : ℕ)
    → length seen ≡ length ks → i < length ks → get_or seen i e ≡ false → before ≡ left + 1
    → after ≤ left + 1 + length (static_names (view_static (get_or ks i d).now.value))
    → waiting (set seen i true) (read_constants ks) + after < waiting seen (read_constants ks)
    + before
fewer seen ks i d e left before after as_many below unseen taken put =
    let within : i < length seen = omega arith in
    let sum = waiting-set seen (read_constants ks) i (view_constant (get_or ks i d).now) e within
    unseen (constant_at ks i d below) in
    omega arith

-- ## The first constant of each name

named_other : (x : Name) (before rest : List Constant) (c : Constant) → bytes_eq c.name x ≡ false
    → named (λ k. k.name) x (before ++ c ∷ rest) ≡ named (λ k. k.name) x (before ++ rest)
named_other x [] rest c e = ap (λ b. cond b (Some c) (named (λ k. k.name) x rest)) e
named_other x (b ∷ before) rest c e =
    ap (cond (bytes_eq b.name x) (Some b)) (named_other x before rest c e)

-- a constant whose name stands before it changes no search for a name
pub named_again : (x : Name) (before rest : List Constant) (c : Constant)
    → among c.name (names_of before) ≡ true
    → named (λ k. k.name) x (before ++ c ∷ rest) ≡ named (λ k. k.name) x (before ++ rest)
named_again x [] rest c e = absurd cc
named_again x (b ∷ before) rest c e =
    by (bytes_eq b.name x) (bytes_eq c.name b.name) refl refl e (named_again x before rest c)
  where
    by : (p q : Bool) → bytes_eq b.name x ≡ p → bytes_eq c.name b.name ≡ q
        → (q || among c.name (names_of before)) ≡ true
        → (among c.name (names_of before) ≡ true
        → named (λ k. k.name) x (before ++ c ∷ rest) ≡ named (λ k. k.name) x (before ++ rest))
        → cond p (Some b) (named (λ k. k.name) x (before ++ c ∷ rest))
        ≡ cond p (Some b) (named (λ k. k.name) x (before ++ rest))
    by true q other same e later = refl
    by false false other same e later = later e
    by false true other same e later =
        let name = (bytes_eq-Decides c.name b.name).0 same in
        named_other x before rest c (ap (λ y. bytes_eq y x) name ∙ other)

same_step : (cs ds : List Constant) → AreFirst cs ds → (n : ℕ)
    → ((x : Name) → constant_value cs n x ≡ constant_value ds n x)
    → (x : Name) → constant_value cs (suc n) x ≡ constant_value ds (suc n) x
same_step cs ds first n before x =
    ap (λ o. o >>= λ c. value_under (constant_value cs n) c.value) (first x)
    ∙ ap (λ f. named (λ c. c.name) x ds >>= λ c. value_under f c.value) (λ i y. before y i)

same_values : (cs ds : List Constant) → AreFirst cs ds → (n : ℕ) (x : Name)
    → constant_value cs n x ≡ constant_value ds n x
same_values cs ds first zero x = refl
same_values cs ds first (suc n) x = same_step cs ds first n (same_values cs ds first n) x

-- ## The values of all names

pub all_values : (ks : List (Bor written.Constant)) (ds : List written.Constant) (names : List Name)
    (vs : List (Option ℤ))
    → names ≡ names_of (read_constants ks) → AreFirst (read_constants ks) (map view_constant ds)
    → length ks ≤ length ds
    → IsSound (read_constants ks) vs → AreStable (read_constants ks) vs
    → value_held names vs ≡ constant_value (map view_constant ds) (length ds)
all_values ks ds names vs same first few sound stable =
    ap (λ ns. value_held ns vs) same ∙ (λ i x. all x i)
  where
    as_many : length (read_constants ks) ≡ length ks
    as_many = length-map ks (λ k. view_constant k.now)

    all : (x : Name) → value_held (names_of (read_constants ks)) vs x
        ≡ constant_value (map view_constant ds) (length ds) x
    all x =
        all_held (read_constants ks) vs (length ds) (omega (arith, as_many)) sound stable x
        ∙ same_values (read_constants ks) (map view_constant ds) first (length ds) x

-- ## The first constants one by one

next_are : (fs : List Constant) (ks : List written.Constant) (i : ℕ) (k : written.Constant)
    → i < length ks → k ≡ get_or ks i k
    → fs ++ map view_constant (drop i ks) ≡ fs ++ view_constant k
    ∷ map view_constant (drop (i + 1) ks)
next_are fs ks i k below is =
    ap (λ l. fs ++ l) (map_next view_constant ks i k below)
    ∙ ap (λ d. fs ++ view_constant d ∷ map view_constant (drop (i + 1) ks)) (sym is)

-- a constant whose name is new is taken
pub first_taken : (fs gs : List (Bor written.Constant)) (r : Bor written.Constant)
    (ks : List written.Constant) (i : ℕ) (names after : List Name)
    → i < length ks → r.now ≡ get_or ks i r.now → names ≡ names_of (read_constants fs)
    → AreFirst (read_constants fs ++ map view_constant (drop i ks)) (map view_constant ks)
    → after ≡ declared_after names r.now.name → true ≡ not (among r.now.name names)
    → gs ≡ fs ++ r ∷ []
    → (after ≡ names_of (read_constants gs))
    × AreFirst (read_constants gs ++ map view_constant (drop (i + 1) ks)) (map view_constant ks)
first_taken fs gs r ks i names after below is same first declared fresh taken = (
  declared ∙ appended (among r.now.name names) fresh ∙ ap (λ l. l ++ r.now.name ∷ []) same
      ∙ sym names_after,
  λ x. ap (named (λ c. c.name) x) all_after ∙ first x,
)
  where
    appended : (b : Bool) → true ≡ not b
        → (if b then names else names ++ r.now.name ∷ []) ≡ names ++ r.now.name ∷ []
    appended true e = absurd cc
    appended false e = refl

    read_after : read_constants gs ≡ read_constants fs ++ view_constant r.now ∷ []
    read_after = ap read_constants taken ∙ map-append (λ k. view_constant k.now) fs (r ∷ [])

    names_after : names_of (read_constants gs) ≡ names_of (read_constants fs) ++ r.now.name ∷ []
    names_after = ap names_of read_after
        ∙ map-append (λ c. c.name) (read_constants fs) (view_constant r.now ∷ [])

    all_after : read_constants gs ++ map view_constant (drop (i + 1) ks) ≡ read_constants fs
        ++ map view_constant (drop i ks)
    all_after =
        ap (λ l. l ++ map view_constant (drop (i + 1) ks)) read_after
        ∙ append_assoc (read_constants fs) (view_constant r.now ∷ [])
        (map view_constant (drop (i + 1) ks))
        ∙ sym (next_are (read_constants fs) ks i r.now below is)

-- a constant whose name is not new is left
pub first_left : (fs gs : List (Bor written.Constant)) (k : written.Constant)
    (ks : List written.Constant) (i : ℕ) (names after : List Name)
    → i < length ks → k ≡ get_or ks i k → names ≡ names_of (read_constants fs)
    → AreFirst (read_constants fs ++ map view_constant (drop i ks)) (map view_constant ks)
    → after ≡ declared_after names k.name → false ≡ not (among k.name names) → gs ≡ fs
    → (after ≡ names_of (read_constants gs))
    × AreFirst (read_constants gs ++ map view_constant (drop (i + 1) ks)) (map view_constant ks)
first_left fs gs k ks i names after below is same first declared known left = (
  declared ∙ unchanged (among k.name names) known ∙ same
      ∙ ap (λ l. names_of (read_constants l)) (sym left),
  λ x. ap (λ l. named (λ c. c.name) x (read_constants l ++ map view_constant (drop (i + 1) ks)))
      left
      ∙ sym (named_again x (read_constants fs) (map view_constant (drop (i + 1) ks))
      (view_constant k) (ap (among k.name) (sym same) ∙ stands (among k.name names) known))
      ∙ ap (named (λ c. c.name) x) (sym (next_are (read_constants fs) ks i k below is))
      ∙ first x,
)
  where
    stands : (b : Bool) → false ≡ not b → b ≡ true
    stands true e = refl
    stands false e = absurd cc

    unchanged : (b : Bool) → false ≡ not b → (if b then names else names ++ k.name ∷ []) ≡ names
    unchanged true e = refl
    unchanged false e = absurd cc

-- a table whose values were replaced by those of another sound table has these
pub table_kept : (cs : List Constant) (v : Vec (Option ℤ) Global) (ws : List (Option ℤ))
    → IsSound cs v.items → IsSound cs ws → (with_items v ws).items ≡ ws
table_kept cs v ws old new =
    with_items_is v ws (omega (arith, old.as_many, new.as_many, v.ok.0))

-- a table for some constants whose values were replaced by those of a sound one has these
pub table_made : (ks : List (Bor written.Constant)) (v : Vec (Option ℤ) Global)
    (ws : List (Option ℤ)) → vec_len v ≡ length ks → IsSound (read_constants ks) ws
    → (with_items v ws).items ≡ ws
table_made ks v ws long new =
    with_items_is v ws
    (omega (arith, long, new.as_many, length-map ks (λ k. view_constant k.now)))

-- with one value more, fewer are left to be found
pub fewer_unknown : (ks : List (Bor written.Constant)) (v : Vec (Option ℤ) Global)
    (ws : List (Option ℤ))
    → IsSound (read_constants ks) v.items → IsSound (read_constants ks) ws
    → known v.items < known ws
    → length ks - known (with_items v ws).items < length ks - known v.items
fewer_unknown ks v ws old new more =
    let few = count_by-le-length is_some ws in
    let as_many = length-map ks (λ k. view_constant k.now) in
    let less : length ks - known ws < length ks - known v.items =
    omega (arith, few, as_many, new.as_many) in
    subst (λ l. length ks - known l < length ks - known v.items)
    (sym (table_kept (read_constants ks) v ws old new)) less

-- behind the last constant the first of each name is taken
pub all_first : (fs : List (Bor written.Constant)) (ks : List written.Constant) (i : ℕ)
    → length ks ≤ i
    → AreFirst (read_constants fs ++ map view_constant (drop i ks)) (map view_constant ks)
    → AreFirst (read_constants fs) (map view_constant ks)
all_first fs ks i past first x =
    ap (named (λ c. c.name) x) (sym (append-nil (read_constants fs))
    ∙ ap (λ l. read_constants fs ++ map view_constant l) (sym (drop_all i ks past))) ∙ first x
