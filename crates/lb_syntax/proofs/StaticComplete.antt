-- Static expressions, clocks and static arguments: what is spelled is read.
use Rattle.std.proofs.Common.{◌≡◌, ℕ, zero, suc, ◌+◌, ◌-◌, ◌≤◌, ◌<◌, max, inl, inr, Bool, true}
use Rattle.std.proofs.Common.{false, List, [], ◌∷◌, length, Option, Some, None, refl, ap, sym, ◌∙◌}
use Rattle.std.proofs.Common.{subst, arith}
use Rattle.lb_syntax.specs.declared.level.Form.TheVariants as form
use Rattle.lb_syntax.specs.declared.token.Mark.TheVariants as m
use Rattle.lb_syntax.specs.declared.token.Token.{Token}
use Rattle.lb_syntax.specs.declared.token.Token.TheVariants as token
use Rattle.lb_syntax.specs.declared.tree.BinaryOperator.TheVariants.{Or, Xor, And, Plus, Minus}
use Rattle.lb_syntax.specs.declared.tree.BinaryOperator.TheVariants.{Times}
use Rattle.lb_syntax.specs.Tree.{Name, BinaryOperator, Static}
use Rattle.lb_syntax.specs.Tree.{Whole, Named, Negated, Combined, Grouped, Operator, Node_named}
use Rattle.lb_syntax.specs.Tree.{Symbol}
use Rattle.lb_syntax.specs.Levels.{row_of, static_level}
use Rattle.lb_syntax.specs.Spelling.{◌▸◌, Span, IsMark, IsSeparator, IsArithmetic, IsStatic}
use Rattle.lb_syntax.specs.Spelling.{AreStatics, AreArguments, IsSize, IsClockName, IsClock}
use Rattle.lb_syntax.specs.Spelling.{IsOperator}
use Rattle.lb_syntax.specs.Readers.{◌>>=◌, Reader, expect, name_at}
use Rattle.lb_syntax.specs.Reading.{Stop, climb, separator, static_group, static_first, static_by}
use Rattle.lb_syntax.specs.Reading.{static_step, static_level_at, static_tree, static_at}
use Rattle.lb_syntax.specs.Reading.{statics_at, size_at, clock_name_at, clock_at, arguments_at}
use Rattle.lb_syntax.specs.Reading.{operator_at, applied_at, arithmetic_at}
use Rattle.lb_syntax.proofs.Readers.{expect_same}
use Rattle.lb_syntax.proofs.Steps.{static_takes-from, static_takes-not, separator_reads}
use Rattle.lb_syntax.proofs.Lists.{Readable, list_reads}
use Rattle.lb_syntax.proofs.Rows.{is_row, suits}
use Rattle.lb_syntax.proofs.Ends.{arithmetic_level, static_next, EndsStatic, separator_ends}
use Rattle.lb_syntax.proofs.Ends.{arithmetic_next}

pub len : (ts us : List Token) → ts ≡ us → length ts ≡ length us
len ts us e = ap length e

-- ---- static expressions

-- an operator of level `k` after a static expression belongs to no operand on its right edge
abbrev StaticBelow : ℕ → Static → Type 0
StaticBelow k (Combined op s t) = (k < (row_of (form.Data op)).right) × StaticBelow k t
StaticBelow k (Negated s) = (k < 12) × StaticBelow k s
StaticBelow k _ = Unit {0}

abbrev static_depth : Static → ℕ
static_depth (Combined op s t) = max (static_depth s) (suc (static_depth t))
static_depth (Negated s) = suc (static_depth s)
static_depth (Grouped s) = suc (static_depth s)
static_depth _ = 1

abbrev static_spine : Static → ℕ
static_spine (Combined op s t) = suc (static_spine s)
static_spine _ = 0

static_depth_one : (s : Static) → 1 ≤ static_depth s
static_depth_one (Combined op s t) = omega arith
static_depth_one _ = omega arith

data_small : (op : BinaryOperator) → (row_of (form.Data op)).level ≤ 11
data_small Or = omega arith
data_small _ = omega arith

static_one : (s : Static) → 1 ≤ static_level s
static_one (Combined op s t) = (is_row (form.Data op)).one
static_one _ = omega arith

static_below : (least k : ℕ) (s : Static) (ts rest : List Token) → k ≤ 11 → IsStatic s ts rest →
    least ≤ static_level s → k < least → StaticBelow k s
static_below least k (Combined op s t) ts rest small is high lt =
    let row = is_row (form.Data op) in
    let up = row.right_high in (
      omega arith,
      static_below (row_of (form.Data op)).right k t is.0.2.0 rest small is.0.2.2 is.2
          (omega arith),
    )
static_below least k (Negated s) ts rest small is high lt =
    (omega arith, static_below 12 k s is.0.0 rest small is.0.2 is.1 (omega arith))
static_below least k _ ts rest small is high lt = tt

static_below_left : (op : BinaryOperator) (s : Static) (ts rest : List Token) → IsStatic s ts rest →
    (row_of (form.Data op)).left ≤ static_level s →
    StaticBelow (row_of (form.Data op)).level s
static_below_left op (Combined o s t) ts rest is high =
    let lt = suits (row_of (form.Data op)) (row_of (form.Data o)) (is_row (form.Data op))
    (is_row (form.Data o)) high in (
      lt,
      static_below (row_of (form.Data o)).right (row_of (form.Data op)).level t is.0.2.0 rest
          (data_small op) is.0.2.2 is.2 lt,
    )
static_below_left op (Negated s) ts rest is high =
    let small = data_small op in (
      omega arith,
      static_below 12 (row_of (form.Data op)).level s is.0.0 rest small is.0.2 is.1
          (omega arith),
    )
static_below_left op _ ts rest is high = tt

static_room : (s : Static) (ts rest : List Token) → IsStatic s ts rest →
    static_depth s + length rest ≤ length ts
static_room (Whole n) ts rest is = omega (arith, len ts _ is)
static_room (Named x) ts rest is = omega (arith, len ts _ is)
static_room (Grouped s) ts rest is =
    omega (arith, len ts _ is.1, static_room s is.0 is.2.0 is.2.1, len is.2.0 _ is.2.2)
static_room (Negated s) ts rest is =
    omega (arith, len ts _ is.0.1, static_room s is.0.0 rest is.0.2)
static_room (Combined op s t) ts rest is =
    omega (
      arith,
      static_room s ts is.0.0 is.0.1,
      len is.0.0 _ is.0.2.1.2,
      static_room t is.0.2.0 rest is.0.2.2,
    )

static_spine_room : (s : Static) (ts rest : List Token) → IsStatic s ts rest →
    static_spine s + length rest ≤ length ts
static_spine_room (Combined op s t) ts rest is =
    omega (
      arith,
      static_spine_room s ts is.0.0 is.0.1,
      len is.0.0 _ is.0.2.1.2,
      static_room t is.0.2.0 rest is.0.2.2,
    )
static_spine_room (Whole n) ts rest is = omega (arith, static_room (Whole n) ts rest is)
static_spine_room (Named x) ts rest is = omega (arith, static_room (Named x) ts rest is)
static_spine_room (Grouped s) ts rest is = omega (arith, static_room (Grouped s) ts rest is)
static_spine_room (Negated s) ts rest is = omega (arith, static_room (Negated s) ts rest is)

abbrev StaticComplete : ℕ → (ℕ → Reader Static) → Type 0
StaticComplete n inner =
    (s : Static) (least : ℕ) (ts rest : List Token) → static_depth s ≤ n → IsStatic s ts rest →
    least ≤ static_level s →
    StaticBelow (static_next rest) s → static_next rest < least → inner least ts ≡ Some (s, rest)

module _ (n : ℕ) (inner : ℕ → Reader Static) (complete : StaticComplete n inner) where
  static_whole : (s : Static) (ts rest : List Token) → static_depth s ≤ n → IsStatic s ts rest →
      EndsStatic rest → inner 1 ts ≡ Some (s, rest)
  static_whole s ts rest deep is ends =
      complete s 1 ts rest deep is (static_one s)
      (subst (λ k. StaticBelow k s) (sym ends)
      (static_below 1 0 s ts rest (omega arith) is (static_one s) (omega arith))) (omega arith)

  static_by_stops : (least : ℕ) (s : Static) (ts : List Token) (o : Option BinaryOperator) →
      arithmetic_level o < least → static_by inner least s ts o ≡ Stop
  static_by_stops least s ts (Some op) lt =
      rw (static_takes-not least (row_of (form.Data op)) s lt) refl
  static_by_stops least s ts None lt = refl

  static_climb_stops : (k least : ℕ) (s : Static) (rest : List Token) → static_next rest < least →
      climb (static_step inner least) k s rest ≡ Some (s, rest)
  unfolding climb
  static_climb_stops zero least s rest lt = refl
  static_climb_stops (suc k) least s [] lt = refl
  static_climb_stops (suc k) least s (t ∷ ts) lt =
      rw (static_by_stops least s ts (arithmetic_at t) lt) refl

  static_one_step : (p least : ℕ) (op : BinaryOperator) (s t : Static) (ts us rest : List Token) →
      IsArithmetic op ts us → least ≤ (row_of (form.Data op)).level →
      (row_of (form.Data op)).left ≤ static_level s → inner (row_of (form.Data op)).right us
      ≡ Some (t, rest) →
      climb (static_step inner least) (suc p) s ts
      ≡ climb (static_step inner least) p (Combined op s t) rest
  unfolding climb
  static_one_step p least op s t ts us rest is le high reads =
      ap (climb (static_step inner least) (suc p) s) is.2
      ∙ rw (is.1, static_takes-from least (row_of (form.Data op)) s le high, reads) refl

  static_group_reads : (s : Static) (ts rest : List Token) → static_depth s ≤ n →
      (IsStatic s ▸ IsMark m.Close) ts rest → static_group inner ts ≡ Some (Grouped s, rest)
  static_group_reads s ts rest deep is =
      rw (
        static_whole s ts is.0 deep is.1 (subst EndsStatic (sym is.2) refl),
        is.2,
        expect_same m.Close rest,
      ) refl

  abbrev StaticStart : ℕ → ℕ → List Token → Option (Static × List Token)
  StaticStart q least ts = static_first inner ts >>= λ s. climb (static_step inner least) q s.0 s.1

  static_reads_from : (s : Static) (least : ℕ) (ts rest : List Token) (q p : ℕ) →
      q ≡ static_spine s + p → static_depth s ≤ suc n → IsStatic s ts rest →
      least ≤ static_level s →
      StaticBelow (static_next rest) s → StaticStart q least ts
      ≡ climb (static_step inner least) p s rest
  unfolding static_first
  static_reads_from (Whole n) least ts rest q p fuel deep is high below =
      ap (StaticStart q least) is ∙ ap (λ z. climb (static_step inner least) z (Whole n) rest)
      (omega arith)
  static_reads_from (Named x) least ts rest q p fuel deep is high below =
      ap (StaticStart q least) is ∙ ap (λ z. climb (static_step inner least) z (Named x) rest)
      (omega arith)
  static_reads_from (Grouped s) least ts rest q p fuel deep is high below =
      let deep : suc (static_depth s) ≤ suc n = deep in
      ap (StaticStart q least) is.1 ∙ rw (static_group_reads s is.0 rest (omega arith) is.2)
      (ap (λ z. climb (static_step inner least) z (Grouped s) rest) (omega arith))
  static_reads_from (Negated s) least ts rest q p fuel deep is high below =
      let deep : suc (static_depth s) ≤ suc n = deep in
      ap (StaticStart q least) is.0.1
      ∙ rw (complete s 12 is.0.0 rest (omega arith) is.0.2 is.1 below.1 below.0)
      (ap (λ z. climb (static_step inner least) z (Negated s) rest) (omega arith))
  static_reads_from (Combined op s t) least ts rest q p fuel deep is high below =
      let fuel : q ≡ suc (static_spine s) + p = fuel in
      let deep : max (static_depth s) (suc (static_depth t)) ≤ suc n = deep in
      let up = (is_row (form.Data op)).left_high in
      let under = subst (λ k. StaticBelow k s) (sym (arithmetic_next op is.0.0 is.0.2.0 is.0.2.1))
      (static_below_left op s ts is.0.0 is.0.1 is.1) in
      static_reads_from s least ts is.0.0 q (suc p) (omega arith) (omega arith) is.0.1
      (omega arith) under
      ∙ static_one_step p least op s t is.0.0 is.0.2.0 rest is.0.2.1 high is.1
      (complete t (row_of (form.Data op)).right is.0.2.0 rest (omega arith) is.0.2.2 is.2 below.1
      below.0)

  static_level_reads : (s : Static) (least : ℕ) (ts rest : List Token) → static_depth s ≤ suc n →
      IsStatic s ts rest → least ≤ static_level s →
      StaticBelow (static_next rest) s → static_next rest < least → static_level_at inner least ts
      ≡ Some (s, rest)
  unfolding static_level_at
  static_level_reads s least ts rest deep is high below lt =
      let q = length ts in
      let p = q - static_spine s in
      static_reads_from s least ts rest q p (omega (arith, static_spine_room s ts rest is)) deep is
      high below ∙ static_climb_stops p least s rest lt

static_complete : (n : ℕ) → StaticComplete n (static_tree n)
unfolding static_tree
static_complete zero s least ts rest deep is high below lt =
    absurd (omega (arith, static_depth_one s))
static_complete (suc n) s least ts rest deep is high below lt =
    static_level_reads n (static_tree n) (static_complete n) s least ts rest deep is high below lt

pub static_reads : (s : Static) (ts rest : List Token) → IsStatic s ts rest → EndsStatic rest →
    static_at ts ≡ Some (s, rest)
unfolding static_at
static_reads s ts rest is ends =
    let n = length ts in
    static_whole n (static_tree n) (static_complete n) s ts rest
    (omega (arith, static_room s ts rest is)) is ends

-- ---- lists of static expressions, sizes and clocks

pub static_shorter : (s : Static) (ts rest : List Token) → IsStatic s ts rest
    → length rest < length ts
static_shorter s ts rest is = omega (arith, static_room s ts rest is, static_depth_one s)

pub separator_room : (ts rest : List Token) → IsSeparator ts rest → length rest < length ts
separator_room ts rest (inl e) = omega (arith, len ts _ e)
separator_room ts rest (inr e) = omega (arith, len ts _ e)

abbrev AnyStatic : Static → Type 0
AnyStatic s = Unit {0}

any_statics : (ss : List Static) → Readable AnyStatic ss
any_statics [] = tt
any_statics (s ∷ ss) = (tt, any_statics ss)

statics_at_reads : (ss : List Static) (ts rest : List Token) → AreStatics ss ts rest →
    EndsStatic rest → separator rest ≡ None → statics_at ts ≡ Some (ss, rest)
unfolding statics_at
statics_at_reads ss ts rest is ends last =
    list_reads IsSeparator IsStatic separator static_at AnyStatic EndsStatic separator_reads
    separator_ends separator_room
    (λ s us vs p. let lt = static_shorter s us vs p in omega arith)
    (λ s us vs _ p e. static_reads s us vs p e) ss ts rest (any_statics ss) is ends last

pub size_reads : (n : Static) (ts rest : List Token) → IsSize n ts rest →
    size_at ts ≡ Some (n, rest)
unfolding size_at
size_reads (Whole n) ts rest is = ap size_at is
size_reads (Named x) ts rest is = ap size_at is
size_reads (Grouped s) ts rest is =
    ap size_at is.1
    ∙ rw (
      static_reads s is.0 is.2.0 is.2.1 (subst EndsStatic (sym is.2.2) refl),
      is.2.2,
      expect_same m.Close rest,
    ) refl
size_reads (Negated s) ts rest is = absurd is
size_reads (Combined op s t) ts rest is = absurd is

clock_name_reads : (c : Name) (ts rest : List Token) → IsClockName c ts rest → clock_name_at ts
    ≡ Some (c, rest)
unfolding clock_name_at expect name_at
clock_name_reads c ts rest (inl e) = ap clock_name_at e
clock_name_reads c ts rest (inr is) =
    let tail = ap (λ z. token.Name c ∷ z) is.2.2 in
    ap clock_name_at (is.1 ∙ ap (λ z. token.Mark m.Open ∷ z) (is.2.1 ∙ tail))

clock_name_no_not : (c : Name) (ts rest : List Token) → IsClockName c ts rest → expect m.Not ts
    ≡ None
unfolding expect
clock_name_no_not c ts rest (inl e) = ap (expect m.Not) e
clock_name_no_not c ts rest (inr is) = ap (expect m.Not) is.1

pub clock_reads : (c : Name) (sign : Bool) (ts rest : List Token) → IsClock c sign ts rest →
    clock_at ts ≡ Some ((c, sign), rest)
unfolding clock_at
clock_reads c true ts rest is =
    rw (clock_name_no_not c ts rest is, clock_name_reads c ts rest is) refl
clock_reads c false ts rest is =
    ap clock_at is.1 ∙ rw (expect_same m.Not is.0, clock_name_reads c is.0 rest is.2) refl

-- ---- static arguments of calls, and operators and sizes of iterators

close_static_last : (ts : List Token) → separator (token.Mark m.CloseStatic ∷ ts) ≡ None
unfolding separator expect
close_static_last ts = refl

pub bracketed_reads : (ss : List Static) (ts rest : List Token) →
    (AreStatics ss ▸ IsMark m.CloseStatic) ts rest → statics_at ts
    ≡ Some (ss, token.Mark m.CloseStatic ∷ rest)
bracketed_reads ss ts rest is =
    statics_at_reads ss ts (token.Mark m.CloseStatic ∷ rest) (subst (AreStatics ss ts) is.2 is.1)
    refl (close_static_last rest)

arguments_reads : (ss : List Static) (ts rest : List Token) → AreArguments ss ts rest →
    expect m.OpenStatic rest ≡ None → arguments_at ts ≡ Some (ss, rest)
unfolding arguments_at
arguments_reads [] ts rest is none = ap arguments_at is ∙ rw none refl
arguments_reads (s ∷ ss) ts rest is none =
    ap arguments_at is.1
    ∙ rw (
      expect_same m.OpenStatic is.0,
      bracketed_reads (s ∷ ss) is.0 rest is.2,
      expect_same m.CloseStatic rest,
    ) refl

operator_reads : (f : Operator) (ts rest : List Token) → IsOperator f ts rest →
    expect m.OpenStatic rest ≡ None → operator_at ts ≡ Some (f, rest)
unfolding operator_at
operator_reads (Node_named f ss) ts rest is none =
    ap operator_at is.1 ∙ rw (arguments_reads ss is.0 rest is.2 none) refl
operator_reads (Symbol Plus) ts rest is none = ap operator_at is
operator_reads (Symbol Minus) ts rest is none = ap operator_at is
operator_reads (Symbol Times) ts rest is none = ap operator_at is
operator_reads (Symbol And) ts rest is none = ap operator_at is
operator_reads (Symbol Or) ts rest is none = ap operator_at is
operator_reads (Symbol Xor) ts rest is none = ap operator_at is
operator_reads (Symbol _) ts rest is none = absurd is

separator_no_statics : (ts rest : List Token) → IsSeparator ts rest → expect m.OpenStatic ts ≡ None
unfolding expect
separator_no_statics ts rest (inl e) = ap (expect m.OpenStatic) e
separator_no_statics ts rest (inr e) = ap (expect m.OpenStatic) e

-- the operator and the size of an iterator, after `<<`
abbrev pub Applied : Operator → Static → Span
Applied f n = IsOperator f ▸ IsSeparator ▸ IsStatic n ▸ IsMark m.CloseStatic

pub applied_reads : (f : Operator) (n : Static) (ts rest : List Token) → Applied f n ts rest →
    applied_at ts ≡ Some ((f, n), rest)
unfolding applied_at
applied_reads f n ts rest is =
    let sep = is.2.1 in
    let size = is.2.2 in
    rw (
      operator_reads f ts is.0 is.1 (separator_no_statics is.0 is.2.0 sep),
      separator_reads is.0 is.2.0 sep,
      static_reads n is.2.0 size.0 size.1 (subst EndsStatic (sym size.2) refl),
      size.2,
      expect_same m.CloseStatic rest,
    ) refl
