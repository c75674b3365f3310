-- The widths of typed instances, in histories with a stream for each element.
use Rattle.lb_expand.proofs.Words
use Words.{Call, Child, DataType, Every, Every-at, Every-both, Every-from, Every-map, Expr}
use Words.{HasTypes, History, In, Instance, IsEntered, Iterate, Layout, List, Node, Node_named}
use Words.{None, Occurrence, OfCalled, Option, Program, Site, Some, all_called, all_children}
use Words.{all_entered, and_second, base_clock, call_clocks, check_refusal, children, data_types}
use Words.{flat_clock, instances, instantiation_kept, is_clock_typed, is_statement_typed, is_typed}
use Words.{length, level, list_all, node_calls, node_named, node_occurrences, node_sites, number}
use Words.{numbered_sites, occurrences, occurrences_each, occurrences_typed, own_site, refl}
use Words.{right_sides, static_refusal, subst, true, variables, width, ℕ, ◌+◌, ◌<◌, ◌≡◌, ◌≤◌}
use Rattle.{lb_check.specs.Clocks.Clock, lb_expand.proofs.solutions.Placing.IsCallPlaced}
use Rattle.lb_expand.proofs.solutions.Placing.{IsIteratorPlaced, IsPlaced, IsPlacedAt}
use Rattle.lb_expand.proofs.{solutions.Solving.IsSound, widths.PlacedCalls.body_wide}
use Rattle.lb_expand.proofs.widths.PlacedCalls.{call_as_wide, iterator_as_wide}
use Rattle.lb_expand.proofs.widths.Widths.{AreVariablesWide, IsOccurrenceWide, IsTypedAt, IsWideAt}
use Rattle.lb_expand.proofs.widths.Widths.{PartsHave, nested_all}
pub use Rattle.lb_check.proofs.programs.AcceptedRules.{all_typed}

-- In an accepted program whose rules hold, and in a history with a stream for each element of a
-- variable, what each call of an instance calls is as wide as its types.

module _ (P : Program) (H : History) (here : Instance) where
  -- the variables of an instance that `here` calls are as wide as their types
  abbrev Wide : Instance → Type 0
  Wide c = AreVariablesWide P H here c

  abbrev IsSited : ℕ → Expr → Type 0
  IsSited n e = (s : Site) → own_site e ≡ Some s → OfCalled P here Wide (n, s)

  wide_at : (n : ℕ) (e : Expr) → IsSited n e → IsWideAt P H here n e
  wide_at n (Call f statics es) h = let z = h _ refl in z.1 0 z.0
  wide_at n (Iterate it (Node_named f statics) m es) h = let z = h _ refl in (z.0, z.1)
  wide_at n _ h = tt

module _ (P : Program) (accepted : static_refusal P ≡ None) (H : History)
    (wide : (here : Instance) → In here (instances P) →
    Every (λ d. length (H.columns here.path d.name) ≡ width P here d) (variables here.node)) where
  abbrev Kept : Instance → Type 0
  Kept c = Every (λ d. length (H.columns c.path d.name) ≡ width P c d) (variables c.node)

  entered : Every (IsEntered P) (instances P)
  entered = all_entered P 0 (instances P) (instantiation_kept P accepted)

  called_wide : Every (λ i. Every Kept (children P i)) (instances P)
  called_wide =
      all_children P Kept
      (Every-both (λ c. level P c.path ≤ 64) Kept (instances P)
      (Every-map _ _ (λ c h. h.0) (instances P) entered)
      (Every-from Kept (instances P) wide))

  -- what the calls of an instance call is as wide as its types
  pub calls_wide :
      (here : Instance) → In here (instances P) →
      Every (IsOccurrenceWide P H here) (node_occurrences P here.node)
  calls_wide here i =
      let sizes = Every-at (IsEntered P) (instances P) here entered i in
      let below = Every-at (λ i. Every Kept (children P i)) (instances P) here called_wide i in
      let called = all_called P Kept here below sizes.1 in
      Every-map _ (IsOccurrenceWide P H here)
      (λ o stands. wide_at P H here o.calls_before o.expr
      (λ s is. Every-at (OfCalled P here Kept) (numbered_sites 0 (node_sites here.node))
      (o.calls_before, s) called (stands s is)))
      (node_occurrences P here.node) (node_calls P here.node).stand

-- in an accepted program each occurrence in the text of an instance has types, and what is called
-- in it is as wide as its types
pub occurrences_at :
    (P : Program) → static_refusal P ≡ None → check_refusal P ≡ None → (H : History)
    (here : Instance) → In here (instances P) →
    Every (IsOccurrenceWide P H here) (node_occurrences P here.node) →
    Every (IsTypedAt P H here) (node_occurrences P here.node)
occurrences_at P accepted checked H here i w =
    let all = node_occurrences P here.node in
    Every-map _ (IsTypedAt P H here)
    (λ o z. record { types = z.0.types; are = z.0.typed; parts = z.1 }) all
    (Every-both (HasTypes P here) (PartsHave P here.node (IsOccurrenceWide P H here)) all
    (Every-at (λ here. Every (HasTypes P here) (node_occurrences P here.node)) (instances P) here
    (occurrences_typed P accepted checked) i)
    (nested_all P here.node (IsOccurrenceWide P H here) (right_sides P here.node 0 here.node.body)
    w))

-- An instance that is typed is sound: its equations and its calls have the widths of their types.

module _ (Y : Layout) (P : Program) (H : History) (here : Instance) where
  -- the instances of a call run on the flat clock of the call
  abbrev pub RunAt : Clock → ℕ → Expr → Type 0
  RunAt k n (Call f statics es) =
      (callee : Node) → node_named P f ≡ Some callee →
      Y.runs (Child here.path n 0) ≡ flat_clock Y here.path (base_clock k callee)
  RunAt k n (Iterate it (Node_named f statics) m es) =
      (i : ℕ) → i < number P here m →
      Y.runs (Child here.path n i) ≡ flat_clock Y here.path k
  RunAt k n e = Unit {0}

  abbrev pub RunsAt : Occurrence → Type 0
  RunsAt o = RunAt o.clock o.calls_before o.expr

  abbrev AllWide : List Occurrence → Type 0
  AllWide os = Every (IsOccurrenceWide P H here) os

  module _ (variables_wide : AreVariablesWide P H here here) where
    call_placed :
        (k : Clock) (n : ℕ) (e : Expr) (ts : List DataType) → data_types P here e ≡ Some ts →
        RunAt k n e → AllWide (occurrences P here.node k n e) → IsPlacedAt Y P H here k n e
    call_placed k n (Call f statics es) ts e runs w = by (node_named P f) refl
      where
        by : (o : Option Node) → node_named P f ≡ o → IsCallPlaced Y P H here k n es o
        by None named = tt
        by (Some callee) named = record {
          runs = runs callee named;
          as_wide = call_as_wide P H here variables_wide k n f statics es ts e w.0 callee named
              (subst (λ o. AllWide (occurrences_each P here.node (call_clocks k o es) (n + 1) es))
              named w.1);
        }
    call_placed k n (Iterate it (Node_named f statics) m es) ts e runs w =
        by (node_named P f) refl
      where
        by :
            (o : Option Node) → node_named P f ≡ o →
            IsIteratorPlaced Y P H here k n it (number P here m) es o
        by None named = tt
        by (Some callee) named = λ i lt. record {
          runs = runs i lt;
          as_wide = iterator_as_wide P H here variables_wide k n it f statics m es ts e w.0.1
              callee named w.1 i lt;
        }
    call_placed k n e ts typed_e runs w = tt

    occurrence_placed : (o : Occurrence) → IsTypedAt P H here o × RunsAt o → IsPlaced Y P H here o
    occurrence_placed o h =
        call_placed o.clock o.calls_before o.expr h.0.types h.0.are h.1 h.0.parts

    -- a typed instance is sound, where what it calls runs on the clocks of the calls
    pub instance_sound :
        is_typed P here ≡ true → AllWide (node_occurrences P here.node) →
        Every (IsTypedAt P H here) (node_occurrences P here.node) →
        Every RunsAt (node_occurrences P here.node) → IsSound Y P H here
    instance_sound h w typed runs =
        let body = and_second (list_all (is_clock_typed P here) (variables here.node))
        (list_all (is_statement_typed P here) here.node.body) h in
        let all = node_occurrences P here.node in
        record {
          wide = body_wide P H here variables_wide 0 here.node.body body w;
          placed = Every-map _ (IsPlaced Y P H here) occurrence_placed all
              (Every-both (IsTypedAt P H here) RunsAt all typed runs);
        }
