-- An input is the scalar of its column.
use Rattle.lb_flat.proofs.Words.{rules, ℕ, ◌≡◌, ◌<◌, ◌≤◌, ◌∙◌, [], List, ℤ, Some, None, pos, get_or}
use Rattle.lb_flat.proofs.Words.{length, ap, sym, refl, arith, true, false, inl, inr, get_or-map}
use Rattle.lb_flat.proofs.Words.{zip2, Kind, Int, kinds_of, Boolean, scalar_in, scalars_in}
use Rattle.lb_flat.proofs.Words.{inputs_of, Recording, IsRecording, IsCell, trace_at, ◌↔◌}
use Rattle.lb_flat.proofs.{Words.slice_get, runs.RecordedInputs.{scalar_there, no_scalar}}
use mir.Val.{SFits}
use Rattle.std.{specs.Prelude.{int_le, IsTrue}, proofs.Common.{w32, Bool as Truth}}
use Rattle.std.proofs.lemmas.{Bool.true≢false, Int.to_z-of_z, List.get_or_default}
use Rattle.{lb_syntax.specs.declared.tree.Kind.TheVariants.Bool, lb_traces.specs.Traces.IsRow}
use Rattle.lb_traces.{specs.Traces.cell_at, proofs.HeldRows.{length-kinds, lawful_cell}}
use Rattle.lb_traces.proofs.{RowsFound.row_follows, Storing.length-row}
use Rattle.lb_flat.proofs.recorded.input_at.Goals as goal

-- a Boolean is true exactly where its cell is 1
truth_of : (b : Truth) (v : ℤ) → IsCell Bool v → IsTrue b ↔ (v ≡ pos 1) → b ≡ int_le (pos 1) v
truth_of true v cell h = sym (ap (int_le (pos 1)) (h.0 refl))
truth_of false v (inl e) h = sym (ap (int_le (pos 1)) e)
truth_of false v (inr e) h = absurd (true≢false (sym (h.1 e)))

-- the scalars of instant `t` of trace `k`, and the scalar of column `j`
module _ (r : Recording) (kinds : List Kind) (k t j : ℕ) (lawful : IsRecording r)
    (is : kinds ≡ kinds_of r.signature) (below : k < length r.traces)
    (inside : t < length (trace_at r.traces k).1) where
  abbrev row : List ℤ
  row = get_or (trace_at r.traces k).1 t []

  full : length row ≡ length kinds
  full =
      length-row r.signature row (row_follows r k t lawful below inside)
      ∙ sym (length-kinds r.signature) ∙ sym (ap length is)

  scalars_are : get_or (inputs_of r k) t [] ≡ zip2 scalar_in kinds row
  scalars_are =
      get_or-map (scalars_in r.signature) (trace_at r.traces k).1 t [] [] inside
      ∙ ap (λ ks. zip2 scalar_in ks row) (sym is)

  there : (kind : Kind) → j < length kinds → get_or kinds j Int ≡ kind →
      Some (scalar_in kind (cell_at r.traces k t j)) ≡ slice_get (get_or (inputs_of r k) t []) j
  there kind lt e =
      ap (λ x. Some (scalar_in x (get_or row j (pos 0)))) (sym e)
      ∙ sym (scalar_there kinds row j full lt)
      ∙ ap (λ xs. slice_get xs j) (sym scalars_are)

  truth_there : (b : Truth) → j < length kinds → get_or kinds j Int ≡ Bool →
      IsTrue b ↔ (cell_at r.traces k t j ≡ pos 1) →
      Some (Boolean b) ≡ slice_get (get_or (inputs_of r k) t []) j
  truth_there b lt e h =
      let follows : IsRow r.signature row = row_follows r k t lawful below inside in
      let cell : IsCell Bool (get_or row j (pos 0)) =
      lawful_cell r.signature row j follows (omega (arith, lt, full))
      (ap (λ ks. get_or ks j Int) (sym is) ∙ e) in
      ap (λ x. Some (Boolean x)) (truth_of b (get_or row j (pos 0)) cell h) ∙ there Bool lt e

  absent : length kinds ≤ j → None ≡ slice_get (get_or (inputs_of r k) t []) j
  absent le = no_scalar kinds row j full le ∙ ap (λ xs. slice_get xs j) (sym scalars_are)

pub returns-in-Int : goal.returns-in-Int
returns-in-Int c =
    let kinds = c.args.kinds.now in
    let j = c.args.input.0 in
    let fits : SFits w32 c.int_at.result = search rules in
    ap (λ z. Some (scalar_in Int z)) (to_z-of_z w32 c.int_at.result fits ∙ c.int_at.ensures)
    ∙ there c.args.set.now kinds c.args.k c.args.t j c.signature.ensures.lawful c.requires.kinds
    c.requires.trace c.requires.instant Int c.if-j-kinds.true
    (get_or_default kinds j Int _ c.if-j-kinds.true ∙ c.in-Int.is)

pub returns-in-Bool : goal.returns-in-Bool
returns-in-Bool c =
    let kinds = c.args.kinds.now in
    let j = c.args.input.0 in
    truth_there c.args.set.now kinds c.args.k c.args.t j c.signature.ensures.lawful
    c.requires.kinds c.requires.trace c.requires.instant c.bool_at.result c.if-j-kinds.true
    (get_or_default kinds j Int _ c.if-j-kinds.true ∙ c.in-Bool.is) c.bool_at.ensures

pub returns-else-j-kinds : goal.returns-else-j-kinds
returns-else-j-kinds c =
    absent c.args.set.now c.args.kinds.now c.args.k c.args.t c.args.input.0
    c.signature.ensures.lawful c.requires.kinds c.requires.trace c.requires.instant
    c.if-j-kinds.false
