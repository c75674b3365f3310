-- The flat program of an accepted program, in the layout by numbers, stands for it and is its
-- expansion.
use Rattle.lb_expand.proofs.Words
use Words.{Always, Declaration, Element, Every, Every-at, Every-from, FlatEquation, FlatProgram}
use Words.{HasReads, History, Holds, In, Inputs, Instance, Int, IsExpansionOf, IsFlatOf}
use Words.{IsFlatSolution, IsGiven, IsVariable, Leads, List, Name, Needs, NeedsAt, None, Observer}
use Words.{Path, Program, Root, Solves, Stream, [], at_path, before_instances, check_refusal}
use Words.{element_kinds, element_values, emit_instances, expanded, given_inputs, in_first}
use Words.{in_second, input_kinds, instance_at, instances, instants, kinds_from, layout, length}
use Words.{length_kinds, map, map_in, node_occurrences, observed, program_elements, refl}
use Words.{static_refusal, sym, variables, ℕ, ◌++◌, ◌<◌, ◌≡◌}
use Rattle.lb_check.proofs.programs.SolutionStreams.{presence_long}
use Rattle.lb_expand.proofs.clock_tables.{ClockTable.runs_at, SignStreams.runs_history}
use Rattle.lb_expand.proofs.clock_tables.SignStreams.{signs_flat, signs_history}
use Rattle.lb_expand.proofs.copies.{CallCopies.{HasCopies, all_copied}, GivenProgram.given_whole}
use Rattle.lb_expand.proofs.{fits.KindFacts.got_first, numbering.NumberedFits.AreScalars}
use Rattle.lb_expand.proofs.numbering.NumberedFits.{all_kinds_counted, further, program_fits}
use Rattle.lb_expand.proofs.numbering.{NumberedFits.program_sorts, NumberedPlaces.clock_on}
use Rattle.lb_expand.proofs.numbering.NumberedPlaces.{count_within, is_in_order, is_placing}
use Rattle.lb_expand.proofs.numbering.TableProgram.{accepted_scalars}
use Rattle.lb_expand.proofs.reads.NumberedReads.{given_once, needs_are, needs_reads}
use Rattle.lb_expand.proofs.solutions.FlatHistories.{all_gathered, filled_columns}
use Rattle.lb_expand.proofs.solutions.{FlatStanding.{StandsFor, stands_for}, Placing.columns}
use Rattle.lb_expand.proofs.{solutions.Solving.IsPlacing, widths.SoundInstances.RunsAt}
use Rattle.{lb_expand.proofs.widths.SoundPrograms.observer_wide_in, std.proofs.lemmas.List.take_at}

-- The flat program of an accepted program, in the layout by numbers, stands for it.

module _ (P : Program) (accepted : static_refusal P ≡ None)
    (checked : check_refusal P ≡ None) where
  abbrev count : ℕ
  count = length (program_elements P)

  abbrev size : ℕ
  size = (expanded (layout P) P (length (program_elements P))).size

  abbrev equations : List FlatEquation
  equations = (expanded (layout P) P (length (program_elements P))).equations

  -- each variable has its elements, on its clock and of its kind
  pub placing :
      IsPlacing (layout P) P (length (program_elements P)) (program_sorts P).clock_of
      (program_sorts P).kind_of size
  placing =
      is_placing P accepted (program_sorts P).clock_of (program_sorts P).kind_of size
      (count_within P accepted) (λ i k e. got_first Always k (element_values P (clock_on P))
      (map (λ q. q.clock) (further P)) i e) (λ i l e. got_first Int l
      (element_kinds P) (kinds_from (element_kinds P) (further P)) i e)

  -- what is called runs on the clock of the call
  pub runs :
      (H : History) →
      Every (λ here. Every (RunsAt (layout P) P H here) (node_occurrences P here.node))
      (instances P)
  runs H = Every-from _ (instances P) (λ here i. runs_at P accepted checked here i H)

  -- a variable that serves for another in a clock has the streams of the other
  pub signs :
      (X : Inputs) (F : List Stream) →
      IsFlatSolution (input_kinds P) (program_sorts P).kind_of
      (expanded (layout P) P (length (program_elements P))) X F →
      (p : Path) (x : Name) →
      columns X F ((layout P).places p x) ≡ columns X F ((layout P).signs p x)
  signs X F s p x =
      let final = emit_instances (layout P) P (before_instances count) (instances P) in
      let given = given_inputs (layout P) (instance_at P Root) in
      let seen = observed (layout P) (instance_at P Root) (instance_at P Observer) in
      let holds : (q : FlatEquation) → In q final.copies → Holds X F q =
      λ q i.
      Every-at (Holds X F) equations q s.equations.equations
      (in_second q given (seen ++ (final.copies ++ final.equations))
      (in_second q seen (final.copies ++ final.equations)
      (in_first q final.copies final.equations i))) in
      let there : Every (HasCopies (layout P) P final.copies) (instances P) =
      (all_copied (layout P) P final.copies (before_instances count) (instances P)
      (Every-from _ final.copies (λ q i. i))).1 in
      signs_flat P accepted checked X F final.copies holds there p x

  module _ (X : Inputs) (H : History) (h : Solves P X H) where
    -- the streams of all elements, from a history that solves the program
    abbrev pub filled : List Stream
    filled =
        all_gathered P (layout P) (length (program_elements P)) (program_sorts P).clock_of
        (program_sorts P).kind_of size placing (is_in_order P accepted).variables X H h

    abbrev HasColumns : Instance → Declaration → Type 0
    HasColumns here d =
        columns X filled ((layout P).places here.path d.name) ≡ H.columns here.path d.name

    -- a variable has the streams of its elements
    own : (here : Instance) → In here (instances P) → (x : Name) → IsVariable here.node x →
        columns X filled ((layout P).places here.path x) ≡ H.columns here.path x
    own here i x v =
        let d = map_in (λ (d : Declaration). d.name) (variables here.node) x v in
        let all = Every-at (λ here. Every (HasColumns here) (variables here.node)) (instances P)
        here
        (filled_columns P (layout P) (length (program_elements P)) (program_sorts P).clock_of
        (program_sorts P).kind_of size placing (is_in_order P accepted).variables X H h) i in
        rw (← d.2) (Every-at (HasColumns here) (variables here.node) d.0 all d.1)

    -- a variable that serves for another in a clock has the streams of the other here too
    served : (p : Path) (x : Name) →
        columns X filled ((layout P).places p x) ≡ columns X filled ((layout P).signs p x)
    served p x = signs_history P accepted checked X H h filled own p x

    -- each instance has the instants of its flat clock
    ticks : Every (λ here. instants X filled ((layout P).runs here.path) ≡ H.ticks here.path)
        (instances P)
    ticks =
        Every-from (λ here. instants X filled ((layout P).runs here.path) ≡ H.ticks here.path)
        (instances P)
        (λ here i.
        sym (runs_history P accepted checked X H h filled own here.path here (at_path P here i)))

  module _ (scalars : AreScalars P) where
    standing : StandsFor P (layout P) (program_sorts P).kind_of
        (expanded (layout P) P (length (program_elements P)))
    standing =
        stands_for P accepted checked (layout P) (length (program_elements P))
        (program_sorts P).clock_of (program_sorts P).kind_of
        (given_whole P accepted checked (observer_wide_in P accepted [] [])).each
        (program_fits P accepted checked scalars) placing (is_in_order P accepted) runs signs
        (presence_long P accepted checked) ticks served

    -- the flat program of an accepted program stands for it
    pub numbered_flat : IsFlatOf P (expanded (layout P) P (length (program_elements P)))
    numbered_flat = record {
      accepted = accepted;
      checked = checked;
      signature = refl;
      variables = refl;
      as_many = all_kinds_counted P accepted;
      variable_kinds = take_at (element_kinds P) (kinds_from (element_kinds P) (further P))
          (length (program_elements P)) (length_kinds P);
      fitting = ((program_sorts P).clock_of, program_fits P accepted checked scalars);
      solves = standing.solves;
      solved = standing.solved;
      watched = standing.watched;
      memories = standing.memories;
    }

-- The flat program of an accepted program, in the layout by numbers, is its expansion.

-- the flat program is an expansion, where each element is given once and its reads are its needs
pub numbered_expansion :
    (P : Program) → static_refusal P ≡ None → check_refusal P ≡ None → AreScalars P →
    IsGiven (expanded (layout P) P (length (program_elements P))) →
    ((i j : ℕ) → i < length (program_elements P) → j < length (program_elements P) →
    Leads (expanded (layout P) P (length (program_elements P))) j i → NeedsAt P i j) →
    ((x y : Element) → Needs P x y →
    HasReads P (expanded (layout P) P (length (program_elements P))) x y) →
    IsExpansionOf P (expanded (layout P) P (length (program_elements P)))
numbered_expansion P accepted checked scalars given needs reads = record {
  flat = numbered_flat P accepted checked scalars;
  given = given;
  needs = needs;
  reads = reads;
}

-- The flat program of an accepted program, in the layout by numbers, is its expansion.

-- the flat program, expanded in the layout by numbers, is an expansion of its accepted program
pub program_expansion :
    (P : Program) → static_refusal P ≡ None → check_refusal P ≡ None → AreScalars P →
    IsExpansionOf P (expanded (layout P) P (length (program_elements P)))
program_expansion P accepted checked scalars =
    numbered_expansion P accepted checked scalars (given_once P accepted checked)
    (needs_are P accepted checked scalars) (needs_reads P accepted checked scalars)

-- The flat program that is emitted for an accepted program, in the layout by numbers, is its
-- expansion.

-- the flat program that is emitted is the expansion of `P`
pub expansion_of :
    (P : Program) → static_refusal P ≡ None → check_refusal P ≡ None → (f : FlatProgram) →
    f ≡ expanded (layout P) P (length (program_elements P)) → IsExpansionOf P f
expansion_of P accepted checked f is =
    rw is (program_expansion P accepted checked (accepted_scalars P accepted checked))
