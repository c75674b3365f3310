use Rattle.std.proofs.Common.{◌≡◌, ◌∙◌, ◌+◌, ℕ, Option, arith, length, refl, sym, subst, true}
use Rattle.std.proofs.Common.{false}
use Rattle.lb_part.specs.Windows.{AllGoOn, BeginsIn, IsLastIn}
use Rattle.lb_part.proofs.FoundCuts.{cut-found, cut-last, gone-here, gone-kept, last-here}
use Rattle.lb_part.proofs.FoundCuts.{last-kept, line-next, no-line, no-record}
use Rattle.lb_part.proofs.FoundCuts.{record-begins}
use Rattle.lb_part.proofs.window.Window.cut.Goals as goal
use Rattle.lb_part.proofs.window.Window.cut.Goals.{else-begins, else-has_record, then-begins}
use Rattle.lb_part.proofs.window.Window.cut.Goals.{then-has_record+in_ok-is_cut+else-branch}

pub returns-then-branch : goal.returns-then-branch
returns-then-branch c =
    let over = c.in_ok-is_cut.ensures.over c.if-branch.true in
    let begins : BeginsIn c.args.self.is_first c.args.self.bytes.now c.loop-i.i =
    elim c.if-begins.branch [
      | then-begins w ↦
          record-begins c.args.self.is_first c.args.self.bytes.now c.loop-i.i c.loop-i.begins
          c.if-begins.has_record w.ends_line.result c.loop-i.invariant.line c.loop-i-test.true
          w.ends_line.ensures w.if-begins.true w.has_record-is c.if-has_record.true
      | else-begins w ↦
          let e : false ≡ true =
          sym w.if-begins.false ∙ sym w.has_record-is ∙ c.if-has_record.true in
          cc e
    ] in
    cut-found c.args.self.is_first c.args.self.is_last c.args.self.bytes.now c.loop-i.last
    c.args.from c.loop-i.i (omega arith) over.0 begins c.loop-i.invariant.last over.1
    c.loop-i.invariant.others

pub loop-i-preserved : goal.loop-i-preserved
loop-i-preserved c = record {
  line = line-next c.args.self.is_first c.args.self.bytes.now c.loop-i.i _ refl
      c.ends_line-begins.result c.ends_line-begins.ensures;
  last = elim c.if-has_record.branch [
    | then-has_record+in_ok-is_cut+else-branch w ↦
        subst (λ (o : Option ℕ). IsLastIn c.args.self.is_first c.args.self.bytes.now o
        (c.loop-i.i + 1)) (sym w.last-is)
        (last-here c.args.self.is_first c.args.self.bytes.now c.loop-i.i
        (begins w.if-has_record.true))
    | else-has_record w ↦
        subst (λ (o : Option ℕ). IsLastIn c.args.self.is_first c.args.self.bytes.now o
        (c.loop-i.i + 1)) (sym w.last-is)
        (last-kept c.args.self.is_first c.args.self.bytes.now c.loop-i.last c.loop-i.i
        (none w.if-has_record.false) c.loop-i.invariant.last)
  ];
  others = elim c.if-has_record.branch [
    | then-has_record+in_ok-is_cut+else-branch w ↦
        gone-here c.args.self.is_first c.args.self.is_last c.args.self.bytes.now c.loop-i.last
        c.args.from c.loop-i.i c.loop-i.invariant.last
        (w.in_ok-is_cut.ensures.goes_on w.if-branch.false) c.loop-i.invariant.others
    | else-has_record w ↦
        gone-kept c.args.self.is_first c.args.self.is_last c.args.self.bytes.now c.args.from
        c.loop-i.i (none w.if-has_record.false) c.loop-i.invariant.others
  ];
}
  where
    begins : c.if-begins.has_record ≡ true
        → BeginsIn c.args.self.is_first c.args.self.bytes.now c.loop-i.i
    begins found =
        elim c.if-begins.branch [
          | then-begins w ↦
              record-begins c.args.self.is_first c.args.self.bytes.now c.loop-i.i c.loop-i.begins
              c.if-begins.has_record w.ends_line.result c.loop-i.invariant.line
              c.loop-i-test.true w.ends_line.ensures w.if-begins.true w.has_record-is found
          | else-begins w ↦
              let e : false ≡ true = sym w.if-begins.false ∙ sym w.has_record-is ∙ found in cc e
        ]

    none : c.if-begins.has_record ≡ false
        → BeginsIn c.args.self.is_first c.args.self.bytes.now c.loop-i.i → ⊥
    none lacks =
        elim c.if-begins.branch [
          | then-begins w ↦
              no-record c.args.self.is_first c.args.self.bytes.now c.loop-i.i
              c.if-begins.has_record w.ends_line.result w.ends_line.ensures w.has_record-is lacks
          | else-begins w ↦
              no-line c.args.self.is_first c.args.self.bytes.now c.loop-i.i c.loop-i.begins
              c.loop-i.invariant.line w.if-begins.false
        ]

pub returns-then-self : goal.returns-then-self
returns-then-self c =
    let all : AllGoOn c.args.self.is_first c.args.self.is_last c.args.self.bytes.now c.args.from
    (length c.args.self.bytes.now) =
    λ place low high b.
    c.loop-i.invariant.others place low (omega (arith, high, c.loop-i-test.false)) b in
    cut-last c.args.self.is_first c.args.self.is_last c.args.self.bytes.now c.args.from
    c.if-self.true (omega arith) c.requires.from all
