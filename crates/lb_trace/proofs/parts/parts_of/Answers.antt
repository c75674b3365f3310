-- Each cut leaves the records and the quotes as they are.
use Rattle.std.proofs.Common.{List, ℕ, ◌||◌, ◌++◌, sym, ap, ◌∙◌}
use Rattle.std.specs.Prelude.{flat_map}
use Rattle.std.specs.Borrow.{Bor}
use Rattle.std.specs.List.{list_any}
use Rattle.lb_trace.specs.Plain.{has_quote, plain_records}
use Rattle.lb_trace.proofs.CutTexts.{parts-all, parts-more, quotes-all, quotes-more}
use Rattle.lb_trace.proofs.parts.parts_of.Goals as goal

pub cuts-preserved : goal.cuts-preserved
cuts-preserved c =
    let cut = c.cut_at-cut.result in
    record {
      records =
          parts-more c.cuts.parts.items c.args.text.now c.cuts.rest.now cut.part cut.rest.now
          c.cuts.invariant.records c.cut_at-cut.ensures.records
          ∙ ap (λ (parts : List (Bor (List ℕ))).
          flat_map (λ (part : Bor (List ℕ)). plain_records part.now) parts
          ++ plain_records cut.rest.now)
          (sym c.in_ok-push.ensures.items);
      quotes =
          quotes-more c.cuts.parts.items c.args.text.now c.cuts.rest.now cut.part cut.rest.now
          c.cuts.invariant.quotes c.cut_at-cut.ensures.quotes
          ∙ ap (λ (parts : List (Bor (List ℕ))).
          list_any (λ (part : Bor (List ℕ)). has_quote part.now) parts
          || has_quote cut.rest.now)
          (sym c.in_ok-push.ensures.items);
    }

pub returns : goal.returns
returns c = record {
  records =
      parts-all c.cuts.parts.items c.args.text.now c.cuts.rest c.cuts.invariant.records
      ∙ ap (λ (parts : List (Bor (List ℕ))).
      flat_map (λ (part : Bor (List ℕ)). plain_records part.now) parts)
      (sym c.in_ok-push-2.ensures.items);
  quotes =
      quotes-all c.cuts.parts.items c.args.text.now c.cuts.rest c.cuts.invariant.quotes
      ∙ ap (λ (parts : List (Bor (List ℕ))).
      list_any (λ (part : Bor (List ℕ)). has_quote part.now) parts)
      (sym c.in_ok-push-2.ensures.items);
}
