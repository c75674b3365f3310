use Rattle.std.proofs.Common.{◌≡◌, ◌≢◌, List, ℤ, [], get_or, set, sym, ◌∙◌, subst, arith}
use Rattle.std.proofs.Common.{below_more, not-suc-le-zero, refl}
use Rattle.std.proofs.lemmas.List.{get_or-set_same, get_or-set_other, get_or_default}
use Rattle.lb_lanes.specs.Correct.{IsBlend}
use Rattle.lb_lanes.proofs.slices.commit_ints.Goals as goal

pub loop-k-preserved : goal.loop-k-preserved
loop-k-preserved c =
    let k = c.loop-k.k in
    let old = c.args.old.now in
    let new = c.args.new.now in
    let v : List ℤ = c.commit.new.self in
    let Blended : List ℤ → List ℤ → List ℤ → Type 0 = λ a b o. IsBlend c.args.mask.0 a b o in
    let x : c.index-new-k.result ≡ get_or new k [] = c.index-new-k.is
    ∙ get_or_default new k c.index-new-k.result [] (omega arith) in
    let y : get_or c.loop-k.old k c.index-old-k.result ≡ get_or old k []
    = get_or_default c.loop-k.old k c.index-old-k.result [] (omega arith)
    ∙ c.loop-k.invariant.rest k (omega arith) in
    record {
      done =
          below_more (λ j. Blended (get_or new j []) (get_or old j [])
          (get_or (set c.loop-k.old k v) j [])) k
          (λ j l. let ne : j ≢ k = omega arith in
          subst (Blended (get_or new j []) (get_or old j []))
          (sym (get_or-set_other c.loop-k.old k j v [] ne)) (c.loop-k.invariant.done j l))
          (subst (Blended (get_or new k []) (get_or old k []))
          (sym (get_or-set_same c.loop-k.old k v [] (omega arith)))
          (subst (λ a. Blended a (get_or old k []) v) x
          (subst (λ b. Blended c.index-new-k.result b v) y c.commit.ensures)));
      rest = λ j le. let ne : j ≢ k = omega arith in get_or-set_other c.loop-k.old k j v [] ne
          ∙ c.loop-k.invariant.rest j (omega arith);
    }

pub loop-k-init : goal.loop-k-init
loop-k-init c = record { done = λ j h. absurd (not-suc-le-zero h); rest = λ j le. refl }
