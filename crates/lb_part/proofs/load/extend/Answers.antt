use Rattle.std.proofs.Common.{◌≡◌, ◌∙◌, ◌+◌, ◌-◌, ◌++◌, length, arith, sym, ap, take}
use Rattle.std.specs.Prelude.{replicate, vec_len}
use Rattle.std.proofs.lemmas.List.{length-drop, take_rest}
use Rattle.lb_part.proofs.ReadRanges.{before-room, room-filled}
use Rattle.lb_part.proofs.load.extend.Goals as goal

pub returns-clause-range : goal.returns-clause-range
returns-clause-range g c =
    λ all known.
    let long : length c.args.bytes.now.items ≡ vec_len c.args.bytes.now =
    omega (arith, c.args.bytes.now.ok.0) in
    let filled : c.len-filled.result ≡ vec_len c.args.bytes.now =
    omega (arith, c.len-filled.ensures) in
    let many : c.saturating_sub.result ≡ c.args.to - c.args.from =
    omega (arith, c.saturating_sub.ensures) in
    let whole : length c.deref_mut.result.now ≡ c.len-filled.result + c.saturating_sub.result =
    c.deref_mut.ensures.len ∙ c.in_ok-resize.ensures.len in
    let kept : length c.read.new.buffer ≡ length c.deref_mut.result.now - c.len-filled.result =
    c.read.auto.buffer
    ∙ ap length (take_rest c.deref_mut.result.now c.len-filled.result)
    ∙ length-drop c.len-filled.result c.deref_mut.result.now in
    let front : take c.len-filled.result c.deref_mut.result.now ≡ c.args.bytes.now.items =
    ap (take c.len-filled.result) c.deref_mut.ensures.value
    ∙ before-room c.resize.new.self.items c.args.bytes.now.items
    (c.len-filled.result + c.saturating_sub.result) c.len-filled.result
    (c.in_ok-resize.ensures.items
    ∙ ap (λ m. take (c.len-filled.result + c.saturating_sub.result) c.args.bytes.now.items
    ++ replicate (c.len-filled.result + c.saturating_sub.result - m) 0) (sym filled))
    (long ∙ sym filled) (omega arith) in
    record {
      range = c.read.new.buffer;
      has = c.in_ok-read.ensures all known;
      many = omega (arith, kept, whole, many);
      whole = room-filled c.deref_mut.result.now c.resize.new.self.items c.args.bytes.now.items
          c.read.new.buffer c.len-filled.result c.resize.new.self.len c.deref_mut.ensures.value
          front (omega (arith, whole)) kept (sym c.deref_mut.ensures.len);
    }
