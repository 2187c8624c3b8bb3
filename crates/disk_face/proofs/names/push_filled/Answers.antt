use Rattle.std.proofs.Common.{◌≡◌, ℕ, ◌-◌, List, ◌++◌, length, replicate, arith, ap, ◌∙◌, append_assoc}
use Rattle.std.specs.Fmt.{decimal}
use Rattle.std.proofs.lemmas.Fmt.{length-decimal-le}
use Rattle.disk_face.proofs.names.push_filled.Goals as goal

pub push_all-requires : goal.push_all-requires
push_all-requires c =
    let size = ap length (c.as_bytes-digits.ensures.value ∙ c.format.ensures.text) in
    omega (
      arith,
      size,
      length-decimal-le 20 c.args.number (omega arith) (omega (arith, c.ranges.number.fits))
          (omega (arith, c.ranges.number.fits)),
      c.loop-zero.invariant.len,
      c.saturating_sub-zero-end.ensures,
    )

pub returns-clause-items : goal.returns-clause-items
returns-clause-items c =
    let digits : c.as_bytes-digits.result.now ≡ decimal c.args.number = c.as_bytes-digits.ensures.value ∙ c.format.ensures.text in
    let zeros : c.loop-zero._zero ≡ c.args.width - length (decimal c.args.number) = omega (arith, ap length digits, c.saturating_sub-zero-end.ensures) in
    c.push_all.ensures.items
    ∙ ap (λ (l : List ℕ). l ++ c.as_bytes-digits.result.now) c.loop-zero.invariant.items
    ∙ append_assoc c.args.text.now.items (replicate c.loop-zero._zero 48) c.as_bytes-digits.result.now
    ∙ ap (λ (l : List ℕ). c.args.text.now.items ++ (replicate c.loop-zero._zero 48 ++ l)) digits
    ∙ ap (λ (n : ℕ). c.args.text.now.items ++ (replicate n 48 ++ decimal c.args.number)) zeros

pub returns-clause-len : goal.returns-clause-len
returns-clause-len c =
    let size = ap length (c.as_bytes-digits.ensures.value ∙ c.format.ensures.text) in
    omega (
      arith,
      size,
      length-decimal-le 20 c.args.number (omega arith) (omega (arith, c.ranges.number.fits))
          (omega (arith, c.ranges.number.fits)),
      c.loop-zero.invariant.len,
      c.saturating_sub-zero-end.ensures,
    )
