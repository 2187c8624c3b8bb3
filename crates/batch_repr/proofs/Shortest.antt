-- No spelling of a number is shorter than the one that is written.
use Rattle.std.proofs.Common.{ℕ, zero, suc, ◌/◌, ◌^◌, ◌<◌, ◌≤◌, List, [], ◌∷◌, length, arith, inl, inr}
use Rattle.std.proofs.Math.Nat.{pow-suc}
use Rattle.std.proofs.lemmas.Bool.{lt-ltb, le-ltb, cases_lt}
use Rattle.std.proofs.lemmas.Nat.{mod_below}
use Rattle.batch_repr.specs.Spelling.{IsVarint, varint_value, SpellsNumber}
use Rattle.batch_repr.specs.Written.{varint_within, varint}

value_below : (bytes : List ℕ) → varint_value bytes < 128 ^ length bytes
value_below [] = omega arith
value_below (b ∷ bytes) = rw pow-suc (omega (arith, value_below bytes, mod_below b 128 (omega arith)))

within : (k len n : ℕ) → 1 ≤ len → n < 128 ^ len → length (varint_within k n) ≤ len
within zero len n some h = some
within (suc k) zero n some h = absurd (omega arith)
within (suc k) (suc zero) n some h = rw (lt-ltb n 128 (omega arith)) some
within (suc k) (suc (suc len)) n some h =
    elim (cases_lt n 128) [
      | inl low ↦ rw (lt-ltb n 128 low) (omega arith)
      | inr high ↦
          let rest : length (varint_within k (n / 128)) ≤ suc len = within k (suc len) (n / 128) (omega arith) (omega (arith, rw pow-suc at h)) in
          rw (le-ltb n 128 high) (omega (arith, rest))
    ]

some_byte : (bytes : List ℕ) → IsVarint bytes → 1 ≤ length bytes
some_byte [] h = absurd h
some_byte (b ∷ bytes) h = omega arith

pub varint_shortest : (bytes : List ℕ) (n : ℕ) → SpellsNumber bytes n → length (varint n) ≤ length bytes
unfolding varint
varint_shortest bytes n s = within 4 (length bytes) n (some_byte bytes s.varint) (omega (arith, value_below bytes, s.value))
