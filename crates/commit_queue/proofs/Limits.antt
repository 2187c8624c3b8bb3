-- The words of a table, as the checker computes them.
use Rattle.std.proofs.Common.{◌≡◌, refl}
use Rattle.commit_queue.specs.declared.layout.TheConstants.{ENDS, VISIBLE, ACKED, RING_FROM, TURNS_FROM, WORDS, HALF}

ends_word : ENDS ≡ 0
ends_word = refl

visible_word : VISIBLE ≡ 1
visible_word = refl

acked_word : ACKED ≡ 2
acked_word = refl

ring_from : RING_FROM ≡ 3
ring_from = refl

turns_from : TURNS_FROM ≡ 67
turns_from = refl

words : WORDS ≡ 75
words = refl

half : HALF ≡ 4294967296
half = refl
