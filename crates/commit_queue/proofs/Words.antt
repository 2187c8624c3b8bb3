-- What the words show after a step of the machine: of each word, whether it was written or is as it was.
use Rattle.std.proofs.Common.{◌≡◌, ◌≢◌, ℕ, ◌+◌, ◌*◌, ◌<◌, List, length, get_or, set, sym, refl, ap, ◌∙◌, arith, length-set, get_or-set_other, get_or-set_same}
use mathlib.Core.Logic.{dite}
use native.Mathlib.Decide.{ℕ_discrete}
use Rattle.memtable_shards.specs.declared.sharding.TheConstants.{SHARDS}
use Rattle.publish_core.specs.declared.seat.SeatState.{SeatState}
use Rattle.publish_core.specs.declared.state.TheConstants.{SLOTS}
use Rattle.publish_core.specs.Machine.{updated, visible}
use Rattle.publish_core.proofs.Laws.{put_here, put_else}
use Rattle.commit_queue.specs.declared.layout.TheConstants.{ENDS, VISIBLE, ACKED, RING_FROM, TURNS_FROM, WORDS, HALF}
use Rattle.commit_queue.specs.Rule.{RingState, numbers, turn_word, Shows}

-- a step that changes none of what the words show
pub shows_same : (c c' : RingState) (words : List ℕ) → Shows c words → c'.head ≡ c.head → c'.tail ≡ c.tail → visible numbers c' ≡ visible numbers c
    → c'.acked ≡ c.acked → c'.ring ≡ c.ring → c'.turn ≡ c.turn → Shows c' words
shows_same c c' words h hd tl vis ack ring trn = record {
  wide = h.wide;
  ends_word = h.ends_word ∙ (λ i. sym hd i * HALF + sym tl i);
  visible_word = h.visible_word ∙ sym vis;
  acked_word = h.acked_word ∙ sym ack;
  ring_word = λ j l. h.ring_word j l ∙ ap (λ (f : ℕ → ℕ). f j) (sym ring);
  shard_word = λ j l. h.shard_word j l ∙ ap (λ (f : ℕ → ℕ). turn_word (f j)) (sym trn);
}

-- other seats change no word
pub shows_seats : (c : RingState) (seats : ℕ → SeatState) (words : List ℕ) → Shows c words → Shows (record c { seats = seats }) words
shows_seats c seats words h = shows_same c (record c { seats = seats }) words h refl refl refl refl refl refl

-- the word i, which was a, is b once x is written into the word k
abbrev Put : ℕ → ℕ → ℕ → ℕ → ℕ → Type 0
Put k x i a b = (i ≡ k → b ≡ x) × (i ≢ k → b ≡ a)

here : {k x a b : ℕ} → b ≡ x → Put k x k a b
here is = ((λ _. is), λ other. absurd (other refl))

kept : {k x i a b : ℕ} → i ≢ k → b ≡ a → Put k x i a b
kept other is = ((λ e. absurd (other e)), λ _. is)

-- among words that show f from one place on, the one of k is written, and shows t
among_row : (f f' : ℕ → ℕ) (k t from j : ℕ) → f' ≡ updated f k t → Put (k + from) t (j + from) (f j) (f' j)
among_row f f' k t from j is = (
  (λ e. let same : j ≡ k = omega arith in ap (λ (g : ℕ → ℕ). g j) is ∙ ap (updated f k t) same ∙ put_here f k t),
  λ other. ap (λ (g : ℕ → ℕ). g j) is ∙ put_else f k t j (λ e. other (ap (λ (n : ℕ). n + from) e)),
)

at_word : (words : List ℕ) (k x i a b : ℕ) → k < length words → get_or words i 0 ≡ a → Put k x i a b → get_or (set words k x) i 0 ≡ b
at_word words k x i a b l is p = dite (ℕ_discrete i k)
    (λ e. ap (λ (j : ℕ). get_or (set words k x) j 0) e ∙ get_or-set_same words k x 0 l ∙ sym (p.0 e))
    (λ other. get_or-set_other words k i x 0 other ∙ is ∙ sym (p.1 other))

-- a step that writes x into the word k
written : (c c' : RingState) (words : List ℕ) (k x : ℕ) → Shows c words → k < WORDS
    → Put k x ENDS (c.head * HALF + c.tail) (c'.head * HALF + c'.tail) → Put k x VISIBLE (visible numbers c) (visible numbers c')
    → Put k x ACKED c.acked c'.acked → ((j : ℕ) → j < SLOTS → Put k x (j + RING_FROM) (c.ring j) (c'.ring j))
    → ((j : ℕ) → j < SHARDS → Put k x (j + TURNS_FROM) (turn_word (c.turn j)) (turn_word (c'.turn j))) → Shows c' (set words k x)
written c c' words k x h small ends vis ack ring turn = let wide : length words ≡ WORDS = h.wide in let l : k < length words = omega arith in record {
  wide = length-set words k x ∙ h.wide;
  ends_word = at_word words k x ENDS _ _ l h.ends_word ends;
  visible_word = at_word words k x VISIBLE _ _ l h.visible_word vis;
  acked_word = at_word words k x ACKED _ _ l h.acked_word ack;
  ring_word = λ j s. at_word words k x (j + RING_FROM) _ _ l (h.ring_word j s) (ring j s);
  shard_word = λ j s. at_word words k x (j + TURNS_FROM) _ _ l (h.shard_word j s) (turn j s);
}

-- into the word of head and tail
pub shows_ends : (c c' : RingState) (words : List ℕ) (x : ℕ) → Shows c words → x ≡ c'.head * HALF + c'.tail
    → visible numbers c' ≡ visible numbers c → c'.acked ≡ c.acked → c'.turn ≡ c.turn → c'.ring ≡ c.ring → Shows c' (set words ENDS x)
shows_ends c c' words x h is vis ack trn ring = written c c' words ENDS x h (omega arith) (here (sym is))
    (kept (λ e. omega arith) vis) (kept (λ e. omega arith) ack) (λ j s. kept (λ e. omega arith) (ap (λ (f : ℕ → ℕ). f j) ring))
    (λ j s. kept (λ e. omega arith) (ap (λ (f : ℕ → ℕ). turn_word (f j)) trn))

-- into the visible word
pub shows_visible : (c c' : RingState) (words : List ℕ) (x : ℕ) → Shows c words → x ≡ visible numbers c' → c'.head ≡ c.head → c'.tail ≡ c.tail
    → c'.acked ≡ c.acked → c'.turn ≡ c.turn → c'.ring ≡ c.ring → Shows c' (set words VISIBLE x)
shows_visible c c' words x h is hd tl ack trn ring = written c c' words VISIBLE x h (omega arith)
    (kept (λ e. omega arith) (λ i. hd i * HALF + tl i)) (here (sym is)) (kept (λ e. omega arith) ack)
    (λ j s. kept (λ e. omega arith) (ap (λ (f : ℕ → ℕ). f j) ring)) (λ j s. kept (λ e. omega arith) (ap (λ (f : ℕ → ℕ). turn_word (f j)) trn))

-- into the acked word
pub shows_acked : (c c' : RingState) (words : List ℕ) (x : ℕ) → Shows c words → x ≡ c'.acked → c'.head ≡ c.head → c'.tail ≡ c.tail
    → visible numbers c' ≡ visible numbers c → c'.turn ≡ c.turn → c'.ring ≡ c.ring → Shows c' (set words ACKED x)
shows_acked c c' words x h is hd tl vis trn ring = written c c' words ACKED x h (omega arith)
    (kept (λ e. omega arith) (λ i. hd i * HALF + tl i)) (kept (λ e. omega arith) vis) (here (sym is))
    (λ j s. kept (λ e. omega arith) (ap (λ (f : ℕ → ℕ). f j) ring)) (λ j s. kept (λ e. omega arith) (ap (λ (f : ℕ → ℕ). turn_word (f j)) trn))

-- into the slot k of the ring
pub shows_ring : (c c' : RingState) (words : List ℕ) (k x : ℕ) → k < SLOTS → Shows c words → c'.head ≡ c.head → c'.tail ≡ c.tail
    → visible numbers c' ≡ visible numbers c → c'.acked ≡ c.acked → c'.turn ≡ c.turn → c'.ring ≡ updated c.ring k x
    → Shows c' (set words (k + RING_FROM) x)
shows_ring c c' words k x small h hd tl vis ack trn ring = written c c' words (k + RING_FROM) x h (omega arith)
    (kept (λ e. omega arith) (λ i. hd i * HALF + tl i)) (kept (λ e. omega arith) vis) (kept (λ e. omega arith) ack)
    (λ j s. among_row c.ring c'.ring k x RING_FROM j ring) (λ j s. kept (λ e. omega arith) (ap (λ (f : ℕ → ℕ). turn_word (f j)) trn))

-- into the word of the shard k
pub shows_turn : (c c' : RingState) (words : List ℕ) (k x t : ℕ) → k < SHARDS → Shows c words → c'.head ≡ c.head → c'.tail ≡ c.tail
    → visible numbers c' ≡ visible numbers c → c'.acked ≡ c.acked → c'.ring ≡ c.ring → c'.turn ≡ updated c.turn k t → x ≡ turn_word t
    → Shows c' (set words (k + TURNS_FROM) x)
shows_turn c c' words k x t small h hd tl vis ack ring trn is = written c c' words (k + TURNS_FROM) x h (omega arith)
    (kept (λ e. omega arith) (λ i. hd i * HALF + tl i)) (kept (λ e. omega arith) vis) (kept (λ e. omega arith) ack)
    (λ j s. kept (λ e. omega arith) (ap (λ (f : ℕ → ℕ). f j) ring)) (λ j s. let p = among_row c.turn c'.turn k t TURNS_FROM j trn in
    ((λ e. ap turn_word (p.0 e) ∙ sym is), λ other. ap turn_word (p.1 other)))
