-- What the lines of a round count together, the replies to them count together.
use Rattle.std.proofs.Common.{◌≡◌, inl, inr, ℕ, zero, suc, ◌+◌, ◌≤◌, ◌<◌, Bool, true, false, cond, List, [], ◌∷◌, map, refl, sym, ap, ◌∙◌, subst, arith, ne_eqb}
use Rattle.std.specs.Prelude.{sum_by}
use Rattle.std.specs.List.{AllByRecursion}
use Rattle.std.proofs.lemmas.Bool.{eq-eqb}
use Rattle.std.proofs.lemmas.Bool.Decides.{eqb_tells}
use Rattle.std.proofs.lemmas.List.Sums.{sum_by-cons}
use Rattle.session_replies.specs.declared.script.Line.{Line}
use Rattle.session_replies.specs.Legal.{Replied, is_of, lines_of_session, replies_of_session, RepliesTo}

-- ---- the lines of one session more

taken_in : (session : ℕ) (line : Line) (lines : List Line) → is_of session line ≡ true
    → lines_of_session session (line ∷ lines) ≡ line ∷ lines_of_session session lines
taken_in session line lines e = ap (λ (c : Bool). cond c (line ∷ lines_of_session session lines) (lines_of_session session lines)) e

left_out : (session : ℕ) (line : Line) (lines : List Line) → is_of session line ≡ false
    → lines_of_session session (line ∷ lines) ≡ lines_of_session session lines
left_out session line lines e = ap (λ (c : Bool). cond c (line ∷ lines_of_session session lines) (lines_of_session session lines)) e

abbrev session_room : Line → ℕ
session_room line = line.session + 1

-- ---- a sum, session by session

module _ (f : Line → ℕ) where
  -- the sums of the sessions below this number, together
  abbrev sum_below : ℕ → List Line → ℕ
  sum_below zero lines = 0
  sum_below (suc k) lines = sum_by f (lines_of_session k lines) + sum_below k lines

  none_below : (k : ℕ) → sum_below k [] ≡ 0
  none_below zero = refl
  none_below (suc k) = omega (arith, none_below k)

  one_above : (k : ℕ) (line : Line) (lines : List Line) → k ≤ line.session → sum_below k (line ∷ lines) ≡ sum_below k lines
  one_above zero line lines le = refl
  one_above (suc k) line lines le =
      let other : is_of k line ≡ false = ne_eqb line.session k (λ e. omega (arith, e, le)) in
      omega (arith, ap (sum_by f) (left_out k line lines other), one_above k line lines (omega (arith, le)))

  one_below : (k : ℕ) (line : Line) (lines : List Line) → line.session < k → sum_below k (line ∷ lines) ≡ f line + sum_below k lines
  one_below zero line lines lt = absurd (omega (arith, lt))
  one_below (suc k) line lines lt = elim (eqb_tells line.session k) [
    | inl (test, is) ↦
        omega (
          arith,
          ap (sum_by f) (taken_in k line lines test),
          sum_by-cons f line (lines_of_session k lines),
          one_above k line lines (omega (arith, is)),
        )
    | inr (test, isnt) ↦
        let less : line.session < k = omega (arith, lt, isnt) in
        omega (arith, ap (sum_by f) (left_out k line lines test), one_below k line lines less)
  ]

  all_below : (k : ℕ) (lines : List Line) → sum_by session_room lines ≤ k → sum_below k lines ≡ sum_by f lines
  all_below k [] le = none_below k
  all_below k (line ∷ lines) le =
      let room = sum_by-cons session_room line lines in
      omega (
        arith,
        one_below k line lines (omega (arith, room, le)),
        all_below k lines (omega (arith, room, le)),
        sum_by-cons f line lines,
      )

  same_below : (k : ℕ) (lines others : List Line) → ((session : ℕ) → lines_of_session session lines ≡ lines_of_session session others)
      → sum_below k lines ≡ sum_below k others
  same_below zero lines others same = refl
  same_below (suc k) lines others same = omega (arith, ap (sum_by f) (same k), same_below k lines others same)

  same_sum : (lines others : List Line) → ((session : ℕ) → lines_of_session session lines ≡ lines_of_session session others)
      → sum_by f lines ≡ sum_by f others
  same_sum lines others same =
      let k = sum_by session_room lines + sum_by session_room others in
      sym (all_below k lines (omega arith)) ∙ same_below k lines others same ∙ all_below k others (omega arith)

  -- ---- of replies

  sum_of_lines : (replies : List Replied) → sum_by f (map (λ (r : Replied). r.line) replies) ≡ sum_by (λ (r : Replied). f r.line) replies
  sum_of_lines [] = refl
  sum_of_lines (r ∷ replies) =
      omega (
        arith,
        sum_by-cons f r.line (map (λ (s : Replied). s.line) replies),
        sum_by-cons (λ (s : Replied). f s.line) r replies,
        sum_of_lines replies,
      )

-- the lines of the replies of a session
of_replies : (session : ℕ) (replies : List Replied)
    → lines_of_session session (map (λ (r : Replied). r.line) replies) ≡ map (λ (r : Replied). r.line) (replies_of_session session replies)
of_replies session [] = refl
of_replies session (r ∷ replies) = go (is_of session r.line) refl (of_replies session replies)
  where
    go : (b : Bool) → is_of session r.line ≡ b
        → lines_of_session session (map (λ (s : Replied). s.line) replies) ≡ map (λ (s : Replied). s.line) (replies_of_session session replies)
        → lines_of_session session (map (λ (s : Replied). s.line) (r ∷ replies)) ≡ map (λ (s : Replied). s.line) (replies_of_session session (r ∷ replies))
    go true e rest =
        taken_in session r.line (map (λ (s : Replied). s.line) replies) e ∙ ap (λ (t : List Line). r.line ∷ t) rest
        ∙ sym (ap (λ (c : Bool). map (λ (s : Replied). s.line)
        (cond c (r ∷ replies_of_session session replies) (replies_of_session session replies))) e)
    go false e rest =
        left_out session r.line (map (λ (s : Replied). s.line) replies) e ∙ rest
        ∙ sym (ap (λ (c : Bool). map (λ (s : Replied). s.line)
        (cond c (r ∷ replies_of_session session replies) (replies_of_session session replies))) e)

pub sum_of_replies : (f : Line → ℕ) (lines : List Line) (replies : List Replied) → RepliesTo lines replies
    → sum_by f lines ≡ sum_by (λ (r : Replied). f r.line) replies
sum_of_replies f lines replies to =
    same_sum f lines (map (λ (r : Replied). r.line) replies) (λ session. sym (of_replies session replies ∙ to.same session)) ∙ sum_of_lines f replies

-- What holds of the replies of each session holds of all.
pub all_of_sessions : (P : Replied → Type 0) (replies : List Replied) → ((session : ℕ) → AllByRecursion P (replies_of_session session replies))
    → AllByRecursion P replies
all_of_sessions P [] each = tt
all_of_sessions P (r ∷ replies) each = (here (eq-eqb r.line.session r.line.session refl), all_of_sessions P replies later)
  where
    here : is_of r.line.session r.line ≡ true → P r
    here e =
        let own : AllByRecursion P (r ∷ replies_of_session r.line.session replies) =
        subst (λ (c : Bool). AllByRecursion P (cond c (r ∷ replies_of_session r.line.session replies) (replies_of_session r.line.session replies))) e
        (each r.line.session) in
        own.0

    without : (session : ℕ) (b : Bool) → AllByRecursion P (cond b (r ∷ replies_of_session session replies) (replies_of_session session replies))
        → AllByRecursion P (replies_of_session session replies)
    without session true h = h.1
    without session false h = h

    later : (session : ℕ) → AllByRecursion P (replies_of_session session replies)
    later session = without session (is_of session r.line) (each session)
