-- The replies of a round, session by session.
use Rattle.std.proofs.Common.{◌≡◌, ◌≢◌, ℕ, zero, suc, ◌+◌, ◌≤◌, ◌<◌, Bool, true, false, cond, not, List, [], ◌∷◌, ◌++◌, map, filter, filter_map, Option, Some, None, Contains, IsPermutation, refl, sym, ap, ◌∙◌, subst, eq-eqb, ne_eqb, eqb-true, arith}
use native.Mathlib.Decide.{dec_le, ℕ_discrete}
use Rattle.std.specs.List.{cons_option, AllByRecursion}
use Rattle.std.proofs.lemmas.List.Elements.{filter_map-append}
use Rattle.std.proofs.lemmas.List.Sorted.{IsPermutation-refl, IsPermutation-trans, IsPermutation-cons, IsPermutation-sym, IsPermutation-middle, IsPermutation-append_right, Contains-permutation}
use Rattle.session_replies.specs.declared.script.Line.{Line}
use Rattle.session_replies.specs.Legal.{Replied, is_of, lines_of_session, replies_of_session, RepliesTo}

-- ---- lists of many owners

-- the lists of the first owners, so many, one behind the other
abbrev pub all_of : {X : Type 0} → (ℕ → List X) → ℕ → List X
all_of lists zero = []
all_of lists (suc n) = lists 0 ++ all_of (λ i. lists (suc i)) n

-- the same lists, one by one
all_same : {X : Type 0} (f g : ℕ → List X) (n : ℕ) → ((i : ℕ) → f i ≡ g i) → all_of f n ≡ all_of g n
all_same f g zero same = refl
all_same {X = X} f g (suc n) same =
    ap (λ (front : List X). front ++ all_of (λ i. f (suc i)) n) (same 0)
    ∙ ap (λ (back : List X). g 0 ++ back) (all_same (λ i. f (suc i)) (λ i. g (suc i)) n (λ i. same (suc i)))

-- ---- one session, and the others

-- whether a reply is of this session
abbrev of : ℕ → Replied → Bool
of session reply = is_of session reply.line

-- the replies of all others
abbrev others : ℕ → List Replied → List Replied
others session replies = filter (λ (r : Replied). not (of session r)) replies

module _ {Y : Type 0} where
  -- one element more, in the first of two lists or in the second
  in_front : (o : Option Y) (all xs ys : List Y) → IsPermutation all (xs ++ ys) → IsPermutation (cons_option o all) (cons_option o xs ++ ys)
  in_front None all xs ys p = p
  in_front (Some y) all xs ys p = IsPermutation-cons y all (xs ++ ys) p

  in_back : (o : Option Y) (all xs ys : List Y) → IsPermutation all (xs ++ ys) → IsPermutation (cons_option o all) (xs ++ cons_option o ys)
  in_back None all xs ys p = p
  in_back (Some y) all xs ys p =
      IsPermutation-trans (y ∷ all) (y ∷ (xs ++ ys)) (xs ++ y ∷ ys) (IsPermutation-cons y all (xs ++ ys) p)
      (IsPermutation-sym (xs ++ y ∷ ys) (y ∷ (xs ++ ys)) (IsPermutation-middle xs y ys))

-- a session's replies are not among those of all others
none_of_itself : (session : ℕ) (replies : List Replied) → replies_of_session session (others session replies) ≡ []
none_of_itself session [] = refl
none_of_itself session (reply ∷ replies) = go (of session reply) refl (none_of_itself session replies)
  where
    rest : List Replied
    rest = others session replies

    go : (b : Bool) → of session reply ≡ b → replies_of_session session rest ≡ []
        → replies_of_session session (cond (not b) (reply ∷ rest) rest) ≡ []
    go true e none = none
    go false e none = ap (λ (c : Bool). cond c (reply ∷ replies_of_session session rest) (replies_of_session session rest)) e ∙ none

-- those of another session are
all_of_another : (session other : ℕ) → other ≢ session → (replies : List Replied)
    → replies_of_session other (others session replies) ≡ replies_of_session other replies
all_of_another session other apart [] = refl
all_of_another session other apart (reply ∷ replies) = go (of session reply) refl (all_of_another session other apart replies)
  where
    rest : List Replied
    rest = others session replies

    go : (b : Bool) → of session reply ≡ b → replies_of_session other rest ≡ replies_of_session other replies
        → replies_of_session other (cond (not b) (reply ∷ rest) rest) ≡ replies_of_session other (reply ∷ replies)
    go true e all =
        let none : of other reply ≡ false =
        ne_eqb reply.line.session other (λ same. apart (sym same ∙ eqb-true reply.line.session session e)) in
        all ∙ sym (ap (λ (c : Bool). cond c (reply ∷ replies_of_session other replies) (replies_of_session other replies)) none)
    go false e all = ap (λ (them : List Replied). cond (of other reply) (reply ∷ them) them) all

-- ---- all sessions

-- Where no session has a reply, there is none.
none_left : (replies : List Replied) → ((session : ℕ) → replies_of_session session replies ≡ []) → replies ≡ []
none_left [] none = refl
none_left (reply ∷ replies) none =
    let session = reply.line.session in
    let all : reply ∷ replies_of_session session replies ≡ [] =
    sym (ap (λ (c : Bool). cond c (reply ∷ replies_of_session session replies) (replies_of_session session replies)) (eq-eqb session session refl))
    ∙ none session in
    absurd cc

-- What replies give.
module _ {Y : Type 0} (h : Replied → Option Y) where
  -- It is what the replies of one session and those of the others give.
  parted : (session : ℕ) (replies : List Replied) → IsPermutation (filter_map h replies)
      (filter_map h (replies_of_session session replies) ++ filter_map h (others session replies))
  parted session [] = IsPermutation-refl []
  parted session (reply ∷ replies) = go (of session reply) (parted session replies)
    where
      own : List Replied
      own = replies_of_session session replies

      rest : List Replied
      rest = others session replies

      go : (b : Bool) → IsPermutation (filter_map h replies) (filter_map h own ++ filter_map h rest)
          → IsPermutation (cons_option (h reply) (filter_map h replies))
          (filter_map h (cond b (reply ∷ own) own) ++ filter_map h (cond (not b) (reply ∷ rest) rest))
      go true p = in_front (h reply) (filter_map h replies) (filter_map h own) (filter_map h rest) p
      go false p = in_back (h reply) (filter_map h replies) (filter_map h own) (filter_map h rest) p

  -- It is what those of so many sessions give, where all are of these.
  dealt_from : (count first : ℕ) (replies : List Replied) → ((session : ℕ) → session < first → replies_of_session session replies ≡ [])
      → ((session : ℕ) → first + count ≤ session → replies_of_session session replies ≡ [])
      → IsPermutation (filter_map h replies) (filter_map h (all_of (λ i. replies_of_session (first + i) replies) count))
  dealt_from zero first replies low high =
      let none : replies ≡ [] =
      none_left replies (λ session. elim (dec_le first session) [
        | yes past ↦ high session (omega (arith, past))
        | no before ↦ low session (omega (arith, before))
      ]) in
      subst (λ (rs : List Replied). IsPermutation (filter_map h rs) []) (sym none) (IsPermutation-refl [])
  dealt_from (suc count) first replies low high =
      IsPermutation-trans (filter_map h replies) (filter_map h own ++ filter_map h rest)
      (filter_map h (all_of (λ i. replies_of_session (first + i) replies) (suc count))) (parted first replies)
      (subst (IsPermutation (filter_map h own ++ filter_map h rest)) turns_of_parts
      (IsPermutation-append_right (filter_map h own) (filter_map h rest) (filter_map h (all_of later count))
      (dealt_from count (suc first) rest none_before none_after)))
    where
      own : List Replied
      own = replies_of_session first replies

      rest : List Replied
      rest = others first replies

      later : ℕ → List Replied
      later i = replies_of_session (suc first + i) rest

      none_before : (session : ℕ) → session < suc first → replies_of_session session rest ≡ []
      none_before session below = elim (ℕ_discrete session first) [
        | yes same ↦ ap (λ (n : ℕ). replies_of_session n rest) same ∙ none_of_itself first replies
        | no apart ↦ all_of_another first session apart replies ∙ low session (omega (arith, below, apart))
      ]

      none_after : (session : ℕ) → suc first + count ≤ session → replies_of_session session rest ≡ []
      none_after session past = all_of_another first session (omega (arith, past)) replies ∙ high session (omega (arith, past))

      same : (i : ℕ) → later i ≡ replies_of_session (first + suc i) replies
      same i =
          let place : suc first + i ≡ first + suc i = omega arith in
          all_of_another first (suc first + i) (omega arith) replies ∙ ap (λ (n : ℕ). replies_of_session n replies) place

      turns_of_parts : filter_map h own ++ filter_map h (all_of later count) ≡ filter_map h (all_of (λ i. replies_of_session (first + i) replies) (suc count))
      turns_of_parts =
          let place : first ≡ first + 0 = omega arith in
          sym (filter_map-append h own (all_of later count))
          ∙ ap (λ (n : ℕ). filter_map h (replies_of_session n replies ++ all_of later count)) place
          ∙ ap (λ (back : List Replied). filter_map h (replies_of_session (first + 0) replies ++ back))
          (all_same later (λ i. replies_of_session (first + suc i) replies) count same)

-- ---- a round

-- the replies of a round, session by session
abbrev pub by_sessions : ℕ → List Replied → List Replied
by_sessions count replies = all_of (λ session. replies_of_session session replies) count

-- no line is of a later session
no_line : (count session : ℕ) (lines : List Line) → AllByRecursion (λ (line : Line). line.session < count) lines → count ≤ session
    → lines_of_session session lines ≡ []
no_line count session [] some past = refl
no_line count session (line ∷ lines) some past =
    let none : is_of session line ≡ false = ne_eqb line.session session (omega (arith, some.0, past)) in
    ap (λ (c : Bool). cond c (line ∷ lines_of_session session lines) (lines_of_session session lines)) none
    ∙ no_line count session lines some.1 past

-- only the empty list maps to it
none_mapped : {X Y : Type 0} (f : X → Y) (xs : List X) → map f xs ≡ [] → xs ≡ []
none_mapped f [] e = refl
none_mapped f (x ∷ xs) e = absurd cc

-- The replies to lines of so many sessions.
module _ (count : ℕ) (lines : List Line) (replies : List Replied) (some : AllByRecursion (λ (line : Line). line.session < count) lines)
    (to : RepliesTo lines replies) where
  -- no reply is of a later session
  pub no_reply : (session : ℕ) → count ≤ session → replies_of_session session replies ≡ []
  no_reply session past =
      none_mapped (λ (r : Replied). r.line) (replies_of_session session replies) (to.same session ∙ no_line count session lines some past)

  -- session by session, they give the same in another order
  pub dealt : {Y : Type 0} (h : Replied → Option Y) → IsPermutation (filter_map h replies) (filter_map h (by_sessions count replies))
  dealt {Y = Y} h =
      subst (λ (rs : List Replied). IsPermutation (filter_map h replies) (filter_map h rs))
      (all_same (λ i. replies_of_session (0 + i) replies) (λ i. replies_of_session i replies) count
      (λ i. let place : 0 + i ≡ i = omega arith in ap (λ (n : ℕ). replies_of_session n replies) place))
      (dealt_from h count 0 replies (λ session below. absurd (omega (arith, below))) (λ session past. no_reply session (omega (arith, past))))

  -- each reply is there
  pub deals : (reply : Replied) → Contains replies reply → Contains (by_sessions count replies) reply
  deals reply h =
      subst (λ (rs : List Replied). Contains rs reply) (all_kept (by_sessions count replies))
      (Contains-permutation (filter_map kept replies) (filter_map kept (by_sessions count replies)) reply (dealt kept)
      (subst (λ (rs : List Replied). Contains rs reply) (sym (all_kept replies)) h))
    where
      kept : Replied → Option Replied
      kept r = Some r

      all_kept : (rs : List Replied) → filter_map kept rs ≡ rs
      all_kept [] = refl
      all_kept (r ∷ rs) = ap (λ (l : List Replied). r ∷ l) (all_kept rs)
