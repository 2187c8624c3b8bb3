-- Session by session the lines of a round have their replies.
use Rattle.std.specs.Prelude.{◌≡◌, ◌⊎◌, ℕ, zero, suc, ◌+◌, ◌<◌, ◌≤◌, Bool, true, false, cond, List, [], ◌∷◌, ◌++◌, length, map, Some, Result, Ok, Err, IfOk, OnOk, take, drop, slice_get, slice_index_or}
use Rattle.std.specs.Global.{Vec}
use Rattle.std.specs.List.{AllByRecursion}
use Rattle.std.proofs.Common.{inl, inr, refl, sym, ap, ◌∙◌, subst, arith, ne_eqb}
use Rattle.std.proofs.lemmas.List.{append-nil, length-map}
use Rattle.std.proofs.lemmas.List.Elements.{filter-append}
use Rattle.std.proofs.lemmas.Option.{slice_get_within, get_or_from_slice_get}
use Rattle.std.proofs.lemmas.Bool.{eq-eqb}
use Rattle.std.proofs.lemmas.Bool.Decides.{eqb_tells}
use Rattle.session_replies.specs.Rounds.{LinesAreOfSome}
use Rattle.session_replies.specs.declared.script.Line.{Line}
use Rattle.session_replies.specs.Legal.{Replied, is_of, lines_of_session, replies_of_session, AreBySession}
use Rattle.commit_pipeline.specs.Openings.{Opening}
use Rattle.commit_pipeline.specs.declared.standing.Standing.{Standing}
use Rattle.session_rounds.specs.declared.course.Course.{Course}
use Rattle.session_rounds.specs.declared.transcript.Transcript.{Transcript}
use Rattle.session_rounds.specs.Acts.{DoesLines}
use Rattle.session_rounds.specs.Playing.{RoundPlayed}
use Rattle.session_rounds.specs.Transcripts.{blank_of, with_told, NotesReplies}
use Rattle.session_rounds.specs.Turns.{turn_with, session_of, join_all, AreDealt, PlaysTurn, PlayAll, NoneStarved, PlaysTurns}
use Rattle.session_rounds.proofs.Noted.{none_noted, replies_then, joined_noted, blank_same}

-- Of two numbers the one is below the other, or not.
below_or : (a b : ℕ) → (a < b) ⊎ (b ≤ a)
below_or a zero = inr (omega arith)
below_or zero (suc b) = inl (omega arith)
below_or (suc a) (suc b) = elim (below_or a b) [ inl below ↦ inl (omega (arith, below)) | inr not ↦ inr (omega (arith, not)) ]

-- ---- the lines and the replies of one session

abbrev AreOf : ℕ → List Replied → Type 0
AreOf k own = AllByRecursion (λ (r : Replied). r.line.session ≡ k) own

-- The lines of one session are of it.
lines_are_of : (k : ℕ) (lines : List Line) → AllByRecursion (λ (l : Line). l.session ≡ k) (lines_of_session k lines)
lines_are_of k [] = record {}
lines_are_of k (line ∷ lines) = elim (eqb_tells line.session k) [
  | inl (test, is) ↦
      subst (λ (b : Bool). AllByRecursion (λ (l : Line). l.session ≡ k) (cond b (line ∷ lines_of_session k lines) (lines_of_session k lines)))
      (sym test) (is, lines_are_of k lines)
  | inr (test, isnt) ↦
      subst (λ (b : Bool). AllByRecursion (λ (l : Line). l.session ≡ k) (cond b (line ∷ lines_of_session k lines) (lines_of_session k lines)))
      (sym test) (lines_are_of k lines)
]

-- Replies to lines of one session are of it.
replies_are_of : (k : ℕ) (own : List Replied) → AllByRecursion (λ (l : Line). l.session ≡ k) (map (λ (r : Replied). r.line) own) → AreOf k own
replies_are_of k [] all = record {}
replies_are_of k (r ∷ own) all = (all.0, replies_are_of k own all.1)

-- Of the replies of one session each is its own, and none is another's.
own_stay : (k : ℕ) (own : List Replied) → AreOf k own → replies_of_session k own ≡ own
own_stay k [] all = refl
own_stay k (r ∷ own) all =
    let here : is_of k r.line ≡ true = eq-eqb r.line.session k all.0 in
    ap (λ (c : Bool). cond c (r ∷ replies_of_session k own) (replies_of_session k own)) here ∙ ap (λ (t : List Replied). r ∷ t) (own_stay k own all.1)

own_go : (k session : ℕ) (own : List Replied) → (k ≡ session → ⊥) → AreOf k own → replies_of_session session own ≡ []
own_go k session [] apart all = refl
own_go k session (r ∷ own) apart all =
    let away : is_of session r.line ≡ false = ne_eqb r.line.session session (λ same. apart (sym all.0 ∙ same)) in
    ap (λ (c : Bool). cond c (r ∷ replies_of_session session own) (replies_of_session session own)) away ∙ own_go k session own apart all.1

-- No line is of a session past them all.
none_past : (count session : ℕ) (lines : List Line) → count ≤ session → LinesAreOfSome count lines → lines_of_session session lines ≡ []
none_past count session [] past named = refl
none_past count session (l ∷ lines) past named =
    let away : is_of session l ≡ false = ne_eqb l.session session (λ same. omega (arith, named.0, past, same)) in
    ap (λ (c : Bool). cond c (l ∷ lines_of_session session lines) (lines_of_session session lines)) away ∙ none_past count session lines past named.1

-- What never falls from a number on does not from a lower one on.
from_later : (low high : ℕ) (more : List Replied) → low ≤ high → AreBySession high more → AreBySession low more
unfolding AreBySession
from_later low high [] le order = record {}
from_later low high (r ∷ more) le order = (omega (arith, le, order.0), order.1)

-- The replies of one session come before those of later ones.
own_before : (low k : ℕ) (own more : List Replied) → low ≤ k → AreOf k own → AreBySession (suc k) more → AreBySession low (own ++ more)
unfolding AreBySession
own_before low k [] more le all order = from_later low (suc k) more (omega (arith, le)) order
own_before low k (r ∷ own) more le all order =
    (omega (arith, le, all.0), own_before r.line.session k own more (omega (arith, all.0)) all.1 order)

-- ---- the turns of the sessions from one on

-- Each turn has the lines of its session, nothing was said but this, and it has done them.
record TurnsDone (opening : Opening) (told : Transcript) (k : ℕ) (lines : List Line) (ts ts' : List Course) : Type 0 where
  all : length ts' ≡ length ts
  dealt : (i : ℕ) (t : Course) → slice_get ts i ≡ Some t → (t.lines ≡ lines_of_session (k + i) lines) × (t.told ≡ told)
  done : (i : ℕ) (t t' : Course) → slice_get ts i ≡ Some t → slice_get ts' i ≡ Some t' → PlaysTurn opening t t'

-- Their replies, one session's after another's, which are added to a transcript.
record RepliesFrom (opening : Opening) (old : Transcript) (k : ℕ) (lines : List Line) (ts ts' : List Course) : Type 0 where
  replies : List Replied
  order : AreBySession k replies
  before : (session : ℕ) → session < k → replies_of_session session replies ≡ []
  past : (session : ℕ) → k + length ts ≤ session → replies_of_session session replies ≡ []
  same : (session : ℕ) → k ≤ session → session < k + length ts → map (λ (r : Replied). r.line) (replies_of_session session replies) ≡ lines_of_session session lines
  does : (i : ℕ) (t t' : Course) → slice_get ts i ≡ Some t → slice_get ts' i ≡ Some t'
      → DoesLines opening t.session (replies_of_session (k + i) replies) t'.session
  notes : NotesReplies replies old (join_all old ts')

-- So it is of the turns after the first.
later_turns : (opening : Opening) (told : Transcript) (k : ℕ) (lines : List Line) (t t' : Course) (ts ts' : List Course)
    → TurnsDone opening told k lines (t ∷ ts) (t' ∷ ts') → TurnsDone opening told (suc k) lines ts ts'
later_turns opening told k lines t t' ts ts' so = record {
  all = omega (arith, so.all);
  dealt = λ i u e. (
    (so.dealt (suc i) u e).0 ∙ ap (λ (n : ℕ). lines_of_session n lines) (omega arith),
    (so.dealt (suc i) u e).1,
  );
  done = λ i u u' e e'. so.done (suc i) u u' e e';
}

-- No turn has no reply.
no_turns : (opening : Opening) (old : Transcript) (k : ℕ) (lines : List Line) → RepliesFrom opening old k lines [] []
unfolding AreBySession join_all
no_turns opening old k lines = record {
  replies = [];
  order = record {};
  before = λ session is. refl;
  past = λ session is. refl;
  same = λ session from to. absurd (omega (arith, from, to));
  does = λ i t t' e e'. absurd cc;
  notes = none_noted old;
}

-- One turn comes before those of the later sessions.
module _ (opening : Opening) (old : Transcript) (k : ℕ) (lines : List Line) (t t' : Course) (ts ts' : List Course)
    (lines_is : t.lines ≡ lines_of_session k lines) (fresh : t.told ≡ blank_of old) (one : PlaysTurn opening t t')
    (rest : RepliesFrom opening (with_told old t'.told) (suc k) lines ts ts') where
  own_are : map (λ (r : Replied). r.line) one.replies ≡ lines_of_session k lines
  own_are = one.lines_are ∙ lines_is

  own_of : AreOf k one.replies
  own_of = replies_are_of k one.replies
      (subst (λ (l : List Line). AllByRecursion (λ (l : Line). l.session ≡ k) l) (sym own_are) (lines_are_of k lines))

  both : (session : ℕ) → replies_of_session session (one.replies ++ rest.replies)
      ≡ replies_of_session session one.replies ++ replies_of_session session rest.replies
  both session = filter-append (λ (r : Replied). is_of session r.line) one.replies rest.replies

  here : replies_of_session k (one.replies ++ rest.replies) ≡ one.replies
  here = both k ∙ ap (λ (l : List Replied). l ++ replies_of_session k rest.replies) (own_stay k one.replies own_of)
      ∙ ap (λ (l : List Replied). one.replies ++ l) (rest.before k (omega arith)) ∙ append-nil one.replies

  there : (session : ℕ) → (k ≡ session → ⊥) → replies_of_session session (one.replies ++ rest.replies) ≡ replies_of_session session rest.replies
  there session apart = both session
      ∙ ap (λ (l : List Replied). l ++ replies_of_session session rest.replies) (own_go k session one.replies apart own_of)

  same_from : (session : ℕ) → k ≤ session → session < k + length (t ∷ ts)
      → map (λ (r : Replied). r.line) (replies_of_session session (one.replies ++ rest.replies)) ≡ lines_of_session session lines
  same_from session from to = elim (below_or k session) [
    | inl later ↦
        ap (map (λ (r : Replied). r.line)) (there session (λ same. omega (arith, same, later))) ∙ rest.same session (omega (arith, later)) (omega (arith, to))
    | inr not ↦
        let is : k ≡ session = omega (arith, not, from) in
        subst (λ (s : ℕ). map (λ (r : Replied). r.line) (replies_of_session s (one.replies ++ rest.replies)) ≡ lines_of_session s lines) is
        (ap (map (λ (r : Replied). r.line)) here ∙ own_are)
  ]

  does_from : (i : ℕ) (u u' : Course) → slice_get (t ∷ ts) i ≡ Some u → slice_get (t' ∷ ts') i ≡ Some u'
      → DoesLines opening u.session (replies_of_session (k + i) (one.replies ++ rest.replies)) u'.session
  does_from zero u u' e e' =
      let is : t ≡ u = cc in
      let is' : t' ≡ u' = cc in
      let at : k ≡ k + 0 = omega arith in
      subst (λ (n : ℕ). DoesLines opening u.session (replies_of_session n (one.replies ++ rest.replies)) u'.session) at
      (subst (λ (l : List Replied). DoesLines opening u.session l u'.session) (sym here)
      (subst (λ (v : Course). DoesLines opening v.session one.replies u'.session) is
      (subst (λ (v : Course). DoesLines opening t.session one.replies v.session) is' one.does)))
  does_from (suc i) u u' e e' =
      let at : suc k + i ≡ k + suc i = omega arith in
      subst (λ (n : ℕ). DoesLines opening u.session (replies_of_session n (one.replies ++ rest.replies)) u'.session) at
      (subst (λ (l : List Replied). DoesLines opening u.session l u'.session) (sym (there (suc k + i) (λ same. omega (arith, same))))
      (rest.does i u u' e e'))

  own_noted : NotesReplies one.replies old (with_told old t'.told)
  own_noted = joined_noted one.replies old t'.told (subst (λ (told : Transcript). NotesReplies one.replies told t'.told) fresh one.notes)

  one_turn_more : RepliesFrom opening old k lines (t ∷ ts) (t' ∷ ts')
  unfolding join_all
  one_turn_more = record {
    replies = one.replies ++ rest.replies;
    order = own_before k k one.replies rest.replies (omega arith) own_of rest.order;
    before = λ session is. there session (λ same. omega (arith, same, is)) ∙ rest.before session (omega (arith, is));
    past = λ session is. there session (λ same. omega (arith, same, is)) ∙ rest.past session (omega (arith, is));
    same = same_from;
    does = does_from;
    notes = replies_then one.replies rest.replies old (with_told old t'.told) (join_all (with_told old t'.told) ts') own_noted rest.notes;
  }

-- All turns from a session on have their replies.
turns_reply : (opening : Opening) (told old : Transcript) (k : ℕ) (lines : List Line) (ts ts' : List Course) → told ≡ blank_of old
    → TurnsDone opening told k lines ts ts' → RepliesFrom opening old k lines ts ts'
turns_reply opening told old k lines [] [] blank so = no_turns opening old k lines
turns_reply opening told old k lines [] (t' ∷ ts') blank so = absurd (omega (arith, so.all))
turns_reply opening told old k lines (t ∷ ts) [] blank so = absurd (omega (arith, so.all))
turns_reply opening told old k lines (t ∷ ts) (t' ∷ ts') blank so =
    let dealt = so.dealt 0 t refl in
    let at : k + 0 ≡ k = omega arith in
    let its : t.lines ≡ lines_of_session k lines = dealt.0 ∙ ap (λ (n : ℕ). lines_of_session n lines) at in
    let fresh : t.told ≡ blank_of old = dealt.1 ∙ blank in
    let one : PlaysTurn opening t t' = so.done 0 t t' refl refl in
    let noted = joined_noted one.replies old t'.told (subst (λ (u : Transcript). NotesReplies one.replies u t'.told) fresh one.notes) in
    one_turn_more opening old k lines t t' ts ts' its fresh one
    (turns_reply opening told (with_told old t'.told) (suc k) lines ts ts' (blank ∙ sym (blank_same one.replies old (with_told old t'.told) noted))
    (later_turns opening told k lines t t' ts ts' so))

-- ---- all sessions

-- what stands at a place of a list that was read item by item
mapped_at : {A B : Type 0} (f : A → B) (xs : List A) (i : ℕ) (y : B) → slice_get (map f xs) i ≡ Some y → (x : A) × (slice_get xs i ≡ Some x) × (f x ≡ y)
mapped_at f [] i y e = absurd cc
mapped_at f (x ∷ xs) zero y e = (x, refl, cc)
mapped_at f (x ∷ xs) (suc i) y e = mapped_at f xs i y e

-- what stands at a place below the length
found_at : {A : Type 0} (xs : List A) (i : ℕ) → i < length xs → (x : A) × (slice_get xs i ≡ Some x)
found_at [] i below = absurd (omega (arith, below))
found_at (x ∷ xs) zero below = (x, refl)
found_at (x ∷ xs) (suc i) below = found_at xs i (omega (arith, below))

-- One of the turns did not run out of memory, where none did.
none_starved_at : (ts : List Course) (i : ℕ) (t : Course) → NoneStarved ts → slice_get ts i ≡ Some t → t.starved ≡ false
none_starved_at [] i t none e = absurd cc
none_starved_at (x ∷ ts) zero t none e = let is : x ≡ t = cc in ap (λ (u : Course). u.starved) (sym is) ∙ none.0
none_starved_at (x ∷ ts) (suc i) t none e = none_starved_at ts i t none.1 e

-- The turns that were dealt and played are done.
turns_done : (opening : Opening) (told : Transcript) (lines : List Line) (ss : List Standing) (ts ts' : List Course) → AreDealt told ss lines ts
    → PlayAll opening ts ts' → NoneStarved ts' → TurnsDone opening told 0 lines ts ts'
turns_done opening told lines ss ts ts' dealt plays none = record {
  all = plays.all;
  dealt = λ i t e.
      let s = found_at ss i (subst (λ (n : ℕ). i < n) dealt.all (slice_get_within ts i t e)) in
      let was : Some t ≡ Some (turn_with told s.0 (lines_of_session i lines)) = sym e ∙ dealt.each i s.0 s.1 in
      let is : t ≡ turn_with told s.0 (lines_of_session i lines) = cc in
      let at : i ≡ 0 + i = omega arith in
      (ap (λ (u : Course). u.lines) is ∙ ap (λ (n : ℕ). lines_of_session n lines) at, ap (λ (u : Course). u.told) is);
  done = λ i t t' e e'.
      let is : slice_index_or ts i t' ≡ t = get_or_from_slice_get ts i t t' e in
      let is' : slice_index_or ts' i t' ≡ t' = get_or_from_slice_get ts' i t' t' e' in
      subst (λ (u : Course). PlaysTurn opening u t') is
      (subst (λ (u : Course). PlaysTurn opening (slice_index_or ts i t') u) is'
      (plays.each i t' (slice_get_within ts i t e)
      (subst (λ (u : Course). u.starved ≡ false) (sym is') (none_starved_at ts' i t' none e'))));
}

-- So the round is answered.
round_played : (opening : Opening) (old : Transcript) (lines : List Line) (ss : List Standing) (ts ts' : List Course)
    → LinesAreOfSome (length ss) lines → AreDealt (blank_of old) ss lines ts → PlayAll opening ts ts' → NoneStarved ts'
    → RoundPlayed opening lines ss (map session_of ts') old (join_all old ts')
round_played opening old lines ss ts ts' named dealt plays none =
    let told = blank_of old in
    let from : RepliesFrom opening old 0 lines ts ts' = turns_reply opening told old 0 lines ts ts' refl
    (turns_done opening told lines ss ts ts' dealt plays none) in record {
      replies = from.replies;
      plays = record {
        all = length-map ts' session_of ∙ plays.all ∙ dealt.all;
        answered = record {
          by_session = from.order;
          same = λ session. elim (below_or session (length ts)) [
            | inl below ↦ from.same session (omega arith) (omega (arith, below))
            | inr not ↦
                ap (map (λ (r : Replied). r.line)) (from.past session (omega (arith, not)))
                ∙ sym (none_past (length ss) session lines (omega (arith, not, dealt.all)) named)
          ];
        };
        each = λ i s s' e e'.
            let after = mapped_at session_of ts' i s' e' in
            let at : 0 + i ≡ i = omega arith in
            subst (λ (n : ℕ). DoesLines opening s (replies_of_session n from.replies) s') at
            (subst (λ (x : Standing). DoesLines opening s (replies_of_session (0 + i) from.replies) x) after.2
            (from.does i (turn_with told s (lines_of_session i lines)) after.0 (dealt.each i s e) after.1));
      };
      notes = from.notes;
    }

-- No turn is joined, and one more after others.
pub none_joined : (old : Transcript) → old ≡ join_all old []
unfolding join_all
none_joined old = refl

pub one_joined : (old : Transcript) (ts : List Course) (t : Course) → join_all old (ts ++ t ∷ []) ≡ with_told (join_all old ts) t.told
unfolding join_all
one_joined old [] t = refl
one_joined old (u ∷ ts) t = one_joined (with_told old u.told) ts t

-- Turns are played, where none of them ran out of memory.
pub turns_played : {E : Type 0} (opening : Opening) (ts ts' : List Course) (old new : Transcript) (ended : Result (Vec Standing) E)
    → PlayAll opening ts ts' → IfOk ended (λ e. e.items ≡ map session_of ts') → OnOk ended (new ≡ join_all old ts')
    → OnOk ended (NoneStarved ts') → IfOk ended (λ e. PlaysTurns opening ts e.items old new)
turns_played opening ts ts' old new (Ok e) plays sessions told none = record {
  ended = ts';
  plays = plays;
  none = none;
  sessions_are = sessions;
  told_is = told;
}
turns_played opening ts ts' old new (Err e) plays sessions told none = tt

-- A round is answered, where turns with its lines are.
pub round_ended : (opening : Opening) (lines : List Line) (ss ss' : List Standing) (ts : List Course) (old new : Transcript)
    → LinesAreOfSome (length ss) lines → AreDealt (blank_of old) ss lines ts → PlaysTurns opening ts ss' old new
    → RoundPlayed opening lines ss ss' old new
round_ended opening lines ss ss' ts old new named dealt plays =
    subst (λ (s' : List Standing). RoundPlayed opening lines ss s' old new) (sym plays.sessions_are)
    (subst (λ (told : Transcript). RoundPlayed opening lines ss (map session_of plays.ended) old told) (sym plays.told_is)
    (round_played opening old lines ss ts plays.ended named dealt plays.plays plays.none))

-- What is lent whole and comes back is all that there is.
pub wrote_back : {A : Type 0} (count : ℕ) (new items : List A) → count ≡ length items → length new ≡ length items
    → take count (new ++ drop (length new) items) ≡ new
wrote_back zero [] [] e n = refl
wrote_back (suc k) [] [] e n = absurd (omega (arith, e))
wrote_back k [] (y ∷ items) e n = absurd (omega (arith, n))
wrote_back k (x ∷ new) [] e n = absurd (omega (arith, n))
wrote_back zero (x ∷ new) (y ∷ items) e n = absurd (omega (arith, e))
wrote_back (suc k) (x ∷ new) (y ∷ items) e n = ap (λ (l : List _). x ∷ l) (wrote_back k new items (omega (arith, e)) (omega (arith, n)))
