-- What sessions add to their own batches along their lines, as places behind the base and as the batches of the replies.
use Rattle.std.proofs.Common.{◌≡◌, ◌⊎◌, inl, inr, ℕ, suc, ◌+◌, ◌≤◌, ◌<◌, true, List, [], ◌∷◌, ◌++◌, length, map, get_or, filter_map, Option, Some, None, Contains, refl, sym, ap, ◌∙◌, subst, arith}
use Rattle.std.specs.Prelude.{slice_get}
use Rattle.std.specs.List.{cons_option}
use Rattle.std.proofs.lemmas.List.{length-append, map-append}
use Rattle.std.proofs.lemmas.List.Elements.{filter_map-append, Contains-append_cases, Contains-push_cases, Contains-append_left, Contains-append_right}
use Rattle.std.proofs.lemmas.Option.{get_or_from_slice_get}
use Rattle.wal_base.proofs.Laws.{none_within, longer_prefix, at_prefix, within_cases, within_head}
use Rattle.batch_repr.specs.declared.batch.Batch.{Batch}
use Rattle.commit_queue.proofs.Laws.{at_below}
use Rattle.session_replies.specs.declared.script.Act.{Act}
use Rattle.session_replies.specs.declared.script.Act.TheVariants.{Commit, Get}
use Rattle.session_replies.specs.declared.replies.Said.{Said}
use Rattle.session_replies.specs.declared.replies.Said.TheVariants.{Committed, Unsynced, Dead, Limit, Got}
use Rattle.session_replies.specs.Legal.{Replied, batch_of}
use Rattle.commit_pipeline.specs.declared.standing.Standing.{Standing}
use Rattle.commit_pipeline.specs.Numbering.{numbered}
use Rattle.commit_pipeline.specs.Standings.{GainsOwn}
use Rattle.commit_pipeline.specs.Ending.{owned}
use Rattle.session_rounds.specs.Acts.{Does, DoesLines}
use Rattle.session_rounds.specs.Legality.{SyncedAreAmong}
use Rattle.session_rounds.proofs.Places.{as_got}
use Rattle.session_rounds.proofs.Follows.{End, IsWithin, within_before, does_follow, lines_follow}
use Rattle.session_rounds.proofs.BySessions.{all_of}

-- a batch for places where there is none
abbrev pub no_batch : Batch
no_batch = record { first = 0; entries = [] }

module _ (e : End) where
  -- the batch at this place behind the base
  abbrev pub batch_at : ℕ → Batch
  batch_at place = get_or e.batches place no_batch

  -- Places from one number up to another are added to the own ones. They are those of the batches of these replies, and those that
  -- are answered synced are acked.
  pub record Course (low high : ℕ) (old new : List ℕ) (replies : List Replied) : Type 0 where
    pub added : List ℕ
    pub as_many : length new ≡ length added + length old
    pub each : (i : ℕ) → Contains new i → Contains added i ⊎ Contains old i
    pub later : (i : ℕ) → Contains added i → low ≤ i
    pub below : (i : ℕ) → Contains added i → i < high
    pub made : filter_map batch_of replies ≡ map batch_at added
    pub synced : SyncedAreAmong e.batches e.most replies

  -- of one reply there is no other
  only : (reply r : Replied) → Contains (reply ∷ []) r → reply ≡ r
  only reply r h = elim (Contains-push_cases [] reply r h) [ inl none ↦ absurd (none_within r none) | inr same ↦ same ]

  -- no line adds anything
  pub course_none : (low high : ℕ) (own : List ℕ) → Course low high own own []
  course_none low high own = record {
    added = [];
    as_many = omega arith;
    each = λ i h. inr h;
    later = λ i h. absurd (none_within i h);
    below = λ i h. absurd (none_within i h);
    made = refl;
    synced = λ r first count h told. absurd (none_within r h);
  }

  -- ---- two courses

  -- each reply is of one of the two
  synced_both : (xs ys : List Replied) → SyncedAreAmong e.batches e.most xs → SyncedAreAmong e.batches e.most ys
      → SyncedAreAmong e.batches e.most (xs ++ ys)
  synced_both xs ys one two r first count h told = elim (Contains-append_cases xs ys r h) [
    | inl early ↦ one r first count early told
    | inr late ↦ two r first count late told
  ]

  -- and the batches of both are those of their places
  made_both : (xs ys : List Replied) (is js : List ℕ) → filter_map batch_of xs ≡ map batch_at is → filter_map batch_of ys ≡ map batch_at js
      → filter_map batch_of (xs ++ ys) ≡ map batch_at (is ++ js)
  made_both xs ys is js one two =
      filter_map-append batch_of xs ys ∙ ap (λ (front : List Batch). front ++ filter_map batch_of ys) one
      ∙ ap (λ (back : List Batch). map batch_at is ++ back) two ∙ sym (map-append batch_at is js)

  -- one after the other
  pub course_then : (low high : ℕ) (a b c : List ℕ) (xs ys : List Replied) → Course low high a b xs → Course low high b c ys
      → Course low high a c (xs ++ ys)
  course_then low high a b c xs ys one two = record {
    added = one.added ++ two.added;
    as_many = omega (arith, one.as_many, two.as_many, length-append one.added two.added);
    each = λ i h. elim (two.each i h) [
      | inl new ↦ inl (Contains-append_right one.added two.added i new)
      | inr before ↦ elim (one.each i before) [ inl new ↦ inl (Contains-append_left one.added two.added i new) | inr old ↦ inr old ]
    ];
    later = λ i h. elim (Contains-append_cases one.added two.added i h) [ inl p ↦ one.later i p | inr p ↦ two.later i p ];
    below = λ i h. elim (Contains-append_cases one.added two.added i h) [ inl p ↦ one.below i p | inr p ↦ two.below i p ];
    made = made_both xs ys one.added two.added one.made two.made;
    synced = synced_both xs ys one.synced two.synced;
  }

  -- one beside the other
  pub course_beside : (low high : ℕ) (a b c d : List ℕ) (xs ys : List Replied) → Course low high a b xs → Course low high c d ys
      → Course low high (c ++ a) (d ++ b) (xs ++ ys)
  course_beside low high a b c d xs ys one two = record {
    added = one.added ++ two.added;
    as_many = omega (arith, one.as_many, two.as_many, length-append one.added two.added, length-append c a, length-append d b);
    each = λ i h. elim (Contains-append_cases d b i h) [
      | inl there ↦ elim (two.each i there) [ inl new ↦ inl (Contains-append_right one.added two.added i new) | inr old ↦ inr (Contains-append_left c a i old) ]
      | inr here ↦ elim (one.each i here) [ inl new ↦ inl (Contains-append_left one.added two.added i new) | inr old ↦ inr (Contains-append_right c a i old) ]
    ];
    later = λ i h. elim (Contains-append_cases one.added two.added i h) [ inl p ↦ one.later i p | inr p ↦ two.later i p ];
    below = λ i h. elim (Contains-append_cases one.added two.added i h) [ inl p ↦ one.below i p | inr p ↦ two.below i p ];
    made = made_both xs ys one.added two.added one.made two.made;
    synced = synced_both xs ys one.synced two.synced;
  }

  -- ---- one line

  module _ (low high : ℕ) (s s' : Standing) (w : IsWithin e s') (from : low ≤ length s.seen) (to : length s'.seen ≤ high) where
    -- a line that adds its batch
    gaining : (reply : Replied) (batch : Batch) (place : ℕ) → GainsOwn batch place s s' → batch_of reply ≡ Some batch
        → ((first count : ℕ) → reply.said ≡ Committed first count true → (batch.first ≡ first) × (place < s'.acked))
        → Course low high s.own s'.own (reply ∷ [])
    gaining reply batch place gains has asked =
        let here : slice_get e.batches place ≡ Some batch = as_got e.batches place batch (at_prefix s'.seen e.batches w.seen place batch gains.at) in
        record {
          added = place ∷ [];
          as_many = omega (arith, ap (λ (own : List ℕ). length own) gains.own);
          each = λ i h. elim (within_cases place s.own i (subst (λ (l : List ℕ). Contains l i) gains.own h)) [
            | inl new ↦ inl (subst (λ (q : ℕ). Contains (place ∷ []) q) new (within_head place []))
            | inr old ↦ inr old
          ];
          later = λ i h. elim (within_cases place [] i h) [ inl is ↦ omega (arith, is, from, gains.behind) | inr none ↦ absurd (none_within i none) ];
          below = λ i h. elim (within_cases place [] i h) [
            | inl is ↦ omega (arith, is, to, at_below s'.seen place batch gains.at)
            | inr none ↦ absurd (none_within i none)
          ];
          made = ap (λ (o : Option Batch). cons_option o []) has
              ∙ ap (λ (b : Batch). b ∷ []) (sym (get_or_from_slice_get e.batches place batch no_batch here));
          synced = λ r first count h told.
              let so = asked first count (ap (λ (x : Replied). x.said) (only reply r h) ∙ told) in
              (place, batch, here, so.0, omega (arith, so.1, w.acked));
        }

    -- a line that adds nothing
    idling : (reply : Replied) → s'.own ≡ s.own → batch_of reply ≡ None → ((first count : ℕ) → reply.said ≡ Committed first count true → ⊥)
        → Course low high s.own s'.own (reply ∷ [])
    idling reply own none other = record {
      added = [];
      as_many = omega (arith, ap (λ (o : List ℕ). length o) own);
      each = λ i h. inr (subst (λ (l : List ℕ). Contains l i) own h);
      later = λ i h. absurd (none_within i h);
      below = λ i h. absurd (none_within i h);
      made = ap (λ (o : Option Batch). cons_option o []) none;
      synced = λ r first count h told. absurd (other first count (ap (λ (x : Replied). x.said) (only reply r h) ∙ told));
    }

    -- a line of this session, with its reply
    abbrev replied : ℕ → Act → Said → Replied
    replied session act said = record { line = record { session = session; act = act }; said = said }

    -- by what was said
    one_line : (session : ℕ) (act : Act) (said : Said) → Does e.opening s act said s' → Course low high s.own s'.own (replied session act said ∷ [])
    one_line session (Commit sync entries) (Committed first count synced) does =
        let c = does.commits in
        gaining (replied session (Commit sync entries) (Committed first count synced)) (numbered entries first) c.place c.gains refl
        (λ f n told.
        let first_is : first ≡ f = cc in
        let sync_is : synced ≡ true = cc in
        (first_is, does.acked (sym does.synced ∙ sync_is)))
    one_line session (Commit sync entries) (Unsynced first count) does =
        gaining (replied session (Commit sync entries) (Unsynced first count)) (numbered entries first) does.0.place does.0.gains refl
        (λ f n told. absurd cc)
    one_line session (Commit sync entries) Dead does =
        idling (replied session (Commit sync entries) Dead) does.0.own refl (λ f n told. cc)
    one_line session (Commit sync entries) Limit does =
        idling (replied session (Commit sync entries) Limit) does.0.own refl (λ f n told. cc)
    one_line session (Commit sync entries) (Got told value visible) does = absurd does
    one_line session (Get key) (Got told value visible) does =
        idling (replied session (Get key) (Got told value visible)) does.1.idles.own refl (λ f n t. cc)
    one_line session (Get key) (Committed first count synced) does = absurd does
    one_line session (Get key) (Unsynced first count) does = absurd does
    one_line session (Get key) Dead does = absurd does
    one_line session (Get key) Limit does = absurd does

  -- ---- all lines of a session, and of all sessions

  -- line by line
  pub all_lines : (low high : ℕ) (replies : List Replied) (s s' : Standing) → DoesLines e.opening s replies s' → IsWithin e s'
      → low ≤ length s.seen → length s'.seen ≤ high → Course low high s.own s'.own replies
  unfolding DoesLines
  all_lines low high [] s s' does w from to =
      subst (λ (own : List ℕ). Course low high s.own own []) (ap (λ (t : Standing). t.own) (sym does)) (course_none low high s.own)
  all_lines low high (reply ∷ replies) s s' does w from to =
      let mid = does.0 in
      let on = lines_follow e.opening replies mid s' does.2 in
      let more = longer_prefix s.seen mid.seen (does_follow e.opening reply.line.act reply.said s mid does.1).seen in
      course_then low high s.own mid.own s'.own (reply ∷ []) replies
      (one_line low high s mid (within_before e mid s' on w) from (omega (arith, longer_prefix mid.seen s'.seen on.seen, to))
      reply.line.session reply.line.act reply.said does.1)
      (all_lines low high replies mid s' does.2 w (omega (arith, from, more)) to)

  -- the lines of each session are of a course
  pub all_sessions : (low high : ℕ) (replies : ℕ → List Replied) (ss ss' : List Standing) → length ss' ≡ length ss
      → ((i : ℕ) (s s' : Standing) → slice_get ss i ≡ Some s → slice_get ss' i ≡ Some s' → Course low high s.own s'.own (replies i))
      → Course low high (owned ss) (owned ss') (all_of replies (length ss))
  all_sessions low high replies [] [] long each = course_none low high []
  all_sessions low high replies [] (s' ∷ ss') long each = absurd (omega (arith, long))
  all_sessions low high replies (s ∷ ss) [] long each = absurd (omega (arith, long))
  all_sessions low high replies (s ∷ ss) (s' ∷ ss') long each =
      course_beside low high s.own s'.own (owned ss) (owned ss') (replies 0) (all_of (λ i. replies (suc i)) (length ss)) (each 0 s s' refl refl)
      (all_sessions low high (λ i. replies (suc i)) ss ss' (omega (arith, long)) (λ i t t' here there. each (suc i) t t' here there))
