-- Each step at a desk keeps its rule: the two ends are made, and work is lent, taken, given back and taken back.
use Rattle.std.proofs.Common.{◌≡◌, ℕ, zero, suc, List, [], ◌∷◌, ◌++◌, set, Option, Some, None, IsSome, sym, refl, ap, ◌∙◌, subst}
use mathlib.Core.Option.{some}
use lib.ListN.{get_elem?}
use Rattle.crossbeam_queue.specs.Fifo.{Pushes, Pops, Forks, Learns}
use Rattle.lent_work.specs.declared.rule.Parcel.{Parcel}
use Rattle.lent_work.specs.declared.rule.Parcel.TheVariants.{Asked, Done}
use Rattle.lent_work.specs.declared.rule.Side.{Side}
use Rattle.lent_work.specs.declared.rule.Side.TheVariants.{Whole, Lends, Works}
use Rattle.lent_work.specs.Desks.{LiesOn, made, idle, asked, begun, done, Takes, TakesBack}

-- which of the two ends lends, and which works
lends_first : {T : Type 0} (a b l : Option T) (port : ℕ) → get_elem? (Lends a ∷ Works b ∷ []) port ≡ some (Lends l) → (port ≡ 0) × (a ≡ l)
lends_first a b l zero at = (refl, cc at)
lends_first a b l (suc zero) at = absurd (cc at)
lends_first a b l (suc (suc port)) at = absurd (cc at)

works_last : {T : Type 0} (a b w : Option T) (port : ℕ) → get_elem? (Lends a ∷ Works b ∷ []) port ≡ some (Works w) → (port ≡ 1) × (b ≡ w)
works_last a b w zero at = absurd (cc at)
works_last a b w (suc zero) at = (refl, cc at)
works_last a b w (suc (suc port)) at = absurd (cc at)

one_end : {T : Type 0} (v w : Side T) (port : ℕ) → get_elem? (v ∷ []) port ≡ some w → (port ≡ 0) × (v ≡ w)
one_end v w zero at = (refl, cc at)
one_end v w (suc port) at = absurd (cc at)

pub some_lent : {T : Type 0} (o : Option T) → IsSome o → (t : T) × (o ≡ Some t)
some_lent (Some t) is = (t, refl)
some_lent None is = absurd (cc is)

module _ {T : Type 0} (is_done : T → T → Type 0) where
  abbrev On : List (Parcel T) → List (Side T) → Type 0
  On items views = LiesOn is_done items views

  -- the ends of a desk, as the one that lends sees them
  abbrev ByLender : Option T → ℕ → List (Side T) → Type 0
  ByLender l port views = (b : Option T) × (port ≡ 0) × (views ≡ Lends l ∷ Works b ∷ [])

  by_lender : {items : List (Parcel T)} {views : List (Side T)} (l : Option T) (port : ℕ) → On items views → get_elem? views port ≡ some (Lends l) → ByLender l port views
  by_lender l port made at = let e : Whole ≡ Lends l = (one_end Whole (Lends l) port at).1 in absurd (cc e)
  by_lender l port idle at = let r = lends_first None None l port at in (None, r.0, ap (λ (a : Option T). Lends a ∷ Works None ∷ []) r.1)
  by_lender l port (asked t) at = let r = lends_first (Some t) None l port at in (None, r.0, ap (λ (a : Option T). Lends a ∷ Works None ∷ []) r.1)
  by_lender l port (begun t) at = let r = lends_first (Some t) (Some t) l port at in (Some t, r.0, ap (λ (a : Option T). Lends a ∷ Works (Some t) ∷ []) r.1)
  by_lender l port (done t t' d) at = let r = lends_first (Some t) None l port at in (None, r.0, ap (λ (a : Option T). Lends a ∷ Works None ∷ []) r.1)

  -- the ends of a desk, as the one that works sees them
  abbrev ByWorker : Option T → ℕ → List (Side T) → Type 0
  ByWorker w port views = (a : Option T) × (port ≡ 1) × (views ≡ Lends a ∷ Works w ∷ [])

  by_worker : {items : List (Parcel T)} {views : List (Side T)} (w : Option T) (port : ℕ) → On items views → get_elem? views port ≡ some (Works w) → ByWorker w port views
  by_worker w port made at = let e : Whole ≡ Works w = (one_end Whole (Works w) port at).1 in absurd (cc e)
  by_worker w port idle at = let r = works_last None None w port at in (None, r.0, ap (λ (b : Option T). Lends None ∷ Works b ∷ []) r.1)
  by_worker w port (asked t) at = let r = works_last (Some t) None w port at in (Some t, r.0, ap (λ (b : Option T). Lends (Some t) ∷ Works b ∷ []) r.1)
  by_worker w port (begun t) at = let r = works_last (Some t) (Some t) w port at in (Some t, r.0, ap (λ (b : Option T). Lends (Some t) ∷ Works b ∷ []) r.1)
  by_worker w port (done t t' d) at = let r = works_last (Some t) None w port at in (Some t, r.0, ap (λ (b : Option T). Lends (Some t) ∷ Works b ∷ []) r.1)

  -- the steps, where it is known what both ends know
  makes_ends : {items : List (Parcel T)} {views : List (Side T)} (port : ℕ) → On items views → get_elem? views port ≡ some Whole → On items (set views port (Lends None) ++ Works None ∷ [])
  makes_ends zero made at = idle
  makes_ends (suc port) made at = absurd (cc at)
  makes_ends zero idle at = absurd (cc at)
  makes_ends (suc zero) idle at = absurd (cc at)
  makes_ends (suc (suc port)) idle at = absurd (cc at)
  makes_ends zero (asked t) at = absurd (cc at)
  makes_ends (suc zero) (asked t) at = absurd (cc at)
  makes_ends (suc (suc port)) (asked t) at = absurd (cc at)
  makes_ends zero (begun t) at = absurd (cc at)
  makes_ends (suc zero) (begun t) at = absurd (cc at)
  makes_ends (suc (suc port)) (begun t) at = absurd (cc at)
  makes_ends zero (done t t' d) at = absurd (cc at)
  makes_ends (suc zero) (done t t' d) at = absurd (cc at)
  makes_ends (suc (suc port)) (done t t' d) at = absurd (cc at)

  puts_asked : {items : List (Parcel T)} {b : Option T} (t : T) → On items (Lends None ∷ Works b ∷ []) → On (items ++ Asked t ∷ []) (Lends (Some t) ∷ Works b ∷ [])
  puts_asked t idle = asked t

  empty_for_lender : {items : List (Parcel T)} {b : Option T} → On items (Lends None ∷ Works b ∷ []) → items ≡ []
  empty_for_lender idle = refl

  takes_one : {x : Parcel T} {items : List (Parcel T)} {a : Option T} → On (x ∷ items) (Lends a ∷ Works None ∷ [])
      → (w : Side T) × On items (Lends a ∷ w ∷ []) × Takes is_done x w
  takes_one (asked t) = (Works (Some t), begun t, refl)
  takes_one (done t t' d) = (Works (Some t), begun t, (t, refl, d))

  puts_done : {items : List (Parcel T)} {a : Option T} (t t' : T) → is_done t t' → On items (Lends a ∷ Works (Some t) ∷ []) → On (items ++ Done t' ∷ []) (Lends a ∷ Works None ∷ [])
  puts_done t t' d (begun s) = done t t' d

  empty_for_worker : {items : List (Parcel T)} {a : Option T} (t : T) → On items (Lends a ∷ Works (Some t) ∷ []) → items ≡ []
  empty_for_worker t (begun s) = refl

  takes_one_back : {x : Parcel T} {items : List (Parcel T)} {b : Option T} (t : T) → On (x ∷ items) (Lends (Some t) ∷ Works b ∷ [])
      → On items (Lends None ∷ Works b ∷ []) × TakesBack is_done (Lends (Some t)) x (Lends None)
  takes_one_back t (asked s) = (idle, (refl, refl))
  takes_one_back t (done s t' d) = (idle, (refl, λ r e. let same : s ≡ r = cc e in subst (λ (y : T). is_done y t') same d))

  -- The two ends are made.
  pub forks : (port : ℕ) (v : Side T) → v ≡ Whole → Forks On port v (Lends None) (Works None)
  forks port v is items views h at = makes_ends port h (at ∙ ap some is)

  -- Work is lent, onto an empty desk.
  pub lends : (n port : ℕ) (v : Side T) (t : T) → v ≡ Lends None → Pushes On n port v (Asked t) (λ w. (s : T) → Asked t ≡ Asked s → w ≡ Lends (Some s))
  lends n port v t is items views _ h at =
      let r = by_lender None port h (at ∙ ap some is) in let w : Side T = Lends (Some t) in
      let put = puts_asked t (subst (λ (y : List (Side T)). On items y) r.2 h) in (
        w,
        subst (λ (y : ℕ × List (Side T)). On (items ++ Asked t ∷ []) (set y.1 y.0 w)) (λ i. (sym r.1 i, sym r.2 i)) put,
        λ s e. let same : t ≡ s = cc e in ap (λ (y : T). Lends (Some y)) same,
      )

  pub lender_finds_none : (port : ℕ) (v : Side T) → v ≡ Lends None → Learns On port v (λ items. items ≡ [])
  lender_finds_none port v is items views h at = let r = by_lender None port h (at ∙ ap some is) in empty_for_lender (subst (λ (y : List (Side T)). On items y) r.2 h)

  -- Work is taken, by who has none.
  pub takes : (port : ℕ) (v : Side T) → v ≡ Works None → Pops On port v (λ x w. Takes is_done x w)
  takes port v is x items views h at =
      let r = by_worker None port h (at ∙ ap some is) in let taken = takes_one (subst (λ (y : List (Side T)). On (x ∷ items) y) r.2 h) in
      (taken.0, subst (λ (y : ℕ × List (Side T)). On items (set y.1 y.0 taken.0)) (λ i. (sym r.1 i, sym r.2 i)) taken.1, taken.2)

  -- Work is given back, done.
  pub gives_back : (n port : ℕ) (v : Side T) (t t' : T) → v ≡ Works (Some t) → is_done t t' → Pushes On n port v (Done t') (λ w. w ≡ Works None)
  gives_back n port v t t' is d items views _ h at =
      let r = by_worker (Some t) port h (at ∙ ap some is) in let w : Side T = Works None in
      let put = puts_done t t' d (subst (λ (y : List (Side T)). On items y) r.2 h) in
      (w, subst (λ (y : ℕ × List (Side T)). On (items ++ Done t' ∷ []) (set y.1 y.0 w)) (λ i. (sym r.1 i, sym r.2 i)) put, refl)

  pub worker_finds_none : (port : ℕ) (v : Side T) (t : T) → v ≡ Works (Some t) → Learns On port v (λ items. items ≡ [])
  worker_finds_none port v t is items views h at = let r = by_worker (Some t) port h (at ∙ ap some is) in empty_for_worker t (subst (λ (y : List (Side T)). On items y) r.2 h)

  -- Work is taken back, as it was or done.
  pub takes_back : (port : ℕ) (v : Side T) (t : T) → v ≡ Lends (Some t) → Pops On port v (λ x w. TakesBack is_done v x w)
  takes_back port v t is x items views h at =
      let r = by_lender (Some t) port h (at ∙ ap some is) in let w : Side T = Lends None in
      let taken = takes_one_back t (subst (λ (y : List (Side T)). On (x ∷ items) y) r.2 h) in (
        w,
        subst (λ (y : ℕ × List (Side T)). On items (set y.1 y.0 w)) (λ i. (sym r.1 i, sym r.2 i)) taken.0,
        subst (λ (y : Side T). TakesBack is_done y x w) (sym is) taken.1,
      )
