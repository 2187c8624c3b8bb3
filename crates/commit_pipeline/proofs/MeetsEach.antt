-- One session meets others, one after another.
use Rattle.std.proofs.Common.{◌≡◌, ◌≢◌, ℕ, zero, suc, ◌+◌, ◌<◌, ◌≤◌, ⊎_elim, List, [], ◌∷◌, length, Some, slice_get, slice_index_or, slice_set, length-set, le_trans, le_refl, refl, sym, ◌∙◌, ap, subst, arith}
use Rattle.std.proofs.lemmas.Bool.{cases_eq}
use Rattle.std.proofs.lemmas.Option.{same_Some, slice_get-get_or, slice_get_within}
use Rattle.wal_base.proofs.Laws.{prefix_same, prefix_then}
use Rattle.commit_pipeline.specs.declared.standing.Standing.{Standing}
use Rattle.commit_pipeline.specs.Meeting.{HasSeenAll, StaysOn, StayOn, StaysOnBeside, MeetsEach}

pub same_stays : (s : Standing) → StaysOn s s
same_stays s = record {
  goes_on = record { seen = prefix_same s.seen; acked = le_refl s.acked; told = le_refl s.told };
  own = refl;
  dead = refl;
}

pub stays_both : (a b c : Standing) → StaysOn a b → StaysOn b c → StaysOn a c
stays_both a b c f g = record {
  goes_on = record {
    seen = prefix_then a.seen b.seen c.seen f.goes_on.seen g.goes_on.seen;
    acked = le_trans f.goes_on.acked g.goes_on.acked;
    told = le_trans f.goes_on.told g.goes_on.told;
  };
  own = g.own ∙ f.own;
  dead = g.dead ∙ f.dead;
}

-- who has seen all that was seen of one who has seen no less than another has seen all of that one
pub seen_all_both : (a b c : Standing) → HasSeenAll a b → HasSeenAll b c → HasSeenAll a c
seen_all_both a b c f g = record { seen = prefix_then a.seen b.seen c.seen f.seen g.seen; acked = le_trans f.acked g.acked }

pub stays_seen : (a b : Standing) → StaysOn a b → HasSeenAll a b
stays_seen a b f = record { seen = f.goes_on.seen; acked = f.goes_on.acked }

-- One session has met the first n of the others.
pub record MeetsFirst (one : Standing) (others : List Standing) (one' : Standing) (others' : List Standing) (n : ℕ) : Type 0 where
  pub beside : StaysOnBeside one others one' others'
  pub hears : (i : ℕ) (o : Standing) → i < n → slice_get others i ≡ Some o → HasSeenAll o one'
  pub tells : (i : ℕ) (o' : Standing) → i < n → slice_get others' i ≡ Some o' → HasSeenAll one o'
  pub left : (i : ℕ) → n ≤ i → slice_get others' i ≡ slice_get others i

pub meets_none : (one : Standing) (others : List Standing) → MeetsFirst one others one others 0
meets_none one others = record {
  beside = record {
    stays = same_stays one;
    stay = record {
      all = refl;
      each = λ i s s' at at'. subst (StaysOn s) (same_Some s s' (sym at ∙ at')) (same_stays s);
    };
  };
  hears = λ i o below at. absurd (omega (arith, below));
  tells = λ i o below at. absurd (omega (arith, below));
  left = λ i past. refl;
}

-- It has met them all.
pub meets_all : (one one' : Standing) (others others' : List Standing) (n : ℕ) → MeetsFirst one others one' others' n → length others ≤ n
    → MeetsEach one others one' others'
meets_all one one' others others' n m all = record {
  beside = m.beside;
  hears = λ i o at. m.hears i o (let within = slice_get_within others i o at in omega arith) at;
  tells = λ i o at. m.tells i o (let within = slice_get_within others' i o at in let same = m.beside.stay.all in omega arith) at;
}

-- what stands in a list of which one element was set
pub set_here : (xs : List Standing) (n : ℕ) (y : Standing) → n < length xs → slice_get (slice_set xs n y) n ≡ Some y
set_here [] n y within = absurd (omega (arith, within))
set_here (x ∷ xs) zero y within = refl
set_here (x ∷ xs) (suc n) y within = set_here xs n y (omega (arith, within))

pub set_else : (xs : List Standing) (n i : ℕ) (y : Standing) → i ≢ n → slice_get (slice_set xs n y) i ≡ slice_get xs i
set_else [] n i y other = refl
set_else (x ∷ xs) zero zero y other = absurd (other refl)
set_else (x ∷ xs) zero (suc i) y other = refl
set_else (x ∷ xs) (suc n) zero y other = refl
set_else (x ∷ xs) (suc n) (suc i) y other = set_else xs n i y (λ same. other (ap suc same))

-- The one session has met the next of the others, or there was no memory to meet.
module _ (one : Standing) (others : List Standing) (m : Standing) (ms : List Standing) (n : ℕ) (m' o o' d : Standing)
    (within : n < length ms) (there : o ≡ slice_index_or ms n d) (stays : StaysOn m m') (stays_too : StaysOn o o') where
  there_is : slice_get ms n ≡ Some o
  there_is = slice_get-get_or ms n d within ∙ ap Some (sym there)

  each_stays : StayOn others ms → (i : ℕ) (s s' : Standing) → slice_get others i ≡ Some s → slice_get (slice_set ms n o') i ≡ Some s'
      → StaysOn s s'
  each_stays stay i s s' at at' = ⊎_elim here else (cases_eq i n)
    where
      here : i ≡ n → StaysOn s s'
      here e =
          let old : slice_get others n ≡ Some s = subst (λ k. slice_get others k ≡ Some s) e at in
          let new : o' ≡ s' = same_Some o' s' (sym (set_here ms n o' within) ∙ subst (λ k. slice_get (slice_set ms n o') k ≡ Some s') e at') in
          subst (StaysOn s) new (stays_both s o o' (stay.each n s o old there_is) stays_too)

      else : i ≢ n → StaysOn s s'
      else other = stay.each i s s' at (sym (set_else ms n i o' other) ∙ at')

  pub beside_next : StaysOnBeside one others m ms → StaysOnBeside one others m' (slice_set ms n o')
  beside_next b = record {
    stays = stays_both one m m' b.stays stays;
    stay = record { all = length-set ms n o' ∙ b.stay.all; each = each_stays b.stay };
  }

  pub meets_next : MeetsFirst one others m ms n → HasSeenAll o m' → HasSeenAll m o' → MeetsFirst one others m' (slice_set ms n o') (n + 1)
  meets_next f hears tells = record {
    beside = beside_next f.beside;
    hears = λ i x below at. ⊎_elim
        (λ e. let old = subst (λ k. slice_get others k ≡ Some x) e at in
        subst (λ s. HasSeenAll s m') (same_Some o x (sym there_is ∙ f.left n (le_refl n) ∙ old)) hears)
        (λ other. seen_all_both x m m' (f.hears i x (omega arith) at) (stays_seen m m' stays))
        (cases_eq i n);
    tells = λ i x below at. ⊎_elim
        (λ e. let new = sym (set_here ms n o' within) ∙ subst (λ k. slice_get (slice_set ms n o') k ≡ Some x) e at in
        subst (HasSeenAll one) (same_Some o' x new) (seen_all_both one m o' (stays_seen one m f.beside.stays) tells))
        (λ other. f.tells i x (omega arith) (sym (set_else ms n i o' other) ∙ at))
        (cases_eq i n);
    left = λ i past. set_else ms n i o' (λ e. absurd (omega arith)) ∙ f.left i (omega arith);
  }
