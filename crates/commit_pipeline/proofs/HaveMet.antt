-- A session that meets all others twice leaves each with what any of them had seen.
use Rattle.std.proofs.Common.{◌≡◌, ℕ, zero, suc, List, [], ◌∷◌, ◌++◌, length, take, drop, Some, slice_get, slice_index_or, append-nil, sym, ◌∙◌, ap, subst, arith}
use Rattle.std.proofs.lemmas.List.{take_all, drop_all}
use Rattle.std.proofs.lemmas.Option.{same_Some, slice_get_within, slice_get-get_or}
use Rattle.commit_pipeline.specs.declared.standing.Standing.{Standing}
use Rattle.commit_pipeline.specs.Meeting.{HasSeenAll, StaysOn, StayOn, StaysOnBeside, MeetsEach, ShareSeen}
use Rattle.commit_pipeline.proofs.MeetsEach.{stays_both, seen_all_both, stays_seen}

-- What holds of a list by its first and its rest, as they were and as they are, holds of the list that they were written back to.
pub over_written : (P : List Standing → List Standing → Type 0) (all : List Standing) (first : Standing) (rest : List Standing) (n : ℕ)
    (first' : Standing) (rest' : List Standing) → all ≡ first ∷ rest → n ≡ length all → length rest' ≡ length rest
    → P (first ∷ rest) (first' ∷ rest') → P all (take n (first' ∷ (rest' ++ drop (suc (length rest')) all)))
over_written P all first rest n first' rest' parts count same holds =
    let past : drop (suc (length rest')) all ≡ [] = ap (drop (suc (length rest'))) parts ∙ drop_all (length rest') rest (omega (arith, same)) in
    let whole : rest' ++ drop (suc (length rest')) all ≡ rest' = ap (λ l. rest' ++ l) past ∙ append-nil rest' in
    let back = ap (λ l. take n (first' ∷ l)) whole ∙ take_all n (first' ∷ rest') (omega (arith, count, ap length parts, same)) in
    subst (P all) (sym back) (subst (λ l. P l (first' ∷ rest')) (sym parts) holds)

-- What holds of a list holds of the whole list that it was written back to.
pub refilled : (P : List Standing → Type 0) (all new : List Standing) (n : ℕ) → n ≡ length all → length new ≡ length all → P new
    → P (take n (new ++ drop (length new) all))
refilled P all new n count same holds =
    let past : drop (length new) all ≡ [] = drop_all (length new) all (omega (arith, same)) in
    let whole : new ++ drop (length new) all ≡ new = ap (λ l. new ++ l) past ∙ append-nil new in
    subst P (sym (ap (take n) whole ∙ take_all n new (omega (arith, count, same)))) holds

-- All are what they were, and have seen no less.
pub stay_beside : (a : Standing) (xs : List Standing) (b : Standing) (ys : List Standing) → StaysOnBeside a xs b ys → StayOn (a ∷ xs) (b ∷ ys)
stay_beside a xs b ys t = record { all = ap suc t.stay.all; each = each }
  where
    each : (i : ℕ) (s s' : Standing) → slice_get (a ∷ xs) i ≡ Some s → slice_get (b ∷ ys) i ≡ Some s' → StaysOn s s'
    each zero s s' at at' = subst (StaysOn s) (same_Some b s' at') (subst (λ x. StaysOn x b) (same_Some a s at) t.stays)
    each (suc i) s s' at at' = t.stay.each i s s' at at'

-- So they are after another pass.
module _ (a : Standing) (xs : List Standing) (b : Standing) (ys : List Standing) (c : Standing) (zs : List Standing) where
  pub beside_both : StaysOnBeside a xs b ys → StaysOnBeside b ys c zs → StaysOnBeside a xs c zs
  beside_both f g = record {
    stays = stays_both a b c f.stays g.stays;
    stay = record { all = g.stay.all ∙ f.stay.all; each = each };
  }
    where
      each : (i : ℕ) (s s' : Standing) → slice_get xs i ≡ Some s → slice_get zs i ≡ Some s' → StaysOn s s'
      each i s s' at at' =
          let within = slice_get_within xs i s at in
          let there : slice_get ys i ≡ Some (slice_index_or ys i s) = slice_get-get_or ys i s (omega (arith, f.stay.all)) in
          stays_both s (slice_index_or ys i s) s' (f.stay.each i s _ at there) (g.stay.each i _ s' there at')

  heard : MeetsEach a xs b ys → (i : ℕ) (o : Standing) → slice_get (a ∷ xs) i ≡ Some o → HasSeenAll o b
  heard f zero o at = subst (λ x. HasSeenAll x b) (same_Some a o at) (stays_seen a b f.beside.stays)
  heard f (suc i) o at = f.hears i o at

  told : MeetsEach b ys c zs → (j : ℕ) (s' : Standing) → slice_get (c ∷ zs) j ≡ Some s' → HasSeenAll b s'
  told g zero s' at = subst (HasSeenAll b) (same_Some c s' at) (stays_seen b c g.beside.stays)
  told g (suc j) s' at = g.tells j s' at

  pub share_seen : MeetsEach a xs b ys → MeetsEach b ys c zs → ShareSeen (a ∷ xs) (c ∷ zs)
  share_seen f g = record {
    stay = stay_beside a xs c zs (beside_both f.beside g.beside);
    each_other = λ i j o s' at at'. seen_all_both o b s' (heard f i o at) (told g j s' at');
  }
