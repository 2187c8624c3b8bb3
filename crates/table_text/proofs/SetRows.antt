-- Batches that are those of keys, from a place on.
use Rattle.std.proofs.Common.{◌≡◌, ℕ, zero, suc, ◌+◌, ◌<◌, ◌≤◌, List, [], ◌∷◌, length, map, drop, get_or, Option, Some, None, Bor, refl, sym, ap, subst, ◌∙◌, arith, ⊎_elim}
use Rattle.std.specs.Prelude.{Contains}
use Rattle.std.specs.List.{All}
use Rattle.std.specs.Ordering.{nat_cmp}
use Rattle.std.specs.Cmp.Lexicographic.{slice_cmp, nat_list_cmp_total}
use Rattle.std.proofs.lemmas.List.{drop_more}
use Rattle.std.proofs.lemmas.List.Elements.{All-nil, All-cons, All-head, All-drop}
use Rattle.wal_base.proofs.Laws.{within_cases, within_head, none_within}
use Rattle.batch_repr.specs.declared.batch.Batch.{Batch}
use Rattle.batch_repr.specs.Written.{written}
use Rattle.text_lines.specs.Store.{Held, IsKeyBefore, AscendsByKey}
use Rattle.table_text.specs.Tables.{IsHeldWithin, set_batch, set_batches}
use Rattle.table_text.specs.Reading.{IsSet, IsSetOfKey, IsBeforeLater, AreSets, IsFirstKey, AreSetsFrom}
use Rattle.table_text.proofs.Prefixes.{front_of, rest_of}
use Rattle.table_text.proofs.Rows.{sets_drop, drop-map}
use Rattle.table_text.proofs.OneTable.{same_held, same_live}

all_dropped : {A : Type 0} (n : ℕ) (xs : List A) → length xs ≤ n → drop n xs ≡ []
all_dropped zero [] short = refl
all_dropped zero (x ∷ xs) short = absurd (omega (arith, short))
all_dropped (suc n) [] short = refl
all_dropped (suc n) (x ∷ xs) short = all_dropped n xs (omega (arith, short))

-- behind the last batch there is no key
pub sets_none : (number : ℕ) (batches : List Batch) (records : List (List ℕ)) → length batches ≡ length records
    → AreSetsFrom (length batches) number batches records None
unfolding AscendsByKey set_batches
sets_none number batches records same = record {
  sets = record {
    live = [];
    ascends = tt;
    within = All-nil IsHeldWithin;
    batches_are = all_dropped (length batches) batches (omega arith);
    records_are = all_dropped (length batches) records (omega (arith, same));
  };
  first_is = tt;
}

-- a key that stands before the first of later keys stands before all of them
before_all : (held : Held) (key : Bor (List ℕ)) (later : Option (Bor (List ℕ))) (live : List Held) → held.key ≡ key.now → IsBeforeLater key.now later
    → IsFirstKey later live → AscendsByKey live → (other : Held) → Contains live other → IsKeyBefore held.key other.key
unfolding AscendsByKey
before_all held key later [] key_is before first ascends other has = absurd (none_within other has)
before_all held key None (next ∷ live) key_is before first ascends other has = absurd first
before_all held key (Some later) (next ∷ live) key_is before first ascends other has =
    let here : IsKeyBefore held.key next.key = ap (λ (k : List ℕ). slice_cmp nat_cmp k next.key) key_is
    ∙ ap (λ (k : List ℕ). slice_cmp nat_cmp key.now k) first ∙ before in
    ⊎_elim (λ (is : next ≡ other). subst (λ (h : Held). IsKeyBefore held.key h.key) is here)
    (λ (behind : Contains live other). nat_list_cmp_total.trans held.key next.key other.key here (ascends.0 other behind)) (within_cases next live other has)

-- ---- from a place on

ascends_drop : (at : ℕ) (live : List Held) → AscendsByKey live → AscendsByKey (drop at live)
unfolding AscendsByKey
ascends_drop zero live up = up
ascends_drop (suc at) [] up = tt
ascends_drop (suc at) (held ∷ live) up = ascends_drop at live up.1

sets_at : (number at : ℕ) (batches : List Batch) (records : List (List ℕ)) → AreSets number batches records
    → AreSets (number + at) (drop at batches) (drop at records)
sets_at number at batches records sets = record {
  live = drop at sets.live;
  ascends = ascends_drop at sets.live sets.ascends;
  within = All-drop IsHeldWithin at sets.live sets.within;
  batches_are = ap (drop at) sets.batches_are ∙ sets_drop number at sets.live;
  records_are = ap (drop at) sets.records_are ∙ drop-map written at (set_batches number sets.live) ∙ ap (map written) (sets_drop number at sets.live);
}

-- The first of the batches is the one of a key, and the others are those of later keys.
record HasFront (number : ℕ) (batch : Batch) (bytes : List ℕ) (batches : List Batch) : Type 0 where
  held : Held
  is : IsSet number batch bytes held
  later : List Held
  later_are : batches ≡ set_batches (suc number) later
  before : (other : Held) → Contains later other → IsKeyBefore held.key other.key

front_from : (number : ℕ) (batch : Batch) (batches : List Batch) (bytes : List ℕ) (records : List (List ℕ)) (live : List Held)
    → AscendsByKey live → All IsHeldWithin live → batch ∷ batches ≡ set_batches number live → bytes ∷ records ≡ map written (set_batches number live)
    → HasFront number batch bytes batches
unfolding AscendsByKey set_batches
front_from number batch batches bytes records [] up within are texts = absurd cc
front_from number batch batches bytes records (held ∷ live) up within are texts = record {
  held = held;
  is = record {
    within = All-head IsHeldWithin held live within;
    batch_is = front_of batch (set_batch number held) batches (set_batches (suc number) live) are;
    bytes_are = front_of bytes (written (set_batch number held)) records (map written (set_batches (suc number) live)) texts;
  };
  later = live;
  later_are = rest_of batch (set_batch number held) batches (set_batches (suc number) live) are;
  before = up.0;
}

-- what stands at a place, in front of the rest
at_place : {A : Type 0} (xs : List A) (at : ℕ) (x : A) → at < length xs → x ≡ get_or xs at x → drop at xs ≡ x ∷ drop (suc at) xs
at_place xs at x below is =
    let on : at + 1 ≡ suc at = omega arith in
    drop_more xs at x below ∙ (λ i. sym is i ∷ drop (on i) xs)

front_at : (number at : ℕ) (batches : List Batch) (records : List (List ℕ)) (batch : Batch) (bytes : List ℕ) → at < length batches → at < length records
    → batch ≡ get_or batches at batch → bytes ≡ get_or records at bytes → AreSets number batches records
    → HasFront (number + at) batch bytes (drop (suc at) batches)
front_at number at batches records batch bytes low short is are sets =
    let here : AreSets (number + at) (drop at batches) (drop at records) = sets_at number at batches records sets in
    front_from (number + at) batch (drop (suc at) batches) bytes (drop (suc at) records) here.live here.ascends here.within
    (sym (at_place batches at batch low is) ∙ here.batches_are) (sym (at_place records at bytes short are) ∙ here.records_are)

-- a batch that is not the one of a key is among none
pub no_key : (number at : ℕ) (batches : List Batch) (records : List (List ℕ)) (batch : Batch) (bytes : List ℕ) → at < length batches → at < length records
    → batch ≡ get_or batches at batch → bytes ≡ get_or records at bytes → ((held : Held) → ¬ IsSet (number + at) batch bytes held)
    → ¬ AreSets number batches records
no_key number at batches records batch bytes low short is are none sets =
    let front = front_at number at batches records batch bytes low short is are sets in
    none front.held front.is

-- the key of the first batch stands before the first of the later keys
before_first : (key : List ℕ) (later : Option (Bor (List ℕ))) (live : List Held) → IsFirstKey later live
    → ((other : Held) → Contains live other → IsKeyBefore key other.key) → IsBeforeLater key later
before_first key None live first before = tt
before_first key (Some k) [] first before = absurd first
before_first key (Some k) (next ∷ live) first before =
    subst (λ (k' : List ℕ). IsKeyBefore key k') first (before next (within_head next live))

-- a batch whose key does not stand before the later one is among none
pub not_before : (number at top : ℕ) (batches : List Batch) (records : List (List ℕ)) (batch : Batch) (bytes : List ℕ) (key : Bor (List ℕ)) (later : Option (Bor (List ℕ)))
    → at < length batches → at < length records → batch ≡ get_or batches at batch → bytes ≡ get_or records at bytes → top ≡ suc at
    → AreSetsFrom top number batches records later → IsSetOfKey (number + at) batch bytes key → ¬ IsBeforeLater key.now later → ¬ AreSets number batches records
not_before number at top batches records batch bytes key later low short is are on from has wrong sets =
    let front = front_at number at batches records batch bytes low short is are sets in
    let same : front.held ≡ has.held = same_held (number + at) (number + at) front.held has.held (sym front.is.batch_is ∙ has.is.batch_is) in
    let key_is : front.held.key ≡ key.now = ap (λ (h : Held). h.key) same ∙ has.key_is in
    let live : front.later ≡ from.sets.live = same_live (suc (number + at)) (number + top) front.later from.sets.live
    (sym front.later_are ∙ ap (λ (n : ℕ). drop n batches) (sym on) ∙ from.sets.batches_are) in
    wrong (before_first key.now later from.sets.live from.first_is
    (λ other there. subst (λ (k : List ℕ). IsKeyBefore k other.key) key_is
    (front.before other (subst (λ (l : List Held). Contains l other) (sym live) there))))

-- one key more in front of those from the place behind it
pub sets_more : (number at top : ℕ) (batches : List Batch) (records : List (List ℕ)) (batch : Batch) (bytes : List ℕ) (key : Bor (List ℕ)) (later : Option (Bor (List ℕ)))
    → at < length batches → at < length records → batch ≡ get_or batches at batch → bytes ≡ get_or records at bytes → top ≡ suc at
    → AreSetsFrom top number batches records later → IsSetOfKey (number + at) batch bytes key → IsBeforeLater key.now later
    → AreSetsFrom at number batches records (Some key)
unfolding AscendsByKey set_batches
sets_more number at top batches records batch bytes key later low short is are on from has before =
    let behind : AreSetsFrom (suc at) number batches records later = subst (λ (n : ℕ). AreSetsFrom n number batches records later) on from in
    let live : List Held = behind.sets.live in
    let place : number + suc at ≡ suc (number + at) = omega arith in
    let rest : drop (suc at) batches ≡ set_batches (suc (number + at)) live = behind.sets.batches_are ∙ ap (λ (n : ℕ). set_batches n live) place in
    let texts : drop (suc at) records ≡ map written (set_batches (suc (number + at)) live) = behind.sets.records_are
    ∙ ap (λ (n : ℕ). map written (set_batches n live)) place in
    record {
      sets = record {
        live = has.held ∷ live;
        ascends = (before_all has.held key later live has.key_is before behind.first_is behind.sets.ascends, behind.sets.ascends);
        within = All-cons IsHeldWithin has.held live has.is.within behind.sets.within;
        batches_are = at_place batches at batch low is ∙ (λ i. has.is.batch_is i ∷ rest i);
        records_are = at_place records at bytes short are ∙ (λ i. has.is.bytes_are i ∷ texts i);
      };
      first_is = has.key_is;
    }
