-- What stays where a fragment is moved within its segment.
use Rattle.std.proofs.Common.{◌≡◌, ℕ, zero, suc, ◌+◌, ◌-◌, ◌≤◌, ◌<◌, get_or, List, [], ◌∷◌, ◌++◌, length, take, drop, map, refl, sym, ap, ◌∙◌, arith}
use Rattle.std.specs.List.{All, slice_range, copy_within}
use Rattle.std.proofs.lemmas.List.{take-take, drop-drop, take_at, drop-append-le, length-take, length-drop, map-append, take-append-drop}
use Rattle.std.proofs.lemmas.List.Edits.{take-paste, drop-paste, length-paste}
use Rattle.std.proofs.lemmas.List.Elements.{All-nil, All-cons, All-head, All-tail}
use Rattle.std.proofs.lemmas.Slice.{between_is}
use Rattle.block_record.specs.declared.records.Rec.{Rec}
use Rattle.block_record.specs.declared.joining.Place.{Place}
use Rattle.block_record.specs.Joined.{rec_in, rec_after, spelled_in, EndsWithin, StandsBetween, AreApart, IsApart}

-- A part of what stays is the same.
pub kept_part : (old new : List ℕ) (limit from to : ℕ) → to ≤ limit → take limit new ≡ take limit old → slice_range new from to ≡ slice_range old from to
kept_part old new limit from to le e =
    let front : take to new ≡ take to old = sym (take-take to limit new le) ∙ ap (take to) e ∙ take-take to limit old le in
    between_is new from to ∙ ap (drop from) front ∙ sym (between_is old from to)

-- Records that lie in what stays are the same.
pub kept_records : (old new : List ℕ) (limit : ℕ) (places : List Place) → take limit new ≡ take limit old → All (EndsWithin limit) places
    → map (rec_in new) places ≡ map (rec_in old) places
kept_records old new limit [] e h = refl
kept_records old new limit (place ∷ places) e h =
    let below : EndsWithin limit place = All-head (EndsWithin limit) place places h in
    let one : rec_in new place ≡ rec_in old place = ap (λ (bytes : List ℕ). record { at = place.at; bytes = bytes })
    (kept_part old new limit place.from place.to below.below e) in
    rw (one, kept_records old new limit places e (All-tail (EndsWithin limit) place places h)) refl

-- Places between two lie between two that are further apart.
pub apart_wider : (start end low high : ℕ) (places : List Place) → low ≤ start → end ≤ high → AreApart start end places → AreApart low high places
apart_wider start end low high [] l h apart = omega arith
apart_wider start end low high (place ∷ places) l h (one, apart) = (
  record { above = omega (arith, one.above); order = one.order; below = omega (arith, one.below) },
  apart_wider place.to end place.to high places (omega arith) h apart,
)

-- With one place more after them.
pub apart_push : (start middle end : ℕ) (places : List Place) (last : Place) → AreApart start middle places → StandsBetween middle end last
    → AreApart start end (places ++ last ∷ [])
apart_push start middle end [] last apart stands =
    (record { above = omega (arith, apart, stands.above); order = stands.order; below = stands.below }, stands.below)
apart_push start middle end (place ∷ places) last (one, apart) stands = (
  record { above = one.above; order = one.order; below = omega (arith, one.below, stands.above, stands.order, stands.below) },
  apart_push place.to middle end places last apart stands,
)

-- Each of the places lies between the two.
pub all_stand : (start end low high : ℕ) (places : List Place) → low ≤ start → end ≤ high → AreApart start end places → All (StandsBetween low high) places
all_stand start end low high [] l h apart = All-nil (StandsBetween low high)
all_stand start end low high (place ∷ places) l h (one, apart) =
    All-cons (StandsBetween low high) place places (record { above = omega (arith, one.above); order = one.order; below = omega (arith, one.below) })
    (all_stand place.to end low high places (omega (arith, one.above, one.order)) h apart)

pub all_end : (start end : ℕ) (places : List Place) → AreApart start end places → All (EndsWithin end) places
all_end start end [] apart = All-nil (EndsWithin end)
all_end start end (place ∷ places) (one, apart) = All-cons (EndsWithin end) place places (record { order = one.order; below = one.below })
    (all_end place.to end places apart)

apart_ordered : (start end : ℕ) (places : List Place) → AreApart start end places → start ≤ end
apart_ordered start end [] apart = apart
apart_ordered start end (place ∷ places) (one, apart) = omega (arith, one.above, one.order, one.below)

-- Those before one of them end where it begins.
pub apart_front : (start end : ℕ) (places : List Place) (i : ℕ) (d : Place) → i < length places → AreApart start end places
    → AreApart start (get_or places i d).from (take i places)
apart_front start end [] i d l apart = elim l [ ]
apart_front start end (place ∷ places) zero d l (one, apart) = one.above
apart_front start end (place ∷ places) (suc i) d l (one, apart) =
    let rest : AreApart place.to (get_or places i d).from (take i places) = apart_front place.to end places i d (omega (arith, l)) apart in
    (record { above = one.above; order = one.order; below = apart_ordered place.to (get_or places i d).from (take i places) rest }, rest)

-- It and those after it begin no earlier than it.
pub apart_back : (start end : ℕ) (places : List Place) (i : ℕ) (d : Place) → i < length places → AreApart start end places
    → AreApart (get_or places i d).from end (drop i places)
apart_back start end [] i d l apart = elim l [ ]
apart_back start end (place ∷ places) zero d l (one, apart) = (record { above = omega arith; order = one.order; below = one.below }, apart)
apart_back start end (place ∷ places) (suc i) d l (one, apart) = apart_back place.to end places i d (omega (arith, l)) apart

-- What lies after a cut is the same in the bytes that were cut off there.
pub cut_part : (bytes : List ℕ) (cut from to : ℕ) → cut ≤ from → slice_range (drop cut bytes) (from - cut) (to - cut) ≡ slice_range bytes from to
cut_part bytes cut from to le =
    let same : to - cut - (from - cut) ≡ to - from = omega arith in
    let place : cut + (from - cut) ≡ from = omega arith in
    rw (same, drop-drop (from - cut) cut bytes, place) refl

pub cut_records : (bytes : List ℕ) (cut end : ℕ) (places : List Place) → All (StandsBetween cut end) places
    → map (rec_after cut (drop cut bytes)) places ≡ map (rec_in bytes) places
cut_records bytes cut end [] h = refl
cut_records bytes cut end (place ∷ places) h =
    let stands : StandsBetween cut end place = All-head (StandsBetween cut end) place places h in
    let one : rec_after cut (drop cut bytes) place ≡ rec_in bytes place = ap (λ (bytes : List ℕ). record { at = place.at; bytes = bytes })
    (cut_part bytes cut place.from place.to stands.above) in
    rw (one, cut_records bytes cut end places (All-tail (StandsBetween cut end) place places h)) refl

-- The bytes are cut off where one of the places begins, and the places before it.
pub record IsCut (bytes : List ℕ) (places : List Place) (i cut : ℕ) : Type 0 where
  pub within : cut ≤ length bytes
  pub front : AreApart 0 cut (take i places)
  pub back : All (StandsBetween cut (length bytes)) (drop i places)
  pub same : map (rec_in (take cut bytes)) (take i places) ++ map (rec_after cut (drop cut bytes)) (drop i places) ≡ map (rec_in bytes) places

pub is_cut : (bytes : List ℕ) (places : List Place) (i : ℕ) (d : Place) → i < length places → AreApart 0 (length bytes) places
    → IsCut bytes places i (get_or places i d).from
is_cut bytes places i d l apart =
    let cut : ℕ = (get_or places i d).from in
    let front : AreApart 0 cut (take i places) = apart_front 0 (length bytes) places i d l apart in
    let behind : AreApart cut (length bytes) (drop i places) = apart_back 0 (length bytes) places i d l apart in
    let back : All (StandsBetween cut (length bytes)) (drop i places) = all_stand cut (length bytes) cut (length bytes) (drop i places)
    (omega arith) (omega arith) behind in
    let kept : take cut (take cut bytes) ≡ take cut bytes = take-take cut cut bytes (omega arith) in
    record {
      within = apart_ordered cut (length bytes) (drop i places) behind;
      front = front;
      back = back;
      same =
          ap (λ (rs : List Rec). rs ++ map (rec_after cut (drop cut bytes)) (drop i places))
          (kept_records bytes (take cut bytes) cut (take i places) kept (all_end 0 cut (take i places) front))
          ∙ ap (λ (rs : List Rec). map (rec_in bytes) (take i places) ++ rs) (cut_records bytes cut (length bytes) (drop i places) back)
          ∙ sym (map-append (rec_in bytes) (take i places) (drop i places))
          ∙ ap (map (rec_in bytes)) (take-append-drop i places);
    }

-- A part was moved down within the bytes.
pub record MovedDown (old new : List ℕ) (from end to : ℕ) : Type 0 where
  pub len : length new ≡ length old
  pub before : take to new ≡ take to old
  pub moved : (start : ℕ) → start ≤ to → slice_range new start (to + (end - from)) ≡ slice_range old start to ++ slice_range old from end
  pub behind : drop end new ≡ drop end old

pub moved_down : (old new : List ℕ) (from end to : ℕ) → to ≤ from → from ≤ end → end ≤ length old → new ≡ copy_within old from end to
    → MovedDown old new from end to
moved_down old new from end to down order within e =
    let part : List ℕ = drop from old in
    let n : ℕ = end - from in
    let len : length part ≡ length old - from = length-drop from old in
    let front : take (to + n) new ≡ take to old ++ take n part = ap (take (to + n)) e ∙ take-paste old to part n (omega arith) (omega arith) in
    let back : drop (to + n) new ≡ drop (to + n) old = ap (drop (to + n)) e ∙ drop-paste old to part n (omega arith) (omega arith) in
    let room : length (take to old) ≡ to = omega (arith, length-take to old) in
    let rest : ℕ = from - to in
    let place : to + n + rest ≡ end = omega arith in
    record {
      len = ap length e ∙ length-paste old to part n (omega arith) (omega arith);
      before = sym (take-take to (to + n) new (omega arith)) ∙ ap (take to) front ∙ take_at (take to old) (take n part) to room;
      moved = λ start le.
          between_is new start (to + n) ∙ ap (drop start) front ∙ drop-append-le start (take to old) (take n part) (omega arith)
          ∙ ap (λ (t : List ℕ). t ++ take n part) (sym (between_is old start to));
      behind = ap (λ (k : ℕ). drop k new) (sym place) ∙ sym (drop-drop rest (to + n) new) ∙ ap (drop rest) back
          ∙ drop-drop rest (to + n) old ∙ ap (λ (k : ℕ). drop k old) place;
    }

-- The rest with a fragment more, which was moved after it.
pub extended_spells : (old new : List ℕ) (whole : List Place) (rest : Place) (ends_at from end : ℕ) → IsApart old whole rest → rest.to ≤ from
    → from ≤ end → end ≤ length old
    → new ≡ copy_within old from end rest.to
    → spelled_in new whole ends_at (record { at = rest.at; from = rest.from; to = rest.to + (end - from) })
    ≡ record {
      records = map (rec_in old) whole;
      ends_at = ends_at;
      rest = record { at = rest.at; bytes = slice_range old rest.from rest.to ++ slice_range old from end };
    }
extended_spells old new whole rest ends_at from end apart behind order within e =
    let m : MovedDown old new from end rest.to = moved_down old new from end rest.to behind order within e in
    let front : take rest.from new ≡ take rest.from old = sym (take-take rest.from rest.to new apart.within.order)
    ∙ ap (take rest.from) m.before ∙ take-take rest.from rest.to old apart.within.order in
    rw (kept_records old new rest.from whole front (all_end 0 rest.from whole apart.before), m.moved rest.from apart.within.order) refl
