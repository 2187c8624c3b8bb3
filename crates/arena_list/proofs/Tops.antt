-- The places of the entries that a search looks at first.
use Rattle.std.proofs.Common.{◌≡◌, ◌≢◌, ◌⊎◌, inl, inr, ℕ, zero, suc, ◌-◌, ◌<◌, ◌≤◌, IsTrue, List, [], ◌∷◌, ◌++◌, length, Contains, refl, sym, ap, ap₂, ◌∙◌, subst, arith, get_or, take, drop}
use Rattle.std.specs.List.{insert}
use Rattle.std.proofs.lemmas.Bool.{cases_lt}
use Rattle.std.proofs.lemmas.List.{take-append-drop, take-map, drop-map, map-append, get_or-map, length-map}
use Rattle.std.proofs.lemmas.List.Elements.{Contains-get_or, Contains-append_left, Contains-append_right, Contains-append_cases}
use Rattle.wal_base.proofs.Laws.{none_within, within_head, within_tail, within_cases}
use Rattle.arena_list.specs.declared.node.TheConstants.{LEVELS, GUIDE_HEIGHT}
use Rattle.arena_list.specs.declared.node.Node.{Node}
use Rattle.arena_list.specs.declared.guide.Guide.{Guide}
use Rattle.arena_list.specs.Versions.{KeyVersion, GoesBefore, Precedes, IsAt}
use Rattle.arena_list.specs.Nodes.{version_at, places_on, AscendPlaces, IsLinked}
use Rattle.arena_list.specs.Steps.{MayGoOn, MayStop}
use Rattle.arena_list.specs.Tops.{places_of, TellsVersion, IsTop, IsTopCut, IsGuideTo, TakesFromTop}
use Rattle.arena_list.proofs.Chains.{amid_cases}
use Rattle.arena_list.proofs.Orders.{before_along, never_before_itself, after_others}
use Rattle.arena_list.proofs.Levels.{mapped, unmapped, ascend_same, ascend_across, ascend_back, ascend_in, ascend_out, within_lowest}

-- ---- what stands before an index, and from it on

pub before_there : {X : Type 0} (xs : List X) (index k : ℕ) (default : X) → k < index → index ≤ length xs → Contains (take index xs) (get_or xs k default)
before_there [] index k default less within = absurd (omega (arith, less, within))
before_there (x ∷ xs) zero k default less within = absurd (omega (arith, less))
before_there (x ∷ xs) (suc index) zero default less within = within_head x (take index xs)
before_there (x ∷ xs) (suc index) (suc k) default less within =
    within_tail x (take index xs) (get_or xs k default) (before_there xs index k default (omega (arith, less)) (omega (arith, within)))

pub from_there : (xs : List ℕ) (index : ℕ) → index < length xs → Contains (drop index xs) (get_or xs index 0)
from_there [] index less = absurd (omega (arith, less))
from_there (x ∷ xs) zero less = within_head x xs
from_there (x ∷ xs) (suc index) less = from_there xs index (omega (arith, less))

before_at : (xs : List ℕ) (index p : ℕ) → Contains (take index xs) p → (k : ℕ) × (k < index) × (k < length xs) × (get_or xs k 0 ≡ p)
before_at [] zero p h = absurd (none_within p h)
before_at [] (suc index) p h = absurd (none_within p h)
before_at (x ∷ xs) zero p h = absurd (none_within p h)
before_at (x ∷ xs) (suc index) p h = elim (within_cases x (take index xs) p h) [
  | inl is ↦ (0, omega arith, omega arith, is)
  | inr rest ↦ let at = before_at xs index p rest in (suc at.0, omega (arith, at.1), omega (arith, at.2), at.3)
]

from_at : (xs : List ℕ) (index p : ℕ) → Contains (drop index xs) p → (k : ℕ) × (index ≤ k) × (k < length xs) × (get_or xs k 0 ≡ p)
from_at [] zero p h = absurd (none_within p h)
from_at [] (suc index) p h = absurd (none_within p h)
from_at (x ∷ xs) zero p h = elim (within_cases x xs p h) [
  | inl is ↦ (0, omega arith, omega arith, is)
  | inr rest ↦ let at = from_at xs 0 p rest in (suc at.0, omega arith, omega (arith, at.2), at.3)
]
from_at (x ∷ xs) (suc index) p h = let at = from_at xs index p h in (suc at.0, omega (arith, at.1), omega (arith, at.2), at.3)

-- ---- the places of entries

pub place_at : (top : List Guide) (index : ℕ) (default : Guide) → index < length top
    → get_or (places_of top) index 0 ≡ (get_or top index default).place
place_at top index default less = get_or-map (λ guide. guide.place) top index default 0 less

pub places_count : (top : List Guide) → length (places_of top) ≡ length top
places_count top = length-map top (λ guide. guide.place)

pub place_of : (top : List Guide) (guide : Guide) → Contains top guide → Contains (places_of top) guide.place
place_of top guide h = mapped (λ g. g.place) top guide h

-- an entry's node is there
pub guide_there : {shared : ℕ} (nodes : List Node) (top : List Guide) → IsLinked nodes → IsTop shared nodes top → (guide : Guide) → Contains top guide
    → guide.place < length nodes
guide_there nodes top linked is guide h =
    ((linked.levels (GUIDE_HEIGHT - 1) (omega arith)).held guide.place (is.places.linked guide.place (place_of top guide h))).0

pub guide_lowest : {shared : ℕ} (nodes : List Node) (top : List Guide) → IsLinked nodes → IsTop shared nodes top → (guide : Guide) → Contains top guide
    → Contains (places_on nodes 0) guide.place
guide_lowest nodes top linked is guide h =
    within_lowest nodes linked (GUIDE_HEIGHT - 1) guide.place (omega arith) (is.places.linked guide.place (place_of top guide h))

places_parted : (index : ℕ) (top : List Guide) → places_of (take index top) ++ places_of (drop index top) ≡ places_of top
places_parted index top =
    sym (map-append (λ guide. guide.place) (take index top) (drop index top))
    ∙ ap places_of (take-append-drop index top)

-- ---- a top that is cut

ascend_at : (nodes : List Node) (xs : List ℕ) (i j d : ℕ) → AscendPlaces nodes xs → i < j → j < length xs
    → Precedes (version_at nodes (get_or xs i d)) (version_at nodes (get_or xs j d))
ascend_at nodes [] i j d a less within = absurd (omega (arith, within))
ascend_at nodes (x ∷ xs) i zero d a less within = absurd (omega (arith, less))
ascend_at nodes (x ∷ xs) zero (suc j) d a less within = a.0 (get_or xs j d) (Contains-get_or xs j d (omega (arith, within)))
ascend_at nodes (x ∷ xs) (suc i) (suc j) d a less within = ascend_at nodes xs i j d a.1 (omega (arith, less)) (omega (arith, within))

-- where the place before an index goes before, and the one at it does not, the places are cut there
pub top_cut : (nodes : List Node) (places : List ℕ) (key : List ℕ) (number index : ℕ) → AscendPlaces nodes places → index ≤ length places
    → (0 < index → GoesBefore (version_at nodes (get_or places (index - 1) 0)) key number)
    → (index < length places → GoesBefore (version_at nodes (get_or places index 0)) key number → ⊥) → IsTopCut nodes places key number index
top_cut nodes places key number index ascends within below above = record {
  within = within;
  early = λ p h. let at = before_at places index p h in
      subst (λ (q : ℕ). GoesBefore (version_at nodes q) key number) at.3 (early at.0 at.1 at.2);
  late = λ p h g. let at = from_at places index p h in
      late at.0 at.1 at.2 (subst (λ (q : ℕ). GoesBefore (version_at nodes q) key number) (sym at.3) g);
}
  where
    early : (k : ℕ) → k < index → k < length places → GoesBefore (version_at nodes (get_or places k 0)) key number
    early k less there = elim (cases_lt k (index - 1)) [
      | inl first ↦ before_along (version_at nodes (get_or places k 0)) (version_at nodes (get_or places (index - 1) 0)) key number
          (ascend_at nodes places k (index - 1) 0 ascends first (omega (arith, less, within))) (below (omega (arith, less)))
      | inr last ↦
          let same : index - 1 ≡ k = omega (arith, less, last) in
          subst (λ (j : ℕ). GoesBefore (version_at nodes (get_or places j 0)) key number) same (below (omega (arith, less)))
    ]

    late : (k : ℕ) → index ≤ k → k < length places → GoesBefore (version_at nodes (get_or places k 0)) key number → ⊥
    late k from there g = elim (cases_lt index k) [
      | inl first ↦ above (omega (arith, first, there))
          (before_along (version_at nodes (get_or places index 0)) (version_at nodes (get_or places k 0)) key number
          (ascend_at nodes places index k 0 ascends first there) g)
      | inr last ↦
          let same : k ≡ index = omega (arith, from, last) in
          above (omega (arith, from, last, there)) (subst (λ (j : ℕ). GoesBefore (version_at nodes (get_or places j 0)) key number) same g)
    ]

module _ {shared : ℕ} (nodes : List Node) (top : List Guide) (is : IsTop shared nodes top) (key : List ℕ) (number index : ℕ)
    (cut : IsTopCut nodes (places_of top) key number index) where
  in_top : (x : ℕ) → Contains (take index (places_of top)) x → Contains (places_of top) x
  in_top x h = subst (λ (l : List ℕ). Contains l x) (take-append-drop index (places_of top))
      (Contains-append_left (take index (places_of top)) (drop index (places_of top)) x h)

  pub top_last : (last : ℕ) → (last ≡ 0) ⊎ Contains (take index (places_of top)) last → MayGoOn nodes (GUIDE_HEIGHT - 1) key number last
  top_last last (inl none) = inl none
  top_last last (inr h) = inr (is.places.linked last (in_top last h), cut.early last h)

  pub top_next : (next : ℕ) → (next ≡ 0) ⊎ Contains (drop index (places_of top)) next → MayStop nodes key number next
  top_next next (inl none) = inl none
  top_next next (inr h) = inr (cut.late next h)

  -- a tall entry's place is linked at the highest level
  pub tall_last : (last : ℕ) → (last ≡ 0) ⊎ ((guide : Guide) × Contains (take index top) guide × IsTrue guide.is_tall × (guide.place ≡ last))
      → MayGoOn nodes (LEVELS - 1) key number last
  tall_last last (inl none) = inl none
  tall_last last (inr (guide, h, tall, at)) =
      let there : Contains top guide =
      subst (λ (l : List Guide). Contains l guide) (take-append-drop index top) (Contains-append_left (take index top) (drop index top) guide h) in
      let front : Contains (take index (places_of top)) guide.place =
      subst (λ (l : List ℕ). Contains l guide.place) (sym (take-map (λ g. g.place) index top)) (place_of (take index top) guide h) in
      subst (MayGoOn nodes (LEVELS - 1) key number) at (inr (is.tall guide there tall, cut.early guide.place front))

-- ---- a top after a step

-- A place has its version still, and is linked at each level where it was.
abbrev pub Stays : List Node → List Node → ℕ → Type 0
Stays old new place =
    (version_at new place ≡ version_at old place)
    × ((level : ℕ) → level < LEVELS → Contains (places_on old level) place → Contains (places_on new level) place)

pub no_top : (shared : ℕ) (nodes : List Node) → IsTop shared nodes []
no_top shared nodes = record {
  places = record { linked = λ x h. absurd (none_within x h); ascends = tt };
  tells = λ guide h. absurd (none_within guide h);
  tall = λ guide h. absurd (none_within guide h);
}

drop_first : (xs : List ℕ) (index : ℕ) → index < length xs → drop index xs ≡ get_or xs index 0 ∷ drop (suc index) xs
drop_first [] index less = absurd (omega (arith, less))
drop_first (x ∷ xs) zero less = refl
drop_first (x ∷ xs) (suc index) less = drop_first xs index (omega (arith, less))

module _ {shared : ℕ} (old new : List Node) (top : List Guide) (is : IsTop shared old top) where
  -- some of the entries, whose places stay
  pub top_some : (left : List Guide) → AscendPlaces old (places_of left) → ((guide : Guide) → Contains left guide → Contains top guide)
      → ((guide : Guide) → Contains left guide → Stays old new guide.place) → IsTop shared new left
  top_some left ascends some stays = record {
    places = record {
      linked = λ x h.
          let m = unmapped (λ guide. guide.place) left x h in
          subst (Contains (places_on new (GUIDE_HEIGHT - 1))) m.2
          ((stays m.0 m.1).1 (GUIDE_HEIGHT - 1) (omega arith) (is.places.linked m.0.place (place_of top m.0 (some m.0 m.1))));
      ascends = ascend_same old new (places_of left)
          (λ x h.
          let m = unmapped (λ guide. guide.place) left x h in
          subst (λ (p : ℕ). version_at new p ≡ version_at old p) m.2 (stays m.0 m.1).0) ascends;
    };
    tells = λ guide h. subst (TellsVersion shared guide) (sym (stays guide h).0) (is.tells guide (some guide h));
    tall = λ guide h tall. (stays guide h).1 (LEVELS - 1) (omega arith) (is.tall guide (some guide h) tall);
  }

  pub top_kept : ((x : ℕ) → Contains (places_of top) x → Stays old new x) → IsTop shared new top
  top_kept stays = top_some top is.places.ascends (λ guide h. h) (λ guide h. stays guide.place (place_of top guide h))

  in_either : (index : ℕ) (guide : Guide) → Contains (take index top ++ drop index top) guide → Contains top guide
  in_either index guide h = subst (λ (l : List Guide). Contains l guide) (take-append-drop index top) h

  -- an entry more
  pub top_more : (place height : ℕ) (version : KeyVersion) (index : ℕ) (guide : Guide) → IsTopCut old (places_of top) version.key version.number index
      → ((x : ℕ) → Contains (places_of top) x → Stays old new x)
      → version_at new place ≡ version → ((level : ℕ) → level < LEVELS → level < height → Contains (places_on new level) place)
      → ((x : ℕ) → Contains (places_of top) x → IsAt (version_at old x) version.key version.number → ⊥)
      → GUIDE_HEIGHT ≤ height → IsGuideTo shared new place height guide → IsTop shared new (insert top index guide)
  top_more place height version index guide cut stays at here apart high to = record {
    places = record {
      linked = λ x h.
          let m = unmapped (λ g. g.place) (insert top index guide) x h in
          subst (Contains (places_on new (GUIDE_HEIGHT - 1))) m.2 (elim (amid_cases (take index top) (drop index top) guide m.0 m.1) [
            | inl same ↦ subst (λ (g : Guide). Contains (places_on new (GUIDE_HEIGHT - 1)) g.place) same
                (subst (Contains (places_on new (GUIDE_HEIGHT - 1))) (sym to.at) (here (GUIDE_HEIGHT - 1) (omega arith) (omega (arith, high))))
            | inr was ↦ (was_kept m.0 was).1 (GUIDE_HEIGHT - 1) (omega arith) (is.places.linked m.0.place (place_of top m.0 (in_either index m.0 was)))
          ]);
      ascends = subst (AscendPlaces new) (sym (map-append (λ g. g.place) (take index top) (guide ∷ drop index top)))
          (ascend_in new (places_of (take index top)) (places_of (drop index top)) guide.place both
          (λ x h. before x h) (λ x h. after x h));
    };
    tells = λ g h. elim (amid_cases (take index top) (drop index top) guide g h) [
      | inl same ↦ subst (λ (e : Guide). TellsVersion shared e (version_at new e.place)) same
          (subst (λ (p : ℕ). TellsVersion shared guide (version_at new p)) (sym to.at) to.tells)
      | inr was ↦ subst (TellsVersion shared g) (sym (was_kept g was).0) (is.tells g (in_either index g was))
    ];
    tall = λ g h tall. elim (amid_cases (take index top) (drop index top) guide g h) [
      | inl same ↦ subst (λ (e : Guide). Contains (places_on new (LEVELS - 1)) e.place) same
          (subst (Contains (places_on new (LEVELS - 1))) (sym to.at)
          (here (LEVELS - 1) (omega arith) (omega (arith, to.tall (subst (λ (e : Guide). IsTrue e.is_tall) (sym same) tall)))))
      | inr was ↦ (was_kept g was).1 (LEVELS - 1) (omega arith) (is.tall g (in_either index g was) tall)
    ];
  }
    where
      was_kept : (g : Guide) → Contains (take index top ++ drop index top) g → Stays old new g.place
      was_kept g h = stays g.place (place_of top g (in_either index g h))

      both : AscendPlaces new (places_of (take index top) ++ places_of (drop index top))
      both = subst (AscendPlaces new) (sym (places_parted index top)) (ascend_same old new (places_of top) (λ x h. (stays x h).0) is.places.ascends)

      in_front : (x : ℕ) → Contains (places_of (take index top)) x → Contains (places_of top) x
      in_front x h = subst (λ (l : List ℕ). Contains l x) (places_parted index top)
          (Contains-append_left (places_of (take index top)) (places_of (drop index top)) x h)

      in_back : (x : ℕ) → Contains (places_of (drop index top)) x → Contains (places_of top) x
      in_back x h = subst (λ (l : List ℕ). Contains l x) (places_parted index top)
          (Contains-append_right (places_of (take index top)) (places_of (drop index top)) x h)

      is_new : version_at new guide.place ≡ version
      is_new = ap (version_at new) to.at ∙ at

      before : (x : ℕ) → Contains (places_of (take index top)) x → Precedes (version_at new x) (version_at new guide.place)
      before x h =
          subst (λ (v : KeyVersion). Precedes v (version_at new guide.place)) (sym (stays x (in_front x h)).0)
          (subst (λ (v : KeyVersion). Precedes (version_at old x) v) (sym is_new)
          (cut.early x (subst (λ (l : List ℕ). Contains l x) (sym (take-map (λ g. g.place) index top)) h)))

      after : (x : ℕ) → Contains (places_of (drop index top)) x → Precedes (version_at new guide.place) (version_at new x)
      after x h =
          subst (λ (v : KeyVersion). Precedes (version_at new guide.place) v) (sym (stays x (in_back x h)).0)
          (subst (λ (v : KeyVersion). Precedes v (version_at old x)) (sym is_new)
          (after_others (version_at old x) version
          (cut.late x (subst (λ (l : List ℕ). Contains l x) (sym (drop-map (λ g. g.place) index top)) h)) (apart x (in_back x h))))

  -- the entry of a place less
  pub top_less : (place index : ℕ) (left : List Guide) → IsTopCut old (places_of top) (version_at old place).key (version_at old place).number index
      → TakesFromTop top index place left
      → ((x : ℕ) → Contains (places_of top) x → x ≢ place → Stays old new x) → IsTop shared new left
  top_less place index left cut (inl (less, at, gone)) stays = subst (IsTop shared new) (sym gone)
      (top_some (take index top ++ drop (suc index) top)
      (subst (AscendPlaces old) (sym (map-append (λ g. g.place) (take index top) (drop (suc index) top)))
      (ascend_out old (places_of (take index top)) (places_of (drop (suc index) top)) place whole))
      (λ g h. was g h) (λ g h. stays g.place (place_of top g (was g h)) (apart g.place (split g h))))
    where
      here : drop index (places_of top) ≡ place ∷ places_of (drop (suc index) top)
      here =
          drop_first (places_of top) index (omega (arith, less, places_count top))
          ∙ ap₂ ◌∷◌ at (drop-map (λ g. g.place) (suc index) top)

      whole : AscendPlaces old (places_of (take index top) ++ place ∷ places_of (drop (suc index) top))
      whole = subst (λ (l : List ℕ). AscendPlaces old (places_of (take index top) ++ l)) (sym (drop-map (λ g. g.place) index top) ∙ here)
          (subst (AscendPlaces old) (sym (places_parted index top)) is.places.ascends)

      skipped : (k : ℕ) (xs : List Guide) (g : Guide) → Contains (drop (suc k) xs) g → Contains (drop k xs) g
      skipped k [] g h = absurd (none_within g h)
      skipped zero (x ∷ xs) g h = within_tail x xs g h
      skipped (suc k) (x ∷ xs) g h = skipped k xs g h

      was : (g : Guide) → Contains (take index top ++ drop (suc index) top) g → Contains top g
      was g h = in_either index g (elim (Contains-append_cases (take index top) (drop (suc index) top) g h) [
        | inl front ↦ Contains-append_left (take index top) (drop index top) g front
        | inr back ↦ Contains-append_right (take index top) (drop index top) g (skipped index top g back)
      ])

      split : (g : Guide) → Contains (take index top ++ drop (suc index) top) g
          → Contains (places_of (take index top) ++ places_of (drop (suc index) top)) g.place
      split g h = subst (λ (l : List ℕ). Contains l g.place) (map-append (λ e. e.place) (take index top) (drop (suc index) top))
          (place_of (take index top ++ drop (suc index) top) g h)

      itself : (x : ℕ) → Precedes (version_at old x) (version_at old place) ⊎ Precedes (version_at old place) (version_at old x) → x ≢ place
      itself x (inl p) e =
          never_before_itself (version_at old place) (subst (λ (q : ℕ). Precedes (version_at old q) (version_at old place)) e p)
      itself x (inr p) e =
          never_before_itself (version_at old place) (subst (λ (q : ℕ). Precedes (version_at old place) (version_at old q)) e p)

      apart : (x : ℕ) → Contains (places_of (take index top) ++ places_of (drop (suc index) top)) x → x ≢ place
      apart x h = elim (Contains-append_cases (places_of (take index top)) (places_of (drop (suc index) top)) x h) [
        | inl early ↦ itself x (inl (ascend_across old (places_of (take index top)) (place ∷ places_of (drop (suc index) top)) x place whole early
            (within_head place (places_of (drop (suc index) top)))))
        | inr late ↦ itself x (inr ((ascend_back old (places_of (take index top)) (place ∷ places_of (drop (suc index) top)) whole).0 x late))
      ]
  top_less place index left cut (inr (other, same)) stays = subst (IsTop shared new) (sym same) (top_kept (λ x h. stays x h (apart x h)))
    where
      none : Contains (places_of top) place → ⊥
      none h = elim (Contains-append_cases (take index (places_of top)) (drop index (places_of top)) place
          (subst (λ (l : List ℕ). Contains l place) (sym (take-append-drop index (places_of top))) h)) [
            | inl early ↦ never_before_itself (version_at old place) (cut.early place early)
            | inr late ↦
                let at = from_at (places_of top) index place late in
                let less : index < length (places_of top) = omega (arith, at.1, at.2) in
                elim (cases_lt index at.0) [
                  | inl more ↦ cut.late (get_or (places_of top) index 0) (from_there (places_of top) index less)
                      (subst (λ (q : ℕ). Precedes (version_at old (get_or (places_of top) index 0)) (version_at old q)) at.3
                      (ascend_at old (places_of top) index at.0 0 is.places.ascends more at.2))
                  | inr no_more ↦
                      let here : index ≡ at.0 = omega (arith, at.1, no_more) in
                      other (omega (arith, less, places_count top)) (ap (λ (k : ℕ). get_or (places_of top) k 0) here ∙ at.3)
                ]
          ]

      apart : (x : ℕ) → Contains (places_of top) x → x ≢ place
      apart x h e = none (subst (Contains (places_of top)) e h)
