-- What is left to give of versions that ascend is just their scan.
use Rattle.std.proofs.Common.{◌≡◌, ◌⊎◌, ◌↔◌, inl, inr, ℕ, ◌<◌, ◌≤◌, nat_lt, not, true, false, List, [], ◌∷◌, Option, Some, None, Contains, nat_cmp, refl, sym, ap, ◌∙◌, subst, arith}
use Rattle.std.specs.Ordering.{ordering_then}
use Rattle.std.specs.Str.{bytes_eq}
use Rattle.std.specs.Cmp.Lexicographic.{slice_cmp}
use Rattle.std.proofs.lemmas.Slice.Eq.{bytes_eq-Decides}
use Rattle.std.proofs.lemmas.Bool.{cases_Bool, both_ways, or_cases, or_parts, not-true, not-false, ltb-true, ltb-false}
use Rattle.std.proofs.lemmas.List.Elements.{Contains-append_left, Contains-append_cases}
use Rattle.wal_base.proofs.Laws.{none_within, within_head, within_tail, within_cases}
use Rattle.arena_list.specs.Versions.{KeyVersion, AscendVersions, Precedes}
use Rattle.arena_list.specs.Newest.{IsNewestOfKey}
use Rattle.arena_list.proofs.Laws.{before_along, before_cases, never_before_itself}
use Rattle.range_cover.specs.declared.mark.RangeMark.{RangeMark}
use Rattle.range_cover.specs.Marks.{StandsBefore}
use Rattle.snapshot_view.specs.Theorems.{ScansAreExact}
use Rattle.snapshot_view.specs.Scans.{KeyValue, AscendByKey, IsUnhidden, ShowsValue, is_met, is_passed, open_value, with_pair, pairs_left}
use Rattle.snapshot_view.proofs.Hiding.{open_value_shows, shows_open_value}
use Rattle.snapshot_view.proofs.Left.{left_none, left_passed, left_here}
use Rattle.snapshot_view.proofs.Newer.{tail_ascends, head_precedes, back_ascends, newest_first, newest_tail, newest_behind, newest_none_behind, newest_back, newest_whole}

-- the pair of a key and a value
abbrev pub pair_of : List ℕ → List ℕ → KeyValue
pair_of key value = record { key = key; value = value }

-- ---- the key that was met

same_key : (met key : List ℕ) → bytes_eq met key ≡ true → met ≡ key
same_key met key e = (bytes_eq-Decides met key).0 e

no_key : (met key : List ℕ) → bytes_eq met key ≡ false → met ≡ key → ⊥
no_key met key e same = both_ways (bytes_eq met key) e ((bytes_eq-Decides met key).1 same)

decide : (met key : List ℕ) → (met ≡ key) ⊎ (bytes_eq met key ≡ false)
decide met key = elim (cases_Bool (bytes_eq met key)) [
  | inl e ↦ inl (same_key met key e)
  | inr e ↦ inr e
]

-- a version that is passed over is not below the number, or has the key that was met
passed : (at : ℕ) (met : Option (List ℕ)) (w : KeyVersion) → is_passed at met w ≡ true → (at ≤ w.number) ⊎ (is_met met w.key ≡ true)
passed at met w e = elim (or_cases (not (nat_lt w.number at)) (is_met met w.key) e) [
  | inl late ↦ inl (ltb-false w.number at (not-true (nat_lt w.number at) late))
  | inr is ↦ inr is
]

here : (at : ℕ) (met : Option (List ℕ)) (w : KeyVersion) → is_passed at met w ≡ false → (w.number < at) × (is_met met w.key ≡ false)
here at met w e =
    let parts = or_parts (not (nat_lt w.number at)) (is_met met w.key) e in
    (ltb-true w.number at (not-false (nat_lt w.number at) parts.0), parts.1)

-- Each key is the one that was met, or behind it.
abbrev pub Ahead : Option (List ℕ) → List KeyVersion → Type 0
Ahead None versions = Unit {0}
Ahead (Some met) versions = (version : KeyVersion) → Contains versions version → (met ≡ version.key) ⊎ StandsBefore met version.key

ahead_tail : (met : Option (List ℕ)) (w : KeyVersion) (ws : List KeyVersion) → Ahead met (w ∷ ws) → Ahead met ws
ahead_tail None w ws ahead = tt
ahead_tail (Some met) w ws ahead = λ v h. ahead v (within_tail w ws v h)

ahead_here : (w : KeyVersion) (ws : List KeyVersion) → AscendVersions (w ∷ ws) → Ahead (Some w.key) ws
ahead_here w ws up v h = elim (before_cases w v.key v.number (head_precedes w ws up v h)) [
  | inl less ↦ inr less
  | inr same ↦ inl same.0
]

-- where a version's key is not the one that was met, no later one's is
unmet : (met : Option (List ℕ)) (w v : KeyVersion) (ws : List KeyVersion) → AscendVersions (w ∷ ws) → Ahead met (w ∷ ws) → is_met met w.key ≡ false
    → Contains ws v → is_met met v.key ≡ false
unmet None w v ws up ahead e h = refl
unmet (Some met) w v ws up ahead e h = elim (decide met v.key) [
  | inr apart ↦ apart
  | inl same ↦ elim (ahead w (within_head w ws)) [
    | inl is ↦ absurd (no_key met w.key e is)
    | inr less ↦ absurd (never_before_itself v (before_along v w v.key v.number (v_first less same) (head_precedes w ws up v h)))
  ]
]
  where
    v_first : StandsBefore met w.key → met ≡ v.key → Precedes v w
    v_first less same =
        ap (λ (o : _). ordering_then o (nat_cmp w.number v.number)) (ap (λ (k : List ℕ). slice_cmp nat_cmp k w.key) (sym same) ∙ less)

-- ---- what a key and its value in front add

along : (pair : KeyValue) (one other : List KeyValue) → one ≡ other → Contains one pair → Contains other pair
along pair one other is = subst (λ (l : List KeyValue). Contains l pair) is

pair_cases : (key of : List ℕ) (has : Option (List ℕ)) (pairs : List KeyValue) (value : List ℕ)
    → Contains (with_pair key has pairs) (pair_of of value) → ((key ≡ of) × (has ≡ Some value)) ⊎ Contains pairs (pair_of of value)
pair_cases key of None pairs value h = inr h
pair_cases key of (Some bytes) pairs value h = elim (within_cases (pair_of key bytes) pairs (pair_of of value) h) [
  | inl is ↦ inl (ap (λ (p : KeyValue). p.key) is, ap (λ (p : KeyValue). Some p.value) is)
  | inr later ↦ inr later
]

pair_later : (key : List ℕ) (has : Option (List ℕ)) (pairs : List KeyValue) (pair : KeyValue) → Contains pairs pair
    → Contains (with_pair key has pairs) pair
pair_later key None pairs pair h = h
pair_later key (Some bytes) pairs pair h = within_tail (pair_of key bytes) pairs pair h

pair_first : (key of : List ℕ) (has : Option (List ℕ)) (pairs : List KeyValue) (value : List ℕ) → key ≡ of → has ≡ Some value
    → Contains (with_pair key has pairs) (pair_of of value)
pair_first key of has pairs value same is =
    subst (λ (o : Option (List ℕ)). Contains (with_pair key o pairs) (pair_of of value)) (sym is)
    (subst (λ (k : List ℕ). Contains (pair_of key value ∷ pairs) (pair_of k value)) same (within_head (pair_of key value) pairs))

module _ (at : ℕ) (ranges : List RangeMark) where
  -- a version shows its value among other versions too, where it is its key's newest one there
  shows_among : (versions others : List KeyVersion) (key value : List ℕ) → (shows : ShowsValue versions ranges at key value)
      → IsNewestOfKey others at shows.0 → ShowsValue others ranges at key value
  shows_among versions others key value (version, newest, about, has, open_) among = (version, among, about, has, open_)

  -- a version more in front that is passed over changes nothing for keys that are not met
  over : (met : Option (List ℕ)) (w : KeyVersion) (ws : List KeyVersion) (key value : List ℕ) → is_passed at met w ≡ true → is_met met key ≡ false
      → ShowsValue ws ranges at key value ↔ ShowsValue (w ∷ ws) ranges at key value
  over met w ws key value e apart = (
    λ s. shows_among ws (w ∷ ws) key value s (newest_behind at w ws s.0 s.1 (λ same. high (same ∙ s.2))),
    λ s. elim (within_cases w ws s.0 s.1.stands) [
      | inl is ↦
          let n : w.number ≡ s.0.number = ap (λ (v : KeyVersion). v.number) is in
          absurd (omega (arith, n, s.1.under, high (ap (λ (v : KeyVersion). v.key) is ∙ s.2)))
      | inr later ↦ shows_among (w ∷ ws) ws key value s (newest_tail at w ws s.0 s.1 later)
    ],
  )
    where
      high : w.key ≡ key → at ≤ w.number
      high same = elim (passed at met w e) [
        | inl late ↦ late
        | inr is ↦ absurd (both_ways (is_met met key) apart (ap (is_met met) (sym same) ∙ is))
      ]

  -- what is left to give, by the key and the value
  pub left_is : (rest : List KeyVersion) (met : Option (List ℕ)) → AscendVersions rest → Ahead met rest → (key value : List ℕ)
      → Contains (pairs_left at ranges met rest) (pair_of key value) ↔ ((is_met met key ≡ false) × ShowsValue rest ranges at key value)
  left_is [] met up ahead key value = (
    λ h. absurd (none_within (pair_of key value) (along (pair_of key value) _ _ (left_none at ranges met) h)),
    λ g. absurd (none_within g.1.0 g.1.1.stands),
  )
  left_is (w ∷ ws) met up ahead key value = elim (cases_Bool (is_passed at met w)) [
    | inl e ↦ pass e (left_is ws met (tail_ascends w ws up) (ahead_tail met w ws ahead) key value)
    | inr e ↦ stop e (left_is ws (Some w.key) (tail_ascends w ws up) (ahead_here w ws up) key value)
  ]
    where
      pass : is_passed at met w ≡ true
          → (Contains (pairs_left at ranges met ws) (pair_of key value) ↔ ((is_met met key ≡ false) × ShowsValue ws ranges at key value))
          → Contains (pairs_left at ranges met (w ∷ ws)) (pair_of key value) ↔ ((is_met met key ≡ false) × ShowsValue (w ∷ ws) ranges at key value)
      pass e before = (
        λ h.
            let g = before.0 (along (pair_of key value) _ _ (left_passed at ranges met w ws e) h) in
            (g.0, (over met w ws key value e g.0).0 g.1),
        λ g. along (pair_of key value) _ _ (sym (left_passed at ranges met w ws e)) (before.1 (g.0, (over met w ws key value e g.0).1 g.1)),
      )

      stop : is_passed at met w ≡ false
          → (Contains (pairs_left at ranges (Some w.key) ws) (pair_of key value) ↔ ((bytes_eq w.key key ≡ false) × ShowsValue ws ranges at key value))
          → Contains (pairs_left at ranges met (w ∷ ws)) (pair_of key value) ↔ ((is_met met key ≡ false) × ShowsValue (w ∷ ws) ranges at key value)
      stop e after = (
        λ h. elim (pair_cases w.key key has later value (along (pair_of key value) _ _ (left_here at ranges met w ws e) h)) [
          | inl it ↦ (ap (is_met met) (sym it.0) ∙ free, itself it.0 it.1)
          | inr h ↦ let g = after.0 h in behind g.1 g.0
        ],
        λ g. along (pair_of key value) _ _ (sym (left_here at ranges met w ws e)) (from g.1),
      )
        where
          has : Option (List ℕ)
          has = open_value ranges at w

          later : List KeyValue
          later = pairs_left at ranges (Some w.key) ws

          low : w.number < at
          low = (here at met w e).0

          free : is_met met w.key ≡ false
          free = (here at met w e).1

          itself : w.key ≡ key → has ≡ Some value → ShowsValue (w ∷ ws) ranges at key value
          itself same is = let it = open_value_shows at w ranges value is in (w, newest_first at w ws up low, same, it.0, it.1)

          behind : ShowsValue ws ranges at key value → bytes_eq w.key key ≡ false → (is_met met key ≡ false) × ShowsValue (w ∷ ws) ranges at key value
          behind s apart = (
            subst (λ (k : List ℕ). is_met met k ≡ false) s.2 (unmet met w s.0 ws up ahead free s.1.stands),
            shows_among ws (w ∷ ws) key value s (newest_behind at w ws s.0 s.1 (λ same. absurd (no_key w.key key apart (same ∙ s.2)))),
          )

          from : ShowsValue (w ∷ ws) ranges at key value → Contains (with_pair w.key has later) (pair_of key value)
          from s = elim (within_cases w ws s.0 s.1.stands) [
            | inl is ↦ pair_first w.key key has later value (ap (λ (v : KeyVersion). v.key) is ∙ s.2) (shows_open_value at w ranges value
                (ap (λ (v : KeyVersion). v.value) is ∙ s.3) (subst (λ (v : KeyVersion). IsUnhidden ranges at v) (sym is) s.4))
            | inr late ↦ elim (decide w.key key) [
              | inl same ↦ absurd (newest_none_behind at w ws up low s.0 s.1 late (same ∙ sym s.2))
              | inr apart ↦ pair_later w.key has later (pair_of key value)
                  (after.1 (apart, shows_among (w ∷ ws) ws key value s (newest_tail at w ws s.0 s.1 late)))
            ]
          ]

  -- the keys ascend
  pub left_ascend : (rest : List KeyVersion) (met : Option (List ℕ)) → AscendVersions rest → Ahead met rest
      → AscendByKey (pairs_left at ranges met rest)
  unfolding AscendByKey
  left_ascend [] met up ahead = subst AscendByKey (sym (left_none at ranges met)) tt
  left_ascend (w ∷ ws) met up ahead = elim (cases_Bool (is_passed at met w)) [
    | inl e ↦ subst AscendByKey (sym (left_passed at ranges met w ws e)) (left_ascend ws met (tail_ascends w ws up) (ahead_tail met w ws ahead))
    | inr e ↦ subst AscendByKey (sym (left_here at ranges met w ws e))
        (front (open_value ranges at w) (left_ascend ws (Some w.key) (tail_ascends w ws up) (ahead_here w ws up)))
  ]
    where
      later : (other : KeyValue) → Contains (pairs_left at ranges (Some w.key) ws) other → StandsBefore w.key other.key
      later other h =
          let g = (left_is ws (Some w.key) (tail_ascends w ws up) (ahead_here w ws up) other.key other.value).0 h in
          let s = g.1 in
          elim (before_cases w s.0.key s.0.number (head_precedes w ws up s.0 s.1.stands)) [
            | inl less ↦ subst (StandsBefore w.key) s.2 less
            | inr same ↦ absurd (no_key w.key other.key g.0 (same.0 ∙ s.2))
          ]

      front : (has : Option (List ℕ)) → AscendByKey (pairs_left at ranges (Some w.key) ws)
          → AscendByKey (with_pair w.key has (pairs_left at ranges (Some w.key) ws))
      front None after = after
      front (Some bytes) after = (later, after)

-- ---- from a key on

pub scans_exact : ScansAreExact
scans_exact versions rest ranges from at limit up few begins = record {
  ascend = left_ascend at ranges rest None rest_up tt;
  same = λ key value. (to key value, back key value);
}
  where
    rest_up : AscendVersions rest
    rest_up = back_ascends begins.front rest (subst AscendVersions begins.is up)

    early_less : (version : KeyVersion) → Contains begins.front version → StandsBefore version.key from
    early_less version h = elim (before_cases version from limit (begins.before version h)) [
      | inl less ↦ less
      | inr same ↦ absurd (omega (
        arith,
        same.1,
        few version (subst (λ (l : List KeyVersion). Contains l version) (sym begins.is)
            (Contains-append_left begins.front rest version h)),
      ))
    ]

    late_not : (version : KeyVersion) → Contains rest version → StandsBefore version.key from → ⊥
    late_not version h less = begins.from version h (ap (λ (o : _). ordering_then o (nat_cmp limit version.number)) less)

    to : (key value : List ℕ) → Contains (pairs_left at ranges None rest) (pair_of key value)
        → (StandsBefore key from → ⊥) × ShowsValue versions ranges at key value
    to key value h =
        let s = ((left_is at ranges rest None rest_up tt key value).0 h).1 in
        let late = late_not s.0 s.1.stands in (
          λ less. late (subst (λ (k : List ℕ). StandsBefore k from) (sym s.2) less),
          shows_among at ranges rest versions key value s (subst (λ (l : List KeyVersion). IsNewestOfKey l at s.0) (sym begins.is)
              (newest_whole at begins.front rest s.0 s.1
              (λ other early same. late (subst (λ (k : List ℕ). StandsBefore k from) same (early_less other early))))),
        )

    back : (key value : List ℕ) → (StandsBefore key from → ⊥) × ShowsValue versions ranges at key value
        → Contains (pairs_left at ranges None rest) (pair_of key value)
    back key value (apart, s) =
        let newest = subst (λ (l : List KeyVersion). IsNewestOfKey l at s.0) begins.is s.1 in
        elim (Contains-append_cases begins.front rest s.0 newest.stands) [
          | inl early ↦ absurd (apart (subst (λ (k : List ℕ). StandsBefore k from) s.2 (early_less s.0 early)))
          | inr late ↦ (left_is at ranges rest None rest_up tt key value).1 (
            refl,
            shows_among at ranges versions rest key value s (newest_back at begins.front rest s.0 newest late),
          )
        ]
