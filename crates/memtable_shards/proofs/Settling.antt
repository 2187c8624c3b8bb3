-- What stands in the index and beside it, as versions.
use Rattle.std.proofs.Common.{◌≡◌, inl, inr, ℕ, List, [], ◌∷◌, ◌++◌, Option, Some, None, refl, sym, ap, ◌∙◌, subst}
use Rattle.std.specs.Prelude.{Contains, map}
use Rattle.std.specs.List.Sorted.{IsPermutation}
use Rattle.std.proofs.lemmas.List.Sorted.{Contains-permutation, IsPermutation-sym}
use Rattle.std.proofs.lemmas.List.{append-nil}
use Rattle.std.proofs.lemmas.List.Elements.{Contains-append_left, Contains-append_right, Contains-append_cases}
use Rattle.wal_base.proofs.Laws.{none_within, within_head, within_tail, within_cases}
use Rattle.wal_base.specs.declared.entry.Entry.{Entry}
use Rattle.wal_base.specs.declared.entry.Entry.TheVariants.{Set, Delete, Note, RangeDelete}
use Rattle.arena_list.specs.Versions.{KeyVersion, version_with, Adds, HoldsVersion}
use Rattle.std.proofs.Common.{◌≤◌, ◌<◌}
use Rattle.std.specs.Str.{bytes_eq}
use Rattle.std.proofs.lemmas.Slice.Eq.{bytes_eq-Decides}
use Rattle.batch_repr.specs.Batches.{is_about}
use Rattle.arena_list.specs.declared.found.Found.{Found}
use Rattle.arena_list.specs.declared.found.Found.TheVariants.{Nothing, Gone, Value}
use Rattle.arena_list.specs.Newest as found
use Rattle.memtable_shards.specs.Newest.{IsAbout, Told, told_of, TellsNewest, FindsNewest}
use Rattle.range_cover.specs.declared.mark.RangeMark.{RangeMark}
use Rattle.range_cover.specs.Marks as cover
use Rattle.memtable_shards.specs.Versions.{Version, key_version_in_front, key_versions}
use Rattle.memtable_shards.specs.Parts.{key_entry, of_key, of_range, settled_in, LacksNumber, HasOneMore}

pub in_map : {X Y : Type 0} (f : X → Y) (xs : List X) (x : X) → Contains xs x → Contains (map f xs) (f x)
in_map f [] x h = absurd (none_within x h)
in_map {X = X} {Y = Y} f (y ∷ ys) x h = elim (within_cases y ys x h) [
  | inl e ↦ subst (λ (w : X). Contains (f y ∷ map f ys) (f w)) e (within_head (f y) (map f ys))
  | inr later ↦ within_tail (f y) (map f ys) (f x) (in_map f ys x later)
]

pub from_map : {X Y : Type 0} (f : X → Y) (xs : List X) (y : Y) → Contains (map f xs) y → (x : X) × Contains xs x × (f x ≡ y)
from_map f [] y h = absurd (none_within y h)
from_map f (x ∷ xs) y h = elim (within_cases (f x) (map f xs) y h) [
  | inl e ↦ (x, within_head x xs, e)
  | inr later ↦ let rest = from_map f xs y later in (rest.0, within_tail x xs rest.0 rest.1, rest.2)
]

-- ---- the versions of keys among them

keys_append : (xs ys : List Version) → key_versions (xs ++ ys) ≡ key_versions xs ++ key_versions ys
keys_append [] ys = refl
keys_append (x ∷ xs) ys = go x.entry (keys_append xs ys)
  where
    go : (entry : Entry) → key_versions (xs ++ ys) ≡ key_versions xs ++ key_versions ys
        → key_version_in_front entry x.number (key_versions (xs ++ ys)) ≡ key_version_in_front entry x.number (key_versions xs) ++ key_versions ys
    go (Set key value) rest = ap (λ (t : List KeyVersion). version_with key x.number (Some value) ∷ t) rest
    go (Delete key) rest = ap (λ (t : List KeyVersion). version_with key x.number None ∷ t) rest
    go (Note bytes) rest = rest
    go (RangeDelete start end) rest = rest

keys_of_index : (index : List KeyVersion) → key_versions (map of_key index) ≡ index
keys_of_index [] = refl
keys_of_index (v ∷ index) = go v.value ∙ ap (λ (t : List KeyVersion). v ∷ t) (keys_of_index index)
  where
    go : (value : Option (List ℕ)) → key_version_in_front (key_entry v.key value) v.number (key_versions (map of_key index))
        ≡ version_with v.key v.number value ∷ key_versions (map of_key index)
    go None = refl
    go (Some value) = refl

keys_of_ranges : (ranges : List RangeMark) → key_versions (map of_range ranges) ≡ []
keys_of_ranges [] = refl
keys_of_ranges (mark ∷ ranges) = keys_of_ranges ranges

pub keys_settled : (index : List KeyVersion) (ranges : List RangeMark) → key_versions (settled_in index ranges) ≡ index
keys_settled index ranges =
    keys_append (map of_key index) (map of_range ranges) ∙ ap (λ (t : List KeyVersion). t ++ key_versions (map of_range ranges)) (keys_of_index index)
    ∙ ap (λ (t : List KeyVersion). index ++ t) (keys_of_ranges ranges) ∙ append-nil index

-- what waits is seen twice
pub keys_seen : (index : List KeyVersion) (ranges : List RangeMark) (waiting : List Version)
    → key_versions (settled_in index ranges ++ waiting ++ waiting) ≡ index ++ key_versions waiting ++ key_versions waiting
keys_seen index ranges waiting =
    keys_append (settled_in index ranges ++ waiting) waiting
    ∙ ap (λ (t : List KeyVersion). t ++ key_versions waiting) (keys_append (settled_in index ranges) waiting
    ∙ ap (λ (t : List KeyVersion). t ++ key_versions waiting) (keys_settled index ranges))

pub index_seen : (index : List KeyVersion) (ranges : List RangeMark) (waiting : List Version) (v : KeyVersion) → Contains index v
    → Contains (key_versions (settled_in index ranges ++ waiting ++ waiting)) v
index_seen index ranges waiting v h = subst (λ (l : List KeyVersion). Contains l v) (sym (keys_seen index ranges waiting))
    (Contains-append_left (index ++ key_versions waiting) (key_versions waiting) v (Contains-append_left index (key_versions waiting) v h))

-- ---- one more

-- a number that no version has is none of the index
pub not_held : (index : List KeyVersion) (ranges : List RangeMark) (key : List ℕ) (number : ℕ) → LacksNumber (settled_in index ranges) number
    → HoldsVersion index key number → ⊥
not_held index ranges key number lacks holds =
    lacks (of_key holds.0) (Contains-append_left (map of_key index) (map of_range ranges) (of_key holds.0) (in_map of_key index holds.0 holds.1)) holds.2.1

-- a version more in the index
pub key_more : (old new : List KeyVersion) (ranges : List RangeMark) (version : KeyVersion) → Adds old version new
    → HasOneMore (settled_in old ranges) (of_key version) (settled_in new ranges)
key_more old new ranges version adds other = (
  λ h. elim (Contains-append_cases (map of_key new) (map of_range ranges) other h) [
    | inl here ↦
        let it = from_map of_key new other here in
        elim ((adds it.0).0 it.1) [
          | inl was ↦ inl (subst (λ (v : Version). Contains (settled_in old ranges) v) it.2
              (Contains-append_left (map of_key old) (map of_range ranges) (of_key it.0) (in_map of_key old it.0 was)))
          | inr is ↦ inr (sym it.2 ∙ ap of_key is)
        ]
    | inr there ↦ inl (Contains-append_right (map of_key old) (map of_range ranges) other there)
  ],
  λ h. elim h [
    | inl was ↦ elim (Contains-append_cases (map of_key old) (map of_range ranges) other was) [
      | inl here ↦
          let it = from_map of_key old other here in
          subst (λ (v : Version). Contains (settled_in new ranges) v) it.2
          (Contains-append_left (map of_key new) (map of_range ranges) (of_key it.0) (in_map of_key new it.0 ((adds it.0).1 (inl it.1))))
      | inr there ↦ Contains-append_right (map of_key new) (map of_range ranges) other there
    ]
    | inr is ↦ subst (λ (v : Version). Contains (settled_in new ranges) v) (sym is)
        (Contains-append_left (map of_key new) (map of_range ranges) (of_key version) (in_map of_key new version ((adds version).1 (inr refl))))
  ],
)

-- a range more beside it
pub range_more : (index : List KeyVersion) (old new : List RangeMark) (mark : RangeMark) → IsPermutation (mark ∷ old) new
    → HasOneMore (settled_in index old) (of_range mark) (settled_in index new)
range_more index old new mark moved other = (
  λ h. elim (Contains-append_cases (map of_key index) (map of_range new) other h) [
    | inl here ↦ inl (Contains-append_left (map of_key index) (map of_range old) other here)
    | inr there ↦
        let it = from_map of_range new other there in
        elim (within_cases mark old it.0 (Contains-permutation new (mark ∷ old) it.0 (IsPermutation-sym (mark ∷ old) new moved) it.1)) [
          | inl same ↦ inr (sym it.2 ∙ ap of_range (sym same))
          | inr was ↦ inl (subst (λ (v : Version). Contains (settled_in index old) v) it.2
              (Contains-append_right (map of_key index) (map of_range old) (of_range it.0) (in_map of_range old it.0 was)))
        ]
  ],
  λ h. elim h [
    | inl was ↦ elim (Contains-append_cases (map of_key index) (map of_range old) other was) [
      | inl here ↦ Contains-append_left (map of_key index) (map of_range new) other here
      | inr there ↦
          let it = from_map of_range old other there in
          subst (λ (v : Version). Contains (settled_in index new) v) it.2 (still it.0 (within_tail mark old it.0 it.1))
    ]
    | inr e ↦ subst (λ (v : Version). Contains (settled_in index new) v) (sym e) (still mark (within_head mark old))
  ],
)
  where
    still : (it : RangeMark) → Contains (mark ∷ old) it → Contains (settled_in index new) (of_range it)
    still it h = Contains-append_right (map of_key index) (map of_range new) (of_range it)
        (in_map of_range new it (Contains-permutation (mark ∷ old) new it moved h))

-- ---- what is found in range deletes

module _ (marks : List RangeMark) (key : List ℕ) (below : ℕ) where
  pub range_found : (seq : ℕ) → cover.IsNewestOver marks key below seq → FindsNewest (map of_range marks) key below (Gone seq)
  range_found seq is =
      let mark = is.stands.0 in
      let number : mark.number ≡ seq = is.stands.3 in (
        of_range mark,
        record {
          stands = in_map of_range marks mark is.stands.1;
          about = is.stands.2;
          under = subst (λ (n : ℕ). n < below) (sym number) is.under;
          last = λ w h about low.
              let it = from_map of_range marks w h in
              subst (λ (n : ℕ). w.number ≤ n) (sym number)
              (subst (λ (v : Version). v.number ≤ seq) it.2
              (is.last it.0 it.1 (subst (λ (v : Version). IsAbout v key) (sym it.2) about) (subst (λ (v : Version). v.number < below) (sym it.2) low)));
        },
        ap (λ (n : ℕ). let t : Told = record { number = n; value = None } in t) number,
      )

  pub no_range_found : cover.TellsNewestOver marks key below None → FindsNewest (map of_range marks) key below Nothing
  no_range_found none w h about =
      let it = from_map of_range marks w h in
      subst (λ (v : Version). below ≤ v.number) it.2 (none it.0 it.1 (subst (λ (v : Version). IsAbout v key) (sym it.2) about))

-- ---- what is found in the index

about_key : (key own : List ℕ) (value : Option (List ℕ)) → is_about key (key_entry own value) ≡ bytes_eq own key
about_key key own None = refl
about_key key own (Some value) = refl

module _ (index : List KeyVersion) (key : List ℕ) (below : ℕ) where
  -- a version of the index that is about the key
  its_key : (w : Version) → Contains (map of_key index) w → IsAbout w key → (x : KeyVersion) × Contains index x × (of_key x ≡ w) × (x.key ≡ key)
  its_key w h about =
      let it = from_map of_key index w h in (
        it.0,
        it.1,
        it.2,
        (bytes_eq-Decides it.0.key key).0
            (sym (about_key key it.0.key it.0.value) ∙ ap (λ (v : Version). is_about key v.entry) it.2 ∙ about),
      )

  one_found : (v : KeyVersion) → found.IsNewestOfKey index below v → v.key ≡ key → TellsNewest (map of_key index) key below (Some (told_of (of_key v)))
  one_found v is same = (
    of_key v,
    record {
      stands = in_map of_key index v is.stands;
      about = about_key key v.key v.value ∙ (bytes_eq-Decides v.key key).1 same;
      under = is.under;
      last = λ w h about low. let it = its_key w h about in
          subst (λ (x : Version). x.number ≤ v.number) it.2
          (is.last it.0 it.1 (it.3 ∙ sym same) (subst (λ (x : Version). x.number < below) (sym it.2) low));
    },
    refl,
  )

  pub from_index : (answer : Found) → found.FindsNewestOfKey index key below answer → FindsNewest (map of_key index) key below answer
  from_index Nothing none = λ w h about. let it = its_key w h about in subst (λ (x : Version). below ≤ x.number) it.2 (none it.0 it.1 it.3)
  from_index (Gone seq) is = one_found (version_with key seq None) is.0 is.1
  from_index (Value seq bytes) is = one_found (version_with key seq (Some bytes.now)) is.0 is.1
