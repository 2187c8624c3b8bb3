-- A shard's versions, as they are linked and moved into the index. What waits is seen twice.
use Rattle.std.proofs.Common.{◌≡◌, ◌⊎◌, inl, inr, ◌+◌, ◌<◌, List, [], ◌∷◌, ◌++◌, length, drop, sym, ap, ◌∙◌, subst, arith}
use Rattle.std.proofs.Common.{append_assoc, get_or}
use Rattle.std.specs.Prelude.{Contains, ◌↔◌}
use Rattle.std.proofs.lemmas.List.{append-nil}
use Rattle.std.proofs.lemmas.List.Elements.{Contains-append_left, Contains-append_right, Contains-append_cases}
use Rattle.wal_base.proofs.Laws.{within_head, within_tail, within_cases}
use Rattle.arena_list.specs.Arena.{Arena, MakesRoom}
use Rattle.arena_list.specs.Versions.{KeyVersion, AscendVersions}
use Rattle.arena_list.proofs.Laws.{never_before_itself}
use Rattle.range_cover.specs.declared.mark.RangeMark.{RangeMark}
use Rattle.memtable_shards.specs.Versions.{Version, Gains, HaveOtherNumbers, IsSettled, key_versions}
use Rattle.memtable_shards.specs.Parts.{settled_in, LacksNumber, HasOneMore, HaveOwnNumbers, MayWait, IsShard}
use Rattle.memtable_shards.specs.Moving.{MovesFirst}
use Rattle.memtable_shards.proofs.MayWait.{rest_waits}
use Rattle.memtable_shards.proofs.Settling.{keys_seen}

-- what a shard is seen as
abbrev pub seen : List Version → List Version → List Version
seen index waiting = index ++ waiting ++ waiting

pub seen_cases : (index waiting : List Version) (v : Version) → Contains (seen index waiting) v → Contains index v ⊎ Contains waiting v
seen_cases index waiting v h = elim (Contains-append_cases (index ++ waiting) waiting v h) [
  | inl once ↦ Contains-append_cases index waiting v once
  | inr twice ↦ inr twice
]

pub seen_index : (index waiting : List Version) (v : Version) → Contains index v → Contains (seen index waiting) v
seen_index index waiting v h = Contains-append_left (index ++ waiting) waiting v (Contains-append_left index waiting v h)

pub seen_waiting : (index waiting : List Version) (v : Version) → Contains waiting v → Contains (seen index waiting) v
seen_waiting index waiting v h = Contains-append_right (index ++ waiting) waiting v h

-- the same versions, with each of them once
pub seen_once : (index waiting : List Version) (v : Version) → Contains (seen index waiting) v ↔ Contains (index ++ waiting) v
seen_once index waiting v = (
  λ h. elim (Contains-append_cases (index ++ waiting) waiting v h) [
    | inl once ↦ once
    | inr twice ↦ Contains-append_right index waiting v twice
  ],
  λ h. Contains-append_left (index ++ waiting) waiting v h,
)

-- ---- no version of a key waits

seen_alone : (index : List KeyVersion) → index ++ [] ++ [] ≡ index
seen_alone index = append-nil (index ++ []) ∙ append-nil index

pub settled_alone : (index : List KeyVersion) (ranges : List RangeMark) (waiting : List Version) → waiting ≡ [] → AscendVersions index
    → IsSettled (seen (settled_in index ranges) waiting)
settled_alone index ranges waiting none ascends = subst AscendVersions (sym (keys_seen index ranges waiting
    ∙ ap (λ (l : List Version). index ++ key_versions l ++ key_versions l) none ∙ seen_alone index)) ascends

ascends_back : (xs ys : List KeyVersion) → AscendVersions (xs ++ ys) → AscendVersions ys
unfolding AscendVersions
ascends_back [] ys ascends = ascends
ascends_back (x ∷ xs) ys ascends = ascends_back xs ys ascends.1

-- what stands twice does not ascend
alone : (index waiting : List KeyVersion) → AscendVersions (index ++ waiting ++ waiting) → index ≡ index ++ waiting ++ waiting
unfolding AscendVersions
alone index [] settled = sym (seen_alone index)
alone index (v ∷ waiting) settled =
    let twice : AscendVersions ((v ∷ waiting) ++ v ∷ waiting) =
    ascends_back index ((v ∷ waiting) ++ v ∷ waiting) (subst AscendVersions (append_assoc index (v ∷ waiting) (v ∷ waiting)) settled) in
    absurd (never_before_itself v (twice.0 v (Contains-append_right waiting (v ∷ waiting) v (within_head v waiting))))

pub settled_whole : (index : List KeyVersion) (ranges : List RangeMark) (waiting : List Version) → IsSettled (seen (settled_in index ranges) waiting)
    → index ≡ key_versions (seen (settled_in index ranges) waiting)
settled_whole index ranges waiting settled =
    alone index (key_versions waiting) (subst AscendVersions (keys_seen index ranges waiting) settled) ∙ sym (keys_seen index ranges waiting)

-- ---- one version more, or fewer

-- versions that are linked
pub linked_gains : (index waiting nodes all : List Version) → all ≡ waiting ++ nodes → Gains (seen index waiting) nodes (seen index all)
linked_gains index waiting nodes all is v = (to, from)
  where
    to : Contains (seen index all) v → Contains (seen index waiting) v ⊎ Contains nodes v
    to h = elim (seen_cases index all v h) [
      | inl here ↦ inl (seen_index index waiting v here)
      | inr there ↦ elim (Contains-append_cases waiting nodes v (subst (λ (l : List Version). Contains l v) is there)) [
        | inl was ↦ inl (seen_waiting index waiting v was)
        | inr more ↦ inr more
      ]
    ]

    back : (w : Version) → Contains (waiting ++ nodes) w → Contains (seen index all) w
    back w h = seen_waiting index all w (subst (λ (l : List Version). Contains l w) (sym is) h)

    from : Contains (seen index waiting) v ⊎ Contains nodes v → Contains (seen index all) v
    from (inl h) = elim (seen_cases index waiting v h) [
      | inl here ↦ seen_index index all v here
      | inr there ↦ back v (Contains-append_left waiting nodes v there)
    ]
    from (inr h) = back v (Contains-append_right waiting nodes v h)

-- their numbers are other ones
pub linked_apart : (index waiting nodes all : List Version) → all ≡ waiting ++ nodes → HaveOtherNumbers index waiting
    → HaveOtherNumbers (seen index waiting) nodes → HaveOtherNumbers index all
linked_apart index waiting nodes all is was more one other h k =
    elim (Contains-append_cases waiting nodes other (subst (λ (l : List Version). Contains l other) is k)) [
      | inl there ↦ was one other h there
      | inr new ↦ more one other (seen_index index waiting one h) new
    ]

-- a version moves from those that wait to the index
moved_in : (old new wait rest : List Version) (version : Version) → wait ≡ version ∷ rest → HasOneMore old version new → (v : Version)
    → Contains (seen new rest) v ↔ Contains (seen old wait) v
moved_in old new wait rest version e adds v = (to, from)
  where
    waits : (w : Version) → Contains (version ∷ rest) w → Contains (seen old wait) w
    waits w h = seen_waiting old wait w (subst (λ (l : List Version). Contains l w) (sym e) h)

    to : Contains (seen new rest) v → Contains (seen old wait) v
    to h = elim (seen_cases new rest v h) [
      | inl here ↦ elim ((adds v).0 here) [
        | inl was ↦ seen_index old wait v was
        | inr is ↦ waits v (subst (λ (w : Version). Contains (version ∷ rest) w) (sym is) (within_head version rest))
      ]
      | inr there ↦ waits v (within_tail version rest v there)
    ]

    from : Contains (seen old wait) v → Contains (seen new rest) v
    from h = elim (seen_cases old wait v h) [
      | inl was ↦ seen_index new rest v ((adds v).1 (inl was))
      | inr there ↦ elim (within_cases version rest v (subst (λ (l : List Version). Contains l v) e there)) [
        | inl is ↦ seen_index new rest v ((adds v).1 (inr (sym is)))
        | inr later ↦ seen_waiting new rest v later
      ]
    ]

both : {A B C : Type 0} → A ↔ B → B ↔ C → A ↔ C
both one two = (λ a. two.0 (one.0 a), λ c. one.1 (two.1 c))

-- the same parts
pub same_parts : (old waiting new rest was : List Version) (v : Version) → new ≡ old → rest ≡ waiting
    → Contains (seen old waiting) v ↔ Contains was v → Contains (seen new rest) v ↔ Contains was v
same_parts old waiting new rest was v same kept it =
    subst (λ (l : List Version). Contains (seen l rest) v ↔ Contains was v) (sym same)
    (subst (λ (l : List Version). Contains (seen old l) v ↔ Contains was v) (sym kept) it)

-- room that is made changes no version
pub room_same : (old new : Arena) → MakesRoom old new → new.versions ≡ old.versions
room_same old new (inl same) = ap (λ (a : Arena). a.versions) same.1
room_same old new (inr made) = ap (λ (a : Arena). a.versions) made.1

-- a list whose first item was looked at
pub first_waits : (waiting : List Version) (version : Version) → 0 < length waiting → version ≡ get_or waiting 0 version
    → waiting ≡ version ∷ drop 1 waiting
first_waits [] version some is = absurd (omega (arith, some))
first_waits (v ∷ waiting) version some is = ap (λ (w : Version). w ∷ waiting) (sym is)

-- the first one is not in the index
pub first_absent : (index waiting rest : List Version) (version : Version) → waiting ≡ version ∷ rest → IsShard index waiting
    → LacksNumber index version.number
first_absent index waiting rest version whole shard v h =
    shard.apart v version h (subst (λ (l : List Version). Contains l version) (sym whole) (within_head version rest))

-- the first one moves to the index
pub one_settled : (was old waiting new rest : List Version) → MovesFirst old waiting new rest → IsShard old waiting
    → ((v : Version) → Contains (seen old waiting) v ↔ Contains was v) → IsShard new rest × ((v : Version) → Contains (seen new rest) v ↔ Contains was v)
unfolding HaveOwnNumbers
one_settled was old waiting new rest moves shard same = (
  record { ready = rest_waits waiting rest moves.version moves.first shard.ready; apart = apart },
  λ v. both (moved_in old new waiting rest moves.version moves.first moves.added v) (same v),
)
  where
    version : Version
    version = moves.version

    all : MayWait (version ∷ rest)
    all = subst MayWait moves.first shard.ready

    apart : HaveOtherNumbers new rest
    apart one other h k = elim ((moves.added one).0 h) [
      | inl was ↦ shard.apart one other was (subst (λ (l : List Version). Contains l other) (sym moves.first) (within_tail version rest other k))
      | inr e ↦ (λ (clash : one.number ≡ other.number). all.apart.0 other k (sym clash ∙ ap (λ (v : Version). v.number) e))
    ]
