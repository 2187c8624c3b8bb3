-- Versions that are counted from a first number on.
use Rattle.std.proofs.Common.{◌≡◌, ℕ, ◌+◌, ◌≤◌, ◌<◌, true, false, List, [], ◌∷◌, ◌++◌, length, take, drop, sym, ap, ◌∙◌, subst, arith, get_or, append_assoc, length-append}
use Rattle.std.proofs.Math.ListN.{set}
use Rattle.std.specs.Prelude.{Contains}
use Rattle.std.proofs.lemmas.List.{append-nil}
use Rattle.std.proofs.lemmas.List.Elements.{Contains-append_right}
use Rattle.wal_base.proofs.Laws.{within_head}
use Rattle.batch_repr.specs.declared.limits.TheConstants.{NUMBER_MAX}
use Rattle.memtable_shards.specs.Versions.{Version}
use Rattle.memtable_shards.specs.Parts.{counted_from, HaveNumbers, MayWait}
use Rattle.memtable_shards.proofs.MayWait.{few_versions}

-- a version under its number
abbrev pub moved : ℕ → Version → Version
moved first version = record { entry = version.entry; number = first + version.number }

-- the number of the first one that is not moved yet
pub number_fits : (first : ℕ) (numbered nodes all : List Version) (v : Version) → numbered ++ counted_from first nodes ≡ all → HaveNumbers all
    → 0 < length nodes → v ≡ get_or nodes 0 v → first + v.number < NUMBER_MAX
number_fits first numbered [] all v is numbers some at = absurd (omega (arith, some))
number_fits first numbered (w ∷ nodes) all v is numbers some at =
    subst (λ (u : Version). first + u.number < NUMBER_MAX) (sym at)
    (numbers (moved first w) (subst (λ (l : List Version). Contains l (moved first w)) is
    (Contains-append_right numbered (moved first w ∷ counted_from first nodes) (moved first w) (within_head (moved first w) (counted_from first nodes)))))

-- it is moved, taken off, and linked behind those that were before
pub number_more : (first : ℕ) (numbered nodes all one more rest : List Version) (v w : Version) → numbered ++ counted_from first nodes ≡ all
    → 0 < length nodes → v ≡ get_or nodes 0 v → w ≡ moved first v → one ≡ take 1 (set nodes 0 w) → rest ≡ drop 1 (set nodes 0 w) → more ≡ numbered ++ one
    → more ++ counted_from first rest ≡ all
number_more first numbered [] all one more rest v w is some at new off left linked = absurd (omega (arith, some))
number_more first numbered (u ∷ nodes) all one more rest v w is some at new off left linked =
    ap (λ (l : List Version). l ++ counted_from first rest) (linked ∙ ap (λ (l : List Version). numbered ++ l) off)
    ∙ ap (λ (l : List Version). (numbered ++ w ∷ []) ++ counted_from first l) left ∙ append_assoc numbered (w ∷ []) (counted_from first nodes)
    ∙ ap (λ (x : Version). numbered ++ x ∷ counted_from first nodes) (new ∙ ap (moved first) at) ∙ is

pub fewer_left : (nodes rest : List Version) (w : Version) → 0 < length nodes → rest ≡ drop 1 (set nodes 0 w) → length rest < length nodes
fewer_left [] rest w some is = absurd (omega (arith, some))
fewer_left (u ∷ nodes) rest w some is = omega (arith, ap (λ (l : List Version). length l) is)

-- none is left
pub all_numbered : (first : ℕ) (numbered nodes all : List Version) → numbered ++ counted_from first nodes ≡ all → (0 < length nodes → false ≡ true)
    → numbered ≡ all
all_numbered first numbered [] all is none = sym (append-nil numbered) ∙ is
all_numbered first numbered (u ∷ nodes) all is none = let clash : false ≡ true = none (omega arith) in absurd cc

-- So few are numbered that one more can be linked.
pub few_numbered : (first : ℕ) (numbered nodes all one : List Version) (w : Version) → numbered ++ counted_from first nodes ≡ all → MayWait all
    → one ≡ take 1 (set nodes 0 w) → length numbered + length one ≤ NUMBER_MAX + 1
few_numbered first numbered nodes all one w is wait off =
    omega (
      arith,
      few_versions all wait,
      ap (λ (l : List Version). length l) is,
      length-append numbered (counted_from first nodes),
      ap (λ (l : List Version). length l) off,
      one_taken (set nodes 0 w),
    )
  where
    one_taken : (l : List Version) → length (take 1 l) ≤ 1
    one_taken [] = omega arith
    one_taken (x ∷ l) = omega arith
