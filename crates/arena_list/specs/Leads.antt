-- The lead of a key: its first bytes as one number. Nothing of it is seen from outside.
use Rattle.std.specs.Prelude.{◌≡◌, ◌⊎◌, ℕ, ◌<◌, ◌≤◌, List, ◌++◌, Option, Some, None, length, take, replicate, slice_index}
use Rattle.std.specs.declared.cmp.Ordering.TheVariants.{Less, Greater}
use Rattle.std.specs.Ordering.{nat_cmp}
use Rattle.std.specs.Cmp.Lexicographic.{slice_cmp}
use Rattle.std.specs.Int.{w64, from_be_bytes}

-- the number whose eight digits to the base 256 are the first bytes, zeros where there are fewer
abbrev pub lead_of : List ℕ → ℕ
lead_of key = from_be_bytes w64 (take 8 (key ++ replicate 8 0))

-- It is the length of a key that ends within its lead, and nothing for a longer one.
abbrev pub IsLengthInLead : Option ℕ → List ℕ → Type 0
IsLengthInLead None key = 8 < length key
IsLengthInLead (Some len) key = (len ≡ length key) × (len ≤ 8)

-- Where one of two keys is no longer than the extent, they are in the order of their lengths.
abbrev pub LengthsTell : List ℕ → List ℕ → ℕ → Type 0
LengthsTell key other extent =
    (length key ≤ extent) ⊎ (length other ≤ extent) → slice_cmp nat_cmp key other ≡ nat_cmp (length key) (length other)

-- How two keys stand to each other is told by their leads, and where these are the same by the lengths of keys within the extent.
pub record LeadsTell (key : List ℕ) (lead : ℕ) (other : List ℕ) (other_lead extent : ℕ) : Type 0 where
  pub less : lead < other_lead → slice_cmp nat_cmp key other ≡ Less
  pub greater : other_lead < lead → slice_cmp nat_cmp key other ≡ Greater
  pub same : lead ≡ other_lead → LengthsTell key other extent

-- Each item is a byte.
abbrev pub AreBytes : List ℕ → Type 0
AreBytes items = (place : ℕ) → slice_index items place < 256
