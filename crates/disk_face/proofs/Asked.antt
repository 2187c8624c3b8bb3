-- What a row of calls asks for in all, call by call, and where two rows are made one after the other.
use Rattle.std.proofs.Common.{◌≡◌, ◌+◌, ◌++◌, ◌≤◌, ℕ, Bool, true, false, List, [], ap, refl, sym, ◌∙◌, arith}
use Rattle.std.specs.Prelude.{if◌then◌else◌, Contains}
use Rattle.std.proofs.lemmas.List.{append_assoc}
use Rattle.std.proofs.lemmas.List.Sums.{sum_by-append, get_or-le-sum_by}
use Rattle.disk_face.specs.declared.Side.{Side}
use Rattle.disk_face.specs.declared.SegName.{SegName}
use Rattle.disk_face.specs.declared.Listed.{Listed}
use Rattle.disk_face.specs.Equal.{both_left, both_right, nat_eq_only, nat_eq_self, side_eq_only, side_eq_self}
use Rattle.disk_face.specs.View.{Call, was_listed, was_read, DiskView, Makes, side_eq}
use Rattle.disk_face.specs.Asked.{name_eq, listings, lists_in, bytes_asked, bytes_in, length_among, length_listed, length_in, ListsOnce, ReadsAtMostListed}

-- no call
pub makes_none : (v : DiskView) → Makes [] v v
makes_none v = refl

-- the calls of a later run stand before those of the earlier one
pub makes_further : (made more : List Call) (old mid new : DiskView) → Makes made old mid → Makes more mid new → Makes (more ++ made) old new
makes_further made more old mid new a b = b ∙ ap (λ (calls : List Call). more ++ calls) a ∙ sym (append_assoc more made old.calls)

pub listings-append : (side : Side) (more made : List Call) → listings side (more ++ made) ≡ listings side more + listings side made
listings-append side = sum_by-append (lists_in side)

pub bytes_asked-append : (side : Side) (name : SegName) (more made : List Call)
    → bytes_asked side name (more ++ made) ≡ bytes_asked side name more + bytes_asked side name made
bytes_asked-append side name = sum_by-append (bytes_in side name)

pub length_listed-append : (side : Side) (name : SegName) (more made : List Call)
    → length_listed side name (more ++ made) ≡ length_listed side name more + length_listed side name made
length_listed-append side name = sum_by-append (length_in side name)

-- where the later calls list nothing, each side is listed as often as before
pub lists_once-append : (more made : List Call) → ((side : Side) → listings side more ≡ 0) → ListsOnce made → ListsOnce (more ++ made)
lists_once-append more made none once side = omega (arith, listings-append side more made, none side, once side)

-- where each of two runs reads no more than it listed, both do
pub reads_at_most-append : (more made : List Call) → ReadsAtMostListed more → ReadsAtMostListed made → ReadsAtMostListed (more ++ made)
reads_at_most-append more made a b side name = omega (
  arith,
  bytes_asked-append side name more made,
  length_listed-append side name more made,
  a side name,
  b side name,
)

pub name_eq_self : (n : SegName) → name_eq n n ≡ true
name_eq_self n = simp (nat_eq_self)

pub name_eq_only : (a b : SegName) → name_eq a b ≡ true → a ≡ b
name_eq_only a b e =
    let wal_is = nat_eq_only a.wal b.wal (both_left _ _ e) in
    let index_is = nat_eq_only a.index b.index (both_right _ _ e) in
    (λ i. record { wal = wal_is i; index = index_is i })

counted : (test : Bool) (n : ℕ) → test ≡ true → (if test then n else 0) ≡ n
counted true n e = refl
counted false n e = cc

not_counted : (test : Bool) (n : ℕ) → (test ≡ true → ⊥) → (if test then n else 0) ≡ 0
not_counted true n not = absurd (not refl)
not_counted false n not = refl

-- a read asks for so many bytes of its own segment
pub bytes_here : (side : Side) (name : SegName) (len : ℕ) → bytes_in side name (was_read side name len) ≡ len
bytes_here side name len = counted _ len (simp (side_eq_self, nat_eq_self))

-- and for none of any other one
pub bytes_elsewhere : (side s : Side) (name n : SegName) (len : ℕ) → ((side ≡ s) × (name ≡ n) → ⊥) → bytes_in side name (was_read s n len) ≡ 0
bytes_elsewhere side s name n len other =
    not_counted _ len (λ e. other (
      side_eq_only side s (both_left (side_eq side s) (name_eq name n) e),
      name_eq_only name n (both_right (side_eq side s) (name_eq name n) e),
    ))

-- a listing has room for each of its lengths
among : (names : List Listed) (item : Listed) → Contains names item → item.len ≤ length_among item.name names
among names item at =
    let length_of : Listed → ℕ = λ x. if name_eq item.name x.name then x.len else 0 in
    let here = counted (name_eq item.name item.name) item.len (name_eq_self item.name) in
    omega (arith, here, ap length_of at.2, get_or-le-sum_by length_of names at.0 item at.1)

-- a listing gives a segment in it no less than its length there
pub length_here : (side : Side) (names : List Listed) (item : Listed) → Contains names item → item.len ≤ length_in side item.name (was_listed side names)
length_here side names item at = omega (arith, counted (side_eq side side) (length_among item.name names) (side_eq_self side), among names item at)
