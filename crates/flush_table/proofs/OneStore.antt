-- Directories use one table at most: the numbers are each at least the other, and bytes read as one table. So they have one store.
use Rattle.std.proofs.Common.{◌≡◌, ◌⊎◌, inl, inr, ℕ, suc, List, Option, Some, None, sym, subst, ap, ◌∙◌, refl, arith}
use Rattle.batch_repr.specs.declared.batch.Batch.{Batch}
use Rattle.disk_face.specs.View.{Dirs, table}
use Rattle.disk_face.specs.Listing.{IsTableNumber}
use Rattle.table_text.specs.Tables.{Table, ReadsTable}
use Rattle.table_text.proofs.Laws.{one_table}
use Rattle.wal_recovery.specs.declared.reports.Mode.{Mode}
use Rattle.wal_recovery.specs.Listing.{Stored, StandsIn, from_wal}
use Rattle.wal_recovery.specs.Answers.{RecoversByFrom, IsRefusedByFrom}
use Rattle.wal_recovery.specs.declared.fault.RecoverFault.{RecoverFault}
use Rattle.wal_recovery.proofs.Laws.{not_both, recovers_by_once}
use Rattle.flush_table.specs.Stores.{HasWholeTable, UsesTable, Used, IsUsed, StoreOf, IsStoreRefused, IsNextWalOfStore, wal_from, first_from, base_of}
use Rattle.flush_table.proofs.Tools.{some_is}

pub whole_used : (dirs : Dirs) (upto : ℕ) (used : Table) → UsesTable dirs upto used → HasWholeTable dirs upto
whole_used dirs upto used is = (is.named, (is.bytes, is.there, (used, is.reads)))

same_used : (one other : Used) → one.upto ≡ other.upto → one.table ≡ other.table → one ≡ other
same_used one other number table i = record { upto = number i; table = table i }

pub used_once : (dirs : Dirs) (one other : Option Used) → IsUsed dirs one → IsUsed dirs other → one ≡ other
used_once dirs None None a b = refl
used_once dirs None (Some v) a b = absurd (a v.upto (whole_used dirs v.upto v.table b))
used_once dirs (Some u) None a b = absurd (b u.upto (whole_used dirs u.upto u.table a))
used_once dirs (Some u) (Some v) a b =
    let number : u.upto ≡ v.upto =
    omega (arith, b.greatest u.upto (whole_used dirs u.upto u.table a), a.greatest v.upto (whole_used dirs v.upto v.table b)) in
    let bytes : a.bytes ≡ b.bytes = some_is a.bytes b.bytes (sym a.there ∙ ap (λ (n : ℕ). dirs (table n)) number ∙ b.there) in
    let moved : ReadsTable u.upto a.bytes v.table =
    subst (λ (n : ℕ). ReadsTable n a.bytes v.table) (sym number) (subst (λ (l : List ℕ). ReadsTable v.upto l v.table) (sym bytes) b.reads) in
    ap (λ (w : Used). Some w) (same_used u v number (one_table u.upto a.bytes u.table v.table a.reads moved))

pub store_once : (mode : Mode) (dirs : Dirs) (one other : Option Used) (batches others : List Batch) → StoreOf mode dirs one batches
    → StoreOf mode dirs other others → (one ≡ other) × (batches ≡ others)
store_once mode dirs one other batches others a b =
    let same = used_once dirs one other a.is_used b.is_used in (
      same,
      recovers_by_once mode (first_from one) (base_of one) (from_wal (wal_from one) dirs) batches others a.recovers
          (subst (λ (u : Option Used). RecoversByFrom mode (first_from u) (base_of u) (from_wal (wal_from u) dirs) others) (sym same) b.recovers),
    )

-- directories that have a store are not refused
pub store_or_refused : (mode : Mode) (dirs : Dirs) (used : Option Used) (batches : List Batch) (fault : RecoverFault) → StoreOf mode dirs used batches
    → IsStoreRefused mode dirs fault → ⊥
store_or_refused mode dirs used batches fault store refused =
    let same = used_once dirs refused.used used refused.is_used store.is_used in
    not_both mode (first_from used) (base_of used) (from_wal (wal_from used) dirs) batches fault store.recovers
    (subst (λ (u : Option Used). IsRefusedByFrom mode (first_from u) (base_of u) (from_wal (wal_from u) dirs) fault) same refused.refused)

-- 1 where neither stands, or 1 more than a segment's WAL or a table's number
abbrev IsLeastNext : Dirs → ℕ → Type 0
IsLeastNext dirs n = ((n ≡ 1) × ((wal : ℕ) (stored : Stored) → StandsIn dirs wal stored → ⊥)
    × ((upto : ℕ) (bytes : List ℕ) → IsTableNumber upto → dirs (table upto) ≡ Some bytes → ⊥))
    ⊎ (((wal : ℕ) × (stored : Stored) × StandsIn dirs wal stored × (n ≡ suc wal))
    ⊎ ((upto : ℕ) × (bytes : List ℕ) × IsTableNumber upto × (dirs (table upto) ≡ Some bytes) × (n ≡ suc upto)))

-- there is one next WAL
pub one_next_wal : (dirs : Dirs) (a b : ℕ) → IsNextWalOfStore dirs a → IsNextWalOfStore dirs b → a ≡ b
one_next_wal dirs a b x y = go x.least y.least
  where
    go : IsLeastNext dirs a → IsLeastNext dirs b → a ≡ b
    go (inl (e, none, bare)) (inl (f, also, too)) = e ∙ sym f
    go (inl (e, none, bare)) (inr (inl (n, s, there, f))) = absurd (none n s there)
    go (inl (e, none, bare)) (inr (inr (u, bytes, named, there, f))) = absurd (bare u bytes named there)
    go (inr (inl (n, s, there, e))) (inl (f, none, bare)) = absurd (none n s there)
    go (inr (inr (u, bytes, named, there, e))) (inl (f, none, bare)) = absurd (bare u bytes named there)
    go (inr (inl (n, s, there, e))) (inr (inl (m, t, stands, f))) = omega (arith, e, f, x.above m t stands, y.above n s there)
    go (inr (inl (n, s, there, e))) (inr (inr (u, bytes, named, stands, f))) = omega (arith, e, f, x.past u bytes named stands, y.above n s there)
    go (inr (inr (u, bytes, named, there, e))) (inr (inl (m, t, stands, f))) = omega (arith, e, f, x.above m t stands, y.past u bytes named there)
    go (inr (inr (u, bytes, named, there, e))) (inr (inr (w, others, known, stands, f))) =
        omega (arith, e, f, x.past w others known stands, y.past u bytes named there)
