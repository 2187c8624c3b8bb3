-- The keys that have a value after batches are within their limits, with their values, as the entries of the batches are.
use Rattle.std.proofs.Common.{◌≡◌, ◌-◌, ℕ, suc, Bool, true, false, List, [], ◌∷◌, length, filter, Option, Some, None, refl, sym, subst, ◌∙◌}
use Rattle.std.specs.Prelude.{option_and_then, slice_index_or}
use Rattle.std.specs.List.{All, AllByRecursion, last_or}
use Rattle.std.proofs.lemmas.Slice.Eq.{bytes_eq-Decides}
use Rattle.std.proofs.lemmas.List.Elements.{All-contains_itself, All-nil, All-cons, All-head, All-tail, recursion_from_All}
use Rattle.wal_base.specs.declared.entry.Entry.{Entry}
use Rattle.wal_base.specs.declared.entry.Entry.TheVariants.{Set, Delete, Note, RangeDelete}
use Rattle.batch_repr.specs.declared.batch.Batch.{Batch}
use Rattle.batch_repr.specs.Batches.{entries_in, is_about, value_left}
use Rattle.batch_repr.specs.Limits.{IsWithinLimits}
use Rattle.batch_repr.specs.Building.{FitsBatch}
use Rattle.batch_repr.proofs.Laws.{set_fits}
use Rattle.text_lines.specs.Store.{Held, IsStoreOf}
use Rattle.table_text.specs.Tables.{Table, IsTable, IsHeldWithin, batches_of, set_of, set_batch, set_batches}
use Rattle.table_text.proofs.LeftBy.{answer_of_all}

abbrev held : List ℕ → List ℕ → Held
held key value = record { key = key; value = value }

-- What an entry leaves the key with is within the limits.
abbrev LeavesWithin : Option Entry → List ℕ → Type 0
LeavesWithin last key = (value : List ℕ) → option_and_then value_left last ≡ Some value → IsHeldWithin (held key value)

leaves_within : (entry : Entry) (key : List ℕ) → IsWithinLimits entry → is_about key entry ≡ true → LeavesWithin (Some entry) key
leaves_within (Set k v) key within about value is =
    let same : k ≡ key = (bytes_eq-Decides k key).0 about in
    let value_is : v ≡ value = cc in
    subst (λ (x : List ℕ). IsHeldWithin (held x value)) same (subst (λ (x : List ℕ). IsHeldWithin (held k x)) value_is within)
leaves_within (Delete k) key within about value is = absurd cc
leaves_within (Note bytes) key within about value is = absurd cc
leaves_within (RangeDelete start end) key within about value is = absurd cc

last_within : (last : Option Entry) (entries : List Entry) (key : List ℕ) → LeavesWithin last key → All IsWithinLimits entries
    → LeavesWithin (last_or last (filter (is_about key) entries)) key
last_within last [] key so_far within = so_far
last_within last (entry ∷ entries) key so_far within =
    go (is_about key entry) refl
    (λ about. last_within (Some entry) entries key (leaves_within entry key (All-head IsWithinLimits entry entries within) about) (All-tail IsWithinLimits entry entries within))
    (last_within last entries key so_far (All-tail IsWithinLimits entry entries within))
  where
    go : (b : Bool) → is_about key entry ≡ b → (is_about key entry ≡ true → LeavesWithin (last_or (Some entry) (filter (is_about key) entries)) key)
        → LeavesWithin (last_or last (filter (is_about key) entries)) key → LeavesWithin (last_or last (filter (is_about key) (entry ∷ entries))) key
    go true e here rest = rw e (here e)
    go false e here rest = rw e rest

pub live_within : (batches : List Batch) (live : List Held) → All IsWithinLimits (entries_in batches) → IsStoreOf batches live → All IsHeldWithin live
live_within batches live within store k d below =
    let it : Held = slice_index_or live k d in
    let left = (store.same it.key it.value).0 (All-contains_itself live k d below) in
    last_within None (entries_in batches) it.key none within it.value (sym (answer_of_all batches it.key) ∙ left)
  where
    none : LeavesWithin None (slice_index_or live k d).key
    none value is = absurd cc

-- ---- the batches of a table

sets_within : (number : ℕ) (live : List Held) → AllByRecursion IsHeldWithin live
    → All (λ (batch : Batch). FitsBatch batch.entries) (set_batches number live)
unfolding set_batches
sets_within number [] h = All-nil (λ (batch : Batch). FitsBatch batch.entries)
sets_within number (one ∷ later) h =
    All-cons (λ (batch : Batch). FitsBatch batch.entries) (set_batch number one) (set_batches (suc number) later)
    (set_fits one.key one.value h.0) (sets_within (suc number) later h.1)

-- each of them fits one
pub batches_within : (table : Table) → IsTable table → All (λ (batch : Batch). FitsBatch batch.entries) (batches_of table)
batches_within table is = sets_within (table.next - length table.live) table.live (recursion_from_All IsHeldWithin table.live is.within)
