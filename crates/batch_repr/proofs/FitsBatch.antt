-- Entries that fit a batch fit it with one more exactly where that one is not refused.
use Rattle.std.proofs.Common.{◌≡◌, ℕ, ◌<◌, ◌≤◌, Bool, true, false, cond, List, [], ◌∷◌, ◌++◌, length, Option, Some, None, nat_lt, refl, arith, subst}
use Rattle.std.specs.Prelude.{◌↔◌}
use Rattle.std.proofs.lemmas.Bool.{le-ltb, ltb-false}
use Rattle.std.proofs.lemmas.List.{length-append, get_or_at}
use Rattle.std.proofs.lemmas.List.Elements.{All-push}
use Rattle.wal_base.specs.declared.entry.Entry.{Entry}
use Rattle.wal_base.specs.declared.entry.Entry.TheVariants.{Set, Delete, Note, RangeDelete}
use Rattle.batch_repr.specs.declared.fault.BuildFault.{BuildFault}
use Rattle.batch_repr.specs.declared.fault.BuildFault.TheVariants as faults
use Rattle.batch_repr.specs.declared.limits.TheConstants.{KEY_MAX, VALUE_MAX, BATCH_MAX}
use Rattle.batch_repr.specs.Limits.{IsWithinLimits}
use Rattle.batch_repr.specs.Written.{written_len}
use Rattle.batch_repr.specs.Building.{FitsBatch, room_fault, value_fault, key_fault, refusal}

-- a test that must fail, and what must hold then
passed : (test : Bool) (fault : BuildFault) (other : Option BuildFault) → cond test (Some fault) other ≡ None → (test ≡ false) × (other ≡ None)
passed true fault other e = absurd cc
passed false fault other e = (refl, e)

last_within : (entries : List Entry) (entry : Entry) → FitsBatch (entries ++ entry ∷ []) → IsWithinLimits entry
last_within entries entry fits =
    let long : length entries < length (entries ++ entry ∷ []) = omega (arith, length-append entries (entry ∷ [])) in
    subst IsWithinLimits (get_or_at entries entry [] entry (length entries) refl) (fits.limits (length entries) entry long)

has_room : (len : ℕ) → len ≤ BATCH_MAX → room_fault len ≡ None
has_room len h = rw (le-ltb BATCH_MAX len h) refl

room_is : (len : ℕ) → room_fault len ≡ None → len ≤ BATCH_MAX
room_is len e = ltb-false BATCH_MAX len (passed (nat_lt BATCH_MAX len) (faults.BatchTooLong len) None e).0

short_value : (value : List ℕ) (other : Option BuildFault) → value_fault value other ≡ None → (length value ≤ VALUE_MAX) × (other ≡ None)
short_value value other e = let p = passed (nat_lt VALUE_MAX (length value)) (faults.ValueTooLong (length value)) other e
    in (ltb-false VALUE_MAX (length value) p.0, p.1)

short_key : (key : List ℕ) (other : Option BuildFault) → key_fault key other ≡ None → (length key ≤ KEY_MAX) × (other ≡ None)
short_key key other e = let p = passed (nat_lt KEY_MAX (length key)) (faults.KeyTooLong (length key)) other e in (ltb-false KEY_MAX (length key) p.0, p.1)

taken : (entries : List Entry) (entry : Entry) → refusal entries entry ≡ None → IsWithinLimits entry × (written_len (entries ++ entry ∷ []) ≤ BATCH_MAX)
taken entries (Set key value) e =
    let k = short_key key _ e in
    let v = short_value value _ k.1 in
    ((k.0, v.0), room_is _ v.1)
taken entries (Delete key) e = let k = short_key key _ e in (k.0, room_is _ k.1)
taken entries (Note bytes) e = let v = short_value bytes _ e in (v.0, room_is _ v.1)
taken entries (RangeDelete start end) e =
    let s = short_key start _ e in
    let t = short_key end _ s.1 in
    ((s.0, t.0), room_is _ t.1)

not_refused : (entries : List Entry) (entry : Entry) → IsWithinLimits entry → written_len (entries ++ entry ∷ []) ≤ BATCH_MAX → refusal entries entry ≡ None
not_refused entries (Set key value) within size = rw (le-ltb KEY_MAX (length key) within.0, le-ltb VALUE_MAX (length value) within.1, has_room _ size) refl
not_refused entries (Delete key) within size = rw (le-ltb KEY_MAX (length key) within, has_room _ size) refl
not_refused entries (Note bytes) within size = rw (le-ltb VALUE_MAX (length bytes) within, has_room _ size) refl
not_refused entries (RangeDelete start end) within size =
    rw (le-ltb KEY_MAX (length start) within.0, le-ltb KEY_MAX (length end) within.1, has_room _ size) refl

pub fits_where_not_refused : (entries : List Entry) (entry : Entry) → FitsBatch entries → (refusal entries entry ≡ None) ↔ FitsBatch (entries ++ entry ∷ [])
fits_where_not_refused entries entry fits = (
  λ e. let t = taken entries entry e in record { limits = All-push IsWithinLimits entries entry fits.limits t.0; size = t.1 },
  λ more. not_refused entries entry (last_within entries entry more) more.size,
)
