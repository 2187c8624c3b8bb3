-- The pieces of a batch go to their shards, one after another.
use Rattle.std.proofs.Common.{◌≡◌, ◌≢◌, ◌⊎◌, inl, inr, ℕ, ◌+◌, ◌≤◌, ◌<◌, Bool, true, false, List, [], ◌∷◌, ◌++◌, length, Option, Some, refl, sym, ap, ◌∙◌, subst, arith, length-set}
use Rattle.std.specs.Prelude.{Contains, slice_get, ◌↔◌, nat_lt, unwrap_or}
use Rattle.std.proofs.lemmas.Bool.Decides.{nat_tests}
use Rattle.std.proofs.Math.ListN.{set}
use Rattle.std.proofs.lemmas.List.{append-nil}
use Rattle.std.proofs.lemmas.List.Elements.{Contains-append_left, Contains-append_right, Contains-append_cases}
use Rattle.wal_base.proofs.Laws.{none_within}
use Rattle.batch_repr.specs.declared.batch.Batch.{Batch}
use Rattle.batch_repr.specs.Batches.{end_of, IsContiguous, end_after}
use Rattle.memtable_shards.specs.declared.sharding.TheConstants.{SHARDS}
use Rattle.memtable_shards.specs.Versions.{Version}
use Rattle.memtable_shards.specs.Versions.{versions_from, versions_of, versions_in, IsIn, of_shard, piece_in, Gains, HaveOtherNumbers, AreShardsOf}
use Rattle.memtable_shards.specs.Pieces.{PiecesLeft, whole_pieces, versions_cut, IsNextPiece, NoPieceIsLeft, AreShardsAmid}
use Rattle.memtable_shards.proofs.Numbers.{number_within}
use Rattle.memtable_shards.proofs.Places.{changed}
use Rattle.memtable_shards.proofs.Reading.{version_of}
use Rattle.memtable_shards.proofs.Cutting.{kept, kept_from}
use Rattle.memtable_shards.proofs.Answering.{versions_in-append}

pub empty_shards : (shards : List (List Version)) → length shards ≡ SHARDS
    → ((index : ℕ) (shard : List Version) → slice_get shards index ≡ Some shard → shard ≡ []) → AreShardsOf shards []
empty_shards shards eight empty = record {
  eight = eight;
  own = λ index shard at v. (
    λ h. absurd (none_within v (subst (λ (l : List Version). Contains l v) (empty index shard at) h)),
    λ h. absurd
        (none_within v h.0),
  );
}

pub pieces_begin : (shards : List (List Version)) (batches : List Batch) (batch : Batch) → AreShardsOf shards batches
    → AreShardsAmid shards batches batch (record (whole_pieces batch.entries) { first = Some batch.first })
pieces_begin shards batches batch are = record {
  eight = are.eight;
  entries = refl;
  first = refl;
  own = λ index shard at v. (
    λ h. (inl ((are.own index shard at v).0 h).0, ((are.own index shard at v).0 h).1),
    λ h. (are.own index shard at v).1
        (was v index h.0, h.1),
  );
}
  where
    was : (v : Version) (index : ℕ) → Contains (versions_in batches) v ⊎ (Contains (versions_of batch) v × (index < 0)) → Contains (versions_in batches) v
    was v index (inl h) = h
    was v index (inr none) = absurd (omega (arith, none.1))

-- the pieces' versions are those of the batch
pub cut_is : (pieces : PiecesLeft) (batch : Batch) → pieces.entries ≡ batch.entries → pieces.first ≡ Some batch.first
    → versions_cut pieces ≡ versions_of batch
cut_is pieces batch entries first = ap (λ (first : Option ℕ). versions_from (unwrap_or first 0) pieces.entries) first ∙ ap (versions_from batch.first) entries

pub piece_of : (pieces : PiecesLeft) (batch : Batch) (index : ℕ) (piece : List Version) → pieces.entries ≡ batch.entries
    → pieces.first ≡ Some batch.first → IsNextPiece pieces index piece → piece ≡ piece_in index batch
piece_of pieces batch index piece entries first next = next.own ∙ ap (of_shard index) (cut_is pieces batch entries first)

-- the last of batches in a row
contiguous_last : (start : ℕ) (batches : List Batch) (batch : Batch) → IsContiguous start (batches ++ batch ∷ [])
    → IsContiguous start batches × (batch.first ≡ end_after start batches)
unfolding IsContiguous end_after
contiguous_last start [] batch row = (tt, row.0)
contiguous_last start (b ∷ batches) batch row = let rest = contiguous_last (end_of b) batches batch row.2 in ((row.0, row.1, rest.0), rest.1)

pub next_is_new : (start : ℕ) (shards : List (List Version)) (batches : List Batch) (batch : Batch) (pieces : PiecesLeft) (index : ℕ)
    (piece shard : List Version)
    → IsContiguous start (batches ++ batch ∷ []) → AreShardsAmid shards batches batch pieces
    → IsNextPiece pieces index piece → slice_get shards index ≡ Some shard → HaveOtherNumbers shard piece
next_is_new start shards batches batch pieces index piece shard row amid next at one other h k =
    apart ((amid.own index shard at one).0 h).0
  where
    late : batch.first ≤ other.number
    late = (number_within batch.first batch.entries other
        (kept_from index (versions_of batch) other (subst (λ (l : List Version). Contains l other)
        (piece_of pieces batch index piece amid.entries amid.first next) k)).0).0

    apart : Contains (versions_in batches) one ⊎ (Contains (versions_of batch) one × (index < pieces.from)) → one.number ≢ other.number
    apart (inl early) = λ (same : one.number ≡ other.number).
        let last = contiguous_last start batches batch row in
        omega (arith, same, late, last.1, (version_of start batches one last.0 early).under)
    apart (inr given) = absurd (omega (arith, given.1, next.on))

-- A shard before the next piece's, of which the batch has a version, has been given its piece.
was_given : (place from index : ℕ) → (from ≤ place → index ≤ place) → place < index + 1 → place ≢ index → place < from
was_given place from index next within apart = go (nat_lt place from) refl
  where
    go : (b : Bool) → nat_lt place from ≡ b → place < from
    go true e = grind (arith, nat_tests, e)
    go false e =
        let on : from ≤ place = grind (arith, nat_tests, e) in
        let late : index ≤ place = next on in
        absurd (omega (arith, late, within, apart))

pub next_applied : (shards : List (List Version)) (batches : List Batch) (batch : Batch) (pieces : PiecesLeft) (index : ℕ) (piece old new : List Version)
    → AreShardsAmid shards batches batch pieces → IsNextPiece pieces index piece → slice_get shards index ≡ Some old
    → Gains old piece new → AreShardsAmid (set shards index new) batches batch (record pieces { from = index + 1 })
next_applied shards batches batch pieces index piece old new amid next was gains = record {
  eight = omega (arith, amid.eight, length-set {A = List Version});
  entries = amid.entries;
  first = amid.first;
  own = λ place shard at v. go place shard v (changed shards index old new place shard was at);
}
  where
    is : piece ≡ piece_in index batch
    is = piece_of pieces batch index piece amid.entries amid.first next

    cut : versions_cut pieces ≡ versions_of batch
    cut = cut_is pieces batch amid.entries amid.first

    Has : ℕ → Version → Type 0
    Has place v = (Contains (versions_in batches) v ⊎ (Contains (versions_of batch) v × (place < index + 1))) × IsIn v place

    to_own : (v : Version) → Contains old v ⊎ Contains piece v → Has index v
    to_own v (inr h) = let mine = kept_from index (versions_of batch) v (subst (λ (l : List Version). Contains l v) is h) in
        (inr (mine.0, omega arith), mine.1)
    to_own v (inl h) = early ((amid.own index old was v).0 h)
      where
        early : (Contains (versions_in batches) v ⊎ (Contains (versions_of batch) v × (index < pieces.from))) × IsIn v index → Has index v
        early (inl h, e) = (inl h, e)
        early (inr h, e) = (inr (h.0, omega arith), e)

    from_own : (v : Version) → Has index v → Contains old v ⊎ Contains piece v
    from_own v (inl h, e) = inl ((amid.own index old was v).1 (inl h, e))
    from_own v (inr h, e) = inr (subst (λ (l : List Version). Contains l v) (sym is) (kept index (versions_of batch) v h.0 e))

    to_other : (place : ℕ) (v : Version) → place ≢ index
        → (Contains (versions_in batches) v ⊎ (Contains (versions_of batch) v × (place < pieces.from))) × IsIn v place → Has place v
    to_other place v apart (inl h, e) = (inl h, e)
    to_other place v apart (inr h, e) = (inr (h.0, omega (arith, h.1, next.on)), e)

    from_other : (place : ℕ) (v : Version) → place ≢ index → Has place v
        → (Contains (versions_in batches) v ⊎ (Contains (versions_of batch) v × (place < pieces.from))) × IsIn v place
    from_other place v apart (inl h, e) = (inl h, e)
    from_other place v apart (inr h, e) = (
      inr (h.0, was_given place pieces.from index (next.next v place (subst (λ (l : List Version). Contains l v) (sym cut) h.0) e) h.1 apart),
      e,
    )

    go : (place : ℕ) (shard : List Version) (v : Version)
        → ((place ≡ index) × (shard ≡ new)) ⊎ ((place ≢ index) × (slice_get shards place ≡ Some shard)) → Contains shard v ↔ Has place v
    go place shard v (inl same) =
        subst (λ (n : ℕ). Contains shard v ↔ Has n v) (sym same.0)
        (subst (λ (l : List Version). Contains l v ↔ Has index v) (sym same.1) (λ h. to_own v ((gains v).0 h), λ h. (gains v).1 (from_own v h)))
    go place shard v (inr other) = (
      λ h. to_other place v other.0 ((amid.own place shard other.1 v).0 h),
      λ h. (amid.own place shard other.1 v).1
          (from_other place v other.0 h),
    )

pub pieces_end : (shards : List (List Version)) (batches : List Batch) (batch : Batch) (pieces : PiecesLeft)
    → AreShardsAmid shards batches batch pieces → NoPieceIsLeft pieces → AreShardsOf shards (batches ++ batch ∷ [])
pieces_end shards batches batch pieces amid none = record {
  eight = amid.eight;
  own = λ index shard at v. (
    λ h. (to index v ((amid.own index shard at v).0 h).0, ((amid.own index shard at v).0 h).1),
    λ h. (amid.own index shard at v).1
        (from index v h.0 h.1, h.1),
  );
}
  where
    whole : versions_in (batches ++ batch ∷ []) ≡ versions_in batches ++ versions_of batch
    whole = versions_in-append batches (batch ∷ []) ∙ ap (λ (l : List Version). versions_in batches ++ l) (append-nil (versions_of batch))

    to : (index : ℕ) (v : Version) → Contains (versions_in batches) v ⊎ (Contains (versions_of batch) v × (index < pieces.from))
        → Contains (versions_in (batches ++ batch ∷ [])) v
    to index v (inl h) = subst (λ (l : List Version). Contains l v) (sym whole) (Contains-append_left (versions_in batches) (versions_of batch) v h)
    to index v (inr h) = subst (λ (l : List Version). Contains l v) (sym whole) (Contains-append_right (versions_in batches) (versions_of batch) v h.0)

    from : (index : ℕ) (v : Version) → Contains (versions_in (batches ++ batch ∷ [])) v → IsIn v index
        → Contains (versions_in batches) v ⊎ (Contains (versions_of batch) v × (index < pieces.from))
    from index v h e = elim (Contains-append_cases (versions_in batches) (versions_of batch) v (subst (λ (l : List Version). Contains l v) whole h)) [
      | inl early ↦ inl early
      | inr mine ↦ inr (mine, none v index (subst (λ (l : List Version). Contains l v) (sym (cut_is pieces batch amid.entries amid.first)) mine) e)
    ]

pub shards_settled : (shards : List (List Version)) (batches : List Batch) (index : ℕ) (old new : List Version) → AreShardsOf shards batches
    → slice_get shards index ≡ Some old → ((v : Version) → Contains new v ↔ Contains old v) → AreShardsOf (set shards index new) batches
shards_settled shards batches index old new are was same = record {
  eight = omega (arith, are.eight, length-set {A = List Version});
  own = λ place shard at v. go place shard v (changed shards index old new place shard was at);
}
  where
    go : (place : ℕ) (shard : List Version) (v : Version)
        → ((place ≡ index) × (shard ≡ new)) ⊎ ((place ≢ index) × (slice_get shards place ≡ Some shard))
        → Contains shard v ↔ (Contains (versions_in batches) v × IsIn v place)
    go place shard v (inr other) = are.own place shard other.1 v
    go place shard v (inl is) =
        subst (λ (n : ℕ). Contains shard v ↔ (Contains (versions_in batches) v × IsIn v n)) (sym is.0)
        (subst (λ (l : List Version). Contains l v ↔ (Contains (versions_in batches) v × IsIn v index)) (sym is.1)
        (λ h. (are.own index old was v).0 ((same v).0 h), λ h. (same v).1 ((are.own index old was v).1 h)))
