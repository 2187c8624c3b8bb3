-- Whatever a stop leaves of a journal: its segments merge to a prefix of its records, with all that are acked.
use Rattle.std.proofs.Common.{◌≡◌, ◌≢◌, ◌⊎◌, inl, inr, ℕ, suc, ◌+◌, ◌≤◌, Bool, List, [], ◌∷◌, length, map, take, Option, None, IsTrue, ap, sym, subst, ◌∙◌, refl, arith}
use Rattle.std.specs.Prelude.{max, Contains}
use Rattle.std.specs.List.{AllByRecursion}
use Rattle.crc_chunk.specs.Chunk.{IsChunkOf}
use Rattle.batch_repr.specs.declared.batch.Batch.{Batch}
use Rattle.disk_face.specs.declared.Side.{Side}
use Rattle.disk_face.specs.declared.SegName.{SegName}
use Rattle.disk_face.specs.declared.FilePlace.TheVariants.{Segment, Table}
use Rattle.disk_face.specs.View.{Place, segment, table, Files, Dirs, DiskView, files}
use Rattle.disk_face.specs.Image.{IsImageOf, IsImage, IsChanceFree}
use Rattle.disk_face.proofs.Laws.{same_number, image_of_none}
use native.Mathlib.Decide.{dec_le}
use Rattle.segment_merge.specs.Merging.{Merged}
use Rattle.segment_merge.specs.Ranges as ranges
use Rattle.segment_merge.proofs.Laws.{parts_merge}
use Rattle.wal_recovery.specs.Listing.{place_in}
use Rattle.log_writer.specs.Writer.{Writer}
use Rattle.log_writer.specs.Fits.{place_of_writer}
use Rattle.failover_writer.specs.State.{State, acked}
use Rattle.failover_writer.specs.Ranges.{AreJoined, StandsFor}
use Rattle.wal_recovery.specs.Further.{IsElsewhere}
use Rattle.failover_writer.specs.Keeping.{IsRunOver, KeepsRun, HasNoSegment, OthersStay, IsOpenedOn, StoodAt}
use Rattle.failover_writer.proofs.Segments.{not_theirs}
use Rattle.failover_writer.proofs.OwnSegments.{are_records, all_kept, not_both, OwnRow, own_row}

-- ---- the directories without the segments of one WAL

chosen : {A B X : Type 0} → A ⊎ B → X → X → X
chosen (inl a) x y = x
chosen (inr b) x y = y

chosen_left : {A B X : Type 0} (s : A ⊎ B) (x y : X) → A → (B → ⊥) → chosen s x y ≡ x
unfolding chosen
chosen_left (inl a) x y h not_right = refl
chosen_left (inr b) x y h not_right = absurd (not_right b)

chosen_right : {A B X : Type 0} (s : A ⊎ B) (x y : X) → (A → ⊥) → chosen s x y ≡ y
unfolding chosen
chosen_right (inl a) x y not_left = absurd (not_left a)
chosen_right (inr b) x y not_left = refl

-- a name that a segment of the WAL has
IsOwn : ℕ → SegName → Type 0
IsOwn wal name = (name.wal ≡ wal) × (name.index ≤ 999)

is_own_or_not : (wal : ℕ) (name : SegName) → IsOwn wal name ⊎ (IsOwn wal name → ⊥)
unfolding IsOwn
is_own_or_not wal name = elim (same_number name.wal wal) [
  | inl same ↦ elim (dec_le name.index 999) [ yes few ↦ inl (same, few) | no many ↦ inr (λ own. omega (arith, many, own.1)) ]
  | inr other ↦ inr (λ own. other own.0)
]

-- The place is none of a segment of the WAL.
IsNotOwn : ℕ → Place → Type 0
IsNotOwn wal (Segment side name) = IsOwn wal name → ⊥
IsNotOwn wal (Table upto) = Unit {0}

elsewhere_not_own : (wal : ℕ) (p : Place) → IsElsewhere wal p → IsNotOwn wal p
unfolding IsNotOwn IsOwn
elsewhere_not_own wal (Segment side name) other = λ own. other own.0
elsewhere_not_own wal (Table upto) other = tt

without : ℕ → Dirs → Dirs
without wal dirs (Segment side name) = chosen (is_own_or_not wal name) None (dirs (segment side name))
without wal dirs (Table upto) = dirs (table upto)

without_own : (wal : ℕ) (dirs : Dirs) (side : Side) (name : SegName) → IsOwn wal name → without wal dirs (segment side name) ≡ None
unfolding without
without_own wal dirs side name own = chosen_left (is_own_or_not wal name) None (dirs (segment side name)) own (λ other. other own)

without_other : (wal : ℕ) (dirs : Dirs) (p : Place) → IsNotOwn wal p → without wal dirs p ≡ dirs p
unfolding without IsNotOwn
without_other wal dirs (Segment side name) other = chosen_right (is_own_or_not wal name) None (dirs (segment side name)) other
without_other wal dirs (Table upto) e = refl

-- A place is one of the WAL's, or not.
own_or_not : (wal : ℕ) (p : Place) → ((side : Side) × (name : SegName) × (p ≡ segment side name) × IsOwn wal name) ⊎ IsNotOwn wal p
unfolding IsNotOwn
own_or_not wal (Segment side name) = elim (is_own_or_not wal name) [
  | inl own ↦ inl (side, name, refl, own)
  | inr other ↦ inr other
]
own_or_not wal (Table upto) = inr tt

-- ---- the other files

-- A place of another WAL is none of theirs.
apart_elsewhere : (wal index synced : ℕ) (ws : List Writer) (p : Place) → IsNotOwn wal p → index + length ws ≤ 1000
    → AreJoined wal index synced ws → AllByRecursion (λ (w : Writer). place_of_writer w ≢ p) ws
unfolding AreJoined IsNotOwn IsOwn
apart_elsewhere wal index synced [] p elsewhere few joined = tt
apart_elsewhere wal index synced (w ∷ ws) p elsewhere few joined = (
  λ e. subst (IsNotOwn wal) (sym e) elsewhere (
    ap (λ (name : SegName). name.wal) joined.0.name,
    omega (arith, few, ap (λ (name : SegName). name.index) joined.0.name),
  ),
  apart_elsewhere wal (suc index) (max synced w.synced) ws p elsewhere (omega (arith, few)) joined.2,
)

module _ (opening : Files) (state : State) (now : Files) (opened : IsOpenedOn opening state now) (named : state.wal ≤ 999999999999)
    (few : length state.segments ≤ 10) (joined : AreJoined state.wal 0 0 state.segments) (dirs : Dirs) (image : IsImage now dirs) where
  now_elsewhere : (p : Place) → IsNotOwn state.wal p → now p ≡ opening p
  now_elsewhere p elsewhere = opened.others p (not_theirs state.segments p
      (apart_elsewhere state.wal 0 0 state.segments p elsewhere (omega (arith, few)) joined))

  -- No other segment of the journal's WAL stands.
  none_beside : (side : Side) (n : ℕ) → 0 ≤ n → n ≤ 999 → (Contains (map place_of_writer state.segments) (place_in state.wal side n) → ⊥)
      → dirs (place_in state.wal side n) ≡ None
  none_beside side n low high not_there =
      let gone : now (place_in state.wal side n) ≡ None = opened.others (place_in state.wal side n) not_there
      ∙ opened.absent side (record { wal = state.wal; index = n }) (named, high) refl in
      image_of_none (place_in state.wal side n) (dirs (place_in state.wal side n))
      (subst (λ f. IsImageOf (place_in state.wal side n) f (dirs (place_in state.wal side n))) gone (image (place_in state.wal side n)))

  others_image : IsImage opening (without state.wal dirs)
  unfolding IsOwn
  others_image p = elim (own_or_not state.wal p) [
    | inl (side, name, is, own) ↦
        let file : opening p ≡ None = ap opening is ∙ opened.absent side name
        (let wal_is : name.wal ≡ state.wal = own.0 in omega (arith, named, wal_is), own.1) own.0 in
        let content : without state.wal dirs p ≡ None = ap (without state.wal dirs) is ∙ without_own state.wal dirs side name own in
        subst (λ f. IsImageOf p f (without state.wal dirs p)) (sym file) (subst (λ (o : Option (List ℕ)). IsImageOf p None o) (sym content) tt)
    | inr elsewhere ↦
        subst (λ f. IsImageOf p f (without state.wal dirs p)) (now_elsewhere p elsewhere)
        (subst (λ (o : Option (List ℕ)). IsImageOf p (now p) o) (sym (without_other state.wal dirs p elsewhere)) (image p))
  ]

  others_chance_free : IsChanceFree IsChunkOf now dirs → IsChanceFree IsChunkOf opening (without state.wal dirs)
  others_chance_free chance_free p f bytes at size file there chunk = elim (own_or_not state.wal p) [
    | inl (side, name, is, own) ↦ not_both (without state.wal dirs p) bytes (ap (without state.wal dirs) is ∙ without_own state.wal dirs side name own) there
    | inr elsewhere ↦ chance_free p f bytes at size (now_elsewhere p elsewhere ∙ file) (sym (without_other state.wal dirs p elsewhere) ∙ there) chunk
  ]

-- ---- the run

-- A stop leaves a prefix of the records, with all that are acked.
pub run_kept_now : (tells : Bool) (records : List Batch) (opening : Files) (state : State) (v : DiskView) → IsTrue tells
    → StandsFor tells records state v → IsOpenedOn opening state (files v)
    → KeepsRun state.wal state.base records (acked state) opening (files v)
run_kept_now tells records opening state v told stands opened dirs image chance_free = record {
  count = merged.0;
  has_acked = omega (arith, row.kept, merged.1);
  within = merged.2;
  merges = record {
    segments = row.segments;
    are = record { order = row.by; same = λ stored. (λ h. ((row.same stored).0 h).1, λ h. (row.same stored).1 (omega arith, h)) };
    merges = record { row = map (ranges.records_in records) row.held; holds = row.holds; merges = merged.3 };
  };
  others = without state.wal dirs;
  image = others_image opening state (files v) opened stands.named stands.few stands.joined dirs image;
  chance_free = others_chance_free opening state (files v) opened stands.named stands.few stands.joined dirs image chance_free;
  same = λ p elsewhere. sym (without_other state.wal dirs p (elsewhere_not_own state.wal p elsewhere));
}
  where
    row : OwnRow state.wal records dirs 0 0 state.segments
    row =
        own_row state.wal stands.named records (are_records state.base records stands.numbered stands.spelled) dirs 0 0 state.segments
        (omega (arith, stands.few)) stands.joined
        (all_kept tells records v dirs told image chance_free state.wal 0 0 state.segments stands.joined stands.fit)
        (none_beside opening state (files v) opened stands.named stands.few stands.joined dirs image)

    merged : (e : ℕ) × (ranges.greatest_synced 0 row.held ≤ e) × (e ≤ length records)
        × Merged state.base (map (ranges.records_in records) row.held) (take e records)
    merged = parts_merge state.base records stands.numbered row.held row.are

-- With fewer acked it is so too.
run_with_fewer : (wal first : ℕ) (records : List Batch) (few many : ℕ) (opening : Files) (dirs : Dirs) → few ≤ many
    → IsRunOver wal first records many opening dirs → IsRunOver wal first records few opening dirs
run_with_fewer wal first records few many opening dirs le run = record {
  count = run.count;
  has_acked = omega (arith, le, run.has_acked);
  within = run.within;
  merges = run.merges;
  others = run.others;
  image = run.image;
  chance_free = run.chance_free;
  same = run.same;
}

-- It is so at each moment of a call, with all that were acked before it.
pub run_kept : (tells : Bool) (records : List Batch) (opening : Files) (old : State) (now : Files) → IsTrue tells
    → HasNoSegment old.wal opening → StoodAt tells records opening old now → KeepsRun old.wal old.base records (acked old) opening now
run_kept tells records opening old now told absent stood dirs image chance_free =
    let here : KeepsRun stood.state.wal stood.state.base records (acked stood.state) opening (files stood.v) =
    run_kept_now tells records opening stood.state stood.v told stood.stands
    (record {
      absent = subst (λ (n : ℕ). HasNoSegment n opening) (sym stood.wal) absent;
      others = subst (OthersStay opening stood.state) stood.here stood.others;
    }) in
    let there : KeepsRun stood.state.wal stood.state.base records (acked stood.state) opening now = subst
    (KeepsRun stood.state.wal stood.state.base records (acked stood.state) opening) (sym stood.here) here in
    let run : IsRunOver stood.state.wal stood.state.base records (acked stood.state) opening dirs = there dirs image chance_free in
    run_with_fewer old.wal old.base records (acked old) (acked stood.state) opening dirs stood.acked
    (subst (λ (n : ℕ). IsRunOver old.wal n records (acked stood.state) opening dirs) stood.base
    (subst (λ (n : ℕ). IsRunOver n stood.state.base records (acked stood.state) opening dirs) stood.wal run))
